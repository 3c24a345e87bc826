-- The key that goes for a new one is the least whose value counts as expired.
use Rattle.std.proofs.Common.{◌≡◌, ◌≢◌, ◌∙◌, ◌<◌, ◌≤◌, ◌==◌, ◌^◌, ℕ, zero, suc, Bool, true, false, true≢false, cond, ap, arith, sym, subst, refl, List, [], ◌∷◌, Some, None, ⊎_elim}
use Rattle.std.specs.Prelude.{T, ◌&&◌, ◌↔◌, if◌then◌else◌}
use Rattle.std.proofs.lemmas.Bool.{cases_lt, eqb-false, eqb-true}
use Rattle.std.specs.Cmp.{alike_right, tied_back, tied_itself}
use Rattle.std.specs.Cmp.Lexicographic.{nat_list_cmp_total, slice_cmp}
use Rattle.std.specs.FinMap.{entries, entries_sorted, find, get, get-entries, is_sorted, nat_cmp-IsAntisymmetric, slice_cmp-IsAntisymmetric}
use Rattle.std.specs.FinMap.Entries.{below_all}
use Rattle.std.specs.Ordering.{eq_by_cmp, is_eq, is_lt, nat_cmp, ordering_reverse}
use Rattle.std.specs.declared.cmp.Ordering.{Ordering}
use Rattle.std.specs.declared.cmp.Ordering.TheVariants.{Less, Equal, Greater}
use Rattle.bihash_words.specs.Expiries.{expired_words, first_expired, is_among, words_below}
use Rattle.bihash_words.specs.Maps.{IsSpare, Pairs, spare}

left_of : (a b : Bool) → T (a && b) → T a
left_of true b h = tt
left_of false b h = absurd h

right_of : (a b : Bool) → T (a && b) → T b
right_of true b h = h
right_of false b h = absurd h

less_of : (o : Ordering) → T (is_lt o) → o ≡ Less
less_of Less h = refl
less_of Equal h = absurd h
less_of Greater h = absurd h

equal_of : (o : Ordering) → is_eq o ≡ true → o ≡ Equal
equal_of Less h = absurd (true≢false (sym h))
equal_of Equal h = refl
equal_of Greater h = absurd (true≢false (sym h))

-- two keys neither of which is greater are equal
both_ways : (r s : Ordering) → r ≡ ordering_reverse s → r ≢ Greater → s ≢ Greater → r ≡ Equal
both_ways Less Less turned low high = absurd (let c : ⊥ = cc in c)
both_ways Less Equal turned low high = absurd (let c : ⊥ = cc in c)
both_ways Less Greater turned low high = absurd (high refl)
both_ways Equal s turned low high = refl
both_ways Greater s turned low high = absurd (low refl)

abbrev R : List ℕ → List ℕ → Ordering
R = slice_cmp nat_cmp

-- a key that is found among pairs above another key is above it
above : (x q : List ℕ) (v : ℕ) (es : List (List ℕ × ℕ)) → T (below_all R x es) → find R q es ≡ Some v → R x q ≡ Less
above x q v [] below is = absurd (let c : ⊥ = cc in c)
above x q v (e ∷ es) below is =
    elim (eq_by_cmp R q e.0) as (λ t. eq_by_cmp R q e.0 ≡ t → cond t (Some e.1) (find R q es) ≡ Some v → R x q ≡ Less) [
      | true ↦ λ t h. alike_right nat_list_cmp_total q e.0 x (equal_of (R q e.0) t)
          ∙ less_of (R x e.0) (left_of (is_lt (R x e.0)) (below_all R x es) below)
      | false ↦ λ t h. above x q v es (right_of (is_lt (R x e.0)) (below_all R x es) below) h
    ] refl is

-- the same of a list of pairs
record IsFirst (expired : List ℕ) (es : List (List ℕ × ℕ)) (gone : List ℕ) : Type 0 where
  pub value : ℕ
  pub stands : find R gone es ≡ Some value
  pub counts : is_among value expired ≡ true
  pub least : (key : List ℕ) (v : ℕ) → find R key es ≡ Some v → is_among v expired ≡ true → R gone key ≢ Greater

module _ (expired : List ℕ) (e : List ℕ × ℕ) (es : List (List ℕ × ℕ)) (below : T (below_all R e.0 es)) where
  here : is_among e.1 expired ≡ true → IsFirst expired (e ∷ es) e.0
  here counts = record {
    value = e.1;
    stands = ap (λ (r : Ordering). cond (is_eq r) (Some e.1) (find R e.0 es)) (tied_itself nat_list_cmp_total e.0);
    counts = counts;
    least = λ key v found counted. elim (eq_by_cmp R key e.0) as (λ t. eq_by_cmp R key e.0 ≡ t
        → cond t (Some e.1) (find R key es) ≡ Some v → R e.0 key ≢ Greater) [
          | true ↦ λ t h more. let same = sym (tied_back nat_list_cmp_total key e.0 (equal_of (R key e.0) t)) ∙ more in let c : ⊥ = cc in c
          | false ↦ λ t h more. let less = sym (above e.0 key v es below h) ∙ more in let c : ⊥ = cc in c
        ] refl found;
  }

  there : (gone : List ℕ) → is_among e.1 expired ≡ false → IsFirst expired es gone → IsFirst expired (e ∷ es) gone
  there gone not p = record {
    value = p.value;
    stands = ap (λ (t : Bool). cond t (Some e.1) (find R gone es))
        (ap is_eq (nat_list_cmp_total.antisymm gone e.0 ∙ ap ordering_reverse (above e.0 gone p.value es below p.stands))) ∙ p.stands;
    counts = p.counts;
    least = λ key v found counted. elim (eq_by_cmp R key e.0) as (λ t. cond t (Some e.1) (find R key es) ≡ Some v → R gone key ≢ Greater) [
      | true ↦ λ h more. let same : e.1 ≡ v = cc in true≢false (sym counted ∙ ap (λ n. is_among n expired) (sym same) ∙ not)
      | false ↦ λ h. p.least key v h counted
    ] found;
  }

first_is : (expired : List ℕ) (es : List (List ℕ × ℕ)) (gone : List ℕ) → T (is_sorted R es) → first_expired expired es ≡ Some gone
    → IsFirst expired es gone
first_is expired [] gone sorted is = absurd (let c : ⊥ = cc in c)
first_is expired (e ∷ es) gone sorted is =
    let below = left_of (below_all R e.0 es) (is_sorted R es) sorted in
    elim (is_among e.1 expired) as (λ t. is_among e.1 expired ≡ t
    → (if t then Some e.0 else first_expired expired es) ≡ Some gone → IsFirst expired (e ∷ es) gone) [
      | true ↦ λ t h. let same : e.0 ≡ gone = cc in subst (IsFirst expired (e ∷ es)) same (here expired e es below t)
      | false ↦ λ t h. there expired e es below gone t
          (first_is expired es gone (right_of (below_all R e.0 es) (is_sorted R es) sorted) h)
    ] refl is

none_first : (expired : List ℕ) (es : List (List ℕ × ℕ)) → first_expired expired es ≡ None → (key : List ℕ) (v : ℕ)
    → find R key es ≡ Some v → is_among v expired ≡ false
none_first expired [] none key v is = absurd (let c : ⊥ = cc in c)
none_first expired (e ∷ es) none key v is =
    elim (is_among e.1 expired) as (λ t. is_among e.1 expired ≡ t
    → (if t then Some e.0 else first_expired expired es) ≡ None → is_among v expired ≡ false) [
      | true ↦ λ t h. absurd (let c : ⊥ = cc in c)
      | false ↦ λ t h. elim (eq_by_cmp R key e.0) as (λ s. cond s (Some e.1) (find R key es) ≡ Some v → is_among v expired ≡ false) [
        | true ↦ λ found. let same : e.1 ≡ v = cc in ap (λ n. is_among n expired) (sym same) ∙ t
        | false ↦ λ found. none_first expired es h key v found
      ] is
    ] refl none

-- ---- The same of a map

pub spare_tells : (m : Pairs) (expired gone : List ℕ) → spare m expired ≡ Some gone → IsSpare m expired gone
spare_tells m [] gone is = absurd (let c : ⊥ = cc in c)
spare_tells m (word ∷ words) gone is =
    let p = first_is (word ∷ words) (entries m) gone (entries_sorted m) is in record {
      value = p.value;
      stands = get-entries m gone ∙ p.stands;
      counts = p.counts;
      least = λ key other found. p.least key other (sym (get-entries m key) ∙ found);
    }

none_tells : (m : Pairs) (expired : List ℕ) → spare m expired ≡ None → (key : List ℕ) (value : ℕ) → get m key ≡ Some value
    → is_among value expired ≡ false
none_tells m [] none key value found = refl
none_tells m (word ∷ words) none key value found =
    none_first (word ∷ words) (entries m) none key value (sym (get-entries m key) ∙ found)

pub spare_only : (m : Pairs) (expired gone : List ℕ) → IsSpare m expired gone → spare m expired ≡ Some gone
spare_only m expired gone p =
    elim (spare m expired) as (λ r. spare m expired ≡ r → r ≡ Some gone) [
      | None ↦ λ is. absurd (true≢false (sym p.counts ∙ none_tells m expired is gone p.value p.stands))
      | Some key ↦ λ is. let q = spare_tells m expired key is in
          ap Some (slice_cmp-IsAntisymmetric nat_cmp-IsAntisymmetric key gone
          (both_ways (R key gone) (R gone key) (nat_list_cmp_total.antisymm key gone)
          (q.least gone p.value p.stands p.counts) (p.least key q.value q.stands q.counts)))
    ] refl

pub none_spare : (m : Pairs) (expired : List ℕ)
    → ((key : List ℕ) (value : ℕ) → get m key ≡ Some value → is_among value expired ≡ false) ↔ (spare m expired ≡ None)
none_spare m expired = (
  λ none. elim (spare m expired) as (λ r. spare m expired ≡ r → r ≡ None) [
    | None ↦ λ is. refl
    | Some key ↦ λ is. let p = spare_tells m expired key is in absurd (true≢false (sym p.counts ∙ none key p.value p.stands))
  ] refl,
  none_tells m expired,
)

-- ---- The words of an expiry

not_yet : (test : ℕ → Bool) (n v : ℕ) → n ≤ v → is_among v (words_below test n) ≡ false
unfolding words_below
not_yet test zero v l = refl
not_yet test (suc n) v l =
    elim (test n) as (λ t. is_among v (if t then n ∷ words_below test n else words_below test n) ≡ false) [
      | true ↦ elim (n == v) as (λ s. (n == v) ≡ s → (if s then true else is_among v (words_below test n)) ≡ false) [
        | true ↦ λ s. absurd (let same = eqb-true n v s in omega arith)
        | false ↦ λ s. not_yet test n v (omega arith)
      ] refl
      | false ↦ not_yet test n v (omega arith)
    ]

below_tells : (test : ℕ → Bool) (n v : ℕ) → v < n → is_among v (words_below test n) ≡ test v
unfolding words_below
below_tells test zero v l = absurd (omega arith)
below_tells test (suc n) v l =
    elim (test n) as (λ t. test n ≡ t → is_among v (if t then n ∷ words_below test n else words_below test n) ≡ test v) [
      | true ↦ λ t. elim (n == v) as (λ s. (n == v) ≡ s → (if s then true else is_among v (words_below test n)) ≡ test v) [
        | true ↦ λ s. sym t ∙ ap test (eqb-true n v s)
        | false ↦ λ s. let differ = eqb-false n v s in below_tells test n v (omega arith)
      ] refl
      | false ↦ λ t. elim (n == v) as (λ s. (n == v) ≡ s → is_among v (words_below test n) ≡ test v) [
        | true ↦ λ s. let same = eqb-true n v s in not_yet test n v (omega arith) ∙ sym t ∙ ap test same
        | false ↦ λ s. let differ = eqb-false n v s in below_tells test n v (omega arith)
      ] refl
    ] refl

-- a word counts as expired exactly where the expiry says so
pub among_words : (test : ℕ → Bool) (v : ℕ) → v < 2 ^ 64 → is_among v (expired_words test) ≡ test v
unfolding expired_words
among_words test v l = below_tells test (2 ^ 64) v l

-- no other word does
pub not_counted : (test : ℕ → Bool) (v : ℕ) → test v ≡ false → is_among v (expired_words test) ≡ false
unfolding expired_words
not_counted test v never = ⊎_elim
    (λ (below : v < 2 ^ 64). below_tells test (2 ^ 64) v below ∙ never)
    (λ (above : 2 ^ 64 ≤ v). not_yet test (2 ^ 64) v above)
    (cases_lt v (2 ^ 64))

pub counted_told : (test : ℕ → Bool) (v : ℕ) → is_among v (expired_words test) ≡ true → test v ≡ true
counted_told test v counts = elim (test v) as (λ t. test v ≡ t → t ≡ true) [
  | true ↦ λ is. refl
  | false ↦ λ is. absurd (true≢false (sym counts ∙ not_counted test v is))
] refl

-- nothing counts by a test that always says no
none_below : (n : ℕ) → words_below (λ _. false) n ≡ []
unfolding words_below
none_below zero = refl
none_below (suc n) = none_below n

pub no_words : expired_words (λ _. false) ≡ []
unfolding expired_words
no_words = none_below (2 ^ 64)
