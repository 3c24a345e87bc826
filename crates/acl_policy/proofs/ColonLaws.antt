-- A text is cut at its first "::", and groups with ':' between them have none.
use Rattle.std.proofs.Common.{◌≡◌, ℕ, suc, ◌+◌, ◌<◌, ◌==◌, true, false, List, [], ◌∷◌, ◌++◌, length, take, drop, Option, Some, None, refl, sym, ap, ◌∙◌, subst, arith, lit≤, inl, inr}
use Rattle.std.specs.Prelude.{option_map, position}
use Rattle.std.specs.List.{zip}
use Rattle.std.proofs.lemmas.Bool.{and_left, and_parts, and_right, cases_Bool, eqb-true}
use Rattle.acl_policy.specs.Numerals.{ArePieces, IsGroup}
use Rattle.acl_policy.specs.inner.WordReading.Prefixes.{cut_double_in, is_double}
use Rattle.acl_policy.proofs.NumeralLaws.{Lacks}
use Rattle.acl_policy.proofs.OptionLemmas.{map_some, same_some}
use Rattle.acl_policy.proofs.PieceLaws.{Lacks-IsGroup}
use Rattle.acl_policy.proofs.PlaceLemmas.{position-here, position-past}

cut_double-nil : cut_double_in [] ≡ None
unfolding cut_double_in
cut_double-nil = refl

cut_double-one : (b : ℕ) → cut_double_in (b ∷ []) ≡ None
unfolding cut_double_in
cut_double-one b = refl

cut_double-here : (b c : ℕ) (rest : List ℕ) → is_double (b, c) ≡ true → cut_double_in (b ∷ c ∷ rest) ≡ Some ([], rest)
unfolding cut_double_in
cut_double-here b c rest double =
    ap (option_map {U = List ℕ × List ℕ} (λ i. (take i (b ∷ c ∷ rest), drop (i + 2) (b ∷ c ∷ rest)))) (position-here is_double (b, c) (zip (c ∷ rest) rest) double)

later_double : (b c : ℕ) (rest : List ℕ) (o : Option ℕ)
    → option_map {U = List ℕ × List ℕ} (λ i. (take i (b ∷ c ∷ rest), drop (i + 2) (b ∷ c ∷ rest))) (option_map suc o)
    ≡ option_map {U = List ℕ × List ℕ} (λ cut. (b ∷ cut.0, cut.1)) (option_map {U = List ℕ × List ℕ} (λ i. (take i (c ∷ rest), drop (i + 2) (c ∷ rest))) o)
later_double b c rest None = refl
later_double b c rest (Some i) =
    let e : suc i + 2 ≡ suc (i + 2) = omega arith in
    ap (λ (n : ℕ). Some (b ∷ take i (c ∷ rest), drop n (b ∷ c ∷ rest))) e

cut_double-past : (b c : ℕ) (rest : List ℕ) → is_double (b, c) ≡ false
    → cut_double_in (b ∷ c ∷ rest) ≡ option_map {U = List ℕ × List ℕ} (λ cut. (b ∷ cut.0, cut.1)) (cut_double_in (c ∷ rest))
unfolding cut_double_in
cut_double-past b c rest other =
    ap (option_map {U = List ℕ × List ℕ} (λ i. (take i (b ∷ c ∷ rest), drop (i + 2) (b ∷ c ∷ rest)))) (position-past is_double (b, c) (zip (c ∷ rest) rest) other)
    ∙ later_double b c rest (position is_double (zip (c ∷ rest) rest))

pub cut_double-sound : (word front back : List ℕ) → cut_double_in word ≡ Some (front, back) → word ≡ front ++ 58 ∷ 58 ∷ back
cut_double-sound [] front back found = let none = cut_double-nil in absurd (cc)
cut_double-sound (b ∷ []) front back found = let none = cut_double-one b in absurd (cc)
cut_double-sound (b ∷ c ∷ rest) front back found = elim (cases_Bool (is_double (b, c))) [
  | inl double ↦
      let both = and_parts (b == 58) (c == 58) double in
      let pair : ([], rest) ≡ (front, back) = same_some ([], rest) (front, back) (sym (cut_double-here b c rest double) ∙ found) in
      ap (λ (x : ℕ). x ∷ c ∷ rest) (eqb-true b 58 both.0) ∙ ap (λ (x : ℕ). 58 ∷ x ∷ rest) (eqb-true c 58 both.1)
      ∙ ap (λ (cut : List ℕ × List ℕ). cut.0 ++ 58 ∷ 58 ∷ cut.1) pair
  | inr other ↦
      let later = map_some {B = List ℕ × List ℕ} (λ cut. (b ∷ cut.0, cut.1)) (cut_double_in (c ∷ rest)) (front, back) (sym (cut_double-past b c rest other) ∙ found) in
      ap (λ (w : List ℕ). b ∷ w) (cut_double-sound (c ∷ rest) later.0.0 later.0.1 later.1)
      ∙ ap (λ (cut : List ℕ × List ℕ). cut.0 ++ 58 ∷ 58 ∷ cut.1) (sym later.2)
]

-- no two ':' in a row, and none at the end
abbrev pub IsSingle : List ℕ → Type 0
IsSingle [] = Unit {0}
IsSingle (b ∷ []) = (b == 58) ≡ false
IsSingle (b ∷ c ∷ rest) = (is_double (b, c) ≡ false) × IsSingle (c ∷ rest)

pub cut_double-complete : (front back : List ℕ) → IsSingle front → cut_double_in (front ++ 58 ∷ 58 ∷ back) ≡ Some (front, back)
cut_double-complete [] back single = cut_double-here 58 58 back refl
cut_double-complete (b ∷ []) back single =
    cut_double-past b 58 (58 ∷ back) (and_left (b == 58) (58 == 58) single)
    ∙ ap (option_map {U = List ℕ × List ℕ} (λ cut. (b ∷ cut.0, cut.1))) (cut_double-here 58 58 back refl)
cut_double-complete (b ∷ c ∷ rest) back single =
    cut_double-past b c (rest ++ 58 ∷ 58 ∷ back) single.0
    ∙ ap (option_map {U = List ℕ × List ℕ} (λ cut. (b ∷ cut.0, cut.1))) (cut_double-complete (c ∷ rest) back single.1)

pub cut_double-none : (word : List ℕ) → IsSingle word → cut_double_in word ≡ None
cut_double-none [] single = cut_double-nil
cut_double-none (b ∷ []) single = cut_double-one b
cut_double-none (b ∷ c ∷ rest) single =
    cut_double-past b c rest single.0 ∙ ap (option_map {U = List ℕ × List ℕ} (λ cut. (b ∷ cut.0, cut.1))) (cut_double-none (c ∷ rest) single.1)

-- a text that begins with a byte other than ':'
abbrev pub BeginsOtherwise : List ℕ → Type 0
BeginsOtherwise [] = ⊥
BeginsOtherwise (b ∷ bs) = (b == 58) ≡ false

IsSingle-Lacks : (word : List ℕ) → Lacks 58 word → IsSingle word
IsSingle-Lacks [] lacks = tt
IsSingle-Lacks (b ∷ []) lacks = lacks.0
IsSingle-Lacks (b ∷ c ∷ rest) lacks = (and_left (b == 58) (c == 58) lacks.0, IsSingle-Lacks (c ∷ rest) lacks.1)

IsSingle-colon : (rest : List ℕ) → BeginsOtherwise rest → IsSingle rest → IsSingle (58 ∷ rest)
IsSingle-colon [] begins single = absurd begins
IsSingle-colon (b ∷ bs) begins single = (and_right (58 == 58) (b == 58) begins, single)

IsSingle-append : (first rest : List ℕ) → 0 < length first → Lacks 58 first → BeginsOtherwise rest → IsSingle rest → IsSingle (first ++ 58 ∷ rest)
IsSingle-append [] rest some lacks begins single = absurd (omega arith)
IsSingle-append (b ∷ []) rest some lacks begins single = (and_left (b == 58) (58 == 58) lacks.0, IsSingle-colon rest begins single)
IsSingle-append (b ∷ c ∷ more) rest some lacks begins single =
    (and_left (b == 58) (c == 58) lacks.0, IsSingle-append (c ∷ more) rest (omega arith) lacks.1 begins single)

BeginsOtherwise-append : (first rest : List ℕ) → 0 < length first → Lacks 58 first → BeginsOtherwise (first ++ rest)
BeginsOtherwise-append [] rest some lacks = absurd (omega arith)
BeginsOtherwise-append (b ∷ bs) rest some lacks = lacks.0

BeginsOtherwise-Lacks : (word : List ℕ) → 0 < length word → Lacks 58 word → BeginsOtherwise word
BeginsOtherwise-Lacks [] some lacks = absurd (omega arith)
BeginsOtherwise-Lacks (b ∷ bs) some lacks = lacks.0

some_groups : (word : List ℕ) (group : ℕ) (groups : List ℕ) → ArePieces 58 IsGroup word (group ∷ groups) → IsSingle word × BeginsOtherwise word
some_groups word g [] are =
    let lacks = Lacks-IsGroup 58 word g (lit≤ tt) are in
    (IsSingle-Lacks word lacks, BeginsOtherwise-Lacks word are.0.0 lacks)
some_groups word g (h ∷ more) (first, rest, split, is, are) =
    let later = some_groups rest h more are in
    let lacks = Lacks-IsGroup 58 first g (lit≤ tt) is in (
      subst IsSingle (sym split) (IsSingle-append first rest is.0.0 lacks later.1 later.0),
      subst BeginsOtherwise (sym split) (BeginsOtherwise-append first (58 ∷ rest) is.0.0 lacks),
    )

-- Groups with ':' between them have no "::", and don't end with ':'.
pub IsSingle-groups : (word : List ℕ) (groups : List ℕ) → ArePieces 58 IsGroup word groups → IsSingle word
IsSingle-groups word [] are = subst IsSingle (sym are) tt
IsSingle-groups word (g ∷ gs) are = (some_groups word g gs are).0
