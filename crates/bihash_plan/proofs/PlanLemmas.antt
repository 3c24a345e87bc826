-- Lemmas on the plan of a key: which larger block it names, that it is the only one, and that a
-- new key is refused exactly where the bucket is full.
use Rattle.std.proofs.Common.{◌≡◌, ◌<◌, ◌≤◌, ◌+◌, ◌*◌, ◌^◌, ◌⊎◌, ◌↔◌, ℕ, Bool, true, false, List, [], ◌∷◌, length, get_or, arith, ap, subst, refl, sym, ◌∙◌, inl, inr, ⊎_elim}
use Rattle.std.proofs.lemmas.Bool.{cases_lt, cases_order}
use Rattle.std.proofs.lemmas.List.Sums.{count_by-le-length, length-filter}
use Rattle.std.proofs.lemmas.Nat.{pow_below, pow_pos}
use Rattle.std.proofs.Math.Pow.{pow_mono}
use Rattle.bihash_words.specs.declared.block_size.BlockSize.{BlockSize}
use Rattle.bihash_words.specs.Pages.{Paging, page_of}
use Rattle.bihash_plan.specs.declared.plan_answer.Plan.{Plan}
use Rattle.bihash_plan.specs.declared.plan_answer.Plan.TheVariants.{InPlace, Grow, Full}
use Rattle.bihash_plan.specs.Blocks.{IsCrowded, IsFirstFree, IsFree, IsLawfulBlock, IsNew, is_taken, pairs}
use Rattle.bihash_plan.specs.Searches.{IsOnlyPlan}
use Rattle.bihash_plan.specs.Plans.{CanBecomeLinear, HasRoom, IsExhausted, IsGrowth, IsLinearSize, IsPlan, IsSplit, NeedsLinear, keys_of}
use Rattle.bihash_plan.proofs.Counts.{count_by-all, count_by-missing}
use Rattle.bihash_plan.proofs.Pairs.{is_taken-free, is_taken-pair}
use Rattle.bihash_plan.proofs.Places.{block_sized, free_at, free_inside, free_value_at}

pub exhausted : {K : Type 0} (paging : Paging K) (log2 : ℕ) (linear : Bool) (places : List (K × ℕ))
    (key : K)
    → 0 < length places → paging.max_log2 ≤ log2
    → (CanBecomeLinear paging log2 linear places → ⊥) → IsExhausted paging log2 linear places key
exhausted paging log2 linear [] key some greatest cannot = absurd (omega arith)
exhausted paging log2 linear (place ∷ places) key some greatest cannot = (omega arith, cannot)

-- there is one first free place
first_free_only : {K : Type 0} (linear : Bool) (page : ℕ) (places : List (K × ℕ)) (i j : ℕ)
    → IsFirstFree linear page places i → IsFirstFree linear page places j → i ≡ j
first_free_only linear page places i j a b = ⊎_elim
    (λ (same : i ≡ j). same)
    (λ (apart : (i < j) ⊎ (j < i)). ⊎_elim
    (λ (less : i < j). absurd (b.first i less a.reached a.vacant))
    (λ (more : j < i). absurd (a.first j more b.reached b.vacant))
    apart)
    (cases_order i j)

-- there is one size of each kind
split_only : {K : Type 0} (paging : Paging K) (log2 : ℕ) (keys : List K) (size other : ℕ)
    → IsSplit paging log2 keys size → IsSplit paging log2 keys other → size ≡ other
split_only paging log2 keys size other (room, inl e) (other_room, inl f) = e ∙ sym f
split_only paging log2 keys size other (room, inl e) (
  other_room,
  inr f,
) = absurd (f.1 (subst (HasRoom paging keys) e room))
split_only paging log2 keys size other (room, inr e) (
  other_room,
  inl f,
) = absurd (e.1 (subst (HasRoom paging keys) f other_room))
split_only paging log2 keys size other (room, inr e) (other_room, inr f) = e.0 ∙ sym f.0

split_not_linear : {K : Type 0} (paging : Paging K) (log2 : ℕ) (keys : List K) (size : ℕ)
    → IsSplit paging log2 keys size → NeedsLinear paging log2 keys → ⊥
split_not_linear paging log2 keys size (room, inl e) needs = needs.0 (subst (HasRoom paging keys) e room)
split_not_linear paging log2 keys size (room, inr e) needs = needs.1 (subst (HasRoom paging keys) e.0 room)

linear_size_only : {K : Type 0} (paging : Paging K) (log2 : ℕ) (linear : Bool) (places : List (K × ℕ))
    (size other : ℕ)
    → IsLinearSize paging log2 linear places size → IsLinearSize paging log2 linear places other
    → size ≡ other
linear_size_only paging log2 linear places size other (inl e) (inl f) = e.0 ∙ sym f.0
linear_size_only paging log2 linear places size other (inl e) (inr f) = absurd (omega (arith, e.0, e.1, f.1.0))
linear_size_only paging log2 linear places size other (inr e) (inl f) = absurd (omega (arith, f.0, f.1, e.1.0))
linear_size_only paging log2 linear places size other (inr e) (inr f) = e.0 ∙ sym f.0

-- a block of this size
abbrev size_of : ℕ → Bool → BlockSize
size_of log2 linear = record { log2 = log2; linear = linear }

-- there is one larger block
growth_only : {K : Type 0} (paging : Paging K) (log2 : ℕ) (linear : Bool) (places : List (K × ℕ)) (key : K)
    (size other : ℕ) (mark other_mark : Bool)
    → IsGrowth paging log2 linear places key size mark
    → IsGrowth paging log2 linear places key other other_mark → size_of size mark ≡ size_of other other_mark
growth_only paging log2 linear [] key size other mark other_mark a b = let e : size ≡ other = a.0
    ∙ sym b.0 in let f : mark ≡ other_mark = a.1 ∙ sym b.1 in cc
growth_only paging log2 linear (place ∷ places) key size other false false a b = ap (λ n. size_of n false)
    (split_only paging log2 (key ∷ keys_of (place ∷ places)) size other a b)
growth_only paging log2 linear (place ∷ places) key size other false true a b = absurd
    (split_not_linear paging log2 (key ∷ keys_of (place ∷ places)) size a b.0)
growth_only paging log2 linear (place ∷ places) key size other true false a b = absurd
    (split_not_linear paging log2 (key ∷ keys_of (place ∷ places)) other b a.0)
growth_only paging log2 linear (place ∷ places) key size other true true a b = ap (λ n. size_of n true)
    (linear_size_only paging log2 linear (place ∷ places) size other a.1 b.1)

-- where there is a larger block, the pairs are not too many for any
grows_or_not : {K : Type 0} (paging : Paging K) (log2 : ℕ) (linear : Bool) (places : List (K × ℕ)) (key : K)
    (size : ℕ) (mark : Bool)
    → IsGrowth paging log2 linear places key size mark → IsExhausted paging log2 linear places key → ⊥
grows_or_not paging log2 linear [] key size mark a b = b
grows_or_not paging log2 linear (place ∷ places) key size false (room, inl e) b = omega (arith, room.0, e, b.0)
grows_or_not paging log2 linear (place ∷ places) key size false (room, inr e) b = omega (arith, room.0, e.0, b.0)
grows_or_not paging log2 linear (place ∷ places) key size true (needs, inl e) b = omega (arith, e.0, e.1, b.0)
grows_or_not paging log2 linear (place ∷ places) key size true (needs, inr e) b = b.1 e.1

-- a key has one plan
plan_only : {K : Type 0} (paging : Paging K) (log2 : ℕ) (linear : Bool) (places : List (K × ℕ))
    (key : K) (a b : Plan)
    → IsLawfulBlock paging log2 linear places → IsPlan paging log2 linear places key a
    → IsPlan paging log2 linear places key b → a ≡ b
plan_only paging log2 linear places key (InPlace i) (InPlace j) lawful (inl p) (inl q) = ap InPlace
    (lawful.rule.once key p.value q.value i j p.pair q.pair)
plan_only paging log2 linear places key (InPlace i) (InPlace j) lawful (inl p) (inr q) = absurd (q.0 i p)
plan_only paging log2 linear places key (InPlace i) (InPlace j) lawful (inr p) (inl q) = absurd (p.0 j q)
plan_only paging log2 linear places key (InPlace i) (InPlace j) lawful (inr p) (inr q) = ap InPlace
    (first_free_only linear (page_of paging log2 key) places i j p.1 q.1)
plan_only paging log2 linear places key (InPlace i) (Grow size) lawful (inl p) q = absurd (q.0 i p)
plan_only paging log2 linear places key (InPlace i) (Grow size) lawful (inr p) q = absurd
    (q.1 i p.1.reached p.1.vacant)
plan_only paging log2 linear places key (InPlace i) Full lawful (inl p) q = absurd (q.0 i p)
plan_only paging log2 linear places key (InPlace i) Full lawful (inr p) q = absurd
    (q.1 i p.1.reached p.1.vacant)
plan_only paging log2 linear places key (Grow size) (InPlace i) lawful p (inl q) = absurd (p.0 i q)
plan_only paging log2 linear places key (Grow size) (InPlace i) lawful p (inr q) = absurd
    (p.1 i q.1.reached q.1.vacant)
plan_only paging log2 linear places key (Grow size) (Grow other) lawful p q = ap Grow
    (growth_only paging log2 linear places key size.log2 other.log2 size.linear other.linear p.2 q.2)
plan_only paging log2 linear places key (Grow size) Full lawful p q = absurd
    (grows_or_not paging log2 linear places key size.log2 size.linear p.2 q.2)
plan_only paging log2 linear places key Full (InPlace i) lawful p (inl q) = absurd (p.0 i q)
plan_only paging log2 linear places key Full (InPlace i) lawful p (inr q) = absurd
    (p.1 i q.1.reached q.1.vacant)
plan_only paging log2 linear places key Full (Grow size) lawful p q = absurd
    (grows_or_not paging log2 linear places key size.log2 size.linear q.2 p.2)
plan_only paging log2 linear places key Full Full lawful p q = refl

-- without a free place each place holds a pair
pub all_taken : {K : Type 0} (places : List (K × ℕ)) (d : K × ℕ)
    → ((i : ℕ) → IsFree places i → ⊥) → length (pairs places) ≡ length places
all_taken places d none =
    length-filter is_taken places
    ∙ count_by-all is_taken places d
    (λ i inside. is_taken-pair (get_or places i d) (λ e. none i (free_at places i d inside e)))

-- with one there are fewer pairs than places
pub one_free : {K : Type 0} (places : List (K × ℕ)) (i : ℕ)
    → IsFree places i → length (pairs places) < length places
one_free {K} places i vacant =
    let d : K × ℕ = (vacant.key, 0) in
    omega (
      arith,
      length-filter is_taken places,
      count_by-missing is_taken places d i (free_inside vacant)
          (is_taken-free (get_or places i d) (free_value_at d vacant)),
    )

-- no place of a block of the greatest size is free where no block can take one more pair
none_free : {K : Type 0} (paging : Paging K) (log2 : ℕ) (linear : Bool) (page : ℕ) (places : List (K × ℕ))
    → paging.max_log2 < log2 + 1 → IsCrowded linear page places
    → (CanBecomeLinear paging log2 linear places → ⊥) → (i : ℕ) → IsFree places i → ⊥
none_free paging log2 true page places greatest crowded cannot i vacant = crowded i tt vacant
none_free paging log2 false page places greatest crowded cannot i vacant = cannot (greatest, refl, (i, vacant))

pub exhausted_count : {K : Type 0} (paging : Paging K) (log2 : ℕ) (linear : Bool) (places : List (K × ℕ))
    (key : K)
    → IsLawfulBlock paging log2 linear places → IsCrowded linear (page_of paging log2 key) places
    → IsExhausted paging log2 linear places key → length (pairs places) ≡ 4 * 2 ^ paging.max_log2
exhausted_count paging log2 linear [] key lawful crowded none = absurd none
exhausted_count paging log2 linear (place ∷ places) key lawful crowded none =
    let same : log2 ≡ paging.max_log2 = omega (arith, none.0, lawful.rule.small) in
    all_taken (place ∷ places) place
    (none_free paging log2 linear (page_of paging log2 key) (place ∷ places) none.0 crowded none.1)
    ∙ block_sized (place ∷ places) log2 (omega arith) lawful.sized
    ∙ ap (λ n. 4 * 2 ^ n) same

-- a bucket that holds as many pairs as the largest block
record IsFilled {K : Type 0} (paging : Paging K) (log2 : ℕ) (places : List (K × ℕ)) : Type 0 where
  some : 0 < length places
  greatest : paging.max_log2 ≤ log2
  taken : (i : ℕ) → IsFree places i → ⊥

filled : {K : Type 0} (paging : Paging K) (log2 : ℕ) (linear : Bool) (places : List (K × ℕ))
    → IsLawfulBlock paging log2 linear places → length (pairs places) ≡ 4 * 2 ^ paging.max_log2
    → IsFilled paging log2 places
filled paging log2 linear places lawful count =
    let small : 2 ^ log2 ≤ 2 ^ paging.max_log2 = pow_mono lawful.rule.small in
    let positive = pow_pos paging.max_log2 in
    let fewer : length (pairs places) ≤ length places = omega (
      arith,
      length-filter is_taken places,
      count_by-le-length is_taken places,
    ) in
    let sized : length places ≤ 4 * 2 ^ log2 = ⊎_elim (λ (empty : length places ≡ 0). omega arith)
    (λ (whole : length places ≡ 4 * 2 ^ log2). omega arith) lawful.sized in
    record {
      some = omega arith;
      greatest = ⊎_elim (λ (below : log2 < paging.max_log2). absurd (omega (
        arith,
        pow_below log2 paging.max_log2 below,
      ))) (λ (above : paging.max_log2 ≤ log2). above)
          (cases_lt log2 paging.max_log2);
      taken = λ i vacant. omega (arith, one_free places i vacant);
    }

filled_not_grown : {K : Type 0} (paging : Paging K) (log2 : ℕ) (linear : Bool) (places : List (K × ℕ))
    (key : K) (size : ℕ) (mark : Bool)
    → IsFilled paging log2 places → IsGrowth paging log2 linear places key size mark → ⊥
filled_not_grown paging log2 linear [] key size mark full growth = omega (arith, full.some)
filled_not_grown paging log2 linear (place ∷ places) key size false full (room, inl e) = omega (
  arith,
  room.0,
  e,
  full.greatest,
)
filled_not_grown paging log2 linear (place ∷ places) key size false full (room, inr e) = omega (
  arith,
  room.0,
  e.0,
  full.greatest,
)
filled_not_grown paging log2 linear (place ∷ places) key size true full (needs, inl e) = omega (
  arith,
  e.0,
  e.1,
  full.greatest,
)
filled_not_grown paging log2 linear (place ∷ places) key size true full (
  needs,
  inr e,
) = full.taken e.1.2.0 e.1.2.1

filled_plan : {K : Type 0} (paging : Paging K) (log2 : ℕ) (linear : Bool) (places : List (K × ℕ)) (key : K)
    (plan : Plan)
    → IsFilled paging log2 places → IsNew places key → IsPlan paging log2 linear places key plan
    → plan ≡ Full
filled_plan paging log2 linear places key (InPlace i) full new (inl p) = absurd (new i p)
filled_plan paging log2 linear places key (InPlace i) full new (inr p) = absurd (full.taken i p.1.vacant)
filled_plan paging log2 linear places key (Grow size) full new p = absurd
    (filled_not_grown paging log2 linear places key size.log2 size.linear full p.2)
filled_plan paging log2 linear places key Full full new p = refl

-- a new key is refused exactly where the bucket holds as many pairs as the largest block
full_exactly : {K : Type 0} (paging : Paging K) (log2 : ℕ) (linear : Bool) (places : List (K × ℕ))
    (key : K) (plan : Plan)
    → IsLawfulBlock paging log2 linear places → IsPlan paging log2 linear places key plan → IsNew places key
    → (plan ≡ Full) ↔ (length (pairs places) ≡ 4 * 2 ^ paging.max_log2)
full_exactly paging log2 linear places key plan lawful is new = (
  λ e. let p = subst
      (IsPlan paging log2 linear places key) e is in exhausted_count paging log2 linear places key lawful p.1 p.2,
  λ count. filled_plan paging log2 linear places key plan
      (filled paging log2 linear places lawful count) new is,
)

-- a plan of a lawful block is the only one, and refuses where it is to
pub only_plan : {K : Type 0} (paging : Paging K) (log2 : ℕ) (linear : Bool) (places : List (K × ℕ))
    (key : K) (plan : Plan)
    → IsLawfulBlock paging log2 linear places → IsPlan paging log2 linear places key plan
    → IsOnlyPlan paging log2 linear places key plan
only_plan paging log2 linear places key plan lawful is = record {
  exact = is;
  only = λ other other_is. plan_only paging log2 linear places key other plan lawful other_is is;
  full = full_exactly paging log2 linear places key plan lawful is;
}
