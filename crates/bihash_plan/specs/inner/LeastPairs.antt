-- The expired pair with the least key among the first places.
use Rattle.std.specs.Prelude.{◌≡◌, ◌≢◌, ◌<◌, ◌≤◌, ◌^◌, ℕ, Bool, true, false, List, Option, IfNone, IfSome, length, slice_index}
use Rattle.std.specs.Cmp.Lexicographic.{slice_cmp}
use Rattle.std.specs.Ordering.{nat_cmp}
use Rattle.std.specs.declared.cmp.Ordering.TheVariants.{Greater}
use Rattle.bihash_plan.specs.Blocks.{HasPairAt}
use Rattle.bihash_plan.specs.declared.least_expired_pair.Least.{Least}

-- it is at place i
pub record IsLeastTo {K : Type 0} (words_of : K → List ℕ) (is_expired : ℕ → Bool) (places : List (K × ℕ)) (to i : ℕ) : Type 0 where
  pub key : K
  pub value : ℕ
  pub pair : HasPairAt places key value i
  pub word : value < 2 ^ 64
  pub expired : is_expired value ≡ true
  pub least : (other : K) (v j : ℕ) → j < to → HasPairAt places other v j → is_expired v ≡ true
      → slice_cmp nat_cmp (words_of key) (words_of other) ≢ Greater

-- where it is, and None where there is none
pub record IsLeastAmong {K : Type 0} (words_of : K → List ℕ) (is_expired : ℕ → Bool) (places : List (K × ℕ)) (to : ℕ)
    (r : Option ℕ) : Type 0 where
  pub found : IfSome r (IsLeastTo words_of is_expired places to)
  pub none : IfNone r ((key : K) (value j : ℕ) → j < to → HasPairAt places key value j → is_expired value ≡ false)

-- the bound is the first word of the key there, which has one, and the greatest word where there is none
pub record IsBound {K : Type 0} (words_of : K → List ℕ) (places : List (K × ℕ)) (least : Least) : Type 0 where
  pub word : IfSome least.place (λ i. (key : K) (value : ℕ) → HasPairAt places key value i
      → (least.bound ≡ slice_index (words_of key) 0) × (1 ≤ length (words_of key)))
  pub none : IfNone least.place (least.bound ≡ 18446744073709551615)
