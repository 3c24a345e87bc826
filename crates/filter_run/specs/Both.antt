-- What two said of the same packets.
use Rattle.std.specs.Prelude.{◌≡◌, List, map}

abbrev pub firsts : {V U : Type 0} → List (V × U) → List V
firsts pairs = map (λ pair. pair.0) pairs

abbrev pub seconds : {V U : Type 0} → List (V × U) → List U
seconds pairs = map (λ pair. pair.1) pairs

pub record ArePaired {V U : Type 0} (ones : List V) (others : List U) (pairs : List (V × U)) : Type 0 where
  pub first : firsts pairs ≡ ones
  pub second : seconds pairs ≡ others
