-- What a list got.
use Rattle.std.specs.Prelude.{◌≡◌, List, ◌++◌, All}

-- the new list is the old one and more, of which this holds
abbrev pub Adds : {A : Type 0} → (A → Type 0) → List A → List A → Type 0
Adds {A = A} P old new = (more : List A) × (new ≡ old ++ more) × All P more
