-- The first bytes that a reader gave (this project's profile).
use Rattle.std.specs.Prelude.{ℕ, List, take}
use Rattle.racl_io.specs.declared.front_kept.FrontKept.{FrontKept}

-- as far as they are kept
abbrev pub front_of : {R : Type 0} → FrontKept R → List ℕ
front_of kept = take kept.count kept.front
