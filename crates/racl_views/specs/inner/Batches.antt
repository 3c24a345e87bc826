-- Bytes that wait to be written to a sink.
use Rattle.std.specs.Prelude.{◌≡◌, ◌+◌, ℕ, Bool, true, false, List, [], ◌++◌, Option, Result, IfErr, OnErr, OnOk, ⊤}
use Rattle.std.specs.Io.KnownBytes.{Appends}
use Rattle.racl_io.specs.declared.fault.Fault.{Fault}
use Rattle.racl_io.specs.declared.fault.Fault.TheVariants.{Write}

-- What the sink got and what waits then is what waited and these bytes; or the sink failed once more.
pub record HasPassed {W : Type 0} (bytes : W → Option (List ℕ)) (failures : W → ℕ) (old new : W) (waited waits more : List ℕ) (result : Result ⊤ Fault) : Type 0 where
  pub whole : OnOk result ((gone : List ℕ) × Appends (bytes old) (bytes new) gone × (gone ++ waits ≡ waited ++ more))
  pub steady : OnOk result (failures new ≡ failures old)
  pub failed : OnErr result (failures new ≡ failures old + 1)
  pub fault : IfErr result (λ e. e ≡ Write)

-- bytes, where they are kept
abbrev pub bytes_where : Bool → List ℕ → List ℕ
bytes_where true bytes = bytes
bytes_where false bytes = []
