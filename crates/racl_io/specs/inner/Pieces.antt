-- A piece of text that is filled, and written where it is full.
use Rattle.std.specs.Prelude.{◌≡◌, ◌+◌, ◌++◌, ℕ, List, Option, Result, IfErr, OnErr, OnOk, ⊤}
use Rattle.std.specs.Io.KnownBytes.{Appends}
use Rattle.racl_io.specs.declared.fault.Fault.{Fault}
use Rattle.racl_io.specs.declared.fault.Fault.TheVariants.{Write}
use Rattle.racl_io.specs.Sinks.{GotFront}

-- A sink and a piece got this text: what the piece had and the text were written, up to what it has now. Or the sink failed
-- once more, and got a front of what the piece had.
abbrev pub HasPushed : {W : Type 0} → (W → Option (List ℕ)) → (W → ℕ) → W → W → List ℕ → List ℕ → List ℕ → Result ⊤ Fault → Type 0
HasPushed bytes failures old new before after text result =
    OnOk result ((written : List ℕ) × Appends (bytes old) (bytes new) written × (before ++ text ≡ written ++ after))
    × OnOk result (failures new ≡ failures old)
    × OnErr result (failures new ≡ failures old + 1)
    × IfErr result (λ e. e ≡ Write)
    × OnErr result (GotFront (bytes old) (bytes new) before)
