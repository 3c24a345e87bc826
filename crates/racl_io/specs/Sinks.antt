-- What writing a report did to a sink: to the bytes that it has, where they are known, and to its failures.
use Rattle.std.specs.Prelude.{◌≡◌, ◌+◌, ◌++◌, ℕ, List, Option, Result, IfErr, OnErr, OnOk, ⊤}
use Rattle.std.specs.Io.KnownBytes.{Appends}
use Rattle.racl_io.specs.declared.fault.Fault.{Fault}
use Rattle.racl_io.specs.declared.fault.Fault.TheVariants.{Write}

-- a sink got a front of this text
abbrev pub GotFront : Option (List ℕ) → Option (List ℕ) → List ℕ → Type 0
GotFront old new text = (front rest : List ℕ) × (text ≡ front ++ rest) × Appends old new front

-- a sink got this text, or it failed once more
abbrev pub HasPut : {W : Type 0} → (W → Option (List ℕ)) → (W → ℕ) → W → W → List ℕ → Result ⊤ Fault → Type 0
HasPut bytes failures old new text result =
    OnOk result (Appends (bytes old) (bytes new) text)
    × OnOk result (failures new ≡ failures old)
    × OnErr result (failures new ≡ failures old + 1)
    × IfErr result (λ e. e ≡ Write)

-- the same, and where it failed it got a front of the text
abbrev pub HasPutFront : {W : Type 0} → (W → Option (List ℕ)) → (W → ℕ) → W → W → List ℕ → Result ⊤ Fault → Type 0
HasPutFront bytes failures old new text result =
    OnOk result (Appends (bytes old) (bytes new) text)
    × OnOk result (failures new ≡ failures old)
    × OnErr result (failures new ≡ failures old + 1)
    × IfErr result (λ e. e ≡ Write)
    × OnErr result (GotFront (bytes old) (bytes new) text)
