-- Parts of several captures that come, each capture of another interface (this project's profile).
use Rattle.std.specs.Prelude.{◌≡◌, ◌≢◌, ◌+◌, ◌<◌, ◌≤◌, ◌⊎◌, ◌++◌, ℕ, List, [], ◌∷◌, Option, None, Some, length, map, nat_eq, ⊤}
use Rattle.std.specs.List.{All, filter}
use Rattle.racl_io.specs.declared.fault.Fault.TheVariants.{Memory, Read}
use Rattle.capture_stream.specs.declared.arrivals.Arrival.{Arrival}
use Rattle.capture_stream.specs.declared.arrivals.FaultAt.{FaultAt}

-- some bytes of the capture of this interface, or none at its end
pub record Part : Type 0 where
  pub interface : ℕ
  pub bytes : List ℕ

abbrev pub part_in : Arrival → Part
part_in arrival = record { interface = arrival.interface; bytes = arrival.bytes.items }

-- where the parts that are to come are known, they begin with these, and lose them
abbrev pub Gives : Option (List Part) → Option (List Part) → List Part → Type 0
Gives None after parts = ⊤
Gives (Some all) None parts = ⊥
Gives (Some all) (Some left) parts = all ≡ parts ++ left

-- no part is to come that is known
abbrev pub AreAllGiven : Option (List Part) → Type 0
AreAllGiven None = ⊤
AreAllGiven (Some left) = left ≡ []

-- what the parts of the capture of this interface have
abbrev pub own_parts : ℕ → List Part → List (List ℕ)
own_parts interface parts = map (λ part. part.bytes) (filter (λ part. nat_eq part.interface interface) parts)

-- nothing of this capture is among the parts, or some bytes, its end behind them, and nothing behind that
abbrev pub IsWhole : ℕ → List Part → Type 0
IsWhole interface parts =
    (own_parts interface parts ≡ []) ⊎ ((first : List (List ℕ)) × All (λ bytes. bytes ≢ []) first × (own_parts interface parts ≡ first ++ [] ∷ []))

-- so of each capture, where the parts that are to come are known
abbrev pub AreWhole : Option (List Part) → Type 0
AreWhole None = ⊤
AreWhole (Some parts) = (interface : ℕ) → IsWhole interface parts

-- no capture goes on, where it is known how many do
abbrev pub HaveAllEnded : Option ℕ → Type 0
HaveAllEnded None = ⊤
HaveAllEnded (Some left) = left ≡ 0

-- a part without bytes is an end
abbrev pub ends_by : List ℕ → ℕ
ends_by [] = 1
ends_by (byte ∷ bytes) = 0

-- where it is known how many captures go on, one less does behind an end, and behind the last part none does
abbrev pub HaveEnded : Option ℕ → Option ℕ → Option Arrival → Type 0
HaveEnded before after None = HaveAllEnded before × (after ≡ before)
HaveEnded None after (Some arrival) = ⊤
HaveEnded (Some left) after (Some arrival) = (others : ℕ) × (after ≡ Some others) × (left ≡ others + ends_by arrival.bytes.items)

-- the next part came, or none was left
abbrev pub HasGiven : Option (List Part) → Option (List Part) → Option Arrival → Type 0
HasGiven before after None = Gives before after [] × AreAllGiven after
HasGiven before after (Some arrival) = Gives before after (part_in arrival ∷ []) × (length arrival.bytes.items ≤ 65536)

-- an interface is named
abbrev pub IsNamed : Option ℕ → Type 0
IsNamed interface = (i : ℕ) × (interface ≡ Some i) × (i < 256)

-- memory ran out, or the capture of the interface that is named couldn't be read, and no part was lost
abbrev pub IsNotGiven : Option (List Part) → Option (List Part) → FaultAt → Type 0
IsNotGiven before after found =
    Gives before after [] × (((found.fault ≡ Memory) × (found.interface ≡ None)) ⊎ ((found.fault ≡ Read) × IsNamed found.interface))
