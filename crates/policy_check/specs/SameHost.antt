-- Captures in whose first frames the host of a `mac` line sends from another address too (this project's profile).
use Rattle.std.specs.Prelude.{◌≡◌, ◌<◌, ◌+◌, ◌⊎◌, ℕ, List, [], ◌∷◌, Any, Option, None, Some, drop, take}
use Rattle.packet_view.specs.Captures.{AreRecords, HasFileHeader, PacketFacts, RecordFacts, packets_at}
use Rattle.packet_view.specs.Frames.{Ip, IsFrame}
use Rattle.packet_view.specs.Fronts.{Stops}
use Rattle.packet_view.specs.Interfaces.{Interface}
use Rattle.packet_view.specs.Tuples.{TupleFacts}
use Rattle.packet_view.specs.declared.capture.Order.{Order}
use Rattle.packet_view.specs.declared.records_at_front.Stop.{Stop}
use Rattle.packet_view.specs.declared.tuple.Direction.{Direction}
use Rattle.packet_view.specs.declared.tuple.Direction.TheVariants.{Inbound, Outbound}
use Rattle.packet_view.specs.declared.tuple.Family.{Family}
use Rattle.packet_view.specs.declared.tuple.Mac.{Mac}
use Rattle.acl_policy.specs.Policies.{SectionFacts}

-- the packet goes this way, and this is its five-tuple
unfoldable pub IsGoing : Interface → Direction → PacketFacts → TupleFacts → Type 0
IsGoing at direction packet tuple = IsFrame packet.frame at (Ip direction tuple)

-- the packet goes out, and this is its source
abbrev pub GoesOutFrom : Interface → Family → ℕ → PacketFacts → Type 0
GoesOutFrom at family source packet =
    (tuple : TupleFacts) × IsGoing at Outbound packet tuple × (tuple.family ≡ family) × (tuple.source ≡ source)

-- the frame is to the own address of its interface
abbrev pub IsToOwn : Option Mac → List ℕ → Type 0
IsToOwn None frame = ⊥
IsToOwn (Some own) frame = take 6 frame ≡ own.0

-- The packet comes in, and not to the own address, as those do that a router is to forward, though some of these that go out have
-- its source: a host's own, which isn't the unspecified one.
abbrev pub ComesInFromHost : Interface → List PacketFacts → PacketFacts → Type 0
ComesInFromHost at packets packet = (IsToOwn at.own packet.frame → ⊥)
    × ((tuple : TupleFacts) × IsGoing at Inbound packet tuple × (0 < tuple.source) × Any (GoesOutFrom at tuple.family tuple.source) packets)

-- of so many of these it is so
abbrev pub IsOfSoMany : {X : Type 0} → (X → Type 0) → List X → ℕ → Type 0
IsOfSoMany P [] count = count ≡ 0
IsOfSoMany P (x ∷ xs) count = (P x × ((others : ℕ) × (count ≡ others + 1) × IsOfSoMany P xs others)) ⊎ ((P x → ⊥) × IsOfSoMany P xs count)

-- where the interface of a section is
abbrev pub seen_at : SectionFacts → Interface
seen_at section = record { number = section.interface; own = section.own }

-- The interface of the section, of this number, has a capture that begins so, and of the packets of all records that stand
-- whole in these bytes so many come in from the host.
pub record IsHostOf (section : SectionFacts) (front : List ℕ) (number count : ℕ) : Type 0 where
  pub same : number ≡ section.interface
  pub some : 0 < count
  pub order : Order
  pub header : HasFileHeader order front
  pub records : List RecordFacts
  pub rest : List ℕ
  pub are : AreRecords order (drop 24 front) records rest
  pub stop : Stop
  pub ends : Stops order rest stop
  pub come : IsOfSoMany (ComesInFromHost (seen_at section) (packets_at number records)) (packets_at number records) count
