-- Pieces of the packets that are looked for.
use Rattle.std.specs.Prelude.{◌≡◌, ◌≤◌, ◌<◌, ◌⊎◌, ℕ, Bool, List, [], ◌∷◌, ◌++◌, All, length, slice_get, Some}
use Rattle.packet_view.specs.Tuples.{TupleFacts}
use Rattle.acl_policy.specs.Matching.{Matches}
use Rattle.acl_policy.specs.Rules.{RuleFacts}
use Rattle.rule_cover.specs.Covers.{IsMarked, IsPacket, IsTaken}
use Rattle.rule_cover.specs.declared.packet_set.Meeting.{Meeting}
use Rattle.rule_cover.specs.declared.packet_set.Parting.{Parting}
use Rattle.rule_cover.specs.declared.packet_set.Parting.TheVariants.{Apart, Whole, Cut}
use Rattle.rule_cover.specs.declared.packet_set.PacketSet.{PacketSet}
use Rattle.rule_cover.specs.declared.region.Region.{Region}
use Rattle.rule_cover.specs.declared.region.Shown.{Shown}
use Rattle.rule_cover.specs.inner.Regions.{IsInRegion, shown_of}

-- The rule matches each packet of the region, or none.
abbrev pub TakesRegion : Region → RuleFacts → Type 0
TakesRegion region rule = (tuple : TupleFacts) → IsPacket tuple → IsInRegion region tuple → Matches rule tuple

abbrev pub IsBesideRegion : Region → RuleFacts → Type 0
IsBesideRegion region rule = (tuple : TupleFacts) → IsPacket tuple → IsInRegion region tuple → Matches rule tuple → ⊥

-- No rule from a place up to another matches a packet of the region.
abbrev pub AreBeside : List RuleFacts → Region → ℕ → ℕ → Type 0
AreBeside rules region low high =
    (k : ℕ) (rule : RuleFacts) → low ≤ k → k < high → slice_get rules k ≡ Some rule → IsBesideRegion region rule

-- A region is cut in two, and the rule matches no packet of one part.
pub record IsCutBy (region : Region) (rule : RuleFacts) (outside inside : Region) : Type 0 where
  pub splits : (tuple : TupleFacts) → IsInRegion region tuple → IsInRegion outside tuple ⊎ IsInRegion inside tuple
  pub out : (tuple : TupleFacts) → IsInRegion outside tuple → IsInRegion region tuple
  pub rest : (tuple : TupleFacts) → IsInRegion inside tuple → IsInRegion region tuple
  pub apart : IsBesideRegion outside rule

abbrev pub IsParting : Region → RuleFacts → Parting → Type 0
IsParting region rule Apart = IsBesideRegion region rule
IsParting region rule Whole = TakesRegion region rule
IsParting region rule (Cut outside inside) = IsCutBy region rule outside inside

-- What the rule at a place does; none does anything where the place is how many there are.
abbrev pub IsPartingAt : List RuleFacts → Region → ℕ → Parting → Type 0
IsPartingAt rules region place Apart = place ≡ length rules
IsPartingAt rules region place Whole = (rule : RuleFacts) × (slice_get rules place ≡ Some rule) × TakesRegion region rule
IsPartingAt rules region place (Cut outside inside) =
    (rule : RuleFacts) × (slice_get rules place ≡ Some rule) × IsCutBy region rule outside inside

pub record IsMeeting (rules : List RuleFacts) (piece : PacketSet) (met : Meeting) : Type 0 where
  pub low : piece.place ≤ met.place
  pub high : met.place ≤ length rules
  pub beside : AreBeside rules piece.region piece.place met.place
  pub parts : IsPartingAt rules piece.region met.place met.parting

-- Packets of both rules, of which no rule before the piece's place matches one.
pub record IsPiece (a b : RuleFacts) (rules : List RuleFacts) (piece : PacketSet) : Type 0 where
  pub within : piece.place ≤ length rules
  pub one : TakesRegion piece.region a
  pub two : TakesRegion piece.region b
  pub beside : AreBeside rules piece.region 0 piece.place

-- A piece that no rule was tried on.
pub record IsWhole (a b : RuleFacts) (piece : PacketSet) : Type 0 where
  pub start : piece.place ≡ 0
  pub one : TakesRegion piece.region a
  pub two : TakesRegion piece.region b

-- A packet is in one of the pieces.
abbrev pub IsInSome : List PacketSet → TupleFacts → Type 0
IsInSome [] tuple = ⊥
IsInSome (piece ∷ pieces) tuple = IsInRegion piece.region tuple ⊎ IsInSome pieces tuple

-- The pieces have all packets of both rules that show this.
pub record AddsShown (a b : RuleFacts) (shown : Shown) (old new : List PacketSet) : Type 0 where
  pub more : List PacketSet
  pub is : new ≡ old ++ more
  pub each : All (IsWhole a b) more
  pub every : (tuple : TupleFacts) → IsPacket tuple → Matches a tuple → Matches b tuple → shown_of tuple.fields ≡ shown → IsInSome more tuple

-- The pieces have all packets of both rules.
pub record AreFirst (a b : RuleFacts) (pieces : List PacketSet) : Type 0 where
  pub each : All (IsWhole a b) pieces
  pub every : (tuple : TupleFacts) → IsPacket tuple → Matches a tuple → Matches b tuple → IsInSome pieces tuple

-- Each packet of both rules is matched by a marked rule, or is in a piece.
pub record IsSearch (a b : RuleFacts) (rules : List RuleFacts) (pieces : List PacketSet) (marks : List Bool) : Type 0 where
  pub size : length marks ≡ length rules
  pub each : All (IsPiece a b rules) pieces
  pub every : (tuple : TupleFacts) → IsPacket tuple → Matches a tuple → Matches b tuple
      → IsTaken rules (IsMarked marks) tuple ⊎ IsInSome pieces tuple
