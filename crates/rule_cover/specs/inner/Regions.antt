-- Sets of packets, given number by number, and how they are cut.
use Rattle.std.specs.Prelude.{◌≡◌, ◌≤◌, ◌⊎◌, ℕ, ◌+◌}
use Rattle.std.specs.Int.{bit_at}
use Rattle.packet_view.specs.Addresses.{icmp_of}
use Rattle.packet_view.specs.Tuples.{TupleFacts}
use Rattle.packet_view.specs.declared.tuple.Family.{Family}
use Rattle.packet_view.specs.declared.tuple.Fields.{Fields}
use Rattle.packet_view.specs.declared.tuple.Fields.TheVariants.{Absent, Ports, Tcp, Icmp}
use Rattle.acl_policy.specs.Matching.{IsIn}
use Rattle.rule_cover.specs.Covers.{AreSmall}
use Rattle.rule_cover.specs.declared.region.Numbers.{Numbers}
use Rattle.rule_cover.specs.declared.region.Region.{Region}
use Rattle.rule_cover.specs.declared.region.Shown.{Shown}
use Rattle.rule_cover.specs.declared.region.Shown.TheVariants.{Nothing, PortPair, PortsAndFlags, TypeAndCode}

-- what the fields show, and their numbers, which are 0 where there is none
abbrev pub shown_of : Fields → Shown
shown_of Absent = Nothing
shown_of (Ports from to) = PortPair
shown_of (Tcp from to flags) = PortsAndFlags
shown_of (Icmp kind code) = TypeAndCode

abbrev pub first_of : Fields → ℕ
first_of Absent = 0
first_of (Ports from to) = from
first_of (Tcp from to flags) = from
first_of (Icmp kind code) = kind

abbrev pub second_of : Fields → ℕ
second_of Absent = 0
second_of (Ports from to) = to
second_of (Tcp from to flags) = to
second_of (Icmp kind code) = code

abbrev pub flags_of : Fields → ℕ
flags_of Absent = 0
flags_of (Ports from to) = 0
flags_of (Tcp from to flags) = flags
flags_of (Icmp kind code) = 0

-- The protocols beside which a packet shows this.
abbrev pub IsBeside : Family → Shown → ℕ → Type 0
IsBeside family Nothing proto = Unit {0}
IsBeside family PortPair proto = proto ≡ 17
IsBeside family PortsAndFlags proto = proto ≡ 6
IsBeside family TypeAndCode proto = proto ≡ icmp_of family

-- Each bit of the ones is set, and none of the zeros.
abbrev pub HasFlags : ℕ → ℕ → ℕ → Type 0
HasFlags ones zeros flags = (i : ℕ) → (bit_at ones i ≤ bit_at flags i) × (bit_at zeros i + bit_at flags i ≤ 1)

abbrev pub HasNumbers : Numbers → Fields → Type 0
HasNumbers numbers fields =
    IsIn numbers.first (first_of fields) × IsIn numbers.second (second_of fields) × HasFlags numbers.ones numbers.zeros (flags_of fields)

abbrev pub IsInRegion : Region → TupleFacts → Type 0
IsInRegion region tuple =
    (region.family ≡ tuple.family) × (shown_of tuple.fields ≡ region.shown) × IsIn region.source tuple.source × IsIn region.dest tuple.dest
    × IsIn region.proto tuple.proto × HasNumbers region.numbers tuple.fields

-- What a packet shows in a region.
abbrev pub AreFieldsOf : Shown → Numbers → Fields → Type 0
AreFieldsOf shown numbers fields = (shown_of fields ≡ shown) × AreSmall fields × HasNumbers numbers fields

-- A range is cut in two: one part has no number of the other range.
pub record IsRangeCut (range other outside inside : ℕ × ℕ) : Type 0 where
  pub splits : (n : ℕ) → IsIn range n → IsIn outside n ⊎ IsIn inside n
  pub out : (n : ℕ) → IsIn outside n → IsIn range n
  pub rest : (n : ℕ) → IsIn inside n → IsIn range n
  pub apart : (n : ℕ) → IsIn outside n → IsIn other n → ⊥

-- Numbers are cut by a flag: some packets lack it, and the others have it.
pub record AreByFlag (flag : ℕ) (numbers lacking having : Numbers) : Type 0 where
  pub splits : (fields : Fields) → HasNumbers numbers fields → HasNumbers lacking fields ⊎ HasNumbers having fields
  pub less : (fields : Fields) → HasNumbers lacking fields → HasNumbers numbers fields
  pub more : (fields : Fields) → HasNumbers having fields → HasNumbers numbers fields
  pub lacks : (fields : Fields) → HasNumbers lacking fields → bit_at (flags_of fields) flag ≡ 0
  pub has : (fields : Fields) → HasNumbers having fields → bit_at (flags_of fields) flag ≡ 1

-- So are the numbers of packets.
pub record AreNumbersCut (numbers other outside inside : Numbers) : Type 0 where
  pub splits : (fields : Fields) → HasNumbers numbers fields → HasNumbers outside fields ⊎ HasNumbers inside fields
  pub out : (fields : Fields) → HasNumbers outside fields → HasNumbers numbers fields
  pub rest : (fields : Fields) → HasNumbers inside fields → HasNumbers numbers fields
  pub apart : (fields : Fields) → HasNumbers outside fields → HasNumbers other fields → ⊥

-- So is a region.
pub record IsCut (region other outside inside : Region) : Type 0 where
  pub splits : (tuple : TupleFacts) → IsInRegion region tuple → IsInRegion outside tuple ⊎ IsInRegion inside tuple
  pub out : (tuple : TupleFacts) → IsInRegion outside tuple → IsInRegion region tuple
  pub rest : (tuple : TupleFacts) → IsInRegion inside tuple → IsInRegion region tuple
  pub apart : (tuple : TupleFacts) → IsInRegion outside tuple → IsInRegion other tuple → ⊥
