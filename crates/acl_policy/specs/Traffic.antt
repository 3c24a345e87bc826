-- The protocol of a rule and the parts after it (ports, types and codes, flags), in this project's policy grammar.
use Rattle.std.specs.Prelude.{◌≡◌, ◌≤◌, ◌⊎◌, ℕ, ◌==◌, List, [], ◌∷◌, ◌++◌, codes, if◌then◌else◌}
use Rattle.packet_view.specs.Addresses.{icmp_of}
use Rattle.packet_view.specs.declared.tuple.Family.{Family}
use Rattle.acl_policy.specs.declared.protocol_parts.Traffic.{Traffic}
use Rattle.acl_policy.specs.Numerals.{IsNumber, IsPair}

-- A name, or a number below 256; 0 stands for every protocol.
abbrev pub IsProtocol : Family → List ℕ → ℕ → Type 0
IsProtocol family word proto =
    ((word ≡ codes "any") × (proto ≡ 0))
    ⊎ ((word ≡ codes "tcp") × (proto ≡ 6))
    ⊎ ((word ≡ codes "udp") × (proto ≡ 17))
    ⊎ ((word ≡ codes "icmp") × (proto ≡ icmp_of family))
    ⊎ (IsNumber word proto × (proto ≤ 255))

-- One number, or the least and the greatest with '-' between them.
abbrev pub IsRange : ℕ → List ℕ → ℕ × ℕ → Type 0
IsRange most word range =
    (IsNumber word range.0 × (range.1 ≡ range.0) × (range.0 ≤ most))
    ⊎ ((low high : List ℕ) × (word ≡ low ++ 45 ∷ high) × IsNumber low range.0 × IsNumber high range.1
    × (range.0 ≤ range.1) × (range.1 ≤ most))

-- A value and a mask with '/' between them.
abbrev pub IsFlags : List ℕ → ℕ × ℕ → Type 0
IsFlags word flags = (value mask : List ℕ) × (word ≡ value ++ 47 ∷ mask) × IsPair value flags.0 × IsPair mask flags.1

-- A part: no word, and then the value is the usual one, or the part's name and a word for its value.
abbrev pub IsPart : List ℕ → (List ℕ → ℕ × ℕ → Type 0) → ℕ × ℕ → List (List ℕ) → ℕ × ℕ → Type 0
IsPart name IsValue usual [] value = value ≡ usual
IsPart name IsValue usual (word ∷ []) value = ⊥
IsPart name IsValue usual (word ∷ other ∷ []) value = (word ≡ name) × IsValue other value
IsPart name IsValue usual (word ∷ other ∷ third ∷ more) value = ⊥

-- every port, type or code
abbrev pub every : ℕ × ℕ
every = (0, 65535)

-- no flag counts
abbrev pub HasNoFlags : Traffic → Type 0
HasNoFlags traffic = (traffic.value ≡ 0) × (traffic.mask ≡ 0)

-- The ports of TCP and UDP, the source before the destination.
abbrev pub ArePorts : List (List ℕ) → Traffic → Type 0
ArePorts words traffic =
    (source dest : List (List ℕ)) × (words ≡ source ++ dest)
    × IsPart (codes "sport") (IsRange 65535) every source traffic.first
    × IsPart (codes "dport") (IsRange 65535) every dest traffic.second

-- which parts may follow a protocol
pub data Parts : Type 0 where
  OfTcp : Parts
  OfUdp : Parts
  OfIcmp : Parts
  OfNone : Parts

abbrev pub parts_of : Family → ℕ → Parts
parts_of family proto =
    if proto == 6 then OfTcp else (if proto == 17 then OfUdp else (if proto == icmp_of family then OfIcmp else OfNone))

-- The parts stand in one order, each at most once.
abbrev pub AreParts : Parts → List (List ℕ) → Traffic → Type 0
AreParts OfTcp words traffic =
    (ports flags : List (List ℕ)) × (words ≡ ports ++ flags) × ArePorts ports traffic
    × IsPart (codes "flags") IsFlags (0, 0) flags (traffic.value, traffic.mask)
AreParts OfUdp words traffic = ArePorts words traffic × HasNoFlags traffic
AreParts OfIcmp words traffic =
    (kind code : List (List ℕ)) × (words ≡ kind ++ code)
    × IsPart (codes "type") (IsRange 255) every kind traffic.first
    × IsPart (codes "code") (IsRange 255) every code traffic.second
    × HasNoFlags traffic
AreParts OfNone words traffic = (words ≡ []) × (traffic.first ≡ every) × (traffic.second ≡ every) × HasNoFlags traffic

-- What follows the addresses of a rule: nothing, and then it is every packet, or a protocol and its parts.
abbrev pub IsTraffic : Family → List (List ℕ) → Traffic → Type 0
IsTraffic family [] traffic = (traffic.proto ≡ 0) × AreParts OfNone [] traffic
IsTraffic family (word ∷ words) traffic = IsProtocol family word traffic.proto × AreParts (parts_of family traffic.proto) words traffic
