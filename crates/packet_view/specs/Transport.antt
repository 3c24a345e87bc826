-- What the first bytes after the IP headers say: ports (RFC 768, RFC 9293), TCP flags, ICMP types (RFC 792, RFC 4443).
use Rattle.std.specs.Prelude.{◌≡◌, ◌≢◌, ◌≤◌, ◌<◌, ◌⊎◌, ℕ, List, length, slice_index}
use Rattle.packet_view.specs.declared.tuple.Family.{Family}
use Rattle.packet_view.specs.declared.tuple.Fields.{Fields}
use Rattle.packet_view.specs.declared.tuple.Fields.TheVariants.{Absent, Ports, Tcp, Icmp}
use Rattle.packet_view.specs.Addresses.{icmp_of}
use Rattle.packet_view.specs.Bytes.{number_from}

-- the payload has these fields under the protocol
abbrev pub HasFields : Family → ℕ → List ℕ → Fields → Type 0
HasFields family proto payload (Tcp from to flags) =
    (proto ≡ 6) × (14 ≤ length payload) × (from ≡ number_from 0 2 payload) × (to ≡ number_from 2 2 payload)
    × (flags ≡ slice_index payload 13)
HasFields family proto payload (Ports from to) =
    (proto ≡ 17) × (4 ≤ length payload) × (from ≡ number_from 0 2 payload) × (to ≡ number_from 2 2 payload)
HasFields family proto payload (Icmp kind code) =
    (proto ≡ icmp_of family) × (2 ≤ length payload) × (kind ≡ slice_index payload 0) × (code ≡ slice_index payload 1)
HasFields family proto payload Absent = (proto ≢ 6) × (proto ≢ 17) × (proto ≢ icmp_of family)

-- the payload ends before those fields do
abbrev pub IsShort : Family → ℕ → List ℕ → Type 0
IsShort family proto payload =
    ((proto ≡ 6) × (length payload < 14)) ⊎ ((proto ≡ 17) × (length payload < 4)) ⊎ ((proto ≡ icmp_of family) × (length payload < 2))
