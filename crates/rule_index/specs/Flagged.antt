-- The flags of a packet.
use Rattle.std.specs.Prelude.{◌≡◌, ℕ}
use Rattle.packet_view.specs.declared.tuple.Fields.{Fields}
use Rattle.packet_view.specs.declared.tuple.Fields.TheVariants.{Absent, Ports, Tcp, Icmp}

abbrev pub IsFlagsOf : Fields → ℕ → Type 0
IsFlagsOf Absent x = ⊥
IsFlagsOf (Ports from to) x = ⊥
IsFlagsOf (Tcp from to flags) x = x ≡ flags
IsFlagsOf (Icmp kind code) x = ⊥
