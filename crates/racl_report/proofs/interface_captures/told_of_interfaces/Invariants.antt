use Rattle.racl_report.proofs.InterfaceLaws.{IsAmidApart}
use Rattle.racl_report.proofs.interface_captures.told_of_interfaces.Given as goal

abbrev pub invariant-captures : goal.invariant-captures
invariant-captures l = IsAmidApart l.captures l.place l.seen.items l.told.items
