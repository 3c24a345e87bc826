use Rattle.std.specs.Prelude.{take}
use Rattle.racl_system.specs.LiveInterfaces.{AreApart}
use Rattle.racl_system.proofs.coming_captures.twice_among.Given as goal

-- Those so far are of one interface each.
abbrev pub invariant-captures : goal.invariant-captures
invariant-captures l = AreApart (take l.place l.captures)
