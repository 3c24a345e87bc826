use Rattle.std.proofs.Common.{take}
use Rattle.rule_cover.specs.inner.Takers.{AreMarkedIn}
use Rattle.rule_cover.proofs.leaving_out.staying.Given as goal

-- Of the places so far those that stay.
abbrev pub invariant-loop-i : goal.invariant-loop-i
invariant-loop-i l = AreMarkedIn (take l.i l.places) l.first l.marks l.stay.items
