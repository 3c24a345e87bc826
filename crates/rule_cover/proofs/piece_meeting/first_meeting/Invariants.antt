use Rattle.std.proofs.Common.{◌≤◌, map}
use Rattle.acl_policy.specs.Rules.{rule_facts}
use Rattle.rule_cover.specs.inner.Pieces.{AreBeside}
use Rattle.rule_cover.proofs.piece_meeting.first_meeting.Given as goal

-- No rule so far matches a packet of the piece, and no test was won.
abbrev pub invariant-loop-place : goal.invariant-loop-place
invariant-loop-place l = AreBeside (map rule_facts l.rules) l.piece.region l.piece.place l.place × (l.tests ≤ l.initial.tests)
