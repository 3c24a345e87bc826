use Rattle.std.proofs.Common.{◌≤◌, ◌+◌, ◌*◌, length, map}
use Rattle.acl_policy.specs.Rules.{rule_facts}
use Rattle.rule_cover.specs.inner.Pieces.{IsSearch}
use Rattle.rule_cover.proofs.uncovered_packets.uncovered.Given as goal

-- What isn't taken yet is in the pieces that are left, and no test was won.
abbrev pub invariant-pieces : goal.invariant-pieces
invariant-pieces l =
    IsSearch (rule_facts l.one) (rule_facts l.two) (map rule_facts l.rules) l.left.items l.marks.items
    × (l.tests ≤ l.initial.tests)

-- A cut leaves one piece more, and takes a test.
abbrev pub decreases-pieces : goal.decreases-pieces
decreases-pieces l = 2 * l.tests + length l.left.items
