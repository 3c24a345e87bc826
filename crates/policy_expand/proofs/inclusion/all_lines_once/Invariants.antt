use Rattle.std.proofs.Common.{map, take}
use Rattle.policy_expand.specs.Inclusions.{AllStand, StandsOnce, file_facts}
use Rattle.policy_expand.specs.Sources.{source_facts}
use Rattle.policy_expand.proofs.inclusion.all_lines_once.Given as goal

-- The lines so far stand for those found.
abbrev pub invariant-loop-place : goal.invariant-loop-place
invariant-loop-place l =
    AllStand (StandsOnce (map file_facts l.files)) (take l.place (map source_facts l.lines)) (map source_facts l.found.items)
