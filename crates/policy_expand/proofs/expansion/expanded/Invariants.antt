use Rattle.std.proofs.Common.{[], List, map, take}
use Rattle.policy_expand.specs.Expansions.{AreExpanded}
use Rattle.policy_expand.specs.Sources.{source_facts}
use Rattle.policy_expand.specs.Written.{LineWritten}
use Rattle.policy_expand.specs.declared.visible_word.Word.{Word}
use Rattle.policy_expand.proofs.expansion.expanded.Given as goal

-- The lines so far are expanded.
abbrev pub invariant-loop-place : goal.invariant-loop-place
invariant-loop-place l =
    (written : List LineWritten) × (plain : List (List (List Word)))
    × AreExpanded [] (take l.place (map source_facts l.lines)) l.sets.items written plain l.text.items
