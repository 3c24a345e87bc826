use Rattle.std.proofs.Common.{◌≡◌, ◌++◌, map, take}
use Rattle.policy_expand.specs.Texts.{plain_text}
use Rattle.policy_expand.specs.Written.{list_words}
use Rattle.policy_expand.proofs.plain_text.push_plain_lines.Given as goal

-- The rows so far were added.
abbrev pub invariant-loop-row : goal.invariant-loop-row
invariant-loop-row l = l.out.items ≡ l.initial.out.items ++ plain_text l.mark (map list_words (take l.row-index l.rows))
