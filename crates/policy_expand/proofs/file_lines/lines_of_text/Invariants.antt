use Rattle.std.proofs.Common.{◌≡◌, length, map, take}
use Rattle.std.specs.Str.Lines.{lines}
use Rattle.policy_expand.specs.Sources.{numbered, source_facts}
use Rattle.policy_expand.proofs.file_lines.lines_of_text.Given as goal

-- The lines so far are found.
abbrev pub invariant-loop-line : goal.invariant-loop-line
invariant-loop-line l = map source_facts l.found.items ≡ numbered l.file (take (length l.yielded) (lines l.text))
