use Rattle.std.proofs.Common.{◌≡◌, length, map, take}
use Rattle.std.specs.Str.Lines.{lines}
use Rattle.compared_verdicts.specs.inner.Reading.{line_text}
use Rattle.compared_verdicts.proofs.expectation_file.lines_of.Given as goal

-- the lines so far are found
abbrev pub invariant-loop-line : goal.invariant-loop-line
invariant-loop-line l = map line_text l.found.items ≡ take (length l.yielded) (lines l.text)
