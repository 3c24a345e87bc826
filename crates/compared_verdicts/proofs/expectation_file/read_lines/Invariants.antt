use Rattle.std.proofs.Common.{◌≡◌, ◌≤◌, ◌+◌, ◌-◌, ◌++◌, length, map}
use Rattle.compared_verdicts.specs.Files.{expected_from, first_wrong}
use Rattle.compared_verdicts.specs.inner.Reading.{line_text}
use Rattle.compared_verdicts.proofs.expectation_file.read_lines.Given as goal

-- no line so far is wrong, and this is what they expect
abbrev pub invariant-lines : goal.invariant-lines
invariant-lines l = record {
  within : length l.rest ≤ length l.texts;
  right : first_wrong (length l.texts - length l.rest + 1) (map line_text l.rest) ≡ first_wrong 1 (map line_text l.texts);
  says : l.found.items ++ expected_from (length l.texts - length l.rest + 1) (map line_text l.rest) ≡ expected_from 1 (map line_text l.texts);
}

abbrev pub decreases-lines : goal.decreases-lines
decreases-lines l = length l.rest
