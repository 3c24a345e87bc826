use Rattle.std.proofs.Common.{◌≡◌, ◌≤◌, ◌++◌, ◌*◌, drop, length}
use Rattle.policy_compare.specs.ComparisonReports.{lines_of}
use Rattle.policy_compare.proofs.comparison_report.push_differences.Given as goal

-- the lines so far
abbrev pub invariant-lines : goal.invariant-lines
invariant-lines l = record {
  short : length l.piece ≤ l.difference-index * 450;
  told : l.piece ++ lines_of (drop l.difference-index l.differences) ≡ lines_of l.differences;
}
