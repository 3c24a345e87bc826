use Rattle.std.proofs.Common.{◌≤◌, ◌*◌, length}
use Rattle.rule_index.proofs.column.interval_starts.starts_of.Given as goal

-- a range has two bounds at most
abbrev pub invariant-loop-range : goal.invariant-loop-range
invariant-loop-range l = length l.bounds.items ≤ 2 * l.range-index
