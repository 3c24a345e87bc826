use Rattle.std.proofs.Common.{◌≡◌, ◌≤◌, ◌++◌, ◌+◌, ◌*◌, length, take, drop}
use Rattle.racl_io.specs.Reports.{passed}
use Rattle.racl_io.specs.ShownReports.{lines_shown}
use Rattle.racl_io.proofs.shown_lines.push_shown.Given as goal

-- the lines so far
abbrev pub invariant-each : goal.invariant-each
invariant-each l = record {
  counted : l.number ≡ l.fn.number + l.verdict-index;
  passing : l.passed ≡ passed (take l.verdict-index l.verdicts);
  few : l.passed ≤ l.verdict-index;
  short : length l.piece ≤ l.verdict-index * 72;
  told : l.piece ++ lines_shown l.shown l.name (l.number + 1) (drop l.verdict-index l.verdicts) ≡ lines_shown l.shown l.name (l.fn.number + 1) l.verdicts;
}
