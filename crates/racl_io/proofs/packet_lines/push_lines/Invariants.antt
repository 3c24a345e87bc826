use Rattle.std.proofs.Common.{◌≡◌, ◌≤◌, ◌++◌, ◌+◌, ◌*◌, length, take, drop, None}
use Rattle.racl_io.specs.Reports.{lines_from, passed}
use Rattle.racl_io.proofs.packet_lines.push_lines.Given as goal

-- the lines so far
abbrev pub invariant-named : goal.invariant-named
invariant-named l = record {
  counted : l.number ≡ l.fn.number + l.verdict-index;
  passing : l.passed ≡ passed (take l.verdict-index l.verdicts);
  few : l.passed ≤ l.verdict-index;
  short : length l.piece ≤ l.verdict-index * 72;
  told : l.piece ++ lines_from l.name (l.number + 1) (drop l.verdict-index l.verdicts) ≡ lines_from l.name (l.fn.number + 1) l.verdicts;
}

-- the same where they name no interface
abbrev pub invariant-plain : goal.invariant-plain
invariant-plain l = record {
  counted : l.number ≡ l.fn.number + l.verdict-index;
  passing : l.passed ≡ passed (take l.verdict-index l.verdicts);
  few : l.passed ≤ l.verdict-index;
  short : length l.piece ≤ l.verdict-index * 72;
  told : l.piece ++ lines_from None (l.number + 1) (drop l.verdict-index l.verdicts) ≡ lines_from None (l.fn.number + 1) l.verdicts;
}
