use Rattle.std.proofs.Common.{◌≡◌, take}
use Rattle.racl_io.specs.Reports
use Rattle.racl_io.proofs.totals_and_truncation.passed.Given as goal

-- those so far are counted
abbrev pub invariant-verdicts : goal.invariant-verdicts
invariant-verdicts l = l.count ≡ Reports.passed (take l.verdict-index l.verdicts)
