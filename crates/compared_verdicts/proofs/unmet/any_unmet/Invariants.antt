use Rattle.std.proofs.Common.{◌≡◌, ◌+◌, length}
use Rattle.compared_verdicts.specs.Meeting.{unmet_from}
use Rattle.compared_verdicts.proofs.unmet.any_unmet.Given as goal

-- the verdicts so far are as expected
abbrev pub invariant-verdicts : goal.invariant-verdicts
invariant-verdicts l = record {
  counted : l.number + length l.rest ≡ l.fn.others + length l.fn.verdicts;
  same : unmet_from l.fn.expectations (l.number + 1) l.rest ≡ unmet_from l.fn.expectations (l.fn.others + 1) l.fn.verdicts;
}

abbrev pub decreases-verdicts : goal.decreases-verdicts
decreases-verdicts l = length l.rest
