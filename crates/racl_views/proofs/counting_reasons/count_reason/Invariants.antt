use Rattle.std.proofs.Common.{◌≡◌, count_by, take}
use Rattle.racl_views.specs.Hits.{has_reason}
use Rattle.racl_views.proofs.counting_reasons.count_reason.Given as goal

-- those so far are counted
abbrev pub invariant-verdicts : goal.invariant-verdicts
invariant-verdicts l = l.count ≡ count_by (has_reason l.reason) (take l.verdict-index l.verdicts)
