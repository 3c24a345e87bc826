use Rattle.std.proofs.Common.{Some}
use Rattle.racl_io.specs.Inputs.{numbered_facts}
use Rattle.racl_report.specs.inner.NumberedCaptures.{facts_of, left_at}
use Rattle.racl_runs.proofs.DigitCaptureLemmas.{IsAmid}
use Rattle.racl_runs.proofs.digit_captures.decode_each.Given as goal

abbrev pub invariant-captures : goal.invariant-captures
invariant-captures l = IsAmid (Some (facts_of l.first)) l.walk

-- what is left of the input
abbrev pub decreases-captures : goal.decreases-captures
decreases-captures l = left_at (numbered_facts l.walk.next)
