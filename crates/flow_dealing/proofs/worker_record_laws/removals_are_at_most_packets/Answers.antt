use Rattle.flow_dealing.proofs.FewRemovals.{few_removals}
use Rattle.flow_dealing.proofs.worker_record_laws.removals_are_at_most_packets.Goals as goal

pub returns : goal.returns
returns c d times policy packets removals verdicts are = few_removals d times policy packets verdicts removals are
