use Rattle.flow_dealing.proofs.TraceMerges.{judge_each_packet}
use Rattle.flow_dealing.proofs.worker_record_laws.deeds_judge_each_packet.Goals as goal

pub returns : goal.returns
returns c d times ages policy packets all v verdicts some_worker are done placed =
    judge_each_packet d times ages policy packets all v verdicts some_worker are done placed
