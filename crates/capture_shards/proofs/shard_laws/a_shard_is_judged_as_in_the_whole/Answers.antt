use Rattle.capture_shards.proofs.OneReport.{one_own, own_verdicts}
use Rattle.capture_shards.proofs.shard_laws.a_shard_is_judged_as_in_the_whole.Goals as goal

pub returns-clause-alone : goal.returns-clause-alone
returns-clause-alone c l times policy packets count shard own verdicts is are = own_verdicts l times policy count shard own is packets verdicts are

pub returns-clause-one : goal.returns-clause-one
returns-clause-one c l times policy packets count shard own verdicts said is are alone =
    one_own l times policy count shard own is packets verdicts said are alone
