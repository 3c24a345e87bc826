use Rattle.capture_shards.proofs.AddedTotals.{add_up}
use Rattle.capture_shards.proofs.OneReport.{merged_verdicts, some_merged}
use Rattle.capture_shards.proofs.shard_laws.shards_give_one_report.Goals as goal

pub returns-clause-merged : goal.returns-clause-merged
returns-clause-merged c l times policy packets count owns said verdicts some are each merged =
    merged_verdicts l times policy packets count owns said some are each verdicts merged

pub returns-clause-some : goal.returns-clause-some
returns-clause-some c = some_merged

pub returns-clause-totals : goal.returns-clause-totals
returns-clause-totals c l packets count owns said verdicts some are merged = add_up l packets count owns said verdicts some are merged
