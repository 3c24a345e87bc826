use Rattle.bihash_laws.proofs.LogLaws.{no_recall}
use Rattle.bihash_laws.proofs.row_log_laws.stale_reads_never_enter.Goals as goal

pub returns : goal.returns
returns c = no_recall
