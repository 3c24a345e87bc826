use Rattle.bihash_laws.proofs.LogLaws.{whole_log}
use Rattle.bihash_laws.proofs.row_log_laws.whole_callers_know_the_log.Goals as goal

pub returns : goal.returns
returns c = whole_log
