use Rattle.bihash_laws.proofs.LogLaws.{grows_law}
use Rattle.bihash_laws.proofs.row_log_laws.logs_only_grow.Goals as goal

pub returns : goal.returns
returns c = grows_law
