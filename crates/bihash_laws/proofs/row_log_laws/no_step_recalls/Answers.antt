use Rattle.bihash_laws.proofs.LogLaws.{recall_refused}
use Rattle.bihash_laws.proofs.row_log_laws.no_step_recalls.Goals as goal

pub returns : goal.returns
returns c = recall_refused
