use Rattle.bihash_laws.proofs.LogLaws.{enters_next}
use Rattle.bihash_laws.proofs.row_log_laws.calls_enter_at_the_end.Goals as goal

pub returns : goal.returns
returns c = enters_next
