use Rattle.bihash_laws.proofs.LogLaws.{real_time}
use Rattle.bihash_laws.proofs.row_log_laws.calls_stand_in_real_time.Goals as goal

pub returns : goal.returns
returns c = real_time
