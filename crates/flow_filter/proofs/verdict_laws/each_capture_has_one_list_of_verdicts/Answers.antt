use Rattle.flow_filter.proofs.OneThreadLemmas.{one_verdicts, some_verdicts}
use Rattle.flow_filter.proofs.verdict_laws.each_capture_has_one_list_of_verdicts.Goals as goal

pub returns : goal.returns
returns c = record { some = some_verdicts; one = one_verdicts }
