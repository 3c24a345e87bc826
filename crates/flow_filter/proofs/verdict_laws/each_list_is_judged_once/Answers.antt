use Rattle.flow_filter.proofs.OneThreadLemmas.{one_judged, some_judged}
use Rattle.flow_filter.proofs.verdict_laws.each_list_is_judged_once.Goals as goal

pub returns : goal.returns
returns c = record { some = some_judged; one = one_judged }
