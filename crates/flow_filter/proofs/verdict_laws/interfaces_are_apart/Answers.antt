use Rattle.flow_filter.proofs.ApartLemmas.{apart_verdicts}
use Rattle.flow_filter.proofs.verdict_laws.interfaces_are_apart.Goals as goal

pub returns : goal.returns
returns c = apart_verdicts
