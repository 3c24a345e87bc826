use Rattle.flow_filter.proofs.AgeingLemmas.{aged_verdicts}
use Rattle.flow_filter.proofs.ageing_laws.ageing_filter_says_the_same.Goals as goal

pub returns : goal.returns
returns c = aged_verdicts
