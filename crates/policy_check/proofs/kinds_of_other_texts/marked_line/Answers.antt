use Rattle.policy_check.proofs.TextKindLemmas.{unmarked}
use Rattle.policy_check.proofs.kinds_of_other_texts.marked_line.Goals as goal

pub returns-in-None-clause-none : goal.returns-in-None-clause-none
returns-in-None-clause-none c = λ none. unmarked c.args.text.now c.in-None.ensures.none
