use Rattle.std.proofs.Common.{rules, tests}
use Rattle.std.proofs.lemmas.Iterator.Search.{position_from_yields_List}
use Rattle.std.proofs.lemmas.Iterator.Splits.{YieldsList-from_lines}
use Rattle.policy_check.proofs.lines_for_expand.place_for_expand.Goals as goal

pub returns-clause-place : goal.returns-clause-place
returns-clause-place c = position_from_yields_List _ _ _ _ c.position.ensures.ran (YieldsList-from_lines c.args.text.now cc) (λ x b q k. search (rules, tests))
