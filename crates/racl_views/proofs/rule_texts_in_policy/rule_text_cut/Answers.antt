use Rattle.std.proofs.Common.{arith, sym, take_all}
use Rattle.racl_views.proofs.rule_texts_in_policy.rule_text_cut.Goals as goal

pub returns-then-text-lt-MOST_SHOWN-clause-text : goal.returns-then-text-lt-MOST_SHOWN-clause-text
returns-then-text-lt-MOST_SHOWN-clause-text c = sym (take_all 200 c.args.text.now (omega arith))
