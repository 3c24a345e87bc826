use Rattle.rule_cover.proofs.FlagLemmas.{flags_apart}
use Rattle.rule_cover.proofs.flag_cuts.are_flags_apart.Goals as goal

pub returns-then-one-two-ne0 : goal.returns-then-one-two-ne0
returns-then-one-two-ne0 c = λ yes flags has other.
    flags_apart c.args.one.now.ones c.args.two.now.zeros flags c.args.two.now.ones c.args.one.now.zeros c.if-one-two-ne0.true has other

pub returns-then-two-one-ne0 : goal.returns-then-two-one-ne0
returns-then-two-one-ne0 c = λ yes flags has other.
    flags_apart c.args.two.now.ones c.args.one.now.zeros flags c.args.one.now.ones c.args.two.now.zeros c.if-two-one-ne0.true other has
