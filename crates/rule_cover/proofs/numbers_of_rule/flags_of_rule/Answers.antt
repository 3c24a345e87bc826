use Rattle.rule_cover.proofs.FlagLemmas.{masked, unmasked}
use Rattle.rule_cover.proofs.numbers_of_rule.flags_of_rule.Goals as goal

pub returns-then-value-mask : goal.returns-then-value-mask
returns-then-value-mask c = masked c.args.value c.args.mask c.if-value-mask.true

pub returns-else-value-mask : goal.returns-else-value-mask
returns-else-value-mask c = unmasked c.args.value c.args.mask c.if-value-mask.false
