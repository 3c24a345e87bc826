use Rattle.rule_cover.proofs.FlagLemmas.{no_flags, ones_are_flags}
use Rattle.rule_cover.proofs.packet_in_region.flags_in.Goals as goal

pub returns-then-numbers-eq0-clause-some : goal.returns-then-numbers-eq0-clause-some
returns-then-numbers-eq0-clause-some c = ones_are_flags c.args.numbers.now.ones c.args.numbers.now.zeros c.if-numbers-eq0.true

pub returns-else-numbers-eq0-clause-none : goal.returns-else-numbers-eq0-clause-none
returns-else-numbers-eq0-clause-none c = λ none. no_flags c.args.numbers.now.ones c.args.numbers.now.zeros c.if-numbers-eq0.false
