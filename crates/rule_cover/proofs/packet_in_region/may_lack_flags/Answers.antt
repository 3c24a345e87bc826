use Rattle.std.proofs.Common.{◌≡◌, true}
use Rattle.std.specs.Prelude.{nat_eq}
use Rattle.std.proofs.lemmas.Bool.{eq-eqb}
use Rattle.rule_cover.proofs.FlagLemmas.{some_ones}
use Rattle.rule_cover.proofs.packet_in_region.may_lack_flags.Goals as goal

pub returns-clause-no : goal.returns-clause-no
returns-clause-no c = λ no has.
    let yes : nat_eq c.args.numbers.now.ones 0 ≡ true = eq-eqb c.args.numbers.now.ones 0 (some_ones c.args.numbers.now.ones c.args.numbers.now.zeros has) in
    let f : ⊥ = cc in f
