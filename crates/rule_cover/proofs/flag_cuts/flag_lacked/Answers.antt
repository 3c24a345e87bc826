use Rattle.std.proofs.Common.{arith, inl, inr}
use Rattle.std.proofs.lemmas.Bool.{cases_lt}
use Rattle.rule_cover.proofs.FlagLemmas.{no_bit_above}
use Rattle.rule_cover.proofs.flag_cuts.flag_lacked.Goals as goal

pub returns-clause-none : goal.returns-clause-none
returns-clause-none c = λ none k.
    elim (cases_lt k 8) [
      | inl early ↦ c.loop-i.invariant k (omega arith)
      | inr late ↦ omega (arith, no_bit_above c.args.flags k c.ranges.flags.fits late)
    ]
