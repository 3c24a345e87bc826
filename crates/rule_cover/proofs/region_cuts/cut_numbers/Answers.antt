use Rattle.rule_cover.proofs.CutLemmas.{first_cut, second_cut}
use Rattle.rule_cover.proofs.region_cuts.cut_numbers.Goals as goal

pub returns-in-Some-clause-some : goal.returns-in-Some-clause-some
returns-in-Some-clause-some c = first_cut c.args.numbers.now c.args.other.now c.in-Some.outside c.in-Some.first c.in-Some.ensures.some

pub returns-in-Some-cut_range-clause-some : goal.returns-in-Some-cut_range-clause-some
returns-in-Some-cut_range-clause-some c =
    second_cut c.args.numbers.now c.args.other.now c.in-Some-cut_range.outside c.in-Some-cut_range.second c.in-Some-cut_range.ensures.some
