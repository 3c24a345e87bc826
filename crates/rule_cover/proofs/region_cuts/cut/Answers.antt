use Rattle.rule_cover.proofs.CutLemmas.{dest_cut, proto_cut, source_cut}
use Rattle.rule_cover.proofs.region_cuts.cut.Goals as goal

pub returns-in-Some-clause-some : goal.returns-in-Some-clause-some
returns-in-Some-clause-some c = proto_cut c.args.region.now c.args.other.now c.in-Some.outside c.in-Some.proto c.in-Some.ensures.some

pub returns-in-Some-cut_range-clause-some : goal.returns-in-Some-cut_range-clause-some
returns-in-Some-cut_range-clause-some c =
    source_cut c.args.region.now c.args.other.now c.in-Some-cut_range.outside c.in-Some-cut_range.source c.in-Some-cut_range.ensures.some

pub returns-in-Some-cut_range-2-clause-some : goal.returns-in-Some-cut_range-2-clause-some
returns-in-Some-cut_range-2-clause-some c =
    dest_cut c.args.region.now c.args.other.now c.in-Some-cut_range-2.outside c.in-Some-cut_range-2.dest c.in-Some-cut_range-2.ensures.some
