use Rattle.rule_cover.proofs.RegionLemmas.{both_regions}
use Rattle.rule_cover.proofs.region_cuts.both.Goals as goal

pub returns : goal.returns
returns c =
    both_regions c.args.one.now c.args.two.now c.both_ranges.result c.both_ranges-2.result c.both_ranges-3.result c.both_numbers.result c.both_ranges.ensures
    c.both_ranges-2.ensures c.both_ranges-3.ensures c.both_numbers.ensures
