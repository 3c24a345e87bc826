use Rattle.acl_policy.specs.Rules.{rule_facts}
use Rattle.rule_cover.proofs.PieceLemmas.{cut_by_region}
use Rattle.rule_cover.proofs.piece_meeting.part_by.Goals as goal

pub returns-in-Some : goal.returns-in-Some
returns-in-Some c =
    cut_by_region c.args.region.now c.region_of-other.result c.in-Some.outside c.in-Some.inside (rule_facts c.args.rule.now) c.region_of-other.ensures.region
    c.in-Some.ensures.some
