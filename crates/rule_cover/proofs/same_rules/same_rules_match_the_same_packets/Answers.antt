use Rattle.rule_cover.proofs.SameRuleLemmas.{match_alike}
use Rattle.rule_cover.proofs.same_rules.same_rules_match_the_same_packets.Goals as goal

pub returns : goal.returns
returns c = match_alike
