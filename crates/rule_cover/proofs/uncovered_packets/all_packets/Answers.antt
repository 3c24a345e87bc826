use Rattle.std.proofs.Common.{◌≡◌, [], rules}
use Rattle.acl_policy.specs.Rules.{rule_facts}
use Rattle.rule_cover.proofs.PieceLemmas.{all_shown}
use Rattle.rule_cover.proofs.uncovered_packets.all_packets.Goals as goal

pub returns : goal.returns
returns c =
    let none : c.new-left.result.items ≡ [] = search rules in
    all_shown (rule_facts c.args.one.now) (rule_facts c.args.two.now) c.new-left.result.items c.add_shown.new.left.items c.add_shown-2.new.left.items
    c.add_shown-3.new.left.items c.add_shown-4.new.left.items none c.in_ok-add_shown.ensures c.in_ok-add_shown-2.ensures c.in_ok-add_shown-3.ensures
    c.in_ok-add_shown-4.ensures
