use Rattle.racl_views.proofs.LineLemmas.{policy_rules_of}
use Rattle.racl_views.proofs.rule_numbering.numbered_rules.Goals as goal

pub returns-in-Ok : goal.returns-in-Ok
returns-in-Ok c =
    policy_rules_of (λ v. v.items) c.numbered_rules_in.result c.args.text.now c.in-Ok.text.now c.in-Ok.ensures.cases.0 c.numbered_rules_in.ensures
