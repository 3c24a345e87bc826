use Rattle.acl_policy.specs.Policies.{policy_facts}
use Rattle.policy_compare.specs.inner.Found.{sides_facts}
use Rattle.policy_compare.proofs.RowLemmas.{both_ways, in_alone}
use Rattle.policy_compare.proofs.compared_policies.add_interface.Goals as goal

pub returns-clause-adds : goal.returns-clause-adds
returns-clause-adds c =
    both_ways (policy_facts c.args.before.now) (policy_facts c.args.after.now) c.args.interface c.add_sides.new.tests c.add_sides-2.new.tests _ _ _
    (sides_facts c.sides_at-inbound.result) (sides_facts c.sides_at-outbound.result) (c.go_out.ensures.yes c.if-not-go_out.false) c.in_ok-add_sides-2.ensures.fewer
    c.sides_at-inbound.ensures c.sides_at-outbound.ensures c.in_ok-add_sides.ensures.adds c.in_ok-add_sides-2.ensures.adds

pub returns-then-not-go_out-clause-adds : goal.returns-then-not-go_out-clause-adds
returns-then-not-go_out-clause-adds c =
    in_alone (policy_facts c.args.before.now) (policy_facts c.args.after.now) c.args.interface c.add_sides.new.tests _ _ (sides_facts c.sides_at-inbound.result)
    (c.go_out.ensures.no c.if-not-go_out.true) c.sides_at-inbound.ensures c.in_ok-add_sides.ensures.adds
