use Rattle.std.proofs.Common.{refl}
use Rattle.acl_policy.specs.Policies.{policy_facts}
use Rattle.policy_compare.proofs.RowLemmas.{interface_more}
use Rattle.policy_compare.proofs.compared_policies.differences_of.Goals as goal

pub loop-number-preserved : goal.loop-number-preserved
loop-number-preserved c =
    interface_more (policy_facts c.args.before.now) (policy_facts c.args.after.now) c.loop-number.tests c.add_interface.new.tests c.loop-number.number _ _ _
    c.in_ok-add_interface.ensures.fewer refl c.loop-number.invariant c.in_ok-add_interface.ensures.adds
