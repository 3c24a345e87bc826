use Rattle.std.proofs.Common.{[], Some, ap, subst, ℕ, List, ◌≡◌, ◌∙◌}
use Rattle.acl_policy.specs.Policies.{policy_facts}
use Rattle.racl_runs.proofs.AtHandLemmas.{reported_at_hand}
use Rattle.racl_runs.specs.Reads.{HasReportedOn}
use Rattle.racl_runs.proofs.captures_at_hand.report_at_hand.Goals as goal

pub returns-in-Ok-tell_in_turn-clause-ok : goal.returns-in-Ok-tell_in_turn-clause-ok
returns-in-Ok-tell_in_turn-clause-ok g c packets have named =
    let at_hand = c.args.at_hand in
    let policy = policy_facts at_hand.filter.now.policy in
    let ready = ap policy_facts c.in-Ok-ready_with.ensures.policy in
    let none : c.new-held.result.inner.items ≡ [] = ap (λ d. d.inner.items) c.new-held.ensures ∙ c.new-2.ensures.items in
    subst (λ (begun : List ℕ). HasReportedOn c.args.options.now at_hand.text.now policy packets at_hand.told.now (Some begun) (Some c.tell_in_turn.new.writer.inner.items) c.in-Ok-tell_in_turn.totals) none
    (reported_at_hand c.args.options.now at_hand.text.now policy _ _ at_hand.names packets at_hand.told.now _ _ c.in-Ok-tell_in_turn.totals ready named c.in-Ok-new.ensures
    (c.in-Ok-tell_in_turn.ensures.told packets have))
