use Rattle.std.proofs.Common.{◌∙◌, inl, refl}
use Rattle.acl_policy.specs.Policies.{policy_facts}
use Rattle.filter_run.proofs.ArrivalLemmas.{gives_none}
use Rattle.racl_runs.proofs.LiveInterfaceLemmas.{run_ends, wrong_text}
use Rattle.racl_runs.proofs.LiveLemmas.{ready_says}
use Rattle.racl_runs.proofs.live_interfaces_run.run_live_interfaces.Goals as goal

pub returns-in-Err-clause-told : goal.returns-in-Err-clause-told
returns-in-Err-clause-told g c =
    inl (gives_none (g.A.Arrivals.parts c.args.arrivals.now), refl, c.placeless.ensures.1, wrong_text c.args.asked.text.now c.in-Err.cause c.placeless.result (c.placeless.ensures.0 ∙ c.from.ensures) c.in-Err.ensures.fault)

pub returns-in_default-clause-told : goal.returns-in_default-clause-told
returns-in_default-clause-told g c = inl (gives_none (g.A.Arrivals.parts c.args.arrivals.now), refl, c.placeless-in_default.ensures.1, inl c.placeless-in_default.ensures.0)

pub returns-in_default-ready_with-clause-told : goal.returns-in_default-ready_with-clause-told
returns-in_default-ready_with-clause-told g c = inl (gives_none (g.A.Arrivals.parts c.args.arrivals.now), refl, c.placeless-in_default-ready_with.ensures.1, inl c.placeless-in_default-ready_with.ensures.0)

pub returns-in_default-new-clause-told : goal.returns-in_default-new-clause-told
returns-in_default-new-clause-told g c = inl (gives_none (g.A.Arrivals.parts c.args.arrivals.now), refl, c.placeless-in_default-new.ensures.1, inl c.placeless-in_default-new.ensures.0)

pub new-requires : goal.new-requires
new-requires g c = ready_says c.in-Ok-ready_with.ensures.policy c.in-Ok.ensures.ok

pub tell_captures-requires-clause-says : goal.tell_captures-requires-clause-says
tell_captures-requires-clause-says g c κs lives = ready_says c.in-Ok-ready_with.ensures.policy c.in-Ok.ensures.ok

pub returns-clause-told : goal.returns-clause-told
returns-clause-told g c =
    run_ends _ c.args.asked.options.now c.args.asked.text.now (policy_facts c.in-Ok-ready_with.ready.policy.now) _ _ _ _ _ c.tell_captures.result
    (ready_says c.in-Ok-ready_with.ensures.policy c.in-Ok.ensures.ok) c.in-Ok-new.ensures c.tell_captures.ensures.told
