use Rattle.std.proofs.Common.{◌∙◌, inl, refl, rules}
use Rattle.acl_policy.specs.Policies.{policy_facts}
use Rattle.racl_runs.specs.LiveRuns.{AreFirstVerdicts}
use Rattle.racl_runs.proofs.CountedLemmas.{may_tell_behind}
use Rattle.racl_runs.proofs.LiveInterfaceLemmas.{all_told, coming_fault, end_fault, end_refused, latest_of_turns, none_came_as}
use Rattle.racl_runs.proofs.LiveLemmas.{as_asked}
use Rattle.racl_runs.proofs.live_interfaces_run.tell_captures.Goals as goal

pub returns-in_default-clause-told : goal.returns-in_default-clause-told
returns-in_default-clause-told g c =
    inl (none_came_as (AreFirstVerdicts _ c.args.way.options.now) (g.L.Teller.wording c.args.teller.now) (policy_facts c.args.way.filter.now.policy.now)
    (g.A.Arrivals.parts c.args.arrivals.now) (g.W.Sink.bytes c.args.writer.now) c.placeless.result c.placeless.ensures)

pub returns-in_default-workers_over-clause-told : goal.returns-in_default-workers_over-clause-told
returns-in_default-workers_over-clause-told g c =
    inl (none_came_as (AreFirstVerdicts _ c.args.way.options.now) (g.L.Teller.wording c.args.teller.now) (policy_facts c.args.way.filter.now.policy.now)
    (g.A.Arrivals.parts c.args.arrivals.now) (g.W.Sink.bytes c.args.writer.now) c.placeless-in_default-workers_over.result c.placeless-in_default-workers_over.ensures)

pub report_captures-requires-clause-begun : goal.report_captures-requires-clause-begun
report_captures-requires-clause-begun g c = record { became = (search rules, c.in-Ok-workers_over.ensures.none); noted = refl; latest = λ noted. refl }

pub report_captures-requires-clause-counts : goal.report_captures-requires-clause-counts
report_captures-requires-clause-counts g c begun packets said are = are.count

pub returns-in-Err-clause-told : goal.returns-in-Err-clause-told
returns-in-Err-clause-told g c =
    inl (coming_fault c.args.way _ _ c.in-Ok-workers_over.ensures (as_asked c.in-Ok.ensures.asked c.ages_early-ages.ensures) c.requires.sound.0 (g.L.Teller.wording c.args.teller.now) _ _ _ _ c.in-Err.found c.in-Err.ensures.told)

pub end-requires : goal.end-requires
end-requires g c = (_, _, _, _, c.in-Ok-report_captures.ensures.told.stand.became.1)

pub told_behind_live-requires : goal.told_behind_live-requires
told_behind_live-requires g c =
    let all = c.in-Ok-report_captures.ensures.told in
    let asked = as_asked c.in-Ok.ensures.asked c.ages_early-ages.ensures in
    let may = may_tell_behind c.args.way _ c.in-Ok-workers_over.inner _ _ _ _ c.requires.says c.requires.sound.0 asked c.in-Ok-workers_over.ensures (c.in-Ok-end.ensures _ _ _ _ all.stand.became.1) in
    (_, _, may)

pub returns-in_default-end-clause-told : goal.returns-in_default-end-clause-told
returns-in_default-end-clause-told g c =
    inl (end_refused c.args.way _ _ c.in-Ok-workers_over.ensures (as_asked c.in-Ok.ensures.asked c.ages_early-ages.ensures) c.requires.sound.0 (g.L.Teller.wording c.args.teller.now) _ _ _ _ c.in-Ok-report_captures.told c.in-Ok-report_captures.ensures.told
    c.placeless-in_default-end.result c.placeless-in_default-end.ensures)

pub returns-in_default-told_behind_live-clause-told : goal.returns-in_default-told_behind_live-clause-told
returns-in_default-told_behind_live-clause-told g c =
    inl (end_refused c.args.way _ _ c.in-Ok-workers_over.ensures (as_asked c.in-Ok.ensures.asked c.ages_early-ages.ensures) c.requires.sound.0 (g.L.Teller.wording c.args.teller.now) _ _ _ _ c.in-Ok-report_captures.told c.in-Ok-report_captures.ensures.told
    c.placeless-in_default-told_behind_live.result c.placeless-in_default-told_behind_live.ensures)

pub returns-in-Ok-tell_end_behind-clause-told : goal.returns-in-Ok-tell_end_behind-clause-told
returns-in-Ok-tell_end_behind-clause-told g c =
    let all = c.in-Ok-report_captures.ensures.told in
    let asked = as_asked c.in-Ok.ensures.asked c.ages_early-ages.ensures in
    let may = may_tell_behind c.args.way _ c.in-Ok-workers_over.inner _ _ _ _ c.requires.says c.requires.sound.0 asked c.in-Ok-workers_over.ensures (c.in-Ok-end.ensures _ _ _ _ all.stand.became.1) in
    let latest = latest_of_turns c.args.way _ _ c.in-Ok-workers_over.ensures (as_asked c.in-Ok.ensures.asked c.ages_early-ages.ensures) c.requires.sound.0 (g.L.Teller.wording c.args.teller.now) _ _ _ _
    c.in-Ok-report_captures.told all in
    all_told c.args.way _ _ c.in-Ok-workers_over.ensures (as_asked c.in-Ok.ensures.asked c.ages_early-ages.ensures) c.requires.sound.0 (g.L.Teller.wording c.args.teller.now) _ _ _ _ c.in-Ok-report_captures.told all _
    (c.in-Ok-told_behind_live.ensures _ _ _ may (λ kept. latest (c.keeps_stored.ensures ∙ kept) refl)) _ (g.L.Teller.wording c.report_captures.new.teller) c.deref.result.now c.in-Ok-report_captures.ensures.same c.deref.ensures.value c.in-Ok-tell_end_behind.ensures.0

pub returns-clause-told : goal.returns-clause-told
returns-clause-told g c =
    let all = c.in-Ok-report_captures.ensures.told in
    let asked = as_asked c.in-Ok.ensures.asked c.ages_early-ages.ensures in
    let may = may_tell_behind c.args.way _ c.in-Ok-workers_over.inner _ _ _ _ c.requires.says c.requires.sound.0 asked c.in-Ok-workers_over.ensures (c.in-Ok-end.ensures _ _ _ _ all.stand.became.1) in
    let latest = latest_of_turns c.args.way _ _ c.in-Ok-workers_over.ensures (as_asked c.in-Ok.ensures.asked c.ages_early-ages.ensures) c.requires.sound.0 (g.L.Teller.wording c.args.teller.now) _ _ _ _
    c.in-Ok-report_captures.told all in
    end_fault c.args.way _ _ c.in-Ok-workers_over.ensures (as_asked c.in-Ok.ensures.asked c.ages_early-ages.ensures) c.requires.sound.0 (g.L.Teller.wording c.args.teller.now) _ _ _ _ c.in-Ok-report_captures.told all _
    (c.in-Ok-told_behind_live.ensures _ _ _ may (λ kept. latest (c.keeps_stored.ensures ∙ kept) refl)) _ (g.L.Teller.wording c.report_captures.new.teller) c.deref.result.now c.in-Ok-report_captures.ensures.same c.deref.ensures.value c.placeless-in-Err-tell_end_behind.result c.in-Err-tell_end_behind.fault
    c.placeless-in-Err-tell_end_behind.ensures c.in-Err-tell_end_behind.ensures.0
