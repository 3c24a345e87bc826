use Rattle.std.proofs.Common.{◌∙◌, List, length, refl, subst, sym, true≢false}
use Rattle.packet_view.specs.CheckedCaptures.{remaining}
use Rattle.acl_policy.specs.Policies.{policy_facts}
use Rattle.session_state.specs.declared.verdict.Verdict.{Verdict}
use Rattle.racl_views.specs.HitCounts.{HaveCountedOn, MayCount}
use Rattle.racl_runs.specs.Crews.{orders_of}
use Rattle.racl_runs.proofs.CountedLemmas.{counted_more, may_count}
use Rattle.racl_runs.proofs.counted_judging.CountedJudge.judge.Goals as goal

pub judge-requires : goal.judge-requires
judge-requires g c =
    let has = c.requires.stand in
    record { begun = c.requires.begun.crew; packets = c.requires.packets; said = c.requires.said; stand = (has.0, has.1.after); fits = c.requires.fits }

pub returns-then-not-self-clause-follows : goal.returns-then-not-self-clause-follows
returns-then-not-self-clause-follows g c begun packets said (sync, has) =
    let judged = c.in_ok-said.ensures in (
      sync,
      counted_more (orders_of begun.crew.workers) begun.asked packets (remaining c.args.packets) said c.in_ok-said.said.items c.args.self.now _ has
          (judged.follows begun.crew packets said (sync, has.after)).1 (judged.right begun.crew packets said (sync, has.after)) refl refl
          (λ asked. absurd (true≢false (sym asked ∙ c.if-not-self.true))),
    )

pub count-requires : goal.count-requires
count-requires g c =
    let may = c.requires in
    let has = may.stand in
    subst (λ (verdicts : List Verdict). MayCount c.args.self.now.counts (length verdicts)) (sym c.deref.ensures.value)
    (may_count (orders_of may.begun.crew.workers) may.begun.asked may.packets (remaining c.args.packets) may.said c.in_ok-said.said.items c.args.self.now has.1
    c.if-not-self.false (c.in_ok-said.ensures.right may.begun.crew may.packets may.said (has.0, has.1.after)) may.fits)

pub returns-clause-follows : goal.returns-clause-follows
returns-clause-follows g c begun packets said (sync, has) =
    let judged = c.in_ok-said.ensures in (
      sync,
      counted_more (orders_of begun.crew.workers) begun.asked packets (remaining c.args.packets) said c.in_ok-said.said.items c.args.self.now _ has
          (judged.follows begun.crew packets said (sync, has.after)).1 (judged.right begun.crew packets said (sync, has.after)) refl refl
          (λ asked.
          subst (λ (verdicts : List Verdict). HaveCountedOn (policy_facts c.args.self.now.policy.now) c.args.self.now.counts (remaining c.args.packets) verdicts c.count.new.self)
          c.deref.ensures.value c.in_ok-count.ensures),
    )

pub returns-then-not-self-clause-right : goal.returns-then-not-self-clause-right
returns-then-not-self-clause-right g c begun packets said (sync, has) = c.in_ok-said.ensures.right begun.crew packets said (sync, has.after)

pub returns-clause-right : goal.returns-clause-right
returns-clause-right g c begun packets said (sync, has) = c.in_ok-said.ensures.right begun.crew packets said (sync, has.after)
