use Rattle.std.proofs.Common.{◌∙◌, ◌≡◌, ◌<◌, ◌+◌, ◌||◌, ◌^◌, List, ap, arith, length, refl, rules, subst, sym}
use Rattle.packet_view.specs.CheckedCaptures.{remaining}
use Rattle.session_state.specs.declared.verdict.Verdict.{Verdict}
use Rattle.compared_verdicts.specs.Meeting.{unmet_from}
use Rattle.racl_runs.specs.Crews.{orders_of}
use Rattle.racl_runs.proofs.ComparedLemmas.{compared_more, may_compare}
use Rattle.racl_runs.proofs.compared_judging.ComparingJudge.judge.Goals as goal

pub judge-requires : goal.judge-requires
judge-requires g c =
    let has = c.requires.stand in
    record { begun = c.requires.begun.crew; packets = c.requires.packets; said = c.requires.said; stand = (has.0, has.1.after); fits = c.requires.fits }

pub any_unmet-unmet-requires : goal.any_unmet-unmet-requires
any_unmet-unmet-requires g c =
    let may = c.requires in
    let has = may.stand in
    subst (λ (verdicts : List Verdict). c.args.self.now.judged + length verdicts < 2 ^ 64) (sym c.deref.ensures.value)
    (may_compare (orders_of may.begun.crew.workers) may.begun.expectations.now may.packets (remaining c.args.packets) may.said c.in_ok-said.said.items c.args.self.now has.1
    (c.in_ok-said.ensures.right may.begun.crew may.packets may.said (has.0, has.1.after)) may.fits)

pub overflow_add-self : goal.overflow_add-self
overflow_add-self g c =
    let may = c.requires in
    let has = may.stand in
    let count : c.len.result ≡ length c.in_ok-said.said.items = search rules in
    let fits = may_compare (orders_of may.begun.crew.workers) may.begun.expectations.now may.packets (remaining c.args.packets) may.said c.in_ok-said.said.items c.args.self.now has.1
    (c.in_ok-said.ensures.right may.begun.crew may.packets may.said (has.0, has.1.after)) may.fits in
    omega (arith, fits, count)

pub returns-clause-follows : goal.returns-clause-follows
returns-clause-follows g c begun packets said (sync, has) =
    let judged = c.in_ok-said.ensures in
    let count : c.len.result ≡ length c.in_ok-said.said.items = search rules in (
      sync,
      compared_more (orders_of begun.crew.workers) begun.expectations.now packets (remaining c.args.packets) said c.in_ok-said.said.items c.args.self.now _ has
          (judged.follows begun.crew packets said (sync, has.after)).1 (judged.right begun.crew packets said (sync, has.after)) refl
          (ap (λ n. c.args.self.now.judged + n) count)
          (c.either-self.ensures ∙ ap (λ b. c.args.self.now.unmet || b)
          (c.any_unmet-unmet.ensures ∙ ap (unmet_from c.args.self.now.expectations.now (c.args.self.now.judged + 1)) c.deref.ensures.value)),
    )

pub returns-clause-right : goal.returns-clause-right
returns-clause-right g c begun packets said (sync, has) = c.in_ok-said.ensures.right begun.crew packets said (sync, has.after)
