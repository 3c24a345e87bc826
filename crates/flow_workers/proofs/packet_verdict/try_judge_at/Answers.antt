-- The packet is the one that was viewed, and the filter at hand is that of its interface.
use Rattle.std.proofs.Common.{◌≡◌, ◌∙◌, ap, refl, subst, sym}
use Rattle.packet_view.specs.Captures.{packet_facts}
use Rattle.packet_view.specs.Frames.{frame_facts}
use Rattle.packet_view.proofs.FrameLemmas.{view_only}
use Rattle.acl_policy.specs.Policies.{SectionFacts, policy_facts}
use Rattle.flow_filter.specs.Filters.{section_in}
use Rattle.flow_filter.specs.Readings.{IsSeenAt}
use Rattle.flow_dealing.specs.Dealings.{flow_of_frame}
use Rattle.flow_workers.specs.Judging.{TookByOneTry}
use Rattle.flow_workers.specs.Verdicts.{HasNoVerdict, HasVerdict}
use Rattle.flow_workers.specs.inner.ViewedPackets.{IsViewedBy}
use Rattle.flow_workers.proofs.AnsweredUpdates.{if_err, if_ok}
use Rattle.flow_workers.proofs.JudgedPackets.{is_ruling}
use Rattle.flow_workers.proofs.packet_verdict.try_judge_at.Goals as goal

pub judge_as-requires-clause-ruling : goal.judge_as-requires-clause-ruling
judge_as-requires-clause-ruling g c =
    is_ruling (section_in c.args.filter.now) (frame_facts c.new-packet.result.frame.now)

pub returns : goal.returns
returns g c = λ whole ready.
    let tells = c.judge_as.ensures in
    let new = c.judge_as.new.callers in
    let packet = packet_facts c.args.packet.now in
    let seen = c.new-packet.ensures.seen _ packet refl c.requires.seen in
    let old = c.args.callers.now in
    let policy = policy_facts whole.policy in
    let by : IsViewedBy policy c.args.filter.now packet c.new-packet.result =
    record { section = ready.section; seen = seen } in
    record {
      same = tells.same;
      idle = tells.idle;
      judged = if_ok _ _ c.judge_as.result
          (λ verdict judged. subst
          (λ times. HasVerdict g.A.Shape g.B.Shape TookByOneTry times policy packet old new verdict)
          ready.lives (judged policy packet by)) tells.judged;
      no_pages = if_ok _ _ c.judge_as.result (λ verdict short. short policy packet by) tells.no_pages;
      refused = if_err _ _ c.judge_as.result
          (λ contended refused. subst (λ times. HasNoVerdict g.A.Shape g.B.Shape times policy packet old new)
          ready.lives (refused policy packet by)) tells.refused;
      lone = tells.lone;
      settled = λ has.
          let own = ap (λ (section : SectionFacts). section.own) (sym ready.section) in
          let framed = subst (λ o. IsSeenAt o packet has.view) own has.framed in
          let viewed : frame_facts c.args.frame.now ≡ has.view =
          view_only _ _ _ c.requires.seen ∙ sym (view_only _ _ _ framed) in
          tells.settled (ap (λ f. flow_of_frame (frame_facts f)) c.new-packet.ensures.frame
          ∙ (ap flow_of_frame viewed ∙ has.shown));
    }
