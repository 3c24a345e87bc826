use Rattle.std.proofs.Common.{◌≡◌, ◌∙◌, ap, subst, sym}
use Rattle.std.specs.Prelude.{◌<◌}
use Rattle.std.specs.Option.{ForSome}
use Rattle.std.proofs.lemmas.Option.{same_Some}
use Rattle.packet_view.specs.Frames.{IsFrame, frame_facts}
use Rattle.packet_view.specs.PlainFrames.{IsPlainFrame, IsTcpOrUdp}
use Rattle.packet_view.specs.declared.plain_packet.PlainFrame.{PlainFrame}
use Rattle.session_state.specs.declared.flow.Flow.{Flow}
use Rattle.flow_filter.specs.InterfaceFilters.{IsReadyAt}
use Rattle.flow_filter.specs.OneThread.{layout_of}
use Rattle.flow_filter.specs.Readings.{IsSeenAt}
use Rattle.flow_dealing.specs.Dealings.{hash_in}
use Rattle.flow_dealing.specs.HashedFlows.{IsHashed}
use Rattle.flow_workers.specs.inner.Jobs.{policy_of}
use Rattle.flow_workers.proofs.DealtLemmas.{may_judge_viewed}
use Rattle.flow_workers.proofs.worker_packet_verdict.judge_sighting.Goals as goal

pub at-frame-requires : goal.at-frame-requires
at-frame-requires g c = subst (λ (f : PlainFrame). IsTcpOrUdp f.packet) (sym c.frame.ensures) c.requires.is.frame.kind

pub new-viewed-requires-clause-shown : goal.new-viewed-requires-clause-shown
new-viewed-requires-clause-shown g c =
    let packet = c.requires.packet in
    let is = c.requires.is in
    let own = c.at-filter.result.now.own in
    let frame = frame_facts c.at-frame.result in
    let shown : IsSeenAt own packet frame =
    subst (λ n. IsFrame packet.frame (record { number = n; own = own }) frame) (sym is.interface)
    (c.at-frame.ensures.shown packet.frame (subst (IsPlainFrame packet.frame) (sym c.frame.ensures) is.frame)) in
    c.hashed_flow-hashed.ensures.flow ∙ sym (is.flow own frame shown)

pub new-viewed-requires-clause-side : goal.new-viewed-requires-clause-side
new-viewed-requires-clause-side g c =
    subst (λ flow. ForSome flow (λ (f : Flow). f.side < 2)) (sym c.hashed_flow-hashed.ensures.flow)
    (λ x some. subst (λ (f : Flow). f.side < 2) (same_Some _ x some) c.requires.is.side)

pub record_verdict-requires : goal.record_verdict-requires
record_verdict-requires g c =
    let batch = c.args.batch.now in
    let packet = c.requires.packet in
    let is = c.requires.is in
    let filter = c.at-filter.result.now in
    let frame = frame_facts c.at-frame.result in
    let plain : IsPlainFrame packet.frame c.frame.result = subst (IsPlainFrame packet.frame) (sym c.frame.ensures) is.frame in
    let shown : IsSeenAt filter.own packet frame =
    subst (λ n. IsFrame packet.frame (record { number = n; own = filter.own }) frame) (sym is.interface)
    (c.at-frame.ensures.shown packet.frame plain) in
    let hashed : IsHashed (layout_of g.A.Shape g.B.Shape) c.hashed_flow-hashed.result =
    subst (λ flow. ForSome flow (λ (f : Flow). c.hashed_flow-hashed.result.hash ≡ hash_in (layout_of g.A.Shape g.B.Shape) f.key))
    (sym c.hashed_flow-hashed.ensures.flow)
    (λ x some. subst (λ (f : Flow). c.hashed_flow-hashed.result.hash ≡ hash_in (layout_of g.A.Shape g.B.Shape) f.key)
    (same_Some _ x some) (c.hashed_flow-hashed.ensures.hash ∙ is.hashed)) in
    may_judge_viewed g.A.Shape g.B.Shape batch c.args.worker c.args.at packet filter _ frame _ c.requires.may
    (subst (λ n. IsReadyAt (policy_of batch.setup) batch.setup.filter.now.times n filter) (sym is.interface) c.at-filter.ensures)
    (c.new-viewed.ensures.seen filter.own packet is.moment shown)
    (sym (ap frame_facts c.new-viewed.ensures.frame)) shown
    (λ other seen. c.at-frame.ensures.only packet.frame plain other
    (subst (λ n. IsFrame packet.frame (record { number = n; own = filter.own }) other) is.interface seen))
    (subst (IsHashed (layout_of g.A.Shape g.B.Shape)) (sym c.new-viewed.ensures.hashed) hashed)
