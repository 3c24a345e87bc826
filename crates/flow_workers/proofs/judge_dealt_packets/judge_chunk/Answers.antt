use Rattle.std.proofs.Common.{◌∙◌, ◌+◌, ap, arith, drop, map, refl, subst, sym}
use Rattle.std.specs.List.{AllZip}
use Rattle.packet_view.specs.Captures.{packet_facts}
use Rattle.packet_view.specs.CheckedCaptures.{remaining}
use Rattle.flow_filter.specs.OneThread.{layout_of}
use Rattle.flow_dealing.specs.Dealt.{IsDealtPacket, picked, place_of}
use Rattle.flow_workers.proofs.DealtLemmas.{may_age, may_judge_aged, sighting_aged}
use Rattle.flow_workers.proofs.OwnLemmas.{HasLeft, all_left, may_other, may_plain, next_fits, next_judged, other_inside, own_over}
use Rattle.flow_workers.proofs.judge_dealt_packets.judge_chunk.Goals as goal
use Rattle.flow_workers.proofs.judge_dealt_packets.judge_chunk.Goals.{in-Other+in_ok-judge_by_view-in-Other, in-Plain+in_ok-judge_sighting-in-Plain}

pub loop-dealt-init : goal.loop-dealt-init
loop-dealt-init g c =
    let chunk = c.args.chunk.now in
    all_left g.A.Shape g.B.Shape c.args.batch.now c.args.worker c.args.first chunk c.as_slice-own.result.now c.args.share.now
    (subst (λ ds. AllZip (IsDealtPacket (layout_of g.A.Shape g.B.Shape) (map packet_facts chunk.others.items)) ds
    (picked c.args.worker 0 chunk.workers.items (drop c.args.first (remaining c.args.batch.now.packets))))
    (sym (c.as_slice-own.ensures.value ∙ ap (λ list. list.items) c.index.ensures))
    (c.requires.of.own.each c.args.worker c.index.result.now c.requires.few))
    c.requires.idle

pub overflow_add-at : goal.overflow_add-at
overflow_add-at g c =
    next_fits g.A.Shape g.B.Shape c.args.batch.now c.args.worker c.args.first c.args.chunk.now c.args.share.now
    c.loop-dealt.share c.requires c.as_slice-own.result.now c.loop-dealt.dealt-index _ c.loop-dealt-test.true
    c.loop-dealt.invariant c.in-Plain.place (ap place_of c.in-Plain.is)

pub age_where_due-requires : goal.age_where_due-requires
age_where_due-requires g c =
    let may =
    may_plain g.A.Shape g.B.Shape c.args.batch.now c.args.worker c.args.first c.args.chunk.now c.args.share.now
    c.loop-dealt.share c.requires c.as_slice-own.result.now c.loop-dealt.dealt-index _ c.loop-dealt-test.true
    c.loop-dealt.invariant c.in-Plain.place c.in-Plain.seen c.in-Plain.is in
    may_age g.A.Shape g.B.Shape c.args.batch.now c.args.worker (c.args.first + c.in-Plain.place) c.in-Plain.seen.moment
    may.packet c.loop-dealt.share may.may may.is.moment

pub judge_sighting-requires : goal.judge_sighting-requires
judge_sighting-requires g c =
    sighting_aged g.A.Shape g.B.Shape c.args.batch.now c.args.worker (c.args.first + c.in-Plain.place) c.in-Plain.seen
    c.loop-dealt.share c.age_where_due.new.share
    (may_plain g.A.Shape g.B.Shape c.args.batch.now c.args.worker c.args.first c.args.chunk.now c.args.share.now
    c.loop-dealt.share c.requires c.as_slice-own.result.now c.loop-dealt.dealt-index _ c.loop-dealt-test.true
    c.loop-dealt.invariant c.in-Plain.place c.in-Plain.seen c.in-Plain.is) c.age_where_due.ensures

pub overflow_add-at-in-Other : goal.overflow_add-at-in-Other
overflow_add-at-in-Other g c =
    next_fits g.A.Shape g.B.Shape c.args.batch.now c.args.worker c.args.first c.args.chunk.now c.args.share.now
    c.loop-dealt.share c.requires c.as_slice-own.result.now c.loop-dealt.dealt-index _ c.loop-dealt-test.true
    c.loop-dealt.invariant c.in-Other.place (ap place_of c.in-Other.is)

pub offset_bounds-others-other : goal.offset_bounds-others-other
offset_bounds-others-other g c =
    let inside =
    other_inside g.A.Shape g.B.Shape c.args.batch.now c.args.worker c.args.first c.args.chunk.now c.args.share.now
    c.loop-dealt.share c.requires c.as_slice-own.result.now c.loop-dealt.dealt-index _ c.loop-dealt-test.true
    c.loop-dealt.invariant c.in-Other.place c.in-Other.other c.as_slice-others.result.now
    c.as_slice-others.ensures.value c.in-Other.is in
    let long = c.as_slice-others.type_inv.1 in
    omega arith

pub bounds-others-other : goal.bounds-others-other
bounds-others-other g c =
    other_inside g.A.Shape g.B.Shape c.args.batch.now c.args.worker c.args.first c.args.chunk.now c.args.share.now
    c.loop-dealt.share c.requires c.as_slice-own.result.now c.loop-dealt.dealt-index _ c.loop-dealt-test.true
    c.loop-dealt.invariant c.in-Other.place c.in-Other.other c.as_slice-others.result.now
    c.as_slice-others.ensures.value c.in-Other.is

pub age_where_due-requires-in-Other : goal.age_where_due-requires-in-Other
age_where_due-requires-in-Other g c =
    may_age g.A.Shape g.B.Shape c.args.batch.now c.args.worker (c.args.first + c.in-Other.place) _ _ c.loop-dealt.share
    (may_other g.A.Shape g.B.Shape c.args.batch.now c.args.worker c.args.first c.args.chunk.now c.args.share.now
    c.loop-dealt.share c.requires c.as_slice-own.result.now c.loop-dealt.dealt-index _ c.loop-dealt-test.true
    c.loop-dealt.invariant c.in-Other.place c.in-Other.other c.as_slice-others.result.now _
    c.as_slice-others.ensures.value c.in-Other.is) refl

pub judge_by_view-requires : goal.judge_by_view-requires
judge_by_view-requires g c =
    may_judge_aged g.A.Shape g.B.Shape c.args.batch.now c.args.worker (c.args.first + c.in-Other.place) _
    c.loop-dealt.share c.age_where_due-in-Other.new.share
    (may_other g.A.Shape g.B.Shape c.args.batch.now c.args.worker c.args.first c.args.chunk.now c.args.share.now
    c.loop-dealt.share c.requires c.as_slice-own.result.now c.loop-dealt.dealt-index _ c.loop-dealt-test.true
    c.loop-dealt.invariant c.in-Other.place c.in-Other.other c.as_slice-others.result.now _
    c.as_slice-others.ensures.value c.in-Other.is) c.age_where_due-in-Other.ensures

pub loop-dealt-preserved : goal.loop-dealt-preserved
loop-dealt-preserved g c = elim c.match-dealt.branch [
  | in-Plain+in_ok-judge_sighting-in-Plain w ↦
      subst (HasLeft g.A.Shape g.B.Shape c.args.batch.now c.args.worker c.args.first c.args.chunk.now
      (drop (c.loop-dealt.dealt-index + 1) c.as_slice-own.result.now) c.args.share.now) (sym w.share-is)
      (next_judged g.A.Shape g.B.Shape c.args.batch.now c.args.worker c.args.first c.args.chunk.now c.args.share.now
      c.loop-dealt.share c.requires c.as_slice-own.result.now c.loop-dealt.dealt-index _ c.loop-dealt-test.true
      c.loop-dealt.invariant w.in-Plain.place w.age_where_due.new.share w.judge_sighting.new.share
      (ap place_of w.in-Plain.is) w.age_where_due.ensures w.in_ok-judge_sighting-in-Plain.ensures)
  | in-Other+in_ok-judge_by_view-in-Other w ↦
      subst (HasLeft g.A.Shape g.B.Shape c.args.batch.now c.args.worker c.args.first c.args.chunk.now
      (drop (c.loop-dealt.dealt-index + 1) c.as_slice-own.result.now) c.args.share.now) (sym w.share-is)
      (next_judged g.A.Shape g.B.Shape c.args.batch.now c.args.worker c.args.first c.args.chunk.now c.args.share.now
      c.loop-dealt.share c.requires c.as_slice-own.result.now c.loop-dealt.dealt-index _ c.loop-dealt-test.true
      c.loop-dealt.invariant w.in-Other.place w.age_where_due-in-Other.new.share w.judge_by_view.new.share
      (ap place_of w.in-Other.is) w.age_where_due-in-Other.ensures w.in_ok-judge_by_view-in-Other.ensures)
]

pub returns : goal.returns
returns g c =
    own_over g.A.Shape g.B.Shape c.args.batch.now c.args.worker c.args.first c.args.chunk.now c.requires.of c.args.share.now
    c.loop-dealt.share c.as_slice-own.result.now c.loop-dealt.dealt-index c.loop-dealt-test.false c.loop-dealt.invariant
