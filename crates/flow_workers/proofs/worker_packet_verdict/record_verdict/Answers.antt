use Rattle.std.proofs.Common.{◌∷◌, [], append_assoc, arith, sym}
use Rattle.std.proofs.lemmas.Option.{slice_get_within}
use Rattle.packet_view.specs.CheckedCaptures.{remaining}
use Rattle.packet_view.specs.Frames.{frame_facts}
use Rattle.flow_filter.specs.Filters.{section_in}
use Rattle.flow_workers.proofs.DealtLemmas.{judged_among, viewed_among}
use Rattle.flow_workers.proofs.JudgedPackets.{is_ruling}
use Rattle.flow_workers.proofs.WorkSteps.{one_more, work_push}
use Rattle.flow_workers.proofs.worker_packet_verdict.record_verdict.Goals as goal

pub overflow_add-number : goal.overflow_add-number
overflow_add-number g c =
    let stands = c.requires.stands in
    let inside = slice_get_within (remaining c.args.batch.now.packets) c.args.at _ stands.there in
    let fits = c.requires.fits in
    omega arith

pub judge_as-requires-clause-ruling : goal.judge_as-requires-clause-ruling
judge_as-requires-clause-ruling g c =
    is_ruling (section_in c.args.filter.now) (frame_facts c.args.packet.now.frame.now)

pub returns : goal.returns
returns g c =
    let stands = c.requires.stands in
    record {
      idle = c.in-Ok.ensures.idle;
      work = λ all among v said old.
          rw (c.in_ok-push.ensures.items, sym (append_assoc said c.args.share.now.said.items (c.in-Ok.verdict ∷ [])))
          (one_more _ _ _ _ _ _ _
          (work_push _ _ _ _ _ _ _ stands.packet (frame_facts c.args.packet.now.frame.now) _
          (viewed_among g.A.Shape g.B.Shape c.args.batch.now all among c.args.at c.args.filter.now c.args.packet.now stands)
          (sym c.requires.mine)
          (judged_among g.A.Shape g.B.Shape c.args.batch.now c.args.at c.args.filter.now c.args.packet.now stands _ _ _
          c.in-Ok.ensures)
          c.in-Ok.ensures.wanted old));
    }
