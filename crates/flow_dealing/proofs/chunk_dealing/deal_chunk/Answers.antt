use Rattle.std.proofs.Common.{◌≡◌, ◌∙◌, ◌+◌, ap, subst, sym, arith, drop, length}
use Rattle.std.proofs.lemmas.List.{length_push}
use Rattle.packet_view.specs.Captures.{packet_facts}
use Rattle.packet_view.specs.CheckedCaptures.{remaining}
use Rattle.packet_view.proofs.BurstLemmas.{left_behind}
use Rattle.flow_dealing.specs.Dealt.{IsDealtTo}
use Rattle.flow_dealing.proofs.DealtLists.{next_there, some_left}
use Rattle.flow_dealing.proofs.HandedPackets.{dealt_push, none_dealt}
use Rattle.flow_dealing.proofs.chunk_dealing.deal_chunk.Goals as goal

pub unreachable-requires : goal.unreachable-requires
unreachable-requires g c =
    let inside = c.requires.inside in
    let here = c.loop-at-test.true in
    some_left (remaining c.args.job.packets) c.loop-at.at (omega arith)
    (c.loop-at.invariant.left ∙ c.in_default.ensures.0)

pub loop-at-init : goal.loop-at-init
loop-at-init g c =
    let job = c.args.job in
    let none = ap length c.requires.empty.none in
    record {
      count = omega arith;
      left = sym (c.new-packets.ensures ∙ c.behind.ensures);
      dealt = none_dealt g.A.Shape g.B.Shape job.dealer (job.number + job.first) (drop job.first (remaining job.packets))
          job.chunk c.requires.empty;
    }

pub deal_next-requires-clause-lists : goal.deal_next-requires-clause-lists
deal_next-requires-clause-lists g c = c.loop-at.invariant.dealt.own.lists

pub loop-at-preserved : goal.loop-at-preserved
loop-at-preserved g c =
    let inv = c.loop-at.invariant in
    let job = c.args.job in
    let chunk = c.loop-at.chunk in
    let taken = inv.left ∙ c.in-Some.ensures in
    let counted = inv.count in
    let did = c.in_ok-deal_next.ensures in
    record {
      count = let longer = ap length did.handed.noted in
          let one = length_push chunk.workers.items did.worker in omega arith;
      left = left_behind _ _ c.loop-at.at _ taken;
      dealt = dealt_push g.A.Shape g.B.Shape job.dealer (job.number + job.first) (drop job.first (remaining job.packets)) chunk _
          did.worker (packet_facts c.in-Some.packet) did.one inv.dealt
          (next_there (remaining job.packets) _ job.first (length chunk.workers.items) _
          (ap (λ n. drop n (remaining job.packets)) counted ∙ taken))
          (subst (λ n. IsDealtTo g.A.Shape g.B.Shape job.dealer n (packet_facts c.in-Some.packet) did.worker)
          (let e : job.number + c.loop-at.at ≡ job.number + job.first + length chunk.workers.items = omega arith in e)
          did.dealt)
          did.handed;
    }
