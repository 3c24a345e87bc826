-- The cases of a packet that was prepared.
use Rattle.std.proofs.Common.{◌∙◌, sym}
use Rattle.packet_view.specs.Frames.{frame_facts}
use Rattle.flow_workers.proofs.JudgedPackets.{refused, ruled_by}
use Rattle.flow_workers.proofs.ShortPackets.{flow_updated}
use Rattle.flow_workers.proofs.ViewedPacketLemmas.{told_answered, told_settled}
use Rattle.flow_workers.proofs.packet_verdict.judge_as.Goals as goal

pub returns-in-Settled : goal.returns-in-Settled
returns-in-Settled g c =
    told_settled _ _ _ c.args.filter.now c.args.packet.now g.D.HasReading.ruling _ _ _ c.requires.asks.idle
    c.requires.ruling c.in-Settled.ensures

pub returns-in-Ok : goal.returns-in-Ok
returns-in-Ok g c =
    told_answered _ _ _ c.args.filter.now c.args.packet.now g.D.HasReading.ruling _ _ _ _ c.in-Ok.reply _
    c.requires.ruling c.in-Asks.ensures c.in-Ok.ensures c.verdict.ensures

pub returns-in-Err : goal.returns-in-Err
returns-in-Err g c = record {
  same = c.in-Err.ensures.same;
  idle = c.in-Err.ensures.idle;
  judged = tt;
  no_pages = tt;
  wanted = tt;
  refused = λ policy s seen.
      refused _ _ _ s c.args.packet.now g.D.HasReading.ruling _ _ _
      (ruled_by c.args.filter.now policy s c.args.packet.now g.D.HasReading.ruling seen c.requires.ruling)
      c.in-Asks.ensures c.in-Err.ensures.contended;
  lone = c.in-Err.ensures.lone;
  settled = λ none.
      let flow =
      flow_updated c.args.filter.now.times c.args.packet.now.moment (frame_facts c.args.packet.now.frame.now)
      g.D.HasReading.ruling _ c.in-Asks.ensures in
      absurd (let both = sym flow.1 ∙ none in let f : ⊥ = cc in f);
}
