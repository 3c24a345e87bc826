use Rattle.std.proofs.Common.{ap}
use Rattle.packet_view.specs.Captures.{packets_at}
use Rattle.packet_view.proofs.RecordListLemmas.{front_packets, others_whole}
use Rattle.packet_view.proofs.packets_of_records.Records.take.Goals as goal

pub invariant_of-self : goal.invariant_of-self
invariant_of-self c =
    let before = c.args.self.now in
    record {
      whole = rw c.front_of.ensures.behind
          (others_whole before.order before.count before.bytes.now c.requires.some before.whole);
    }

pub returns : goal.returns
returns c =
    let before = c.args.self.now in
    rw (c.front_of.ensures.packet, c.front_of.ensures.behind)
    (ap (packets_at before.interface) (front_packets before.order before.count before.bytes.now c.requires.some))
