use Rattle.std.proofs.Common.{◌∙◌, ◌+◌, List, ap, arith, max, refl}
use Rattle.packet_view.specs.Captures.{PacketFacts}
use Rattle.packet_view.proofs.RecordListLemmas.{packets_count}
use Rattle.racl_io.specs.Buffers.{held_by}
use Rattle.capture_shards.specs.OwnRecords.{latest_of}
use Rattle.filter_run.specs.Batches.{batch_facts}
use Rattle.filter_run.proofs.InTurnLemmas.{in_turn_ends, in_turn_gives, next_readable}
use Rattle.filter_run.proofs.captures_in_turn.CapturesInTurnCaptureSource.next.Goals as goal

pub returns-then-self : goal.returns-then-self
returns-then-self c = in_turn_ends c.args.self.now c.new.result.items c.if-self.true c.new.ensures.items

pub batch_of-requires-clause-right : goal.batch_of-requires-clause-right
batch_of-requires-clause-right c = next_readable c.args.self.now c.requires (omega (arith, c.if-self.false)) c.index-self-self.result

pub returns : goal.returns
returns c =
    let old = c.args.self.now in
    let batch = c.in-Ok.batch in (
      c.in-Ok.ensures.0,
      in_turn_gives old _ c.index-self-self.result (batch_facts batch) (omega (arith, c.if-self.false)) c.in-Ok.ensures.1 refl refl refl
          (ap (λ n. old.packets + n) (packets_count batch.order batch.found.count (held_by batch.bytes)))
          (λ asked. c.latest_where-self.ensures asked ∙ ap (λ (ps : List PacketFacts). max old.latest (latest_of ps)) c.packets.ensures),
    )
