use Rattle.std.proofs.Common.{◌∙◌, ◌+◌, List, Option, ap, max, refl, subst, sym}
use Rattle.packet_view.specs.Captures.{PacketFacts}
use Rattle.packet_view.proofs.RecordListLemmas.{packets_count}
use Rattle.racl_io.specs.Buffers.{held_by}
use Rattle.capture_shards.specs.OwnRecords.{latest_of}
use Rattle.capture_shards.specs.declared.shard.Shard.{Shard}
use Rattle.filter_run.specs.Batches.{batch_facts}
use Rattle.filter_run.specs.Sharded.{IsPart}
use Rattle.filter_run.specs.Sources.{HasStepped}
use Rattle.filter_run.proofs.ShardedLemmas.{sharded_gives}
use Rattle.filter_run.proofs.sharded.Sharded.next_of_all.Goals as goal

pub returns-in-Ok-Batch : goal.returns-in-Ok-Batch
returns-in-Ok-Batch g c =
    let old = c.args.self.now in
    let batch = c.in-Ok-Batch.batch in
    let (whole, gives) = subst (HasStepped g.S.CaptureSource.gave g.S.CaptureSource.over old.inner c.next.new.self) c.in-Ok-Batch.field-0-is c.in-Ok-Batch.ensures in (
      whole,
      sharded_gives g.S.CaptureSource.gave old (batch_facts batch) (batch_facts batch) _ gives
          (subst (λ (s : Option Shard). IsPart s (batch_facts batch) (batch_facts batch)) (sym c.requires.all) refl) refl refl
          (ap (λ n. old.seen + n) (packets_count batch.order batch.found.count (held_by batch.bytes)))
          (λ asked. c.latest_where-self.ensures asked ∙ ap (λ (ps : List PacketFacts). max old.latest (latest_of ps)) c.packets.ensures),
    )
