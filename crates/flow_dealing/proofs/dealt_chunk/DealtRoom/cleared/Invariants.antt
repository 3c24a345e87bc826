use Rattle.std.proofs.Common.{◌≡◌, ◌<◌, ℕ, [], length}
use Rattle.std.specs.Global.{Vec}
use Rattle.std.specs.Prelude.{slice_index_or}
use Rattle.flow_dealing.specs.declared.dealt_chunk.DealtPacket.{DealtPacket}
use Rattle.flow_dealing.proofs.dealt_chunk.DealtRoom.cleared.Given as goal

abbrev pub invariant-loop-worker : goal.invariant-loop-worker
invariant-loop-worker l = record {
  count : length l.own.items ≡ length l.fn.self.own.items;
  each : (i : ℕ) (d : Vec DealtPacket) → i < l.worker → (slice_index_or l.own.items i d).items ≡ [];
}
