use Rattle.std.proofs.Common.{◌≡◌, ◌≤◌, ◌<◌, ◌+◌, ℕ, length}
use Rattle.std.specs.Prelude.{slice_index_or}
use Rattle.packet_view.specs.CheckedCaptures.{remaining}
use Rattle.flow_dealing.specs.inner.Chunks.{IsAhead}
use Rattle.flow_dealing.proofs.chunk_jobs.chunks_ahead.Given as goal

abbrev pub invariant-loop-chunk : goal.invariant-loop-chunk
invariant-loop-chunk g l = record {
  many : length l.chunks.items ≡ l.chunk;
  inside : l.first ≤ length (remaining l.fn.packets);
  all : l.chunk ≡ l.fn.count → l.first ≡ length (remaining l.fn.packets);
  begin : ℕ → ℕ;
  starts : begin 0 ≡ 0;
  here : begin l.chunk ≡ l.first;
  each : (i : ℕ) (d : _) → i < l.chunk
      → IsAhead g.A.Shape g.B.Shape l.fn.dealer l.fn.number l.fn.packets (begin i) (begin (i + 1)) (slice_index_or l.chunks.items i d);
}
