use Rattle.std.proofs.Common.{◌≡◌, ◌<◌, ℕ, [], length}
use Rattle.std.specs.Prelude.{slice_index_or}
use Rattle.flow_workers.proofs.verdict_merge.let_go_merged.Given as goal

abbrev pub invariant-loop-worker : goal.invariant-loop-worker
invariant-loop-worker g l = record {
  count : length l.shares.items ≡ length l.fn.shares.items;
  callers : (i : ℕ) (d e : _) → i < length l.fn.shares.items
      → (slice_index_or l.shares.items i e).callers ≡ (slice_index_or l.fn.shares.items i d).callers;
  silent : (i : ℕ) (d : _) → i < l.worker → (slice_index_or l.shares.items i d).said.items ≡ [];
}
