use Rattle.std.proofs.Common.{◌≡◌, ◌<◌, ◌+◌, ℕ, length}
use Rattle.std.specs.Prelude.{slice_index_or}
use Rattle.flow_workers.specs.inner.Shares.{AreFresh, IsUnused}
use Rattle.flow_workers.proofs.share_splitting.split_shares.Given as goal

abbrev pub invariant-loop : goal.invariant-loop
invariant-loop g l = record {
  callers : AreFresh l.tables l.left;
  count : length l.shares.items + 1 ≡ l.counter;
  each : (i : ℕ) (d : _) → i < length l.shares.items → IsUnused l.tables l.ages (slice_index_or l.shares.items i d);
}
