use Rattle.std.proofs.Common.{◌≤◌, ◌*◌}
use Rattle.bihash_words.specs.Sizes.{sizes_of}
use Rattle.bihash_table.specs.inner.OpenReads.{HasRead}
use Rattle.bihash_table.proofs.PairReads.{NoneFree}
use Rattle.bihash_table.proofs.open_bucket_search.room_in_open_bucket.Given as goal

-- no place so far is free
abbrev pub invariant-loop-place : goal.invariant-loop-place
invariant-loop-place g l = record {
  behind : 4 * l.from ≤ l.place;
  read : HasRead l.initial.seat l.seat (NoneFree (sizes_of g.S.Shape) (4 * l.from) l.place);
}
