use Rattle.std.proofs.Common.{◌≡◌, length}
use Rattle.bihash_words.specs.Sizes.{sizes_of}
use Rattle.bihash_table.specs.inner.OpenReads.{HasRead}
use Rattle.bihash_table.proofs.Snapshots.{AreWords}
use Rattle.bihash_table.proofs.read_places.read_place.Given as goal

-- the first words were read
abbrev pub invariant-loop-i : goal.invariant-loop-i
invariant-loop-i g l = record {
  wide : length l.words ≡ 8;
  read : HasRead l.initial.seat l.seat (AreWords (sizes_of g.S.Shape) l.place l.words l.i);
}
