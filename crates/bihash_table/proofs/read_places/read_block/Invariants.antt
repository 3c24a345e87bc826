use Rattle.std.proofs.Common.{◌≡◌, length}
use Rattle.bihash_table.specs.inner.OpenReads.{HasRead}
use Rattle.bihash_table.proofs.Copies.{AreRead}
use Rattle.bihash_table.proofs.read_places.read_block.Given as goal

-- the first places were read
abbrev pub invariant-loop-place : goal.invariant-loop-place
invariant-loop-place g l = record {
  sized : length l.out ≡ length l.initial.out;
  read : HasRead l.initial.seat l.seat (λ _ block. AreRead g.S.Shape l.out l.place block);
}
