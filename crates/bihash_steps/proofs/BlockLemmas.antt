-- A bucket without pairs has no block.
use Rattle.std.proofs.Common.{◌≡◌, ℕ, ◌<◌, List, [], Some, refl, arith}
use Rattle.std.specs.FinMap.{get}
use Rattle.bihash_words.specs.Maps.{Pairs}
use Rattle.bihash_words.specs.Sizes.{Sizes}
use Rattle.bihash_rule.specs.Blocks.{IsBlockOf, no_block, places}

nowhere : (i : ℕ) → i < places 0 0 → ⊥
nowhere i less = omega arith

pub bare_block : (z : Sizes) (m : Pairs) → ((key : List ℕ) (v : ℕ) → get m key ≡ Some v → ⊥) → IsBlockOf z no_block [] m
bare_block z m none = record {
  absent = λ _. refl;
  bare = λ _. refl;
  rule = record {
    small = omega arith;
    once = λ key v w i j h. absurd (nowhere i h.pair.0);
    paged = λ key v i h. absurd (nowhere i h.pair.0);
  };
  map = record {
    mapped = λ key v i h. absurd (nowhere i h.pair.0);
    found = λ key v there. absurd (none key v there);
  };
}
