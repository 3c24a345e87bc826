-- What a new key wants of a bucket that has a map.
use Rattle.std.specs.Prelude.{ℕ, List}
use Rattle.bihash_words.specs.Blocks.{HoldsMap}
use Rattle.bihash_words.specs.Maps.{Pairs}
use Rattle.bihash_words.specs.Pages.{paging_of}
use Rattle.bihash_words.specs.declared.block_size.BlockSize.{BlockSize}
use Rattle.bihash_words.specs.declared.shape.Shape.{Ghosts}
use Rattle.bihash_plan.specs.declared.plan_answer.Plan.TheVariants.{Grow}
use Rattle.bihash_plan.specs.Blocks.{HasPairAt, IsLawfulBlock}
use Rattle.bihash_plan.specs.Plans.{IsPlan}

-- a block of this size, as the plan of a block that holds the map says
pub record IsPlanned {A K : Type 0} (g : Ghosts A K) (m : Pairs) (key : K) (size : BlockSize) : Type 0 where
  pub places : List (K × ℕ)
  pub was : BlockSize
  pub lawful : IsLawfulBlock (paging_of g) was.log2 was.linear places
  pub map : HoldsMap g.words_of (HasPairAt places) m
  pub plan : IsPlan (paging_of g) was.log2 was.linear places key (Grow size)
