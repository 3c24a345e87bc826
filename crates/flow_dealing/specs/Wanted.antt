-- What a refusal for want of pages says of its bucket's map. What is said of a call stays so, however much more is known.
use Rattle.std.specs.Prelude.{◌≡◌, ◌≤◌, ℕ, Bool, List, length, All}
use Rattle.bihash_words.specs.Blocks.{HoldsMap}
use Rattle.bihash_words.specs.Maps.{Pairs}
use Rattle.bihash_words.specs.Pages.{word_paging}
use Rattle.bihash_words.specs.Sizes.{Sizes}
use Rattle.bihash_words.specs.declared.block_size.BlockSize.{BlockSize}
use Rattle.bihash_words.specs.declared.patch.Reply.TheVariants.{NoPages}
use Rattle.bihash_plan.specs.Blocks.{HasPairAt, IsLawfulBlock}
use Rattle.bihash_plan.specs.Plans.{IsPlan}
use Rattle.bihash_plan.specs.declared.plan_answer.Plan.TheVariants.{Grow}
use Rattle.bihash_rule.specs.Callers.{known_at, opening_at}
use Rattle.bihash_rule.specs.Histories.{after}
use Rattle.bihash_rule.specs.declared.view.Call.{Call}
use Rattle.bihash_rule.specs.declared.view.Known.{Known}
use Rattle.bihash_rule.specs.declared.view.View.{View}

-- the key of these words wants a block of 2 ^ log2 pages, as the plan of a block that holds the map says
pub record WantsBlock (z : Sizes) (m : Pairs) (key : List ℕ) (log2 : ℕ) : Type 0 where
  pub places : List (List ℕ × ℕ)
  pub was : BlockSize
  pub linear : Bool
  pub lawful : IsLawfulBlock (word_paging z) was.log2 was.linear places
  pub map : HoldsMap (λ words. words) (HasPairAt places) m
  pub plan : IsPlan (word_paging z) was.log2 was.linear places key (Grow (record { log2 = log2; linear = linear }))

-- if the call was refused for want of such a block, its key wanted it at the map of its bucket where the call stands: that
-- after as many of the known writes as its stamp says
abbrev pub HasWanted : Sizes → Known → Call → Type 0
HasWanted z known c = (log2 left : ℕ) → c.reply ≡ NoPages log2 left → (c.stamp ≤ length (known_at known c.bucket))
    × WantsBlock z (after (opening_at known c.bucket) (known_at known c.bucket) c.stamp) c.key log2

-- so it is with each call of the caller's records
abbrev pub HaveWanted : Sizes → View → Type 0
HaveWanted z v = All (λ r. All (HasWanted z v.known) r.calls) v.records
