-- A caller that has seen another caller count, or notes something else, and did nothing else.
use Rattle.std.proofs.Common.{◌≡◌, ℕ, ◌≤◌, Bool, true, List}
use Rattle.bihash_words.specs.Sizes.{Sizes}
use Rattle.bihash_rule.specs.Words.{Stands}
use Rattle.bihash_rule.specs.Callers.{HasNumbers, IsWhole}
use Rattle.bihash_rule.specs.Buckets.{IsOpenIf, StandsStillIf}
use Rattle.bihash_rule.specs.PageStores.{LeftIf, all_used}
use Rattle.bihash_rule.specs.Views.{no_notes}
use Rattle.bihash_rule.specs.WordRule.{TableState, HaveMetIf, IsView}
use Rattle.bihash_rule.specs.declared.view.Notes.{Notes}
use Rattle.bihash_rule.specs.declared.view.View.{View}
use Rattle.bihash_steps.proofs.Lists.{no_row}

module _ (z : Sizes) (words : List ℕ) (count : ℕ) (t : TableState) (j : ℕ) where
  -- what is noted is so
  pub record AreSo (lone : Bool) (notes : Notes) : Type 0 where
    pub open_bucket : IsOpenIf z t.bucket notes.open_bucket
    pub still : lone ≡ true → StandsStillIf z words notes.open_bucket
    pub row : lone ≡ true → Stands words 0 notes.row
    pub left : LeftIf z (all_used z t.openings t.bucket) notes.left
    pub meeting : HaveMetIf z t notes.meeting

  noted : (v : View) → IsView z words count t j v → AreSo v.lone v.notes
  noted v ok = record { open_bucket = ok.open_bucket; still = ok.still; row = ok.row; left = ok.left; meeting = ok.meeting }

  nothing_noted : (lone : Bool) → AreSo lone no_notes
  nothing_noted lone = record { open_bucket = tt; still = λ _. tt; row = λ _. no_row words; left = tt; meeting = tt }

  pub seen_view : (v : View) (seen : ℕ) (lone : Bool) (notes : Notes) → HasNumbers seen v.records → seen ≤ count
      → (lone ≡ true → IsWhole v.records count) → AreSo lone notes → IsView z words count t j v
      → IsView z words count t j (record v { seen = seen; lone = lone; notes = notes })
  seen_view v seen lone notes numbers low whole so ok = record {
    informed = ok.informed;
    numbers = numbers;
    seen = low;
    lone = whole;
    able = ok.able;
    bucket = ok.bucket;
    only = ok.only;
    store = ok.store;
    only_store = ok.only_store;
    block = ok.block;
    open_bucket = so.open_bucket;
    still = so.still;
    row = so.row;
    short = ok.short;
    left = so.left;
    meeting = so.meeting;
  }

  -- it notes nothing
  pub unnoted_view : (v : View) → IsView z words count t j v → IsView z words count t j (record v { notes = no_notes })
  unnoted_view v ok = seen_view v v.seen v.lone no_notes ok.numbers ok.seen ok.lone (nothing_noted v.lone) ok

  -- it saw this count, and notes nothing or what it noted before
  pub counted_view : (v : View) (seen : ℕ) (lone : Bool) → HasNumbers seen v.records → seen ≤ count → (lone ≡ true → IsWhole v.records count)
      → IsView z words count t j v → IsView z words count t j (record v { seen = seen; lone = lone; notes = no_notes })
  counted_view v seen lone numbers low whole = seen_view v seen lone no_notes numbers low whole (nothing_noted lone)

  pub recounted_view : (v : View) (seen : ℕ) → HasNumbers seen v.records → seen ≤ count → IsView z words count t j v
      → IsView z words count t j (record v { seen = seen })
  recounted_view v seen numbers low ok = seen_view v seen v.lone v.notes numbers low ok.lone (noted v ok) ok
