-- Who has each page of the page store.
use Rattle.std.specs.Prelude.{◌≡◌, ℕ, ◌+◌, ◌^◌, ◌<◌, ◌≤◌, List, Option, Some, None, zero, suc}
use mathlib.Core.Option.{none, some}
use mathlib.Core.Option as maybe
use lib.ListN.{get_elem?}

-- 2 ^ log2 pages side by side
pub record PageRun : Type 0 where
  pub page : ℕ
  pub log2 : ℕ

abbrev pub IsWithin : PageRun → ℕ → Type 0
IsWithin run page = (run.page ≤ page) × (page < run.page + 2 ^ run.log2)

-- a bucket, a place in the list of returned blocks of one log2, the pages that were never handed out, or
-- a seat
pub data Owner : Type 0 where
  of_bucket : ℕ → Owner
  returned_at : ℕ → ℕ → Owner
  never_used : Owner
  held_by : ℕ → Owner

-- Each page from 1 to `pages` has one owner. The pages up to the used mark lie in their owners' blocks,
-- those above it were never handed out.
pub record IsPartition (pages used : ℕ) (has : Owner → Option PageRun) : Type 0 where
  pub owner : ℕ → Owner
  pub no_run : has never_used ≡ None
  pub inside : (o : Owner) (run : PageRun) → has o ≡ Some run → (1 ≤ run.page)
      × (run.page + 2 ^ run.log2 ≤ used + 1)
  pub owned : (o : Owner) (run : PageRun) (page : ℕ) → has o ≡ Some run → IsWithin run page
      → owner page ≡ o
  pub covered : (page : ℕ) → 1 ≤ page → page ≤ used → (run : PageRun) × (has (owner page) ≡ Some run)
      × IsWithin run page
  pub above : (page : ℕ) → used < page → owner page ≡ never_used
  pub few : used ≤ pages

-- the pages of the block of this log2 at a page, where page 0 stands for no block
abbrev pub run_of : ℕ → ℕ → Option PageRun
run_of zero log2 = None
run_of (suc page) log2 = Some (record { page = suc page; log2 = log2 })

abbrev pub run_at : ℕ → maybe.Option ℕ → Option PageRun
run_at log2 none = None
run_at log2 (some page) = Some (record { page = page; log2 = log2 })

-- what each owner has, by the blocks of the buckets, the lists of returned blocks, and the blocks that
-- seats hold
abbrev pub runs_of : (ℕ → Option PageRun) → (ℕ → List ℕ) → (ℕ → Option PageRun) → Owner → Option PageRun
runs_of buckets returned held (of_bucket b) = buckets b
runs_of buckets returned held (returned_at log2 i) = run_at log2 (get_elem? (returned log2) i)
runs_of buckets returned held never_used = None
runs_of buckets returned held (held_by seat) = held seat
