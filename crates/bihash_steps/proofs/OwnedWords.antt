-- Words of blocks of two owners are different words, and none of them stands before the pages.
use Rattle.std.proofs.Common.{◌≡◌, ◌≢◌, ◌⊎◌, ℕ, zero, suc, ◌+◌, ◌-◌, ◌*◌, ◌/◌, ◌^◌, ◌<◌, ◌≤◌, List, [], ◌∷◌, length, set, refl, sym, ap, ◌∙◌, subst, ⊎_elim, arith, mul-le-mul_right, suc-mul, div-add-mod', length-set, get_or-set_same, get_or-set_other, Option, Some, None}
use mathlib.Core.Logic.{dite}
use mathlib.Core.Option.{some, some-ne-none}
use native.Mathlib.Decide.{ℕ_discrete, dec_lt}
use native.Mathlib.Nat.{add-mul, mod-lt}
use lib.ListN.{get_elem?}
use Rattle.std.specs.Prelude.{slice_index}
use Rattle.bihash_words.specs.Sizes.{Sizes}
use Rattle.bihash_rule.specs.Words.{count_of, buckets, page_words, front_words, bucket_at, page_at, block_words, all_words, Stands}
use Rattle.bihash_rule.specs.Blocks.{no_block}
use Rattle.bihash_rule.specs.Partition.{PageRun, Owner, of_bucket, held_by, IsPartition, run_of, runs_of}
use Rattle.bihash_rule.specs.Buckets.{BucketState}
use Rattle.bihash_rule.specs.PageStores.{HoldsBlockIf, returned_in, run_in, run_held, runs_now}
use Rattle.bihash_rule.specs.declared.view.Extent.{Extent}
use Rattle.bihash_rule.specs.declared.view.PageStore.{PageStore}
use Rattle.bihash_rule.specs.declared.view.HeldBlock.{HeldBlock}
use Rattle.bihash_rule.specs.declared.view.View.{View}
use Rattle.bihash_steps.proofs.BucketPlaces.{one_place, place_inside}
use Rattle.bihash_steps.proofs.CountWord.{front, block_set}
use Rattle.bihash_steps.proofs.Frames.{Beside}

-- ---- Pages of n words

-- the page of word i of so many pages is one of them
pub page_below : (n pages i : ℕ) → 1 ≤ n → i < pages * n → i / n < pages
page_below n pages i some_word l = dite (dec_lt (i / n) pages) (λ h. h) (λ not. absurd (
    let m : pages * n ≤ i / n * n = mul-le-mul_right n (let h : pages ≤ i / n = omega arith in h) in let d = div-add-mod' i n in
    let x : ℕ = pages * n in let y : ℕ = i / n * n in let m' : x ≤ y = m in omega arith))

-- the words of an earlier page stand before those of a later one
earlier_page : (n p q i k : ℕ) → 1 ≤ n → p + i / n < q + k / n → p * n + i < q * n + k
earlier_page n p q i k some_word h =
    let m : suc (p + i / n) * n ≤ (q + k / n) * n = mul-le-mul_right n h in
    let d = div-add-mod' i n in let d' = div-add-mod' k n in let r = mod-lt i {m = n} some_word in
    let e : suc (p + i / n) * n ≡ (p * n + i / n * n) + n = suc-mul (p + i / n) n ∙ ap (λ (t : ℕ). t + n) (add-mul p (i / n) n) in
    let e' : (q + k / n) * n ≡ q * n + k / n * n = add-mul q (k / n) n in
    let a : ℕ = p * n in let b : ℕ = i / n * n in let a' : ℕ = q * n in let b' : ℕ = k / n * n in
    let m' : (a + b) + n ≤ a' + b' = subst (λ (t : ℕ). t ≤ a' + b') e (subst (λ (t : ℕ). suc (p + i / n) * n ≤ t) e' m) in omega arith

-- a block has pages where it has a word
pub run_word : (z : Sizes) (page log2 k : ℕ) → k < block_words z page log2
    → (run_of page log2 ≡ Some (record { page = page; log2 = log2 })) × (k < 2 ^ log2 * page_words z)
run_word z zero log2 k l = absurd (omega arith)
run_word z (suc page) log2 k l = (refl, l)

-- pages from the first on are a run
pub run_some : (page log2 : ℕ) → 1 ≤ page → run_of page log2 ≡ Some (record { page = page; log2 = log2 })
run_some zero log2 l = absurd (omega arith)
run_some (suc page) log2 l = refl

module _ (z : Sizes) (used : ℕ) (has : Owner → Option PageRun) (parted : IsPartition z.pages used has) where
  -- blocks of two owners have no page in common, so no word
  pub words_apart : (o o' : Owner) (run run' : PageRun) (i i' : ℕ) → has o ≡ Some run → has o' ≡ Some run' → o ≢ o'
      → i < 2 ^ run.log2 * page_words z → i' < 2 ^ run'.log2 * page_words z → page_at z run.page + i ≢ page_at z run'.page + i'
  words_apart o o' run run' i i' e e' ne l l' same =
      let n : ℕ = page_words z in
      let some_word : 1 ≤ n = omega arith in
      let first = (parted.inside o run e).0 in
      let first' = (parted.inside o' run' e').0 in
      let low = page_below n (2 ^ run.log2) i some_word l in
      let low' = page_below n (2 ^ run'.log2) i' some_word l' in
      let p : ℕ = run.page - 1 in let q : ℕ = run'.page - 1 in
      let x : ℕ = p * n in let y : ℕ = q * n in
      dite (ℕ_discrete (run.page + i / n) (run'.page + i' / n))
      (λ eq. ne (sym (parted.owned o run (run.page + i / n) e (omega arith, omega arith))
      ∙ (ap parted.owner eq ∙ parted.owned o' run' (run'.page + i' / n) e' (omega arith, omega arith))))
      (λ dif. dite (dec_lt (p + i / n) (q + i' / n))
      (λ less. let h : x + i < y + i' = earlier_page n p q i i' some_word less in omega arith)
      (λ not. let h : y + i' < x + i = earlier_page n q p i' i some_word (omega arith) in omega arith))

  -- a block ends with the last page, or before it
  pub near_end : (o : Owner) (run : PageRun) → has o ≡ Some run → run.page + 2 ^ run.log2 ≤ z.pages + 1
  near_end o run e = let h = (parted.inside o run e).1 in let few = parted.few in omega arith

  -- also where there may be none
  pub extent_near_end : (o : Owner) (e : Extent) → has o ≡ run_of e.page e.size.log2 → (e.page ≡ 0 → e ≡ no_block)
      → e.page + 2 ^ e.size.log2 ≤ z.pages + 1
  extent_near_end o e mine absent = go e.page refl
    where
      go : (page : ℕ) → e.page ≡ page → e.page + 2 ^ e.size.log2 ≤ z.pages + 1
      go zero is = subst (λ (x : Extent). x.page + 2 ^ x.size.log2 ≤ z.pages + 1) (sym (absent is)) (omega arith)
      go (suc page) is = near_end o (record { page = e.page; log2 = e.size.log2 })
          (mine ∙ (ap (λ (t : ℕ). run_of t e.size.log2) is ∙ (λ t. Some (record { page = sym is t; log2 = e.size.log2 }))))

  -- a store into the block of an owner whose words may change
  beside_run : (words : List ℕ) (b id i n : ℕ) (o : Owner) (run : PageRun) → has o ≡ Some run → i < 2 ^ run.log2 * page_words z
      → ((o' : Owner) → o' ≢ of_bucket b → o' ≢ held_by id → o' ≢ o) → Beside z has words (set words (page_at z run.page + i) n) b id
  beside_run words b id i n o run e l away = record {
    word = λ c h ne. let x : ℕ = (run.page - 1) * page_words z in let p = place_inside z c h in
        get_or-set_other words (page_at z run.page + i) (bucket_at z c) n 0 (λ q. omega arith);
    block = λ o' run' i' f ne ne' lt. get_or-set_other words (page_at z run.page + i) (page_at z run'.page + i') n 0
        (λ q. words_apart o' o run' run i' i f e (away o' ne ne') lt l q);
  }

  -- a store into the block of bucket b, or of seat id
  pub beside_block : (words : List ℕ) (b id page log2 k n : ℕ)
      → (has (of_bucket b) ≡ run_of page log2) ⊎ (has (held_by id) ≡ run_of page log2)
      → k < block_words z page log2 → Beside z has words (set words (page_at z page + k) n) b id
  beside_block words b id page log2 k n mine l =
      let word = run_word z page log2 k l in
      let run : PageRun = record { page = page; log2 = log2 } in
      ⊎_elim (λ (e : has (of_bucket b) ≡ run_of page log2). beside_run words b id k n (of_bucket b) run (e ∙ word.0) word.1 (λ o' ne ne'. ne))
      (λ (e : has (held_by id) ≡ run_of page log2). beside_run words b id k n (held_by id) run (e ∙ word.0) word.1 (λ o' ne ne'. ne'))
      mine

module _ (z : Sizes) where
  -- ---- Words before the pages

  -- a store before the pages, to no other bucket's word
  pub beside_front : (has : Owner → Option PageRun) (words : List ℕ) (b id i n : ℕ) → i < front_words z + buckets z
      → ((c : ℕ) → c < buckets z → c ≢ b → i ≢ bucket_at z c) → Beside z has words (set words i n) b id
  beside_front has words b id i n before other = record {
    word = λ c h ne. get_or-set_other words i (bucket_at z c) n 0 (λ e. other c h ne (sym e));
    block = λ o run k e ne ne' lt. let x : ℕ = (run.page - 1) * page_words z in
        get_or-set_other words i (page_at z run.page + k) n 0 (λ e. omega arith);
  }

  -- a store to the word of bucket b
  pub beside_bucket : (has : Owner → Option PageRun) (words : List ℕ) (b id n : ℕ) → b < buckets z
      → Beside z has words (set words (bucket_at z b) n) b id
  beside_bucket has words b id n l = beside_front has words b id (bucket_at z b) n (let p = place_inside z b l in omega arith)
      (λ c h ne e. ne (one_place z c b h l (omega arith)))

  -- a store before the bucket words
  pub beside_store : (has : Owner → Option PageRun) (words : List ℕ) (b id i n : ℕ) → i < front_words z
      → Beside z has words (set words i n) b id
  beside_store has words b id i n l = beside_front has words b id i n (omega arith) (λ c h ne e. omega arith)

  -- a store before the pages leaves the words of blocks
  pub front_still : (words : List ℕ) (i n page : ℕ) (xs : List ℕ) → i < front_words z + buckets z → Stands words (page_at z page) xs
      → Stands (set words i n) (page_at z page) xs
  front_still words i n page xs before h k l = let x : ℕ = (page - 1) * page_words z in
      get_or-set_other words i (page_at z page + k) n 0 (λ e. omega arith) ∙ h k l

  -- a store before the pages leaves a held block
  pub block_keeps : (words : List ℕ) (i n : ℕ) → i < front_words z + buckets z → (block : Option HeldBlock) → HoldsBlockIf z words block
      → HoldsBlockIf z (set words i n) block
  block_keeps words i n before None h = tt
  block_keeps words i n before (Some k) h = record {
    some_page = h.some_page;
    small = h.small;
    size = h.size;
    stands = front_still words i n k.page k.words before h.stands;
  }

  -- a store after the words of the page store leaves them
  pub store_still : (words : List ℕ) (i n : ℕ) → front_words z ≤ i → (k : ℕ) → 1 ≤ k → k < front_words z
      → slice_index (set words i n) k ≡ slice_index words k
  store_still words i n behind k some_word l = get_or-set_other words i k n 0 (λ e. omega arith)

  pub count_still : (words : List ℕ) (i n : ℕ) → 1 ≤ i → count_of (set words i n) ≡ count_of words
  count_still words i n behind = get_or-set_other words i 0 n 0 (λ e. omega arith)

  -- ---- Words are in the row

  pub bucket_after : (b : ℕ) → 1 ≤ bucket_at z b
  bucket_after b = let h = front z in omega arith

  pub bucket_inside : (b : ℕ) → b < buckets z → bucket_at z b < all_words z
  bucket_inside b l = let x : ℕ = z.pages * page_words z in let p = place_inside z b l in omega arith

  pub page_after : (page k : ℕ) → front_words z ≤ page_at z page + k
  page_after page k = let x : ℕ = (page - 1) * page_words z in omega arith

  -- a word of a block that ends with the last page, or before it
  pub word_of_block : (page log2 k : ℕ) → page + 2 ^ log2 ≤ z.pages + 1 → k < block_words z page log2 → page_at z page + k < all_words z
  word_of_block zero log2 k near h = absurd (omega arith)
  word_of_block (suc page) log2 k near h =
      let n : ℕ = page_words z in
      let p : ℕ = suc page - 1 in
      let m : (p + 2 ^ log2) * n ≤ z.pages * n = mul-le-mul_right n (omega arith) in
      let e : (p + 2 ^ log2) * n ≡ p * n + 2 ^ log2 * n = add-mul p (2 ^ log2) n in
      let x : ℕ = p * n in let y : ℕ = 2 ^ log2 * n in let w : ℕ = z.pages * n in
      let m' : x + y ≤ w = subst (λ (t : ℕ). t ≤ w) e m in let h' : k < y = h in omega arith

-- a list follows a store of one of its words
pub stored_stands : (words : List ℕ) (at k n : ℕ) (xs : List ℕ) → at + k < length words → k < length xs → Stands words at xs
    → Stands (set words (at + k) n) at (set xs k n)
stored_stands words at k n xs inside below stood i l = dite (ℕ_discrete i k)
    (λ e. ap (slice_index (set words (at + k) n)) (let same : at + i ≡ at + k = omega arith in same) ∙ (get_or-set_same words (at + k) n 0 inside
    ∙ (sym (get_or-set_same xs k n 0 below) ∙ ap (slice_index (set xs k n)) (sym e))))
    (λ ne. get_or-set_other words (at + k) (at + i) n 0 (λ e. ne (omega arith))
    ∙ (stood i (let long = length-set xs k n in omega arith) ∙ sym (get_or-set_other xs k i n 0 ne)))

-- ---- What seats hold where one of them gets another view

pub at_same : {A : Type 0} (l : List A) (i : ℕ) (a b : A) → get_elem? l i ≡ some a → get_elem? (set l i b) i ≡ some b
at_same [] i a b e = absurd (some-ne-none a (sym e))
at_same (x ∷ xs) zero a b e = refl
at_same (x ∷ xs) (suc i) a b e = at_same xs i a b e

at_other : {A : Type 0} (l : List A) (i j : ℕ) (b : A) → j ≢ i → get_elem? (set l i b) j ≡ get_elem? l j
at_other [] i j b ne = refl
at_other (x ∷ xs) zero zero b ne = absurd (ne refl)
at_other (x ∷ xs) zero (suc j) b ne = refl
at_other (x ∷ xs) (suc i) zero b ne = refl
at_other (x ∷ xs) (suc i) (suc j) b ne = at_other xs i j b (λ e. ne (ap suc e))

-- the seat itself
pub run_set : (views : List View) (id : ℕ) (v w : View) → get_elem? views id ≡ some v
    → run_held (get_elem? (set views id w) id) ≡ run_in w.holds.block
run_set views id v w at = ap run_held (at_same views id v w at)

-- the others
pub run_set_other : (views : List View) (id j : ℕ) (w : View) → j ≢ id
    → run_held (get_elem? (set views id w) j) ≡ run_held (get_elem? views j)
run_set_other views id j w ne = ap run_held (at_other views id j w ne)

-- what owners have is equal where it is so for the buckets, the lists and the seats
pub runs_same : (xs ys : ℕ → Option PageRun) (ls ms : ℕ → List ℕ) (hs gs : ℕ → Option PageRun) → ((b : ℕ) → ys b ≡ xs b)
    → ((log2 : ℕ) → ms log2 ≡ ls log2) → ((j : ℕ) → gs j ≡ hs j) → runs_of ys ms gs ≡ runs_of xs ls hs
runs_same xs ys ls ms hs gs a b c = λ t. runs_of (λ k. a k t) (λ k. b k t) (λ k. c k t)

-- no owner gets another block
pub runs_still : (x x' : ℕ → BucketState) (store store' : PageStore) (views : List View) (id : ℕ) (v w : View)
    → ((b : ℕ) → run_of (x' b).extent.page (x' b).extent.size.log2 ≡ run_of (x b).extent.page (x b).extent.size.log2)
    → ((log2 : ℕ) → returned_in store' log2 ≡ returned_in store log2)
    → get_elem? views id ≡ some v → run_in w.holds.block ≡ run_in v.holds.block
    → runs_now x' store' (set views id w) ≡ runs_now x store views
runs_still x x' store store' views id v w extents lists at block = runs_same _ _ _ _ _ _
    extents lists (λ j. block_set views id v w j at block)
