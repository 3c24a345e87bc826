-- The pairs of a bucket's block, found among the words of a row and added to a list place by place.
use Rattle.std.proofs.Common.{◌≡◌, ◌≢◌, ◌∙◌, ◌+◌, ◌*◌, ◌<◌, ◌≤◌, ℕ, zero, suc, List, [], ◌∷◌, ◌++◌, ap, arith, drop, get_or-drop, get_or-take, length, length-drop, length-take-le, slice_index, subst, sym, Result, Ok, Err}
use Rattle.std.proofs.Math.ListN.{take}
use Rattle.std.specs.Prelude.{IfOk, IsErrAnd}
use Rattle.bihash_words.specs.Sizes.{Sizes, sizes_of}
use Rattle.bihash_words.specs.Words.{Bucket, FitsWord, packed}
use Rattle.bihash_words.specs.declared.shape.Shape.{Ghosts}
use Rattle.bihash_rule.specs.Words.{all_words, bucket_at, buckets, page_at, place_words}
use Rattle.bihash_rule.specs.Blocks.{free, places}
use Rattle.bihash_rule.specs.Callers.{known_at}
use Rattle.bihash_steps.specs.Renewals.{AreRowWords}
use Rattle.bihash_rule.specs.Views.{nothing_held}
use Rattle.bihash_rule.specs.declared.view.Extent.{Extent}
use Rattle.bihash_rule.specs.declared.view.View.{View}
use Rattle.bihash_steps.proofs.RenewedRows.{block_there}
use Rattle.bihash_steps.proofs.OwnedWords.{word_of_block}
use Rattle.bihash_table.specs.inner.OpenReads.{StandsAt}
use Rattle.bihash_table.specs.inner.PairLists.{AddsBlock, AddsPlaces, InPart, IsBlockIn, ListsBuckets, ListsPairs}
use Rattle.bihash_table.specs.inner.RowWords.{HasBlockIn, LiesIn, OfBlockIn}
use Rattle.bihash_table.specs.inner.Scans.{IsWordOf}
use Rattle.bihash_table.proofs.PairListLemmas.{part_all, part_free, part_more, part_none}
use Rattle.bihash_table.proofs.PlaceReads.{all_same, place_inside}
use Rattle.bihash_table.proofs.StoreLemmas.{page_is}

-- the words that a lone caller loaded have the block of each bucket
pub block_in : (z : Sizes) (v : View) (words : List ℕ) → AreRowWords z v words → v.holds ≡ nothing_held → (b : ℕ) → b < buckets z
    → (e : Extent) × (block : List ℕ) × LiesIn z words (slice_index words (bucket_at z b)) e block × IsBlockIn z v.known b e block
block_in z v words row idle b inside =
    let there = block_there z v words row idle b inside in
    let found = there.0 in (
      (row.rule.table.bucket b).extent,
      (row.rule.table.bucket b).block,
      record {
        names = record { version = length (known_at v.known b); fits = found.fits; stood = found.stood; small = found.pairs.rule.small };
        near = found.near;
        size = found.size;
        stands = there.1;
      },
      record { pairs = found.pairs; writes = found.writes },
    )

-- they are all words of the row
pub row_wide : (z : Sizes) (v : View) (words : List ℕ) → AreRowWords z v words → length words ≡ all_words z
row_wide z v words row = ap length (sym row.are) ∙ row.rule.wide

pub has_block : (z : Sizes) (v : View) (words : List ℕ) (b word : ℕ) → AreRowWords z v words → v.holds ≡ nothing_held → b < buckets z
    → word ≡ slice_index words (bucket_at z b) → HasBlockIn z words word 0
has_block z v words b word row idle inside is =
    let here = block_in z v words row idle b inside in record {
      wide = row_wide z v words row;
      extent = here.0;
      block = here.1;
      lies = rw is here.2;
      inside = λ e names. omega arith;
    }

-- a block with a place has a page
pub some_page : (page log2 n : ℕ) → n + 1 ≤ places page log2 → 1 ≤ page
some_page zero log2 n l = absurd (omega arith)
some_page (suc page) log2 n l = omega arith

-- the words of a place of the block are words of the row
pub place_in_row : (z : Sizes) (words block : List ℕ) (word page i w : ℕ) (e : Extent) → LiesIn z words word e block → page ≡ e.page
    → w ≡ z.key_words → i + 1 ≤ places e.page e.size.log2 → page_at z page + i * (w + 1) + w < all_words z
place_in_row z words block word page i w e lies is wide inside =
    let x : ℕ = i * place_words z in
    let there : page_at z e.page + (x + z.key_words) < all_words z = word_of_block z e.page e.size.log2 (x + z.key_words) lies.near
    (place_inside z e.page e.size.log2 i z.key_words (omega arith) (omega arith)) in
    rw (is, wide) (let y : ℕ = page_at z e.page in let all : y + x + z.key_words < all_words z = omega arith in all)

-- the same, of a place of the block that the word of its bucket names
pub last_in_row : (z : Sizes) (words : List ℕ) (word i page w : ℕ) → HasBlockIn z words word (i + 1)
    → ((x : Bucket) → FitsWord x → word ≡ packed x → page ≡ x.page) → w ≡ z.key_words → page_at z page + i * (w + 1) + w < length words
last_in_row z words word i page w h tells wide = subst (λ (n : ℕ). page_at z page + i * (w + 1) + w < n) (sym h.wide)
    (place_in_row z words h.block word page i w h.extent h.lies (page_is z word h.extent h.lies.names page tells) wide
    (h.inside h.extent h.lies.names))

module _ {A K : Type 0} (g : Ghosts A K) (words : List ℕ) (word : ℕ) where
  abbrev z : Sizes
  z = sizes_of g

  -- the key of a place, by its words, and the value
  pub place_there : ((w : List ℕ) → length w ≡ g.WORDS → g.words_of (g.key_of w) ≡ w) → (at i value : ℕ) (key : K) (e : Extent)
      (block : List ℕ) → LiesIn z words word e block → i < places e.page e.size.log2 → length words ≡ all_words z
      → at ≡ page_at z e.page + i * place_words z → key ≡ g.key_of (take g.WORDS (drop at words))
      → value ≡ slice_index words (at + g.WORDS) → StandsAt g i (key, value) e block
  place_there law at i value key e block lies inside wide there is has =
      let part : List ℕ = take g.WORDS (drop at words) in
      let last : i * place_words z + g.WORDS < length block =
      subst (λ (n : ℕ). i * place_words z + g.WORDS < n) (sym lies.size) (place_inside z e.page e.size.log2 i g.WORDS inside (omega arith)) in
      let row : page_at z e.page + (i * place_words z + g.WORDS) < all_words z =
      word_of_block z e.page e.size.log2 (i * place_words z + g.WORDS) lies.near (place_inside z e.page e.size.log2 i g.WORDS inside (omega arith)) in
      let x : ℕ = i * place_words z in
      let y : ℕ = page_at z e.page in
      let rest = length-drop at words in
      let counted : length part ≡ g.WORDS = length-take-le g.WORDS (drop at words) (omega arith) in (
        all_same z block part i e.page e.size.log2 lies.size inside counted
            (λ k low. sym (lies.stands (x + k) (omega arith))
            ∙ (ap (slice_index words) (let same : y + (x + k) ≡ at + k = omega arith in same)
            ∙ (sym (get_or-drop at words k 0) ∙ sym (get_or-take g.WORDS (drop at words) k 0 low))))
            ∙ (sym (law part counted) ∙ ap g.words_of (sym is)),
        sym (lies.stands (x + g.WORDS) last) ∙ (ap (slice_index words) (let same : y + (x + g.WORDS) ≡ at + g.WORDS = omega arith in same) ∙ sym has),
      )

  pub added_none : (ps : List (K × ℕ)) → OfBlockIn z words word (λ e block. AddsPlaces g 0 e block ps ps)
  added_none ps e block lies known b has lists = part_none g known b e block ps lists.pairs

  module _ (n : ℕ) (old ps : List (K × ℕ)) (pair : K × ℕ) (before : OfBlockIn z words word (λ e block. AddsPlaces g n e block old ps))
      (now : OfBlockIn z words word (StandsAt g n pair)) where
    pub added_free : pair.1 ≡ free → OfBlockIn z words word (λ e block. AddsPlaces g (n + 1) e block old ps)
    added_free is e block lies known b has lists =
        part_free g known b e block n ps ((now e block lies).1 ∙ is) (before e block lies known b has lists)

    pub added_pair : (count : ℕ) → ((e : Extent) → IsWordOf z word e → count ≡ places e.page e.size.log2) → n < count → pair.1 ≢ free
        → OfBlockIn z words word (λ e block. AddsPlaces g (n + 1) e block old (ps ++ pair ∷ []))
    added_pair count counts low taken e block lies known b has lists =
        let here = now e block lies in
        part_more g known b e block has n pair ps (record {
          pair = (subst (λ (m : ℕ). n < m) (counts e lies.names) low, λ is. taken (sym here.1 ∙ is));
          stands = here.0;
          has = here.1;
        }) (before e block lies known b has lists)

  -- nothing is told where it was refused
  pub added_not : {T E : Type 0} (Q : E → Type 0) (P : T → Extent → List ℕ → Type 0) (r : Result T E) → IsErrAnd r Q
      → OfBlockIn z words word (λ e block. IfOk r (λ x. P x e block))
  added_not Q P (Ok x) err e block lies = absurd err
  added_not Q P (Err fault) err e block lies = tt

  pub added_all : (n : ℕ) (old ps : List (K × ℕ)) → ((e : Extent) → IsWordOf z word e → n ≡ places e.page e.size.log2)
      → OfBlockIn z words word (λ e block. AddsPlaces g n e block old ps) → OfBlockIn z words word (λ e block. AddsBlock g e block old ps)
  added_all n old ps counts added e block lies known b has lists =
      part_all g known b e block has ps lists.home (subst (λ (m : ℕ). ListsPairs g ps (InPart z known b e block m)) (counts e lies.names)
      (added e block lies known b has lists))

-- all pairs of the bucket's block were added to the list
pub bucket_added : {A K : Type 0} (g : Ghosts A K) (v : View) (words : List ℕ) (b word : ℕ) (old new : List (K × ℕ))
    → AreRowWords (sizes_of g) v words → v.holds ≡ nothing_held → b < buckets (sizes_of g)
    → word ≡ slice_index words (bucket_at (sizes_of g) b) → OfBlockIn (sizes_of g) words word (λ e block. AddsBlock g e block old new)
    → ListsBuckets g v.known b old → ListsBuckets g v.known (b + 1) new
bucket_added g v words b word old new row idle inside is adds lists =
    let here = block_in (sizes_of g) v words row idle b inside in adds here.0 here.1 (rw is here.2) v.known b here.3 lists
