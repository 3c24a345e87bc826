-- Copies of the block of an open bucket, word by word and place by place.
use Rattle.std.proofs.Common.{◌≡◌, ◌∙◌, ◌<◌, ◌≤◌, ◌+◌, ◌*◌, ℕ, List, ap, arith, get_or-take, length, length-take-le, set, slice_index, subst, sym}
use Rattle.std.proofs.Math.ListN.{take}
use Rattle.std.proofs.lemmas.Option.{slice_get_within}
use Rattle.bihash_words.specs.Sizes.{Sizes, sizes_of}
use Rattle.bihash_words.specs.declared.shape.Shape.{Ghosts}
use Rattle.bihash_rule.specs.Words.{place_words}
use Rattle.bihash_rule.specs.Blocks.{places}
use Rattle.bihash_rule.specs.declared.view.Extent.{Extent}
use Rattle.bihash_steps.specs.Seats.{CallerState}
use Rattle.bihash_table.specs.inner.OpenReads.{HasRead, NotesBlock, StandsAt}
use Rattle.bihash_rule.specs.Places.{ArePlaces}
use Rattle.bihash_table.proofs.Copies.{AreRead, read_more, read_none, read_place_more, words_counted}
use Rattle.bihash_table.proofs.PlaceReads.{all_same}
use Rattle.bihash_table.proofs.OpenReadLemmas.{note_extent, note_size, read_as, read_nothing, read_then}

-- ---- The words of a place

module _ (z : Sizes) (i : ℕ) where
  -- the first n words of place i were copied
  abbrev pub AreWords : List ℕ → ℕ → Extent → List ℕ → Type 0
  AreWords words n e block = (k : ℕ) → k < n → slice_index words k ≡ slice_index block (i * place_words z + k)

  pub more_words : (words : List ℕ) (n word : ℕ) (u v w : CallerState) → n < length words → HasRead u v (AreWords words n)
      → HasRead v w (λ _ block. word ≡ slice_index block (i * place_words z + n)) → HasRead u w (AreWords (set words n word) (n + 1))
  more_words words n word u v w inside = read_then u v w (λ o noted seen here. read_more o.block words (i * place_words z) n word inside seen here)

-- the key of a place, by its words, and the value
pub read_place : {A K : Type 0} (g : Ghosts A K) → ((w : List ℕ) → length w ≡ g.WORDS → g.words_of (g.key_of w) ≡ w)
    → (u v w : CallerState) (word i n count value last : ℕ) (words : List ℕ) (key : K) (e : Extent) → NotesBlock (sizes_of g) u.view word e → i < places e.page e.size.log2
    → count ≡ g.WORDS → last ≡ g.WORDS → g.WORDS ≤ n → g.WORDS ≤ length words → key ≡ g.key_of (take count words)
    → HasRead u v (AreWords (sizes_of g) i words n) → HasRead v w (λ _ block. value ≡ slice_index block (i * place_words (sizes_of g) + last))
    → HasRead u w (StandsAt g i (key, value))
read_place g law u v w word i n count value last words key e h inside all end past long is = read_then u v w (λ o noted seen here.
    let z : Sizes = sizes_of g in
    let read : List ℕ = take count words in
    let counted : length read ≡ g.WORDS = length-take-le count words (omega arith) ∙ all in
    let there : i < places o.extent.page o.extent.size.log2 =
    subst (λ (x : Extent). i < places x.page x.size.log2) (sym (note_extent z u.view word e o h noted)) inside in (
      all_same z o.block read i o.extent.page o.extent.size.log2 (note_size z u.view word e o h noted) there counted
          (λ k low. sym (seen k (omega arith)) ∙ sym (get_or-take count words k 0 (omega arith)))
          ∙ sym (law read counted) ∙ ap g.words_of (sym is),
      sym (here ∙ ap (λ (k : ℕ). slice_index o.block (i * place_words z + k)) end),
    ))

-- ---- The places of a block

module _ {A K : Type 0} (g : Ghosts A K) where
  pub no_places : (ps : List (K × ℕ)) (v : CallerState) → HasRead v v (λ _ block. AreRead g ps 0 block)
  no_places ps v = read_nothing v (λ e block. read_none g ps block)

  pub more_places : (ps : List (K × ℕ)) (i : ℕ) (pair : K × ℕ) (u v w : CallerState) → i < length ps → HasRead u v (λ _ block. AreRead g ps i block)
      → HasRead v w (StandsAt g i pair)
      → HasRead u w (λ _ block. AreRead g (set ps i pair) (i + 1) block)
  more_places ps i pair u v w inside = read_then u v w (λ o noted seen here. read_place_more g ps i o.block pair inside seen here.0 here.1)

  pub all_places : (ps : List (K × ℕ)) (i word : ℕ) (u v : CallerState) (e : Extent) → NotesBlock (sizes_of g) u.view word e → length ps ≡ places e.page e.size.log2 → length ps ≤ i
      → HasRead u v (λ _ block. AreRead g ps i block) → HasRead u v (λ _ block. ArePlaces g ps block)
  all_places ps i word u v e h count past = read_as u v (λ o noted read. record {
    count =
        let there : length ps ≡ places o.extent.page o.extent.size.log2 =
        subst (λ (x : Extent). length ps ≡ places x.page x.size.log2) (sym (note_extent (sizes_of g) u.view word e o h noted)) count in
        note_size (sizes_of g) u.view word e o h noted ∙ words_counted (sizes_of g) o.extent.page o.extent.size.log2
        ∙ ap (λ (n : ℕ). n * place_words (sizes_of g)) (sym there);
    key = λ j p at. read.key j p (omega (arith, slice_get_within ps j p at)) at;
    value = λ j p at. read.value j p (omega (arith, slice_get_within ps j p at)) at;
  })
