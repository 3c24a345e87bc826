-- A lone caller that loads the words of its row, one after the other, and the blocks among them.
use Rattle.std.specs.Prelude.{◌≡◌, ◌≤◌, ◌+◌, ◌^◌, ℕ, List, length}
use Rattle.bihash_words.specs.Sizes.{Sizes}
use Rattle.bihash_rule.specs.Words.{Stands, all_words, block_words, page_at}
use Rattle.bihash_rule.specs.Blocks.{places}
use Rattle.bihash_rule.specs.Callers.{IsLawfulCaller}
use Rattle.bihash_steps.specs.Renewals.{AreRowWords}
use Rattle.bihash_steps.specs.Seats.{CallerState, with_view}
use Rattle.bihash_rule.specs.declared.view.Extent.{Extent}
use Rattle.bihash_table.specs.inner.Scans.{IsWordOf}

-- the same caller, lawful, whatever it notes now
pub record HasNoted (z : Sizes) (s t : CallerState) : Type 0 where
  pub same : t ≡ with_view s (record s.view { notes = t.view.notes })
  pub lawful : IsLawfulCaller z t.view

-- it noted the first n words, which are these
pub record HasLoaded (z : Sizes) (s t : CallerState) (n : ℕ) (words : List ℕ) : Type 0 where
  pub noted : HasNoted z s t
  pub row : t.view.notes.row ≡ words
  pub counted : n ≡ length words
  pub all : n ≡ all_words z → AreRowWords z t.view words

-- these words of a row have, where the word of its bucket says, a block with this extent
pub record LiesIn (z : Sizes) (words : List ℕ) (word : ℕ) (e : Extent) (block : List ℕ) : Type 0 where
  pub names : IsWordOf z word e
  pub near : e.page + 2 ^ e.size.log2 ≤ z.pages + 1
  pub size : length block ≡ block_words z e.page e.size.log2
  pub stands : Stands words (page_at z e.page) block

-- they are all words of the row, and the block that the word of its bucket names has so many places at least
pub record HasBlockIn (z : Sizes) (words : List ℕ) (word count : ℕ) : Type 0 where
  pub wide : length words ≡ all_words z
  pub extent : Extent
  pub block : List ℕ
  pub lies : LiesIn z words word extent block
  pub inside : (e : Extent) → IsWordOf z word e → count ≤ places e.page e.size.log2

-- what is told of that block
abbrev pub OfBlockIn : Sizes → List ℕ → ℕ → (Extent → List ℕ → Type 0) → Type 0
OfBlockIn z words word tells = (e : Extent) (block : List ℕ) → LiesIn z words word e block → tells e block
