-- A bucket that a caller saw without its lock, and what words of its block tell that were read since.
use Rattle.std.specs.Prelude.{◌≡◌, ◌≢◌, ℕ, ◌+◌, ◌-◌, ◌*◌, ◌^◌, ◌<◌, ◌≤◌, Bool, true, false, List, length, slice_index, Option, Some, None}
use Rattle.bihash_words.specs.Sizes.{Sizes, sizes_of}
use Rattle.bihash_words.specs.declared.shape.Shape.{Ghosts}
use Rattle.bihash_words.specs.Words.{FitsWord, packed}
use Rattle.bihash_rule.specs.Words.{buckets, block_words, place_words}
use Rattle.bihash_rule.specs.Histories.{IsPrefix}
use Rattle.bihash_rule.specs.Callers.{known_at}
use Rattle.bihash_rule.specs.Blocks.{HasPair, HoldsPair, IsBlockOf, key_in, places, value_in}
use Rattle.bihash_rule.specs.Buckets.{AreReadIn, word_of}
use Rattle.bihash_rule.specs.Views.{nothing_held}
use Rattle.bihash_steps.specs.BucketSteps.{with_history, map_now, with_reading}
use Rattle.bihash_steps.specs.Seats.{CallerState, with_view}
use Rattle.bihash_rule.specs.declared.view.Write.{Write}
use Rattle.bihash_rule.specs.declared.view.Extent.{Extent}
use Rattle.bihash_rule.specs.declared.view.Notes.{Notes}
use Rattle.bihash_rule.specs.declared.view.OpenBucket.{OpenBucket}
use Rattle.bihash_rule.specs.declared.view.View.{View}
use Rattle.bihash_rule.specs.Places.{HasPairOf, IsFreeFor, IsOpenTo, IsCrowdedFor}

-- The caller noted an open bucket whose unlocked word was this one, and so a block with this extent. Its
-- words may be loaded, whatever became of them.
pub record NotesBlock (z : Sizes) (v : View) (word : ℕ) (e : Extent) : Type 0 where
  pub open_bucket : OpenBucket
  pub noted : v.notes.open_bucket ≡ Some open_bucket
  pub extent : open_bucket.extent ≡ e
  pub fits : FitsWord (word_of e false open_bucket.version)
  pub stood : word ≡ packed (word_of e false open_bucket.version)
  pub small : e.size.log2 ≤ z.max_log2
  pub near : e.page + 2 ^ e.size.log2 ≤ z.pages + 1
  pub size : length open_bucket.block ≡ block_words z e.page e.size.log2

-- The caller saw bucket b without its lock, knows the history that it had then, and holds nothing. The
-- block that it noted holds the pairs which that history leaves.
pub record HasOpen (z : Sizes) (v : View) (b word : ℕ) : Type 0 where
  pub inside : b < buckets z
  pub held : v.holds ≡ nothing_held
  pub extent : Extent
  pub block : NotesBlock z v word extent
  pub bucket : block.open_bucket.bucket ≡ b
  pub version : block.open_bucket.version ≡ length (known_at v.known b)
  pub short : length (known_at v.known b) ≤ z.limit
  pub pairs : IsBlockOf z extent block.open_bucket.block (map_now v b)

-- the bucket was seen from the view v
pub record IsOpened (z : Sizes) (v w : View) (b word : ℕ) : Type 0 where
  pub history : List Write
  pub begins : IsPrefix (known_at v.known b) history
  pub notes : Notes
  pub is : w ≡ record (with_history v b history) { notes = notes }
  -- a lone caller knew the history before
  pub alone : v.lone ≡ true → length history ≤ length (known_at v.known b)
  pub listed : b < length v.known.writes
  pub has : HasOpen z w b word

-- From the view v to w the caller read words of the open bucket and did nothing else. What they tell of
-- the block holds on the condition that they are the block's.
pub record Saw (v w : View) (tells : Extent → List ℕ → Type 0) : Type 0 where
  pub more : List (ℕ × ℕ)
  pub is : w ≡ with_reading v more
  pub told : (o : OpenBucket) → v.notes.open_bucket ≡ Some o → AreReadIn more o.block → tells o.extent o.block

-- the same of a caller, which is the one that it was
pub record HasRead (s t : CallerState) (tells : Extent → List ℕ → Type 0) : Type 0 where
  pub same : t ≡ with_view s t.view
  pub saw : Saw s.view t.view tells

-- The caller is one of this row and may read the open bucket whose word was this one, whose block has so many
-- places at least.
pub record MayRead (z : Sizes) (row : _) (s : CallerState) (word count : ℕ) : Type 0 where
  pub own : s.row ≡ row
  pub extent : Extent
  pub block : NotesBlock z s.view word extent
  pub inside : count ≤ places extent.page extent.size.log2

-- the key and the value that are at place i
abbrev pub StandsAt : {A K : Type 0} → Ghosts A K → ℕ → K × ℕ → Extent → List ℕ → Type 0
StandsAt g i pair e block = (key_in (sizes_of g) block i ≡ g.words_of pair.0) × (value_in (sizes_of g) block i ≡ pair.1)

-- whether the last word of the key is at place i: where it doesn't, the key's pair isn't there
abbrev pub LastWordTells : Sizes → List ℕ → ℕ → Bool → Extent → List ℕ → Type 0
LastWordTells z key i true e block = slice_index block (i * place_words z + (z.key_words - 1))
    ≡ slice_index key (z.key_words - 1)
LastWordTells z key i false e block = HasPairOf z e block key i → ⊥

-- what the marks of the four places of a page tell
abbrev pub AreMarks : Sizes → List ℕ → ℕ → Bool × Bool × Bool × Bool → Extent → List ℕ → Type 0
AreMarks z key first marks e block = LastWordTells z key first marks.0 e block
    × LastWordTells z key (first + 1) marks.1 e block × LastWordTells z key (first + 2) marks.2 e block
    × LastWordTells z key (first + 3) marks.3 e block

-- how many marks are set, which is the first that is, where one is, and the marks but that one
abbrev one_if : Bool → ℕ
one_if true = 1
one_if false = 0

abbrev pub set_count : Bool × Bool × Bool × Bool → ℕ
set_count marks = one_if marks.0 + one_if marks.1 + one_if marks.2 + one_if marks.3

abbrev pub first_set : Bool × Bool × Bool × Bool → ℕ
first_set (true, b, c, d) = 0
first_set (false, true, c, d) = 1
first_set (false, false, true, d) = 2
first_set (false, false, false, d) = 3

abbrev pub later_set : Bool × Bool × Bool × Bool → Bool × Bool × Bool × Bool
later_set (true, b, c, d) = (false, b, c, d)
later_set (false, true, c, d) = (false, false, c, d)
later_set (false, false, true, d) = (false, false, false, d)
later_set (false, false, false, d) = (false, false, false, false)

-- what a look at place i found: the value of the key's pair, or that it isn't there
abbrev pub IsValueAt : Sizes → List ℕ → ℕ → Option ℕ → Extent → List ℕ → Type 0
IsValueAt z key i (Some value) e block = HoldsPair z e block key value i
IsValueAt z key i None e block = HasPairOf z e block key i → ⊥

-- the same, where the last word of the key is at place i
abbrev pub TellsValue : Sizes → List ℕ → ℕ → Option ℕ → Extent → List ℕ → Type 0
TellsValue z key i found e block = LastWordTells z key i true e block → IsValueAt z key i found e block

-- what a look at the places from one to before another found: where the key's pair stands, with its value
abbrev pub IsPairAmong : Sizes → List ℕ → ℕ → ℕ → Option (ℕ × ℕ) → Extent → List ℕ → Type 0
IsPairAmong z key from to (Some pair) e block = HoldsPair z e block key pair.1 pair.0
IsPairAmong z key from to None e block = (i : ℕ) → from ≤ i → i < to → HasPairOf z e block key i → ⊥

-- the same of all places that are open to the key
abbrev pub IsPairIn : Sizes → List ℕ → Option (ℕ × ℕ) → Extent → List ℕ → Type 0
IsPairIn z key (Some pair) e block = HoldsPair z e block key pair.1 pair.0
IsPairIn z key None e block = (i : ℕ) → IsOpenTo z e key i → HasPairOf z e block key i → ⊥

-- the value that a look for a pair found
abbrev pub value_of : Option (ℕ × ℕ) → Option ℕ
value_of None = None
value_of (Some pair) = Some pair.1

-- what a look for a free place found: the first one that is open to the key, or that there is none
abbrev pub IsFirstFreeIn : Sizes → List ℕ → Option ℕ → Extent → List ℕ → Type 0
IsFirstFreeIn z key (Some i) e block = IsFreeFor z e block key i × ((k : ℕ) → k < i → IsFreeFor z e block key k → ⊥)
IsFirstFreeIn z key None e block = IsCrowdedFor z e block key

-- whether a pair is at another place than i
abbrev pub OtherPairTells : Sizes → ℕ → Bool → Extent → List ℕ → Type 0
OtherPairTells z i true e block = (k : ℕ) × (k ≢ i) × HasPair z e block k
OtherPairTells z i false e block = (k : ℕ) → HasPair z e block k → k ≡ i
