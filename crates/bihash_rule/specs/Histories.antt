-- The writes of a bucket in their order, and when an answered call is legal on them.
use Rattle.std.specs.Prelude.{◌≡◌, ℕ, ◌+◌, ◌<◌, ◌≤◌, ◌++◌, Bool, true, false, List, [], ◌∷◌, length, slice_index_or, Option, Some, None}
use Rattle.std.proofs.Math.ListN.{take}
use lib.ListN.{get_elem?}
use mathlib.Core.Option.{some}
use Rattle.std.specs.FinMap.{from_entries, get}
use Rattle.bihash_words.specs.Maps.{Pairs, Bounds, Event, IsEvent, written}
use Rattle.bihash_words.specs.Patches.{IsStorable, free_mark}
use Rattle.bihash_words.specs.declared.patch.Reply.{Reply}
use Rattle.bihash_words.specs.declared.patch.Reply.TheVariants.{Kept, Changed, Worn, Full, NoPages}
use Rattle.bihash_words.specs.Sizes.{Sizes}
pub use Rattle.bihash_words.specs.Sizes.{bucket_of}
use Rattle.bihash_rule.specs.declared.view.Write.{Write}
use Rattle.bihash_rule.specs.declared.view.Call.{Call}
use Rattle.bihash_rule.specs.declared.view.Entry.{Entry}
use Rattle.bihash_rule.specs.declared.view.Openings.{Openings}
use Rattle.bihash_rule.specs.declared.view.PageStore.{PageStore}

-- what bounds the map of a bucket
abbrev pub bounds_of : Sizes → Bounds
bounds_of z = record { limit = z.limit; max_log2 = z.max_log2 }

-- a key of this bucket
pub record IsKeyOf (z : Sizes) (b : ℕ) (key : List ℕ) : Type 0 where
  pub long : length key ≡ z.key_words
  pub home : bucket_of z key ≡ b

-- a pair that may stand in this bucket: its value is a word, and no mark of a free place
pub record IsPairOf (z : Sizes) (b : ℕ) (key : List ℕ) (value : ℕ) : Type 0 where
  pub home : IsKeyOf z b key
  pub storable : value < free_mark

-- the map with which bucket b of a row with these openings began
abbrev pub opening_in : Openings → ℕ → Pairs
opening_in openings b = from_entries (slice_index_or openings.pairs b [])

-- the map after these writes, from the map m
abbrev pub replay : Pairs → List Write → Pairs
replay m [] = m
replay m (w ∷ ws) = replay (written m w.key w.change w.recycling) ws

-- the map after the first n writes
abbrev pub after : Pairs → List Write → ℕ → Pairs
after opening H n = replay opening (take n H)

-- what a write did, seen as an event at the map m
abbrev pub event_of_write : Pairs → Write → Event
event_of_write m w = record {
  key = w.key;
  found = get m w.key;
  change = w.change;
  reply = Changed (get m w.key);
  recycling = w.recycling;
}

-- a write of bucket b that follows n others, which left the map m
pub record IsWrite (z : Sizes) (b n : ℕ) (m : Pairs) (w : Write) : Type 0 where
  pub key : IsKeyOf z b w.key
  pub storable : IsStorable w.change
  pub changes : IsEvent (bounds_of z) m n (event_of_write m w) (written m w.key w.change w.recycling)

-- a write list: at most `limit` writes, each of which changes the map that those before it left; the pairs
-- of the map that it starts from are the bucket's
pub record IsWriteList (z : Sizes) (b : ℕ) (opening : Pairs) (H : List Write) : Type 0 where
  pub short : length H ≤ z.limit
  pub each : (n : ℕ) (w : Write) → get_elem? H n ≡ some w → IsWrite z b n (after opening H n) w
  pub home : (key : List ℕ) (value : ℕ) → get opening key ≡ Some value → IsPairOf z b key value

-- xs is the beginning of ys
pub record IsPrefix (xs ys : List Write) : Type 0 where
  pub rest : List Write
  pub whole : ys ≡ xs ++ rest

-- the log xs is the beginning of the log ys
pub record Begins (xs ys : List Entry) : Type 0 where
  pub rest : List Entry
  pub whole : ys ≡ xs ++ rest

-- whether a reply tells of a write
abbrev pub is_changed : Reply → Bool
is_changed (Kept found) = false
is_changed (Changed found) = true
is_changed (Worn found) = false
is_changed Full = false
is_changed (NoPages log2 left) = false

-- what an entry bears of the page store that was noted: a refusal for want of pages has it, and no other
abbrev pub store_of : Reply → Option PageStore → Option PageStore
store_of (Kept found) noted = None
store_of (Changed found) noted = None
store_of (Worn found) noted = None
store_of Full noted = None
store_of (NoPages log2 left) noted = noted

abbrev pub event_of : Call → Event
event_of c = record { key = c.key; found = c.found; change = c.change; reply = c.reply; recycling = c.recycling }

-- the call is what a bounded map answers at the map m, after n writes
abbrev pub IsAnswer : Sizes → Pairs → ℕ → Call → Type 0
IsAnswer z m n c = (m' : Pairs) × IsEvent (bounds_of z) m n (event_of c) m'

-- the write that a call of this caller number made
abbrev pub write_of : ℕ → Call → Write
write_of by c = record { by = by; key = c.key; change = c.change; recycling = c.recycling }

-- A legal call on the history H. A write is the one of H that its stamp names, and an answer at the map
-- before it. Any other call is an answer at the map that its stamp names. Only a refusal for want of pages
-- bears a page store.
pub record IsLegal (z : Sizes) (opening : Pairs) (H : List Write) (by : ℕ) (c : Call) : Type 0 where
  pub key : IsKeyOf z c.bucket c.key
  pub seen : c.stamp ≤ length H
  pub write : is_changed c.reply ≡ true → (n : ℕ) × (c.stamp ≡ n + 1)
      × (get_elem? H n ≡ some (write_of by c)) × IsAnswer z (after opening H n) n c
  pub other : is_changed c.reply ≡ false → IsAnswer z (after opening H c.stamp) c.stamp c
  pub store : c.store ≡ store_of c.reply c.store
