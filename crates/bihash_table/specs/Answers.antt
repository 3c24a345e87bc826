-- The entry of an answered call, and what is counted of it.
use Rattle.std.specs.Prelude.{ℕ, Bool, List, [], ◌∷◌, Option}
use Rattle.bihash_words.specs.Expiries.{expired_words}
use Rattle.bihash_words.specs.Maps.{Event, expired_told}
use Rattle.bihash_words.specs.Sizes.{Sizes}
use Rattle.bihash_words.specs.declared.patch.Change.{Change}
use Rattle.bihash_words.specs.declared.patch.Change.TheVariants.{Keep}
use Rattle.bihash_words.specs.declared.patch.Reply.{Reply}
use Rattle.bihash_words.specs.declared.patch.Reply.TheVariants.{Kept}
use Rattle.bihash_steps.specs.BucketCalls.{event}
use Rattle.bihash_rule.specs.Histories.{bucket_of, store_of}
use Rattle.bihash_rule.specs.declared.view.Call.{Call}
use Rattle.bihash_rule.specs.declared.view.PageStore.{PageStore}
use Rattle.bihash_rule.specs.declared.view.Record.{Record}

-- the acting record counts this many locks
abbrev pub with_locks : ℕ → List Record → List Record
with_locks locks [] = []
with_locks locks (r ∷ rs) = record r { locks = locks } ∷ rs

-- how many locks the acting record counts
abbrev pub locks_of : List Record → ℕ
locks_of [] = 0
locks_of (r ∷ rs) = r.locks

-- the entry of an event in a record, after so many writes of its bucket, where this page store was noted
abbrev pub entry_of : Sizes → ℕ → Event → Option PageStore → Call
entry_of z stamp e noted = record {
  bucket = bucket_of z e.key;
  stamp = stamp;
  key = e.key;
  found = e.found;
  change = e.change;
  reply = e.reply;
  recycling = e.recycling;
  store = store_of e.reply noted;
}

-- a search of a key that answered this
abbrev pub search_of : List ℕ → Option ℕ → Event
search_of key found = event key found Keep (Kept found)

-- an update of a key that may remove an expired pair for its own: it bears the expiry where it asked it
abbrev pub recycled_update : List ℕ → Option ℕ → Change → (ℕ → Bool) → Option (List ℕ) → Reply → Event
recycled_update key found change is_expired removed reply = record (event key found change reply) {
  recycling = record { expired = expired_told removed reply (expired_words is_expired); removed = removed };
}
