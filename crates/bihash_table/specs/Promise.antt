-- What a call of a shared table leaves of its caller: v is what the caller knew before the call, w what it
-- knows after it. Each line is a fact about one field; docs/DEFINITIONS.md explains the words.
use Rattle.std.specs.Prelude.{◌≡◌, ◌≤◌, ℕ, ◌+◌, ◌++◌, Bool, true, List, [], ◌∷◌, length, Option, Some}
use Rattle.bihash_words.specs.Runs.{writes_of}
use Rattle.bihash_words.specs.Maps.{Event}
use Rattle.bihash_words.specs.Sizes.{Sizes}
use Rattle.bihash_words.specs.declared.patch.Change.{Change}
use Rattle.bihash_words.specs.declared.patch.Reply.{Reply}
use Rattle.bihash_rule.specs.Histories.{IsPrefix, bucket_of}
use Rattle.bihash_steps.specs.BucketCalls.{event}
use Rattle.bihash_rule.specs.Callers.{known_at}
use Rattle.bihash_rule.specs.Logs.{Begins, writes_on}
use Rattle.bihash_rule.specs.Views.{nothing_held}
use Rattle.bihash_steps.specs.BucketSteps.{acting, with_history, push_call}
use Rattle.bihash_rule.specs.declared.view.Call.{Call}
use Rattle.bihash_rule.specs.declared.view.Entry.{Entry}
use Rattle.bihash_rule.specs.declared.view.Write.{Write}
use Rattle.bihash_rule.specs.declared.view.PageStore.{PageStore}
use Rattle.bihash_rule.specs.declared.view.View.{View}
use Rattle.bihash_table.specs.Answers.{entry_of, recycled_update, with_locks}

-- The call is the last entry of this log, under this number, behind all that was known of the log before. The
-- writes on its bucket that stand in the log are this history.
pub record IsEntered (known : List Entry) (by : ℕ) (c : Call) (log : List Entry) (history : List Write) : Type 0 where
  pub before : List Entry
  pub begins : Begins known before
  pub is : log ≡ before ++ record { by = by; call = c } ∷ []
  pub writes : writes_on c.bucket log ≡ history

-- The call was answered.
pub record IsAnswered (z : Sizes) (v w : View) (e : Event) : Type 0 where
  -- what is known now of the writes of the key's bucket continues what was known; of others the same is known
  pub history : List Write
  pub begins : IsPrefix (known_at v.known (bucket_of z e.key)) history
  pub known : w.known ≡ (with_history v (bucket_of z e.key) history).known
  -- the acting record has this entry more, whose stamp is how many writes these are; no other record changed
  pub locks : ℕ
  pub noted : Option PageStore
  pub records : w.records ≡ push_call (entry_of z (length history) e noted) (with_locks locks v.records)
  -- the call is entered at the end of the log, where the bucket has just the writes that are known of it
  pub entered : IsEntered v.log (acting v.records) (entry_of z (length history) e noted) w.log history
  -- the count that was seen and the note of a lone caller stay, and nothing is held
  pub seen : w.seen ≡ v.seen
  pub lone : w.lone ≡ v.lone
  pub free : w.holds ≡ nothing_held
  -- a lone caller learned of no write but its own
  pub alone : v.lone ≡ true → length history
      ≤ length (known_at v.known (bucket_of z e.key)) + writes_of e.reply

-- The call was given up. It has no entry, and more may be known of bucket b alone.
pub record IsContended (z : Sizes) (v w : View) (b : ℕ) : Type 0 where
  pub history : List Write
  pub begins : IsPrefix (known_at v.known b) history
  pub known : w.known ≡ (with_history v b history).known
  pub locks : ℕ
  pub records : w.records ≡ with_locks locks v.records
  pub seen : w.seen ≡ v.seen
  pub lone : w.lone ≡ v.lone
  pub free : w.holds ≡ nothing_held
  pub alone : v.lone ≡ true → length history ≤ length (known_at v.known b)
  -- what is known of the log is the same
  pub log : w.log ≡ v.log

-- An update with this expiry was answered so: it may have removed the key of an expired pair for its own.
pub record IsRecycled (z : Sizes) (v w : View) (key : List ℕ) (found : Option ℕ) (change : Change)
    (is_expired : ℕ → Bool) (reply : Reply) : Type 0 where
  pub removed : Option (List ℕ)
  pub answered : IsAnswered z v w (recycled_update key found change is_expired removed reply)
  pub expired : (gone : List ℕ) → removed ≡ Some gone → (value : ℕ) × (is_expired value ≡ true)

-- an update was answered so, on some value that was found
pub record IsUpdated (z : Sizes) (v w : View) (key : List ℕ) (decision : Option ℕ → Change)
    (reply : Reply) : Type 0 where
  pub found : Option ℕ
  pub answered : IsAnswered z v w (event key found (decision found) reply)

-- the same with an expiry
pub record IsUpdatedOver (z : Sizes) (v w : View) (key : List ℕ) (decision : Option ℕ → Change) (is_expired : ℕ → Bool)
    (reply : Reply) : Type 0 where
  pub found : Option ℕ
  pub answered : IsRecycled z v w key found (decision found) is_expired reply
