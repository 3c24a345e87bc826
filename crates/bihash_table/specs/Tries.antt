-- What one try of an update leaves of its caller.
use Rattle.std.specs.Prelude.{◌≡◌, ◌≢◌, ◌≤◌, ℕ, ◌+◌, ◌-◌, Bool, true, false, if◌then◌else◌, Option, Result, Ok, Err, IfOk, IfErr, is_ok}
use Rattle.bihash_words.specs.Sizes.{sizes_of}
use Rattle.bihash_words.specs.declared.shape.Shape.{Ghosts}
use Rattle.bihash_words.specs.declared.patch.Change.{Change}
use Rattle.bihash_words.specs.declared.patch.Reply.{Reply}
use Rattle.bihash_words.specs.declared.patch.Reply.TheVariants.{Kept, Changed, Worn, Full, NoPages}
use Rattle.bihash_rule.specs.Histories.{bucket_of}
use Rattle.bihash_rule.specs.Callers.{IsLawfulCaller}
use Rattle.bihash_steps.specs.BucketCalls.{event}
use Rattle.bihash_steps.specs.Seats.{CallerState, with_view}
use Rattle.bihash_rule.specs.declared.view.View.{View}
use Rattle.bihash_table.specs.Answers.{locks_of}
use Rattle.bihash_table.specs.Promise.{IsAnswered, IsContended, IsRecycled}
use Rattle.bihash_table.specs.OutOfPages.{IsOutOfPages}
use Rattle.bihash_table.specs.declared.contended.Contended.{Contended}

-- whether a reply is given without the lock of the bucket
abbrev pub is_without_lock : Reply → Bool
is_without_lock (Kept found) = true
is_without_lock (Changed found) = false
is_without_lock (Worn found) = true
is_without_lock Full = true
is_without_lock (NoPages log2 left) = false

-- how many locks of buckets one try takes at most: none where its reply is given without the lock
abbrev pub try_locks : Result Reply Contended → ℕ
try_locks (Ok reply) = if is_without_lock reply then 0 else 1
try_locks (Err refused) = 1

-- from the view v to w the caller took this many locks of buckets at most
pub record TookAtMost (v w : View) (most : ℕ) : Type 0 where
  pub rises : locks_of v.records ≤ locks_of w.records
  pub few : locks_of w.records ≤ locks_of v.records + most

-- A call tried so often until it was answered. Each try but the last took one lock at most, and the last so many. A lone
-- caller tries once.
pub record TookInTries (v w : View) (last : ℕ) : Type 0 where
  pub tries : ℕ
  pub some : 1 ≤ tries
  pub alone : v.lone ≡ true → tries ≡ 1
  pub took : TookAtMost v w (tries - 1 + last)

-- the same of an update that was answered so, whose last try took what its reply allows
abbrev pub TookByTries : View → View → Reply → Type 0
TookByTries v w reply = TookInTries v w (try_locks (Ok reply))

-- One try of an update that finds room, on a value that was found and what was decided on it: it was answered, or
-- contended. A lone caller is answered.
pub record Tried {A K : Type 0} (g : Ghosts A K) (s t : CallerState) (key : K) (found : Option ℕ) (change : Change)
    (r : Result Reply Contended) : Type 0 where
  pub same : t ≡ with_view s t.view
  pub answered : IfOk r (λ reply. IsAnswered (sizes_of g) s.view t.view (event (g.words_of key) found change reply))
  pub no_pages : IfOk r (λ reply. (log2 left : ℕ) → reply ≡ NoPages log2 left
      → IsOutOfPages g t.view (bucket_of (sizes_of g) (g.words_of key)) key log2 left)
  pub room : IfOk r (λ reply. reply ≢ Full)
  pub locks : TookAtMost s.view t.view (try_locks r)
  pub contended : IfErr r (λ _. IsContended (sizes_of g) s.view t.view (bucket_of (sizes_of g) (g.words_of key)))
  pub lone : s.view.lone ≡ true → is_ok r ≡ true
  pub lawful : IsLawfulCaller (sizes_of g) t.view

-- the end of a try that has the lock of the bucket: it takes no other, and is contended or gives a reply that is
-- given under the lock
pub record Finished {A K : Type 0} (g : Ghosts A K) (s t : CallerState) (key : K) (found : Option ℕ) (change : Change)
    (r : Result Reply Contended) : Type 0 where
  pub tried : Tried g s t key found change r
  pub paid : IfOk r (λ reply. is_without_lock reply ≡ false)
  pub no_lock : locks_of t.view.records ≡ locks_of s.view.records

-- One try of an update with an expiry. A new key that finds no room takes the place of an expired pair, or is refused.
pub record TriedOver {A K : Type 0} (g : Ghosts A K) (s t : CallerState) (key : K) (found : Option ℕ) (change : Change)
    (is_expired : ℕ → Bool) (r : Result Reply Contended) : Type 0 where
  pub same : t ≡ with_view s t.view
  pub answered : IfOk r (IsRecycled (sizes_of g) s.view t.view (g.words_of key) found change is_expired)
  pub no_pages : IfOk r (λ reply. (log2 left : ℕ) → reply ≡ NoPages log2 left
      → IsOutOfPages g t.view (bucket_of (sizes_of g) (g.words_of key)) key log2 left)
  pub locks : TookAtMost s.view t.view (try_locks r)
  pub contended : IfErr r (λ _. IsContended (sizes_of g) s.view t.view (bucket_of (sizes_of g) (g.words_of key)))
  pub lone : s.view.lone ≡ true → is_ok r ≡ true
  pub lawful : IsLawfulCaller (sizes_of g) t.view

-- the end of such a try that has the lock of the bucket, and takes no other
pub record FinishedOver {A K : Type 0} (g : Ghosts A K) (s t : CallerState) (key : K) (found : Option ℕ) (change : Change)
    (is_expired : ℕ → Bool) (reply : Reply) : Type 0 where
  pub tried : TriedOver g s t key found change is_expired (Ok reply)
  pub paid : is_without_lock reply ≡ false
  pub no_lock : locks_of t.view.records ≡ locks_of s.view.records
