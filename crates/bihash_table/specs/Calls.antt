-- What a call of a shared table tells of its caller, all said together: s is the caller before the call, t after it.
use Rattle.std.specs.Prelude.{◌≡◌, ◌≤◌, ◌==◌, ℕ, Bool, true, length, Option, Result, IfOk, IfErr, is_ok}
use Rattle.bihash_words.specs.Sizes.{Sizes, sizes_of}
use Rattle.bihash_words.specs.declared.shape.Shape.{Ghosts}
use Rattle.bihash_words.specs.declared.patch.Change.{Change}
use Rattle.bihash_words.specs.declared.patch.Reply.{Reply}
use Rattle.bihash_words.specs.declared.patch.Reply.TheVariants.{NoPages}
use Rattle.bihash_rule.specs.Histories.{bucket_of}
use Rattle.bihash_rule.specs.Callers.{IsLawfulCaller}
use Rattle.bihash_steps.specs.Seats.{CallerState, with_view}
use Rattle.bihash_steps.specs.Steps.{HaveBearers, IsToldWhole, view_after_count}
use Rattle.bihash_table.specs.Answers.{locks_of, search_of}
use Rattle.bihash_table.specs.Promise.{IsAnswered, IsContended, IsUpdated, IsUpdatedOver}
use Rattle.bihash_table.specs.OutOfPages.{IsOutOfPages}
use Rattle.bihash_table.specs.Tries.{TookAtMost, TookByTries, try_locks}
use Rattle.bihash_table.specs.declared.contended.Contended.{Contended}

-- a search that was answered so, of a caller that took no lock
pub record TellsSearch {A K : Type 0} (g : Ghosts A K) (s t : CallerState) (key : K) (found : Option ℕ) : Type 0 where
  pub same : t ≡ with_view s t.view
  pub answered : IsAnswered (sizes_of g) s.view t.view (search_of (g.words_of key) found)
  pub no_lock : locks_of t.view.records ≡ locks_of s.view.records
  pub lawful : IsLawfulCaller (sizes_of g) t.view

-- one try of a search, which a lone caller finds answered
pub record TellsSearchTry {A K : Type 0} (g : Ghosts A K) (s t : CallerState) (key : K)
    (r : Result (Option ℕ) Contended) : Type 0 where
  pub same : t ≡ with_view s t.view
  pub answered : IfOk r (λ found. IsAnswered (sizes_of g) s.view t.view (search_of (g.words_of key) found))
  pub contended : IfErr r (λ _. IsContended (sizes_of g) s.view t.view (bucket_of (sizes_of g) (g.words_of key)))
  pub no_lock : locks_of t.view.records ≡ locks_of s.view.records
  pub lone : s.view.lone ≡ true → is_ok r ≡ true
  pub lawful : IsLawfulCaller (sizes_of g) t.view

-- an update that was answered so, with the locks that its tries took, and why pages were wanted
pub record TellsUpdate {A K : Type 0} (g : Ghosts A K) (s t : CallerState) (key : K) (decision : Option ℕ → Change)
    (reply : Reply) : Type 0 where
  pub same : t ≡ with_view s t.view
  pub answered : IsUpdated (sizes_of g) s.view t.view (g.words_of key) decision reply
  pub locks : TookByTries s.view t.view reply
  pub no_pages : (log2 left : ℕ) → reply ≡ NoPages log2 left
      → IsOutOfPages g t.view (bucket_of (sizes_of g) (g.words_of key)) key log2 left
  pub lawful : IsLawfulCaller (sizes_of g) t.view

-- one try of an update, which a lone caller finds answered
pub record TellsUpdateTry {A K : Type 0} (g : Ghosts A K) (s t : CallerState) (key : K) (decision : Option ℕ → Change)
    (r : Result Reply Contended) : Type 0 where
  pub same : t ≡ with_view s t.view
  pub answered : IfOk r (IsUpdated (sizes_of g) s.view t.view (g.words_of key) decision)
  pub no_pages : IfOk r (λ reply. (log2 left : ℕ) → reply ≡ NoPages log2 left
      → IsOutOfPages g t.view (bucket_of (sizes_of g) (g.words_of key)) key log2 left)
  pub locks : TookAtMost s.view t.view (try_locks r)
  pub contended : IfErr r (λ _. IsContended (sizes_of g) s.view t.view (bucket_of (sizes_of g) (g.words_of key)))
  pub lone : s.view.lone ≡ true → is_ok r ≡ true
  pub lawful : IsLawfulCaller (sizes_of g) t.view

-- one try of an update with an expiry, which a lone caller finds answered
pub record TellsRecycleTry {A K : Type 0} (g : Ghosts A K) (s t : CallerState) (key : K) (decision : Option ℕ → Change)
    (is_expired : ℕ → Bool) (r : Result Reply Contended) : Type 0 where
  pub same : t ≡ with_view s t.view
  pub answered : IfOk r (IsUpdatedOver (sizes_of g) s.view t.view (g.words_of key) decision is_expired)
  pub no_pages : IfOk r (λ reply. (log2 left : ℕ) → reply ≡ NoPages log2 left
      → IsOutOfPages g t.view (bucket_of (sizes_of g) (g.words_of key)) key log2 left)
  pub locks : TookAtMost s.view t.view (try_locks r)
  pub contended : IfErr r (λ _. IsContended (sizes_of g) s.view t.view (bucket_of (sizes_of g) (g.words_of key)))
  pub lone : s.view.lone ≡ true → is_ok r ≡ true
  pub lawful : IsLawfulCaller (sizes_of g) t.view

-- an update with an expiry that was answered so, with the locks that its tries took, and why pages were wanted
pub record TellsRecycle {A K : Type 0} (g : Ghosts A K) (s t : CallerState) (key : K) (decision : Option ℕ → Change)
    (is_expired : ℕ → Bool) (reply : Reply) : Type 0 where
  pub same : t ≡ with_view s t.view
  pub answered : IsUpdatedOver (sizes_of g) s.view t.view (g.words_of key) decision is_expired reply
  pub locks : TookByTries s.view t.view reply
  pub no_pages : (log2 left : ℕ) → reply ≡ NoPages log2 left
      → IsOutOfPages g t.view (bucket_of (sizes_of g) (g.words_of key)) key log2 left
  pub lawful : IsLawfulCaller (sizes_of g) t.view

-- whether the caller was found to have every number that was made, and then is lone and was told what that tells it
pub record TellsLone (z : Sizes) (s t : CallerState) (answer : Bool) : Type 0 where
  pub counted : (count : ℕ) × (s.view.seen ≤ count) × (t ≡ with_view s (view_after_count s.view count))
      × (answer ≡ (count == length s.view.records))
  pub lone : answer ≡ t.view.lone
  pub whole : answer ≡ true → IsToldWhole z t.view
  pub bearers : HaveBearers z t.view
  pub lawful : IsLawfulCaller z t.view
