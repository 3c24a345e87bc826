-- Ageing (this project's profile): expired pairs that go, bucket by bucket, without an update of their keys.
use Rattle.std.specs.Prelude.{◌≡◌, ◌<◌, ◌≤◌, ◌^◌, ◌++◌, ℕ, Bool, true, false, List, [], ◌∷◌, All, count_by, Option, Some, None, Result, Ok, Err, IfOk, IfErr, is_ok}
use Rattle.std.specs.FinMap.{get}
use Rattle.bihash_words.specs.Sizes.{Sizes}
use Rattle.bihash_words.specs.declared.patch.Change.TheVariants.{Remove}
use Rattle.bihash_words.specs.declared.patch.Reply.{Reply}
use Rattle.bihash_rule.specs.Histories.{bucket_of, is_changed}
use Rattle.bihash_rule.specs.Callers.{IsLawfulCaller}
use Rattle.bihash_rule.specs.Views.{nothing_held}
use Rattle.bihash_rule.specs.declared.view.View.{View}
use Rattle.bihash_steps.specs.BucketCalls.{event}
use Rattle.bihash_steps.specs.BucketSteps.{map_now}
use Rattle.bihash_steps.specs.Seats.{CallerState, with_view}
use Rattle.bihash_table.specs.Promise.{IsAnswered, IsContended}
use Rattle.bihash_table.specs.Tries.{TookAtMost, TookInTries, try_locks}
use Rattle.bihash_table.specs.declared.contended.Contended.{Contended}

-- An expired pair of bucket b was to go: there is one entry more, of an update of its key that found its value, which is
-- expired, and was decided to remove it.
pub record RemovesExpired (z : Sizes) (v w : View) (b : ℕ) (is_expired : ℕ → Bool) (reply : Reply) : Type 0 where
  pub key : List ℕ
  pub value : ℕ
  pub home : bucket_of z key ≡ b
  pub expired : is_expired value ≡ true
  pub word : value < 2 ^ 64
  pub answered : IsAnswered z v w (event key (Some value) Remove reply)

-- No value of bucket b's map is expired, after the writes that the caller knows now; a lone caller knows them all. There is
-- no entry, and so no place in the log that would tell what others wrote before.
pub record FindsNone (z : Sizes) (v w : View) (b : ℕ) (is_expired : ℕ → Bool) : Type 0 where
  pub learned : IsContended z v w b
  pub none : (key : List ℕ) (value : ℕ) → get (map_now w b) key ≡ Some value → is_expired value ≡ false

-- what a look at a bucket came to: an expired pair was to go, or there was none
abbrev pub Ages : Sizes → View → View → ℕ → (ℕ → Bool) → Option Reply → Type 0
Ages z v w b is_expired None = FindsNone z v w b is_expired
Ages z v w b is_expired (Some reply) = RemovesExpired z v w b is_expired reply

-- how many locks of buckets a look takes at most: none where it finds no expired pair
abbrev pub look_locks : Result (Option Reply) Contended → ℕ
look_locks (Ok None) = 0
look_locks (Ok (Some reply)) = try_locks (Ok reply)
look_locks (Err refused) = 1

-- one try of a look at bucket b, which a lone caller finds answered
pub record TellsExpireTry (z : Sizes) (s t : CallerState) (b : ℕ) (is_expired : ℕ → Bool)
    (r : Result (Option Reply) Contended) : Type 0 where
  pub same : t ≡ with_view s t.view
  pub answered : IfOk r (Ages z s.view t.view b is_expired)
  pub locks : TookAtMost s.view t.view (look_locks r)
  pub contended : IfErr r (λ _. IsContended z s.view t.view b)
  pub lone : s.view.lone ≡ true → is_ok r ≡ true
  pub lawful : IsLawfulCaller z t.view

-- a look that was tried until it was answered so, with the locks that its tries took
pub record TellsExpire (z : Sizes) (s t : CallerState) (b : ℕ) (is_expired : ℕ → Bool) (found : Option Reply) : Type 0 where
  pub same : t ≡ with_view s t.view
  pub answered : Ages z s.view t.view b is_expired found
  pub locks : TookInTries s.view t.view (look_locks (Ok found))
  pub lawful : IsLawfulCaller z t.view

-- ---- Sweeps

-- a look at a bucket, and what it came to
pub record Look : Type 0 where
  pub bucket : ℕ
  pub found : Option Reply

-- whether a look removed a pair: it found an expired one, and the bucket's version wasn't used up
abbrev pub is_removal : Option Reply → Bool
is_removal None = false
is_removal (Some reply) = is_changed reply

abbrev pub removes : Look → Bool
removes look = is_removal look.found

-- looks one after the other, from the view v to w; after each the caller is lawful
abbrev pub LookInTurn : Sizes → (ℕ → Bool) → View → List Look → View → Type 0
LookInTurn z is_expired v [] w = w ≡ v
LookInTurn z is_expired v (look ∷ looks) w =
    (u : View) × Ages z v u look.bucket is_expired look.found × IsLawfulCaller z u × LookInTurn z is_expired u looks w

-- The last look at bucket b removed nothing: none was found that is expired, or its version is used up. What comes after
-- are looks at later buckets.
pub record EndsAt (looks : List Look) (b : ℕ) : Type 0 where
  pub before : List Look
  pub after : List Look
  pub found : Option Reply
  pub splits : looks ≡ before ++ record { bucket = b; found = found } ∷ after
  pub stays : is_removal found ≡ false
  pub later : All (λ look. b < look.bucket) after

-- The buckets from one to before another were looked at, at each until a look removed nothing, and so many looks removed
-- a pair each.
pub record Sweeps (z : Sizes) (s t : CallerState) (from to : ℕ) (is_expired : ℕ → Bool) (went : ℕ) : Type 0 where
  pub same : t ≡ with_view s t.view
  pub looks : List Look
  pub within : All (λ look. (from ≤ look.bucket) × (look.bucket < to)) looks
  pub ages : LookInTurn z is_expired s.view looks t.view
  pub each : (b : ℕ) → from ≤ b → b < to → EndsAt looks b
  pub counted : went ≡ count_by removes looks
  pub free : t.view.holds ≡ nothing_held
  pub lawful : from < to → IsLawfulCaller z t.view
