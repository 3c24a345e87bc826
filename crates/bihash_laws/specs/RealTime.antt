-- What the calls of callers say of the order of time. A state is one of the row between any two steps.
use Rattle.std.specs.Prelude.{◌≡◌, ℕ, ◌<◌, Bool, true, List, [], ◌∷◌, length, Option, Some, None, Result, IfOk}
use lib.ListN.{get_elem?}
use mathlib.Core.Option.{some}
use Rattle.bihash_words.specs.Maps.{Event}
use Rattle.bihash_words.specs.Sizes.{Sizes}
use Rattle.bihash_words.specs.declared.patch.Change.TheVariants.{Remove}
use Rattle.bihash_words.specs.declared.patch.Reply.{Reply}
use Rattle.bihash_rule.specs.Histories.{bucket_of}
use Rattle.bihash_rule.specs.Callers.{HasNumber}
use Rattle.bihash_rule.specs.Logs.{Begins}
use Rattle.bihash_steps.specs.BucketCalls.{event}
use Rattle.bihash_steps.specs.BucketSteps.{acting}
use Rattle.bihash_steps.specs.Seats.{CallerState}
use Rattle.bihash_table.specs.Ageing.{FindsNone, Look}
use Rattle.bihash_table.specs.Answers.{entry_of}
use Rattle.bihash_table.specs.declared.contended.Contended.{Contended}
use Rattle.bihash_laws.specs.CallRuns.{IsLawfulAnswer}
use Rattle.bihash_laws.specs.LogLaws.{RowState}
use Rattle.bihash_rule.specs.declared.view.Entry.{Entry}
use Rattle.bihash_rule.specs.declared.view.View.{View}

-- the entry of an answered call, and its place in the log: it is the last that its caller knows then
abbrev pub entry_made : {z : Sizes} {b : ℕ} {v w : View} {e : Event} → IsLawfulAnswer z b v w e → Entry
entry_made {z} {b} {v} {w} {e} a = record { by = acting v.records; call = entry_of z (length a.answered.history) e a.answered.noted }

abbrev pub place_of : {z : Sizes} {b : ℕ} {v w : View} {e : Event} → IsLawfulAnswer z b v w e → ℕ
place_of a = length a.answered.entered.before

-- the entry of the call stands in this log, at its place
abbrev pub StandsIn : {z : Sizes} {b : ℕ} {v w : View} {e : Event} → IsLawfulAnswer z b v w e → List Entry → Type 0
StandsIn a log = get_elem? log (place_of a) ≡ some (entry_made a)

-- Both calls stand in the log, the first before the second.
pub record StandInOrder {z : Sizes} {b d : ℕ} {v w x y : View} {e f : Event} (a : IsLawfulAnswer z b v w e) (c : IsLawfulAnswer z d x y f)
    (log : List Entry) : Type 0 where
  pub first : StandsIn a log
  pub second : StandsIn c log
  pub order : place_of a < place_of c

-- a call on this key was answered so: what was found and decided is an event of the key's bucket
abbrev pub WasAnswered : Sizes → CallerState → CallerState → List ℕ → Reply → Type 0
WasAnswered z s t key reply = (e : Event) × (e.key ≡ key) × (e.reply ≡ reply)
    × IsLawfulAnswer z (bucket_of z key) s.view t.view e

-- The caller w was v: it has all numbers of v, and forgot nothing of the log.
pub record GoesOn (v w : View) : Type 0 where
  pub numbers : (n : ℕ) → HasNumber v.records n → HasNumber w.records n
  pub log : Begins v.log w.log

-- A try of a call on this key was answered so, or given up; either way its caller goes on.
abbrev pub WasTried : Sizes → CallerState → CallerState → List ℕ → {A : Type 0} → (A → Reply) → Result A Contended → Type 0
WasTried z s t key reply r = IfOk r (λ a. WasAnswered z s t key (reply a)) × GoesOn s.view t.view

-- A look at bucket b was answered so. An expired pair was to go: an update of its key was answered, that found its value and
-- was decided to remove it. Or there was none: no entry.
abbrev pub WasLooked : Sizes → View → View → ℕ → (ℕ → Bool) → Option Reply → Type 0
WasLooked z v w b is_expired None = FindsNone z v w b is_expired
WasLooked z v w b is_expired (Some reply) = (key : List ℕ) × (value : ℕ) × (is_expired value ≡ true)
    × IsLawfulAnswer z b v w (event key (Some value) Remove reply)

-- looks one after the other, each answered so
abbrev pub WereLooked : Sizes → (ℕ → Bool) → View → List Look → View → Type 0
WereLooked z is_expired v [] w = w ≡ v
WereLooked z is_expired v (look ∷ looks) w =
    (u : View) × WasLooked z v u look.bucket is_expired look.found × WereLooked z is_expired u looks w

-- Some caller knows of this log in that state, as does one that was answered and any that it met since.
abbrev pub IsKnownIn : RowState → List Entry → Type 0
IsKnownIn s log = (j : ℕ) × (u : View) × (get_elem? s.views j ≡ some u) × Begins log u.log

-- Whoever has the number that the caller v acts under knows no more of the log than v: no call that begins with v is
-- entered yet. So it is with v itself, with what it was before, and where the number wasn't given out yet.
abbrev pub IsYetToCall : RowState → View → Type 0
IsYetToCall s v = (j : ℕ) (u : View) → get_elem? s.views j ≡ some u → HasNumber u.records (acting v.records) → Begins u.log v.log
