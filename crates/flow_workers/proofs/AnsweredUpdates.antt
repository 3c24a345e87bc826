-- The reply of an answered call tells what it found.
use Rattle.std.proofs.Common.{◌≡◌, Bool, true, false, ℕ, List, length, Option, Result, Ok, Err, IfOk, IfErr, refl, subst}
use Rattle.bihash_words.specs.Maps.{Event, found_by}
use Rattle.bihash_words.specs.Sizes.{Sizes, bucket_of, sizes_of}
use Rattle.bihash_words.specs.declared.shape.Shape.{Ghosts}
use Rattle.bihash_words.specs.declared.patch.Change.{Change}
use Rattle.bihash_words.specs.declared.patch.Reply.{Reply}
use Rattle.bihash_words.proofs.MapLemmas.{found_is_told}
use Rattle.bihash_rule.specs.Callers.{IsLawfulCaller, known_at, opening_at}
use Rattle.bihash_steps.specs.BucketSteps.{acting}
use Rattle.bihash_rule.specs.Histories.{IsLegal, is_changed}
use Rattle.bihash_rule.specs.declared.view.View.{View}
use Rattle.bihash_table.specs.Answers.{entry_of, recycled_update}
use Rattle.bihash_table.specs.Promise.{IsAnswered, IsUpdatedOver}
use Rattle.bihash_table.specs.OutOfPages.{IsOutOfPages}
use Rattle.bihash_table.specs.Tries.{TookAtMost, try_locks}
use Rattle.bihash_table.specs.declared.contended.Contended.{Contended}
use Rattle.bihash_laws.specs.CallRuns.{IsLawfulAnswer}
use Rattle.bihash_laws.proofs.AnsweredCalls.{legal}
use Rattle.flow_workers.specs.Judging.{TookByOneTry}
use Rattle.flow_workers.specs.inner.Updates.{IsTold, told_event}

found_in : (z : Sizes) (v w : View) (e : Event) → IsAnswered z v w e → IsLawfulCaller z w → e.found ≡ found_by e.reply
found_in z v w e answered lawful = go (is_changed e.reply) refl
  where
    is_answer : IsLawfulAnswer z (bucket_of z e.key) v w e
    is_answer = record { home = refl; answered = answered; lawful = lawful }

    is_legal : IsLegal z (opening_at w.known (bucket_of z e.key)) (known_at w.known (bucket_of z e.key))
        (acting v.records) (entry_of z (length (known_at w.known (bucket_of z e.key))) e answered.noted)
    is_legal = legal z (bucket_of z e.key) v w e is_answer

    go : (t : Bool) → is_changed e.reply ≡ t → e.found ≡ found_by e.reply
    go true wrote = let o = is_legal.write wrote in found_is_told _ _ _ _ e o.3.1
    go false read = let o = is_legal.other read in found_is_told _ _ _ _ e o.1

-- an update that was answered on some value was answered on the one that its reply tells
pub as_told : (z : Sizes) (v w : View) (key words : List ℕ) (decision : Option ℕ → Change) (is_expired : ℕ → Bool)
    (reply : Reply) → key ≡ words → IsUpdatedOver z v w key decision is_expired reply → IsLawfulCaller z w
    → IsTold z v w words decision is_expired reply
as_told z v w key words decision is_expired reply same updated lawful =
    let recycled = updated.answered in (
      recycled.removed,
      subst (λ k. IsAnswered z v w (told_event k decision is_expired recycled.removed reply)) same
          (subst (λ found. IsAnswered z v w
          (recycled_update key found (decision found) is_expired recycled.removed reply))
          (found_in z v w _ recycled.answered lawful) recycled.answered),
    )

pub if_ok : {T E : Type 0} (P Q : T → Type 0) (r : Result T E) → ((x : T) → P x → Q x) → IfOk r P → IfOk r Q
if_ok P Q (Ok x) f p = f x p
if_ok P Q (Err e) f p = tt

pub if_err : {T E : Type 0} (P Q : E → Type 0) (r : Result T E) → ((e : E) → P e → Q e) → IfErr r P → IfErr r Q
if_err P Q (Ok x) f p = tt
if_err P Q (Err e) f p = f e p

-- the locks that one try took, by how it ended
pub took_by_one : (v w : View) (r : Result Reply Contended) → TookAtMost v w (try_locks r)
    → IfOk r (TookByOneTry v w) × IfErr r (λ _. TookAtMost v w 1)
took_by_one v w (Ok reply) took = (took, tt)
took_by_one v w (Err contended) took = (tt, took)

-- a shortage at the key of these words
pub short_at : {S K : Type 0} (g : Ghosts S K) (w : View) (key : K) (words : List ℕ) (log2 left : ℕ)
    → key ≡ g.key_of words → g.words_of key ≡ words
    → IsOutOfPages g w (bucket_of (sizes_of g) (g.words_of key)) key log2 left
    → IsOutOfPages g w (bucket_of (sizes_of g) words) (g.key_of words) log2 left
short_at g w key words log2 left made same short =
    subst (λ k. IsOutOfPages g w (bucket_of (sizes_of g) words) k log2 left) made
    (subst (λ x. IsOutOfPages g w (bucket_of (sizes_of g) x) key log2 left) same short)
