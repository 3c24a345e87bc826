-- What a call leaves of its caller where it opened the lock that it had: it was answered.
use Rattle.std.proofs.Common.{◌≡◌, ◌∙◌, ◌+◌, ◌≤◌, true, ℕ, List, [], ◌∷◌, ◌++◌, length, set, Option, None, ap, arith, refl, sym, subst, append-nil, length-append}
use Rattle.std.specs.Prelude.{cond}
use Rattle.std.proofs.lemmas.List.{set-get_or}
use Rattle.bihash_words.specs.Runs.{writes_of}
use Rattle.bihash_words.specs.Maps.{Event}
use Rattle.bihash_words.specs.Sizes.{Sizes}
use Rattle.bihash_words.specs.declared.patch.Reply.{Reply}
use Rattle.bihash_words.specs.declared.patch.Reply.TheVariants.{Kept, Changed, Worn, Full, NoPages}
use Rattle.bihash_rule.specs.Histories.{IsPrefix, bucket_of, is_changed, store_of, write_of}
use Rattle.bihash_rule.specs.Callers.{known_at}
use Rattle.bihash_rule.specs.Views.{nothing_held}
use Rattle.bihash_steps.specs.BucketSteps.{acting, view_after_answer, call_of, with_history, push_call, view_after_write}
use Rattle.bihash_rule.specs.declared.view.Write.{Write}
use Rattle.bihash_rule.specs.declared.view.Call.{Call}
use Rattle.bihash_rule.specs.declared.view.Record.{Record}
use Rattle.bihash_rule.specs.declared.view.Holdings.{Holdings}
use Rattle.bihash_rule.specs.declared.view.LockedBucket.{LockedBucket}
use Rattle.bihash_rule.specs.declared.view.PageStore.{PageStore}
use Rattle.bihash_rule.specs.declared.view.View.{View}
use Rattle.bihash_table.specs.Answers.{entry_of, locks_of, with_locks}
use Rattle.bihash_table.specs.Promise.{IsAnswered, IsEntered}
use Rattle.bihash_table.specs.inner.Locked.{HasLock}
use Rattle.bihash_table.proofs.CallerViews.{answered_by}

-- a call made one write where its reply tells of one, and else none
pub writes_told : (r : Reply) → writes_of r ≡ cond (is_changed r) 1 0
writes_told (Kept found) = refl
writes_told (Changed found) = refl
writes_told (Worn found) = refl
writes_told Full = refl
writes_told (NoPages log2 left) = refl

pub with_locks-locks_of : (records : List Record) → with_locks (locks_of records) records ≡ records
with_locks-locks_of [] = refl
with_locks-locks_of (r ∷ rs) = refl

-- the entry of a call after the writes that are known, where no view is named
module _ (z : Sizes) (v w : View) (b word : ℕ) (l : LockedBucket) (e : Event) (has : HasLock z v b word l)
    (home : bucket_of z e.key ≡ b) where
  -- the view after an answer at bucket b, as it is in the claim
  abbrev Left : Option PageStore → ℕ → ℕ → List Write → List Record → View
  Left noted b stamp history records = record (with_history v b history) {
    records = push_call (record (entry_of z stamp e noted) { bucket = b }) records;
    holds = nothing_held;
    notes = w.notes;
    log = w.log;
  }

  is_left : (noted : Option PageStore) (history : List Write) → IsPrefix (known_at v.known b) history
      → length history ≤ length (known_at v.known b) + writes_of e.reply
      → w ≡ Left noted b (length history) history v.records
      → IsEntered v.log (acting v.records) (record (entry_of z (length history) e noted) { bucket = b }) w.log history → IsAnswered z v w e
  is_left noted history begins few is entered = answered_by z v w e record {
    history = history;
    begins = subst (λ (c : ℕ). IsPrefix (known_at v.known c) history) (sym home) begins;
    locks = locks_of v.records;
    noted = noted;
    is = is ∙ (ap (λ (rs : List Record). Left noted b (length history) history rs)
        (sym (with_locks-locks_of v.records))
        ∙ ap (λ (c : ℕ). Left noted c (length history) history (with_locks (locks_of v.records) v.records))
        (sym home));
    entered = subst (λ (c : ℕ). IsEntered v.log (acting v.records) (record (entry_of z (length history) e noted) { bucket = c }) w.log history)
        (sym home) entered;
    alone = λ _. subst (λ (c : ℕ). length history ≤ length (known_at v.known c) + writes_of e.reply) (sym home) few;
  }

  -- the call was no write: nothing more is known
  pub answered_noting : (noted : Option PageStore)
      → w ≡ record (view_after_answer v (record (call_of v b 0 e) { store = store_of e.reply noted })) { log = w.log }
      → IsEntered v.log (acting v.records) (record (call_of v b 0 e) { store = store_of e.reply noted }) w.log (known_at v.known b)
      → IsAnswered z v w e
  answered_noting noted is entered =
      let c : Call = record (call_of v b 0 e) { store = store_of e.reply noted } in
      let H : List Write = known_at v.known b in
      let kept : v.known.writes ≡ set v.known.writes b H = sym (set-get_or v.known.writes b []) in
      let stamp : length H + 0 ≡ length H = omega arith in
      let At : ℕ → List (List Write) → Holdings → View = λ n writes holds. record v {
        records = push_call (record (entry_of z n e noted) { bucket = b }) v.records;
        known = record v.known { writes = writes };
        holds = record holds { bucket = None };
        notes = w.notes;
        log = w.log;
      } in
      let notes : w ≡ record (view_after_answer v c) { notes = w.notes; log = w.log } =
      is ∙ ap (λ n. record (view_after_answer v c) { notes = n; log = w.log }) (sym (ap (λ (u : View). u.notes) is)) in
      is_left noted H (record { rest = []; whole = sym (append-nil H) }) (let own : ℕ = writes_of e.reply in omega arith)
      (notes ∙ (ap (λ (n : ℕ). At n v.known.writes v.holds) stamp
      ∙ (ap (λ (ws : List (List Write)). At (length H) ws v.holds) kept
      ∙ ap (λ (h : Holdings). At (length H) (set v.known.writes b H) h) has.held)))
      (subst (λ (n : ℕ). IsEntered v.log (acting v.records) (record (entry_of z n e noted) { bucket = b }) w.log H) stamp entered)

  -- the call was a write: it is known, and stands last
  pub written_from_lock : is_changed e.reply ≡ true → w ≡ record (view_after_write v (call_of v b 1 e)) { holds = nothing_held; notes = w.notes; log = w.log }
      → IsEntered v.log (acting v.records) (call_of v b 1 e) w.log (known_at v.known b ++ write_of (acting v.records) (call_of v b 1 e) ∷ [])
      → IsAnswered z v w e
  written_from_lock changes is entered =
      let H : List Write = known_at v.known b in
      let x : Write = write_of (acting v.records) (call_of v b 1 e) in
      let stamp : length H + 1 ≡ length (H ++ x ∷ []) = sym (length-append H (x ∷ [])) in
      is_left v.notes.left (H ++ x ∷ []) (record { rest = x ∷ []; whole = refl })
      (subst (λ (n : ℕ). length (H ++ x ∷ []) ≤ length H + n) (sym (writes_told e.reply))
      (rw changes (let long = length-append H (x ∷ []) in omega arith)))
      (is ∙ ap (λ (n : ℕ). Left v.notes.left b n (H ++ x ∷ []) v.records) stamp)
      (subst (λ (n : ℕ). IsEntered v.log (acting v.records) (record (entry_of z n e v.notes.left) { bucket = b }) w.log (H ++ x ∷ [])) stamp entered)
