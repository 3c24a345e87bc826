-- What a call leaves of its caller as one equation of views, and field by field.
use Rattle.std.proofs.Common.{◌≡◌, ◌≤◌, ℕ, ◌+◌, true, List, length, Option, ap, refl}
use Rattle.bihash_words.specs.Runs.{writes_of}
use Rattle.bihash_words.specs.Maps.{Event}
use Rattle.bihash_words.specs.Sizes.{Sizes}
use Rattle.bihash_rule.specs.Histories.{IsPrefix, bucket_of}
use Rattle.bihash_rule.specs.Callers.{known_at}
use Rattle.bihash_rule.specs.Views.{nothing_held}
use Rattle.bihash_steps.specs.BucketSteps.{acting, with_history, push_call}
use Rattle.bihash_rule.specs.declared.view.Write.{Write}
use Rattle.bihash_rule.specs.declared.view.PageStore.{PageStore}
use Rattle.bihash_rule.specs.declared.view.Entry.{Entry}
use Rattle.bihash_rule.specs.declared.view.Record.{Record}
use Rattle.bihash_rule.specs.declared.view.View.{View}
use Rattle.bihash_table.specs.Answers.{entry_of, with_locks}
use Rattle.bihash_table.specs.Promise.{IsAnswered, IsContended, IsEntered}

-- the call was answered, as one equation
pub record LeavesEntry (z : Sizes) (v w : View) (e : Event) : Type 0 where
  pub history : List Write
  pub begins : IsPrefix (known_at v.known (bucket_of z e.key)) history
  pub locks : ℕ
  pub noted : Option PageStore
  pub is : w ≡ record (with_history v (bucket_of z e.key) history) {
    records = push_call (entry_of z (length history) e noted) (with_locks locks v.records);
    holds = nothing_held;
    notes = w.notes;
    log = w.log;
  }
  pub entered : IsEntered v.log (acting v.records) (entry_of z (length history) e noted) w.log history
  pub alone : v.lone ≡ true → length history
      ≤ length (known_at v.known (bucket_of z e.key)) + writes_of e.reply

-- the call was contended, as one equation
pub record LeavesNone (z : Sizes) (v w : View) (b : ℕ) : Type 0 where
  pub history : List Write
  pub begins : IsPrefix (known_at v.known b) history
  pub locks : ℕ
  pub is : w ≡ record (with_history v b history) {
    records = with_locks locks v.records;
    holds = nothing_held;
    notes = w.notes;
  }
  pub alone : v.lone ≡ true → length history ≤ length (known_at v.known b)

-- field by field the view is this one
one_view : (v w : View) (b : ℕ) (history : List Write) (records : List Record) (log : List Entry) → w.known ≡ (with_history v b history).known → w.records ≡ records
    → w.seen ≡ v.seen → w.lone ≡ v.lone → w.holds ≡ nothing_held → w.log ≡ log
    → w ≡ record (with_history v b history) { records = records; holds = nothing_held; notes = w.notes; log = log }
one_view v w b history records log known recorded seen lone free logged = λ i. record {
  log = logged i;
  records = recorded i;
  known = known i;
  seen = seen i;
  lone = lone i;
  holds = free i;
  notes = w.notes;
}

module _ (z : Sizes) (v w : View) where
  pub answered_by : (e : Event) → LeavesEntry z v w e → IsAnswered z v w e
  answered_by e a = record {
    history = a.history;
    begins = a.begins;
    known = ap (λ (u : View). u.known) a.is;
    locks = a.locks;
    noted = a.noted;
    records = ap (λ (u : View). u.records) a.is;
    seen = ap (λ (u : View). u.seen) a.is;
    lone = ap (λ (u : View). u.lone) a.is;
    free = ap (λ (u : View). u.holds) a.is;
    entered = a.entered;
    alone = a.alone;
  }

  pub answered_as : (e : Event) → IsAnswered z v w e → LeavesEntry z v w e
  answered_as e a = record {
    history = a.history;
    begins = a.begins;
    locks = a.locks;
    noted = a.noted;
    is = one_view v w (bucket_of z e.key) a.history _ w.log a.known a.records a.seen a.lone a.free refl;
    entered = a.entered;
    alone = a.alone;
  }

  pub contended_by : (b : ℕ) → LeavesNone z v w b → IsContended z v w b
  contended_by b a = record {
    history = a.history;
    begins = a.begins;
    known = ap (λ (u : View). u.known) a.is;
    locks = a.locks;
    records = ap (λ (u : View). u.records) a.is;
    seen = ap (λ (u : View). u.seen) a.is;
    lone = ap (λ (u : View). u.lone) a.is;
    free = ap (λ (u : View). u.holds) a.is;
    log = ap (λ (u : View). u.log) a.is;
    alone = a.alone;
  }

  pub contended_as : (b : ℕ) → IsContended z v w b → LeavesNone z v w b
  contended_as b a = record {
    history = a.history;
    begins = a.begins;
    locks = a.locks;
    is = one_view v w b a.history _ v.log a.known a.records a.seen a.lone a.free a.log;
    alone = a.alone;
  }
