-- How many locks of buckets the caller counts after a step.
use Rattle.std.proofs.Common.{◌≡◌, ◌≤◌, ◌+◌, ◌-◌, ◌∙◌, ℕ, true, List, [], ◌∷◌, Ok, ap, arith, refl, subst, sym}
use Rattle.bihash_words.specs.Sizes.{Sizes}
use Rattle.bihash_words.specs.declared.patch.Reply.{Reply}
use Rattle.bihash_steps.specs.BucketSteps.{lock_counted, push_call}
use Rattle.bihash_rule.specs.declared.view.Call.{Call}
use Rattle.bihash_rule.specs.declared.view.Record.{Record}
use Rattle.bihash_rule.specs.declared.view.View.{View}
use Rattle.bihash_table.specs.Answers.{locks_of}
use Rattle.bihash_table.specs.inner.Locked.{IsLocked}
use Rattle.bihash_table.specs.Tries.{TookAtMost, TookByTries, TookInTries, try_locks}

-- an entry is no lock
pub pushed_locks : (c : Call) (rs : List Record) → locks_of (push_call c rs) ≡ locks_of rs
pushed_locks c [] = refl
pushed_locks c (r ∷ rs) = refl

-- records that push a call, and records that are the same
pub locks_pushed : (c : Call) (rs qs : List Record) → qs ≡ push_call c rs → locks_of qs ≡ locks_of rs
locks_pushed c rs qs is = ap locks_of is ∙ pushed_locks c rs

one_lock : (rs : List Record) → (locks_of rs ≤ locks_of (lock_counted rs)) × (locks_of (lock_counted rs) ≤ locks_of rs + 1)
one_lock [] = (omega arith, omega arith)
one_lock (r ∷ rs) = let n : ℕ = r.locks in (omega arith, omega arith)

module _ (v w : View) where
  pub took_no_lock : locks_of w.records ≡ locks_of v.records → (most : ℕ) → TookAtMost v w most
  took_no_lock is most = record { rises = omega arith; few = omega arith }

  pub took_one_lock : (z : Sizes) (b word : ℕ) → IsLocked z v w b word → TookAtMost v w 1
  took_one_lock z b word k =
      let one = one_lock v.records in
      let is : lock_counted v.records ≡ w.records = sym (ap (λ (u : View). u.records) k.is) in
      record {
        rises = subst (λ (rs : List Record). locks_of v.records ≤ locks_of rs) is one.0;
        few = subst (λ (rs : List Record). locks_of rs ≤ locks_of v.records + 1) is one.1;
      }

pub took_then : (u v w : View) (m n : ℕ) → TookAtMost u v m → TookAtMost v w n → TookAtMost u w (m + n)
took_then u v w m n s t =
    let up = s.rises in let few = s.few in let then_up = t.rises in let then_few = t.few in
    record { rises = omega arith; few = omega arith }

pub took_after : (u v w : View) (n : ℕ) → locks_of v.records ≡ locks_of u.records → TookAtMost v w n → TookAtMost u w n
took_after u v w n same t = record {
  rises = subst (λ (k : ℕ). k ≤ locks_of w.records) same t.rises;
  few = subst (λ (k : ℕ). locks_of w.records ≤ k + n) same t.few;
}

-- so many tries were contended, and the next was answered
pub took_in_tries : (u v w : View) (n last : ℕ) → TookAtMost u v n → (u.lone ≡ true → n ≡ 0) → TookAtMost v w last → TookInTries u w last
took_in_tries u v w n last before first then =
    let same : n ≡ n + 1 - 1 = omega arith in
    record {
      tries = n + 1;
      some = omega arith;
      alone = λ lone. ap (λ (k : ℕ). k + 1) (first lone);
      took = subst (λ (k : ℕ). TookAtMost u w (k + last)) same (took_then u v w n last before then);
    }

pub took_by_tries : (u v w : View) (n : ℕ) (reply : Reply) → TookAtMost u v n → (u.lone ≡ true → n ≡ 0)
    → TookAtMost v w (try_locks (Ok reply)) → TookByTries u w reply
took_by_tries u v w n reply before first then = took_in_tries u v w n (try_locks (Ok reply)) before first then
