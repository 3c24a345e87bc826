-- A step fails for another caller's lock or write.
use Rattle.std.proofs.Common.{◌≡◌, ◌≢◌, ◌⊎◌, ℕ, ◌<◌, true, false, true≢false, length, refl, sym, ap, ◌∙◌, subst, inl, inr, arith, Option, Some, None}
use mathlib.Core.Logic.{dite}
use mathlib.Core.Option.{some}
use native.Mathlib.Decide.{ℕ_discrete}
use lib.ListN.{get_elem?}
use Rattle.std.specs.Prelude.{slice_index, is_some}
use Rattle.bihash_words.specs.Sizes.{Sizes}
use Rattle.bihash_words.specs.Words.{Bucket, bit, packed}
use Rattle.bihash_rule.specs.Words.{allocation_lock_of, bucket_at, buckets}
use Rattle.bihash_rule.specs.Buckets.{IsOpen, IsOpenIf, StandsStillIf, open_word, word_of}
use Rattle.bihash_rule.specs.WordRule.{WordRule}
use Rattle.bihash_steps.specs.BucketSteps.{SeesLocked}
use Rattle.bihash_steps.proofs.Lists.{there}
use Rattle.bihash_steps.proofs.bucket_steps.LoadBucket.{lone_finds_none}
use Rattle.bihash_steps.proofs.bucket_steps.WordFields.{bucket_fits, packed_once}
use Rattle.bihash_steps.proofs.pool_steps.PoolLock.{alone_open}
use Rattle.bihash_laws.specs.Contention.{IsLockedByAnother, IsStoreLockedByAnother}
use Rattle.bihash_laws.specs.LogLaws.{RowState}
use Rattle.bihash_rule.specs.declared.view.Extent.{Extent}
use Rattle.bihash_rule.specs.declared.view.Holdings.{Holdings}
use Rattle.bihash_rule.specs.declared.view.OpenBucket.{OpenBucket}
use Rattle.bihash_rule.specs.declared.view.View.{View}

seat_of : (lock : Option ℕ) → is_some lock ≡ true → (j : ℕ) × (lock ≡ Some j)
seat_of None e = absurd (true≢false (sym e))
seat_of (Some j) e = (j, refl)

module _ (z : Sizes) (s : RowState) (r : WordRule z s) (id : ℕ) (v : View) (at : get_elem? s.views id ≡ some v) where
  -- who holds the lock of a bucket that this caller hasn't locked is another
  other_holds : (b j : ℕ) → b < buckets z → v.holds.bucket ≡ None → (r.table.bucket b).lock ≡ Some j
      → IsLockedByAnother s id b × (v.lone ≢ true)
  other_holds b j inside without held =
      let u = there s.views j (r.holders b j held) in
      let ok = r.each_view j u.0 u.1 in
      let own = ok.only b inside held in (
        record {
          view = u.0;
          another = record {
            seat = j;
            other = λ is. let mine = (r.each_view id v at).only b inside (held ∙ ap Some is) in
                let both : Some mine.0 ≡ None = sym mine.1 ∙ without in cc;
            at = u.1;
            numbered = elim ok.able [
              | inl acts ↦ acts
              | inr bare ↦ let both : Some own.0 ≡ None = sym own.1 ∙ ap (λ (h : Holdings). h.bucket) bare in absurd (cc)
            ];
          };
          lock = own.0;
          held = own.1;
          bucket = own.2;
        },
        λ lone. lone_finds_none z s r b inside id j v at lone without held,
      )

  pub found_locked : (b : ℕ) (w : View) → v.holds.bucket ≡ None → b < buckets z → SeesLocked v (slice_index s.words (bucket_at z b)) w
      → IsLockedByAnother s id b × (v.lone ≢ true)
  found_locked b w without inside seen =
      let x = r.table.bucket b in
      let is = packed_once (word_of x.extent (is_some x.lock) (length x.history)) (word_of seen.extent true seen.version)
      (bucket_fits z s r b inside (is_some x.lock)) seen.fits (sym (r.each_bucket b inside).word ∙ seen.stood) in
      let holder = seat_of x.lock (ap (λ (k : Bucket). k.locked) is) in
      other_holds b holder.0 inside without holder.1

  pub found_changed : (o : OpenBucket) → v.holds.bucket ≡ None → v.notes.open_bucket ≡ Some o
      → slice_index s.words (bucket_at z o.bucket) ≢ open_word o
      → (IsLockedByAnother s id o.bucket ⊎ (o.version < length (r.table.bucket o.bucket).history)) × (v.lone ≢ true)
  found_changed o without noted changed = (
    dite (ℕ_discrete o.version (length (r.table.bucket o.bucket).history)) (λ e. inl (go e (r.table.bucket o.bucket).lock refl))
        (λ ne. inr (let past = ok.past in omega arith)),
    λ lone. changed (subst (StandsStillIf z s.words) noted ((r.each_view id v at).still lone)),
  )
    where
      ok : IsOpen z o (r.table.bucket o.bucket)
      ok = subst (IsOpenIf z r.table.bucket) noted (r.each_view id v at).open_bucket

      -- at the version that was noted the word differs by its lock bit alone
      go : o.version ≡ length (r.table.bucket o.bucket).history → (lock : Option ℕ) → (r.table.bucket o.bucket).lock ≡ lock
          → IsLockedByAnother s id o.bucket
      go e None free = absurd (changed ((r.each_bucket o.bucket ok.inside).word
          ∙ (ap (λ (lock : Option ℕ). packed (word_of (r.table.bucket o.bucket).extent (is_some lock) (length (r.table.bucket o.bucket).history))) free
          ∙ (ap (λ (x : Extent). packed (word_of x false (length (r.table.bucket o.bucket).history))) (sym (ok.extent e))
          ∙ ap (λ (n : ℕ). packed (word_of o.extent false n)) (sym e)))))
      go e (Some j) held = (other_holds o.bucket j ok.inside without held).0

  pub found_store_locked : v.holds.store ≡ None → allocation_lock_of s.words ≢ 0 → IsStoreLockedByAnother s id × (v.lone ≢ true)
  found_store_locked without closed = (
    go r.table.store.lock refl,
    λ lone. closed (open_where_none (alone_open z s r id v at lone without)),
  )
    where
      open_where_none : r.table.store.lock ≡ None → allocation_lock_of s.words ≡ 0
      open_where_none free = r.store.lock ∙ ap (λ (lock : Option ℕ). bit (is_some lock)) free

      go : (lock : Option ℕ) → r.table.store.lock ≡ lock → IsStoreLockedByAnother s id
      go None free = absurd (closed (open_where_none free))
      go (Some j) held =
          let u = there s.views j (r.keeper j held) in
          let ok = r.each_view j u.0 u.1 in
          let own = ok.only_store held in record {
            view = u.0;
            another = record {
              seat = j;
              other = λ is. let mine = (r.each_view id v at).only_store (held ∙ ap Some is) in
                  let both : Some mine.0 ≡ None = sym mine.1 ∙ without in cc;
              at = u.1;
              numbered = elim ok.able [
                | inl acts ↦ acts
                | inr bare ↦ let both : Some own.0 ≡ None = sym own.1 ∙ ap (λ (h : Holdings). h.store) bare in absurd (cc)
              ];
            };
            lock = own.0;
            held = own.1;
          }
