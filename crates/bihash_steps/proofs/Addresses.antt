-- The address of a step names the bucket, or the word of a block, of which the step tells.
use Rattle.std.proofs.Common.{◌≡◌, eqb, Bool, ℕ, ◌+◌, ◌-◌, ◌*◌, ◌<◌, ◌≤◌, false, true, length, sym, ap, ◌∙◌, subst, arith, Some, None}
use lib.ListN.{get_elem?}
use mathlib.Core.Option.{some}
use prog.Atomic.{either}
use Rattle.atomic_table.specs.Table.{State, Allows}
use Rattle.bihash_words.specs.Sizes.{Sizes}
use Rattle.bihash_words.specs.Words.{Bucket, FitsWord, packed}
use Rattle.bihash_rule.specs.Words.{buckets, bucket_at, page_at, page_words}
use Rattle.bihash_rule.specs.Callers.{known_at}
use Rattle.bihash_rule.specs.Buckets.{word_of, open_word}
use Rattle.bihash_steps.specs.BucketSteps.{TellsBucket, TellsLock, IsLockedWord, TellsLockedWord, TellsStored, HoldsClean, without_lock, MayAnswer, view_after_answer, MayMark, marked, TellsEvent, view_after_write, IsOpenWord, TellsOpenWord, MayValidate, TellsValid, TellsEntry}
use Rattle.bihash_steps.specs.Steps.{ViewOfSeat}
use Rattle.bihash_steps.specs.StoreSteps.{MayReplace, view_after_replace, IsHeldWord, holding, stored_at}
use Rattle.bihash_rule.specs.WordRule.{WordRule}
use Rattle.bihash_rule.specs.declared.view.Call.{Call}
use Rattle.bihash_rule.specs.declared.view.Extent.{Extent}
use Rattle.bihash_rule.specs.declared.view.LockedBucket.{LockedBucket}
use Rattle.bihash_rule.specs.declared.view.HeldBlock.{HeldBlock}
use Rattle.bihash_rule.specs.declared.view.OpenBucket.{OpenBucket}
use Rattle.bihash_rule.specs.declared.view.View.{View}
use Rattle.bihash_steps.proofs.BucketPlaces.{one_place}
use Rattle.bihash_steps.proofs.bucket_steps.LoadBucket.{loads_bucket}
use Rattle.bihash_steps.proofs.bucket_steps.WordFields.{bucket_fits}
use Rattle.bihash_steps.proofs.bucket_steps.LockFrom.{locks_bucket}
use Rattle.bihash_steps.proofs.bucket_steps.LockedWords.{held_bucket, loads_locked_word, stores_locked_word}
use Rattle.bihash_steps.proofs.bucket_steps.Release.{unlocks_bucket, answers_call}
use Rattle.bihash_steps.proofs.bucket_steps.OpenReads.{loads_open_word, validates_call}
use Rattle.bihash_steps.proofs.pool_steps.StoreHeld.{stores_held_word}
use Rattle.bihash_steps.proofs.bucket_steps.Publish.{publishes_call}
use Rattle.bihash_steps.proofs.bucket_steps.PublishBlock.{replaces_call}

-- a step may tell something else of what it tells
pub tells : (holds : State (Unit {0}) View → Type 0) (slots id i : ℕ) (m : ViewOfSeat) (f : ℕ → ℕ) (t u : ℕ → ViewOfSeat → Type 0)
    → ((n : ℕ) (m' : ViewOfSeat) → t n m' → u n m') → Allows holds slots id m i f t → Allows holds slots id m i f u
tells holds slots id i m f t u more a s h wide at fits = let r = a s h wide at fits in (r.0, r.1, r.2, r.3, more _ _ r.4)

-- the version in a lock is the number of the writes that are known
abbrev pub HasVersion : View → Type 0
HasVersion v = (l : LockedBucket) → v.holds.bucket ≡ Some l → FitsWord (word_of l.extent false l.version)
    × (l.version ≡ length (known_at v.known l.bucket))

module _ (z : Sizes) where
  -- ---- Buckets

  same_bucket : (b c : ℕ) → b < buckets z → c < buckets z → bucket_at z b ≡ bucket_at z c → b ≡ c
  same_bucket b c l l' e = one_place z b c l l' (omega arith)

  pub sees_at : (slots id at b : ℕ) (m : ViewOfSeat) → at ≡ bucket_at z b → b < buckets z → 1 ≤ length m.0.records
      → Allows (WordRule z) slots id m at (λ n. n) (λ n m'. (c : ℕ) → c < buckets z → at ≡ bucket_at z c → TellsBucket z c m n m')
  sees_at slots id at b m is inside acts =
      subst (λ (i : ℕ). Allows (WordRule z) slots id m i (λ n. n) (λ n m'. (c : ℕ) → c < buckets z → i ≡ bucket_at z c → TellsBucket z c m n m')) (sym is)
      (tells (WordRule z) slots id (bucket_at z b) m (λ n. n) (TellsBucket z b m)
      (λ n m'. (c : ℕ) → c < buckets z → bucket_at z b ≡ bucket_at z c → TellsBucket z c m n m')
      (λ n m' t c l e. subst (λ (k : ℕ). TellsBucket z k m n m') (same_bucket b c inside l e) t) (loads_bucket z slots id b m inside acts))

  pub locks_at : (slots id at b word locked : ℕ) (x : Bucket) (m : ViewOfSeat) → at ≡ bucket_at z b → b < buckets z → 1 ≤ length m.0.records
      → m.0.holds.bucket ≡ None → FitsWord x → word ≡ packed x → x.locked ≡ false → locked ≡ packed (record x { locked = true })
      → Allows (WordRule z) slots id m at (λ n. either (eqb n word) locked n) (λ n m'. (c : ℕ) → c < buckets z → at ≡ bucket_at z c → TellsLock z c word m n m')
  locks_at slots id at b word locked x m is inside acts free fits stood unset next =
      subst (λ (i : ℕ). Allows (WordRule z) slots id m i (λ n. either (eqb n word) locked n)
      (λ n m'. (c : ℕ) → c < buckets z → i ≡ bucket_at z c → TellsLock z c word m n m')) (sym is)
      (tells (WordRule z) slots id (bucket_at z b) m (λ n. either (eqb n word) locked n) (TellsLock z b word m)
      (λ n m'. (c : ℕ) → c < buckets z → bucket_at z b ≡ bucket_at z c → TellsLock z c word m n m')
      (λ n m' t c l e. subst (λ (k : ℕ). TellsLock z k word m n m') (same_bucket b c inside l e) t)
      (locks_bucket z slots id b word locked x m inside acts free fits stood unset next))

  -- the old word is put back, without an answer or with one
  pub unlocks_at : (slots id at b word : ℕ) (m : ViewOfSeat) → at ≡ bucket_at z b → HoldsClean m.0 b word
      → Allows (WordRule z) slots id m at (λ _. word) (λ _. TellsEvent z without_lock m)
  unlocks_at slots id at b word m is clean =
      subst (λ (i : ℕ). Allows (WordRule z) slots id m i (λ _. word) (λ _. TellsEvent z without_lock m)) (sym is)
      (unlocks_bucket z slots id b word m clean)

  has_version : (s : State (Unit {0}) View) (r : WordRule z s) (id : ℕ) (v : View) → get_elem? s.views id ≡ some v → HasVersion v
  has_version s r id v seat l is = let h = held_bucket z s r id v l seat is in (
    subst (λ (p : Extent × ℕ). FitsWord (word_of p.0 false p.1)) (λ i. (sym h.extent i, sym h.version i)) (bucket_fits z s r l.bucket h.inside false),
    h.version ∙ ap length (sym h.fresh),
  )

  pub answers_at : (slots id at b word : ℕ) (c : Call) (m : ViewOfSeat) → at ≡ bucket_at z b → MayAnswer z m.0 b word c
      → Allows (WordRule z) slots id m at (λ _. word) (λ _ m'. TellsEntry z (λ v. view_after_answer v c) c m m' × HasVersion m.0)
  answers_at slots id at b word c m is may s r deep seat fits =
      let a = subst (λ (i : ℕ). Allows (WordRule z) slots id m i (λ _. word) (λ _. TellsEntry z (λ v. view_after_answer v c) c m)) (sym is)
      (answers_call z slots id b word c m may) s r deep seat fits in
      (a.0, a.1, a.2, a.3, (a.4, has_version s r id m.0 seat))

  -- the bucket's next word, over the block as it is
  pub publishes_at : (slots id at b word next : ℕ) (linear : Bool) (c : Call) (m : ViewOfSeat)
      (may : MayMark z m.0 b word linear c) → at ≡ bucket_at z b → 1 ≤ length m.0.records
      → next ≡ packed (word_of (marked may.write.lock.extent linear) false (may.write.lock.version + 1))
      → Allows (WordRule z) slots id m at (λ _. next) (λ _. TellsEntry z (λ v. view_after_write v c) c m)
  publishes_at slots id at b word next linear c m may is acts stored =
      subst (λ (p : ℕ × ℕ). Allows (WordRule z) slots id m p.0 (λ _. p.1) (λ _. TellsEntry z (λ v. view_after_write v c) c m)) (λ i. (sym is i, sym stored i))
      (publishes_call z slots id m b word linear c may acts)

  -- and over another one
  pub replaces_at : (slots id at b word next : ℕ) (extent : Extent) (c : Call) (m : ViewOfSeat) (may : MayReplace z m.0 b word extent c)
      → at ≡ bucket_at z b → 1 ≤ length m.0.records → next ≡ packed (word_of extent false (may.write.lock.version + 1))
      → Allows (WordRule z) slots id m at (λ _. next) (λ _. TellsEntry z (λ v. view_after_replace v c) c m)
  replaces_at slots id at b word next extent c m may is acts stored =
      subst (λ (p : ℕ × ℕ). Allows (WordRule z) slots id m p.0 (λ _. p.1) (λ _. TellsEntry z (λ v. view_after_replace v c) c m)) (λ i. (sym is i, sym stored i))
      (replaces_call z slots id m b word extent c may acts)

  -- ---- Words of the block that the caller has locked

  -- the address of such a word is that of one word
  one_word : (v : View) (page k p i : ℕ) → IsLockedWord z v page k → IsLockedWord z v p i → page_at z page + k ≡ page_at z p + i → k ≡ i
  one_word v page k p i a b e =
      let one : a.lock ≡ b.lock = let h = a.held in let f = b.held in cc in
      let same : page ≡ p = sym a.first ∙ (ap (λ (l : LockedBucket). l.extent.page) one ∙ b.first) in
      let at : page_at z page + k ≡ page_at z page + i = e ∙ ap (λ (n : ℕ). page_at z n + i) (sym same) in
      let x : ℕ = (page - 1) * page_words z in omega arith

  pub loads_at : (slots id at page k : ℕ) (m : ViewOfSeat) → at ≡ page_at z page + k → IsLockedWord z m.0 page k
      → Allows (WordRule z) slots id m at (λ n. n) (λ n m'. (p i : ℕ) → IsLockedWord z m.0 p i → at ≡ page_at z p + i → TellsLockedWord i m n m')
  loads_at slots id at page k m is word =
      subst (λ (x : ℕ). Allows (WordRule z) slots id m x (λ n. n)
      (λ n m'. (p i : ℕ) → IsLockedWord z m.0 p i → x ≡ page_at z p + i → TellsLockedWord i m n m')) (sym is)
      (tells (WordRule z) slots id (page_at z page + k) m (λ n. n) (TellsLockedWord k m)
      (λ n m'. (p i : ℕ) → IsLockedWord z m.0 p i → page_at z page + k ≡ page_at z p + i → TellsLockedWord i m n m')
      (λ n m' t p i other e. subst (λ (j : ℕ). TellsLockedWord j m n m') (one_word m.0 page k p i word other e) t)
      (loads_locked_word z slots id page k m word))

  pub stores_at : (slots id at page k n : ℕ) (m : ViewOfSeat) → at ≡ page_at z page + k → IsLockedWord z m.0 page k
      → Allows (WordRule z) slots id m at (λ _. n) (λ _ m'. (p i : ℕ) → IsLockedWord z m.0 p i → at ≡ page_at z p + i → TellsStored i n m m')
  stores_at slots id at page k n m is word =
      subst (λ (x : ℕ). Allows (WordRule z) slots id m x (λ _. n)
      (λ _ m'. (p i : ℕ) → IsLockedWord z m.0 p i → x ≡ page_at z p + i → TellsStored i n m m')) (sym is)
      (tells (WordRule z) slots id (page_at z page + k) m (λ _. n) (λ _. TellsStored k n m)
      (λ _ m'. (p i : ℕ) → IsLockedWord z m.0 p i → page_at z page + k ≡ page_at z p + i → TellsStored i n m m')
      (λ _ m' t p i other e. subst (λ (j : ℕ). TellsStored j n m m') (one_word m.0 page k p i word other e) t)
      (stores_locked_word z slots id page k n m word))

  -- ---- Words of the block that it holds

  pub stores_held_at : (slots id at page k n : ℕ) (m : ViewOfSeat) → at ≡ page_at z page + k → IsHeldWord z m.0 page k → 1 ≤ length m.0.records
      → Allows (WordRule z) slots id m at (λ _. n) (λ _ m'. (p i : ℕ) (h : HeldBlock) → IsHeldWord z m.0 p i → at ≡ page_at z p + i
      → m.0.holds.block ≡ Some h → m' ≡ (holding m.0 m.0.holds.store (Some (stored_at h i n)), m.1))
  stores_held_at slots id at page k n m is word acts =
      subst (λ (x : ℕ). Allows (WordRule z) slots id m x (λ _. n) (λ _ m'. (p i : ℕ) (h : HeldBlock) → IsHeldWord z m.0 p i → x ≡ page_at z p + i
      → m.0.holds.block ≡ Some h → m' ≡ (holding m.0 m.0.holds.store (Some (stored_at h i n)), m.1))) (sym is)
      (stores_held_word z slots id page k n m word acts)

  -- ---- Without a lock

  one_open_word : (v : View) (page k p i : ℕ) → IsOpenWord z v page k → IsOpenWord z v p i → page_at z page + k ≡ page_at z p + i → k ≡ i
  one_open_word v page k p i a b e =
      let one : a.bucket ≡ b.bucket = let h = a.noted in let f = b.noted in cc in
      let same : page ≡ p = sym a.first ∙ (ap (λ (o : OpenBucket). o.extent.page) one ∙ b.first) in
      let at : page_at z page + k ≡ page_at z page + i = e ∙ ap (λ (n : ℕ). page_at z n + i) (sym same) in
      let x : ℕ = (page - 1) * page_words z in omega arith

  pub loads_open_at : (slots id at page k : ℕ) (m : ViewOfSeat) → at ≡ page_at z page + k → IsOpenWord z m.0 page k
      → Allows (WordRule z) slots id m at (λ n. n) (λ n m'. (p i : ℕ) → IsOpenWord z m.0 p i → at ≡ page_at z p + i → TellsOpenWord i m n m')
  loads_open_at slots id at page k m is word =
      subst (λ (x : ℕ). Allows (WordRule z) slots id m x (λ n. n)
      (λ n m'. (p i : ℕ) → IsOpenWord z m.0 p i → x ≡ page_at z p + i → TellsOpenWord i m n m')) (sym is)
      (tells (WordRule z) slots id (page_at z page + k) m (λ n. n) (TellsOpenWord k m)
      (λ n m'. (p i : ℕ) → IsOpenWord z m.0 p i → page_at z page + k ≡ page_at z p + i → TellsOpenWord i m n m')
      (λ n m' t p i other e. subst (λ (j : ℕ). TellsOpenWord j m n m') (one_open_word m.0 page k p i word other e) t)
      (loads_open_word z slots id page k m word))

  pub validates_at : (slots id at b word : ℕ) (c : Call) (m : ViewOfSeat) → at ≡ bucket_at z b → b < buckets z → 1 ≤ length m.0.records
      → MayValidate z m.0 b word c
      → Allows (WordRule z) slots id m at (λ n. n) (λ n m'. (o : OpenBucket) → m.0.notes.open_bucket ≡ Some o → TellsValid z (open_word o) c m n m')
  validates_at slots id at b word c m is inside acts may =
      subst (λ (i : ℕ). Allows (WordRule z) slots id m i (λ n. n)
      (λ n m'. (o : OpenBucket) → m.0.notes.open_bucket ≡ Some o → TellsValid z (open_word o) c m n m')) (sym is)
      (tells (WordRule z) slots id (bucket_at z b) m (λ n. n) (TellsValid z word c m)
      (λ n m'. (o : OpenBucket) → m.0.notes.open_bucket ≡ Some o → TellsValid z (open_word o) c m n m')
      (λ n m' t o noted. let one : may.open_bucket ≡ o = let h = may.noted in cc in
      subst (λ (y : ℕ). TellsValid z y c m n m') (may.stood ∙ ap open_word one) t)
      (validates_call z slots id b word c m may inside acts))
