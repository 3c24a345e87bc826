-- One try of an update: answered without the lock, contended, or answered under the lock.
use Rattle.std.proofs.Common.{◌≡◌, ◌≢◌, ◌∙◌, ◌<◌, ℕ, Bool, true, false, true≢false, List, length, Option, Some, None, Result, Ok, Err, refl, sym, ap, subst, eq-eqb, ◌⊎◌, inl, inr, [], le_refl}
use Rattle.std.specs.Prelude.{IfOk, if◌then◌else◌}
use Rattle.bihash_words.specs.Maps.{Event, expired_told, effect_of}
use Rattle.bihash_words.specs.Patches.{IsStorable}
use Rattle.bihash_words.specs.Sizes.{Sizes, sizes_of}
use Rattle.bihash_words.specs.declared.shape.Shape.{Ghosts}
use Rattle.bihash_words.specs.declared.patch.Change.{Change}
use Rattle.bihash_words.specs.declared.patch.Change.TheVariants.{Keep, Set}
use Rattle.bihash_words.specs.declared.patch.Reply.{Reply}
use Rattle.bihash_words.specs.declared.patch.Reply.TheVariants.{Changed, Full, Kept, NoPages, Worn}
use Rattle.bihash_rule.specs.Histories.{bucket_of, is_changed}
use Rattle.bihash_rule.specs.Callers.{IsLawfulCaller, known_at}
use Rattle.bihash_steps.specs.BucketSteps.{Enters, call_of, without_notes, view_after_validate}
use Rattle.bihash_steps.specs.Seats.{CallerState, with_view}
use Rattle.bihash_rule.specs.declared.view.Extent.{Extent}
use Rattle.bihash_rule.specs.declared.view.View.{View}
use Rattle.bihash_rule.specs.declared.view.Write.{Write}
use Rattle.bihash_steps.specs.BucketCalls.{event}
use Rattle.bihash_words.proofs.CallLemmas.{asks_nothing}
use Rattle.bihash_words.proofs.SpareLemmas.{no_words}
use Rattle.bihash_table.specs.Answers.{locks_of, recycled_update}
use Rattle.bihash_table.specs.Promise.{IsAnswered, IsContended, IsRecycled, IsUpdated, IsUpdatedOver}
use Rattle.bihash_table.specs.inner.Locked.{IsPairBeside, UnderLock, HasLock}
use Rattle.bihash_table.specs.inner.OpenReads.{HasRead, IsPairIn, OtherPairTells, value_of}
use Rattle.bihash_table.specs.inner.Seen.{Found, HasSeen, IsValueOf, TellsLockTry, WantsChange}
use Rattle.bihash_table.specs.OutOfPages.{IsOutOfPages, LacksLarger}
use Rattle.bihash_table.specs.Tries.{Finished, FinishedOver, Tried, TriedOver, TookAtMost, is_without_lock, try_locks}
use Rattle.bihash_table.specs.declared.contended.Contended.{Contended}
use Rattle.bihash_table.specs.declared.hashed_key.SeenBucket.{SeenBucket}
use Rattle.bihash_table.proofs.CallChains.{IsAhead, ahead_answered, ahead_contended, locked_ahead}
use Rattle.bihash_table.proofs.LockCounts.{took_after, took_no_lock, took_one_lock, took_then}
use Rattle.bihash_table.proofs.PairReads.{pair_value}
use Rattle.bihash_table.proofs.LocklessCalls.{not_taken}
use Rattle.bihash_table.proofs.SameCallers.{own_through, same_but_view, same_through, view_is}
use Rattle.bihash_table.proofs.SeenBuckets.{answer_locks, answer_seen, saw_ahead, saw_known, saw_records, seen_as, told_locked}
use lib.Seq.{set-get_or}
use Rattle.bihash_rule.specs.declared.view.LockedBucket.{LockedBucket}
use Rattle.bihash_rule.specs.declared.view.PageStore.{PageStore}
use Rattle.bihash_steps.proofs.Prefixes.{prefix_refl}
use Rattle.bihash_table.proofs.LockReleases.{with_locks-locks_of}
use Rattle.bihash_table.proofs.NewPairs.{looked_at}

-- to set another value is no change that keeps the one that was found
pub other_value : (value old : ℕ) → effect_of (Set value) (Some old) ≢ Keep → value ≢ old
other_value value old wanted same = wanted (ap (λ (t : Bool). if t then Keep else Set value) (eq-eqb old value (sym same)))

-- a reply that is given under the lock is no refusal for want of room
paid_roomy : (reply : Reply) → is_without_lock reply ≡ false → reply ≢ Full
paid_roomy reply paid is = true≢false (sym (ap is_without_lock is) ∙ paid)

-- the value of the pair that was found is what the map has at the key
pub value_seen : (z : Sizes) (v : View) (b word : ℕ) (key : List ℕ) (pair : Option (ℕ × ℕ)) (found : Option ℕ) → found ≡ value_of pair
    → HasSeen z v b word (IsPairIn z key pair) → HasSeen z v b word (IsValueOf z key found)
value_seen z v b word key pair found is h = seen_as z v b word h (λ told m pairs.
    is ∙ pair_value z h.seen.extent h.seen.block.open_bucket.block key m pair told pairs)

-- what was found wants the change, where the version isn't used up
pub wants_change : {A K : Type 0} (g : Ghosts A K) (row : _) (s : CallerState) (bucket : SeenBucket A K g) (pair held : Option (ℕ × ℕ))
    (found : Option ℕ) (change : Change) → pair ≡ held → found ≡ value_of pair → Found g row s bucket pair
    → length (known_at s.view.known bucket.hashed.bucket) < g.LIMIT → effect_of change found ≢ Keep → IsStorable change
    → WantsChange g row s bucket held change
wants_change g row s bucket pair held found change is value h unworn wanted storable =
    subst (λ (p : Option (ℕ × ℕ)). WantsChange g row s bucket p change) is record {
      own = h.own;
      seen = h.seen;
      unworn = unworn;
      wanted = subst (λ (f : Option ℕ). effect_of change f ≢ Keep) value wanted;
      storable = storable;
    }

module _ {A K : Type 0} (g : Ghosts A K) (s t : CallerState) (b : ℕ) (key : K) (found : Option ℕ) (change : Change)
    (home : bucket_of (sizes_of g) (g.words_of key) ≡ b) where
  -- the bucket was locked or changed, or the allocation lock was held
  pub tried_away : (refused : Contended) → t ≡ with_view s t.view → IsContended (sizes_of g) s.view t.view b
      → locks_of t.view.records ≡ locks_of s.view.records → (s.view.lone ≡ true → ⊥) → IsLawfulCaller (sizes_of g) t.view
      → Tried g s t key found change (Err refused)
  tried_away refused same away locks crowd lawful = record {
    same = same;
    answered = tt;
    no_pages = tt;
    room = tt;
    locks = took_no_lock s.view t.view locks 1;
    contended = subst (IsContended (sizes_of g) s.view t.view) (sym home) away;
    lone = λ lone. absurd (crowd lone);
    lawful = lawful;
  }

  -- the lock was not taken
  pub tried_not : {word : ℕ} {won : Bool} (refused : Contended) → TellsLockTry (sizes_of g) s t b word won → won ≡ false
      → Tried g s t key found change (Err refused)
  tried_not refused told lost = tried_away refused told.same (told.contended lost) (ap locks_of (told.no_lock lost))
      (λ lone. true≢false (sym (told.lone lone) ∙ lost)) told.lawful

  -- ---- Without the lock

  module _ (word : ℕ) {P : Extent → List ℕ → Type 0} (h : HasSeen (sizes_of g) s.view b word P)
      (lawful : IsLawfulCaller (sizes_of g) t.view) where
    pub tried_valid : (reply : Reply) → is_changed reply ≡ false → t ≡ with_view s t.view
        → Enters (sizes_of g) s.view (call_of s.view b 0 (event (g.words_of key) found change reply))
        (view_after_validate s.view (call_of s.view b 0 (event (g.words_of key) found change reply))) t.view
        → ((log2 left : ℕ) → reply ≡ NoPages log2 left → ⊥) → reply ≢ Full → Tried g s t key found change (Ok reply)
    tried_valid reply reads same entered paged roomy = let e : Event = event (g.words_of key) found change reply in record {
      same = same;
      answered = answer_seen (sizes_of g) s.view b word h e t.view entered home reads;
      no_pages = λ log2 left short. absurd (paged log2 left short);
      room = roomy;
      locks = took_no_lock s.view t.view (answer_locks (sizes_of g) s.view b word h e t.view entered) (try_locks (Ok reply));
      contended = tt;
      lone = λ _. refl;
      lawful = lawful;
    }

    pub tried_invalid : (refused : Contended) → t ≡ with_view s (without_notes s.view) → (s.view.lone ≡ true → ⊥)
        → Tried g s t key found change (Err refused)
    tried_invalid refused is crowd = tried_away refused (same_but_view s t _ is)
        (not_taken (sizes_of g) s.view t.view b h.seen.held (view_is s t _ is)) (ap (λ (k : CallerState). locks_of k.view.records) is) crowd lawful

-- ---- Under the lock

module _ {A K : Type 0} (g : Ghosts A K) (s t : CallerState) (key : K) (found : Option ℕ) (change : Change)
    (same : t ≡ with_view s t.view) (lawful : IsLawfulCaller (sizes_of g) t.view)
    (locks : locks_of t.view.records ≡ locks_of s.view.records) where
  pub finished : (reply : Reply) → IsAnswered (sizes_of g) s.view t.view (event (g.words_of key) found change reply)
      → ((log2 left : ℕ) → reply ≡ NoPages log2 left
      → IsOutOfPages g t.view (bucket_of (sizes_of g) (g.words_of key)) key log2 left)
      → is_without_lock reply ≡ false → Finished g s t key found change (Ok reply)
  finished reply answered short paid = record {
    tried = record {
      same = same;
      answered = answered;
      no_pages = short;
      room = paid_roomy reply paid;
      locks = took_no_lock s.view t.view locks (try_locks (Ok reply));
      contended = tt;
      lone = λ _. refl;
      lawful = lawful;
    };
    paid = paid;
    no_lock = locks;
  }

  -- a write
  pub finished_write : IsAnswered (sizes_of g) s.view t.view (event (g.words_of key) found change (Changed found))
      → Finished g s t key found change (Ok (Changed found))
  finished_write answered = finished (Changed found) answered (λ log2 left short. absurd (let c : ⊥ = cc in c)) refl

  -- the allocation lock was held
  pub finished_away : (refused : Contended) (b : ℕ) → bucket_of (sizes_of g) (g.words_of key) ≡ b → IsContended (sizes_of g) s.view t.view b
      → (s.view.lone ≡ true → ⊥) → Finished g s t key found change (Err refused)
  finished_away refused b home away crowd = record {
    tried = tried_away g s t b key found change home refused same away locks crowd lawful;
    paid = tt;
    no_lock = locks;
  }

-- ---- From an earlier view

module _ {A K : Type 0} (g : Ghosts A K) (s u t : CallerState) (b : ℕ) (key : K) (found : Option ℕ) (change : Change)
    (same : u ≡ with_view s u.view) (a : IsAhead s.view u.view b) (home : bucket_of (sizes_of g) (g.words_of key) ≡ b) where
  tried_ahead : (r : Result Reply Contended) → TookAtMost s.view t.view (try_locks r)
      → Tried g u t key found change r → Tried g s t key found change r
  tried_ahead (Ok reply) locks h = record {
    same = same_through s u t _ same h.same;
    answered = ahead_answered (sizes_of g) s.view u.view t.view b (event (g.words_of key) found change reply) home a h.answered;
    no_pages = h.no_pages;
    room = h.room;
    locks = locks;
    contended = tt;
    lone = λ _. refl;
    lawful = h.lawful;
  }
  tried_ahead (Err refused) locks h = let z : Sizes = sizes_of g in record {
    same = same_through s u t _ same h.same;
    answered = tt;
    no_pages = tt;
    room = tt;
    locks = locks;
    contended = ahead_contended z s.view u.view t.view (bucket_of z (g.words_of key)) (subst (IsAhead s.view u.view) (sym home) a) h.contended;
    lone = λ lone. h.lone (ap (λ (v : View). v.lone) a.is ∙ lone);
    lawful = h.lawful;
  }

  pub tried_seen : locks_of u.view.records ≡ locks_of s.view.records → (r : Result Reply Contended)
      → Tried g u t key found change r → Tried g s t key found change r
  tried_seen locks r h = tried_ahead r (took_after s.view u.view t.view (try_locks r) locks h.locks) h

-- words of the block were read before
pub tried_read : {A K : Type 0} (g : Ghosts A K) (s u t : CallerState) (b : ℕ) (key : K) (found : Option ℕ) (change : Change)
    {Q : Extent → List ℕ → Type 0} → HasRead s u Q → bucket_of (sizes_of g) (g.words_of key) ≡ b
    → (r : Result Reply Contended) → Tried g u t key found change r → Tried g s t key found change r
tried_read g s u t b key found change read home = tried_seen g s u t b key found change read.same (saw_ahead s.view u.view b read.saw) home
    (ap locks_of (saw_records s.view u.view b read.saw))

-- the lock was taken before
module _ {A K : Type 0} (g : Ghosts A K) (s u t : CallerState) (b word : ℕ) (key : K) (found : Option ℕ) (change : Change)
    {won : Bool} (told : TellsLockTry (sizes_of g) s u b word won) (taken : won ≡ true)
    (home : bucket_of (sizes_of g) (g.words_of key) ≡ b) where
  took_one : locks_of t.view.records ≡ locks_of u.view.records → TookAtMost s.view t.view 1
  took_one locks = took_then s.view u.view t.view 1 0 (took_one_lock s.view u.view (sizes_of g) b word (told.locked taken).locked)
      (took_no_lock u.view t.view locks 0)

  pub tried_locked : (r : Result Reply Contended) → Finished g u t key found change r → Tried g s t key found change r
  tried_locked (Ok reply) h =
      tried_ahead g s u t b key found change told.same (locked_ahead (sizes_of g) s.view u.view b word (told.locked taken).locked) home (Ok reply)
      (subst (λ (free : Bool). TookAtMost s.view t.view (if free then 0 else 1)) (sym h.paid) (took_one h.no_lock)) h.tried
  tried_locked (Err refused) h =
      tried_ahead g s u t b key found change told.same (locked_ahead (sizes_of g) s.view u.view b word (told.locked taken).locked) home (Err refused)
      (took_one h.no_lock) h.tried

-- the view is the same but for its notes
abbrev pub HasNotes : View → View → Type 0
HasNotes v w = w ≡ record v { notes = w.notes }

-- the allocation lock was held by another caller, or was taken and opened again
pub unlocked_notes : (v w : View) → w ≡ without_notes v → HasNotes v w
unlocked_notes v w is = let notes = ap (λ (x : View). x.notes) (sym is) in is ∙ (λ i. record v { notes = notes i })

pub looked_notes : (v w : View) (store : PageStore) → v.holds.store ≡ None → w ≡ looked_at v store → HasNotes v w
looked_notes v w store none is = let notes = ap (λ (x : View). x.notes) (sym is) in
    is ∙ (λ i. record v { holds = record v.holds { store = sym none i }; notes = notes i })

noted_lock : (z : Sizes) (v w : View) (b word : ℕ) (l : LockedBucket) → HasNotes v w → HasLock z v b word l → HasLock z w b word l
noted_lock z v w b word l noted h = subst (λ (x : View). HasLock z x b word l) (sym noted) (record {
  inside = h.inside;
  held = h.held;
  bucket = h.bucket;
  version = h.version;
  fits = h.fits;
  stood = h.stood;
  clean = h.clean;
  near = h.near;
  size = h.size;
  pairs = h.pairs;
  writes = h.writes;
})

noted_ahead : (v w : View) (b : ℕ) → HasNotes v w → IsAhead v w b
noted_ahead v w b noted = let same = sym noted in record {
  history = known_at v.known b;
  begins = prefix_refl (known_at v.known b);
  locks = locks_of v.records;
  is = noted ∙ (λ i. record v {
    records = sym (with_locks-locks_of v.records) i;
    known = record v.known { writes = sym (set-get_or v.known.writes b []) i };
    holds = (same i).holds;
    notes = (same i).notes;
  });
  alone = λ _. le_refl (length (known_at v.known b));
}

-- it has the lock still
pub under_noted : {A K : Type 0} (g : Ghosts A K) {row : _} (s u : CallerState) (bucket : SeenBucket A K g) (change : Change)
    {tells : Sizes → List ℕ → Extent → List ℕ → Type 0} → u ≡ with_view s u.view → HasNotes s.view u.view
    → UnderLock g row s bucket change tells → UnderLock g row u bucket change tells
under_noted g s u bucket change same noted h = record {
  own = own_through s u u.view same h.own;
  lock = h.lock;
  has = noted_lock (sizes_of g) s.view u.view bucket.hashed.bucket bucket.word h.lock noted h.has;
  unworn = subst (λ (x : View). length (known_at x.known bucket.hashed.bucket) < g.LIMIT) (sym noted) h.unworn;
  storable = h.storable;
  told = h.told;
}

-- and what ends its try ends that of the caller before
pub finished_noted : {A K : Type 0} (g : Ghosts A K) (s u t : CallerState) (b : ℕ) (key : K) (found : Option ℕ) (change : Change)
    → u ≡ with_view s u.view → HasNotes s.view u.view → bucket_of (sizes_of g) (g.words_of key) ≡ b
    → (r : Result Reply Contended) → Finished g u t key found change r → Finished g s t key found change r
finished_noted g s u t b key found change same noted home r h =
    let locks = ap (λ (x : View). locks_of x.records) noted in record {
      tried = tried_seen g s u t b key found change same (noted_ahead s.view u.view b noted) home locks r h.tried;
      paid = h.paid;
      no_lock = h.no_lock ∙ locks;
    }

-- what was seen is told under the lock as it is used there, and the change may be made
pub under_lock : {A K : Type 0} (g : Ghosts A K) {row : _} (s u : CallerState) (bucket : SeenBucket A K g) (change : Change) {won : Bool}
    {P : Extent → List ℕ → Type 0} {Q : Sizes → List ℕ → Extent → List ℕ → Type 0}
    → s.row ≡ row → length (known_at s.view.known bucket.hashed.bucket) < g.LIMIT → IsStorable change
    → HasSeen (sizes_of g) s.view bucket.hashed.bucket bucket.word P
    → (told : TellsLockTry (sizes_of g) s u bucket.hashed.bucket bucket.word won) (taken : won ≡ true)
    → (P (told.locked taken).locked.lock.extent (told.locked taken).locked.lock.now
    → Q (sizes_of g) (g.words_of bucket.hashed.key.now) (told.locked taken).locked.lock.extent (told.locked taken).locked.lock.now)
    → UnderLock g row u bucket change Q
under_lock g s u bucket change own unworn storable h told taken more = let k = told.locked taken in record {
  own = own_through s u u.view told.same own;
  lock = k.locked.lock;
  has = k.locked.has;
  unworn = subst (λ (l : List Write). length l < g.LIMIT) (sym k.known) unworn;
  storable = storable;
  told = more (told_locked (sizes_of g) s.view u.view bucket.hashed.bucket bucket.word h k);
}

-- whether another pair is there was told
pub beside : (z : Sizes) (key : List ℕ) (pair : ℕ × ℕ) {other is : Bool} → other ≡ is → (e : Extent) (block : List ℕ)
    → IsPairIn z key (Some pair) e block × OtherPairTells z pair.0 other e block → IsPairBeside z key pair is e block
beside z key pair same e block told = (told.0, subst (λ (t : Bool). OtherPairTells z pair.0 t e block) same told.1)

-- a change that is wanted is so after reads too
pub unworn_read : {A K : Type 0} (g : Ghosts A K) (s u : CallerState) (b : ℕ) {Q : Extent → List ℕ → Type 0} → HasRead s u Q
    → length (known_at s.view.known b) < g.LIMIT → length (known_at u.view.known b) < g.LIMIT
unworn_read g s u b read unworn = subst (λ (l : List Write). length l < g.LIMIT) (sym (saw_known s.view u.view b read.saw)) unworn

-- ---- What the public call tells

-- ---- With an expiry

module _ {A K : Type 0} (g : Ghosts A K) (s t : CallerState) (key : K) (found : Option ℕ) (change : Change)
    (is_expired : ℕ → Bool) where
  unasked : (reply : Reply) → reply ≢ Full → event (g.words_of key) found change reply
      ≡ recycled_update (g.words_of key) found change is_expired None reply
  unasked (Kept was) roomy = refl
  unasked (Changed was) roomy = refl
  unasked (Worn was) roomy = refl
  unasked Full roomy = absurd (roomy refl)
  unasked (NoPages log2 left) roomy = refl

  -- a try that finds room doesn't ask the expiry
  pub over : (r : Result Reply Contended) → Tried g s t key found change r → TriedOver g s t key found change is_expired r
  over (Ok reply) h = record {
    same = h.same;
    answered = record {
      removed = None;
      answered = subst (IsAnswered (sizes_of g) s.view t.view) (unasked reply h.room) h.answered;
      expired = λ gone none. absurd (let c : ⊥ = cc in c);
    };
    no_pages = h.no_pages;
    locks = h.locks;
    contended = tt;
    lone = h.lone;
    lawful = h.lawful;
  }
  over (Err refused) h = record {
    same = h.same;
    answered = tt;
    no_pages = tt;
    locks = h.locks;
    contended = h.contended;
    lone = h.lone;
    lawful = h.lawful;
  }

-- from an earlier view
module _ {A K : Type 0} (g : Ghosts A K) (s u t : CallerState) (b : ℕ) (key : K) (found : Option ℕ) (change : Change)
    (is_expired : ℕ → Bool) (same : u ≡ with_view s u.view) (a : IsAhead s.view u.view b)
    (home : bucket_of (sizes_of g) (g.words_of key) ≡ b) where
  over_ahead : (r : Result Reply Contended) → TookAtMost s.view t.view (try_locks r)
      → TriedOver g u t key found change is_expired r → TriedOver g s t key found change is_expired r
  over_ahead (Ok reply) locks h = record {
    same = same_through s u t _ same h.same;
    answered = record {
      removed = h.answered.removed;
      answered = ahead_answered (sizes_of g) s.view u.view t.view b
          (recycled_update (g.words_of key) found change is_expired h.answered.removed reply) home a h.answered.answered;
      expired = h.answered.expired;
    };
    no_pages = h.no_pages;
    locks = locks;
    contended = tt;
    lone = λ _. refl;
    lawful = h.lawful;
  }
  over_ahead (Err refused) locks h = let z : Sizes = sizes_of g in record {
    same = same_through s u t _ same h.same;
    answered = tt;
    no_pages = tt;
    locks = locks;
    contended = ahead_contended z s.view u.view t.view (bucket_of z (g.words_of key)) (subst (IsAhead s.view u.view) (sym home) a) h.contended;
    lone = λ lone. h.lone (ap (λ (v : View). v.lone) a.is ∙ lone);
    lawful = h.lawful;
  }

  pub over_seen : locks_of u.view.records ≡ locks_of s.view.records → (r : Result Reply Contended)
      → TriedOver g u t key found change is_expired r → TriedOver g s t key found change is_expired r
  over_seen locks r h = over_ahead r (took_after s.view u.view t.view (try_locks r) locks h.locks) h

-- words of the block were read before
pub over_read : {A K : Type 0} (g : Ghosts A K) (s u t : CallerState) (b : ℕ) (key : K) (found : Option ℕ) (change : Change)
    (is_expired : ℕ → Bool) {Q : Extent → List ℕ → Type 0} → HasRead s u Q → bucket_of (sizes_of g) (g.words_of key) ≡ b
    → (r : Result Reply Contended) → TriedOver g u t key found change is_expired r → TriedOver g s t key found change is_expired r
over_read g s u t b key found change is_expired read home = over_seen g s u t b key found change is_expired read.same
    (saw_ahead s.view u.view b read.saw) home (ap locks_of (saw_records s.view u.view b read.saw))

-- the lock was taken before
pub over_locked : {A K : Type 0} (g : Ghosts A K) (s u t : CallerState) (b word : ℕ) (key : K) (found : Option ℕ) (change : Change)
    (is_expired : ℕ → Bool) {won : Bool} (told : TellsLockTry (sizes_of g) s u b word won) (taken : won ≡ true)
    → bucket_of (sizes_of g) (g.words_of key) ≡ b → (reply : Reply) → FinishedOver g u t key found change is_expired reply
    → TriedOver g s t key found change is_expired (Ok reply)
over_locked g s u t b word key found change is_expired told taken home reply h =
    over_ahead g s u t b key found change is_expired told.same (locked_ahead (sizes_of g) s.view u.view b word (told.locked taken).locked) home (Ok reply)
    (subst (λ (free : Bool). TookAtMost s.view t.view (if free then 0 else 1)) (sym h.paid)
    (took_then s.view u.view t.view 1 0 (took_one_lock s.view u.view (sizes_of g) b word (told.locked taken).locked)
    (took_no_lock u.view t.view h.no_lock 0))) h.tried

-- a refusal for want of room, where the bucket has the word that was seen
pub over_full : {A K : Type 0} (g : Ghosts A K) (s t : CallerState) (b : ℕ) (key : K) (value : ℕ) (is_expired : ℕ → Bool)
    → bucket_of (sizes_of g) (g.words_of key) ≡ b → (word : ℕ) {P : Extent → List ℕ → Type 0} (h : HasSeen (sizes_of g) s.view b word P)
    → IsLawfulCaller (sizes_of g) t.view
    → t ≡ with_view s t.view
    → Enters (sizes_of g) s.view (call_of s.view b 0 (recycled_update (g.words_of key) None (Set value) is_expired None Full))
    (view_after_validate s.view (call_of s.view b 0 (recycled_update (g.words_of key) None (Set value) is_expired None Full))) t.view
    → TriedOver g s t key None (Set value) is_expired (Ok Full)
over_full g s t b key value is_expired home word h lawful same entered =
    let e : Event = recycled_update (g.words_of key) None (Set value) is_expired None Full in record {
      same = same;
      answered = record {
        removed = None;
        answered = answer_seen (sizes_of g) s.view b word h e t.view entered home refl;
        expired = λ gone none. absurd (let c : ⊥ = cc in c);
      };
      no_pages = λ log2 left short. absurd (let c : ⊥ = cc in c);
      locks = took_no_lock s.view t.view (answer_locks (sizes_of g) s.view b word h e t.view entered) 0;
      contended = tt;
      lone = λ _. refl;
      lawful = lawful;
    }

-- a call that is refused for want of room, or made, wants no larger block
pub wants_no_pages : (z : Sizes) (w : View) (r : Result Reply Contended) → IfOk r (λ reply. (reply ≡ Full) ⊎ (reply ≡ Changed None))
    → IfOk r (LacksLarger z w)
wants_no_pages z w (Ok reply) h = λ log2 left e. elim h [ inl full ↦ absurd (let c : ⊥ = cc in c) | inr made ↦ absurd (let c : ⊥ = cc in c) ]
wants_no_pages z w (Err refused) h = tt

-- ---- Without one

-- where no value is expired no key was removed, and the expiry wasn't asked
never_asked : (key : List ℕ) (found : Option ℕ) (change : Change) (removed : Option (List ℕ)) (reply : Reply)
    → ((gone : List ℕ) → removed ≡ Some gone → (value : ℕ) × (false ≡ true))
    → recycled_update key found change (λ _. false) removed reply ≡ event key found change reply
never_asked key found change None reply none =
    λ i. record (event key found change reply) {
      recycling = record { expired = (ap (expired_told None reply) no_words ∙ asks_nothing None reply) i; removed = None };
    }
never_asked key found change (Some gone) reply none = absurd (true≢false (sym (none gone refl).1))

pub never_updated : {A K : Type 0} (g : Ghosts A K) (v w : View) (key : K) (decision : Option ℕ → Change)
    → (r : Result Reply Contended) → IfOk r (IsUpdatedOver (sizes_of g) v w (g.words_of key) decision (λ _. false))
    → IfOk r (IsUpdated (sizes_of g) v w (g.words_of key) decision)
never_updated g v w key decision (Ok reply) h = record {
  found = h.found;
  answered = subst (IsAnswered (sizes_of g) v w)
      (never_asked (g.words_of key) h.found (decision h.found) h.answered.removed reply h.answered.expired) h.answered.answered;
}
never_updated g v w key decision (Err refused) h = tt

pub update_answered_over : {A K : Type 0} (g : Ghosts A K) (s t : CallerState) (key : K) (found : Option ℕ) (change : Change)
    (decision : Option ℕ → Change) (is_expired : ℕ → Bool) → change ≡ decision found → (r : Result Reply Contended)
    → TriedOver g s t key found change is_expired r
    → IfOk r (IsUpdatedOver (sizes_of g) s.view t.view (g.words_of key) decision is_expired)
update_answered_over g s t key found change decision is_expired is (Ok reply) h = record {
  found = found;
  answered = subst (λ (c : Change). IsRecycled (sizes_of g) s.view t.view (g.words_of key) found c is_expired reply) is h.answered;
}
update_answered_over g s t key found change decision is_expired is (Err refused) h = tt
