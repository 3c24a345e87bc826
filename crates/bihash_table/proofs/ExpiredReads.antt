-- Looks at an open bucket for an expired pair: what is read, what it leaves where nothing is removed, and the removal.
use Rattle.std.proofs.Common.{◌≡◌, ◌≢◌, ◌∙◌, ◌⊎◌, ℕ, ◌+◌, ◌<◌, ◌≤◌, ◌^◌, Bool, true, false, true≢false, List, length, Option, Some, None, Result, Ok, Err, inl, inr, arith, refl, sym, ap, subst, eqb-true, eq-eqb, nat_eq}
use Rattle.std.specs.FinMap.{get}
use Rattle.std.proofs.lemmas.Bool.{cases_lt}
use Rattle.bihash_words.specs.Maps.{Pairs}
use Rattle.bihash_words.specs.Sizes.{Sizes, sizes_of}
use Rattle.bihash_words.specs.Words.{Bucket}
use Rattle.bihash_words.specs.declared.patch.Change.TheVariants.{Remove}
use Rattle.bihash_words.specs.declared.patch.Reply.{Reply}
use Rattle.bihash_words.specs.declared.shape.Shape.{Ghosts}
use Rattle.bihash_rule.specs.Blocks.{HasPair, HoldsPair, IsBlockOf, free, places, value_in}
use Rattle.bihash_rule.specs.Buckets.{AreReadIn, word_of}
use Rattle.bihash_rule.specs.Callers.{IsLawfulCaller, known_at, opening_at}
use Rattle.bihash_rule.specs.Histories.{bucket_of}
use Rattle.bihash_rule.specs.declared.view.Extent.{Extent}
use Rattle.bihash_rule.specs.declared.view.OpenBucket.{OpenBucket}
use Rattle.bihash_rule.specs.declared.view.View.{View}
use Rattle.bihash_steps.specs.BucketCalls.{FindsBucket, event}
use Rattle.bihash_steps.specs.BucketSteps.{SeesLocked, SeesOpen, map_now, with_history, with_reading}
use Rattle.bihash_steps.specs.Seats.{CallerState, with_view}
use Rattle.bihash_table.specs.Ageing.{Ages, TellsExpireTry, look_locks}
use Rattle.bihash_table.specs.Answers.{locks_of}
use Rattle.bihash_table.specs.Promise.{IsContended}
use Rattle.bihash_table.specs.Tries.{Tried}
use Rattle.bihash_table.specs.declared.contended.Contended.{Contended}
use Rattle.bihash_table.specs.declared.hashed_key.SeenBucket.{SeenBucket}
use Rattle.bihash_table.specs.inner.ExpiredPairs.{FindsExpired, HasFoundExpired}
use Rattle.bihash_table.specs.inner.OpenReads.{HasOpen, HasRead, IsOpened, NotesBlock, Saw, StandsAt}
use Rattle.bihash_table.specs.inner.Scans.{CountsPlaces}
use Rattle.bihash_table.specs.inner.Seen.{Found, HasSeen, RestsSeen, TellsUnchanged}
use Rattle.bihash_steps.proofs.Homes.{key_home}
use Rattle.bihash_steps.proofs.SeatCounts.{seen_records}
use Rattle.bihash_steps.proofs.bucket_steps.WordFields.{packed_once}
use Rattle.bihash_table.proofs.CallChains.{IsAhead, ahead_answered, ahead_contended, locked_turns_away, not_yet_tried}
use Rattle.bihash_table.proofs.CallerViews.{contended_by}
use Rattle.bihash_table.proofs.LockCounts.{took_after, took_no_lock}
use Rattle.bihash_table.proofs.LocklessCalls.{map_still, open_word_is, opened}
use Rattle.bihash_table.proofs.LockReleases.{with_locks-locks_of}
use Rattle.bihash_table.proofs.OpenReadLemmas.{note_extent, read_as, read_nothing, read_then, word_notes}
use Rattle.bihash_table.proofs.SameCallers.{same_through}

-- ---- What is read

module _ {A K : Type 0} (g : Ghosts A K) (is_expired : ℕ → Bool) where
  -- no pair of the first places is expired
  abbrev pub NoneExpired : ℕ → Extent → List ℕ → Type 0
  NoneExpired to e block = (i : ℕ) → i < to → HasPair (sizes_of g) e block i → is_expired (value_in (sizes_of g) block i) ≡ false

  -- the value of a place
  abbrev pub ValueAt : ℕ → ℕ → Extent → List ℕ → Type 0
  ValueAt i value e block = value ≡ value_in (sizes_of g) block i

  pub none_expired_yet : (v : CallerState) → HasRead v v (NoneExpired 0)
  none_expired_yet v = read_nothing v (λ e block k low. absurd (omega arith))

  module _ (u v w : CallerState) (at value : ℕ) (before : HasRead u v (NoneExpired at)) (now : HasRead v w (ValueAt at value)) where
    pub none_expired_free : value ≡ free → HasRead u w (NoneExpired (at + 1))
    none_expired_free is = read_then {Q = ValueAt at value} u v w (λ o noted seen here k low has. elim (cases_lt k at) [
      | inl less ↦ seen k less has
      | inr not ↦ let same : k ≡ at = omega arith in absurd (has.1 (ap (value_in (sizes_of g) o.block) same ∙ (sym here ∙ is)))
    ]) before now

    pub none_expired_more : is_expired value ≡ false → HasRead u w (NoneExpired (at + 1))
    none_expired_more is = read_then {Q = ValueAt at value} u v w (λ o noted seen here k low has. elim (cases_lt k at) [
      | inl less ↦ seen k less has
      | inr not ↦ let same : k ≡ at = omega arith in
          ap (λ (i : ℕ). is_expired (value_in (sizes_of g) o.block i)) same ∙ (ap is_expired (sym here) ∙ is)
    ]) before now

    pub finds_expired : (t : CallerState) (key : K) (again word : ℕ) (e : Extent) → HasRead w t (StandsAt g at (key, again))
        → NotesBlock (sizes_of g) u.view word e → at < places e.page e.size.log2 → value ≢ free
        → HasRead u t (FindsExpired g is_expired (Some (at, key, value)))
    finds_expired t key again word e then h inside taken = read_then {P = ValueAt at value} {Q = StandsAt g at (key, again)} u w t
        (λ o noted has stands. record {
          pair = (
            subst (λ (x : Extent). at < places x.page x.size.log2) (sym (note_extent (sizes_of g) u.view word e o h noted)) inside,
            λ is. taken (has ∙ is),
          );
          stands = stands.0;
          has = sym has;
        })
        (read_then {P = NoneExpired at} {Q = ValueAt at value} u v w (λ o noted seen here. here) before now) then

  pub none_expired : (u v : CallerState) (word to : ℕ) (e : Extent) → NotesBlock (sizes_of g) u.view word e → places e.page e.size.log2 ≤ to
      → HasRead u v (NoneExpired to) → HasRead u v (FindsExpired g is_expired None)
  none_expired u v word to e h all = read_as u v (λ o noted seen k has. seen k
      (let room : places o.extent.page o.extent.size.log2 ≤ to
      = subst (λ (x : Extent). places x.page x.size.log2 ≤ to) (sym (note_extent (sizes_of g) u.view word e o h noted)) all in
      let inside = has.0 in omega arith) has)

-- a caller that reads stays lawful
lawful_reading : (z : Sizes) (v : View) (more : List (ℕ × ℕ)) → IsLawfulCaller z v → IsLawfulCaller z (with_reading v more)
lawful_reading z v more h = record {
  acts = h.acts;
  numbers = h.numbers;
  lawful = h.lawful;
  lists = h.lists;
  made = λ lone b low. h.made lone b low;
  logged = h.logged;
  matches = h.matches;
}

pub lawful_read : (z : Sizes) {Q : Extent → List ℕ → Type 0} (v w : View) → Saw v w Q → IsLawfulCaller z v → IsLawfulCaller z w
lawful_read z v w s h = subst (IsLawfulCaller z) (sym s.is) (lawful_reading z v s.more h)

-- ---- The word again

-- a bucket that was seen leaves what a call leaves that was given up
opened_contended : (z : Sizes) (v w : View) (b word : ℕ) → IsOpened z v w b word → IsContended z v w b
opened_contended z v w b word s = contended_by z v w b record {
  history = s.history;
  begins = s.begins;
  locks = locks_of v.records;
  is = s.is ∙ (λ i. record (with_history v b s.history) {
    records = sym (with_locks-locks_of v.records) i;
    holds = (sym (ap (λ (x : View). x.holds) s.is) ∙ s.has.held) i;
    notes = sym (ap (λ (x : View). x.notes) s.is) i;
  });
  alone = s.alone;
}

module _ (z : Sizes) (s t : CallerState) (b word found : ℕ) (h : HasOpen z s.view b word) (told : FindsBucket z s t b found) where
  abbrev noted : OpenBucket
  noted = h.block.open_bucket

  learns : IsContended z s.view t.view b
  learns = elim told.seen [
    | inl seen ↦ opened_contended z s.view t.view b found (opened z s.view t.view b found h.inside h.held seen told.whole)
    | inr locked ↦ locked_turns_away z s.view t.view b found h.held locked
  ]

  -- the noted word is no locked one, and has one version
  rests_seen : found ≡ word → SeesOpen z s.view b found t.view ⊎ SeesLocked s.view found t.view → RestsSeen s.view t.view b
  rests_seen same (inl seen) =
      let once : word_of seen.extent false (length seen.history) ≡ word_of h.extent false noted.version
      = packed_once _ _ seen.found.fits h.block.fits (sym seen.found.stood ∙ (same ∙ h.block.stood)) in
      let version : length seen.history ≡ noted.version = ap (λ (x : Bucket). x.version) once in
      let known = h.version in record {
        map = map_still z s.view t.view b found h.inside h.held seen told.whole (omega arith);
        bucket = noted;
        noted = h.block.noted;
        reads = told.again.reads noted h.block.noted h.bucket (same ∙ open_word_is z s.view b word h);
      }
  rests_seen same (inr locked) =
      let once : word_of locked.extent true locked.version ≡ word_of h.extent false noted.version
      = packed_once _ _ locked.fits h.block.fits (sym locked.stood ∙ (same ∙ h.block.stood)) in
      absurd (true≢false (ap (λ (x : Bucket). x.locked) once))

  pub unchanged : (now then : ℕ) → now ≡ found → then ≡ word → TellsUnchanged z s t b (nat_eq now then)
  unchanged now then is is_then = record {
    same = told.same;
    rests = λ here. rests_seen (sym is ∙ (eqb-true _ _ here ∙ is_then)) told.seen;
    learned = learns;
    no_lock = seen_records z b found s.view t.view told.seen;
    lone = λ lone. eq-eqb _ _ (is ∙ (told.again.alone lone noted h.block.noted h.bucket ∙ (sym (open_word_is z s.view b word h) ∙ sym is_then)));
    lawful = told.lawful;
  }

-- what was read is told of the block that was noted
pub told_unchanged : (z : Sizes) (v w : View) (b word : ℕ) {P : Extent → List ℕ → Type 0} (h : HasSeen z v b word P) → RestsSeen v w b
    → P h.seen.extent h.seen.block.open_bucket.block
told_unchanged z v w b word h k =
    let one : h.seen.block.open_bucket ≡ k.bucket = let a = h.seen.block.noted in let c = k.noted in cc in
    h.told (subst (λ (o : OpenBucket). AreReadIn o.reads o.block) (sym one) k.reads)

-- ---- From an earlier view

module _ (z : Sizes) (s u t : CallerState) (b : ℕ) (is_expired : ℕ → Bool) where
  pub ages_ahead : IsAhead s.view u.view b → (o : Option Reply) → Ages z u.view t.view b is_expired o → Ages z s.view t.view b is_expired o
  ages_ahead a None h = record { learned = ahead_contended z s.view u.view t.view b a h.learned; none = h.none }
  ages_ahead a (Some reply) h = record {
    key = h.key;
    value = h.value;
    home = h.home;
    expired = h.expired;
    word = h.word;
    answered = ahead_answered z s.view u.view t.view b (event h.key (Some h.value) Remove reply) h.home a h.answered;
  }

  pub expired_ahead : u ≡ with_view s u.view → IsAhead s.view u.view b → locks_of u.view.records ≡ locks_of s.view.records
      → (r : Result (Option Reply) Contended) → TellsExpireTry z u t b is_expired r → TellsExpireTry z s t b is_expired r
  expired_ahead same a locks (Ok o) h = record {
    same = same_through s u t _ same h.same;
    answered = ages_ahead a o h.answered;
    locks = took_after s.view u.view t.view (look_locks (Ok o)) locks h.locks;
    contended = tt;
    lone = λ lone. refl;
    lawful = h.lawful;
  }
  expired_ahead same a locks (Err refused) h = record {
    same = same_through s u t _ same h.same;
    answered = tt;
    locks = took_after s.view u.view t.view 1 locks h.locks;
    contended = ahead_contended z s.view u.view t.view b a h.contended;
    lone = λ lone. h.lone (ap (λ (v : View). v.lone) a.is ∙ lone);
    lawful = h.lawful;
  }

-- ---- None is expired

-- the word has changed
pub expiry_away : (z : Sizes) (s t : CallerState) (b : ℕ) (is_expired : ℕ → Bool) {here : Bool} (refused : Contended) → TellsUnchanged z s t b here
    → here ≡ false → TellsExpireTry z s t b is_expired (Err refused)
expiry_away z s t b is_expired refused told gone = record {
  same = told.same;
  answered = tt;
  locks = took_no_lock s.view t.view (ap locks_of told.no_lock) 1;
  contended = told.learned;
  lone = λ lone. absurd (true≢false (sym (told.lone lone) ∙ gone));
  lawful = told.lawful;
}

-- what is known of the bucket's map, from its block
none_in_map : (z : Sizes) (e : Extent) (block : List ℕ) (m : Pairs) (is_expired : ℕ → Bool) → IsBlockOf z e block m
    → ((i : ℕ) → HasPair z e block i → is_expired (value_in z block i) ≡ false)
    → (key : List ℕ) (value : ℕ) → get m key ≡ Some value → is_expired value ≡ false
none_in_map z e block m is_expired is none key value there =
    let (i, h) = is.map.found key value there in ap is_expired (sym h.has) ∙ none i h.pair

module _ {A K : Type 0} (g : Ghosts A K) (row : _) (s : CallerState) (b word : ℕ) (is_expired : ℕ → Bool) where
  -- a bucket without places has no pair
  pub none_without_places : (count : ℕ) → HasFoundExpired g row s b word is_expired None → CountsPlaces (sizes_of g) word count → count ≡ 0
      → TellsExpireTry (sizes_of g) s s b is_expired (Ok None)
  none_without_places count h counts none =
      let z : Sizes = sizes_of g in
      let o = h.seen.seen in
      let places = counts.count o.extent (word_notes z s.view word o.extent o.block) in record {
        same = refl;
        answered = record {
          learned = not_yet_tried z s.view b o.held;
          none = none_in_map z o.extent o.block.open_bucket.block (map_now s.view b) is_expired o.pairs
              (λ i pair. let low = pair.0 in absurd (omega (arith, low, places, none)));
        };
        locks = took_no_lock s.view s.view refl 0;
        contended = tt;
        lone = λ lone. refl;
        lawful = h.lawful;
      }

  module _ (t : CallerState) {here : Bool} (told : TellsUnchanged (sizes_of g) s t b here) where
    pub none_confirmed : HasFoundExpired g row s b word is_expired None → here ≡ true → TellsExpireTry (sizes_of g) s t b is_expired (Ok None)
    none_confirmed h is =
        let z : Sizes = sizes_of g in
        let k = told.rests is in
        let o = h.seen.seen in record {
          same = told.same;
          answered = record {
            learned = told.learned;
            none = subst (λ (m : Pairs). (key : List ℕ) (value : ℕ) → get m key ≡ Some value → is_expired value ≡ false) (sym k.map)
                (none_in_map z o.extent o.block.open_bucket.block (map_now s.view b) is_expired o.pairs
                (told_unchanged z s.view t.view b word h.seen k));
          };
          locks = took_no_lock s.view t.view (ap locks_of told.no_lock) 0;
          contended = tt;
          lone = λ lone. refl;
          lawful = told.lawful;
        }

    -- a key that was read in the bucket's block is one of the bucket
    pub no_stranger : (pair : ℕ × K × ℕ) → HasFoundExpired g row s b word is_expired (Some pair) → bucket_of (sizes_of g) (g.words_of pair.1) ≢ b
        → here ≡ true → ⊥
    no_stranger pair h strange is =
        let z : Sizes = sizes_of g in
        let o = h.seen.seen in
        let held = told_unchanged z s.view t.view b word h.seen (told.rests is) in
        strange (key_home z b (opening_at s.view.known b) (known_at s.view.known b) (g.words_of pair.1) pair.2 (h.lawful.lists b o.inside)
        (o.pairs.map.mapped (g.words_of pair.1) pair.2 pair.0 held))

-- ---- The removal

-- the expired pair that was found is that of its key
pub expired_found : {A K : Type 0} (g : Ghosts A K) (row : _) (s : CallerState) (bucket : SeenBucket A K g) (b : ℕ) (is_expired : ℕ → Bool)
    (pair : ℕ × K × ℕ) → HasFoundExpired g row s b bucket.word is_expired (Some pair) → bucket.hashed.bucket ≡ b → bucket.hashed.key.now ≡ pair.1
    → Found g row s bucket (Some (pair.0, pair.2))
expired_found {A} {K} g row s bucket b is_expired pair h home key = record {
  own = h.own;
  seen = subst (λ (k : K). HasSeen (sizes_of g) s.view bucket.hashed.bucket bucket.word
      (λ e block. HoldsPair (sizes_of g) e block (g.words_of k) pair.2 pair.0)) (sym key)
      (subst (λ (n : ℕ). HasSeen (sizes_of g) s.view n bucket.word (FindsExpired g is_expired (Some pair))) (sym home) h.seen);
}

-- the update was answered, or contended
module _ {A K : Type 0} (g : Ghosts A K) (s t : CallerState) (b : ℕ) (key : K) (value : ℕ) (is_expired : ℕ → Bool)
    (home : bucket_of (sizes_of g) (g.words_of key) ≡ b) where
  pub expired_gone : (is_expired value ≡ true) × (value < 2 ^ 64) → (reply : Reply) → Tried g s t key (Some value) Remove (Ok reply)
      → TellsExpireTry (sizes_of g) s t b is_expired (Ok (Some reply))
  expired_gone ended reply h = record {
    same = h.same;
    answered = record { key = g.words_of key; value = value; home = home; expired = ended.0; word = ended.1; answered = h.answered };
    locks = h.locks;
    contended = tt;
    lone = λ lone. refl;
    lawful = h.lawful;
  }

  pub update_away : (refused : Contended) → Tried g s t key (Some value) Remove (Err refused)
      → TellsExpireTry (sizes_of g) s t b is_expired (Err refused)
  update_away refused h = record {
    same = h.same;
    answered = tt;
    locks = h.locks;
    contended = subst (IsContended (sizes_of g) s.view t.view) home h.contended;
    lone = h.lone;
    lawful = h.lawful;
  }
