-- A bucket that was seen without its lock: what reads add to it, its lock, and answers without the lock.
use Rattle.std.proofs.Common.{◌≡◌, ◌∙◌, ℕ, ◌+◌, ◌≤◌, false, List, [], length, le_refl, set, refl, sym, ap, subst, arith, Some}
use lib.Seq.{set-get_or}
use Rattle.bihash_words.specs.Runs.{writes_of}
use Rattle.bihash_words.specs.Maps.{Pairs, Event, IsEvent}
use Rattle.bihash_words.specs.Sizes.{Sizes}
use Rattle.bihash_words.specs.Words.{FitsWord, packed}
use Rattle.bihash_words.specs.declared.patch.Reply.TheVariants.{NoPages}
use Rattle.bihash_rule.specs.Histories.{IsPrefix, IsKeyOf, bounds_of, bucket_of, is_changed}
use Rattle.bihash_rule.specs.Callers.{known_at}
use Rattle.bihash_rule.specs.Buckets.{AreReadIn, word_of}
use Rattle.bihash_rule.specs.Views.{nothing_held, no_notes}
use Rattle.bihash_steps.specs.BucketSteps.{Enters, acting, with_history, push_call, map_now, with_reading, TakesLock, RestsOn, MayValidate, view_after_validate, call_of}
use Rattle.bihash_rule.specs.declared.view.Write.{Write}
use Rattle.bihash_rule.specs.declared.view.Call.{Call}
use Rattle.bihash_rule.specs.declared.view.Record.{Record}
use Rattle.bihash_rule.specs.declared.view.Extent.{Extent}
use Rattle.bihash_rule.specs.declared.view.LockedBucket.{LockedBucket}
use Rattle.bihash_rule.specs.declared.view.OpenBucket.{OpenBucket}
use Rattle.bihash_rule.specs.declared.view.View.{View}
use Rattle.bihash_steps.proofs.Prefixes.{prefix_refl}
use Rattle.bihash_table.specs.Answers.{entry_of, locks_of, with_locks}
use Rattle.bihash_table.specs.Promise.{IsAnswered, IsEntered}
use Rattle.bihash_table.specs.inner.OpenReads.{HasOpen, IsOpened, Saw}
use Rattle.bihash_table.specs.inner.Seen.{HasSeen, LocksSeen}
use Rattle.bihash_table.proofs.CallChains.{IsAhead}
use Rattle.bihash_table.proofs.LockCounts.{locks_pushed}
use Rattle.bihash_table.proofs.LocklessCalls.{locked_after, reads_rest, rests_here, same_known, same_map}
use Rattle.bihash_table.proofs.CallerViews.{answered_by}
use Rattle.bihash_table.proofs.LockReleases.{with_locks-locks_of}
use Rattle.bihash_table.proofs.SameCallers.{read_entered, view_entered}
use Rattle.bihash_table.proofs.OpenReadLemmas.{notes_more, read_first, read_last}

-- ---- More reads

-- the bucket is seen after reads too
abbrev open_more : (z : Sizes) (x : View) (b word : ℕ) (more : List (ℕ × ℕ)) → HasOpen z x b word → HasOpen z (with_reading x more) b word
open_more z x b word more h = record {
  inside = h.inside;
  held = h.held;
  extent = h.extent;
  block = notes_more z x word h.extent more h.block;
  bucket = h.bucket;
  version = h.version;
  short = h.short;
  pairs = h.pairs;
}

module _ (z : Sizes) (x y : View) (b word : ℕ) {Q : Extent → List ℕ → Type 0} (s : Saw x y Q) where
  -- the first reads
  pub seen_first : HasOpen z x b word → HasSeen z y b word Q
  seen_first h = subst (λ (u : View). HasSeen z u b word Q) (sym s.is) (record {
    seen = open_more z x b word s.more h;
    told = λ reads. let o = h.block.open_bucket in
        subst (λ (e : Extent). Q e o.block) h.block.extent (s.told o h.block.noted (read_first s.more o.reads o.block reads));
  })

  -- the next ones
  pub seen_more : {P : Extent → List ℕ → Type 0} → HasSeen z x b word P → HasSeen z y b word (λ e block. P e block × Q e block)
  seen_more {P} h = subst (λ (u : View). HasSeen z u b word (λ e block. P e block × Q e block)) (sym s.is) (record {
    seen = open_more z x b word s.more h.seen;
    told = λ reads. let o = h.seen.block.open_bucket in (
      h.told (read_last s.more o.reads o.block reads),
      subst (λ (e : Extent). Q e o.block) h.seen.block.extent (s.told o h.seen.block.noted (read_first s.more o.reads o.block reads)),
    );
  })

-- what follows from what was read, and from what is known of the bucket
pub seen_as : (z : Sizes) (y : View) (b word : ℕ) {P Q : Extent → List ℕ → Type 0} → (h : HasSeen z y b word P)
    → (P h.seen.extent h.seen.block.open_bucket.block → Q h.seen.extent h.seen.block.open_bucket.block) → HasSeen z y b word Q
seen_as z y b word h more = record { seen = h.seen; told = λ reads. more (h.told reads) }

-- ---- What reads leave

module _ (v y : View) (b : ℕ) {Q : Extent → List ℕ → Type 0} (s : Saw v y Q) where
  pub saw_known : known_at y.known b ≡ known_at v.known b
  saw_known = ap (λ (u : View). known_at u.known b) s.is

  pub saw_records : y.records ≡ v.records
  saw_records = ap (λ (u : View). u.records) s.is

  pub saw_ahead : IsAhead v y b
  saw_ahead = let same = sym s.is in record {
    history = known_at v.known b;
    begins = prefix_refl (known_at v.known b);
    locks = locks_of v.records;
    is = s.is ∙ (λ i. record v {
      records = sym (with_locks-locks_of v.records) i;
      known = record v.known { writes = sym (set-get_or v.known.writes b []) i };
      holds = (same i).holds;
      notes = (same i).notes;
    });
    alone = λ _. le_refl (length (known_at v.known b));
  }

-- the view after the reads is ahead of the one before the look
pub seen_ahead : (z : Sizes) (v x y : View) (b word : ℕ) {Q : Extent → List ℕ → Type 0} → IsOpened z v x b word → Saw x y Q → IsAhead v y b
seen_ahead z v x y b word s t =
    let behind : y ≡ with_reading (record (with_history v b s.history) { notes = s.notes }) t.more
    = t.is ∙ ap (λ (u : View). with_reading u t.more) s.is in
    let same = sym behind in record {
      history = s.history;
      begins = s.begins;
      locks = locks_of v.records;
      is = behind ∙ (λ i. record (with_history v b s.history) {
        records = sym (with_locks-locks_of v.records) i;
        holds = (same i).holds;
        notes = (same i).notes;
      });
      alone = s.alone;
    }

pub seen_records : (z : Sizes) (v x y : View) (b word : ℕ) {Q : Extent → List ℕ → Type 0} → IsOpened z v x b word → Saw x y Q
    → y.records ≡ v.records
seen_records z v x y b word s t = ap (λ (u : View). u.records) t.is ∙ ap (λ (u : View). u.records) s.is

-- ---- An answer without the lock

module _ (z : Sizes) (y : View) (b word : ℕ) {P : Extent → List ℕ → Type 0} (h : HasSeen z y b word P) (e : Event) where
  -- the call, as an answer that is no write
  abbrev answer_call : Call
  answer_call = call_of y b 0 e

  pub seen_answer : IsKeyOf z b e.key → is_changed e.reply ≡ false → ((log2 left : ℕ) → e.reply ≡ NoPages log2 left → ⊥)
      → (P h.seen.extent h.seen.block.open_bucket.block
      → (m' : Pairs) × IsEvent (bounds_of z) (map_now y b) (length (known_at y.known b)) e m')
      → MayValidate z y b word answer_call
  seen_answer of_bucket read pages answers =
      let k = h.seen.block in
      let o = k.open_bucket in record {
        open_bucket = o;
        noted = k.noted;
        home = h.seen.bucket;
        fits = subst (λ (x : Extent). FitsWord (word_of x false o.version)) (sym k.extent) k.fits;
        stood = subst (λ (x : Extent). word ≡ packed (word_of x false o.version)) (sym k.extent) k.stood;
        version = h.seen.version;
        bucket = refl;
        stamp = omega arith;
        key = of_bucket;
        reads = read;
        answers = λ reads. answers (h.told reads);
        pages = pages;
        store = refl;
      }

  module _ (w : View) (entered : Enters z y answer_call (view_after_validate y answer_call) w) where
    is : w ≡ record (view_after_validate y answer_call) { log = w.log }
    is = view_entered entered

    pub answer_locks : locks_of w.records ≡ locks_of y.records
    answer_locks = locks_pushed answer_call y.records w.records (ap (λ (u : View). u.records) is)

    pub answer_seen : bucket_of z e.key ≡ b → is_changed e.reply ≡ false → IsAnswered z y w e
    answer_seen home reads =
        let H : List Write = known_at y.known b in
        let stamp : length H + 0 ≡ length H = omega arith in
        let notes : w.notes ≡ no_notes = ap (λ (u : View). u.notes) is in
        let Left : ℕ → ℕ → List Record → List (List Write) → View = λ c n records writes. record y {
          records = push_call (record (entry_of z n e y.notes.left) { bucket = c }) records;
          known = record y.known { writes = writes };
          holds = nothing_held;
          notes = w.notes;
          log = w.log;
        } in
        let here : w ≡ Left b (length H) (with_locks (locks_of y.records) y.records) (set y.known.writes b H)
        = is ∙ (λ i. record y {
          records = push_call (record (entry_of z (stamp i) e y.notes.left) { bucket = b }) (sym (with_locks-locks_of y.records) i);
          known = record y.known { writes = sym (set-get_or y.known.writes b []) i };
          holds = h.seen.held i;
          notes = sym notes i;
          log = w.log;
        }) in answered_by z y w e record {
          history = H;
          begins = subst (λ (c : ℕ). IsPrefix (known_at y.known c) H) (sym home) (prefix_refl H);
          locks = locks_of y.records;
          noted = y.notes.left;
          is = here ∙ ap (λ (c : ℕ). Left c (length H) (with_locks (locks_of y.records) y.records) (set y.known.writes c H)) (sym home);
          entered = subst (λ (c : ℕ). IsEntered y.log (acting y.records) (record (entry_of z (length H) e y.notes.left) { bucket = c }) w.log H) (sym home)
              (subst (λ (n : ℕ). IsEntered y.log (acting y.records) (record (entry_of z n e y.notes.left) { bucket = b }) w.log H) stamp (read_entered entered reads));
          alone = λ lone. subst (λ (c : ℕ). length H ≤ length (known_at y.known c) + writes_of e.reply) (sym home)
              (let own : ℕ = writes_of e.reply in omega arith);
        }

-- ---- The lock after the reads

module _ (z : Sizes) (v w : View) (b word : ℕ) (h : HasOpen z v b word) (t : TakesLock z v b word w)
    (rests : (l : LockedBucket) → w.holds.bucket ≡ Some l → RestsOn h.block.open_bucket l) where
  pub locks_seen : LocksSeen z v w b word
  locks_seen = let l = locked_after z v w b word h t rests in record {
    locked = l;
    known = same_known z v w b word h t rests;
    map = same_map z v w b word h t rests;
    bucket = h.block.open_bucket;
    noted = h.block.noted;
    extent = (rests_here z v w b word h t rests).extent;
    block = (rests_here z v w b word h t rests).block;
    reads = reads_rest z v w b word h t rests;
  }

-- what was read is told of the block under the lock
pub told_locked : (z : Sizes) (v w : View) (b word : ℕ) {P : Extent → List ℕ → Type 0} (h : HasSeen z v b word P) (k : LocksSeen z v w b word)
    → P k.locked.lock.extent k.locked.lock.now
told_locked z v w b word {P} h k =
    let one : h.seen.block.open_bucket ≡ k.bucket = let a = h.seen.block.noted in let c = k.noted in cc in
    let told = h.told (subst (λ (o : OpenBucket). AreReadIn o.reads o.block) (sym one) k.reads) in
    let extent : h.seen.extent ≡ k.locked.lock.extent
    = sym h.seen.block.extent ∙ (ap (λ (o : OpenBucket). o.extent) one ∙ sym k.extent) in
    let block : h.seen.block.open_bucket.block ≡ k.locked.lock.now = ap (λ (o : OpenBucket). o.block) one ∙ sym k.block in
    subst (λ (x : Extent × List ℕ). P x.0 x.1) (λ i. (extent i, block i)) told
