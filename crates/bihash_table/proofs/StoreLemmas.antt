-- What a bucket's word tells of its block, and what the caller holds of the page store while it gives a
-- bucket another block.
use Rattle.std.proofs.Common.{◌≡◌, ◌≢◌, ◌∙◌, ◌≤◌, ◌+◌, ◌*◌, ◌^◌, ℕ, zero, suc, List, [], ◌∷◌, ◌++◌, Bool, true, false, Option, Some, None, ap, append-nil, arith, le_refl, length, refl, subst, sym}
use mathlib.Core.Logic.{dite}
use native.Mathlib.Decide.{dec_le}
use Rattle.std.proofs.lemmas.List.{set-get_or}
use Rattle.std.specs.List.{last_or}
use Rattle.bihash_words.specs.Maps.{Event}
use Rattle.bihash_words.specs.Sizes.{Sizes}
use Rattle.bihash_words.specs.Words.{Bucket, FitsWord, packed}
use Rattle.bihash_words.specs.declared.patch.Change.{Change}
use Rattle.bihash_words.specs.declared.patch.Reply.TheVariants.{NoPages}
use Rattle.bihash_rule.specs.Words.{block_words, page_words}
use Rattle.bihash_rule.specs.Histories.{bucket_of, is_changed, write_of}
use Rattle.bihash_rule.specs.Callers.{IsLawfulCaller, known_at}
use Rattle.bihash_rule.specs.Blocks.{places}
use Rattle.bihash_rule.specs.Buckets.{word_of}
use Rattle.bihash_rule.specs.PageStores.{returned_in}
use Rattle.bihash_rule.specs.Views.{no_notes, nothing_held}
use Rattle.bihash_steps.specs.Seats.{CallerState, with_view}
use Rattle.bihash_steps.specs.BucketCalls.{event}
use Rattle.bihash_steps.specs.BucketSteps.{acting, view_after_answer, view_after_write, call_of, with_call, last_call, push_call, without_lock, without_notes}
use Rattle.bihash_steps.specs.StoreSteps.{LocksStore, TakesBlock, freed, grown, holding, old_block, relisted, view_after_replace, store_opened, unlisted}
use Rattle.bihash_rule.specs.declared.view.Call.{Call}
use Rattle.bihash_rule.specs.declared.view.Extent.{Extent}
use Rattle.bihash_rule.specs.declared.view.Holdings.{Holdings}
use Rattle.bihash_rule.specs.declared.view.LockedBucket.{LockedBucket}
use Rattle.bihash_rule.specs.declared.view.HeldBlock.{HeldBlock}
use Rattle.bihash_rule.specs.declared.view.LockedStore.{LockedStore}
use Rattle.bihash_rule.specs.declared.view.PageStore.{PageStore}
use Rattle.bihash_rule.specs.declared.view.Record.{Record}
use Rattle.bihash_rule.specs.declared.view.Entry.{Entry}
use Rattle.bihash_rule.specs.declared.view.View.{View}
use Rattle.bihash_table.specs.Answers.{locks_of}
use Rattle.bihash_table.specs.Promise.{IsAnswered, IsContended, IsEntered}
use Rattle.bihash_table.specs.inner.Copying.{GivenBack, HasBlock, HasStore, HoldsOld, MayGiveBack, Released}
use Rattle.bihash_table.specs.inner.Taking.{TakesPages}
use Rattle.bihash_table.specs.inner.Locked.{HasLock}
use Rattle.bihash_table.specs.inner.Scans.{IsWordOf}
use Rattle.bihash_table.proofs.NewPairs.{looked_at}
use Rattle.bihash_table.proofs.CallerViews.{contended_by}
use Rattle.bihash_table.proofs.LockReleases.{answered_noting, with_locks-locks_of, written_from_lock}

-- ---- The word of a bucket

-- what a word tells of its fields, at those of a block
module _ (z : Sizes) (word : ℕ) (e : Extent) (told : IsWordOf z word e) where
  pub page_is : (page : ℕ) → ((x : Bucket) → FitsWord x → word ≡ packed x → page ≡ x.page) → page ≡ e.page
  page_is page tells = tells (word_of e false told.version) told.fits told.stood

  pub log2_is : (log2 : ℕ) → ((x : Bucket) → FitsWord x → word ≡ packed x → log2 ≡ x.log2) → log2 ≡ e.size.log2
  log2_is log2 tells = tells (word_of e false told.version) told.fits told.stood

  pub linear_is : (linear : Bool) → ((x : Bucket) → FitsWord x → word ≡ packed x → linear ≡ x.linear) → linear ≡ e.size.linear
  linear_is linear tells = tells (word_of e false told.version) told.fits told.stood

pub no_places : (page log2 : ℕ) → page ≡ 0 → 0 ≡ places page log2
no_places zero log2 none = refl
no_places (suc page) log2 none = absurd (omega arith)

-- ---- The block that a bucket had

pub old_is : (page log2 : ℕ) (words : List ℕ) → page ≢ 0
    → old_block page log2 words ≡ Some (record { page = page; log2 = log2; words = words })
old_is zero log2 words some = absurd (some refl)
old_is (suc page) log2 words some = refl

pub old_none : (page log2 : ℕ) (words : List ℕ) → page ≡ 0 → old_block page log2 words ≡ None
old_none zero log2 words none = refl
old_none (suc page) log2 words none = absurd (omega arith)

-- the block that the bucket had may be given back
pub may_give_back : (z : Sizes) (v : View) (word log2 page : ℕ) (n : LockedStore) (e : Extent) (words : List ℕ)
    → IsWordOf z word e → HoldsOld v n e words → page ≢ 0 → page ≡ e.page → log2 ≡ e.size.log2
    → MayGiveBack v log2 page n (record { page = e.page; log2 = e.size.log2; words = words })
may_give_back z v word log2 page n e words told old some page_at log2_at = record {
  store = old.store;
  block = old.block ∙ old_is e.page e.size.log2 words (λ none. some (page_at ∙ none));
  same_log2 = sym log2_at;
  same_page = sym page_at;
  settled = old.settled;
}

pub left_none : (s t : CallerState) (n : LockedStore) (e : Extent) (words : List ℕ)
    → HoldsOld s.view n e words → e.page ≡ 0 → t ≡ s → GivenBack s t
left_none s t n e words old none same = record {
  locked = n;
  is = same ∙ (λ i. with_view s (record s.view {
    holds = record {
      bucket = s.view.holds.bucket;
      store = old.store i;
      block = (old.block ∙ old_none e.page e.size.log2 words none) i;
    };
    notes = (ap (λ (c : CallerState). c.view.notes) (sym same)) i;
  }));
  settled = old.settled;
}

pub left_some : (s t : CallerState) (n : LockedStore) (e : Extent) (words : List ℕ) (log2 page : ℕ)
    → HoldsOld s.view n e words
    → t ≡ with_view s (holding s.view (Some (record { store = relisted n.store log2 page; listed = None })) None)
    → GivenBack s t
left_some s t n e words log2 page old is =
    let k : LockedStore = record { store = relisted n.store log2 page; listed = None } in
    record {
      locked = k;
      is = is ∙ (λ i. with_view s (record s.view {
        holds = record { bucket = s.view.holds.bucket; store = Some k; block = None };
        notes = (ap (λ (c : CallerState). c.view.notes) (sym is)) i;
      }));
      settled = old.settled;
    }

-- what the opening of the allocation lock says of its caller
abbrev pub OpensStore : CallerState → CallerState → Type 0
OpensStore t u = (n : LockedStore) → t.view.holds.store ≡ Some n → u ≡ with_view t (store_opened t.view n)

pub released : (s t u : CallerState) → GivenBack s t → OpensStore t u → (u ≡ with_view s u.view) × Released s.view u.view
released s t u left opens =
    let n : LockedStore = left.locked in
    let is = opens n (ap (λ (c : CallerState). c.view.holds.store) left.is)
    ∙ ap (λ (c : CallerState). with_view c (store_opened c.view n)) left.is in
    let view = ap (λ (c : CallerState). c.view) is in (
      is ∙ ap (with_view s) (sym view),
      record {
        is = view ∙ (λ i. record s.view {
          holds = record { bucket = s.view.holds.bucket; store = None; block = None };
          notes = (ap (λ (w : View). w.notes) (sym view)) i;
        });
      },
    )

-- ---- A block that was taken

pub some_words : (z : Sizes) (page log2 : ℕ) → 1 ≤ page → block_words z page log2 ≡ 2 ^ log2 * page_words z
some_words z zero log2 some = absurd (omega arith)
some_words z (suc page) log2 some = refl

-- a block was taken, of the returned ones, of the pages that were never used, or of a larger one
pub taken_block : (z : Sizes) {cuts : Bool} (v : View) (store : PageStore) (page log2 : ℕ) (w : View)
    → TakesPages z cuts v store page log2 w → (left : PageStore) × TakesBlock z v left page log2 w
taken_block z v store page log2 w takes =
    elim (returned_in store log2) as (λ xs. returned_in store log2 ≡ xs → (left : PageStore) × TakesBlock z v left page log2 w) [
      | [] ↦ λ e. dite (dec_le (store.used + 2 ^ log2) z.pages)
          (λ few. (grown store log2, (takes.unused e few).1))
          (λ many. let t = (takes.cut e (omega arith)).1 in (t.left, t.block))
      | x ∷ xs ↦ λ e. (unlisted store log2, (takes.returned (omega (arith, ap length e))).1)
    ] refl

-- the caller holds it
pub has_taken : (z : Sizes) (v w : View) (left : PageStore) (page log2 : ℕ) (t : TakesBlock z v left page log2 w)
    → HasBlock z w page (record { page = page; log2 = log2; words = t.words })
has_taken z v w left page log2 t = record {
  held = ap (λ (u : View). u.holds.block) t.is;
  first = refl;
  some_page = t.some_page;
  near = t.near;
  size = t.size ∙ sym (some_words z page log2 t.some_page);
  plain = ap (λ (u : View). u.notes) t.is;
}

-- the allocation lock was taken by a caller that holds no block
pub has_store : (z : Sizes) (v w : View) → v.holds.block ≡ None → (t : LocksStore z v w)
    → HasStore z w (record { store = t.store; listed = None })
has_store z v w none t = record {
  held = ap (λ (u : View). u.holds.store) t.is;
  block = ap (λ (u : View). u.holds.block) t.is ∙ none;
  few = t.few;
  wide = t.wide;
  room = t.room;
  settled = t.settled;
}

-- the block that the bucket had is held after the write
pub holds_old : (z : Sizes) (v w : View) (b word : ℕ) (l : LockedBucket) (n : LockedStore) (block : Option HeldBlock) (c : Call)
    → HasLock z v b word l → w ≡ record (view_after_replace (holding v (Some n) block) c) { log = w.log }
    → HoldsOld w (record n { store = record n.store { unpublished = false } }) l.extent l.now
holds_old z v w b word l n block c lock is = record {
  store = ap (λ (u : View). u.holds.store) is;
  block = ap (λ (u : View). u.holds.block) is ∙ ap (λ (h : Holdings). freed h.bucket) lock.held;
  settled = refl;
}

-- what is left after the write and the return of the old block is what a write leaves
pub left_written : (z : Sizes) (v u w : View) (b word : ℕ) (l : LockedBucket) (n : LockedStore) (block : Option HeldBlock)
    (e : Event)
    → HasLock z v b word l → bucket_of z e.key ≡ b
    → is_changed e.reply ≡ true
    → u ≡ record (view_after_replace (holding v (Some n) block) (call_of v b 1 e)) { log = u.log } → Released u w
    → IsEntered v.log (acting v.records) (call_of v b 1 e) u.log (known_at v.known b ++ write_of (acting v.records) (call_of v b 1 e) ∷ [])
    → IsAnswered z v w e
left_written z v u w b word l n block e lock home changes is gone entered =
    written_from_lock z v w b word l e lock home changes (gone.is
    ∙ ap (λ (x : View). record x { holds = record nothing_held { bucket = x.holds.bucket }; notes = w.notes }) is
    ∙ ap (λ (l : List Entry). record (view_after_write v (call_of v b 1 e)) { holds = nothing_held; notes = w.notes; log = l })
    (sym (ap (λ (x : View). x.log) gone.is)))
    (subst (λ (l : List Entry). IsEntered v.log (acting v.records) (call_of v b 1 e) l
    (known_at v.known b ++ write_of (acting v.records) (call_of v b 1 e) ∷ [])) (sym (ap (λ (x : View). x.log) gone.is)) entered)

-- the caller is lawful still
pub still_lawful : (z : Sizes) (u w : View) → Released u w → IsLawfulCaller z u → IsLawfulCaller z w
still_lawful z u w gone lawful = subst (IsLawfulCaller z) (sym gone.is)
    (record { acts = lawful.acts; numbers = lawful.numbers; lawful = lawful.lawful; lists = lawful.lists; made = lawful.made; logged = lawful.logged; matches = lawful.matches })

-- ---- Without a write

-- the lock was opened again, since the allocation lock was held
pub contended : (z : Sizes) (v u w : View) (b word : ℕ) (l : LockedBucket)
    → HasLock z v b word l → u ≡ without_notes v → w ≡ without_lock u → IsContended z v w b
contended z v u w b word l lock not opened =
    let is : w ≡ without_lock (without_notes v) = opened ∙ ap without_lock not in
    let notes = ap (λ (x : View). x.notes) (sym is) in contended_by z v w b record {
      history = known_at v.known b;
      begins = record { rest = []; whole = sym (append-nil (known_at v.known b)) };
      locks = locks_of v.records;
      is = is ∙ (λ i. record v {
        records = sym (with_locks-locks_of v.records) i;
        known = record v.known { writes = sym (set-get_or v.known.writes b []) i };
        holds = record (lock.held i) { bucket = None };
        notes = notes i;
      });
      alone = λ _. le_refl (length (known_at v.known b));
    }

-- the allocation lock was taken and opened, and then the call was answered
pub left_answered : (z : Sizes) (v w : View) (b word : ℕ) (l : LockedBucket) (store : PageStore) (e : Event)
    → HasLock z v b word l → bucket_of z e.key ≡ b
    → w ≡ record (view_after_answer (looked_at v store) (call_of (looked_at v store) b 0 e)) { log = w.log }
    → IsEntered v.log (acting v.records) (call_of (looked_at v store) b 0 e) w.log (known_at v.known b)
    → IsAnswered z v w e
left_answered z v w b word l store e lock home is entered = answered_noting z v w b word l e lock home (Some store)
    (is ∙ (λ i. record (with_call v (call_of (looked_at v store) b 0 e)) {
      holds = record { bucket = None; store = (ap (λ (h : Holdings). h.store) (sym lock.held)) i; block = v.holds.block };
      notes = no_notes;
      log = w.log;
    })) entered

last_of : (calls : List Call) (c : Call) (o : Option Call) → last_or o (calls ++ c ∷ []) ≡ Some c
last_of [] c o = refl
last_of (x ∷ xs) c o = last_of xs c (Some x)

last_pushed : (c d : Call) (rs : List Record) → last_call (push_call c rs) ≡ Some d → c ≡ d
last_pushed c d [] is = cc
last_pushed c d (r ∷ rs) is = let same : Some c ≡ Some d = sym (last_of r.calls c None) ∙ is in cc

-- the entry of the last call comes after all writes that are known of bucket b, and bears this page store
abbrev pub Bears : View → ℕ → PageStore → Type 0
Bears w b store = (c : Call) → last_call w.records ≡ Some c
    → (c.stamp ≡ length (known_at w.known b)) × (c.store ≡ Some store)

-- the entry of a refusal comes after all known writes, and bears what was noted
pub bears_noted : (v w : View) (b : ℕ) (store : PageStore) (key : List ℕ) (found : Option ℕ) (change : Change) (log2 left : ℕ)
    → w ≡ record (view_after_answer (looked_at v store) (call_of (looked_at v store) b 0 (event key found change (NoPages log2 left)))) { log = w.log } → Bears w b store
bears_noted v w b store key found change log2 left is c last =
    let entry : Call = call_of (looked_at v store) b 0 (event key found change (NoPages log2 left)) in
    let same : entry ≡ c = last_pushed entry c v.records (ap (λ (u : View). last_call u.records) (sym is) ∙ last) in
    let stamp : entry.stamp ≡ length (known_at w.known b) =
    (let n : ℕ = length (known_at v.known b) in let plus : n + 0 ≡ n = omega arith in plus)
    ∙ ap (λ (u : View). length (known_at u.known b)) (sym is) in
    (ap (λ (d : Call). d.stamp) (sym same) ∙ stamp, ap (λ (d : Call). d.store) (sym same))
