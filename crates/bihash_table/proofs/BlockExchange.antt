-- A bucket that is given another block, or none, under both locks.
use Rattle.std.proofs.Common.{◌≡◌, ◌≢◌, ◌∙◌, ◌<◌, ◌≤◌, ◌+◌, ◌^◌, ◌++◌, ℕ, Bool, false, List, [], ◌∷◌, Option, Some, None, ap, arith, length, refl, subst, sym, ⊎_elim}
use Rattle.std.specs.FinMap.{get, insert, len, remove}
use Rattle.bihash_words.specs.Maps.{Event, Pairs, most_pairs}
use Rattle.bihash_words.specs.Patches.{free_mark}
use Rattle.bihash_words.specs.Sizes.{Sizes, sizes_of}
use Rattle.bihash_words.specs.declared.block_size.BlockSize.{BlockSize}
use Rattle.bihash_words.specs.declared.shape.Shape.{Ghosts}
use Rattle.bihash_words.specs.declared.patch.Change.{Change}
use Rattle.bihash_words.specs.declared.patch.Change.TheVariants.{Set, Remove}
use Rattle.bihash_words.specs.declared.patch.Reply.{Reply}
use Rattle.bihash_words.specs.declared.patch.Reply.TheVariants.{Changed, NoPages}
use Rattle.bihash_rule.specs.Histories.{IsKeyOf, bounds_of, is_changed, write_of}
use Rattle.bihash_rule.specs.Callers.{known_at}
use Rattle.bihash_rule.specs.Blocks.{HasPair, HoldsPair, IsBlockOf, key_in, no_block}
use Rattle.bihash_steps.specs.BucketCalls.{event}
use Rattle.bihash_steps.specs.BucketSteps.{Enters, MayAnswer, acting, view_after_answer, call_of, map_now}
use Rattle.bihash_steps.specs.StoreSteps.{LocksStore, MayReplace, TakesBlock, holding, view_after_replace, store_opened}
use Rattle.bihash_steps.specs.Seats.{CallerState, with_view}
use Rattle.bihash_rule.specs.declared.view.Call.{Call}
use Rattle.bihash_rule.specs.declared.view.Extent.{Extent}
use Rattle.bihash_rule.specs.declared.view.Holdings.{Holdings}
use Rattle.bihash_rule.specs.declared.view.LockedBucket.{LockedBucket}
use Rattle.bihash_rule.specs.declared.view.HeldBlock.{HeldBlock}
use Rattle.bihash_rule.specs.declared.view.LockedStore.{LockedStore}
use Rattle.bihash_rule.specs.declared.view.PageStore.{PageStore}
use Rattle.bihash_rule.specs.declared.view.View.{View}
use Rattle.bihash_table.specs.Promise.{IsEntered}
use Rattle.bihash_table.specs.inner.Copying.{HasBlock, HasStore, with_words}
use Rattle.bihash_table.specs.inner.Taking.{LacksPages, TakesPages}
use Rattle.bihash_table.specs.inner.Locked.{HasLock}
use Rattle.bihash_rule.specs.Places.{ArePlaces}
use Rattle.bihash_words.proofs.MapValues.{get_left, get_removed, same_or_other}
use Rattle.bihash_steps.proofs.BlockLemmas.{bare_block}
use Rattle.bihash_table.proofs.Bridge.{extent_of}
use Rattle.bihash_table.proofs.NewPairs.{entering, looked_at, may_want, may_write, removing}
use Rattle.bihash_table.proofs.SameCallers.{read_entered, same_through as same_but_view_then, write_entered}
use Rattle.bihash_table.proofs.StoreLemmas.{has_store, has_taken, taken_block}

abbrev pub locked_on : PageStore → LockedStore
locked_on store = record { store = store; listed = None }

abbrev pub block_of : ℕ → ℕ → List ℕ → HeldBlock
block_of page log2 words = record { page = page; log2 = log2; words = words }

-- the caller took a block, and these places stand in it
pub record IsReady {A K : Type 0} (g : Ghosts A K) (s u : CallerState) (page log2 : ℕ) (block : List (K × ℕ)) : Type 0 where
  pub left : PageStore
  pub words : List ℕ
  pub is : u ≡ with_view s (holding s.view (Some (locked_on left)) (Some (block_of page log2 words)))
  pub some_page : 1 ≤ page
  pub near : page + 2 ^ log2 ≤ g.PAGES + 1
  pub places : ArePlaces g block words

-- a block was taken, and places were written in it
pub ready_taken : {A K : Type 0} (g : Ghosts A K) (s u w : CallerState) (page log2 : ℕ) (left : PageStore) (block : List (K × ℕ))
    → u ≡ with_view s u.view → TakesBlock (sizes_of g) s.view left page log2 u.view
    → ((h : HeldBlock) → HasBlock (sizes_of g) u.view page h
    → (words : List ℕ) × (w ≡ with_view u (with_words u.view h words)) × ArePlaces g block words)
    → IsReady g s w page log2 block
ready_taken g s u w page log2 left block same t writes =
    let there = writes (block_of page log2 t.words) (has_taken (sizes_of g) s.view u.view left page log2 t) in record {
      left = left;
      words = there.0;
      is = there.1
          ∙ ap (λ (c : CallerState). with_view c (holding c.view c.view.holds.store (Some (block_of page log2 there.0)))) same
          ∙ ap (λ (x : View). with_view s (holding x x.holds.store (Some (block_of page log2 there.0)))) t.is;
      some_page = t.some_page;
      near = t.near;
      places = there.2;
    }

-- what the allocation lock, the block that was taken and the places that were written make of the caller
module _ {A K : Type 0} (g : Ghosts A K) (s t : CallerState) (same : t ≡ with_view s t.view)
    (locks : LocksStore (sizes_of g) s.view t.view) (none : s.view.holds.block ≡ None) (page log2 : ℕ) where
  pub store_held : HasStore (sizes_of g) t.view (locked_on locks.store)
  store_held = has_store (sizes_of g) s.view t.view none locks

  module _ {cuts : Bool} (u : CallerState) (same_u : u ≡ with_view t u.view)
      (takes : (n : LockedStore) → HasStore (sizes_of g) t.view n
      → TakesPages (sizes_of g) cuts t.view n.store page log2 u.view) where
    pub taken : (left : PageStore) × TakesBlock (sizes_of g) s.view left page log2 u.view
    taken = let t = taken_block (sizes_of g) t.view locks.store page log2 u.view (takes (locked_on locks.store) store_held) in (
      t.0,
      record {
        words = t.1.words;
        size = t.1.size;
        some_page = t.1.some_page;
        near = t.1.near;
        is = t.1.is ∙ ap (λ (x : View). holding x (Some (locked_on t.0)) (Some (block_of page log2 t.1.words))) locks.is;
      },
    )

    pub block_held : (h : HeldBlock) × HasBlock (sizes_of g) u.view page h × (h.log2 ≡ log2)
    block_held = (block_of page log2 taken.1.words, has_taken (sizes_of g) s.view u.view taken.0 page log2 taken.1, refl)

    pub is_ready : (block : List (K × ℕ)) (w : CallerState)
        → ((h : HeldBlock) → HasBlock (sizes_of g) u.view page h
        → (words : List ℕ) × (w ≡ with_view u (with_words u.view h words)) × ArePlaces g block words)
        → IsReady g s w page log2 block
    is_ready block w = ready_taken g s u w page log2 taken.0 block (same_but_view_then s t u u.view same same_u) taken.1

-- ---- The write

module _ (z : Sizes) (v : View) (b word : ℕ) (l : LockedBucket) (key : List ℕ) (lock : HasLock z v b word l)
    (home : IsKeyOf z b key) (unworn : length (known_at v.known b) < z.limit) where
  -- the larger block may be published
  pub may_enter : (value : ℕ) (n : LockedStore) (page : ℕ) (size : BlockSize) (words : List ℕ)
      → value < free_mark → len (map_now v b) < most_pairs (bounds_of z) → get (map_now v b) key ≡ None
      → page + 2 ^ size.log2 ≤ z.pages + 1 → IsBlockOf z (extent_of page size) words (insert (map_now v b) key value)
      → (u : View) → u ≡ holding v (Some n) (Some (block_of page size.log2 words))
      → MayReplace z u b word (extent_of page size) (call_of u b 1 (event key None (Set value) (Changed None)))
  may_enter value n page size words storable room absent near pairs u is =
      subst (λ (x : View). MayReplace z x b word (extent_of page size)
      (call_of x b 1 (event key None (Set value) (Changed None)))) (sym is)
      (record {
        write = may_write z v b word l key lock home unworn (Some n) (Some (block_of page size.log2 words)) None (Set value)
            (sym absent) (entering z v b word l key lock home unworn value storable room absent);
        locked = n;
        store = refl;
        near = near;
        block = (refl, refl);
        pairs = pairs;
      })

  -- the smaller block may be published, without the pair
  pub may_shrink : (old : ℕ) (n : LockedStore) (page : ℕ) (size : BlockSize) (words : List ℕ) → get (map_now v b) key ≡ Some old
      → page + 2 ^ size.log2 ≤ z.pages + 1 → IsBlockOf z (extent_of page size) words (remove (map_now v b) key)
      → (u : View) → u ≡ holding v (Some n) (Some (block_of page size.log2 words))
      → MayReplace z u b word (extent_of page size) (call_of u b 1 (event key (Some old) Remove (Changed (Some old))))
  may_shrink old n page size words there near pairs u is =
      subst (λ (x : View). MayReplace z x b word (extent_of page size)
      (call_of x b 1 (event key (Some old) Remove (Changed (Some old))))) (sym is)
      (record {
        write = may_write z v b word l key lock home unworn (Some n) (Some (block_of page size.log2 words)) (Some old) Remove
            (sym there) (removing z v b word l key lock home unworn old there);
        locked = n;
        store = refl;
        near = near;
        block = (refl, refl);
        pairs = pairs;
      })

  -- the bucket may be left without a block
  pub may_empty : (n : LockedStore) (old : ℕ) → get (map_now v b) key ≡ Some old → 1 ≤ z.pages
      → IsBlockOf z no_block [] (remove (map_now v b) key)
      → (u : View) → u ≡ holding v (Some n) None
      → MayReplace z u b word no_block (call_of u b 1 (event key (Some old) Remove (Changed (Some old))))
  may_empty n old there some pairs u is =
      subst (λ (x : View). MayReplace z x b word no_block (call_of x b 1 (event key (Some old) Remove (Changed (Some old)))))
      (sym is)
      (record {
        write = may_write z v b word l key lock home unworn (Some n) None (Some old) Remove
            (sym there) (removing z v b word l key lock home unworn old there);
        locked = n;
        store = refl;
        near = omega arith;
        block = refl;
        pairs = pairs;
      })

-- ---- A refusal

-- the caller looked at the page store and opened it again
pub looked : (z : Sizes) (s t u w : CallerState) → t ≡ with_view s t.view → (locks : LocksStore z s.view t.view) → u ≡ t
    → ((n : LockedStore) → u.view.holds.store ≡ Some n → w ≡ with_view u (store_opened u.view n))
    → w.view ≡ looked_at s.view locks.store
looked z s t u w same locks still opens =
    let there : u.view ≡ holding s.view (Some (locked_on locks.store)) s.view.holds.block =
    ap (λ (c : CallerState). c.view) still ∙ locks.is in
    ap (λ (c : CallerState). c.view) (opens (locked_on locks.store) (ap (λ (x : View). x.holds.store) there))
    ∙ ap (λ (x : View). store_opened x (locked_on locks.store)) there

-- it is the same caller
pub looked_same : (z : Sizes) (s t u w : CallerState) → t ≡ with_view s t.view → LocksStore z s.view t.view → u ≡ t
    → ((n : LockedStore) → u.view.holds.store ≡ Some n → w ≡ with_view u (store_opened u.view n)) → w ≡ with_view s w.view
looked_same z s t u w same locks still opens =
    let opened = opens (locked_on locks.store)
    (ap (λ (c : CallerState). c.view.holds.store) still ∙ ap (λ (x : View). x.holds.store) locks.is) in
    (opened ∙ ap (λ (x : View). with_view u x) (ap (λ (c : CallerState). c.view) (sym opened)))
    ∙ ap (λ (c : CallerState). with_view c w.view) (still ∙ same)

-- the call may be answered so
pub may_refuse : (z : Sizes) (v u : View) (b word : ℕ) (l : LockedBucket) (key : List ℕ) (value log2 left : ℕ)
    (store : PageStore)
    → HasLock z v b word l → IsKeyOf z b key → length (known_at v.known b) < z.limit
    → len (map_now v b) < most_pairs (bounds_of z) → get (map_now v b) key ≡ None → log2 ≤ z.max_log2
    → LacksPages z store log2 left → u ≡ looked_at v store
    → MayAnswer z u b word (call_of u b 0 (event key None (Set value) (NoPages log2 left)))
may_refuse z v u b word l key value log2 left store lock home unworn room absent small wanting is =
    subst (λ (x : View). MayAnswer z x b word (call_of x b 0 (event key None (Set value) (NoPages log2 left)))) (sym is)
    (may_want z v b word l key lock home unworn value log2 left store room absent small wanting)

-- ---- What stays of the caller

pub same_through : (s t u w : CallerState) → t ≡ with_view s t.view → u ≡ with_view t u.view → w ≡ with_view u w.view
    → w ≡ with_view s w.view
same_through s t u w e f h = h ∙ ap (λ (c : CallerState). with_view c w.view) f ∙ ap (λ (c : CallerState). with_view c w.view) e

pub seen_same : (s t : CallerState) {v : View} → t ≡ with_view s v → t ≡ with_view s t.view
seen_same s t is = is ∙ ap (λ (c : CallerState). with_view s c.view) (sym is)

pub ready_same : {A K : Type 0} (g : Ghosts A K) (s u : CallerState) (page log2 : ℕ) (block : List (K × ℕ))
    → IsReady g s u page log2 block → u ≡ with_view s u.view
ready_same g s u page log2 block ready = seen_same s u ready.is

-- the view after the write that gives the bucket another block
pub published : (s t u : CallerState) (n : LockedStore) (block : Option HeldBlock) (b : ℕ) (key : List ℕ) (found : Option ℕ)
    (change : Change)
    → t ≡ with_view s (holding s.view (Some n) block)
    → u ≡ with_view t (record (view_after_replace t.view (call_of t.view b 1 (event key found change (Changed found)))) { log = u.view.log })
    → u.view ≡ record (view_after_replace (holding s.view (Some n) block) (call_of s.view b 1 (event key found change (Changed found)))) { log = u.view.log }
published s t u n block b key found change ready is = ap (λ (c : CallerState). c.view) is
    ∙ ap (λ (c : CallerState). record (view_after_replace c.view (call_of c.view b 1 (event key found change (Changed found)))) { log = u.view.log }) ready

-- and the log that is known then
pub published_log : (z : Sizes) (s t u : CallerState) (n : LockedStore) (block : Option HeldBlock) (b : ℕ) (key : List ℕ)
    (found : Option ℕ) (change : Change) → t ≡ with_view s (holding s.view (Some n) block)
    → Enters z t.view (call_of t.view b 1 (event key found change (Changed found)))
    (view_after_replace t.view (call_of t.view b 1 (event key found change (Changed found)))) u.view
    → IsEntered s.view.log (acting s.view.records) (call_of s.view b 1 (event key found change (Changed found))) u.view.log
    (known_at s.view.known b ++ write_of (acting s.view.records) (call_of s.view b 1 (event key found change (Changed found))) ∷ [])
published_log z s t u n block b key found change ready entered =
    subst (λ (c : CallerState). let x : Call = call_of c.view b 1 (event key found change (Changed found)) in
    IsEntered c.view.log (acting c.view.records) x u.view.log (known_at c.view.known b ++ write_of (acting c.view.records) x ∷ []))
    ready (write_entered entered refl)

pub was_answered : (s t : CallerState) (b : ℕ) (key : List ℕ) (found : Option ℕ) (change : Change) (reply : Reply) (v : View)
    → s.view ≡ v → t ≡ with_view s (record (view_after_answer s.view (call_of s.view b 0 (event key found change reply))) { log = t.view.log })
    → t.view ≡ record (view_after_answer v (call_of v b 0 (event key found change reply))) { log = t.view.log }
was_answered s t b key found change reply v e is = ap (λ (c : CallerState). c.view) is
    ∙ ap (λ (x : View). record (view_after_answer x (call_of x b 0 (event key found change reply))) { log = t.view.log }) e

pub answered_log : (z : Sizes) (s t : CallerState) (b : ℕ) (e : Event) (v : View) → s.view ≡ v → is_changed e.reply ≡ false
    → Enters z s.view (call_of s.view b 0 e) (view_after_answer s.view (call_of s.view b 0 e)) t.view
    → IsEntered v.log (acting v.records) (call_of v b 0 e) t.view.log (known_at v.known b)
answered_log z s t b e v is reads entered =
    subst (λ (x : View). IsEntered x.log (acting x.records) (call_of x b 0 e) t.view.log (known_at x.known b)) is (read_entered entered reads)

-- ---- The last pair goes

-- no block holds a map whose only pair was removed
pub emptied : (z : Sizes) (e : Extent) (block key : List ℕ) (m : Pairs) (old i : ℕ)
    → IsBlockOf z e block m → HoldsPair z e block key old i → ((k : ℕ) → HasPair z e block k → k ≡ i)
    → IsBlockOf z no_block [] (remove m key)
emptied z e block key m old i pairs has only = bare_block z (remove m key) (λ other value there. ⊎_elim
    (λ (same : other ≡ key). (let clash = sym (get_removed m key) ∙ ap (get (remove m key)) (sym same) ∙ there in
    let c : ⊥ = cc in c))
    (λ (apart : other ≢ key).
    let at = pairs.map.found other value (sym (get_left m key other apart) ∙ there) in
    apart (sym at.1.stands ∙ ap (key_in z block) (only at.0 at.1.pair) ∙ has.stands))
    (same_or_other other key))

-- the caller has both locks, and no block
pub store_only : (z : Sizes) (v u : View) (b word : ℕ) (l : LockedBucket) → HasLock z v b word l → (locks : LocksStore z v u)
    → u ≡ holding v (Some (locked_on locks.store)) None
store_only z v u b word l lock locks = locks.is
    ∙ ap (λ (h : Holdings). holding v (Some (locked_on locks.store)) h.block) lock.held
