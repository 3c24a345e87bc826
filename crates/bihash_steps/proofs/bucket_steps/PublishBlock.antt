-- The store of a bucket's next word that gives it another block, or none: the old one passes to the caller.
use native.Mathlib.Nat.{mul-add}
use Rattle.std.proofs.Common.{◌≡◌, ◌≢◌, ℕ, zero, suc, ◌+◌, ◌*◌, ◌^◌, ◌<◌, ◌≤◌, Bool, true, false, List, [], ◌∷◌, length, set, refl, sym, ap, ◌∙◌, subst, inr, arith, length-append, mul-le-mul_left, Option, Some, None, ◌++◌}
use mathlib.Core.Logic.{dite}
use native.Mathlib.Decide.{ℕ_discrete}
use Rattle.std.specs.Prelude.{slice_index}
use Rattle.atomic_table.specs.Table.{keeps, Allows}
use Rattle.bihash_words.specs.Sizes.{Sizes}
use Rattle.bihash_words.specs.Words.{bit, packed}
use Rattle.bihash_rule.specs.Words.{count_of, front_words, buckets, bucket_at, page_at, block_words, Stands}
use Rattle.bihash_rule.specs.Histories.{write_of}
use Rattle.bihash_rule.specs.Callers.{known_at}
use Rattle.bihash_rule.specs.Partition.{run_of}
use Rattle.bihash_rule.specs.Buckets.{BucketState, word_of, HoldsBucket}
use Rattle.bihash_rule.specs.PageStores.{StoreState, IsStore, IsListedIf, HoldsStore, HoldsStoreIf, HoldsBlockIf, writes_in, all_writes, all_used, run_in}
use Rattle.bihash_rule.specs.WordRule.{IsView, WordRule}
use Rattle.bihash_steps.specs.Steps.{ViewOfSeat}
use Rattle.bihash_steps.specs.BucketSteps.{acting, entry_of, TellsEntry}
use Rattle.bihash_steps.specs.StoreSteps.{words_in, IsOf, MayReplace, old_block, freed, settled_in, view_after_replace}
use Rattle.bihash_rule.specs.declared.view.Write.{Write}
use Rattle.bihash_rule.specs.declared.view.Call.{Call}
use Rattle.bihash_rule.specs.declared.view.Extent.{Extent}
use Rattle.bihash_rule.specs.declared.view.LockedBucket.{LockedBucket}
use Rattle.bihash_rule.specs.declared.view.LockedStore.{LockedStore}
use Rattle.bihash_rule.specs.declared.view.PageStore.{PageStore}
use Rattle.bihash_rule.specs.declared.view.ListedPage.{ListedPage}
use Rattle.bihash_rule.specs.declared.view.HeldBlock.{HeldBlock}
use Rattle.bihash_rule.specs.declared.view.View.{View}
use Rattle.bihash_steps.proofs.BucketPlaces.{place_inside}
use Rattle.bihash_steps.proofs.KnownLists.{lawful_set}
use Rattle.bihash_steps.proofs.Frames.{free_own, more_writes, used_more, store_keeps, store_lock_beside}
use Rattle.bihash_steps.proofs.OwnedWords.{front_still, store_still}
use Rattle.bihash_steps.proofs.Exchange.{passes}
use Rattle.bihash_steps.proofs.Put.{put, put_here, put_else}
use Rattle.bihash_steps.proofs.PushedCalls.{push-length}
use Rattle.bihash_steps.proofs.bucket_steps.Publish.{state_after, no_shorter, held_bucket, bucket_in, Settles, writes_word, written_enters}

-- ---- One write more

one_more : (x x' : ℕ → BucketState) (b : ℕ) → ((d : ℕ) → length (x d).history ≤ length (x' d).history)
    → length (x b).history + 1 ≤ length (x' b).history → (n : ℕ) → b < n → writes_in x n + 1 ≤ writes_in x' n
one_more x x' b more here zero l = absurd (omega arith)
one_more x x' b more here (suc n) l = let a = more_writes x x' more n in let m = more n in dite (ℕ_discrete b n)
    (λ same. let here' = subst (λ (y : ℕ). length (x y).history + 1 ≤ length (x' y).history) same here in omega arith)
    (λ ne. let a' = one_more x x' b more here n (omega arith) in omega arith)

few_unpublished : (t : Bool) → bit t ≤ 1
few_unpublished true = omega arith
few_unpublished false = omega arith

-- ---- The block that was given, and the old one

abbrev settled : PageStore → PageStore
settled store = record store { unpublished = false }

freed_run : (page log2 : ℕ) (words : List ℕ) → run_in (old_block page log2 words) ≡ run_of page log2
freed_run zero log2 words = refl
freed_run (suc page) log2 words = refl

module _ (z : Sizes) where
  -- the bucket's new block is what the seat held
  record Given (words : List ℕ) (e : Extent) (block : Option HeldBlock) : Type 0 where
    pub size : length (words_in block) ≡ block_words z e.page e.size.log2
    pub stands : Stands words (page_at z e.page) (words_in block)
    pub run : run_of e.page e.size.log2 ≡ run_in block

  given : (words : List ℕ) (e : Extent) (block : Option HeldBlock) → HoldsBlockIf z words block → IsOf e block → Given words e block
  given words e None h is = record {
    size = ap (λ (y : Extent). block_words z y.page y.size.log2) (sym is);
    stands = λ k l. absurd (omega arith);
    run = ap (λ (y : Extent). run_of y.page y.size.log2) is;
  }
  given words e (Some k) h is = record {
    size = h.size ∙ (λ t. block_words z (sym is.0 t) (sym is.1 t));
    stands = subst (λ (page : ℕ). Stands words (page_at z page) k.words) (sym is.0) h.stands;
    run = λ t. run_of (is.0 t) (is.1 t);
  }

  freed_held : (words : List ℕ) (page log2 : ℕ) (block : List ℕ) → log2 ≤ z.max_log2 → length block ≡ block_words z page log2
      → Stands words (page_at z page) block → HoldsBlockIf z words (old_block page log2 block)
  freed_held words zero log2 block small size stands = tt
  freed_held words (suc page) log2 block small size stands = record { some_page = omega arith; small = small; size = size; stands = stands }

  settled_listed : (words : List ℕ) (store : PageStore) (listed : Option ListedPage) → IsListedIf z words store listed
      → IsListedIf z words (settled store) listed
  settled_listed words store None h = tt
  settled_listed words store (Some i) h = record { small = h.small; room = h.room; stands = h.stands }

  settled_lock : (words : List ℕ) (q : StoreState) (id : ℕ) (lock : Option LockedStore) → HoldsStoreIf z words q id lock
      → HoldsStoreIf z words (record q { store = settled q.store }) id (settled_in lock)
  settled_lock words q id None h = tt
  settled_lock words q id (Some l) h = record {
    held = h.held;
    store = ap settled h.store;
    listed = settled_listed words q.store l.listed h.listed;
  }

  -- ---- The store

  -- the holder of both locks writes the bucket's next word, with the block that it holds or with none, and has the old one
  pub replaces_call : (slots id : ℕ) (m : ViewOfSeat) (b word : ℕ) (extent : Extent) (c : Call) (may : MayReplace z m.0 b word extent c)
      → 1 ≤ length m.0.records
      → Allows (WordRule z) slots id m (bucket_at z b) (λ _. packed (word_of extent false (may.write.lock.version + 1)))
      (λ _. TellsEntry z (λ v. view_after_replace v c) c m)
  replaces_call slots id m b word extent c may acts s r deep at fits = (
    told,
    keeps,
    tt,
    rule,
    record {
      slots = refl;
      entered = written_enters z s r id v b word c at acts may.write n extent now (settled_in v.holds.store) (freed v.holds.bucket) x' q' elsewhere
          here is new_block.size new_block.stands may.pairs settles (view_after_replace v c) refl;
      lawful = lawful_set z (set s.words (bucket_at z b) n) s id v told at
          (let n = push-length c v.records in omega arith) rule;
    },
  )
    where
      v : View
      v = m.0

      told : View
      told = record (view_after_replace v c) { log = r.logged.log ++ entry_of v c ∷ [] }

      q : StoreState
      q = r.table.store

      q' : StoreState
      q' = record q { store = settled q.store }

      ok : IsView z s.words (count_of s.words) r.table id v
      ok = r.each_view id v at

      l : LockedBucket
      l = may.write.lock

      h : HoldsBucket z s.words id (known_at v.known b) l (r.table.bucket b)
      h = held_bucket z s r id v b word c at acts may.write

      inside : b < buckets z
      inside = bucket_in z s r id v b word c at acts may.write

      holder : HoldsStore z s.words q id may.locked
      holder = subst (HoldsStoreIf z s.words q id) may.store ok.store

      now : List ℕ
      now = words_in v.holds.block

      new_block : Given s.words extent v.holds.block
      new_block = given s.words extent v.holds.block ok.block may.block

      n : ℕ
      n = packed (word_of extent false (l.version + 1))

      words' : List ℕ
      words' = set s.words (bucket_at z b) n

      w : Write
      w = write_of (acting v.records) c

      new : BucketState
      new = state_after (r.table.bucket b) w extent now

      x' : ℕ → BucketState
      x' = put r.table.bucket b new

      here : x' b ≡ new
      here = put_here r.table.bucket b new

      elsewhere : (d : ℕ) → d ≢ b → x' d ≡ r.table.bucket d
      elsewhere d ne = put_else r.table.bucket b d new ne

      is : n ≡ packed (word_of extent false (length (known_at v.known b) + 1))
      is = ap (λ (k : ℕ). packed (word_of extent false (k + 1))) may.write.version

      still : (k : ℕ) → 1 ≤ k → k < front_words z → slice_index words' k ≡ slice_index s.words k
      still = store_still z s.words (bucket_at z b) n (omega arith)

      more : (d : ℕ) → length (r.table.bucket d).history ≤ length (x' d).history
      more = no_shorter r.table.bucket x' b w extent now elsewhere here

      next : all_writes z r.table.bucket + 1 ≤ all_writes z x'
      next = one_more r.table.bucket x' b more
          (let a = ap (λ (y : BucketState). length y.history) here in let k = length-append (r.table.bucket b).history (w ∷ []) in omega arith)
          (buckets z) inside

      base : IsStore z words' (all_used z r.table.openings x') q
      base = store_keeps z s.words words' still (all_used z r.table.openings r.table.bucket) (all_used z r.table.openings x') q
          (used_more z r.table.openings.used (all_writes z r.table.bucket) (all_writes z x')
          (more_writes r.table.bucket x' more (buckets z))) r.store

      small : l.extent.size.log2 ≤ z.max_log2
      small = subst (λ (y : Extent). y.size.log2 ≤ z.max_log2) (sym h.extent) (r.each_bucket b inside).pairs.rule.small

      freed_is : freed v.holds.bucket ≡ old_block l.extent.page l.extent.size.log2 l.now
      freed_is = ap freed may.write.held

      settles : Settles z s r id v b word c at acts may.write words' x' q' (settled_in v.holds.store) (freed v.holds.bucket)
      settles = record {
        undisturbed = inr (free_own id q.lock holder.held, free_own id q.lock holder.held);
        is = record {
          lock = base.lock;
          used = base.used;
          wide = base.wide;
          count = base.count;
          lists = base.lists;
          room = base.room;
          bound = let few = few_unpublished q.store.unpublished in let longer = next in
              let t : ℕ = 2 ^ z.max_log2 in let u : ℕ = bit q.store.unpublished in
              let w : ℕ = all_writes z r.table.bucket in let w' : ℕ = all_writes z x' in
              let m : t * (w + u) ≤ t * w' = mul-le-mul_left t (let l : w + u ≤ w' = omega arith in l) in
              let e : t * (w + u) ≡ t * w + t * u = mul-add t w u in
              let a : ℕ = t * w in let b : ℕ = t * u in let c : ℕ = t * w' in
              let m' : a + b ≤ c = subst (λ (k : ℕ). k ≤ c) e m in
              let old : q.store.used ≤ r.table.openings.used + a + b = r.store.bound in
              let none : t * 0 ≡ 0 = omega arith in omega arith;
          settled = λ _. refl;
        };
        holds = settled_lock words' q id v.holds.store (store_lock_beside z s.words words' still q id v.holds.store ok.store);
        notes = λ f. (record may.locked { store = settled may.locked.store }, ap settled_in may.store);
        held = subst (HoldsBlockIf z words') (sym freed_is) (freed_held words' l.extent.page l.extent.size.log2 l.now small h.size
            (front_still z s.words (bucket_at z b) n l.extent.page l.now (let p = place_inside z b inside in omega arith) h.stands));
        parted = passes z.pages q.store.used r.table.bucket x' q.store q'.store s.views id v told at b
            (λ d ne. ap (λ (y : BucketState). y.extent) (elsewhere d ne)) (λ _. refl)
            (ap (λ (y : BucketState). run_of y.extent.page y.extent.size.log2) here ∙ new_block.run)
            (ap run_in freed_is ∙ (freed_run l.extent.page l.extent.size.log2 l.now ∙ ap (λ (y : Extent). run_of y.page y.size.log2) h.extent)) r.parted;
      }

      rule : WordRule z record { words = words'; homes = s.homes; views = set s.views id told }
      rule = writes_word z s r id v b word c at acts may.write n extent now (settled_in v.holds.store) (freed v.holds.bucket) x' q' elsewhere
          here is new_block.size new_block.stands may.pairs settles
