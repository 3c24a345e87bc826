-- The rule holds of a row that is made of the words that a lone caller loaded.
use Rattle.std.proofs.Common.{◌≡◌, ℕ, zero, suc, ◌+◌, ◌-◌, ◌*◌, ◌^◌, ◌<◌, ◌≤◌, Bool, false, List, [], ◌∷◌, ◌++◌, length, get_or, refl, sym, ap, ◌∙◌, subst, arith, le_refl, inl, inr, length-append, Option, Some, None}
use Rattle.std.proofs.lemmas.List.{get_or_append_left, get_or_at}
use Rattle.std.proofs.lemmas.Cmp.{nat_list_cmp_total}
use mathlib.Core.Logic.{dite}
use mathlib.Core.Option.{none, some, some-ne-none}
use mathlib.Core.Option as maybe
use native.Mathlib.Decide.{ℕ_discrete}
use lib.ListN.{get_elem?}
use Rattle.std.specs.Prelude.{slice_index, is_some}
use Rattle.std.specs.FinMap.{entries, from_entries, get, get-entries, get-from_entries, same_map, slice_cmp-IsAntisymmetric, nat_cmp-IsAntisymmetric}
use Rattle.atomic_table.specs.Table.{State, opening}
use Rattle.bihash_words.specs.Maps.{Pairs}
use Rattle.bihash_words.specs.Sizes.{Sizes}
use Rattle.bihash_words.specs.Words.{bit}
use Rattle.bihash_rule.specs.Words.{Stands, count_of, used_mark_of, front_words, buckets, bucket_at, page_at, page_words}
use Rattle.bihash_rule.specs.Histories.{after}
use Rattle.bihash_rule.specs.Callers.{known_at, known_writes, opening_in, IsLawfulCaller}
use Rattle.bihash_rule.specs.Blocks.{IsBlockOf}
use Rattle.bihash_rule.specs.Partition.{IsPartition}
use Rattle.bihash_rule.specs.Buckets.{BucketState, IsBucket, word_of}
use Rattle.bihash_rule.specs.PageStores.{StoreState, IsStore, all_used, all_writes, most_used, run_held, run_in}
use Rattle.bihash_rule.specs.Views.{nothing_held, opening_view}
use Rattle.bihash_rule.specs.WordRule.{IsView, WordRule}
use Rattle.bihash_steps.specs.BucketSteps.{IsFound, map_now}
use Rattle.bihash_steps.specs.Renewals.{AreRowWords, AreRenewed, HaveFields, IsRenewed}
use Rattle.bihash_rule.specs.declared.view.Openings.{Openings}
use Rattle.bihash_rule.specs.declared.view.Holdings.{Holdings}
use Rattle.bihash_rule.specs.declared.view.View.{View}
use Rattle.bihash_rule.specs.declared.view.Write.{Write}
use Rattle.bihash_steps.proofs.Beginnings.{AreHome, Begins, no_writes, opening_lawful, starts_so}
use Rattle.bihash_steps.proofs.CountWord.{not_lone}
use Rattle.bihash_steps.proofs.Frames.{store_keeps}
use Rattle.bihash_steps.proofs.Homes.{pairs_after}
use Rattle.bihash_steps.proofs.OwnedWords.{runs_same}
use Rattle.bihash_steps.proofs.WholeHistories.{whole_known}
use Rattle.bihash_steps.proofs.bucket_steps.LoadBucket.{is_found, lone_finds_none}
use Rattle.bihash_steps.proofs.bucket_steps.WordFields.{bucket_fits}
use Rattle.bihash_steps.proofs.caller_steps.LoadCount.{known_sum}
use Rattle.bihash_steps.proofs.pool_steps.PoolLock.{alone_open}

-- ---- Lists of pairs for each bucket

-- f 0, f 1 and so on, below n
abbrev each_below : {A : Type 0} → (ℕ → A) → ℕ → List A
each_below f zero = []
each_below f (suc n) = each_below f n ++ f n ∷ []

-- the pairs that the known writes left in each bucket, and a used mark
abbrev pub openings_after : Sizes → View → ℕ → Openings
openings_after z v used = record { pairs = each_below (λ b. entries (map_now v b)) (buckets z); used = used }

below_long : {A : Type 0} (f : ℕ → A) (n : ℕ) → length (each_below f n) ≡ n
below_long f zero = refl
below_long f (suc n) = let h = below_long f n in let a = length-append (each_below f n) (f n ∷ []) in omega arith

below_at : {A : Type 0} (f : ℕ → A) (n b : ℕ) (d : A) → b < n → get_or (each_below f n) b d ≡ f b
below_at f zero b d l = absurd (omega arith)
below_at f (suc n) b d l = let long = below_long f n in dite (ℕ_discrete b n)
    (λ is. get_or_at (each_below f n) (f n) [] d b (long ∙ sym is) ∙ ap f (sym is))
    (λ ne. get_or_append_left (each_below f n) (f n ∷ []) d b (omega arith) ∙ below_at f n b d (omega arith))

-- a map is the map of its pairs
map_of_entries : (m : Pairs) → from_entries (entries m) ≡ m
map_of_entries m = same_map nat_list_cmp_total (slice_cmp-IsAntisymmetric nat_cmp-IsAntisymmetric) (from_entries (entries m)) m
    (λ q. get-from_entries nat_list_cmp_total (entries m) q ∙ sym (get-entries m q))

-- ---- What the lone caller knows of its row

module _ (z : Sizes) (v : View) (words : List ℕ) (row : AreRowWords z v words) (free : v.holds ≡ nothing_held) where
  abbrev s : State (Unit {0}) View
  s = row.state

  abbrev r : WordRule z s
  r = row.rule

  abbrev x : ℕ → BucketState
  x = r.table.bucket

  abbrev q : StoreState
  q = r.table.store

  ok : IsView z s.words (count_of s.words) r.table row.seat v
  ok = r.each_view row.seat v row.stands

  abbrev pub began : Openings
  began = openings_after z v (used_mark_of words)

  openings_are : v.known.openings ≡ r.table.openings
  openings_are = ok.informed.opening row.acts

  known_is : (b : ℕ) → b < buckets z → known_at v.known b ≡ (x b).history
  known_is b inside = whole_known z s r row.seat b v row.stands row.lone inside

  map_is : (b : ℕ) → b < buckets z → map_now v b ≡ after (opening_in r.table.openings b) (x b).history (length (x b).history)
  map_is b inside = λ i. after (opening_in (openings_are i) b) (known_is b inside i) (length (known_is b inside i))

  opening_is : (b : ℕ) → b < buckets z → opening_in began b ≡ map_now v b
  opening_is b inside = ap from_entries (below_at (λ b. entries (map_now v b)) (buckets z) b [] inside) ∙ map_of_entries (map_now v b)

  unlocked : (b : ℕ) → b < buckets z → (x b).lock ≡ None
  unlocked b inside = go (x b).lock refl
    where
      go : (lock : Option ℕ) → (x b).lock ≡ lock → lock ≡ None
      go None e = refl
      go (Some j) e = absurd (lone_finds_none z s r b inside row.seat j v row.stands row.lone (ap (λ (h : Holdings). h.bucket) free) e)

  -- the word of a bucket says where the words of its block stand, whose pairs are those of its map
  pub block_there : (b : ℕ) → b < buckets z
      → IsFound z v b (slice_index words (bucket_at z b)) (known_at v.known b) (row.rule.table.bucket b).extent
      (row.rule.table.bucket b).block
      × Stands words (page_at z (row.rule.table.bucket b).extent.page) (row.rule.table.bucket b).block
  block_there b inside = (
    subst (λ (h : List Write). IsFound z v b (slice_index words (bucket_at z b)) h (x b).extent (x b).block) (sym (known_is b inside))
        (subst (λ (ws : List ℕ). IsFound z v b (slice_index ws (bucket_at z b)) (x b).history (x b).extent (x b).block) row.are
        (is_found z s r b inside row.seat v row.stands row.acts (unlocked b inside))),
    subst (λ (ws : List ℕ). Stands ws (page_at z (x b).extent.page) (x b).block) row.are
        ((r.each_bucket b inside).at_rest (unlocked b inside)),
  )

  pool_unlocked : q.lock ≡ None
  pool_unlocked = alone_open z s r row.seat v row.stands row.lone (ap (λ (h : Holdings). h.store) free)

  settled : q.store.unpublished ≡ false
  settled = r.store.settled pool_unlocked

  used_is : used_mark_of words ≡ q.store.used
  used_is = ap used_mark_of (sym row.are) ∙ r.store.used

  home : AreHome z began
  home b key value inside h = pairs_after z b (opening_in r.table.openings b) (x b).history (length (x b).history) key value (r.each_bucket b inside).writes
      (subst (λ (m : Pairs). get m key ≡ Some value) (opening_is b inside ∙ map_is b inside) h)

  -- no seat holds a block
  seats_free : (k : ℕ) → run_held (get_elem? s.views k) ≡ None
  seats_free k = go (get_elem? s.views k) refl
    where
      go : (u : maybe.Option View) → get_elem? s.views k ≡ u → run_held u ≡ None
      go none e = refl
      go (some u) e = dite (ℕ_discrete k row.seat)
          (λ is. let same : some u ≡ some v = sym e ∙ (ap (get_elem? s.views) is ∙ row.stands) in
          ap run_held same ∙ ap (λ (h : Holdings). run_in h.block) free)
          (λ ne. elim (r.each_view k u e).able [
            | inl some_number ↦ absurd (not_lone z s r k row.seat u v e row.stands (λ h. ne (sym h)) some_number row.lone)
            | inr nothing ↦ ap (λ (h : Holdings). run_in h.block) nothing
          ])

  abbrev pub has_fields : HaveFields z words
  has_fields b inside = (
    word_of (x b).extent (is_some (x b).lock) (length (x b).history),
    bucket_fits z s r b inside (is_some (x b).lock),
    ap (λ (ws : List ℕ). slice_index ws (bucket_at z b)) (sym row.are) ∙ (r.each_bucket b inside).word,
  )

  -- ---- What the new row begins with

  pub renewed_lawful : IsLawfulCaller z (opening_view z began)
  renewed_lawful = opening_lawful z began home

  pub is_renewed : IsRenewed z v (opening_view z began)
  is_renewed = record {
    first = refl;
    maps = opening_is;
    used = subst (λ (n : ℕ). used_mark_of words ≤ n) (sym same) few;
    few = let a = used_is in let b = r.parted.few in omega arith;
  }
    where
      few : used_mark_of words ≤ all_used z r.table.openings x
      few = let w : ℕ = all_used z r.table.openings x in let t : ℕ = 2 ^ z.max_log2 in
          let bound : q.store.used ≤ w + t * 0 = subst (λ (b : Bool). q.store.used ≤ w + t * bit b) settled r.store.bound in
          let is : used_mark_of words ≡ q.store.used = used_is in omega arith

      same : most_used z v.known.openings.used (known_writes v.known (buckets z)) ≡ all_used z r.table.openings x
      same = λ i. most_used z (openings_are i).used
          (known_sum z v.known x (buckets z) known_is i)

  -- ---- The rule

  module _ (new : List ℕ) (renewed : AreRenewed z words new) where
    bucket_renewed : (b : ℕ) → b < buckets z → IsBucket z new 1 b (opening_in began b)
        (record { history = []; extent = (x b).extent; block = (x b).block; lock = None; dirty = false })
    bucket_renewed b inside = let old = r.each_bucket b inside in record {
      word = let was = has_fields b inside in renewed.bucket b was.0 inside was.1 was.2;
      writes = no_writes z began home b inside;
      bearers = λ n w e. absurd (some-ne-none w (sym e));
      size = old.size;
      pairs = subst (IsBlockOf z (x b).extent (x b).block) (sym (opening_is b inside ∙ map_is b inside)) old.pairs;
      at_rest = λ _ k l. let p : ℕ = ((x b).extent.page - 1) * page_words z in
          renewed.pages (page_at z (x b).extent.page + k) (omega arith)
          ∙ (ap (λ (ws : List ℕ). slice_index ws (page_at z (x b).extent.page + k)) (sym row.are) ∙ old.at_rest (unlocked b inside) k l);
      clean = λ _. refl;
    }

    front_same : (i : ℕ) → 1 ≤ i → i < front_words z → slice_index new i ≡ slice_index s.words i
    front_same i some_word before = renewed.front i some_word before ∙ ap (λ (ws : List ℕ). slice_index ws i) (sym row.are)

    kept : IsStore z new (all_used z r.table.openings x) q
    kept = store_keeps z s.words new front_same (all_used z r.table.openings x) (all_used z r.table.openings x) q
        (le_refl (all_used z r.table.openings x)) r.store

    begins : Begins z began (λ b. (x b).extent) (λ b. (x b).block) q.store new
    begins = record {
      wide = renewed.wide ∙ (ap length (sym row.are) ∙ r.wide);
      one = renewed.one;
      home = home;
      bucket = bucket_renewed;
      outside = λ b out. (r.outside b out).1;
      stored = record {
        lock = kept.lock ∙ ap (λ (lock : Option ℕ). bit (is_some lock)) pool_unlocked;
        used = kept.used;
        wide = kept.wide;
        count = kept.count;
        lists = kept.lists;
        room = kept.room;
        bound = let a : ℕ = 2 ^ z.max_log2 * all_writes z (λ b. record {
          history = [];
          extent = (x b).extent;
          block = (x b).block;
          lock = None;
          dirty = false;
        }) in
            let b : ℕ = 2 ^ z.max_log2 * bit q.store.unpublished in
            let is : used_mark_of words ≡ q.store.used = used_is in
            let less : q.store.used ≤ used_mark_of words + a + b = omega arith in less;
        settled = λ _. settled;
      };
      parted = subst (IsPartition z.pages q.store.used)
          (sym (runs_same _ _ _ _ _ _ (λ b. refl) (λ log2. refl) (λ k. nothing_there k ∙ sym (seats_free k)))) r.parted;
    }
      where
        nothing_there : (k : ℕ) → run_held (get_elem? (opening_view z began ∷ []) k) ≡ None
        nothing_there zero = refl
        nothing_there (suc k) = refl

    pub reopens : WordRule z (opening new [] (opening_view z began))
    reopens = starts_so z began (λ b. (x b).extent) (λ b. (x b).block) q.store new begins r.sound
