-- Steps on a bucket without its lock: a load of a word of the block that was noted, and the load that finds whether the bucket's word is the one that was noted.
use Rattle.std.proofs.Common.{◌≡◌, ◌≢◌, ℕ, zero, suc, ◌+◌, ◌<◌, ◌≤◌, false, [], ◌∷◌, ◌++◌, List, length, refl, sym, ap, ◌∙◌, subst, inl, arith, Option, Some, None}
use mathlib.Core.Logic.{dite}
use mathlib.Core.Option.{some, some-injective}
use native.Mathlib.Decide.{ℕ_discrete}
use lib.ListN.{get_elem?}
use Rattle.std.specs.Prelude.{slice_index}
use Rattle.atomic_table.specs.Table.{State, Act, keeps, Valid, stepped, carried_after, Allows}
use Rattle.bihash_words.specs.Sizes.{Sizes}
use Rattle.bihash_words.specs.Words.{Bucket}
use Rattle.bihash_rule.specs.Words.{count_of, buckets, bucket_at, page_at, block_words, Stands}
use Rattle.bihash_rule.specs.Histories.{IsKeyOf, IsAnswer}
use Rattle.bihash_rule.specs.Callers.{known_at}
use Rattle.bihash_rule.specs.Buckets.{BucketState, HoldsBucket, HoldsBucketIf, AreReadIn, IsOpen, IsOpenIf, StandsStillIf, word_of, open_word}
use Rattle.bihash_rule.specs.PageStores.{all_used}
use Rattle.bihash_rule.specs.WordRule.{IsInformed, IsView, WordRule}
use Rattle.bihash_steps.specs.Steps.{ViewOfSeat}
use Rattle.bihash_steps.specs.BucketSteps.{without_notes, with_reading, read_more, IsOpenWord, TellsOpenWord, MayValidate, view_after_validate, TellsValid, entry_of, RestsOn, push_call, map_now}
use Rattle.bihash_rule.specs.declared.view.Call.{Call}
use Rattle.bihash_rule.specs.declared.view.Entry.{Entry}
use Rattle.bihash_rule.specs.declared.view.Extent.{Extent}
use Rattle.bihash_rule.specs.declared.view.LockedBucket.{LockedBucket}
use Rattle.bihash_rule.specs.declared.view.OpenBucket.{OpenBucket}
use Rattle.bihash_rule.specs.declared.view.View.{View}
use Rattle.bihash_steps.proofs.KnownLists.{lawful_here, logged_at}
use Rattle.bihash_steps.proofs.Lists.{there, no_row}
use Rattle.bihash_steps.proofs.CountWord.{stays_at, others_apart, kept_log}
use Rattle.bihash_steps.proofs.LogEvents.{read_rule, read_enters, read_is_logged}
use Rattle.bihash_steps.proofs.NotedViews.{seen_view, unnoted_view}
use Rattle.bihash_steps.proofs.PushedCalls.{push_numbers, push_whole, push_short, push-length, push_renumbers}
use Rattle.bihash_steps.proofs.WholeHistories.{prefix_whole}
use Rattle.bihash_steps.proofs.InformedViews.{answered_informed, bears_own}
use Rattle.bihash_steps.proofs.bucket_steps.WordFields.{unlocked_word}

module _ (z : Sizes) (s : State (Unit {0}) View) (r : WordRule z s) where
  -- while the holder of its lock, if any, stored no word of a block, the block stands
  pub stands_clean : (b : ℕ) → b < buckets z → (r.table.bucket b).dirty ≡ false
      → Stands s.words (page_at z (r.table.bucket b).extent.page) (r.table.bucket b).block
  stands_clean b inside clean = go (r.table.bucket b).lock refl
    where
      x : BucketState
      x = r.table.bucket b

      go : (lock : Option ℕ) → x.lock ≡ lock → Stands s.words (page_at z x.extent.page) x.block
      go None free = (r.each_bucket b inside).at_rest free
      go (Some j) held =
          let u = there s.views j (r.holders b j held) in
          let ok = r.each_view j u.0 u.1 in
          let own = ok.only b inside held in
          let l : LockedBucket = own.0 in
          let h : HoldsBucket z s.words j (known_at u.0.known b) l x
          = subst (λ (c : ℕ). HoldsBucket z s.words j (known_at u.0.known c) l (r.table.bucket c)) own.2
          (subst (HoldsBucketIf z s.words r.table.bucket j u.0.known) own.1 ok.bucket) in
          subst (Stands s.words (page_at z x.extent.page)) (h.clean (sym h.dirty ∙ clean) ∙ h.was)
          (subst (λ (e : Extent). Stands s.words (page_at z e.page) l.now) h.extent h.stands)

  -- ---- A word of the block

  -- what was noted, with one word more
  reads_word : (o : OpenBucket) (k : ℕ) → k < block_words z o.extent.page o.extent.size.log2 → IsOpen z o (r.table.bucket o.bucket)
      → IsOpen z (record o { reads = (k, slice_index s.words (page_at z o.extent.page + k)) ∷ o.reads }) (r.table.bucket o.bucket)
  reads_word o k inside h = record {
    inside = h.inside;
    fits = h.fits;
    past = h.past;
    extent = h.extent;
    block = h.block;
    reads = λ same clean. all same clean;
  }
    where
      x : BucketState
      x = r.table.bucket o.bucket

      word : ℕ
      word = slice_index s.words (page_at z o.extent.page + k)

      here : o.version ≡ length x.history → x.dirty ≡ false → word ≡ slice_index x.block k
      here same clean =
          let e = h.extent same in
          let size = (r.each_bucket o.bucket h.inside).size in
          let low : k < length x.block = subst (λ (n : ℕ). k < n) (sym size)
          (subst (λ (e : Extent). k < block_words z e.page e.size.log2) e inside) in
          ap (λ (e : Extent). slice_index s.words (page_at z e.page + k)) e ∙ stands_clean o.bucket h.inside clean k low

      all : o.version ≡ length x.history → x.dirty ≡ false → AreReadIn ((k, word) ∷ o.reads) x.block
      all same clean zero p e = subst (λ (q : ℕ × ℕ). q.1 ≡ slice_index x.block q.0) (some-injective (k, word) p e) (here same clean)
      all same clean (suc i) p e = h.reads same clean i p e

  reading_view : (id k : ℕ) (v : View) (o : OpenBucket) → get_elem? s.views id ≡ some v → v.notes.open_bucket ≡ Some o
      → k < block_words z o.extent.page o.extent.size.log2
      → IsView z s.words (count_of s.words) r.table id (with_reading v ((k, slice_index s.words (page_at z o.extent.page + k)) ∷ []))
  reading_view id k v o at noted inside = let ok = r.each_view id v at in
      seen_view z s.words (count_of s.words) r.table id v v.seen v.lone (with_reading v ((k, word) ∷ [])).notes ok.numbers ok.seen ok.lone record {
        open_bucket = subst (λ (seen : Option OpenBucket). IsOpenIf z r.table.bucket (read_more ((k, word) ∷ []) seen)) (sym noted)
            (reads_word o k inside (subst (IsOpenIf z r.table.bucket) noted ok.open_bucket));
        still = λ lone. subst (λ (seen : Option OpenBucket). StandsStillIf z s.words (read_more ((k, word) ∷ []) seen)) (sym noted)
            (subst (StandsStillIf z s.words) noted (ok.still lone));
        row = ok.row;
        left = ok.left;
        meeting = ok.meeting;
      } ok
    where
      word : ℕ
      word = slice_index s.words (page_at z o.extent.page + k)

  -- ---- The word of the bucket

  -- where the bucket is found with the word that was noted, nobody has its lock, and the words that were read are those of its block
  pub open_still : (id : ℕ) (v : View) (o : OpenBucket) → get_elem? s.views id ≡ some v → v.notes.open_bucket ≡ Some o
      → slice_index s.words (bucket_at z o.bucket) ≡ open_word o
      → ((r.table.bucket o.bucket).lock ≡ None) × (o.version ≡ length (r.table.bucket o.bucket).history)
      × (o.extent ≡ (r.table.bucket o.bucket).extent) × (o.block ≡ (r.table.bucket o.bucket).block)
      × AreReadIn o.reads (r.table.bucket o.bucket).block
  open_still id v o at noted here =
      let ok : IsOpen z o (r.table.bucket o.bucket) = subst (IsOpenIf z r.table.bucket) noted (r.each_view id v at).open_bucket in
      let is = unlocked_word z s r o.bucket (word_of o.extent false o.version) ok.inside ok.fits refl here in
      let same : o.version ≡ length (r.table.bucket o.bucket).history = ap (λ (w : Bucket). w.version) (sym is.1) in
      (is.0, same, ok.extent same, ok.block same, ok.reads same ((r.each_bucket o.bucket ok.inside).clean is.0))

  pub rests_on : (id : ℕ) (v : View) (o : OpenBucket) (l : LockedBucket) → get_elem? s.views id ≡ some v → v.notes.open_bucket ≡ Some o
      → slice_index s.words (bucket_at z o.bucket) ≡ open_word o → l.extent ≡ (r.table.bucket o.bucket).extent
      → l.version ≡ length (r.table.bucket o.bucket).history → l.was ≡ (r.table.bucket o.bucket).block → RestsOn o l
  rests_on id v o l at noted here extent version was = let h = open_still id v o at noted here in record {
    extent = extent ∙ sym h.2;
    version = version ∙ sym h.1;
    block = was ∙ sym h.3;
    reads = subst (AreReadIn o.reads) (sym was) h.4;
  }

module _ (z : Sizes) where
  loads_open : (slots id k : ℕ) (m : ViewOfSeat) (o : OpenBucket) → m.0.notes.open_bucket ≡ Some o
      → k < block_words z o.extent.page o.extent.size.log2
      → Allows (WordRule z) slots id m (page_at z o.extent.page + k) (λ n. n) (TellsOpenWord k m)
  loads_open slots id k m o noted inside s r deep at fits =
      let v = m.0 in
      let word : ℕ = slice_index s.words (page_at z o.extent.page + k) in (
        with_reading v ((k, word) ∷ []),
        keeps,
        tt,
        stays_at z s r (page_at z o.extent.page + k) id v (with_reading v ((k, word) ∷ [])) at refl
            (reading_view z s r id k v o at noted inside) (others_apart z s r id v at)
            (kept_log z s r id v (with_reading v ((k, word) ∷ [])) at refl refl),
        refl,
      )

  pub loads_open_word : (slots id page k : ℕ) (m : ViewOfSeat) → IsOpenWord z m.0 page k
      → Allows (WordRule z) slots id m (page_at z page + k) (λ n. n) (TellsOpenWord k m)
  loads_open_word slots id page k m may =
      subst (λ (p : ℕ). Allows (WordRule z) slots id m (page_at z p + k) (λ n. n) (TellsOpenWord k m)) may.first
      (loads_open slots id k m may.bucket may.noted
      (subst (λ (p : ℕ). k < block_words z p may.bucket.extent.size.log2) (sym may.first) may.inside))

  pub validates_call : (slots id b word : ℕ) (c : Call) (m : ViewOfSeat) → MayValidate z m.0 b word c → b < buckets z → 1 ≤ length m.0.records
      → Allows (WordRule z) slots id m (bucket_at z b) (λ n. n) (TellsValid z word c m)
  validates_call slots id b word c m may inside acts s r deep at fits = dite (ℕ_discrete found word) (λ e. valid e) (λ ne. lost ne)
    where
      v : View
      v = m.0

      found : ℕ
      found = slice_index s.words (bucket_at z b)

      ok : IsView z s.words (count_of s.words) r.table id v
      ok = r.each_view id v at

      o : OpenBucket
      o = may.open_bucket

      Outcome : Type 0
      Outcome = (w : View) × (a : Act (Unit {0})) × Valid s.homes m.1 a
          × WordRule z (stepped s (bucket_at z b) found id m.1 w a) × TellsValid z word c m found (w, carried_after m.1 a)

      valid : found ≡ word → Outcome
      valid e =
          let home = may.home in
          let h = open_still z s r id v o at may.noted (ap (λ (n : ℕ). slice_index s.words (bucket_at z n)) home ∙ (e ∙ may.stood)) in
          let version : o.version ≡ length (r.table.bucket b).history
          = subst (λ (n : ℕ). o.version ≡ length (r.table.bucket n).history) home h.1 in
          let reads : AreReadIn o.reads o.block = subst (AreReadIn o.reads) (sym h.3) h.4 in
          let fresh : known_at v.known b ≡ (r.table.bucket b).history
          = prefix_whole (known_at v.known b) (r.table.bucket b).history (ok.informed.begins b inside) (let a = may.version in omega arith) in
          let informed : IsInformed z r.table v.known (push_call c v.records)
          = answered_informed z r.table v c (subst (λ (a : ℕ). a < buckets z) (sym may.bucket) inside)
          (subst (λ (a : ℕ). known_at v.known a ≡ (r.table.bucket a).history) (sym may.bucket) fresh)
          (subst (λ (a : ℕ). IsKeyOf z a c.key) (sym may.bucket) may.key) may.reads (bears_own c.reply c.store v.notes.left may.store)
          (may.stamp ∙ ap (λ (a : ℕ). length (known_at v.known a)) (sym may.bucket))
          (subst (λ (a : ℕ). IsAnswer z (map_now v a) (length (known_at v.known a)) c) (sym may.bucket) (may.answers reads)) ok.informed in
          let numbers = push_numbers v.seen c v.records ok.numbers in
          let log : List Entry = r.logged.log ++ entry_of v c ∷ [] in
          let after : View = record (view_after_validate v c) { log = log } in
          let inside_c : c.bucket < buckets z = subst (λ (a : ℕ). a < buckets z) (sym may.bucket) inside in
          let fresh_c : known_at v.known c.bucket ≡ (r.table.bucket c.bucket).history
          = subst (λ (a : ℕ). known_at v.known a ≡ (r.table.bucket a).history) (sym may.bucket) fresh in
          let stamp_c : c.stamp ≡ length (known_at v.known c.bucket) = may.stamp ∙ ap (λ (a : ℕ). length (known_at v.known a)) (sym may.bucket) in
          let good : IsView z s.words (count_of s.words) r.table id after = record {
            informed = informed;
            numbers = numbers;
            seen = ok.seen;
            lone = λ lone. push_whole (count_of s.words) c v.records (ok.lone lone);
            able = inl (let n = push-length c v.records in omega arith);
            bucket = ok.bucket;
            only = ok.only;
            store = ok.store;
            only_store = ok.only_store;
            block = ok.block;
            open_bucket = tt;
            still = λ _. tt;
            row = λ _. no_row s.words;
            short = push_short z (all_used z r.table.openings r.table.bucket) c v.records (λ log2 left f. absurd (may.pages log2 left f)) ok.short;
            left = tt;
            meeting = tt;
          } in (
            after,
            keeps,
            tt,
            stays_at z s r (bucket_at z b) id v after at refl good
                (λ j u ne f i k p q g. let n = push_renumbers c v.records i p g in λ e' same.
                others_apart z s r id v at j u ne f i k n.0 q n.1 e' (n.2 ∙ same))
                (read_rule z s r id v at acts c informed inside_c fresh_c may.reads stamp_c after refl refl),
            record {
              slots = refl;
              valid = λ _. read_enters z s r id v at acts c informed inside_c fresh_c may.reads stamp_c (view_after_validate v c) after
                  refl;
              not = λ ne. absurd (ne e);
              lone = λ _. e;
              lawful = lawful_here z s r after (let n = push-length c v.records in omega arith) numbers informed (λ lone. push_whole (count_of s.words) c v.records (ok.lone lone))
                  (read_is_logged z s r id v at acts c informed inside_c fresh_c may.reads stamp_c after refl refl refl);
            },
          )

      lost : found ≢ word → Outcome
      lost ne =
          let good = unnoted_view z s.words (count_of s.words) r.table id v ok in (
            without_notes v,
            keeps,
            tt,
            stays_at z s r (bucket_at z b) id v (without_notes v) at refl good (others_apart z s r id v at)
                (kept_log z s r id v (without_notes v) at refl refl),
            record {
              slots = refl;
              valid = λ e. absurd (ne e);
              not = λ _. refl;
              lone = λ lone. absurd (ne (ap (λ (n : ℕ). slice_index s.words (bucket_at z n)) (sym may.home)
                  ∙ (subst (StandsStillIf z s.words) may.noted (ok.still lone) ∙ sym may.stood)));
              lawful = lawful_here z s r (without_notes v) acts ok.numbers ok.informed ok.lone (logged_at z s r id v at acts);
            },
          )
