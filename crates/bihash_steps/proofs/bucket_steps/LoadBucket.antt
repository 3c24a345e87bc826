-- A load of a bucket's word: what the word says, and what the caller then knows.
use Rattle.std.proofs.Common.{◌≡◌, ℕ, ◌<◌, ◌≤◌, true, false, List, length, refl, sym, ap, ◌∙◌, subst, inl, inr, arith, le_refl, Option, Some, None}
use mathlib.Core.Logic.{dite}
use mathlib.Core.Option.{some, some-ne-none}
use native.Mathlib.Decide.{ℕ_discrete}
use lib.ListN.{get_elem?}
use Rattle.std.specs.Prelude.{slice_index, is_some}
use Rattle.atomic_table.specs.Table.{State, Act, keeps, Valid, stepped, carried_after, Allows}
use Rattle.bihash_words.specs.Sizes.{Sizes}
use Rattle.bihash_words.specs.Words.{packed}
use Rattle.bihash_rule.specs.Words.{count_of, buckets, bucket_at}
use Rattle.bihash_rule.specs.Histories.{IsWriteList, after}
use Rattle.bihash_rule.specs.Callers.{known_at, opening_in}
use Rattle.bihash_rule.specs.declared.view.Openings.{Openings}
use Rattle.bihash_rule.specs.Blocks.{IsBlockOf}
use Rattle.bihash_rule.specs.Buckets.{AreReadIn, BucketState, HoldsBucketIf, StandsStillIf, word_of}
use Rattle.bihash_rule.specs.Views.{no_notes}
use Rattle.bihash_rule.specs.WordRule.{TableState, IsView, WordRule}
use Rattle.bihash_steps.specs.Steps.{ViewOfSeat}
use Rattle.bihash_steps.specs.BucketSteps.{without_notes, with_history, open_on, IsFound, RestsOpen, SeesOpen, TellsBucket}
use Rattle.bihash_rule.specs.declared.view.Holdings.{Holdings}
use Rattle.bihash_rule.specs.declared.view.LockedBucket.{LockedBucket}
use Rattle.bihash_rule.specs.declared.view.View.{View}
use Rattle.bihash_steps.proofs.KnownLists.{lawful_here, logged_at}
use Rattle.bihash_steps.proofs.Lists.{there, no_row}
use Rattle.bihash_steps.proofs.CountWord.{held_still, not_lone, others_apart, stays_at, kept_log}
use Rattle.bihash_steps.proofs.NotedViews.{unnoted_view}
use Rattle.bihash_steps.proofs.WholeHistories.{whole_known}
use Rattle.bihash_steps.proofs.InformedViews.{known_learned, known_else, learned_informed}
use Rattle.bihash_steps.proofs.bucket_steps.OpenReads.{open_still}
use Rattle.bihash_steps.proofs.bucket_steps.WordFields.{bucket_fits, near_block}

-- ---- What the word of a bucket says

module _ (z : Sizes) (s : State (Unit {0}) View) (r : WordRule z s) (b : ℕ) (inside : b < buckets z) where
  -- what a caller with a number finds where nobody has the lock
  pub is_found : (id : ℕ) (v : View) → get_elem? s.views id ≡ some v → 1 ≤ length v.records → (r.table.bucket b).lock ≡ None
      → IsFound z v b (slice_index s.words (bucket_at z b)) (r.table.bucket b).history (r.table.bucket b).extent (r.table.bucket b).block
  is_found id v at acts free =
      let ok = r.each_bucket b inside in
      let x = r.table.bucket b in
      let known = (r.each_view id v at).informed in
      let openings = sym (known.opening acts) in record {
        begins = known.begins b inside;
        writes = subst (λ (o : Openings). IsWriteList z b (opening_in o b) x.history) openings ok.writes;
        fits = bucket_fits z s r b inside false;
        stood = ok.word ∙ ap (λ (lock : Option ℕ). packed (word_of x.extent (is_some lock) (length x.history))) free;
        near = near_block z s r b inside;
        size = ok.size;
        pairs = subst (λ (o : Openings). IsBlockOf z x.extent x.block (after (opening_in o b) x.history (length x.history))) openings ok.pairs;
        listed = let wide = known.wide in omega arith;
      }

  -- a lone caller that has no lock finds none
  pub lone_finds_none : (id j : ℕ) (v : View) → get_elem? s.views id ≡ some v → v.lone ≡ true → v.holds.bucket ≡ None
      → (r.table.bucket b).lock ≡ Some j → ⊥
  lone_finds_none id j v at lone none held = dite (ℕ_discrete j id)
      (λ is. let own = (r.each_view id v at).only b inside (held ∙ ap Some is) in cc (own.1, none))
      (λ other. let u = there s.views j (r.holders b j held) in
      let ok = r.each_view j u.0 u.1 in
      let own = ok.only b inside held in elim ok.able [
        | inl acts ↦ not_lone z s r j id u.0 v u.1 at (λ e. other (sym e)) acts lone
        | inr nothing ↦ let empty = ap (λ (h : Holdings). h.bucket) nothing in absurd (cc (own.1, empty))
      ])

module _ (z : Sizes) where
  -- what a view holds stands where it learns a history
  pub learned_lock : (words : List ℕ) (t : TableState) (j b : ℕ) (v : View) (lock : Option LockedBucket) → b < length v.known.writes
      → HoldsBucketIf z words t.bucket j v.known lock → HoldsBucketIf z words t.bucket j (with_history v b (t.bucket b).history).known lock
  learned_lock words t j b v None inside h = tt
  learned_lock words t j b v (Some l) inside h = let x = t.bucket b in
      held_still z words words j (known_at v.known l.bucket) (known_at (with_history v b x.history).known l.bucket) l (t.bucket l.bucket)
      (dite (ℕ_discrete l.bucket b)
      (λ e. subst (λ (c : ℕ). known_at (with_history v b x.history).known c ≡ (t.bucket c).history) (sym e)
      (known_learned v b x.history inside))
      (λ ne. known_else v b l.bucket x.history ne ∙ h.fresh))
      h.stands h

  -- the view of a caller that saw bucket b without its lock
  abbrev pub seeing : View → ℕ → BucketState → View
  seeing v b x = record (with_history v b x.history) {
    notes = record no_notes { open_bucket = Some (open_on b (length x.history) x.extent x.block) };
  }

  seeing_view : (s : State (Unit {0}) View) (r : WordRule z s) (id b : ℕ) (v : View) → get_elem? s.views id ≡ some v → b < buckets z
      → (r.table.bucket b).lock ≡ None → IsView z s.words (count_of s.words) r.table id (seeing v b (r.table.bucket b))
  seeing_view s r id b v at inside free = let ok = r.each_view id v at in let x = r.table.bucket b in record {
    informed = learned_informed z r.table v b inside ok.informed;
    numbers = ok.numbers;
    seen = ok.seen;
    lone = ok.lone;
    able = ok.able;
    bucket = learned_lock s.words r.table id b v v.holds.bucket (let wide = ok.informed.wide in omega arith) ok.bucket;
    only = ok.only;
    store = ok.store;
    only_store = ok.only_store;
    block = ok.block;
    open_bucket = record {
      inside = inside;
      fits = bucket_fits z s r b inside false;
      past = le_refl (length x.history);
      extent = λ _. refl;
      block = λ _. refl;
      reads = λ _ _ i p e. absurd (some-ne-none p (sym e));
    };
    still = λ _. (r.each_bucket b inside).word
        ∙ ap (λ (lock : Option ℕ). packed (word_of x.extent (is_some lock) (length x.history))) free;
    row = λ _. no_row s.words;
    short = ok.short;
    left = tt;
    meeting = tt;
  }

  pub loads_bucket : (slots id b : ℕ) (m : ViewOfSeat) → b < buckets z → 1 ≤ length m.0.records
      → Allows (WordRule z) slots id m (bucket_at z b) (λ n. n) (TellsBucket z b m)
  loads_bucket slots id b m inside acts s r deep at fits = go (r.table.bucket b).lock refl
    where
      v : View
      v = m.0

      ok : IsView z s.words (count_of s.words) r.table id v
      ok = r.each_view id v at

      word : ℕ
      word = slice_index s.words (bucket_at z b)

      again : RestsOpen v b word
      again = record {
        reads = λ o noted home here.
            let h = open_still z s r id v o at noted (ap (λ (c : ℕ). slice_index s.words (bucket_at z c)) home ∙ here) in
            subst (AreReadIn o.reads) (sym h.3) h.4;
        alone = λ lone o noted home. ap (λ (c : ℕ). slice_index s.words (bucket_at z c)) (sym home)
            ∙ subst (StandsStillIf z s.words) noted (ok.still lone);
      }

      go : (lock : Option ℕ) → (r.table.bucket b).lock ≡ lock → (w : View) × (a : Act (Unit {0})) × Valid s.homes m.1 a
          × WordRule z (stepped s (bucket_at z b) word id m.1 w a) × TellsBucket z b m word (w, carried_after m.1 a)
      go None free =
          let x = r.table.bucket b in
          let good = seeing_view s r id b v at inside free in
          let seen : SeesOpen z v b word (seeing v b x) = record {
            history = x.history;
            extent = x.extent;
            block = x.block;
            found = is_found z s r b inside id v at acts free;
            is = refl;
          } in (
            seeing v b x,
            keeps,
            tt,
            stays_at z s r (bucket_at z b) id v (seeing v b x) at refl good (others_apart z s r id v at)
                (kept_log z s r id v (seeing v b x) at refl refl),
            record {
              slots = refl;
              seen = inl seen;
              lone = λ _ _. seen;
              again = again;
              whole = λ lone. known_learned v b x.history (let wide = ok.informed.wide in omega arith)
                  ∙ sym (whole_known z s r id b v at lone inside);
              lawful = lawful_here z s r (seeing v b x) acts good.numbers good.informed good.lone (logged_at z s r id v at acts);
            },
          )
      go (Some j) held =
          let x = r.table.bucket b in
          let good = unnoted_view z s.words (count_of s.words) r.table id v ok in (
            without_notes v,
            keeps,
            tt,
            stays_at z s r (bucket_at z b) id v (without_notes v) at refl good (others_apart z s r id v at)
                (kept_log z s r id v (without_notes v) at refl refl),
            record {
              slots = refl;
              seen = inr record {
                extent = x.extent;
                version = length x.history;
                fits = bucket_fits z s r b inside true;
                stood = (r.each_bucket b inside).word
                    ∙ ap (λ (lock : Option ℕ). packed (word_of x.extent (is_some lock) (length x.history))) held;
                is = refl;
              };
              lone = λ lone none. absurd (lone_finds_none z s r b inside id j v at lone none held);
              again = again;
              whole = λ _. refl;
              lawful = lawful_here z s r (without_notes v) acts good.numbers good.informed good.lone (logged_at z s r id v at acts);
            },
          )
