-- The exchange that sets the lock bit of a bucket's word.
use Rattle.std.proofs.Common.{◌≡◌, ◌+◌, ◌≢◌, ℕ, ◌<◌, ◌≤◌, eqb, Bool, true, false, length, set, refl, sym, ap, ◌∙◌, subst, arith, length-set, get_or-set_same, eq-eqb, ne_eqb, Some, None}
use mathlib.Core.Logic.{dite}
use mathlib.Core.Option.{some}
use native.Mathlib.Decide.{ℕ_discrete}
use lib.ListN.{get_elem?}
use prog.Atomic.{either}
use Rattle.std.specs.Prelude.{slice_index}
use Rattle.atomic_table.specs.Table.{State, Act, keeps, Valid, stepped, carried_after, Allows}
use Rattle.bihash_words.specs.Sizes.{Sizes}
use Rattle.bihash_words.specs.Words.{Bucket, FitsWord, packed}
use Rattle.bihash_rule.specs.Words.{count_of, front_words, buckets, bucket_at}
use Rattle.bihash_rule.specs.Buckets.{StandsStillIf, word_of}
use Rattle.bihash_rule.specs.PageStores.{all_used, runs_now}
use Rattle.bihash_rule.specs.WordRule.{IsView, WordRule}
use Rattle.bihash_steps.specs.Steps.{ViewOfSeat}
use Rattle.bihash_steps.specs.BucketSteps.{without_notes, with_history, lock_counted, locked_on, locking, IsFound, TellsLock}
use Rattle.bihash_rule.specs.declared.view.LockedBucket.{LockedBucket}
use Rattle.bihash_rule.specs.declared.view.View.{View}
use Rattle.bihash_steps.proofs.BucketPlaces.{place_inside}
use Rattle.bihash_steps.proofs.KnownLists.{lawful_here, lawful_set, logged_at}
use Rattle.bihash_steps.proofs.CountWord.{kept_log, stays_at, others_apart}
use Rattle.bihash_steps.proofs.NotedViews.{unnoted_view}
use Rattle.bihash_steps.proofs.Frames.{free_none, free_own}
use Rattle.bihash_steps.proofs.OwnedWords.{beside_bucket, block_keeps, front_still, store_still, count_still, bucket_after, bucket_inside}
use Rattle.bihash_steps.proofs.PushedCalls.{counted_numbers, counted_whole, counted_number, counted_short, counted-length}
use Rattle.bihash_steps.proofs.WholeHistories.{whole_known}
use Rattle.bihash_steps.proofs.InformedViews.{known_learned, learned_informed, counted_informed}
use Rattle.bihash_steps.proofs.LogSteps.{set_logged, counted_calls, counted_back}
use Rattle.bihash_steps.proofs.bucket_steps.Relocks.{relocked_rule}
use Rattle.bihash_steps.proofs.bucket_steps.LoadBucket.{is_found}
use Rattle.bihash_steps.proofs.bucket_steps.WordFields.{unlocked_word}
use Rattle.bihash_steps.proofs.bucket_steps.OpenReads.{rests_on}

module _ (z : Sizes) where
  -- the rule stands where a bucket that nobody has locked gets locked
  locked_rule : (s : State (Unit {0}) View) (r : WordRule z s) (id b word' : ℕ) (v : View) → get_elem? s.views id ≡ some v
      → 1 ≤ length v.records → v.holds.bucket ≡ None → b < buckets z → (r.table.bucket b).lock ≡ None
      → word' ≡ packed (word_of (r.table.bucket b).extent true (length (r.table.bucket b).history))
      → WordRule z record {
        words = set s.words (bucket_at z b) word';
        homes = s.homes;
        views = set s.views id (locking (with_history v b (r.table.bucket b).history)
            (locked_on b (length (r.table.bucket b).history) (r.table.bucket b).extent (r.table.bucket b).block));
      }
  locked_rule s r id b word' v at acts none inside free value =
      let x = r.table.bucket b in
      let ok = r.each_view id v at in
      let bucket = r.each_bucket b inside in
      let i : ℕ = bucket_at z b in
      let before : i < front_words z + buckets z = let p = place_inside z b inside in omega arith in
      let l : LockedBucket = locked_on b (length x.history) x.extent x.block in
      relocked_rule z s r b id v (lock_counted v.records) (with_history v b x.history).known (Some l) v.log (set s.words i word') (Some id) x.dirty record {
        logged = set_logged z r.table.openings (λ d. (r.table.bucket d).history) s.views id v (locking (with_history v b x.history) l) at r.logged refl
            (counted_calls v.records) (λ n h. counted_back n v.records h);
        at = at;
        acts = acts;
        inside = inside;
        wide = length-set s.words i word';
        count = count_still z s.words i word' (bucket_after z b);
        front = store_still z s.words i word' (omega arith);
        beside = beside_bucket z (runs_now r.table.bucket r.table.store.store s.views) s.words b id word' inside;
        block = block_keeps z s.words i word' before v.holds.block ok.block;
        free = free_none id x.lock free;
        free' = free_own id (Some id) refl;
        stored = λ e. e;
        word = get_or-set_same s.words i word' 0 (let h = bucket_inside z b inside in let wide = r.wide in omega arith) ∙ value;
        at_rest = λ e. cc;
        clean = λ e. cc;
        informed = counted_informed z r.table (with_history v b x.history).known v.records (learned_informed z r.table v b inside ok.informed);
        numbers = counted_numbers v.seen v.records ok.numbers;
        whole = λ lone. counted_whole (count_of s.words) v.records (ok.lone lone);
        able = let n = counted-length v.records in omega arith;
        same_numbers = λ n h. counted_number n v.records h;
        short = counted_short z (all_used z r.table.openings r.table.bucket) v.records ok.short;
        other = λ o e. absurd (cc (none, e));
        noted = λ _. (l, refl, refl);
        holds = (
          refl,
          record {
            inside = inside;
            held = refl;
            extent = refl;
            version = refl;
            fresh = known_learned v b x.history (let wide = ok.informed.wide in omega arith);
            was = refl;
            size = bucket.size;
            stands = front_still z s.words i word' x.extent.page x.block before (bucket.at_rest free);
            clean = λ _. refl;
            dirty = bucket.clean free;
          },
        );
      }

  pub locks_bucket : (slots id b word word' : ℕ) (x : Bucket) (m : ViewOfSeat) → b < buckets z → 1 ≤ length m.0.records
      → m.0.holds.bucket ≡ None → FitsWord x → word ≡ packed x → x.locked ≡ false → word' ≡ packed (record x { locked = true })
      → Allows (WordRule z) slots id m (bucket_at z b) (λ n. either (eqb n word) word' n) (TellsLock z b word m)
  locks_bucket slots id b word word' x m inside acts none fits stood unset value s r deep at fits' =
      dite (ℕ_discrete found word) (λ e. taken e) (λ ne. lost ne)
    where
      v : View
      v = m.0

      found : ℕ
      found = slice_index s.words (bucket_at z b)

      ok : IsView z s.words (count_of s.words) r.table id v
      ok = r.each_view id v at

      after : ℕ → View → State (Unit {0}) View
      after n w = record { words = set s.words (bucket_at z b) n; homes = s.homes; views = set s.views id w }

      Outcome : Type 0
      Outcome = (w : View) × (a : Act (Unit {0})) × Valid s.homes m.1 a
          × WordRule z (stepped s (bucket_at z b) (either (eqb found word) word' found) id m.1 w a)
          × TellsLock z b word m found (w, carried_after m.1 a)

      taken : found ≡ word → Outcome
      taken e =
          let y = r.table.bucket b in
          let is = unlocked_word z s r b x inside fits unset (e ∙ stood) in
          let w : View = locking (with_history v b y.history) (locked_on b (length y.history) y.extent y.block) in
          let rule : WordRule z (after word' w) = locked_rule s r id b word' v at acts none inside is.0
          (value ∙ ap (λ (o : Bucket). packed (record o { locked = true })) (sym is.1)) in
          let good = learned_informed z r.table v b inside ok.informed in (
            w,
            keeps,
            tt,
            subst (λ (t : Bool). WordRule z (after (either t word' found) w)) (sym (eq-eqb found word e)) rule,
            record {
              slots = refl;
              taken = λ _. record {
                history = y.history;
                extent = y.extent;
                block = y.block;
                found = subst (λ (n : ℕ). IsFound z v b n y.history y.extent y.block) e (is_found z s r b inside id v at acts is.0);
                is = refl;
              };
              not = λ ne. absurd (ne e);
              lone = λ _ o f g h. e;
              rests = λ _ o noted same is l held.
                  let mine : locked_on b (length y.history) y.extent y.block ≡ l = cc held in
                  let here = ap (λ (c : ℕ). slice_index s.words (bucket_at z c)) same ∙ (e ∙ is) in
                  rests_on z s r id v o l at noted here
                  (ap (λ (k : LockedBucket). k.extent) (sym mine) ∙ ap (λ (c : ℕ). (r.table.bucket c).extent) (sym same))
                  (ap (λ (k : LockedBucket). k.version) (sym mine) ∙ ap (λ (c : ℕ). length (r.table.bucket c).history) (sym same))
                  (ap (λ (k : LockedBucket). k.was) (sym mine) ∙ ap (λ (c : ℕ). (r.table.bucket c).block) (sym same));
              whole = λ lone _. known_learned v b y.history (let wide = ok.informed.wide in omega arith)
                  ∙ sym (whole_known z s r id b v at lone inside);
              lawful = lawful_set z (set s.words (bucket_at z b) word') s id v w at
                  (let n = counted-length v.records in omega arith) rule;
            },
          )

      lost : found ≢ word → Outcome
      lost ne =
          let good = unnoted_view z s.words (count_of s.words) r.table id v ok in (
            without_notes v,
            keeps,
            tt,
            subst (λ (t : Bool). WordRule z (after (either t word' found) (without_notes v))) (sym (ne_eqb found word ne))
                (stays_at z s r (bucket_at z b) id v (without_notes v) at refl good (others_apart z s r id v at)
                (kept_log z s r id v (without_notes v) at refl refl)),
            record {
              slots = refl;
              taken = λ e. absurd (ne e);
              not = λ _. refl;
              lone = λ lone o noted same is. absurd (ne (ap (λ (c : ℕ). slice_index s.words (bucket_at z c)) (sym same)
                  ∙ (subst (StandsStillIf z s.words) noted (ok.still lone) ∙ sym is)));
              rests = λ e. absurd (ne e);
              whole = λ _ e. absurd (ne e);
              lawful = lawful_here z s r (without_notes v) acts good.numbers good.informed good.lone (logged_at z s r id v at acts);
            },
          )
