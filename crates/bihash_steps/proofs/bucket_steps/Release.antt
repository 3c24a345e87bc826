-- The old word is stored over a locked bucket: its lock is opened without an answer, or a call that is no write is answered.
use Rattle.std.proofs.Common.{◌≡◌, ◌+◌, ℕ, ◌<◌, true, false, List, length, set, refl, sym, ap, ◌∙◌, subst, arith, length-set, get_or-set_same, None, [], ◌∷◌, ◌++◌}
use mathlib.Core.Option.{some}
use lib.ListN.{get_elem?}
use Rattle.atomic_table.specs.Table.{State, keeps, Allows}
use Rattle.bihash_words.specs.Sizes.{Sizes}
use Rattle.bihash_words.specs.Words.{packed}
use Rattle.bihash_words.specs.declared.patch.Reply.{Reply}
use Rattle.bihash_words.specs.declared.patch.Reply.TheVariants.{NoPages}
use Rattle.bihash_rule.specs.Words.{count_of, front_words, buckets, bucket_at, page_at, Stands}
use Rattle.bihash_rule.specs.Histories.{IsKeyOf, IsAnswer, store_of}
use Rattle.bihash_rule.specs.Callers.{HasNumber, HasNumbers, IsWhole, known_at}
use Rattle.bihash_rule.specs.Buckets.{HoldsBucket, word_of}
use Rattle.bihash_rule.specs.PageStores.{BearsOutOfPages, BearOutOfPages, LeftIf, all_used, runs_now}
use Rattle.bihash_rule.specs.WordRule.{IsInformed, WordRule}
use Rattle.bihash_steps.specs.Steps.{ViewOfSeat}
use Rattle.bihash_steps.specs.BucketSteps.{HoldsClean, MayAnswer, TellsEvent, TellsEntry, entry_of, without_lock, view_after_answer, push_call, map_now}
use Rattle.bihash_rule.specs.declared.view.Call.{Call}
use Rattle.bihash_rule.specs.LogRule.{LogRule}
use Rattle.bihash_rule.specs.declared.view.Entry.{Entry}
use Rattle.bihash_rule.specs.declared.view.Record.{Record}
use Rattle.bihash_rule.specs.declared.view.Extent.{Extent}
use Rattle.bihash_rule.specs.declared.view.View.{View}
use Rattle.bihash_steps.proofs.BucketPlaces.{place_inside}
use Rattle.bihash_steps.proofs.KnownLists.{lawful_here, logged_at}
use Rattle.bihash_steps.proofs.Frames.{free_none, free_own}
use Rattle.bihash_steps.proofs.OwnedWords.{beside_bucket, block_keeps, front_still, store_still, count_still, bucket_after, bucket_inside}
use Rattle.bihash_steps.proofs.PushedCalls.{push_numbers, push_whole, push_number, push_short, push-length}
use Rattle.bihash_steps.proofs.InformedViews.{answered_informed, bears_own}
use Rattle.bihash_steps.proofs.CountWord.{kept_log}
use Rattle.bihash_steps.proofs.LogEvents.{read_rule, read_enters, read_is_logged}
use Rattle.bihash_steps.proofs.bucket_steps.Relocks.{relocking, relocked_rule}
use Rattle.bihash_steps.proofs.bucket_steps.LockedWords.{held_bucket, holder_acts, one_lock}

module _ (z : Sizes) where
  -- the records that the seat has after the step
  record FitRecords (s : State (Unit {0}) View) (r : WordRule z s) (id : ℕ) (v : View) (records : List Record) (log : List Entry) : Type 0 where
    pub informed : IsInformed z r.table v.known records
    pub numbers : HasNumbers v.seen records
    pub whole : v.lone ≡ true → IsWhole records (count_of s.words)
    pub long : length records ≡ length v.records
    pub same : (n : ℕ) → HasNumber records n → HasNumber v.records n
    pub short : BearOutOfPages z (all_used z r.table.openings r.table.bucket) records
    pub logged : LogRule z r.table.openings (λ c. (r.table.bucket c).history) (set s.views id (relocking v records v.known None log))

  -- the rule stands where the word from before the lock is stored over a block in which nothing was stored
  opened_rule : (s : State (Unit {0}) View) (r : WordRule z s) (id b word : ℕ) (v : View) (records : List Record) (log : List Entry)
      → get_elem? s.views id ≡ some v → HoldsClean v b word → FitRecords s r id v records log
      → WordRule z record {
        words = set s.words (bucket_at z b) word;
        homes = s.homes;
        views = set s.views id (relocking v records v.known None log);
      }
  opened_rule s r id b word v records log at clean good =
      let l = clean.lock in
      let h : HoldsBucket z s.words id (known_at v.known b) l (r.table.bucket b)
      = subst (λ (c : ℕ). HoldsBucket z s.words id (known_at v.known c) l (r.table.bucket c)) clean.bucket
      (held_bucket z s r id v l at clean.held) in
      let x = r.table.bucket b in
      let inside : b < buckets z = subst (λ (c : ℕ). c < buckets z) clean.bucket h.inside in
      let ok = r.each_view id v at in
      let acts = holder_acts z s r id v l at clean.held in
      let i : ℕ = bucket_at z b in
      let before : i < front_words z + buckets z = let p = place_inside z b inside in omega arith in
      let stands : Stands s.words (page_at z x.extent.page) x.block
      = subst (Stands s.words (page_at z x.extent.page)) (h.clean clean.clean ∙ h.was)
      (subst (λ (e : Extent). Stands s.words (page_at z e.page) l.now) h.extent h.stands) in
      relocked_rule z s r b id v records v.known None log (set s.words i word) None x.dirty record {
        logged = good.logged;
        at = at;
        acts = acts;
        inside = inside;
        wide = length-set s.words i word;
        count = count_still z s.words i word (bucket_after z b);
        front = store_still z s.words i word (omega arith);
        beside = beside_bucket z (runs_now r.table.bucket r.table.store.store s.views) s.words b id word inside;
        block = block_keeps z s.words i word before v.holds.block ok.block;
        free = free_own id x.lock h.held;
        free' = free_none id None refl;
        stored = λ e. e;
        word = get_or-set_same s.words i word 0 (let c = bucket_inside z b inside in let wide = r.wide in omega arith)
            ∙ (clean.stood ∙ (λ t. packed (word_of (h.extent t) false (h.version t))));
        at_rest = λ _. front_still z s.words i word x.extent.page x.block before stands;
        clean = λ _. h.dirty ∙ clean.clean;
        informed = good.informed;
        numbers = good.numbers;
        whole = good.whole;
        able = let n = good.long in omega arith;
        same_numbers = good.same;
        short = good.short;
        other = λ o e. one_lock z s r id v l at clean.held o e ∙ clean.bucket;
        noted = λ e. absurd (cc e);
        holds = tt;
      }

  pub unlocks_bucket : (slots id b word : ℕ) (m : ViewOfSeat) → HoldsClean m.0 b word
      → Allows (WordRule z) slots id m (bucket_at z b) (λ _. word) (λ _. TellsEvent z without_lock m)
  unlocks_bucket slots id b word m clean s r deep at fits =
      let v = m.0 in
      let ok = r.each_view id v at in (
        without_lock v,
        keeps,
        tt,
        opened_rule s r id b word v v.records v.log at clean record {
          logged = kept_log z s r id v (without_lock v) at refl refl;
          informed = ok.informed;
          numbers = ok.numbers;
          whole = ok.lone;
          long = refl;
          same = λ n h. h;
          short = ok.short;
        },
        record {
          seat = refl;
          lawful = let acts = holder_acts z s r id v clean.lock at clean.held in
              lawful_here z s r (without_lock v) acts ok.numbers ok.informed ok.lone (logged_at z s r id v at acts);
        },
      )

  -- a refusal bears what was noted of the page store, which bounds it
  few_left : (most left : ℕ) (v : View) (b word : ℕ) (c : Call) → MayAnswer z v b word c → LeftIf z most v.notes.left → (log2 : ℕ)
      → c.reply ≡ NoPages log2 left → BearsOutOfPages z most c log2 left
  few_left most left v b word c may noted log2 e =
      let o = may.short log2 left e in
      let n = subst (LeftIf z most) o.1 noted in
      let all = o.2 in
      let few = n.1 in record {
        store = o.0;
        bears = may.store ∙ (ap (λ (reply : Reply). store_of reply v.notes.left) e ∙ o.1);
        none = o.3;
        unused = o.2;
        taken = omega arith;
      }

  pub answers_call : (slots id b word : ℕ) (c : Call) (m : ViewOfSeat) → MayAnswer z m.0 b word c
      → Allows (WordRule z) slots id m (bucket_at z b) (λ _. word) (λ _. TellsEntry z (λ v. view_after_answer v c) c m)
  answers_call slots id b word c m may s r deep at fits =
      let v = m.0 in
      let ok = r.each_view id v at in
      let l = may.clean.lock in
      let h = held_bucket z s r id v l at may.clean.held in
      let same : l.bucket ≡ c.bucket = may.clean.bucket ∙ sym may.bucket in
      let acts = holder_acts z s r id v l at may.clean.held in
      let inside : c.bucket < buckets z = subst (λ (a : ℕ). a < buckets z) same h.inside in
      let fresh : known_at v.known c.bucket ≡ (r.table.bucket c.bucket).history
      = subst (λ (a : ℕ). known_at v.known a ≡ (r.table.bucket a).history) same h.fresh in
      let stamp : c.stamp ≡ length (known_at v.known c.bucket) = may.stamp ∙ ap (λ (a : ℕ). length (known_at v.known a)) (sym may.bucket) in
      let informed : IsInformed z r.table v.known (push_call c v.records)
      = answered_informed z r.table v c (subst (λ (a : ℕ). a < buckets z) same h.inside)
      (subst (λ (a : ℕ). known_at v.known a ≡ (r.table.bucket a).history) same h.fresh)
      (subst (λ (a : ℕ). IsKeyOf z a c.key) (sym may.bucket) may.key) may.reads (bears_own c.reply c.store v.notes.left may.store)
      (may.stamp ∙ ap (λ (a : ℕ). length (known_at v.known a)) (sym may.bucket))
      (subst (λ (a : ℕ). IsAnswer z (map_now v a) (length (known_at v.known a)) c) (sym may.bucket) may.answers) ok.informed in
      let log : List Entry = r.logged.log ++ entry_of v c ∷ [] in
      let after : View = record (view_after_answer v c) { log = log } in
      let numbers = push_numbers v.seen c v.records ok.numbers in (
        after,
        keeps,
        tt,
        opened_rule s r id b word v (push_call c v.records) log at may.clean record {
          logged = read_rule z s r id v at acts c informed inside fresh may.reads stamp after refl refl;
          informed = informed;
          numbers = numbers;
          whole = λ lone. push_whole (count_of s.words) c v.records (ok.lone lone);
          long = push-length c v.records;
          same = λ n h. push_number n c v.records h;
          short = push_short z (all_used z r.table.openings r.table.bucket) c v.records
              (λ log2 left e. few_left (all_used z r.table.openings r.table.bucket) left v b word c may ok.left log2 e) ok.short;
        },
        record {
          slots = refl;
          entered = read_enters z s r id v at acts c informed inside fresh may.reads stamp (view_after_answer v c) after refl;
          lawful = lawful_here z s r after (let n = push-length c v.records in
              let some = holder_acts z s r id v l at may.clean.held in omega arith) numbers informed (λ lone. push_whole (count_of s.words) c v.records (ok.lone lone))
              (read_is_logged z s r id v at acts c informed inside fresh may.reads stamp after refl refl refl);
        },
      )
