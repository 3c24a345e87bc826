-- Steps on the caller count: a load, a load after a join, and the exchange by which a caller takes the next number.
use Rattle.std.proofs.Common.{◌≡◌, ◌≢◌, ℕ, zero, suc, ◌+◌, ◌<◌, ◌≤◌, eqb, Bool, true≢false, List, [], ◌∷◌, ◌++◌, length, set, refl, sym, ap, ◌∙◌, subst, inl, inr, arith, le_refl, length-set, length-append, get_or-set_same, get_or-set_other, eq-eqb, ne_eqb}
use mathlib.Core.Logic.{dite}
use mathlib.Core.Option.{some, some-ne-none}
use native.Mathlib.Decide.{ℕ_discrete, dec_lt}
use lib.ListN.{get_elem?}
use prog.Atomic.{either}
use Rattle.std.proofs.lemmas.Bool.{eqb-true}
use Rattle.atomic_table.specs.Table.{State, Act, keeps, Valid, stepped, carried_after, Allows}
use Rattle.bihash_words.specs.Sizes.{Sizes}
use Rattle.bihash_rule.specs.Words.{count_of, buckets}
use Rattle.bihash_rule.specs.Histories.{IsPrefix}
use Rattle.bihash_rule.specs.Callers.{IsWhole, known_writes, known_at, opening_in, IsConsistent, HasNumbers, Apart, Agrees, KnowsOwn, HaveOneLog, MatchesLog}
use Rattle.bihash_rule.specs.Buckets.{IsBucket}
use Rattle.bihash_rule.specs.PageStores.{BearOutOfPages, HasCall, most_used, writes_in}
use Rattle.bihash_rule.specs.Views.{empty_record, no_notes}
use Rattle.std.specs.Prelude.{◌==◌}
use Rattle.bihash_rule.specs.WordRule.{TableState, HaveMet, HaveMetIf, IsView, WordRule}
use Rattle.bihash_steps.specs.Steps.{ViewOfSeat, view_after_count, view_after_number, recounted, joining, TellsCount, TellsNumber, TellsAgreement}
use Rattle.bihash_rule.specs.declared.view.Known.{Known}
use Rattle.bihash_rule.specs.Buckets.{BucketState}
use Rattle.bihash_rule.specs.declared.view.Write.{Write}
use Rattle.bihash_rule.specs.declared.view.Call.{Call}
use Rattle.bihash_rule.specs.declared.view.Record.{Record}
use Rattle.bihash_rule.specs.declared.view.Meeting.{Meeting}
use Rattle.bihash_rule.specs.declared.view.View.{View}
use Rattle.bihash_steps.proofs.KnownLists.{known_bearers, lawful_here, lawful_set, logged_at, none_past}
use Rattle.bihash_steps.proofs.Lists.{at_end, there}
use Rattle.bihash_steps.proofs.WholeHistories.{prefix_whole}
use Rattle.bihash_steps.proofs.Prefixes.{one_begins}
use Rattle.bihash_steps.proofs.Numbers.{few_numbers, whole_by_count}
use Rattle.bihash_steps.proofs.LawfulCallers.{more_informed, more_numbers, parts_apart, wider}
use Rattle.bihash_steps.proofs.LogSteps.{numbered_logged}
use Rattle.bihash_steps.proofs.NotedViews.{counted_view, recounted_view, unnoted_view}
use Rattle.bihash_steps.proofs.CountWord.{SameButCount, kept_log, still_lock, still_pool, still_block, one_moved, stays, some_words, others_apart, not_lone}

module _ (z : Sizes) where
  -- ---- A load of the caller count

  counted : (words : List ℕ) (count : ℕ) (t : TableState) (j : ℕ) (v : View) → IsView z words count t j v
      → IsView z words count t j (view_after_count v count)
  counted words count t j v ok = let numbers = wider v.seen count v.records ok.seen ok.numbers in
      counted_view z words count t j v count (count == length v.records) numbers (le_refl count)
      (λ e. whole_by_count count v.records numbers (eqb-true count (length v.records) e)) ok

  -- a whole view knows each history whole
  known_whole : (s : State (Unit {0}) View) (r : WordRule z s) (id : ℕ) (v : View) → IsView z s.words (count_of s.words) r.table id v
      → IsWhole v.records (count_of s.words) → (b : ℕ) → b < buckets z → known_at v.known b ≡ (r.table.bucket b).history
  known_whole s r id v ok whole b inside = prefix_whole (known_at v.known b) (r.table.bucket b).history (ok.informed.begins b inside)
      (long (length (r.table.bucket b).history) refl)
    where
      long : (n : ℕ) → length (r.table.bucket b).history ≡ n → length (r.table.bucket b).history ≤ length (known_at v.known b)
      long zero e = omega arith
      long (suc n) e =
          let last = there (r.table.bucket b).history n (omega arith) in
          let by = (r.each_bucket b inside).bearers n last.0 last.1 in
          let mine = whole last.0.by by.0 by.1 in
          let reached : n < length (known_at v.known b) = ok.informed.own mine.0 b n mine.1 last.0 mine.2 inside last.1 (sym mine.3) in omega arith

  pub known_sum : (known : Known) (x : ℕ → BucketState) (n : ℕ) → ((b : ℕ) → b < n → known_at known b ≡ (x b).history) → known_writes known n ≡ writes_in x n
  known_sum known x zero each = refl
  known_sum known x (suc n) each =
      let before = known_sum known x n (λ b l. each b (omega arith)) in let last = ap length (each n (omega arith)) in omega arith

  pub loads_count : (slots id : ℕ) (m : ViewOfSeat) → 1 ≤ length m.0.records → Allows (WordRule z) slots id m 0 (λ n. n) (TellsCount z m)
  loads_count slots id m acts s r deep at fits =
      let v = m.0 in
      let count : ℕ = count_of s.words in
      let ok = r.each_view id v at in
      let good = counted s.words count r.table id v ok in
      let lawful = lawful_here z s r (view_after_count v count) acts good.numbers good.informed good.lone (logged_at z s r id v at acts) in (
        view_after_count v count,
        keeps,
        tt,
        stays z s r id v (view_after_count v count) at refl good (others_apart z s r id v at)
            (kept_log z s r id v (view_after_count v count) at refl refl),
        record {
          seat = refl;
          rises = ok.seen;
          few = r.few_callers;
          lawful = lawful;
          bearers = λ b n w inside e. known_bearers z s r b inside v.known v.records ok.informed n w e;
          whole = λ lone. record {
            whole = good.lone lone;
            made = lawful.made lone;
            short = subst (λ (n : ℕ). BearOutOfPages z n v.records)
                (λ i. most_used z (sym (ok.informed.opening acts) i).used
                (sym (known_sum v.known r.table.bucket (buckets z) (known_whole s r id v ok (good.lone lone))) i)) ok.short;
          };
        },
      )

  -- ---- A load after a join

  consistent : (t : TableState) (y : Meeting) → HaveMet z t y → IsConsistent y.first y.second
  consistent t y met = (
    met.openings,
    λ b. dite (dec_lt b (buckets z)) (λ l. let h = met.begin b l in
        one_begins (known_at y.first b) (known_at y.second b) (t.bucket b).history h.0 h.1)
        (λ out. inl (subst (λ (xs : List Write). IsPrefix xs (known_at y.second b))
        (sym (none_past y.first.writes b (let e = met.wide.0 in omega arith)))
        record { rest = known_at y.second b; whole = refl })),
  )

  pub agrees_known : (slots id : ℕ) (m : ViewOfSeat) → 1 ≤ length m.0.records
      → Allows (WordRule z) slots id m 0 (λ n. n) (λ _. TellsAgreement z m)
  agrees_known slots id m acts s r deep at fits =
      let v = m.0 in
      let ok = r.each_view id v at in (
        record v { notes = no_notes },
        keeps,
        tt,
        stays z s r id v (record v { notes = no_notes }) at refl (unnoted_view z s.words (count_of s.words) r.table id v ok)
            (others_apart z s r id v at) (kept_log z s r id v (record v { notes = no_notes }) at refl refl),
        record {
          seat = refl;
          few = let l = few_numbers v.seen v.records ok.numbers in let a = ok.seen in let b = r.few_callers in omega arith;
          lawful = lawful_here z s r (record v { notes = no_notes }) acts ok.numbers ok.informed ok.lone (logged_at z s r id v at acts);
          agree = λ y e. let met : HaveMet z r.table y = subst (HaveMetIf z r.table) e ok.meeting in
              (consistent r.table y met, met.own, met.other_own, met.logs, met.matches, met.other_matches);
        },
      )

  -- two callers that were joined agree, by what the load after the join tells
  joined_agree : (v w : View) (m m' : ViewOfSeat) → m.0 ≡ joining v w → TellsAgreement z m m' → Agrees v w
  joined_agree v w m m' is told = record {
    apart = parts_apart m'.0.seen v.records w.records (subst (HasNumbers m'.0.seen) records told.lawful.numbers);
    known = met.0;
    own = met.1;
    other_own = met.2;
    logs = met.3;
    matches = met.4;
    other_matches = met.5;
  }
    where
      met : IsConsistent v.known w.known × KnowsOwn v.records v.known w.known × KnowsOwn w.records w.known v.known
          × HaveOneLog v.records v.log w.records w.log × MatchesLog v.known w.log × MatchesLog w.known v.log
      met = told.agree (record { first = v.known; second = w.known; first_log = v.log; second_log = w.log; first_records = v.records; second_records = w.records })
          (ap (λ (u : View). u.notes.meeting) is)

      records : m'.0.records ≡ v.records ++ w.records
      records = ap (λ (k : ViewOfSeat). k.0.records) told.seat ∙ ap (λ (u : View). u.records) is

  pub met_agree : (v w v' w' : View) (slots : List (ℕ × Unit {0})) (m m' : ViewOfSeat) → m ≡ (joining v' w', slots) → v' ≡ v → w' ≡ w
      → TellsAgreement z m m' → Agrees v w
  met_agree v w v' w' slots m m' is e f told = joined_agree v w m m' (ap (λ (k : ViewOfSeat). k.0) is ∙ (λ i. joining (e i) (f i))) told

  -- ---- The exchange of the caller count with the next

  numbered_view : (words words' : List ℕ) (count : ℕ) (t : TableState) (j : ℕ) (v : View) → SameButCount words words' → 1 ≤ length v.records
      → ((b : ℕ) → b < buckets z → IsBucket z words count b (opening_in t.openings b) (t.bucket b)) → IsView z words count t j v
      → IsView z words' (count + 1) t j (view_after_number v count)
  numbered_view words words' count t j v same has_one each ok = record {
    informed = more_informed z t v.known v.records count has_one (λ b n w l e. ((each b l).bearers n w e).1) ok.informed;
    numbers = more_numbers v.seen count v.records ok.seen ok.numbers;
    seen = le_refl (count + 1);
    lone = λ e. absurd (true≢false (sym e));
    able = inl (let n = length-append v.records (empty_record (count + 1) ∷ []) in omega arith);
    bucket = still_lock z words words' same t.bucket j v.known v.holds.bucket ok.bucket;
    only = ok.only;
    store = still_pool z words words' same t.store j v.holds.store ok.store;
    only_store = ok.only_store;
    block = still_block z words words' same v.holds.block ok.block;
    open_bucket = ok.open_bucket;
    still = λ e. absurd (true≢false (sym e));
    row = λ e. absurd (true≢false (sym e));
    short = λ c h. ok.short c (old_call c h);
    left = ok.left;
    meeting = ok.meeting;
  }
    where
      old_call : (c : Call) → HasCall (v.records ++ empty_record (count + 1) ∷ []) c → HasCall v.records c
      old_call c h = elim (at_end v.records (empty_record (count + 1)) h.2 h.0 h.3) [
        | inl o ↦ (h.0, h.1, h.2, o, h.4)
        | inr o ↦ absurd (some-ne-none c (sym (ap (λ (p : Record). get_elem? p.calls h.1) o.1 ∙ h.4)))
      ]

  -- the next number is nobody's
  new_apart : (count seen : ℕ) (rs qs : List Record) → seen ≤ count → HasNumbers seen qs → Apart rs qs
      → Apart (rs ++ empty_record (count + 1) ∷ []) qs
  new_apart count seen rs qs l has apart i k p q e f = elim (at_end rs (empty_record (count + 1)) p i e) [
    | inl o ↦ apart i k p q o f
    | inr o ↦ λ h. let a = (has.range k q f).1 in let b : count + 1 ≡ p.number = ap (λ (y : Record). y.number) o.1 in omega arith
  ]

  -- the rule stands where the caller takes the next number
  taken_rule : (s : State (Unit {0}) View) (r : WordRule z s) (id : ℕ) (v : View) → get_elem? s.views id ≡ some v → 1 ≤ length v.records
      → count_of s.words < z.callers
      → WordRule z record { words = set s.words 0 (count_of s.words + 1); homes = s.homes; views = set s.views id (view_after_number v (count_of s.words)) }
  taken_rule s r id v at has_one few = one_moved z s r words id v (view_after_number v count) at same (length-set s.words 0 (count + 1))
      (let e = now in omega arith) (let e = now in omega arith) refl
      (subst (λ (c : ℕ). IsView z words c r.table id (view_after_number v count)) (sym now) good)
      (λ j u ne e. ((λ lone. absurd (not_lone z s r id j v u at e ne has_one lone)), apart j u ne e))
      (numbered_logged z r.table.openings (λ b. (r.table.bucket b).history) s.views id v (view_after_number v count) count at r.logged refl refl
      (λ j u e. let ok = r.each_view j u e in let l = ok.seen in λ n h. let o = ok.numbers.range h.0 h.1 h.2 in let m = o.1 in let f = h.3 in omega arith))
    where
      count : ℕ
      count = count_of s.words

      words : List ℕ
      words = set s.words 0 (count + 1)

      now : count_of words ≡ count + 1
      now = get_or-set_same s.words 0 (count + 1) 0 (let a = some_words z in let b = r.wide in omega arith)

      same : SameButCount s.words words
      same i l = get_or-set_other s.words 0 i (count + 1) 0 (λ h. omega arith)

      good : IsView z words (count + 1) r.table id (view_after_number v count)
      good = numbered_view s.words words count r.table id v same has_one r.each_bucket (r.each_view id v at)

      apart : (j : ℕ) (u : View) → j ≢ id → get_elem? s.views j ≡ some u → Apart (view_after_number v count).records u.records
      apart j u ne e = let other = r.each_view j u e in
          new_apart count u.seen v.records u.records other.seen other.numbers (others_apart z s r id v at j u ne e)

  pub takes_number : (slots id n : ℕ) (m : ViewOfSeat) → n < z.callers → 1 ≤ length m.0.records
      → Allows (WordRule z) slots id m 0 (λ k. either (eqb k n) (n + 1) k) (TellsNumber z n m)
  takes_number slots id n m few has_one s r deep at fits =
      dite (ℕ_discrete count n) (λ e. taken e) (λ ne. lost ne)
    where
      v : View
      v = m.0

      count : ℕ
      count = count_of s.words

      ok : IsView z s.words count r.table id v
      ok = r.each_view id v at

      fewer : length v.records ≤ count
      fewer = let l = few_numbers v.seen v.records ok.numbers in let a = ok.seen in omega arith

      after : ℕ → View → State (Unit {0}) View
      after word w = record { words = set s.words 0 word; homes = s.homes; views = set s.views id w }

      Outcome : Type 0
      Outcome = (w : View) × (a : Act (Unit {0})) × Valid s.homes m.1 a
          × WordRule z (stepped s 0 (either (eqb count n) (n + 1) count) id m.1 w a) × TellsNumber z n m count (w, carried_after m.1 a)

      taken : count ≡ n → Outcome
      taken e = (
        view_after_number v count,
        keeps,
        tt,
        subst (λ (b : Bool). WordRule z (after (either b (n + 1) count) (view_after_number v count))) (sym (eq-eqb count n e))
            (subst (λ (k : ℕ). WordRule z (after (k + 1) (view_after_number v count))) e (taken_rule s r id v at has_one (omega arith))),
        record {
          slots = refl;
          taken = λ _. refl;
          not = λ ne. absurd (ne e);
          rises = ok.seen;
          few = fewer;
          lawful = lawful_set z (set s.words 0 (count + 1)) s id v (view_after_number v count) at
              (let n = length-append v.records (empty_record (count + 1) ∷ []) in omega arith) (taken_rule s r id v at has_one (omega arith));
        },
      )

      lost : count ≢ n → Outcome
      lost ne = let good = recounted_view z s.words count r.table id v count (wider v.seen count v.records ok.seen ok.numbers) (le_refl count) ok in (
        recounted v count,
        keeps,
        tt,
        subst (λ (b : Bool). WordRule z (after (either b (n + 1) count) (recounted v count))) (sym (ne_eqb count n ne))
            (stays z s r id v (recounted v count) at refl good (others_apart z s r id v at)
            (kept_log z s r id v (recounted v count) at refl refl)),
        record {
          slots = refl;
          taken = λ e. absurd (ne e);
          not = λ _. refl;
          rises = ok.seen;
          few = fewer;
          lawful = lawful_here z s r (recounted v count) has_one good.numbers good.informed good.lone (logged_at z s r id v at has_one);
        },
      )
