-- A seat's numbers are cut in two, and two seats' numbers are put together.
use Rattle.std.proofs.Common.{◌≡◌, ◌≢◌, ℕ, ◌+◌, ◌<◌, ◌≤◌, false, true≢false, List, [], ◌∷◌, ◌++◌, length, set, take, drop, refl, sym, ap, ◌∙◌, subst, inl, inr, arith, le_refl, length-set, length-append, Some}
use mathlib.Core.Logic.{dite}
use mathlib.Core.Option.{some, some-ne-none}
use native.Mathlib.Decide.{dec_lt}
use lib.ListN.{get_elem?, get_or-replicate}
use Rattle.std.proofs.lemmas.List.{length-drop, length-replicate, length-take}
use Rattle.atomic_table.specs.Table.{State, Splits, Joins}
use Rattle.atomic_table.proofs.Lists.{at_set}
use Rattle.bihash_words.specs.Sizes.{Sizes}
use Rattle.bihash_rule.specs.Words.{count_of, buckets}
use Rattle.bihash_rule.specs.Callers.{known_at, HasNumbers, IsLawful, IsLawfulCaller, Apart, Agrees, HaveOneLog}
use Rattle.bihash_rule.specs.Buckets.{HoldsBucketIf}
use Rattle.bihash_rule.specs.PageStores.{HoldsStoreIf, HoldsBlockIf, run_in}
use Rattle.bihash_rule.specs.Views.{nothing_held, no_notes}
use Rattle.bihash_rule.specs.WordRule.{TableState, IsInformed, IsView, WordRule}
use Rattle.bihash_steps.specs.Steps.{first_numbers, other_numbers, joining, view_after_spending}
use Rattle.bihash_rule.specs.declared.view.Write.{Write}
use Rattle.bihash_rule.specs.declared.view.Record.{Record}
use Rattle.bihash_rule.specs.declared.view.Known.{Known}
use Rattle.bihash_rule.specs.declared.view.Holdings.{Holdings}
use Rattle.bihash_rule.specs.declared.view.View.{View}
use Rattle.bihash_steps.proofs.Lists.{at_end, at_either, at_take, at_drop, no_row, within}
use Rattle.bihash_steps.proofs.Prefixes.{prefix_refl}
use Rattle.bihash_steps.proofs.LawfulCallers.{IsPart, first_part, other_part, part_informed, part_lawful, part_numbers, both_informed, both_numbers}
use Rattle.bihash_rule.specs.Logs.{IsLogged}
use Rattle.bihash_steps.proofs.LogLemmas.{begins_refl}
use Rattle.bihash_steps.proofs.LogSteps.{cut_logged, joined_logged, log_begins, one_log}
use Rattle.bihash_steps.proofs.KnownLists.{BeginsEach, knows_own, matches_log}
use Rattle.bihash_steps.proofs.CountWord.{moved, AllApart, apart_back, apart_set, block_set, block_more, as_view}

module _ (z : Sizes) where
  -- ---- One seat becomes two

  cut_apart : (n seen : ℕ) (rs : List Record) → HasNumbers seen rs → Apart (take n rs) (drop n rs)
  cut_apart n seen rs has i k r q e f = let a = at_take n rs i r e in let less = a.0 in
      has.once i (n + k) r q (λ h. omega arith) a.1 (at_drop n rs k q f)

  parts_lawful : (n : ℕ) (v : View) → 1 ≤ n → n < length v.records → IsLawfulCaller z v → IsLawfulCaller z (first_numbers n v) × IsLawfulCaller z (other_numbers n v)
      × Agrees (first_numbers n v) (other_numbers n v)
  parts_lawful n v one more law = (
    record { acts = acts_first; numbers = numbers first; lawful = lawful first; lists = law.lists; made = λ h. absurd (true≢false (sym h)); logged = logged first; matches = law.matches },
    record { acts = acts_other; numbers = numbers other; lawful = lawful other; lists = law.lists; made = λ h. absurd (true≢false (sym h)); logged = logged other; matches = law.matches },
    record {
      apart = cut_apart n v.seen v.records law.numbers;
      known = (refl, λ b. inl (prefix_refl (known_at v.known b)));
      own = λ b k w at by. at;
      other_own = λ b k w at by. at;
      logs = record { one = inl (begins_refl v.log); own = λ k e f by. within v.log k e f; other_own = λ k e f by. within v.log k e f };
      matches = law.matches;
      other_matches = law.matches;
    },
  )
    where
      first : IsPart (take n v.records) v.records
      first = first_part n v.records

      other : IsPart (drop n v.records) v.records
      other = other_part n v.records

      numbers : {part : List Record} → IsPart part v.records → HasNumbers v.seen part
      numbers {part} p = part_numbers v.seen part v.records p law.numbers

      lawful : {part : List Record} → IsPart part v.records → IsLawful z v.known part
      lawful {part} p = part_lawful z v.known part v.records p law.lawful

      logged : {part : List Record} → IsPart part v.records → IsLogged z v.known.openings v.log part
      logged {part} p = record { legal = law.logged.legal; calls = λ i r e. law.logged.calls (p.from i) r (p.at i r e) }

      acts_first : 1 ≤ length (take n v.records)
      acts_first = simp length-take (omega arith)

      acts_other : 1 ≤ length (drop n v.records)
      acts_other = simp length-drop (omega arith)

  -- both parts of a lawful caller are lawful, and agree
  pub cut_lawful : (n : ℕ) (v left right : View) → left ≡ first_numbers n v → right ≡ other_numbers n v → 1 ≤ n → n < length v.records
      → IsLawfulCaller z v → IsLawfulCaller z left × IsLawfulCaller z right × Agrees left right
  cut_lawful n v left right e f one more law =
      subst (λ (y : View × View). IsLawfulCaller z y.0 × IsLawfulCaller z y.1 × Agrees y.0 y.1) (λ i. (sym e i, sym f i))
      (parts_lawful n v one more law)

  -- a part w of the numbers of v, at the seat j', which has no lock and holds nothing
  part_view : (words : List ℕ) (count j j' : ℕ) (t : TableState) (v w : View) → IsPart w.records v.records → w.known ≡ v.known
      → w.seen ≡ v.seen → w.lone ≡ false → w.holds ≡ nothing_held
      → ((b : ℕ) → (t.bucket b).lock ≢ Some j') → t.store.lock ≢ Some j' → IsView z words count t j v
      → IsView z words count t j' (record w { notes = no_notes })
  part_view words count j j' t v w part known seen lone holds unlocked closed ok = record {
    informed = subst (λ (k : Known). IsInformed z t k w.records) (sym known)
        (part_informed z t v.known w.records v.records part ok.informed);
    numbers = subst (λ (n : ℕ). HasNumbers n w.records) (sym seen) (part_numbers v.seen w.records v.records part ok.numbers);
    seen = subst (λ (n : ℕ). n ≤ count) (sym seen) ok.seen;
    lone = λ e. absurd (true≢false (sym e ∙ lone));
    able = inr holds;
    bucket = subst (λ (h : Holdings). HoldsBucketIf z words t.bucket j' w.known h.bucket) (sym holds) tt;
    only = λ b l e. absurd (unlocked b e);
    store = subst (λ (h : Holdings). HoldsStoreIf z words t.store j' h.store) (sym holds) tt;
    only_store = λ e. absurd (closed e);
    block = subst (λ (h : Holdings). HoldsBlockIf z words h.block) (sym holds) tt;
    open_bucket = tt;
    still = λ _. tt;
    row = λ _. no_row words;
    short = λ c h. ok.short c (part.from h.0, h.1, h.2, part.at h.0 h.2 h.3, h.4);
    left = tt;
    meeting = tt;
  }

  -- a seat that holds nothing has no lock
  no_lock : (s : State (Unit {0}) View) (r : WordRule z s) (id : ℕ) (v : View) → get_elem? s.views id ≡ some v → v.holds ≡ nothing_held
      → (b : ℕ) → (r.table.bucket b).lock ≢ Some id
  no_lock s r id v at free b e = dite (dec_lt b (buckets z))
      (λ l. let o = (r.each_view id v at).only b l e in let none = ap (λ (h : Holdings). h.bucket) free in absurd (cc (o.1, none)))
      (λ out. let none = (r.outside b (omega arith)).0 in absurd (cc (e, none)))

  no_store : (s : State (Unit {0}) View) (r : WordRule z s) (id : ℕ) (v : View) → get_elem? s.views id ≡ some v → v.holds ≡ nothing_held
      → r.table.store.lock ≢ Some id
  no_store s r id v at free e = let o = (r.each_view id v at).only_store e in let none = ap (λ (h : Holdings). h.store) free in
      absurd (cc (o.1, none))

  pub splits_numbers : (id n : ℕ) (v : View) → v.holds ≡ nothing_held → Splits (WordRule z) id v (first_numbers n v) (other_numbers n v)
  splits_numbers id n v free s r at =
      let left = first_numbers n v in
      let right = other_numbers n v in
      let views = set s.views id left in
      let count : ℕ = count_of s.words in
      let ok = r.each_view id v at in
      let size : length views ≡ length s.views = length-set s.views id left in
      let first = first_part n v.records in
      let other = other_part n v.records in
      let left_ok : IsView z s.words count r.table id left
      = part_view s.words count id id r.table v left first refl refl refl free (no_lock s r id v at free) (no_store s r id v at free) ok in
      let right_ok : IsView z s.words count r.table (length s.views) right
      = part_view s.words count id (length s.views) r.table v right other refl refl refl refl
      (λ b e. let h = r.holders b (length s.views) e in omega arith) (λ e. let h = r.keeper (length s.views) e in omega arith) ok in
      let both : Apart left.records right.records = cut_apart n v.seen v.records ok.numbers in
      let others : (j : ℕ) (u : View) → j ≢ id → get_elem? s.views j ≡ some u
      → Apart v.records u.records = λ j u ne e. r.apart id j v u (λ h. ne (sym h)) at e in
      let with_left : AllApart views
      = apart_set s.views id left (λ i j a b ne ni nj e f. r.apart i j a b ne e f)
      (λ j u ne e i k p q f g. others j u ne e i k p q (first.at i p f) g) in
      let with_right : (j : ℕ) (u : View) → get_elem? views j ≡ some u
      → Apart right.records u.records = λ j u e. elim (at_set s.views id j left u e) [
        | inl p ↦ subst (λ (y : View). Apart right.records y.records) p.1 (apart_back left.records right.records both)
        | inr p ↦ λ i k a b f g. others j u p.0 p.1 (n + i) k a b (other.at i a f) g
      ] in
      moved z s r s.words (views ++ right ∷ []) record {
        same = λ i l. refl;
        wide = refl;
        more = le_refl count;
        few = r.few_callers;
        longer = let m = length-append views (right ∷ []) in omega arith;
        each = λ j u e. elim (at_end views right u j e) [
          | inl o ↦ elim (at_set s.views id j left u o) [
            | inl p ↦ as_view z s.words count r.table id j left u p.0 p.1 left_ok
            | inr p ↦
                r.each_view j u p.1
          ]
          | inr o ↦ as_view z s.words count r.table (length s.views) j right u (o.0 ∙ size) o.1 right_ok
        ];
        apart = λ i j a b ne e f. elim (at_end views right a i e) [
          | inl o ↦ elim (at_end views right b j f) [
            | inl p ↦ with_left i j a b ne o p
            | inr p ↦ subst (λ (y : View). Apart a.records y.records) p.1 (apart_back right.records a.records (with_right i a o))
          ]
          | inr o ↦ elim (at_end views right b j f) [
            | inl p ↦ subst (λ (y : View). Apart y.records b.records) o.1 (with_right j b p)
            | inr p ↦ absurd (ne (o.0 ∙ sym p.0))
          ]
        ];
        logged = cut_logged z r.table.openings (λ b. (r.table.bucket b).history) s.views id n v left right at r.logged refl refl refl refl;
        blocks = λ j. block_more views right j refl ∙ block_set s.views id v left j at refl;
      }

  -- ---- Two seats become one

  joined_view : (words : List ℕ) (count j k : ℕ) (t : TableState) (v w : View) → 1 ≤ length v.records → 1 ≤ length w.records
      → v.holds ≡ nothing_held → Apart v.records w.records
      → HaveOneLog v.records v.log w.records w.log → BeginsEach z t v.log → BeginsEach z t w.log
      → IsView z words count t j v → IsView z words count t k w → IsView z words count t j (joining v w)
  joined_view words count j k t v w has_one has_other free apart logs begins begins' ok ok' = record {
    informed = both_informed z t v.known w.known v.records w.records has_one ok.informed ok'.informed;
    numbers = both_numbers v.seen w.seen v.records w.records apart ok.numbers ok'.numbers;
    seen = let a = ok.seen in let b = ok'.seen in omega arith;
    lone = λ e. absurd (true≢false (sym e));
    able = inr free;
    bucket = subst (λ (h : Holdings). HoldsBucketIf z words t.bucket j (joining v w).known h.bucket) (sym free) tt;
    only = ok.only;
    store = ok.store;
    only_store = ok.only_store;
    block = ok.block;
    open_bucket = tt;
    still = λ _. tt;
    row = λ _. no_row words;
    short = λ c h. elim (at_either v.records w.records h.0 h.2 h.3) [
      | inl o ↦ ok.short c (h.0, h.1, h.2, o, h.4)
      | inr o ↦
          ok'.short c (o.0, h.1, h.2, o.2, h.4)
    ];
    left = tt;
    meeting = record {
      openings = ok.informed.opening has_one ∙ sym (ok'.informed.opening has_other);
      wide = (ok.informed.wide, ok'.informed.wide);
      begin = λ b l. (ok.informed.begins b l, ok'.informed.begins b l);
      own = knows_own z t v.known w.known v.records w.records ok.informed ok'.informed;
      other_own = knows_own z t w.known v.known w.records v.records ok'.informed ok.informed;
      logs = logs;
      matches = matches_log z t v.known v.records w.log ok.informed begins';
      other_matches = matches_log z t w.known w.records v.log ok'.informed begins;
    };
  }

  spent_view : (words : List ℕ) (count j : ℕ) (t : TableState) → ((b : ℕ) → (t.bucket b).lock ≢ Some j) → t.store.lock ≢ Some j
      → IsView z words count t j (view_after_spending z)
  spent_view words count j t unlocked closed = record {
    informed = record {
      wide = length-replicate (buckets z) [];
      begins = λ b l. record {
        rest = (t.bucket b).history;
        whole = sym (ap (λ (h : List Write). h ++ (t.bucket b).history) (get_or-replicate (buckets z) b [] [] l));
      };
      opening = λ h. absurd (omega arith);
      lawful = record {
        legal = λ i k r c e f. absurd (some-ne-none r (sym e));
        rises = λ i r e. absurd (some-ne-none r (sym e));
        own = λ i b n r w e. absurd (some-ne-none r (sym e));
      };
      own = λ i b n r w e. absurd (some-ne-none r (sym e));
    };
    numbers = record { range = λ i r e. absurd (some-ne-none r (sym e)); once = λ i k r q ne e. absurd (some-ne-none r (sym e)) };
    seen = omega arith;
    lone = λ e. absurd (true≢false (sym e));
    able = inr refl;
    bucket = tt;
    only = λ b l e. absurd (unlocked b e);
    store = tt;
    only_store = λ e. absurd (closed e);
    block = tt;
    open_bucket = tt;
    still = λ _. tt;
    row = λ _. no_row words;
    short = λ c h. absurd (some-ne-none h.2 (sym h.3));
    left = tt;
    meeting = tt;
  }

  pub joins_numbers : (id other : ℕ) (v w : View) → 1 ≤ length v.records → 1 ≤ length w.records → v.holds ≡ nothing_held
      → w.holds ≡ nothing_held
      → Joins (WordRule z) id v other w (joining v w) (view_after_spending z)
  joins_numbers id other v w has_one has_other free free' s r at ne at' =
      let both = joining v w in
      let count : ℕ = count_of s.words in
      let views = set s.views id both in
      let old : get_elem? s.views other ≡ some w = elim (at_set s.views id other both w at') [ inl p ↦ absurd (ne p.0) | inr p ↦ p.1 ] in
      let apart = r.apart id other v w (λ h. ne (sym h)) at old in
      let good = joined_view s.words count id other r.table v w has_one has_other free apart
      (one_log r.logged.log v.log w.log v.records w.records (r.logged.each id v at) (r.logged.each other w old))
      (log_begins z r.table.openings (λ b. (r.table.bucket b).history) s.views id v r.logged at)
      (log_begins z r.table.openings (λ b. (r.table.bucket b).history) s.views other w r.logged old) (r.each_view id v at)
      (r.each_view other w old) in
      let left = spent_view s.words count other r.table (no_lock s r other w old free') (no_store s r other w old free') in
      let others : (j : ℕ) (u : View) → j ≢ id → j ≢ other → get_elem? s.views j ≡ some u → Apart both.records u.records
      = λ j u m n e i k p q f g. elim (at_either v.records w.records i p f) [
        | inl o ↦ r.apart id j v u (λ h. m (sym h)) at e i k p q o g
        | inr o ↦ r.apart other j w u (λ h. n (sym h)) old e o.0 k p q o.2 g
      ] in
      moved z s r s.words (set views other (view_after_spending z)) record {
        same = λ i l. refl;
        wide = refl;
        more = le_refl count;
        few = r.few_callers;
        longer = let m = length-set views other (view_after_spending z) in let n = length-set s.views id both in omega arith;
        each = λ j u e. elim (at_set views other j (view_after_spending z) u e) [
          | inl p ↦ as_view z s.words count r.table other j (view_after_spending z) u p.0 p.1 left
          | inr p ↦ elim (at_set s.views id j both u p.1) [
            | inl q ↦ as_view z s.words count r.table id j both u q.0 q.1 good
            | inr q ↦
                r.each_view j u q.1
          ]
        ];
        apart = apart_set views other (view_after_spending z) (λ i j a b d ni nj e f. elim (at_set s.views id i both a e) [
          | inl p ↦ elim (at_set s.views id j both b f) [
            | inl q ↦ absurd (d (p.0 ∙ sym q.0))
            | inr q ↦ subst (λ (y : View). Apart y.records b.records) p.1 (others j b q.0 nj q.1)
          ]
          | inr p ↦ elim (at_set s.views id j both b f) [
            | inl q ↦ subst (λ (y : View). Apart a.records y.records) q.1 (apart_back both.records a.records (others i a p.0 ni p.1))
            | inr q ↦ r.apart i j a b d p.1 q.1
          ]
        ]) (λ j u n e i k p q f. absurd (some-ne-none p (sym f)));
        logged = joined_logged z r.table.openings (λ b. (r.table.bucket b).history) s.views id other v w both (view_after_spending z) at old
            (λ h. ne (sym h)) r.logged refl refl refl refl;
        blocks = λ j. block_set views other w (view_after_spending z) j at' (ap (λ (h : Holdings). run_in h.block) (sym free'))
            ∙ block_set s.views id v both j at refl;
      }
