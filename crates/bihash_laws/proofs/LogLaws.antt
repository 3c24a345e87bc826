-- Any step under the rule only appends to the log, and the call that it answers is the next entry.
use Rattle.std.proofs.Common.{◌≡◌, ◌≢◌, ℕ, ◌+◌, ◌^◌, ◌<◌, ◌≤◌, false, List, [], ◌∷◌, ◌++◌, length, refl, sym, ap, ◌∙◌, subst, inl, inr, arith, append-nil, append_assoc}
use mathlib.Core.Logic.{dite}
use mathlib.Core.Option.{some, some-injective}
use native.Mathlib.Decide.{ℕ_discrete}
use lib.ListN.{get_elem?}
use Rattle.std.proofs.lemmas.List.{append_cancel_left}
use Rattle.std.specs.Prelude.{slice_index}
use Rattle.atomic_table.specs.Table.{Allows, stepped}
use Rattle.atomic_table.proofs.Lists.{at_last, at_longer, set_here, set_else}
use Rattle.bihash_words.specs.Sizes.{Sizes}
use Rattle.bihash_rule.specs.Words.{count_of}
use Rattle.bihash_rule.specs.Histories.{is_changed}
use Rattle.bihash_rule.specs.Callers.{HasNumber, IsWhole}
use Rattle.bihash_rule.specs.declared.view.Openings.{Openings}
use Rattle.bihash_rule.specs.Logs.{calls_by, writes_on, Begins, Follows, FollowEach}
use Rattle.bihash_rule.specs.LogRule.{IsHeld, LogRule}
use Rattle.bihash_rule.specs.WordRule.{WordRule}
use Rattle.bihash_steps.specs.Steps.{ViewOfSeat}
use Rattle.bihash_steps.specs.BucketSteps.{acting, entry_of, push_call}
use Rattle.bihash_laws.specs.LogLaws.{Recalls, RowState, log_of, Continues, IsAnswerStep, IsEntered}
use Rattle.bihash_rule.specs.declared.view.Write.{Write}
use Rattle.bihash_rule.specs.declared.view.Call.{Call}
use Rattle.bihash_rule.specs.declared.view.Entry.{Entry}
use Rattle.bihash_rule.specs.declared.view.Record.{Record}
use Rattle.bihash_rule.specs.declared.view.View.{View}
use Rattle.bihash_steps.proofs.Lists.{at_after, there, within}
use Rattle.bihash_steps.proofs.PushedCalls.{push_at, acting_is, renumbers_push}
use Rattle.bihash_steps.proofs.LogLemmas.{calls_by-append, writes_on-append, some_by, one_by, read_writes, begin_at, begin_below, begins_refl, begins_by_places}

-- ---- The log only grows

module _ (z : Sizes) (openings openings' : Openings) (history history' : ℕ → List Write) (views views' : List View)
    (r : LogRule z openings history views) (r' : LogRule z openings' history' views') where
  pub log_grows : Continues views views' → Begins r.log r'.log
  log_grows goes = begins_by_places r.log r'.log (λ k e f.
      let h = r.made k e f in
      let ok = r.each h.0 h.1 h.2 in
      let has = h.3 in
      let reached : k < length h.1.log = ok.own has.0 k has.1 e has.2 f (sym has.3) in
      let known = begin_below h.1.log r.log k e ok.begins reached f in
      let o = goes h.0 e.by h.1 h.2 has in
      let ok' = r'.each o.0 o.1 o.2 in
      begin_at o.1.log r'.log k e ok'.begins (begin_at h.1.log o.1.log k e o.4 known))

-- ---- The last entry

-- entries that all bear one number, whose calls are one call
one_entry : (n : ℕ) (c : Call) (es : List Entry) → ((k : ℕ) (e : Entry) → get_elem? es k ≡ some e → e.by ≡ n) → calls_by n es ≡ c ∷ []
    → es ≡ record { by = n; call = c } ∷ []
one_entry n c [] all is = absurd (cc is)
one_entry n c (e ∷ []) all is =
    let one : e.call ∷ [] ≡ c ∷ [] = sym (one_by n e (all 0 e refl)) ∙ is in
    let call : e.call ≡ c = cc in
    let by : e.by ≡ n = all 0 e refl in
    λ i. record { by = by i; call = call i } ∷ []
one_entry n c (e ∷ (d ∷ es)) all is =
    let parts : calls_by n (e ∷ []) ++ calls_by n (d ∷ es) ≡ c ∷ [] = sym (calls_by-append n (e ∷ []) (d ∷ es)) ∙ is in
    let one : e.call ∷ calls_by n (d ∷ es) ≡ c ∷ []
    = ap (λ (l : List Call). l ++ calls_by n (d ∷ es)) (sym (one_by n e (all 0 e refl))) ∙ parts in
    let none : calls_by n (d ∷ es) ≡ [] = cc in
    absurd (some_by n 0 (d ∷ es) d refl (all 1 d refl) none)

-- the last entry of a log follows the others
pub last_follows : (z : Sizes) (openings : Openings) (before es : List Entry) (e : Entry) → FollowEach z openings before (es ++ e ∷ [])
    → Follows z openings (before ++ es) e
last_follows z openings before [] e each = subst (λ (l : List Entry). Follows z openings l e) (sym (append-nil before)) each.0
last_follows z openings before (x ∷ xs) e each = subst (λ (l : List Entry). Follows z openings l e) (append_assoc before (x ∷ []) xs)
    (last_follows z openings (before ++ x ∷ []) xs e each.1)

module _ (z : Sizes) (s s' : RowState) (r : WordRule z s) (r' : WordRule z s') (id : ℕ) (v w : View) (c : Call) (step : IsAnswerStep s s' id v w c) where
  after_at : get_elem? s'.views id ≡ some w
  after_at = ap (λ (vs : List View). get_elem? vs id) step.views ∙ set_here s.views id w (within s.views id v step.at)

  after_else : (j : ℕ) → j ≢ id → get_elem? s'.views j ≡ get_elem? s.views j
  after_else j ne = ap (λ (vs : List View). get_elem? vs j) step.views ∙ set_else s.views id j w ne

  -- such a step loses no number
  goes_on : Continues s.views s'.views
  goes_on j n u at has = dite (ℕ_discrete j id)
      (λ e. let same : u ≡ v = some-injective u v (sym at ∙ (ap (get_elem? s.views) e ∙ step.at)) in
      let h : HasNumber v.records n = subst (λ (y : View). HasNumber y.records n) same has in
      let o = renumbers_push c v.records h.0 h.1 h.2 in (
        id,
        w,
        after_at,
        subst (λ (rs : List Record). HasNumber rs n) (sym step.pushed) (h.0, o.0, o.1, o.2 ∙ h.3),
        subst (λ (y : View). Begins y.log w.log) (sym same) step.begins,
      ))
      (λ ne. (j, u, after_else j ne ∙ at, has, begins_refl u.log))

  grows : Begins (log_of r) (log_of r')
  grows = log_grows z r.table.openings r'.table.openings (λ b. (r.table.bucket b).history) (λ b. (r'.table.bucket b).history) s.views s'.views
      r.logged r'.logged goes_on

  more : List Entry
  more = grows.rest

  -- under the number of a record that has the same calls before and after, nothing was entered
  none_more : (j k i i' : ℕ) (u u' : View) (q q' : Record) → get_elem? s.views j ≡ some u → get_elem? u.records i ≡ some q
      → get_elem? s'.views k ≡ some u' → get_elem? u'.records i' ≡ some q' → q'.number ≡ q.number → q'.calls ≡ q.calls
      → calls_by q.number grows.rest ≡ []
  none_more j k i i' u u' q q' at f at' f' number calls =
      let old = (r.logged.each j u at).calls i q f in
      let new = (r'.logged.each k u' at').calls i' q' f' in
      let all : calls_by q.number (log_of r) ++ calls_by q.number grows.rest ≡ calls_by q.number (log_of r)
      = sym (calls_by-append q.number (log_of r) grows.rest) ∙ (ap (calls_by q.number) (sym grows.whole)
      ∙ (ap (λ (n : ℕ). calls_by n (log_of r')) (sym number) ∙ (new ∙ (calls ∙ sym old)))) in
      append_cancel_left (calls_by q.number (log_of r)) (calls_by q.number grows.rest) [] (all ∙ sym (append-nil (calls_by q.number (log_of r))))

  first : (a : Record) × (get_elem? v.records 0 ≡ some a)
  first = let acts = step.acts in there v.records 0 (omega arith)

  acting_first : acting v.records ≡ first.0.number
  acting_first = acting_is v.records 0 first.0 refl first.1

  -- the acting record after the step
  pushed_first : (rs : List Record) → 1 ≤ length rs → (q : Record) × (a : Record) × (get_elem? rs 0 ≡ some a) × (get_elem? (push_call c rs) 0 ≡ some q)
      × (q.number ≡ acting rs) × (a.number ≡ acting rs) × (q.calls ≡ a.calls ++ c ∷ [])
  pushed_first [] l = absurd (omega arith)
  pushed_first (a ∷ rs) l = (record a { calls = a.calls ++ c ∷ [] }, a, refl, refl, refl, refl, refl)

  one_more : calls_by (acting v.records) grows.rest ≡ c ∷ []
  one_more =
      let p = pushed_first v.records step.acts in
      let n : ℕ = acting v.records in
      let old : calls_by n (log_of r) ≡ p.1.calls = ap (λ (k : ℕ). calls_by k (log_of r)) (sym p.5) ∙ (r.logged.each id v step.at).calls 0 p.1 p.2 in
      let new : calls_by n (log_of r') ≡ p.0.calls = ap (λ (k : ℕ). calls_by k (log_of r')) (sym p.4)
      ∙ (r'.logged.each id w after_at).calls 0 p.0 (ap (λ (rs : List Record). get_elem? rs 0) step.pushed ∙ p.3) in
      let all : calls_by n (log_of r) ++ calls_by n grows.rest ≡ calls_by n (log_of r) ++ c ∷ []
      = sym (calls_by-append n (log_of r) grows.rest) ∙ (ap (calls_by n) (sym grows.whole) ∙ (new ∙ (p.6 ∙ ap (λ (l : List Call). l ++ c ∷ []) (sym old)))) in
      append_cancel_left (calls_by n (log_of r)) (calls_by n grows.rest) (c ∷ []) all

  -- what was entered bears the acting number
  all_acting : (k : ℕ) (e : Entry) → get_elem? grows.rest k ≡ some e → e.by ≡ acting v.records
  all_acting k e f = dite (ℕ_discrete e.by (acting v.records)) (λ is. is) (λ ne. absurd (other ne))
    where
      at : get_elem? (log_of r') (length (log_of r) + k) ≡ some e
      at = ap (λ (l : List Entry). get_elem? l (length (log_of r) + k)) grows.whole ∙ at_after (log_of r) grows.rest k e f

      held : IsHeld s'.views e.by
      held = r'.logged.made (length (log_of r) + k) e at

      other : e.by ≢ acting v.records → ⊥
      other ne = dite (ℕ_discrete held.0 id)
          (λ is. let same : held.1 ≡ w = some-injective held.1 w (sym held.2 ∙ (ap (get_elem? s'.views) is ∙ after_at)) in
          let h : HasNumber (push_call c v.records) e.by = subst (λ (rs : List Record). HasNumber rs e.by) step.pushed
          (subst (λ (y : View). HasNumber y.records e.by) same held.3) in
          elim (push_at c v.records h.0 h.1 h.2) [
            | inl p ↦ ne (sym h.3 ∙ (ap (λ (x : Record). x.number) p.is ∙ sym (acting_is v.records h.0 p.was p.first p.at)))
            | inr o ↦ some_by e.by k grows.rest e f refl (subst (λ (n : ℕ). calls_by n grows.rest ≡ []) h.3
                (none_more id id h.0 h.0 v w h.1 h.1 step.at o.1 after_at (ap (λ (rs : List Record). get_elem? rs h.0) step.pushed ∙ h.2) refl refl))
          ])
          (λ far. let has = held.3 in some_by e.by k grows.rest e f refl (subst (λ (n : ℕ). calls_by n grows.rest ≡ []) has.3
          (none_more held.0 held.0 has.0 has.0 held.1 held.1 has.1 has.1 (sym (after_else held.0 far) ∙ held.2) has.2 held.2 has.2 refl refl)))

  entered : log_of r' ≡ log_of r ++ entry_of v c ∷ []
  entered = grows.whole ∙ ap (λ (l : List Entry). log_of r ++ l) (one_entry (acting v.records) c grows.rest all_acting one_more)

  follows : Follows z r'.table.openings (log_of r) (entry_of v c)
  follows = last_follows z r'.table.openings [] (log_of r) (entry_of v c) (subst (FollowEach z r'.table.openings []) entered r'.logged.legal)

  pub enters_next : IsEntered z r r' v c
  enters_next = record {
    log = entered;
    version = follows.now ∙ ap length (ap (writes_on c.bucket) (sym entered) ∙ r'.logged.writes c.bucket follows.inside);
    read = λ reads. follows.now ∙ ap length (writes_on-append c.bucket (log_of r) (entry_of v c ∷ [])
        ∙ (ap (λ (h : List Write). writes_on c.bucket (log_of r) ++ h) (read_writes c.bucket (entry_of v c) reads)
        ∙ (append-nil (writes_on c.bucket (log_of r)) ∙ r.logged.writes c.bucket follows.inside)));
  }

-- the law, as the contract has it
pub grows_law : (z : Sizes) (s s' : RowState) (r : WordRule z s) (r' : WordRule z s') → Continues s.views s'.views → Begins (log_of r) (log_of r')
grows_law z s s' r r' = log_grows z r.table.openings r'.table.openings (λ b. (r.table.bucket b).history) (λ b. (r'.table.bucket b).history) s.views s'.views
    r.logged r'.logged

-- in real time: what stood in the log before the first of two steps stands before what the second enters
pub real_time : (z : Sizes) (t s s' : RowState) (q : WordRule z t) (r : WordRule z s) (r' : WordRule z s') (id p : ℕ) (v w : View) (c : Call) (a : Entry)
    → Continues t.views s.views → IsAnswerStep s s' id v w c → get_elem? (log_of q) p ≡ some a
    → (p < length (log_of r)) × (get_elem? (log_of r') p ≡ some a) × (get_elem? (log_of r') (length (log_of r)) ≡ some (entry_of v c))
real_time z t s s' q r r' id p v w c a goes step at =
    let g = grows_law z t s q r goes in
    let now = begin_at (log_of q) (log_of r) p a g at in
    let e = entered z s s' r r' id v w c step in (
      within (log_of r) p a now,
      ap (λ (l : List Entry). get_elem? l p) e ∙ at_longer (log_of r) (entry_of v c ∷ []) p a now,
      ap (λ (l : List Entry). get_elem? l (length (log_of r))) e ∙ at_last (log_of r) (entry_of v c) (length (log_of r)) refl,
    )

-- no stale read enters
pub no_recall : (z : Sizes) (s s' : RowState) (r : WordRule z s) (r' : WordRule z s') (id : ℕ) (v w : View) (c : Call) → IsAnswerStep s s' id v w c
    → is_changed c.reply ≡ false → c.stamp < length (r.table.bucket c.bucket).history → ⊥
no_recall z s s' r r' id v w c step reads stale = let now = (enters_next z s s' r r' id v w c step).read reads in
    let n : ℕ = length (r.table.bucket c.bucket).history in let m : c.stamp ≡ n = now in let l : c.stamp < n = stale in absurd (omega arith)

-- nor does the rule allow a step that enters one
pub recall_refused : (z : Sizes) (slots id i : ℕ) (f : ℕ → ℕ) (m : ViewOfSeat) (c : Call)
    → Allows (WordRule z) slots id m i f (λ _ m'. Recalls c m m')
    → (s : RowState) (r : WordRule z s) → length s.homes ≡ slots → get_elem? s.views id ≡ some m.0 → slice_index s.words i < 2 ^ 64
    → 1 ≤ length m.0.records → is_changed c.reply ≡ false → c.stamp < length (r.table.bucket c.bucket).history → ⊥
recall_refused z slots id i f m c allowed s r deep at fits acts reads stale =
    let a = allowed s r deep at fits in
    no_recall z s (stepped s i (f (slice_index s.words i)) id m.1 a.0 a.1) r a.3 id m.0 a.0 c
    (record { at = at; acts = acts; views = refl; pushed = a.4.pushed; begins = a.4.begins }) reads stale

-- ---- A whole caller

no_entries : (es : List Entry) → ((k : ℕ) (e : Entry) → get_elem? es k ≡ some e → ⊥) → es ≡ []
no_entries [] none = refl
no_entries (e ∷ es) none = absurd (none 0 e refl)

-- a caller with each number up to the caller count knows the whole log
pub whole_log : (z : Sizes) (s : RowState) (r : WordRule z s) (id : ℕ) (v : View) → get_elem? s.views id ≡ some v
    → IsWhole v.records (count_of s.words) → v.log ≡ log_of r
whole_log z s r id v at whole =
    let ok = r.logged.each id v at in
    let b = ok.begins in
    sym (b.whole ∙ (ap (λ (l : List Entry). v.log ++ l) (no_entries b.rest (λ k e f.
    let here = ap (λ (l : List Entry). get_elem? l (length v.log + k)) b.whole ∙ at_after v.log b.rest k e f in
    let m = r.logged.made (length v.log + k) e here in
    let has = m.3 in
    let other = r.each_view m.0 m.1 m.2 in
    let range = other.numbers.range has.0 has.1 has.2 in
    let same : has.1.number ≡ e.by = has.3 in
    let low : 1 ≤ has.1.number = range.0 in
    let high : has.1.number ≤ m.1.seen = range.1 in
    let most : m.1.seen ≤ count_of s.words = other.seen in
    let mine = whole e.by (omega arith) (omega arith) in
    let reached : length v.log + k < length v.log = ok.own mine.0 (length v.log + k) mine.1 e mine.2 here (sym mine.3) in
    absurd (omega arith))) ∙ append-nil v.log))
