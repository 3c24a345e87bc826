-- Each step of the kinds of bihash_steps keeps what its seat knows of the log, or enters a call; so runs only add to the log.
use Rattle.std.proofs.Common.{◌≡◌, ◌≢◌, ℕ, ◌+◌, ◌<◌, ◌≤◌, List, [], ◌∷◌, ◌++◌, length, set, take, drop, refl, sym, ap, ◌∙◌, subst, inl, inr}
use mathlib.Core.Logic.{dite}
use mathlib.Core.Option.{some, some-injective}
use native.Mathlib.Decide.{ℕ_discrete}
use lib.ListN.{get_elem?}
use Rattle.std.proofs.lemmas.List.{append_assoc, take-append-drop}
use Rattle.atomic_table.proofs.Lists.{at_last, at_longer, set_here, set_else}
use Rattle.bihash_words.specs.Sizes.{Sizes}
use Rattle.bihash_rule.specs.Callers.{HasNumber}
use Rattle.bihash_rule.specs.Logs.{Begins}
use Rattle.bihash_rule.specs.Views.{empty_record}
use Rattle.bihash_rule.specs.WordRule.{WordRule}
use Rattle.bihash_steps.specs.Steps.{ViewOfSeat, first_numbers, joining, longer_log, other_numbers, view_after_spending}
use Rattle.bihash_steps.specs.BucketSteps.{Enters, entry_of, push_call}
use Rattle.bihash_laws.specs.LogLaws.{Continues, IsAnswerStep, RowState, log_of}
use Rattle.bihash_laws.specs.LogRuns
use Rattle.bihash_laws.specs.LogRuns.{IsStepRun, IsSeatStep, IsStep, end_of}
use Rattle.bihash_rule.specs.declared.view.Call.{Call}
use Rattle.bihash_rule.specs.declared.view.Entry.{Entry}
use Rattle.bihash_rule.specs.declared.view.Record.{Record}
use Rattle.bihash_rule.specs.declared.view.View.{View}
use Rattle.bihash_steps.proofs.Lists.{at_after, at_either, within}
use Rattle.bihash_steps.proofs.PushedCalls.{renumbers_push}
use Rattle.bihash_steps.proofs.LogLemmas.{begin_at, begin_of_begin, begins_more, begins_refl, longer_logs}
use Rattle.bihash_laws.proofs.LogLaws.{grows_law, real_time}
use Rattle.bihash_steps.proofs.LogSteps.{counted_back}

-- ---- One seat

-- the view loses no number, and forgets nothing of the log
record Keeps (v w : View) : Type 0 where
  numbers : (n : ℕ) → HasNumber v.records n → HasNumber w.records n
  log : Begins v.log w.log

-- the same numbers and the same log
same : (v w x : View) → w ≡ x → x.records ≡ v.records → x.log ≡ v.log → Keeps v w
same v w x is records log = subst (Keeps v) (sym is) record {
  numbers = λ n h. subst (λ (rs : List Record). HasNumber rs n) (sym records) h;
  log = subst (Begins v.log) (sym log) (begins_refl v.log);
}

pushed : (c : Call) (v w : View) → w.records ≡ push_call c v.records → Begins v.log w.log → Keeps v w
pushed c v w is log = record {
  numbers = λ n h. let o = renumbers_push c v.records h.0 h.1 h.2 in
      subst (λ (rs : List Record). HasNumber rs n) (sym is) (h.0, o.0, o.1, o.2 ∙ h.3);
  log = log;
}

module _ (z : Sizes) where
  entered : (c : Call) (v after w : View) → after.records ≡ push_call c v.records → Enters z v c after w → Keeps v w
  entered c v after w records e = pushed c v w (ap (λ (u : View). u.records) e.is ∙ records)
      (subst (Begins v.log) (sym (ap (λ (u : View). u.log) e.is)) (begins_more v.log e.before (entry_of v c ∷ []) e.begins))

  first_of : (m m' : ViewOfSeat) (v : View) → m' ≡ (v, m.1) → m'.0 ≡ v
  first_of m m' v = ap (λ (q : ViewOfSeat). q.0)

  seat_keeps : (m m' : ViewOfSeat) → IsSeatStep z m m' → Keeps m.0 m'.0
  seat_keeps m m' (LogRuns.finds_bucket b found t) = elim t.seen [
    | inl o ↦ same m.0 m'.0 _ o.is refl refl
    | inr l ↦ same m.0 m'.0 _ l.is refl refl
  ]
  seat_keeps m m' (LogRuns.tries_lock b word found t) = dite (ℕ_discrete found word)
      (λ e. let taken = t.taken e in subst (Keeps m.0) (sym taken.is)
      record { numbers = λ n h. counted_back n m.0.records h; log = begins_refl m.0.log })
      (λ ne. same m.0 m'.0 _ (t.not ne) refl refl)
  seat_keeps m m' (LogRuns.loads_locked k found t) = same m.0 m'.0 m.0 (ap (λ (q : ViewOfSeat). q.0) t.same) refl refl
  seat_keeps m m' (LogRuns.stores_locked k word l held t) = same m.0 m'.0 _ (ap (λ (q : ViewOfSeat). q.0) (t l held)) refl refl
  seat_keeps m m' (LogRuns.loads_open k found t) = same m.0 m'.0 _ (ap (λ (q : ViewOfSeat). q.0) t) refl refl
  seat_keeps m m' (LogRuns.validates word found c t) = dite (ℕ_discrete found word)
      (λ e. entered c m.0 _ m'.0 refl (t.valid e))
      (λ ne. same m.0 m'.0 _ (t.not ne) refl refl)
  seat_keeps m m' (LogRuns.releases t) = same m.0 m'.0 _ (ap (λ (q : ViewOfSeat). q.0) t.seat) refl refl
  seat_keeps m m' (LogRuns.cancels c t) = entered c m.0 _ m'.0 refl t.entered
  seat_keeps m m' (LogRuns.publishes c t) = entered c m.0 _ m'.0 refl t.entered
  seat_keeps m m' (LogRuns.replaces c t) = entered c m.0 _ m'.0 refl t.entered
  seat_keeps m m' (LogRuns.tries_store found t) = dite (ℕ_discrete found 0)
      (λ e. let taken = t.taken e in same m.0 m'.0 _ taken.is refl refl)
      (λ ne. same m.0 m'.0 _ (t.not ne) refl refl)
  seat_keeps m m' (LogRuns.opens_store n held t) = same m.0 m'.0 _ (ap (λ (q : ViewOfSeat). q.0) (t n held)) refl refl
  seat_keeps m m' (LogRuns.loads_store at found t) = same m.0 m'.0 m.0 (ap (λ (q : ViewOfSeat). q.0) t.same) refl refl
  seat_keeps m m' (LogRuns.takes_returned at count log2 n may is held t) =
      let taken = t.taken log2 n may is held in same m.0 m'.0 _ taken.is refl refl
  seat_keeps m m' (LogRuns.takes_unused mark log2 used n may is held t) =
      let taken = t.taken log2 used n may is held in same m.0 m'.0 _ taken.is refl refl
  seat_keeps m m' (LogRuns.stores_held k word h t) = same m.0 m'.0 _ (ap (λ (q : ViewOfSeat). q.0) t) refl refl
  seat_keeps m m' (LogRuns.lists_block at page log2 count n may is held t) =
      same m.0 m'.0 _ (ap (λ (q : ViewOfSeat). q.0) (t log2 count n may is held)) refl refl
  seat_keeps m m' (LogRuns.returns_block at number log2 count n h may is next held block t) =
      same m.0 m'.0 _ (ap (λ (q : ViewOfSeat). q.0) (t log2 count n h may is next held block)) refl refl
  seat_keeps m m' (LogRuns.cuts_block at number log2 count n h may is next held block t) =
      same m.0 m'.0 _ (ap (λ (q : ViewOfSeat). q.0) (t log2 count n h may is next held block)) refl refl
  seat_keeps m m' (LogRuns.counts_callers found t) = same m.0 m'.0 _ (ap (λ (q : ViewOfSeat). q.0) t.seat) refl refl
  seat_keeps m m' (LogRuns.tries_number count found t) = dite (ℕ_discrete found count)
      (λ e. subst (Keeps m.0) (sym (t.taken e)) record {
        numbers = λ n h. (h.0, h.1, at_longer m.0.records (empty_record (found + 1) ∷ []) h.0 h.1 h.2, h.3);
        log = begins_refl m.0.log;
      })
      (λ ne. same m.0 m'.0 _ (t.not ne) refl refl)
  seat_keeps m m' (LogRuns.learns_agreement t) = same m.0 m'.0 _ (ap (λ (q : ViewOfSeat). q.0) t.seat) refl refl
  seat_keeps m m' (LogRuns.loads_row found t) = same m.0 m'.0 _ (ap (λ (q : ViewOfSeat). q.0) t.seat) refl refl

  -- a step that enters a call is an answer
  pub is_answer : (s s' : RowState) (id : ℕ) (v after w : View) (c : Call) → get_elem? s.views id ≡ some v → 1 ≤ length v.records
      → s'.views ≡ set s.views id w → Enters z v c after w → after.records ≡ push_call c v.records → IsAnswerStep s s' id v w c
  is_answer s s' id v after w c at acts views e records = record {
    at = at;
    acts = acts;
    views = views;
    pushed = ap (λ (u : View). u.records) e.is ∙ records;
    begins = (entered c v after w records e).log;
  }

  -- ---- All seats

  -- one view is another
  set_continues : (views : List View) (id : ℕ) (v w : View) → get_elem? views id ≡ some v → Keeps v w → Continues views (set views id w)
  set_continues views id v w at keeps j n u f has = dite (ℕ_discrete j id)
      (λ e. let is : u ≡ v = some-injective u v (sym f ∙ (ap (get_elem? views) e ∙ at)) in (
        id,
        w,
        set_here views id w (within views id v at),
        keeps.numbers n (subst (λ (y : View). HasNumber y.records n) is has),
        subst (λ (y : View). Begins y.log w.log) (sym is) keeps.log,
      ))
      (λ ne. (j, u, set_else views id j w ne ∙ f, has, begins_refl u.log))

  cut_continues : (views : List View) (id n : ℕ) (v : View) → get_elem? views id ≡ some v
      → Continues views (set views id (first_numbers n v) ++ other_numbers n v ∷ [])
  cut_continues views id n v at j number u f has = dite (ℕ_discrete j id)
      (λ e. let is : u ≡ v = some-injective u v (sym f ∙ (ap (get_elem? views) e ∙ at)) in
      let h : HasNumber v.records number = subst (λ (y : View). HasNumber y.records number) is has in
      let log : Begins u.log v.log = subst (λ (y : View). Begins y.log v.log) (sym is) (begins_refl v.log) in
      elim (at_either (take n v.records) (drop n v.records) h.0 h.1 (ap (λ (rs : List Record). get_elem? rs h.0) (take-append-drop n v.records) ∙ h.2)) [
        | inl o ↦ (
          id,
          first_numbers n v,
          at_longer (set views id (first_numbers n v)) (other_numbers n v ∷ []) id (first_numbers n v)
              (set_here views id (first_numbers n v) (within views id v at)),
          (h.0, h.1, o, h.3),
          log,
        )
        | inr o ↦ (
          length (set views id (first_numbers n v)),
          other_numbers n v,
          at_last (set views id (first_numbers n v)) (other_numbers n v) (length (set views id (first_numbers n v))) refl,
          (o.0, h.1, o.2, h.3),
          log,
        )
      ])
      (λ ne. (
        j,
        u,
        at_longer (set views id (first_numbers n v)) (other_numbers n v ∷ []) j u (set_else views id j (first_numbers n v) ne ∙ f),
        has,
        begins_refl u.log,
      ))

  join_continues : (s : RowState) → WordRule z s → (id other : ℕ) (v w : View) → get_elem? s.views id ≡ some v → get_elem? s.views other ≡ some w
      → id ≢ other → Continues s.views (set (set s.views id (joining v w)) other (view_after_spending z))
  join_continues s r id other v w at at' apart j n u f has =
      let both : View = joining v w in
      let spent : View = view_after_spending z in
      let L : List Entry = log_of r in
      let mine = (r.logged.each id v at).begins in
      let theirs = (r.logged.each other w at').begins in
      let more = longer_logs v.log w.log L mine theirs in
      let here : get_elem? (set (set s.views id both) other spent) id ≡ some both
      = set_else (set s.views id both) other id spent apart ∙ set_here s.views id both (within s.views id v at) in
      dite (ℕ_discrete j id)
      (λ e. let is : u ≡ v = some-injective u v (sym f ∙ (ap (get_elem? s.views) e ∙ at)) in
      let h : HasNumber v.records n = subst (λ (y : View). HasNumber y.records n) is has in (
        id,
        both,
        here,
        (h.0, h.1, at_longer v.records w.records h.0 h.1 h.2, h.3),
        subst (λ (y : View). Begins y.log (longer_log v.log w.log)) (sym is) (begin_of_begin v.log (longer_log v.log w.log) L mine more.0 more.1),
      ))
      (λ far. dite (ℕ_discrete j other)
      (λ e. let is : u ≡ w = some-injective u w (sym f ∙ (ap (get_elem? s.views) e ∙ at')) in
      let h : HasNumber w.records n = subst (λ (y : View). HasNumber y.records n) is has in (
        id,
        both,
        here,
        (length v.records + h.0, h.1, at_after v.records w.records h.0 h.1 h.2, h.3),
        subst (λ (y : View). Begins y.log (longer_log v.log w.log)) (sym is) (begin_of_begin w.log (longer_log v.log w.log) L theirs more.0 more.2),
      ))
      (λ off. (j, u, set_else (set s.views id both) other j spent off ∙ (set_else s.views id j both far ∙ f), has, begins_refl u.log)))

  step_continues : (s t : RowState) → WordRule z s → IsStep z s.views t.views → Continues s.views t.views
  step_continues s t r (LogRuns.acts id m m' at is step) =
      subst (Continues s.views) (sym is) (set_continues s.views id m.0 m'.0 at (seat_keeps m m' step))
  step_continues s t r (LogRuns.cuts id n v at is) = subst (Continues s.views) (sym is) (cut_continues s.views id n v at)
  step_continues s t r (LogRuns.joins id other v w at at' apart is) =
      subst (Continues s.views) (sym is) (join_continues s r id other v w at at' apart)

  -- ---- Runs

  begins_through : (xs ys zs : List Entry) → Begins xs ys → Begins ys zs → Begins xs zs
  begins_through xs ys zs p q = record {
    rest = p.rest ++ q.rest;
    whole = q.whole ∙ (ap (λ (l : List Entry). l ++ q.rest) p.whole ∙ append_assoc xs p.rest q.rest);
  }

  run_rule : (s : RowState) (ts : List RowState) → WordRule z s → IsStepRun z s ts → WordRule z (end_of s ts)
  run_rule s [] r run = r
  run_rule s (t ∷ ts) r run = run_rule t ts run.0 run.2

  continues_through : (views views' views'' : List View) → Continues views views' → Continues views' views'' → Continues views views''
  continues_through views views' views'' goes on j n v at has =
      let o = goes j n v at has in
      let p = on o.0 n o.1 o.2 o.3 in
      (p.0, p.1, p.2, p.3, begins_through v.log o.1.log p.1.log o.4 p.4)

  pub run_continues : (s : RowState) (ts : List RowState) → WordRule z s → IsStepRun z s ts → Continues s.views (end_of s ts).views
  run_continues s [] r run = λ j n v at has. (j, v, at, has, begins_refl v.log)
  run_continues s (t ∷ ts) r run = continues_through s.views t.views (end_of t ts).views (step_continues s t r run.1)
      (run_continues t ts run.0 run.2)

  pub run_grows : (s : RowState) (ts : List RowState) (r : WordRule z s) → IsStepRun z s ts → (r' : WordRule z (end_of s ts))
      → Begins (log_of r) (log_of r')
  run_grows s ts r run r' = grows_law z s (end_of s ts) r r' (run_continues s ts r run)

  -- what was answered before a run began stands before what a step after the run answers, in each state that comes later
  pub run_in_order : (s t : RowState) (ts us : List RowState) (q : WordRule z s) → IsStepRun z s ts → (r : WordRule z (end_of s ts))
      → (r' : WordRule z t) (id p : ℕ) (v w : View) (c : Call) (a : Entry) → IsAnswerStep (end_of s ts) t id v w c → get_elem? (log_of q) p ≡ some a
      → IsStepRun z t us → (r'' : WordRule z (end_of t us)) → (p < length (log_of r)) × (get_elem? (log_of r'') p ≡ some a)
      × (get_elem? (log_of r'') (length (log_of r)) ≡ some (entry_of v c))
  run_in_order s t ts us q run r r' id p v w c a step at after r'' =
      let o = real_time z s (end_of s ts) t q r r' id p v w c a (run_continues s ts q run) step at in
      let grows = run_grows t us r' after r'' in
      (o.0, begin_at (log_of r') (log_of r'') p a grows o.1, begin_at (log_of r') (log_of r'') (length (log_of r)) (entry_of v c) grows o.2)
