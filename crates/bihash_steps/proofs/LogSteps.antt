-- How the rule on the log stands after a step: the log stays as it is, or gets the call of the acting record at its end.
use Rattle.std.proofs.Common.{◌≡◌, ◌≢◌, ℕ, ◌+◌, ◌<◌, ◌≤◌, List, [], ◌∷◌, ◌++◌, length, take, drop, set, refl, sym, ap, ◌∙◌, subst, inl, inr, arith, append-nil, length-set}
use mathlib.Core.Logic.{dite}
use mathlib.Core.Option.{some, some-ne-none, some-injective}
use native.Mathlib.Decide.{ℕ_discrete}
use lib.ListN.{get_elem?}
use Rattle.std.proofs.lemmas.List.{take-append-drop}
use Rattle.atomic_table.proofs.Lists.{at_last, at_set, at_longer, set_here, set_else}
use Rattle.bihash_words.specs.Sizes.{Sizes}
use Rattle.bihash_rule.specs.Words.{buckets}
use Rattle.bihash_rule.specs.Histories.{IsPrefix}
use Rattle.bihash_rule.specs.Callers.{HasNumber, HasNumbers, HaveOneLog, Apart}
use Rattle.bihash_rule.specs.declared.view.Openings.{Openings}
use Rattle.bihash_rule.specs.Logs.{calls_by, writes_on, Begins, Follows, IsLog, IsLogged}
use Rattle.bihash_rule.specs.LogRule.{KnowsLog, IsHeld, LogRule}
use Rattle.bihash_rule.specs.Views.{empty_record}
use Rattle.bihash_steps.specs.Steps.{longer_log}
use Rattle.bihash_steps.specs.BucketSteps.{acting, lock_counted, push_call}
use Rattle.bihash_rule.specs.declared.view.Write.{Write}
use Rattle.bihash_rule.specs.declared.view.Call.{Call}
use Rattle.bihash_rule.specs.declared.view.Entry.{Entry}
use Rattle.bihash_rule.specs.declared.view.Record.{Record}
use Rattle.bihash_rule.specs.declared.view.View.{View}
use Rattle.bihash_steps.proofs.Lists.{at_after, at_drop, at_either, at_end, at_take, there, within}
use Rattle.bihash_steps.proofs.PushedCalls.{push_at, acting_is, counted_at, renumbers_counted, renumbers_push, same_number}
use Rattle.bihash_steps.proofs.LogLemmas.{calls_by-append, writes_on-append, none_by, one_by, other_by, begins_refl, begins_more, begin_at, follow_more, follow_fewer, longer_logs, one_begins_log}

-- ---- What one view knows

-- each record of qs has the number and the calls of one of rs
abbrev pub KeepsCalls : List Record → List Record → Type 0
KeepsCalls rs qs = (i : ℕ) (q : Record) → get_elem? qs i ≡ some q
    → (k : ℕ) × (r : Record) × (get_elem? rs k ≡ some r) × (r.number ≡ q.number) × (r.calls ≡ q.calls)

pub same_calls : (rs : List Record) → KeepsCalls rs rs
same_calls rs i q e = (i, q, e, refl, refl)

-- a lock was counted
pub counted_calls : (rs : List Record) → KeepsCalls rs (lock_counted rs)
counted_calls rs i q e = let o = counted_at rs i q e in (i, o.0, o.1, o.2, o.3)

pub counted_back : (n : ℕ) (rs : List Record) → HasNumber rs n → HasNumber (lock_counted rs) n
counted_back n rs = same_number (lock_counted rs) rs (renumbers_counted rs) n

-- as much or more is known of the same log, with some of the records
pub knows_still : (log known known' : List Entry) (rs qs : List Record) → Begins known' log → length known ≤ length known' → KeepsCalls rs qs
    → KnowsLog log known rs → KnowsLog log known' qs
knows_still log known known' rs qs begins more keep ok = record {
  begins = begins;
  calls = λ i q e. let o = keep i q e in ap (λ (n : ℕ). calls_by n log) (sym o.3) ∙ (ok.calls o.0 o.1 o.2 ∙ o.4);
  own = λ i k q e at f by. let o = keep i q at in let reached : k < length known = ok.own o.0 k o.1 e o.2 f (by ∙ sym o.3) in omega arith;
}

-- the log has one entry more, which bears no number of these records
knows_longer : (log known : List Entry) (rs : List Record) (e : Entry) → ((i : ℕ) (r : Record) → get_elem? rs i ≡ some r → e.by ≢ r.number)
    → KnowsLog log known rs → KnowsLog (log ++ e ∷ []) known rs
knows_longer log known rs e none ok = record {
  begins = begins_more known log (e ∷ []) ok.begins;
  calls = λ i r at. calls_by-append r.number log (e ∷ []) ∙ (ap (λ (l : List Call). calls_by r.number log ++ l) (other_by r.number e (none i r at))
      ∙ (append-nil (calls_by r.number log) ∙ ok.calls i r at));
  own = λ i k r x at f by. elim (at_end log e x k f) [
    | inl o ↦ ok.own i k r x at o by
    | inr o ↦ absurd (none i r at (ap (λ (y : Entry). y.by) o.1 ∙ by))
  ];
}

-- the entry is the call that the acting record has more
knows_pushed : (log known : List Entry) (seen : ℕ) (rs : List Record) (c : Call) → 1 ≤ length rs → HasNumbers seen rs → KnowsLog log known rs
    → KnowsLog (log ++ record { by = acting rs; call = c } ∷ []) (log ++ record { by = acting rs; call = c } ∷ []) (push_call c rs)
knows_pushed log known seen rs c acts numbers ok = record {
  begins = begins_refl (log ++ e ∷ []);
  calls = λ i r at. calls_by-append r.number log (e ∷ []) ∙ calls i r at;
  own = λ i k r x at f by. within (log ++ e ∷ []) k x f;
}
  where
    e : Entry
    e = record { by = acting rs; call = c }

    first : (a : Record) × (get_elem? rs 0 ≡ some a)
    first = there rs 0 (omega arith)

    calls : (i : ℕ) (r : Record) → get_elem? (push_call c rs) i ≡ some r → calls_by r.number log ++ calls_by r.number (e ∷ []) ≡ r.calls
    calls i r at = elim (push_at c rs i r at) [
      | inl p ↦ (let same : p.was.number ≡ r.number = ap (λ (x : Record). x.number) (sym p.is) in
          let old : calls_by r.number log ≡ p.was.calls = ap (λ (n : ℕ). calls_by n log) (sym same) ∙ ok.calls i p.was p.at in
          let new : calls_by r.number (e ∷ []) ≡ c ∷ [] = one_by r.number e (acting_is rs i p.was p.first p.at ∙ same) in
          (λ t. old t ++ new t) ∙ ap (λ (x : Record). x.calls) (sym p.is))
      | inr o ↦ (let ne : acting rs ≢ r.number = λ h. numbers.once 0 i first.0 r (λ f. o.0 (sym f)) first.1 o.1
          (sym (acting_is rs 0 first.0 refl first.1) ∙ h) in
          ap (λ (l : List Call). calls_by r.number log ++ l) (other_by r.number e ne) ∙ (append-nil (calls_by r.number log) ∙ ok.calls i r o.1))
    ]

-- a record without a call, whose number no entry bears, is one more
knows_numbered : (log known : List Entry) (rs : List Record) (n : ℕ) → ((k : ℕ) (e : Entry) → get_elem? log k ≡ some e → e.by ≢ n)
    → KnowsLog log known rs → KnowsLog log known (rs ++ empty_record n ∷ [])
knows_numbered log known rs n none ok = record {
  begins = ok.begins;
  calls = λ i r at. elim (at_end rs (empty_record n) r i at) [
    | inl o ↦ ok.calls i r o
    | inr o ↦ subst (λ (q : Record). calls_by q.number log ≡ q.calls) o.1 (none_by n log none)
  ];
  own = λ i k r e at f by. elim (at_end rs (empty_record n) r i at) [
    | inl o ↦ ok.own i k r e o f by
    | inr o ↦ absurd (none k e f (by ∙ ap (λ (q : Record). q.number) (sym o.1)))
  ];
}

-- two views that know one log
pub one_log : (log known other : List Entry) (records others : List Record) → KnowsLog log known records → KnowsLog log other others
    → HaveOneLog records known others other
one_log log known other records others mine theirs = record {
  one = one_begins_log known other log mine.begins theirs.begins;
  own = λ k e f has. mine.own has.0 k has.1 e has.2 (begin_at other log k e theirs.begins f) (sym has.3);
  other_own = λ k e f has. theirs.own has.0 k has.1 e has.2 (begin_at known log k e mine.begins f) (sym has.3);
}

-- ---- The rule

module _ (z : Sizes) (openings : Openings) (history : ℕ → List Write) where
  -- other views know the same log, and have all numbers that were had
  pub views_logged : (views views' : List View) (r : LogRule z openings history views)
      → ((j : ℕ) (u : View) → get_elem? views' j ≡ some u → KnowsLog r.log u.log u.records)
      → ((n : ℕ) → IsHeld views n → IsHeld views' n) → LogRule z openings history views'
  views_logged views views' r each held = record {
    log = r.log;
    legal = r.legal;
    writes = r.writes;
    each = each;
    made = λ k e at. held e.by (r.made k e at);
  }

  -- the histories are the same
  pub histories_logged : (history' : ℕ → List Write) (views : List View) → ((b : ℕ) → history' b ≡ history b) → LogRule z openings history views
      → LogRule z openings history' views
  histories_logged history' views same r = record {
    log = r.log;
    legal = r.legal;
    writes = λ b l. r.writes b l ∙ sym (same b);
    each = r.each;
    made = r.made;
  }

  -- a number that a view had is had where one view is another with its numbers
  pub held_set : (views : List View) (id : ℕ) (v w : View) → get_elem? views id ≡ some v
      → ((n : ℕ) → HasNumber v.records n → HasNumber w.records n) → (n : ℕ) → IsHeld views n → IsHeld (set views id w) n
  held_set views id v w at numbers n h = dite (ℕ_discrete h.0 id)
      (λ e. (
        id,
        w,
        set_here views id w (within views id v at),
        numbers n (subst (λ (u : View). HasNumber u.records n) (some-injective h.1 v (sym h.2 ∙ (ap (get_elem? views) e ∙ at))) h.3),
      ))
      (λ ne. (h.0, h.1, set_else views id h.0 w ne ∙ h.2, h.3))

  -- one view is another that knows as much of the log, with the calls of the same numbers
  pub set_logged : (views : List View) (id : ℕ) (v w : View) → get_elem? views id ≡ some v → (r : LogRule z openings history views)
      → w.log ≡ v.log → KeepsCalls v.records w.records → ((n : ℕ) → HasNumber v.records n → HasNumber w.records n)
      → LogRule z openings history (set views id w)
  set_logged views id v w at r log keep numbers = views_logged views (set views id w) r
      (λ j u e. elim (at_set views id j w u e) [
        | inl p ↦ subst (λ (y : View). KnowsLog r.log y.log y.records) p.1
            (let old = r.each id v at in knows_still r.log v.log w.log v.records w.records
            (subst (λ (l : List Entry). Begins l r.log) (sym log) old.begins) (let l = ap length log in omega arith) keep old)
        | inr p ↦ r.each j u p.1
      ])
      (held_set views id v w at numbers)

  -- the same records
  pub kept_logged : (views : List View) (id : ℕ) (v w : View) → get_elem? views id ≡ some v → LogRule z openings history views
      → w.log ≡ v.log → w.records ≡ v.records → LogRule z openings history (set views id w)
  kept_logged views id v w at r log same = set_logged views id v w at r log
      (subst (KeepsCalls v.records) (sym same) (same_calls v.records)) (λ n h. subst (λ (rs : List Record). HasNumber rs n) (sym same) h)

  -- the caller has the next number too, which no view had
  pub numbered_logged : (views : List View) (id : ℕ) (v w : View) (count : ℕ) → get_elem? views id ≡ some v → (r : LogRule z openings history views)
      → w.log ≡ v.log → w.records ≡ v.records ++ empty_record (count + 1) ∷ []
      → ((j : ℕ) (u : View) → get_elem? views j ≡ some u → (n : ℕ) → HasNumber u.records n → n ≤ count)
      → LogRule z openings history (set views id w)
  numbered_logged views id v w count at r log more few = views_logged views (set views id w) r
      (λ j u e. elim (at_set views id j w u e) [
        | inl p ↦ subst (λ (y : View). KnowsLog r.log y.log y.records) p.1
            (subst (λ (q : List Entry × List Record). KnowsLog r.log q.0 q.1) (λ i. (sym log i, sym more i))
            (knows_numbered r.log v.log v.records (count + 1)
            (λ k x f h. let o = r.made k x f in let l : x.by ≤ count = few o.0 o.1 o.2 x.by o.3 in omega arith) (r.each id v at)))
        | inr p ↦ r.each j u p.1
      ])
      (held_set views id v w at (λ n h. subst (λ (rs : List Record). HasNumber rs n) (sym more)
      (h.0, h.1, at_longer v.records (empty_record (count + 1) ∷ []) h.0 h.1 h.2, h.3)))

  -- the caller answers a call, which follows all entries
  pub answered_logged : (history' : ℕ → List Write) (views : List View) (id seen : ℕ) (v w : View) (c : Call) → get_elem? views id ≡ some v
      → (r : LogRule z openings history views) → 1 ≤ length v.records → HasNumbers seen v.records
      → ((j : ℕ) (u : View) → j ≢ id → get_elem? views j ≡ some u → Apart v.records u.records)
      → w.log ≡ r.log ++ record { by = acting v.records; call = c } ∷ [] → w.records ≡ push_call c v.records
      → Follows z openings r.log (record { by = acting v.records; call = c })
      → ((b : ℕ) → b < buckets z → history b ++ writes_on b (record { by = acting v.records; call = c } ∷ []) ≡ history' b)
      → LogRule z openings history' (set views id w)
  answered_logged history' views id seen v w c at r acts numbers apart log pushed follows grows = record {
    log = r.log ++ e ∷ [];
    legal = follow_more z openings [] r.log e r.legal follows;
    writes = λ b l. writes_on-append b r.log (e ∷ []) ∙ (ap (λ (h : List Write). h ++ writes_on b (e ∷ [])) (r.writes b l) ∙ grows b l);
    each = λ j u f. elim (at_set views id j w u f) [
      | inl p ↦ subst (λ (y : View). KnowsLog (r.log ++ e ∷ []) y.log y.records) p.1
          (subst (λ (q : List Entry × List Record). KnowsLog (r.log ++ e ∷ []) q.0 q.1) (λ i. (sym log i, sym pushed i))
          (knows_pushed r.log v.log seen v.records c acts numbers (r.each id v at)))
      | inr p ↦ knows_longer r.log u.log u.records e (λ k q g h. apart j u p.0 p.1 0 k first.0 q first.1 g (sym acting_first ∙ h)) (r.each j u p.1)
    ];
    made = λ k x f. elim (at_end r.log e x k f) [
      | inl o ↦ held x.by (r.made k x o)
      | inr o ↦ held x.by (id, v, at, (0, first.0, first.1, sym acting_first ∙ ap (λ (y : Entry). y.by) o.1))
    ];
  }
    where
      e : Entry
      e = record { by = acting v.records; call = c }

      first : (a : Record) × (get_elem? v.records 0 ≡ some a)
      first = there v.records 0 (omega arith)

      acting_first : acting v.records ≡ first.0.number
      acting_first = acting_is v.records 0 first.0 refl first.1

      held : (n : ℕ) → IsHeld views n → IsHeld (set views id w) n
      held = held_set views id v w at (λ n h. let o = renumbers_push c v.records h.0 h.1 h.2 in
          subst (λ (rs : List Record). HasNumber rs n) (sym pushed) (h.0, o.0, o.1, o.2 ∙ h.3))

  -- what a view that was informed of the log knows is a log
  pub is_logged : (views : List View) (id : ℕ) (v : View) → LogRule z openings history views → get_elem? views id ≡ some v
      → v.known.openings ≡ openings → IsLogged z v.known.openings v.log v.records
  is_logged views id v r at same = record {
    legal = subst (λ (o : Openings). IsLog z o v.log) (sym same) (follow_fewer z openings [] v.log ok.begins.rest
        (subst (IsLog z openings) ok.begins.whole r.legal));
    calls = λ i q e. sym (append-nil (calls_by q.number v.log)) ∙ (ap (λ (l : List Call). calls_by q.number v.log ++ l) (sym (rest i q e))
        ∙ (sym (calls_by-append q.number v.log ok.begins.rest) ∙ (ap (calls_by q.number) (sym ok.begins.whole) ∙ ok.calls i q e)));
  }
    where
      ok : KnowsLog r.log v.log v.records
      ok = r.each id v at

      rest : (i : ℕ) (q : Record) → get_elem? v.records i ≡ some q → calls_by q.number ok.begins.rest ≡ []
      rest i q e = none_by q.number ok.begins.rest (λ k x f by.
          let reached = ok.own i (length v.log + k) q x e (ap (λ (l : List Entry). get_elem? l (length v.log + k)) ok.begins.whole
          ∙ at_after v.log ok.begins.rest k x f) by in omega arith)

  -- each history begins with what a view that was informed of the log knows of it
  pub log_begins : (views : List View) (id : ℕ) (v : View) → LogRule z openings history views → get_elem? views id ≡ some v
      → (b : ℕ) → b < buckets z → IsPrefix (writes_on b v.log) (history b)
  log_begins views id v r at b inside = let begins = (r.each id v at).begins in record {
    rest = writes_on b begins.rest;
    whole = sym (r.writes b inside) ∙ (ap (writes_on b) begins.whole ∙ writes_on-append b v.log begins.rest);
  }

  -- ---- Seats that are cut and joined

  -- the numbers of one seat pass to two, which know as much of the log
  pub cut_logged : (views : List View) (id n : ℕ) (v left right : View) → get_elem? views id ≡ some v → (r : LogRule z openings history views)
      → left.log ≡ v.log → right.log ≡ v.log → left.records ≡ take n v.records → right.records ≡ drop n v.records
      → LogRule z openings history (set views id left ++ right ∷ [])
  cut_logged views id n v left right at r left_log right_log first other = views_logged views (set views id left ++ right ∷ []) r each held
    where
      part : (known : List Entry) (rs : List Record) → known ≡ v.log → KeepsCalls v.records rs → KnowsLog r.log known rs
      part known rs same keep = let old = r.each id v at in knows_still r.log v.log known v.records rs
          (subst (λ (l : List Entry). Begins l r.log) (sym same) old.begins) (let l = ap length same in omega arith) keep old

      each : (j : ℕ) (u : View) → get_elem? (set views id left ++ right ∷ []) j ≡ some u → KnowsLog r.log u.log u.records
      each j u e = elim (at_end (set views id left) right u j e) [
        | inl o ↦ elim (at_set views id j left u o) [
          | inl p ↦ subst (λ (y : View). KnowsLog r.log y.log y.records) p.1 (part left.log left.records left_log
              (λ i q f. (i, q, (at_take n v.records i q (ap (λ (rs : List Record). get_elem? rs i) (sym first) ∙ f)).1, refl, refl)))
          | inr p ↦ r.each j u p.1
        ]
        | inr o ↦ subst (λ (y : View). KnowsLog r.log y.log y.records) o.1 (part right.log right.records right_log
            (λ i q f. (n + i, q, at_drop n v.records i q (ap (λ (rs : List Record). get_elem? rs i) (sym other) ∙ f), refl, refl)))
      ]

      size : length (set views id left) ≡ length views
      size = length-set views id left

      here : (k : ℕ) → HasNumber v.records k → IsHeld (set views id left ++ right ∷ []) k
      here k h = elim (at_either (take n v.records) (drop n v.records) h.0 h.1
          (ap (λ (rs : List Record). get_elem? rs h.0) (take-append-drop n v.records) ∙ h.2)) [
            | inl o ↦ (
              id,
              left,
              at_longer (set views id left) (right ∷ []) id left (set_here views id left (within views id v at)),
              (h.0, h.1, ap (λ (rs : List Record). get_elem? rs h.0) first ∙ o, h.3),
            )
            | inr o ↦ (
              length (set views id left),
              right,
              at_last (set views id left) right (length (set views id left)) refl,
              (o.0, h.1, ap (λ (rs : List Record). get_elem? rs o.0) other ∙ o.2, h.3),
            )
          ]

      held : (k : ℕ) → IsHeld views k → IsHeld (set views id left ++ right ∷ []) k
      held k h = dite (ℕ_discrete h.0 id)
          (λ e. here k (subst (λ (u : View). HasNumber u.records k) (some-injective h.1 v (sym h.2 ∙ (ap (get_elem? views) e ∙ at))) h.3))
          (λ ne. (h.0, h.1, at_longer (set views id left) (right ∷ []) h.0 h.1 (set_else views id h.0 left ne ∙ h.2), h.3))

  -- the numbers of two seats pass to one, which knows the longer of what they know
  pub joined_logged : (views : List View) (id other : ℕ) (v w both spent : View) → get_elem? views id ≡ some v → get_elem? views other ≡ some w
      → (id ≢ other) → (r : LogRule z openings history views) → both.log ≡ longer_log v.log w.log → both.records ≡ v.records ++ w.records
      → spent.log ≡ [] → spent.records ≡ [] → LogRule z openings history (set (set views id both) other spent)
  joined_logged views id other v w both spent at at' ne r log all none empty = views_logged views (set (set views id both) other spent) r each held
    where
      mine : KnowsLog r.log v.log v.records
      mine = r.each id v at

      theirs : KnowsLog r.log w.log w.records
      theirs = r.each other w at'

      joint : KnowsLog r.log (longer_log v.log w.log) (v.records ++ w.records)
      joint = let h = longer_logs v.log w.log r.log mine.begins theirs.begins in let a = h.1 in let b = h.2 in record {
        begins = h.0;
        calls = λ i q e. elim (at_either v.records w.records i q e) [
          | inl o ↦ mine.calls i q o
          | inr o ↦ theirs.calls o.0 q o.2
        ];
        own = λ i k q e f g by. elim (at_either v.records w.records i q f) [
          | inl o ↦ (let reached : k < length v.log = mine.own i k q e o g by in omega arith)
          | inr o ↦ (let reached : k < length w.log = theirs.own o.0 k q e o.2 g by in omega arith)
        ];
      }

      nothing : KnowsLog r.log [] []
      nothing = record {
        begins = record { rest = r.log; whole = refl };
        calls = λ i q e. absurd (some-ne-none q (sym e));
        own = λ i k q x e. absurd (some-ne-none q (sym e));
      }

      each : (j : ℕ) (u : View) → get_elem? (set (set views id both) other spent) j ≡ some u → KnowsLog r.log u.log u.records
      each j u e = elim (at_set (set views id both) other j spent u e) [
        | inl p ↦ subst (λ (y : View). KnowsLog r.log y.log y.records) p.1
            (subst (λ (q : List Entry × List Record). KnowsLog r.log q.0 q.1) (λ i. (sym none i, sym empty i)) nothing)
        | inr p ↦ elim (at_set views id j both u p.1) [
          | inl q ↦ subst (λ (y : View). KnowsLog r.log y.log y.records) q.1
              (subst (λ (y : List Entry × List Record). KnowsLog r.log y.0 y.1) (λ i. (sym log i, sym all i)) joint)
          | inr q ↦ r.each j u q.1
        ]
      ]

      at_both : get_elem? (set (set views id both) other spent) id ≡ some both
      at_both = set_else (set views id both) other id spent ne ∙ set_here views id both (within views id v at)

      here : (k : ℕ) → HasNumber (v.records ++ w.records) k → IsHeld (set (set views id both) other spent) k
      here k h = (id, both, at_both, subst (λ (rs : List Record). HasNumber rs k) (sym all) h)

      held : (k : ℕ) → IsHeld views k → IsHeld (set (set views id both) other spent) k
      held k h = dite (ℕ_discrete h.0 id)
          (λ e. let n : HasNumber v.records k
          = subst (λ (u : View). HasNumber u.records k) (some-injective h.1 v (sym h.2 ∙ (ap (get_elem? views) e ∙ at))) h.3 in
          here k (n.0, n.1, at_longer v.records w.records n.0 n.1 n.2, n.3))
          (λ far. dite (ℕ_discrete h.0 other)
          (λ e. let n : HasNumber w.records k
          = subst (λ (u : View). HasNumber u.records k) (some-injective h.1 w (sym h.2 ∙ (ap (get_elem? views) e ∙ at'))) h.3 in
          here k (length v.records + n.0, n.1, at_after v.records w.records n.0 n.1 n.2, n.3))
          (λ off. (h.0, h.1, set_else (set views id both) other h.0 spent off ∙ (set_else views id h.0 both far ∙ h.2), h.3)))
