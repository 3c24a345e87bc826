-- A log is one sequential order of its calls: on each bucket a run of one bounded map.
use Rattle.std.proofs.Common.{◌≡◌, ◌≢◌, ◌⊎◌, ◌∙◌, ◌+◌, ◌<◌, ℕ, Bool, true, false, List, [], ◌∷◌, ◌++◌, length, ap, append-nil, append_assoc, arith, length-append, refl, sym, subst, inl, inr}
use Rattle.std.proofs.lemmas.Bool.Decides.{eqb_tells}
use lib.ListN.{get_elem?}
use mathlib.Core.Option.{some}
use Rattle.bihash_words.specs.Maps.{Event, Pairs, written}
use Rattle.bihash_words.specs.Sizes.{Sizes}
use Rattle.bihash_rule.specs.Histories.{IsAnswer, IsLegal, after, bounds_of, event_of, is_changed, write_of}
use Rattle.bihash_rule.specs.Callers.{Agrees, IsLawfulCaller, opening_in}
use Rattle.bihash_rule.specs.Logs.{Begins, FollowEach, Follows, IsLog, call_if, calls_by, writes_on}
use Rattle.bihash_steps.specs.BucketSteps.{acting}
use Rattle.bihash_rule.specs.declared.view.Call.{Call}
use Rattle.bihash_rule.specs.declared.view.Entry.{Entry}
use Rattle.bihash_rule.specs.declared.view.Openings.{Openings}
use Rattle.bihash_rule.specs.declared.view.Record.{Record}
use Rattle.bihash_rule.specs.declared.view.View.{View}
use Rattle.bihash_rule.specs.declared.view.Write.{Write}
use Rattle.bihash_steps.proofs.Lists.{at_after, at_either, within}
use Rattle.bihash_steps.proofs.LogLemmas.{begin_at, begins_refl, calls_by-append, none_by, read_writes, write_else, write_here, writes_on-append}
use Rattle.bihash_steps.proofs.Prefixes.{after_longer}
use Rattle.bihash_table.specs.Answers.{entry_of}
use Rattle.bihash_laws.specs.Orders.{IsCommonLog, IsOneOrder, calls_there}
use Rattle.bihash_laws.specs.CallRuns.{IsLawfulAnswer, IsCallRun, writes_after}
use Rattle.bihash_laws.specs.Serializations.{AreStamped}
use Rattle.bihash_laws.proofs.MapSteps.{after_next, no_more, one_more, step_changes, step_leaves}

-- the last element of a list
pub last_at : {A : Type 0} (xs : List A) (x : A) → get_elem? (xs ++ x ∷ []) (length xs) ≡ some x
last_at xs x = let last : length xs ≡ length xs + 0 = omega arith in ap (get_elem? (xs ++ x ∷ [])) last ∙ at_after xs (x ∷ []) 0 x refl

-- ---- The calls on one bucket

module _ (z : Sizes) (openings : Openings) (b : ℕ) where
  abbrev map_after : List Write → Pairs
  map_after H = after (opening_in openings b) H (length H)

  -- these calls lead from the writes H to the writes K
  record Lead (H : List Write) (calls : List Call) (K : List Write) : Type 0 where
    run : IsCallRun z (map_after H) (length H) calls (map_after K) (length K)
    stamps : AreStamped (length H) calls

  one_write : (H : List Write) (by : ℕ) (c : Call) (calls : List Call) (K : List Write) → is_changed c.reply ≡ true
      → c.stamp ≡ length (H ++ write_of by c ∷ []) → IsLegal z (opening_in openings b) (H ++ write_of by c ∷ []) by c
      → Lead (H ++ write_of by c ∷ []) calls K → Lead H (c ∷ calls) K
  one_write H by c calls K wrote stamp legal rest =
      let w : Write = write_of by c in
      let n : ℕ = length H in
      let long : length (H ++ w ∷ []) ≡ n + 1 = length-append H (w ∷ []) in
      let o = legal.write wrote in
      let place : o.0 ≡ n = let s = o.1 in omega arith in
      let before : after (opening_in openings b) (H ++ w ∷ []) n ≡ map_after H
      = after_longer (opening_in openings b) H (H ++ w ∷ []) n (record { rest = w ∷ []; whole = refl }) (omega arith) in
      let answer : IsAnswer z (map_after H) n c = subst (λ (m : Pairs). IsAnswer z m n c) before
      (subst (λ p. IsAnswer z (after (opening_in openings b) (H ++ w ∷ []) p) p c) place o.3) in
      let leaves : answer.0 ≡ map_after (H ++ w ∷ [])
      = step_changes (bounds_of z) (map_after H) answer.0 n (event_of c) answer.1 wrote
      ∙ ((ap (λ (m : Pairs). written m w.key w.change w.recycling) (sym before)
      ∙ sym (after_next (opening_in openings b) (H ++ w ∷ []) n w (last_at H w))) ∙ ap (after (opening_in openings b) (H ++ w ∷ [])) (sym long)) in
      let count : writes_after n c ≡ length (H ++ w ∷ []) = one_more c.reply n wrote ∙ sym long in record {
        run = (
          answer.0,
          answer.1,
          subst (λ (q : Pairs × ℕ). IsCallRun z q.0 q.1 calls (map_after K) (length K)) (λ i. (sym leaves i, sym count i)) rest.run,
        );
        stamps = (stamp ∙ sym count, subst (λ (k : ℕ). AreStamped k calls) (sym count) rest.stamps);
      }

  one_read : (H : List Write) (by : ℕ) (c : Call) (calls : List Call) (K : List Write) → is_changed c.reply ≡ false
      → c.stamp ≡ length H → IsLegal z (opening_in openings b) H by c → Lead H calls K → Lead H (c ∷ calls) K
  one_read H by c calls K kept stamp legal rest =
      let n : ℕ = length H in
      let answer : IsAnswer z (map_after H) n c = subst (λ p. IsAnswer z (after (opening_in openings b) H p) p c) stamp (legal.other kept) in
      let leaves : answer.0 ≡ map_after H = step_leaves (bounds_of z) (map_after H) answer.0 n (event_of c) answer.1 kept in
      let count : writes_after n c ≡ n = no_more c.reply n kept in record {
        run = (
          answer.0,
          answer.1,
          subst (λ (q : Pairs × ℕ). IsCallRun z q.0 q.1 calls (map_after K) (length K)) (λ i. (sym leaves i, sym count i)) rest.run,
        );
        stamps = (stamp ∙ sym count, subst (λ (k : ℕ). AreStamped k calls) (sym count) rest.stamps);
      }

  -- the writes that an entry adds
  one_entry : (before : List Entry) (e : Entry) (more : List Write) → writes_on b (e ∷ []) ≡ more
      → writes_on b (before ++ e ∷ []) ≡ writes_on b before ++ more
  one_entry before e more own = writes_on-append b before (e ∷ []) ∙ ap (λ (h : List Write). writes_on b before ++ h) own

  pub follows_here : (before : List Entry) (e : Entry) → e.call.bucket ≡ b → Follows z openings before e
      → (e.call.stamp ≡ length (writes_on b (before ++ e ∷ []))) × IsLegal z (opening_in openings b) (writes_on b (before ++ e ∷ [])) e.by e.call
  follows_here before e home f = subst
      (λ (d : ℕ). (e.call.stamp ≡ length (writes_on d (before ++ e ∷ []))) × IsLegal z (opening_in openings d) (writes_on d (before ++ e ∷ [])) e.by e.call)
      home (f.now, f.legal)

  -- one entry more, which follows those before it
  module _ (before es : List Entry) (e : Entry) (follows : Follows z openings before e) (K : List Write)
      (rest : Lead (writes_on b (before ++ e ∷ [])) (calls_there b es) K) where
    here : e.call.bucket ≡ b → (t : Bool) → is_changed e.call.reply ≡ t → Lead (writes_on b before) (e.call ∷ calls_there b es) K
    here home true wrote =
        let w : Write = write_of e.by e.call in
        let more : writes_on b (before ++ e ∷ []) ≡ writes_on b before ++ w ∷ [] = one_entry before e (w ∷ []) (write_here b e wrote home) in
        let f = follows_here before e home follows in
        one_write (writes_on b before) e.by e.call (calls_there b es) K wrote (f.0 ∙ ap length more)
        (subst (λ (h : List Write). IsLegal z (opening_in openings b) h e.by e.call) more f.1)
        (subst (λ (h : List Write). Lead h (calls_there b es) K) more rest)
    here home false kept =
        let none : writes_on b (before ++ e ∷ []) ≡ writes_on b before
        = one_entry before e [] (read_writes b e kept) ∙ append-nil (writes_on b before) in
        let f = follows_here before e home follows in
        one_read (writes_on b before) e.by e.call (calls_there b es) K kept (f.0 ∙ ap length none)
        (subst (λ (h : List Write). IsLegal z (opening_in openings b) h e.by e.call) none f.1)
        (subst (λ (h : List Write). Lead h (calls_there b es) K) none rest)

    elsewhere : e.call.bucket ≢ b → (t : Bool) → is_changed e.call.reply ≡ t → Lead (writes_on b before) (calls_there b es) K
    elsewhere other true wrote = subst (λ (h : List Write). Lead h (calls_there b es) K)
        (one_entry before e [] (write_else b e wrote other) ∙ append-nil (writes_on b before)) rest
    elsewhere other false kept = subst (λ (h : List Write). Lead h (calls_there b es) K)
        (one_entry before e [] (read_writes b e kept) ∙ append-nil (writes_on b before)) rest

    one_more_entry : Lead (writes_on b before) (calls_there b (e ∷ es)) K
    one_more_entry = elim (eqb_tells e.call.bucket b) [
      | inl (test, home) ↦ subst (λ (t : Bool). Lead (writes_on b before) (call_if t e.call (calls_there b es)) K) (sym test)
          (here home (is_changed e.call.reply) refl)
      | inr (test, other) ↦ subst (λ (t : Bool). Lead (writes_on b before) (call_if t e.call (calls_there b es)) K) (sym test)
          (elsewhere other (is_changed e.call.reply) refl)
    ]

  leads : (before es : List Entry) → FollowEach z openings before es → Lead (writes_on b before) (calls_there b es) (writes_on b (before ++ es))
  leads before [] each = subst (λ (l : List Entry). Lead (writes_on b before) [] (writes_on b l)) (sym (append-nil before))
      record { run = (refl, refl); stamps = tt }
  leads before (e ∷ es) each = one_more_entry before es e each.0 (writes_on b (before ++ e ∷ es))
      (subst (λ (l : List Entry). Lead (writes_on b (before ++ e ∷ [])) (calls_there b es) (writes_on b l)) (append_assoc before (e ∷ []) es)
      (leads (before ++ e ∷ []) es each.1))

-- a log that has the calls of these records is an order of them
one_order_of : (z : Sizes) (openings : Openings) (records : List Record) (log : List Entry) → IsLog z openings log
    → ((i : ℕ) (r : Record) → get_elem? records i ≡ some r → calls_by r.number log ≡ r.calls) → IsOneOrder z openings records log
one_order_of z openings records log legal calls = record {
  run = λ b inside. (leads z openings b [] log legal).run;
  stamps = λ b inside. (leads z openings b [] log legal).stamps;
  order = calls;
}

-- ---- Callers

pub own_order : (z : Sizes) (v : View) → IsLawfulCaller z v → IsOneOrder z v.known.openings v.records v.log
own_order z v caller = one_order_of z v.known.openings v.records v.log caller.logged.legal caller.logged.calls

-- the calls of a record that a beginning of the log has are those that the log has, where no later entry bears its number
in_longer : (log L : List Entry) (r : Record) → (begins : Begins log L) → ((k : ℕ) (e : Entry) → get_elem? L k ≡ some e → e.by ≡ r.number → k < length log)
    → calls_by r.number log ≡ r.calls → calls_by r.number L ≡ r.calls
in_longer log L r begins own calls =
    let none : calls_by r.number begins.rest ≡ [] = none_by r.number begins.rest (λ k e at by.
    let reached : length log + k < length log = own (length log + k) e
    (ap (λ (l : List Entry). get_elem? l (length log + k)) begins.whole ∙ at_after log begins.rest k e at) by in omega arith) in
    ap (calls_by r.number) begins.whole ∙ (calls_by-append r.number log begins.rest
    ∙ (ap (λ (cs : List Call). calls_by r.number log ++ cs) none ∙ (append-nil (calls_by r.number log) ∙ calls)))

pub common_log : (z : Sizes) (v w : View) → IsLawfulCaller z v → IsLawfulCaller z w → Agrees v w → (log : List Entry) × IsCommonLog z v w log
common_log z v w one two agree = elim agree.logs.one [
  | inl longer ↦ (
    w.log,
    common w.log (inr refl) longer (begins_refl w.log)
        (subst (λ (o : Openings). IsLog z o w.log) (sym agree.known.0) two.logged.legal)
        (λ i r at. in_longer v.log w.log r longer (λ k e f by. agree.logs.own k e f (i, r, at, sym by)) (one.logged.calls i r at)) two.logged.calls,
  )
  | inr longer ↦ (
    v.log,
    common v.log (inl refl) (begins_refl v.log) longer one.logged.legal one.logged.calls
        (λ i r at. in_longer w.log v.log r longer (λ k e f by. agree.logs.other_own k e f (i, r, at, sym by)) (two.logged.calls i r at)),
  )
]
  where
    common : (log : List Entry) → (log ≡ v.log) ⊎ (log ≡ w.log) → Begins v.log log → Begins w.log log → IsLog z v.known.openings log
        → ((i : ℕ) (r : Record) → get_elem? v.records i ≡ some r → calls_by r.number log ≡ r.calls)
        → ((i : ℕ) (r : Record) → get_elem? w.records i ≡ some r → calls_by r.number log ≡ r.calls) → IsCommonLog z v w log
    common log known begins other_begins legal first second = record {
      known = known;
      begins = begins;
      other_begins = other_begins;
      order = one_order_of z v.known.openings (v.records ++ w.records) log legal (λ i r at. elim (at_either v.records w.records i r at) [
        | inl h ↦ first i r h
        | inr h ↦ second h.0 r h.2
      ]);
    }

-- an answered call stands after each entry that its caller knew
pub comes_after : (z : Sizes) (b : ℕ) (v w : View) (e : Event) (a : IsLawfulAnswer z b v w e) (p : ℕ) (x : Entry) → get_elem? v.log p ≡ some x
    → (get_elem? w.log p ≡ some x) × (k : ℕ) × (p < k)
    × (get_elem? w.log k ≡ some (record { by = acting v.records; call = entry_of z (length a.answered.history) e a.answered.noted }))
comes_after z b v w e a p x at =
    let t = a.answered.entered in
    let entry : Entry = record { by = acting v.records; call = entry_of z (length a.answered.history) e a.answered.noted } in
    let before : get_elem? t.before p ≡ some x = begin_at v.log t.before p x t.begins at in (
      ap (λ (l : List Entry). get_elem? l p) t.is ∙ begin_at t.before (t.before ++ entry ∷ []) p x (record { rest = entry ∷ []; whole = refl }) before,
      length t.before,
      within t.before p x before,
      ap (λ (l : List Entry). get_elem? l (length t.before)) t.is ∙ last_at t.before entry,
    )
