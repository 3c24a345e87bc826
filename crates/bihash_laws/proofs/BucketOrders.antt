-- The calls on a bucket in one order: that of the log as far as the known writes go, and behind it the writes that are
-- known beyond the log.
use Rattle.std.proofs.Common.{◌≡◌, ◌≢◌, ◌⊎◌, ◌∙◌, ◌+◌, ◌<◌, ◌≤◌, ℕ, zero, suc, Bool, true, false, cond, eqb, None, List, [], ◌∷◌, ◌++◌, length, map, ap, append-nil, append_assoc, arith, length-append, refl, sym, subst, inl, inr}
use Rattle.std.specs.List.{All, filter}
use Rattle.std.specs.FinMap.{get}
use Rattle.std.proofs.lemmas.Bool.Decides.{eqb_tells}
use Rattle.std.proofs.lemmas.List.Elements.{All-cons, All-nil, All-weaker}
use mathlib.Core.Option.{some, some-ne-none, some-injective}
use lib.ListN.{get_elem?}
use Rattle.bihash_words.specs.Maps.{Pairs, IsEvent, written}
use Rattle.bihash_words.specs.Sizes.{Sizes}
use Rattle.bihash_words.specs.declared.patch.Reply.TheVariants.{Changed}
use Rattle.bihash_rule.specs.Words.{buckets}
use Rattle.bihash_rule.specs.Histories.{IsAnswer, IsLegal, after, bounds_of, event_of, event_of_write, is_changed, write_of}
use Rattle.bihash_rule.specs.Callers.{AreOneList, HasMade, HasMadeAll, HasNumber, HasWrite, IsLawfulCaller, IsWhole, known_at, opening_at, opening_in}
use Rattle.bihash_rule.specs.Logs as logs
use Rattle.bihash_rule.specs.Logs.{FollowEach, Follows, IsLog, call_if, writes_on}
use Rattle.bihash_steps.specs.Steps.{HaveBearers}
use Rattle.bihash_rule.specs.declared.view.Write.{Write}
use Rattle.bihash_rule.specs.declared.view.Call.{Call}
use Rattle.bihash_rule.specs.declared.view.Entry.{Entry}
use Rattle.bihash_rule.specs.declared.view.Openings.{Openings}
use Rattle.bihash_rule.specs.declared.view.Record.{Record}
use Rattle.bihash_rule.specs.declared.view.View.{View}
use Rattle.bihash_steps.proofs.Lists.{at_after}
use Rattle.bihash_steps.proofs.LogLemmas.{writes_on-append}
use Rattle.bihash_steps.proofs.Prefixes.{after_longer}
use Rattle.bihash_laws.specs.CallRuns.{AreLegal, IsCallRun, calls_on, writes_after}
use Rattle.bihash_laws.specs.Serializations.{AreStamped, IsCalled, IsSerialization, Operation, calls_by, calls_in, writes_in}
use Rattle.bihash_laws.proofs.LogOrders.{follows_here}
use Rattle.bihash_laws.proofs.LoggedCalls.{called_in, entry_of_call, more_else, more_here, more_read, none_on, on_if-else, on_if-here, stamped}
use Rattle.bihash_laws.proofs.MapSteps.{after_next, no_more, one_more, step_changes, step_leaves}

-- ---- Whose a number is

abbrev pub is_own : List Record → ℕ → Bool
is_own [] n = false
is_own (r ∷ rs) n = cond (eqb r.number n) true (is_own rs n)

data Owned (rs : List Record) (n : ℕ) : Type 0 where
  owned : is_own rs n ≡ true → HasNumber rs n → Owned rs n
  strange : is_own rs n ≡ false → ((i : ℕ) (r : Record) → get_elem? rs i ≡ some r → r.number ≢ n) → Owned rs n

own_tells : (rs : List Record) (n : ℕ) → Owned rs n
own_tells [] n = strange refl (λ i r at. absurd (some-ne-none r (sym at)))
own_tells (r ∷ rs) n = elim (eqb_tells r.number n) [
  | inl (test, is) ↦ owned (ap (λ (t : Bool). cond t true (is_own rs n)) test) (0, r, refl, is)
  | inr (test, is_not) ↦ go (own_tells rs n) (ap (λ (t : Bool). cond t true (is_own rs n)) test) is_not
]
  where
    neither : r.number ≢ n → ((i : ℕ) (q : Record) → get_elem? rs i ≡ some q → q.number ≢ n) → (i : ℕ) (q : Record)
        → get_elem? (r ∷ rs) i ≡ some q → q.number ≢ n
    neither first others zero q at h = first (ap (λ (x : Record). x.number) (some-injective r q at) ∙ h)
    neither first others (suc i) q at h = others i q at h

    go : Owned rs n → is_own (r ∷ rs) n ≡ is_own rs n → r.number ≢ n → Owned (r ∷ rs) n
    go (owned here_it has) same first = owned (same ∙ here_it) (suc has.0, has.1, has.2, has.3)
    go (strange not_it none) same first = strange (same ∙ not_it) (neither first none)

-- ---- Operations

abbrev pub operation : ℕ → Call → Operation
operation by c = record { by = by; call = c }

one_call : (t : Operation) (us : List Operation) (s : Bool) → calls_in (cond s (t ∷ us) us) ≡ call_if s t.call (calls_in us)
one_call t us true = refl
one_call t us false = refl

calls_by-cons : (number : ℕ) (t : Operation) (us : List Operation) → calls_by number (t ∷ us) ≡ call_if (eqb t.by number) t.call (calls_by number us)
calls_by-cons number t us = one_call t (filter (λ t. eqb t.by number) us) (eqb t.by number)

-- the call that made write n + 1 of bucket b, at the map m
abbrev pub call_of : ℕ → ℕ → Pairs → Write → Call
call_of b n m w = record {
  bucket = b;
  stamp = n + 1;
  key = w.key;
  found = get m w.key;
  change = w.change;
  reply = Changed (get m w.key);
  recycling = w.recycling;
  store = None;
}

abbrev pub cases : {A : Type 0} → Bool → Bool → A → A → A → A
cases false changed elsewhere wrote read = elsewhere
cases true true elsewhere wrote read = wrote
cases true false elsewhere wrote read = read

one_tail : (x y : Write) (xs ys : List Write) → AreOneList (x ∷ xs) (y ∷ ys) → (x ≡ y) × AreOneList xs ys
one_tail x y xs ys (inl p) = let h : y ∷ ys ≡ x ∷ (xs ++ p.rest) = p.whole in let head : x ≡ y = cc in let tail : ys ≡ xs ++ p.rest = cc in
    (head, inl record { rest = p.rest; whole = tail })
one_tail x y xs ys (inr p) = let h : x ∷ xs ≡ y ∷ (ys ++ p.rest) = p.whole in let head : x ≡ y = cc in let tail : xs ≡ ys ++ p.rest = cc in
    (head, inr record { rest = p.rest; whole = tail })

-- Records whose calls on bucket b are legal on this history and stand in this log, which matches the history.
pub record AreLogged (z : Sizes) (openings : Openings) (b : ℕ) (log : List Entry) (H : List Write) (records : List Record) : Type 0 where
  pub legal : AreLegal z b (opening_in openings b) H records
  pub own : (i n : ℕ) (r : Record) (w : Write) → get_elem? records i ≡ some r → get_elem? H n ≡ some w → w.by ≡ r.number
      → HasWrite r.calls b (n + 1)
  pub calls : (i : ℕ) (r : Record) → get_elem? records i ≡ some r → logs.calls_by r.number log ≡ r.calls
  pub is_log : IsLog z openings log
  pub matches : AreOneList (writes_on b log) H
  pub steps : (n : ℕ) (w : Write) → get_elem? H n ≡ some w
      → IsEvent (bounds_of z) (after (opening_in openings b) H n) n (event_of_write (after (opening_in openings b) H n) w)
      (written (after (opening_in openings b) H n) w.key w.change w.recycling)

module _ (z : Sizes) (openings : Openings) (b : ℕ) (log : List Entry) (H : List Write) (records : List Record) where
  abbrev pub map_at : ℕ → Pairs
  map_at n = after (opening_in openings b) H n

  -- the writes that are known beyond the log, which follow n others
  abbrev pub unlogged : ℕ → List Write → List Operation
  unlogged n [] = []
  unlogged n (w ∷ ws) = operation w.by (call_of b n (map_at n) w) ∷ unlogged (n + 1) ws

  abbrev pub as_known : Entry → List Write → (List Write → List Operation) → List Operation
  as_known e [] then = []
  as_known e (w ∷ ws) then = operation e.by e.call ∷ then ws

  -- of these entries, which follow n writes, those on the bucket that are writes or the records' own, up to these writes
  abbrev pub picked : ℕ → List Write → List Entry → List Operation
  picked n ws [] = unlogged n ws
  picked n ws (e ∷ es) = cases (eqb e.call.bucket b) (is_changed e.call.reply) (picked n ws es) (as_known e ws (λ l. picked (n + 1) l es))
      (cond (is_own records e.by) (operation e.by e.call ∷ picked n ws es) (picked n ws es))

  abbrev pub operations : List Operation
  operations = picked 0 H log

  -- the entries that are left of the log, and the writes that are left of the history
  record Stands (before es : List Entry) (n : ℕ) (ws : List Write) : Type 0 where
    of : log ≡ before ++ es
    count : n ≡ length (writes_on b before)
    whole : H ≡ writes_on b before ++ ws
    follows : FollowEach z openings before es
    one : AreOneList (writes_on b es) ws

  next_of : (before es : List Entry) (e : Entry) → log ≡ before ++ e ∷ es → log ≡ (before ++ e ∷ []) ++ es
  next_of before es e of = of ∙ sym (append_assoc before (e ∷ []) es)

  -- an entry that is no write of the bucket
  no_write : (before es : List Entry) (e : Entry) (n : ℕ) (ws : List Write) → ((l : List Entry) → writes_on b (e ∷ l) ≡ writes_on b l)
      → Stands before (e ∷ es) n ws → Stands (before ++ e ∷ []) es n ws
  no_write before es e n ws none s =
      let same : writes_on b (before ++ e ∷ []) ≡ writes_on b before = writes_on-append b before (e ∷ [])
      ∙ (ap (λ (l : List Write). writes_on b before ++ l) (none []) ∙ append-nil (writes_on b before)) in record {
        of = next_of before es e s.of;
        count = s.count ∙ ap length (sym same);
        whole = s.whole ∙ ap (λ (l : List Write). l ++ ws) (sym same);
        follows = s.follows.1;
        one = subst (λ (l : List Write). AreOneList l ws) (none es) s.one;
      }

  -- an entry that is the next write of the bucket
  its_write : (e : Entry) (es : List Entry) (w : Write) (l : List Write) → eqb e.call.bucket b ≡ true → is_changed e.call.reply ≡ true
      → AreOneList (writes_on b (e ∷ es)) (w ∷ l) → (write_of e.by e.call ≡ w) × AreOneList (writes_on b es) l
  its_write e es w l test wrote one = one_tail (write_of e.by e.call) w (writes_on b es) l
      (subst (λ (k : List Write). AreOneList k (w ∷ l)) (more_here b e es wrote test) one)

  a_write : (before es : List Entry) (e : Entry) (n : ℕ) (w : Write) (l : List Write) → eqb e.call.bucket b ≡ true → is_changed e.call.reply ≡ true
      → Stands before (e ∷ es) n (w ∷ l) → Stands (before ++ e ∷ []) es (n + 1) l
  a_write before es e n w l test wrote s =
      let more : writes_on b (before ++ e ∷ []) ≡ writes_on b before ++ write_of e.by e.call ∷ [] = writes_on-append b before (e ∷ [])
      ∙ ap (λ (k : List Write). writes_on b before ++ k) (more_here b e [] wrote test) in
      let long = ap length more in
      let size = length-append (writes_on b before) (write_of e.by e.call ∷ []) in
      let count = s.count in
      let tail = its_write e es w l test wrote s.one in record {
        of = next_of before es e s.of;
        count = omega arith;
        whole = s.whole ∙ (ap (λ (x : Write). writes_on b before ++ x ∷ l) (sym tail.0)
            ∙ (sym (append_assoc (writes_on b before) (write_of e.by e.call ∷ []) l) ∙ ap (λ (k : List Write). k ++ l) (sym more)));
        follows = s.follows.1;
        one = tail.1;
      }

  -- the place of a write
  first_left : (before es : List Entry) (n : ℕ) (w : Write) (ws : List Write) → Stands before es n (w ∷ ws) → get_elem? H n ≡ some w
  first_left before es n w ws s = ap (λ (l : List Write). get_elem? l n) s.whole
      ∙ (ap (get_elem? (writes_on b before ++ w ∷ ws)) (let c = s.count in let d : n ≡ length (writes_on b before) + 0 = omega arith in d)
      ∙ at_after (writes_on b before) (w ∷ ws) 0 w refl)

  all_known : (before es : List Entry) (n : ℕ) → Stands before es n [] → n ≡ length H
  all_known before es n s = s.count ∙ ap length (sym (s.whole ∙ append-nil (writes_on b before)))

  -- what an entry of the bucket is that follows those before it
  record IsNext (before : List Entry) (e : Entry) : Type 0 where
    stamp : e.call.stamp ≡ length (writes_on b (before ++ e ∷ []))
    legal : IsLegal z (opening_in openings b) (writes_on b (before ++ e ∷ [])) e.by e.call

  next_here : (before es : List Entry) (e : Entry) (n : ℕ) (ws : List Write) → e.call.bucket ≡ b → Stands before (e ∷ es) n ws → IsNext before e
  next_here before es e n ws home s = let f = follows_here z openings b before e home s.follows.0 in record { stamp = f.0; legal = f.1 }

  -- ---- They are a run

  abbrev pub IsHere : Operation → Type 0
  IsHere t = t.call.bucket ≡ b

  -- an operation that is a record's or a write of the history
  abbrev pub IsOurs : Operation → Type 0
  IsOurs t = HasNumber records t.by ⊎ ((is_changed t.call.reply ≡ true) × (n : ℕ) × (get_elem? H n ≡ some (write_of t.by t.call)))

  -- what is to be shown of the operations after n writes
  pub record AreGood (n : ℕ) (ws : List Write) (ts : List Operation) : Type 0 where
    pub run : IsCallRun z (map_at n) n (calls_in ts) (map_at (length H)) (length H)
    pub writes : writes_in ts ≡ ws
    pub stamps : AreStamped n (calls_in ts)
    pub home : All IsHere ts
    pub ours : All IsOurs ts

  none_good : (n : ℕ) → n ≡ length H → AreGood n [] []
  none_good n all = record { run = (ap map_at all, all); writes = refl; stamps = tt; home = All-nil IsHere; ours = All-nil IsOurs }

  read_good : (n : ℕ) (ws : List Write) (t : Operation) (ts : List Operation) → is_changed t.call.reply ≡ false → IsAnswer z (map_at n) n t.call
      → t.call.stamp ≡ n → t.call.bucket ≡ b → HasNumber records t.by → AreGood n ws ts → AreGood n ws (t ∷ ts)
  read_good n ws t ts kept answer stamp home ours good =
      let leaves : answer.0 ≡ map_at n = step_leaves (bounds_of z) (map_at n) answer.0 n (event_of t.call) answer.1 kept in
      let count : writes_after n t.call ≡ n = no_more t.call.reply n kept in
      let W : List Operation = filter (λ x. is_changed x.call.reply) ts in record {
        run = (
          answer.0,
          answer.1,
          subst (λ (q : Pairs × ℕ). IsCallRun z q.0 q.1 (calls_in ts) (map_at (length H)) (length H)) (λ i. (sym leaves i, sym count i)) good.run,
        );
        writes = ap (λ (s : Bool). map (λ (x : Operation). write_of x.by x.call) (cond s (t ∷ W) W)) kept ∙ good.writes;
        stamps = (stamp ∙ sym count, subst (λ (k : ℕ). AreStamped k (calls_in ts)) (sym count) good.stamps);
        home = All-cons IsHere t ts home good.home;
        ours = All-cons IsOurs t ts (inl ours) good.ours;
      }

  write_good : (n : ℕ) (w : Write) (ws : List Write) (t : Operation) (ts : List Operation) → is_changed t.call.reply ≡ true
      → IsAnswer z (map_at n) n t.call → t.call.stamp ≡ n + 1 → t.call.bucket ≡ b → write_of t.by t.call ≡ w → get_elem? H n ≡ some w
      → AreGood (n + 1) ws ts → AreGood n (w ∷ ws) (t ∷ ts)
  write_good n w ws t ts wrote answer stamp home is at good =
      let there : get_elem? H n ≡ some (write_of t.by t.call) = at ∙ ap some (sym is) in
      let leaves : answer.0 ≡ map_at (n + 1) = step_changes (bounds_of z) (map_at n) answer.0 n (event_of t.call) answer.1 wrote
      ∙ sym (after_next (opening_in openings b) H n (write_of t.by t.call) there) in
      let count : writes_after n t.call ≡ n + 1 = one_more t.call.reply n wrote in
      let W : List Operation = filter (λ x. is_changed x.call.reply) ts in record {
        run = (
          answer.0,
          answer.1,
          subst (λ (q : Pairs × ℕ). IsCallRun z q.0 q.1 (calls_in ts) (map_at (length H)) (length H)) (λ i. (sym leaves i, sym count i)) good.run,
        );
        writes = ap (λ (s : Bool). map (λ (x : Operation). write_of x.by x.call) (cond s (t ∷ W) W)) wrote ∙ (λ i. is i ∷ good.writes i);
        stamps = (stamp ∙ sym count, subst (λ (k : ℕ). AreStamped k (calls_in ts)) (sym count) good.stamps);
        home = All-cons IsHere t ts home good.home;
        ours = All-cons IsOurs t ts (inr (wrote, n, there)) good.ours;
      }

  module _ (law : AreLogged z openings b log H records) where
    unlogged_good : (K : List Write) (n : ℕ) (ws : List Write) → H ≡ K ++ ws → n ≡ length K → AreGood n ws (unlogged n ws)
    unlogged_good K n [] whole count = none_good n (count ∙ ap length (sym (whole ∙ append-nil K)))
    unlogged_good K n (w ∷ ws) whole count =
        let at : get_elem? H n ≡ some w = ap (λ (l : List Write). get_elem? l n) whole
        ∙ (ap (get_elem? (K ++ w ∷ ws)) (let d : n ≡ length K + 0 = omega arith in d) ∙ at_after K (w ∷ ws) 0 w refl) in
        let long = length-append K (w ∷ []) in
        write_good n w ws (operation w.by (call_of b n (map_at n) w)) (unlogged (n + 1) ws) refl
        (written (map_at n) w.key w.change w.recycling, law.steps n w at) refl refl refl at
        (unlogged_good (K ++ w ∷ []) (n + 1) ws (whole ∙ sym (append_assoc K (w ∷ []) ws)) (omega arith))

    abbrev Again : List Entry → Entry → List Entry → Type 0
    Again before e es = (m : ℕ) (l : List Write) → Stands (before ++ e ∷ []) es m l → AreGood m l (picked m l es)

    good : (before es : List Entry) (n : ℕ) (ws : List Write) → Stands before es n ws → AreGood n ws (picked n ws es)
    good before [] n ws s = unlogged_good (writes_on b before) n ws s.whole s.count
    good before (e ∷ es) n ws s = let again : Again before e es = λ m l st. good (before ++ e ∷ []) es m l st in elim (eqb_tells e.call.bucket b) [
      | inl (test, home) ↦ subst (λ (t : Bool). AreGood n ws (cases t (is_changed e.call.reply) beside wrote_it read_it)) (sym test)
          (here again test home (is_changed e.call.reply) refl)
      | inr (test, other) ↦ subst (λ (t : Bool). AreGood n ws (cases t (is_changed e.call.reply) beside wrote_it read_it)) (sym test)
          (again n ws (no_write before es e n ws (λ l. more_else b e l test) s))
    ]
      where
        beside : List Operation
        beside = picked n ws es

        wrote_it : List Operation
        wrote_it = as_known e ws (λ l. picked (n + 1) l es)

        read_it : List Operation
        read_it = cond (is_own records e.by) (operation e.by e.call ∷ picked n ws es) (picked n ws es)

        written_here : Again before e es → (test : eqb e.call.bucket b ≡ true) → e.call.bucket ≡ b → is_changed e.call.reply ≡ true → (l : List Write)
            → Stands before (e ∷ es) n l → AreGood n l (as_known e l (λ l. picked (n + 1) l es))
        written_here again test home wrote [] st = none_good n (all_known before (e ∷ es) n st)
        written_here again test home wrote (w ∷ l) st =
            let next = next_here before es e n (w ∷ l) home st in
            let then = a_write before es e n w l test wrote st in
            let stamp : e.call.stamp ≡ n + 1 = next.stamp ∙ sym then.count in
            let o = next.legal.write wrote in
            let place : o.0 ≡ n = let told = o.1 in omega arith in
            let known : map_at n ≡ after (opening_in openings b) (writes_on b (before ++ e ∷ [])) n
            = after_longer (opening_in openings b) (writes_on b (before ++ e ∷ [])) H n (record { rest = l; whole = then.whole })
            (let count = then.count in omega arith) in
            let answer : IsAnswer z (map_at n) n e.call = subst (λ (m : Pairs). IsAnswer z m n e.call) (sym known)
            (subst (λ p. IsAnswer z (after (opening_in openings b) (writes_on b (before ++ e ∷ [])) p) p e.call) place o.3) in
            write_good n w l (operation e.by e.call) (picked (n + 1) l es) wrote answer stamp home (its_write e es w l test wrote st.one).0
            (first_left before (e ∷ es) n w l st) (again (n + 1) l then)

        a_read : Again before e es → (test : eqb e.call.bucket b ≡ true) → e.call.bucket ≡ b → is_changed e.call.reply ≡ false → Owned records e.by → AreGood n ws read_it
        a_read again test home kept (strange not_it none) = subst (λ (t : Bool). AreGood n ws (cond t (operation e.by e.call ∷ picked n ws es) (picked n ws es)))
            (sym not_it) (again n ws (no_write before es e n ws (λ l. more_read b e l kept) s))
        a_read again test home kept (owned here_it has) =
            let next = next_here before es e n ws home s in
            let then = no_write before es e n ws (λ l. more_read b e l kept) s in
            let stamp : e.call.stamp ≡ n = next.stamp ∙ sym then.count in
            let known : map_at n ≡ after (opening_in openings b) (writes_on b (before ++ e ∷ [])) n
            = after_longer (opening_in openings b) (writes_on b (before ++ e ∷ [])) H n (record { rest = ws; whole = then.whole })
            (let c = then.count in omega arith) in
            let answer : IsAnswer z (map_at n) n e.call = subst (λ (m : Pairs). IsAnswer z m n e.call) (sym known)
            (subst (λ p. IsAnswer z (after (opening_in openings b) (writes_on b (before ++ e ∷ [])) p) p e.call) stamp (next.legal.other kept)) in
            subst (λ (t : Bool). AreGood n ws (cond t (operation e.by e.call ∷ picked n ws es) (picked n ws es))) (sym here_it)
            (read_good n ws (operation e.by e.call) (picked n ws es) kept answer stamp home has (again n ws then))

        here : Again before e es → (test : eqb e.call.bucket b ≡ true) → e.call.bucket ≡ b → (t : Bool) → is_changed e.call.reply ≡ t
            → AreGood n ws (cases true t beside wrote_it read_it)
        here again test home true wrote = written_here again test home wrote ws s
        here again test home false kept = a_read again test home kept (own_tells records e.by)

    all_stand : Stands [] log 0 H
    all_stand = record { of = refl; count = refl; whole = refl; follows = law.is_log; one = law.matches }

    pub all_good : AreGood 0 H operations
    all_good = good [] log 0 H all_stand

    -- ---- Each record has its calls

    module _ (i : ℕ) (r : Record) (at : get_elem? records i ≡ some r) where
      abbrev its : List Entry → List Call
      its es = calls_on b (logs.calls_by r.number es)

      -- no call of it has a stamp above the known writes
      few : (k : ℕ) (x : Entry) → get_elem? log k ≡ some x → x.by ≡ r.number → x.call.bucket ≡ b → x.call.stamp ≤ length H
      few k x there by home = let h = called_in r.number k log x there by in
          (law.legal i h.0 r x.call at (ap (λ (cs : List Call). get_elem? cs h.0) (sym (law.calls i r at)) ∙ h.1) home).seen

      -- the log has each write of it that is known
      reached : (n : ℕ) (w : Write) → get_elem? H n ≡ some w → w.by ≡ r.number → n + 1 ≤ length (writes_on b log)
      reached n w there by =
          let h = law.own i n r w at there by in
          let x = entry_of_call r.number h.0 log h.1 (ap (λ (cs : List Call). get_elem? cs h.0) (law.calls i r at) ∙ h.2) in
          let most = (stamped z openings [] log law.is_log x.place x.entry x.at).most in
          let home : x.entry.call.bucket ≡ b = ap (λ (c : Call). c.bucket) x.is ∙ h.3 in
          let stamp : x.entry.call.stamp ≡ n + 1 = ap (λ (c : Call). c.stamp) x.is ∙ h.5 in
          let same = ap (λ (d : ℕ). length (writes_on d log)) home in omega arith

      none_unlogged : (n : ℕ) (ws : List Write) → ((k : ℕ) (w : Write) → get_elem? ws k ≡ some w → w.by ≢ r.number) → calls_by r.number (unlogged n ws) ≡ []
      none_unlogged n [] none = refl
      none_unlogged n (w ∷ ws) none = calls_by-cons r.number (operation w.by (call_of b n (map_at n) w)) (unlogged (n + 1) ws)
          ∙ (elim (eqb_tells w.by r.number) [
            | inl (test, is) ↦ absurd (none 0 w refl is)
            | inr (test, is_not) ↦ ap (λ (t : Bool). call_if t (call_of b n (map_at n) w) (calls_by r.number (unlogged (n + 1) ws))) test
          ] ∙ none_unlogged (n + 1) ws (λ k x there. none (suc k) x there))

      abbrev Finds : List Entry → Entry → List Entry → Type 0
      Finds before e es = (m : ℕ) (l : List Write) → Stands (before ++ e ∷ []) es m l → calls_by r.number (picked m l es) ≡ its es

      its_calls : (before es : List Entry) (n : ℕ) (ws : List Write) → Stands before es n ws → calls_by r.number (picked n ws es) ≡ its es
      its_calls before [] n ws s = none_unlogged n ws (λ k w there by.
          let all : length (writes_on b log) ≡ n = ap (λ (l : List Entry). length (writes_on b l)) (s.of ∙ append-nil before) ∙ sym s.count in
          let far = reached (length (writes_on b before) + k) w (ap (λ (l : List Write). get_elem? l (length (writes_on b before) + k)) s.whole
          ∙ at_after (writes_on b before) ws k w there) by in
          let count = s.count in omega arith)
      its_calls before (e ∷ es) n ws s = let again : Finds before e es = λ m l st. its_calls (before ++ e ∷ []) es m l st in elim (eqb_tells e.call.bucket b) [
        | inl (test, home) ↦ ap (λ (t : Bool). calls_by r.number (cases t (is_changed e.call.reply) beside wrote_it read_it)) test
            ∙ here again test home (is_changed e.call.reply) refl
        | inr (test, other) ↦ ap (λ (t : Bool). calls_by r.number (cases t (is_changed e.call.reply) beside wrote_it read_it)) test
            ∙ (again n ws (no_write before es e n ws (λ l. more_else b e l test) s)
            ∙ sym (on_if-else b (eqb e.by r.number) e.call (logs.calls_by r.number es) test))
      ]
        where
          beside : List Operation
          beside = picked n ws es

          wrote_it : List Operation
          wrote_it = as_known e ws (λ l. picked (n + 1) l es)

          read_it : List Operation
          read_it = cond (is_own records e.by) (operation e.by e.call ∷ picked n ws es) (picked n ws es)

          -- an entry that is picked
          one : (test : eqb e.call.bucket b ≡ true) (ts : List Operation) → calls_by r.number ts ≡ its es
              → calls_by r.number (operation e.by e.call ∷ ts) ≡ its (e ∷ es)
          one test ts rest = calls_by-cons r.number (operation e.by e.call) ts
              ∙ (ap (call_if (eqb e.by r.number) e.call) rest ∙ sym (on_if-here b (eqb e.by r.number) e.call (logs.calls_by r.number es) test))

          written_here : Finds before e es → (test : eqb e.call.bucket b ≡ true) → e.call.bucket ≡ b → is_changed e.call.reply ≡ true → (l : List Write) → Stands before (e ∷ es) n l
              → calls_by r.number (as_known e l (λ l. picked (n + 1) l es)) ≡ its (e ∷ es)
          written_here again test home wrote [] st = sym (none_on b r.number (e ∷ es) (λ k x there by on.
              let all = all_known before (e ∷ es) n st in
              let more : length (writes_on b (before ++ e ∷ [])) ≡ length (writes_on b before) + 1 = ap length (writes_on-append b before (e ∷ [])
              ∙ ap (λ (l : List Write). writes_on b before ++ l) (more_here b e [] wrote test))
              ∙ length-append (writes_on b before) (write_of e.by e.call ∷ []) in
              let count = st.count in
              let seen = few (length before + k) x (ap (λ (l : List Entry). get_elem? l (length before + k)) st.of ∙ at_after before (e ∷ es) k x there) by on in
              let least = above st home k x there on in omega arith))
            where
              -- the entries from here on have higher stamps
              above : Stands before (e ∷ es) n [] → e.call.bucket ≡ b → (k : ℕ) (x : Entry) → get_elem? (e ∷ es) k ≡ some x → x.call.bucket ≡ b
                  → length (writes_on b (before ++ e ∷ [])) ≤ x.call.stamp
              above st home zero x there on = let is = some-injective e x there in
                  let stamp = (next_here before es e n [] home st).stamp in
                  let same = ap (λ (y : Entry). y.call.stamp) is in omega arith
              above st home (suc k) x there on = let least = (stamped z openings (before ++ e ∷ []) es st.follows.1 k x there).least in
                  let same = ap (λ (d : ℕ). length (writes_on d (before ++ e ∷ []))) on in omega arith
          written_here again test home wrote (w ∷ l) st = one test (picked (n + 1) l es) (again (n + 1) l (a_write before es e n w l test wrote st))

          a_read : Finds before e es → (test : eqb e.call.bucket b ≡ true) → is_changed e.call.reply ≡ false → Owned records e.by → calls_by r.number read_it ≡ its (e ∷ es)
          a_read again test kept (owned here_it has) = ap (λ (t : Bool). calls_by r.number (cond t (operation e.by e.call ∷ picked n ws es) (picked n ws es))) here_it
              ∙ one test (picked n ws es) (again n ws (no_write before es e n ws (λ l. more_read b e l kept) s))
          a_read again test kept (strange not_it none) = ap (λ (t : Bool). calls_by r.number (cond t (operation e.by e.call ∷ picked n ws es) (picked n ws es))) not_it
              ∙ (again n ws (no_write before es e n ws (λ l. more_read b e l kept) s)
              ∙ elim (eqb_tells e.by r.number) [
                | inl (mine, is) ↦ absurd (none i r at (sym is))
                | inr (other, is_not) ↦ sym (on_if-here b (eqb e.by r.number) e.call (logs.calls_by r.number es) test
                    ∙ ap (λ (t : Bool). call_if t e.call (its es)) other)
              ])

          here : Finds before e es → (test : eqb e.call.bucket b ≡ true) → e.call.bucket ≡ b → (t : Bool) → is_changed e.call.reply ≡ t
              → calls_by r.number (cases true t beside wrote_it read_it) ≡ its (e ∷ es)
          here again test home true wrote = written_here again test home wrote ws s
          here again test home false kept = a_read again test kept (own_tells records e.by)

    -- ---- The order

    pub serialized : IsSerialization z b (opening_in openings b) H records operations
    serialized = record {
      run = all_good.run;
      writes = all_good.writes;
      stamps = all_good.stamps;
      home = all_good.home;
      order = λ i r at. its_calls i r at [] log 0 H all_stand ∙ ap (calls_on b) (law.calls i r at);
      others = All-weaker IsOurs (λ t. HasNumber records t.by ⊎ (is_changed t.call.reply ≡ true))
          (λ t ours. elim ours [ inl own ↦ inl own | inr other ↦ inr other.0 ]) operations all_good.ours;
    }

    -- where the records made each write, each operation is theirs
    pub none_else : ((n : ℕ) (w : Write) → get_elem? H n ≡ some w → HasNumber records w.by) → All (λ t. HasNumber records t.by) operations
    none_else made = All-weaker IsOurs (λ t. HasNumber records t.by)
        (λ t ours. elim ours [ inl own ↦ own | inr other ↦ made other.1 (write_of t.by t.call) other.2 ]) operations all_good.ours

-- ---- One caller

module _ (z : Sizes) (v : View) (b : ℕ) (caller : IsLawfulCaller z v) (inside : b < buckets z) where
  legal_there : AreLegal z b (opening_at v.known b) (known_at v.known b) v.records
  legal_there i k r c at_i at_k home = subst (λ (n : ℕ). IsLegal z (opening_at v.known n) (known_at v.known n) r.number c) home
      (caller.lawful.legal i k r c at_i at_k)

  logged_there : AreLogged z v.known.openings b v.log (known_at v.known b) v.records
  logged_there = record {
    legal = legal_there;
    own = λ i n r w at_i at_n mine. caller.lawful.own i b n r w at_i inside at_n mine;
    calls = caller.logged.calls;
    is_log = caller.logged.legal;
    matches = caller.matches b;
    steps = λ n w at. ((caller.lists b inside).each n w at).changes;
  }

  pub one_order_at : (operations : List Operation) × IsSerialization z b (opening_at v.known b) (known_at v.known b) v.records operations
  one_order_at = (
    operations z v.known.openings b v.log (known_at v.known b) v.records,
    serialized z v.known.openings b v.log (known_at v.known b) v.records logged_there,
  )

  pub whole_order_at : HasMade v.records (known_at v.known b)
      → (operations : List Operation) × IsSerialization z b (opening_at v.known b) (known_at v.known b) v.records operations
      × All (λ t. HasNumber v.records t.by) operations
  whole_order_at made = (
    operations z v.known.openings b v.log (known_at v.known b) v.records,
    serialized z v.known.openings b v.log (known_at v.known b) v.records logged_there,
    none_else z v.known.openings b v.log (known_at v.known b) v.records logged_there made,
  )

  -- a write of one of its records is a call of it, at its stamp
  pub called_at : (n : ℕ) (w : Write) → get_elem? (known_at v.known b) n ≡ some w → HasNumber v.records w.by → IsCalled b n w v.records
  called_at n w at by =
      let h = caller.lawful.own by.0 b n by.1 w by.2 inside at (sym by.3) in
      let o = (legal_there by.0 h.0 by.1 h.1 by.2 h.2 h.3).write h.4 in
      let place : o.0 ≡ n = let stamp = h.5 in let told = o.1 in omega arith in
      record {
        at = by.0;
        record_at = by.1;
        stands = by.2;
        place = h.0;
        call = h.1;
        called = h.2;
        bucket = h.3;
        changed = h.4;
        stamp = h.5;
        write = some-injective w (write_of by.1.number h.1) (sym at ∙ (ap (get_elem? (known_at v.known b)) (sym place) ∙ o.2));
      }

pub one_order : (z : Sizes) (v : View) (b : ℕ) → IsLawfulCaller z v → b < buckets z
    → (operations : List Operation) × IsSerialization z b (opening_at v.known b) (known_at v.known b) v.records operations
one_order = one_order_at

pub whole_order : (z : Sizes) (v : View) (b : ℕ) → IsLawfulCaller z v → HasMadeAll z v → b < buckets z
    → (operations : List Operation) × IsSerialization z b (opening_at v.known b) (known_at v.known b) v.records operations
    × All (λ t. HasNumber v.records t.by) operations
whole_order z v b caller made inside = whole_order_at z v b caller inside (made b inside)

pub whole_call : (z : Sizes) (v : View) (b n : ℕ) (w : Write) → IsLawfulCaller z v → HasMadeAll z v → b < buckets z
    → get_elem? (known_at v.known b) n ≡ some w → IsCalled b n w v.records
whole_call z v b n w caller made inside at = called_at z v b caller inside n w at (made b inside n w at)

-- a caller that has each number up to the count that it saw made each write that it knows
pub whole_made : (z : Sizes) (v : View) → IsWhole v.records v.seen → HaveBearers z v → HasMadeAll z v
whole_made z v whole bearers b inside n w at = let by = bearers b n w inside at in whole w.by by.0 by.1
