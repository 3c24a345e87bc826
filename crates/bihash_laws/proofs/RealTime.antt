-- Calls in the order of time.
use Rattle.std.specs.Prelude.{Ok, Err, IfOk, None, Option, Result, Some}
use Rattle.std.proofs.Common.{◌≡◌, ◌⊎◌, ℕ, zero, suc, ◌+◌, ◌<◌, ◌≤◌, cond, nat_le, Bool, true, false, List, [], ◌∷◌, ◌++◌, length, refl, sym, ap, ◌∙◌, subst, inl, inr, arith, append_assoc, length-append, take, drop}
use mathlib.Core.Logic.{dite}
use mathlib.Core.Option.{some, some-ne-none, some-injective}
use native.Mathlib.Decide.{ℕ_discrete, dec_le}
use lib.ListN.{get_elem?}
use Rattle.std.proofs.lemmas.Bool.Decides.{nat_tests}
use Rattle.atomic_table.proofs.Lists.{at_last, at_longer}
use Rattle.bihash_words.specs.Maps.{Event}
use Rattle.bihash_words.specs.Sizes.{Sizes, sizes_of}
use Rattle.bihash_words.specs.declared.shape.Shape.{Ghosts}
use Rattle.bihash_words.specs.declared.patch.Change.{Change}
use Rattle.bihash_words.specs.declared.patch.Reply.{Reply}
use Rattle.bihash_words.specs.declared.patch.Reply.TheVariants.{Kept}
use Rattle.bihash_rule.specs.Histories.{bucket_of}
use Rattle.bihash_rule.specs.Callers.{HasNumber, IsLawfulCaller}
use Rattle.bihash_rule.specs.Logs.{Begins}
use Rattle.bihash_rule.specs.WordRule.{WordRule}
use Rattle.bihash_steps.specs.BucketSteps.{Enters, acting, push_call, without_lock}
use Rattle.bihash_rule.specs.Views.{empty_record}
use Rattle.bihash_steps.specs.BucketCalls.{FindsBucket, HasEntered, IsValidated, TriesLock, event}
use Rattle.bihash_steps.specs.CallerCalls.{AreInformed, HasCounted, IsCut, IsJoined, TakesNumber}
use Rattle.bihash_steps.specs.Seats.{Becomes, CallerState, with_view}
use Rattle.bihash_steps.specs.StoreCalls.{TriesStoreLock}
use Rattle.bihash_steps.proofs.LogSteps.{counted_back}
use Rattle.std.proofs.lemmas.List.{take-append-drop}
use Rattle.bihash_steps.specs.Steps.{IsRefused, first_numbers, longer_log, other_numbers, parent, recounted, view_after_count}
use Rattle.bihash_steps.specs.declared.split_fault.SplitFault.{SplitFault}
use Rattle.bihash_steps.specs.declared.split_fault.SplitFault.TheVariants.{Memory, Numbers, Contended}
use Rattle.bihash_table.specs.Ageing.{Ages, Look, LookInTurn, Sweeps, TellsExpire, TellsExpireTry}
use Rattle.bihash_table.specs.Answers.{entry_of, recycled_update, search_of, with_locks}
use Rattle.bihash_table.specs.Calls.{TellsLone, TellsRecycle, TellsRecycleTry, TellsSearch, TellsSearchTry, TellsUpdate, TellsUpdateTry}
use Rattle.bihash_table.specs.Closing.{IsCloseRefused, LeavesStrangers, StaysWhole}
use Rattle.bihash_table.specs.Promise.{IsAnswered, IsContended, IsUpdated, IsUpdatedOver}
use Rattle.bihash_table.specs.Renewing.{IsRenewRefused}
use Rattle.bihash_table.specs.declared.close_fault.CloseFault.{CloseFault}
use Rattle.bihash_table.specs.declared.close_fault.CloseFault.TheVariants as close
use Rattle.bihash_table.specs.declared.contended.Contended as contended
use Rattle.bihash_table.specs.declared.renew_fault.RenewFault.{RenewFault}
use Rattle.bihash_table.specs.declared.renew_fault.RenewFault.TheVariants as renew
use Rattle.bihash_laws.specs.CallRuns.{IsLawfulAnswer}
use Rattle.bihash_laws.specs.LogLaws.{Continues, RowState, log_of}
use Rattle.bihash_laws.specs.RealTime.{WasTried, GoesOn, IsKnownIn, IsYetToCall, StandInOrder, StandsIn, WasAnswered, WasLooked, WereLooked, entry_made, place_of}
use Rattle.bihash_rule.specs.declared.view.Call.{Call}
use Rattle.bihash_rule.specs.declared.view.Entry.{Entry}
use Rattle.bihash_rule.specs.declared.view.Record.{Record}
use Rattle.bihash_rule.specs.declared.view.View.{View}
use Rattle.bihash_steps.proofs.Lists.{at_after, at_either, within}
use Rattle.bihash_steps.proofs.PushedCalls.{push-length, renumbers_push}
use Rattle.bihash_steps.proofs.LogLemmas.{begin_at, begin_below, begin_of_begin, begins_more, begins_refl}
use Rattle.bihash_laws.proofs.LogLaws.{grows_law}

-- ---- Beginnings

begins_through : (xs ys zs : List Entry) → Begins xs ys → Begins ys zs → Begins xs zs
begins_through xs ys zs p q = record {
  rest = p.rest ++ q.rest;
  whole = q.whole ∙ (ap (λ (l : List Entry). l ++ q.rest) p.whole ∙ append_assoc xs p.rest q.rest);
}

begins_length : (xs ys : List Entry) → Begins xs ys → length xs ≤ length ys
begins_length xs ys p = let long = ap length p.whole in let parts = length-append xs p.rest in omega arith

-- what a caller knows begins the log
known_begins : (z : Sizes) (s : RowState) (r : WordRule z s) (log : List Entry) → IsKnownIn s log → Begins log (log_of r)
known_begins z s r log k = begins_through log k.1.log (log_of r) k.3 (r.logged.each k.0 k.1 k.2).begins

known_here : (s : RowState) (j : ℕ) (u : View) → get_elem? s.views j ≡ some u → IsKnownIn s u.log
known_here s j u at = (j, u, at, begins_refl u.log)

-- ---- One call

first_number : (records : List Record) → 1 ≤ length records → HasNumber records (acting records)
first_number [] l = absurd (omega arith)
first_number (r ∷ rs) l = (0, r, refl, refl)

-- what a caller knows goes on to be known
known_on : (s t : RowState) (j : ℕ) (u : View) → Continues s.views t.views → get_elem? s.views j ≡ some u → 1 ≤ length u.records
    → IsKnownIn t u.log
known_on s t j u goes at acts =
    let o = goes j (acting u.records) u at (first_number u.records acts) in (o.0, o.1, o.2, o.4)

module _ (z : Sizes) (s : RowState) (r : WordRule z s) where
  pub yet_before : (j : ℕ) (u v : View) → get_elem? s.views j ≡ some u → HasNumber u.records (acting v.records) → Begins u.log v.log
      → IsYetToCall s v
  yet_before j u v at has log i y f holds = dite (ℕ_discrete i j)
      (λ e. subst (λ (x : View). Begins x.log v.log) (some-injective u y (sym at ∙ (ap (get_elem? s.views) (sym e) ∙ f))) log)
      (λ ne. absurd (r.apart i j y u ne f at holds.0 has.0 holds.1 has.1 holds.2 has.2 (holds.3 ∙ sym has.3)))

  pub yet_begins : (j : ℕ) (v : View) → get_elem? s.views j ≡ some v → 1 ≤ length v.records → IsYetToCall s v
  yet_begins j v at acts = yet_before j v v at (first_number v.records acts) (begins_refl v.log)

-- who has the number in an earlier state is this caller later
pub yet_earlier : (z : Sizes) (s s' : RowState) (r' : WordRule z s') (j : ℕ) (v : View) → Continues s.views s'.views
    → get_elem? s'.views j ≡ some v → 1 ≤ length v.records → IsYetToCall s v
yet_earlier z s s' r' j v goes at acts i u f holds =
    let o = goes i (acting v.records) u f holds in
    begins_through u.log o.1.log v.log o.4 (yet_begins z s' r' j v at acts o.0 o.1 o.2 o.3)

locks-length : (locks : ℕ) (records : List Record) → length (with_locks locks records) ≡ length records
locks-length locks [] = refl
locks-length locks (r ∷ rs) = refl

module _ (z : Sizes) (b : ℕ) (v w : View) (e : Event) (a : IsLawfulAnswer z b v w e) where
  acts_before : 1 ≤ length v.records
  acts_before = let after = a.lawful.acts in let records = ap length a.answered.records in
      let long = push-length (entry_made a).call (with_locks a.answered.locks v.records) in
      let same = locks-length a.answered.locks v.records in omega arith

  -- the entry is the last that the caller knows
  stands_known : StandsIn a w.log
  stands_known = ap (λ (l : List Entry). get_elem? l (place_of a)) a.answered.entered.is
      ∙ at_last a.answered.entered.before (entry_made a) (place_of a) refl

  stands_there : (s : RowState) (r : WordRule z s) → IsKnownIn s w.log → StandsIn a (log_of r)
  stands_there s r k = begin_at w.log (log_of r) (place_of a) (entry_made a) (known_begins z s r w.log k) stands_known

  -- it stands behind all that the caller knew, and so isn't in the log while the call is yet to be made
  not_yet : (s : RowState) (r : WordRule z s) → IsYetToCall s v → StandsIn a (log_of r) → ⊥
  not_yet s r yet at =
      let h = r.logged.made (place_of a) (entry_made a) at in
      let has = h.3 in
      let ok = r.logged.each h.0 h.1 h.2 in
      let reached : place_of a < length h.1.log = ok.own has.0 (place_of a) has.1 (entry_made a) has.2 at (sym has.3) in
      let few : length h.1.log ≤ length v.log = begins_length h.1.log v.log (yet h.0 h.1 h.2 has) in
      let behind : length v.log ≤ place_of a = begins_length v.log a.answered.entered.before a.answered.entered.begins in
      omega arith

  pub entered_alone : (s s' : RowState) (r : WordRule z s) (r' : WordRule z s') → IsYetToCall s v → IsKnownIn s' w.log
      → (StandsIn a (log_of r) → ⊥) × StandsIn a (log_of r')
  entered_alone s s' r r' yet known = (not_yet s r yet, stands_there s' r' known)

  pub entered_within : (s s' : RowState) (r : WordRule z s) (r' : WordRule z s') (i j : ℕ) → get_elem? s.views i ≡ some v
      → get_elem? s'.views j ≡ some w → Continues s.views s'.views
      → (length (log_of r) ≤ place_of a) × (place_of a < length (log_of r')) × StandsIn a (log_of r')
  entered_within s s' r r' i j at at' goes =
      let stands = stands_there s' r' (known_here s' j w at') in
      let grows = grows_law z s s' r r' goes in (
        dite (dec_le (length (log_of r)) (place_of a)) (λ l. l)
            (λ l. absurd (not_yet s r (yet_begins z s r i v at acts_before)
            (begin_below (log_of r) (log_of r') (place_of a) (entry_made a) grows (omega arith) stands))),
        within (log_of r') (place_of a) (entry_made a) stands,
        stands,
      )

-- ---- Two calls

module _ (z : Sizes) (b d : ℕ) (v w x y : View) (e f : Event) (a : IsLawfulAnswer z b v w e) (c : IsLawfulAnswer z d x y f) where
  in_order : (s t : RowState) (r : WordRule z s) (q : WordRule z t) → IsKnownIn s w.log → IsYetToCall s x → IsKnownIn t w.log
      → IsKnownIn t y.log → StandInOrder a c (log_of q)
  in_order s t r q answered yet first second =
      let stands = stands_there z d x y f c t q second in record {
        first = stands_there z b v w e a t q first;
        second = stands;
        order = dite (dec_le (place_of c) (place_of a))
            (λ l. let few : place_of a < length w.log = within w.log (place_of a) (entry_made a) (stands_known z b v w e a) in
            let known : StandsIn c w.log = begin_below w.log (log_of q) (place_of c) (entry_made c) (known_begins z t q w.log first) (omega arith) stands in
            absurd (not_yet z d x y f c s r yet
            (begin_at w.log (log_of r) (place_of c) (entry_made c) (known_begins z s r w.log answered) known)))
            (λ l. omega arith);
      }

  pub orders : (s t : RowState) (r : WordRule z s) (q : WordRule z t) → IsKnownIn s w.log → IsYetToCall s x → IsKnownIn t w.log
      → IsKnownIn t y.log → StandInOrder a c (log_of q) × StandInOrder a c y.log × Begins w.log y.log
  orders s t r q answered yet first second =
      let o = in_order s t r q answered yet first second in
      let order = o.order in
      let long : length w.log ≡ place_of a + 1 = ap length a.answered.entered.is ∙ length-append a.answered.entered.before (entry_made a ∷ []) in
      let few : place_of c < length y.log = within y.log (place_of c) (entry_made c) (stands_known z d x y f c) in
      let all : Begins w.log y.log = begin_of_begin w.log y.log (log_of q) (known_begins z t q w.log first) (known_begins z t q y.log second) (omega arith) in (
        o,
        record {
          first = begin_at w.log y.log (place_of a) (entry_made a) all (stands_known z b v w e a);
          second = stands_known z d x y f c;
          order = order;
        },
        all,
      )

  pub states_in_order : (s s' t : RowState) (r : WordRule z s) (r' : WordRule z s') (q : WordRule z t) (i j k : ℕ)
      → get_elem? s.views i ≡ some w → Continues s.views s'.views → get_elem? s'.views j ≡ some x → Continues s'.views t.views
      → get_elem? t.views k ≡ some y → StandInOrder a c (log_of q)
  states_in_order s s' t r r' q i j k first goes begun on second =
      let o = goes i (acting w.records) w first (first_number w.records a.lawful.acts) in
      let p = on o.0 (acting w.records) o.1 o.2 o.3 in
      in_order s' t r' q (o.0, o.1, o.2, o.4) (yet_begins z s' r' j x begun (acts_before z d x y f c))
      (p.0, p.1, p.2, begins_through w.log o.1.log p.1.log o.4 p.4) (known_here t k y second)

-- ---- Callers that go on

locked_has : (n locks : ℕ) (records : List Record) → HasNumber records n → HasNumber (with_locks locks records) n
locked_has n locks records h = let o = locked_at locks records h.0 h.1 h.2 in (h.0, o.0, o.1, o.2 ∙ h.3)
  where
    locked_at : (locks : ℕ) (records : List Record) (i : ℕ) (r : Record) → get_elem? records i ≡ some r
        → (q : Record) × (get_elem? (with_locks locks records) i ≡ some q) × (q.number ≡ r.number)
    locked_at locks [] i r at = absurd (some-ne-none r (sym at))
    locked_at locks (x ∷ xs) zero r at = (record x { locks = locks }, refl, ap (λ (y : Record). y.number) (some-injective x r at))
    locked_at locks (x ∷ xs) (suc i) r at = (r, at, refl)

pushed_has : (n : ℕ) (c : Call) (records : List Record) → HasNumber records n → HasNumber (push_call c records) n
pushed_has n c records h = let o = renumbers_push c records h.0 h.1 h.2 in (h.0, o.0, o.1, o.2 ∙ h.3)

pub goes_same : (v : View) → GoesOn v v
goes_same v = record { numbers = λ n h. h; log = begins_refl v.log }

pub goes_through : (u v w : View) → GoesOn u v → GoesOn v w → GoesOn u w
goes_through u v w p q = record { numbers = λ n h. q.numbers n (p.numbers n h); log = begins_through u.log v.log w.log p.log q.log }

-- the same numbers, and the same log
goes_as : (v w : View) → w.records ≡ v.records → w.log ≡ v.log → GoesOn v w
goes_as v w records log = record {
  numbers = λ n h. subst (λ (rs : List Record). HasNumber rs n) (sym records) h;
  log = subst (Begins v.log) (sym log) (begins_refl v.log);
}

pub goes_answered : (z : Sizes) (v w : View) (e : Event) → IsAnswered z v w e → GoesOn v w
goes_answered z v w e a = record {
  numbers = λ n h. subst (λ (rs : List Record). HasNumber rs n) (sym a.records)
      (pushed_has n (entry_of z (length a.history) e a.noted) (with_locks a.locks v.records) (locked_has n a.locks v.records h));
  log = subst (Begins v.log) (sym a.entered.is)
      (begins_more v.log a.entered.before (record { by = acting v.records; call = entry_of z (length a.history) e a.noted } ∷ []) a.entered.begins);
}

pub goes_contended : (z : Sizes) (v w : View) (b : ℕ) → IsContended z v w b → GoesOn v w
goes_contended z v w b a = record {
  numbers = λ n h. subst (λ (rs : List Record). HasNumber rs n) (sym a.records) (locked_has n a.locks v.records h);
  log = subst (Begins v.log) (sym a.log) (begins_refl v.log);
}

goes_counted : (v : View) (count : ℕ) → GoesOn v (view_after_count v count)
goes_counted v count = goes_as v (view_after_count v count) refl refl

pub goes_split : (v : View) (count : ℕ) → GoesOn v (parent v count)
goes_split v count = goes_as v (parent v count) refl refl

pub goes_not_split : (z : Sizes) (v w : View) (fault : SplitFault) → IsRefused z v fault w → GoesOn v w
goes_not_split z v w Memory is = subst (GoesOn v) (sym is) (goes_same v)
goes_not_split z v w Numbers is = subst (GoesOn v) (sym is) (goes_counted v z.callers)
goes_not_split z v w Contended is = goes_as v w (ap (λ (u : View). u.records) is.5) (ap (λ (u : View). u.log) is.5)

-- of two logs of which the one begins the other, the longer begins with both
longer_both : (xs ys : List Entry) → (Begins xs ys ⊎ Begins ys xs) → Begins xs (longer_log xs ys) × Begins ys (longer_log xs ys)
longer_both xs ys one = go (nat_le (length ys) (length xs)) refl one
  where
    go : (t : Bool) → nat_le (length ys) (length xs) ≡ t → (Begins xs ys ⊎ Begins ys xs) → Begins xs (cond t xs ys) × Begins ys (cond t xs ys)
    go true e (inl p) = (begins_refl xs, begin_of_begin ys xs ys (begins_refl ys) p (grind (arith, nat_tests, e)))
    go true e (inr p) = (begins_refl xs, p)
    go false e (inl p) = (p, begins_refl ys)
    go false e (inr p) = (begin_of_begin xs ys xs (begins_refl xs) p (grind (arith, nat_tests, e)), begins_refl ys)

pub goes_met : (z : Sizes) (s other t u : CallerState) → AreInformed z s other t u → GoesOn s.view t.view × GoesOn other.view u.view
goes_met z s other t u m =
    let both = longer_both s.view.log other.view.log m.before.logs.one in
    let mine = ap (λ (c : CallerState). c.view) m.first in
    let theirs = m.second.1 in (
      subst (GoesOn s.view) (sym mine) (record { numbers = λ n h. h; log = both.0 }),
      subst (GoesOn other.view) (sym theirs) (record { numbers = λ n h. h; log = both.1 }),
    )

pub goes_joined : (z : Sizes) (s other t : CallerState) → IsJoined z s other t → GoesOn s.view t.view × GoesOn other.view t.view
goes_joined z s other t m =
    let both = longer_both s.view.log other.view.log m.agree.logs.one in
    let is = ap (λ (c : CallerState). c.view) m.view in (
      subst (GoesOn s.view) (sym is) (record {
        numbers = λ n h. (h.0, h.1, at_longer s.view.records other.view.records h.0 h.1 h.2, h.3);
        log = both.0;
      }),
      subst (GoesOn other.view) (sym is) (record {
        numbers = λ n h. (length s.view.records + h.0, h.1, at_after s.view.records other.view.records h.0 h.1 h.2, h.3);
        log = both.1;
      }),
    )

pub goes_states : (s s' : RowState) → ((j : ℕ) (v : View) → get_elem? s.views j ≡ some v
    → (k : ℕ) × (w : View) × (get_elem? s'.views k ≡ some w) × GoesOn v w) → Continues s.views s'.views
goes_states s s' each j n v at has = let o = each j v at in (o.0, o.1, o.2, o.3.numbers n has, o.3.log)

pub goes_lone : (z : Sizes) (s t : CallerState) (answer : Bool) → TellsLone z s t answer → GoesOn s.view t.view
goes_lone z s t answer m =
    let is = ap (λ (c : CallerState). c.view) m.counted.2 in
    goes_as s.view t.view (ap (λ (u : View). u.records) is) (ap (λ (u : View). u.log) is)

goes_strangers : (z : Sizes) (v w : View) → LeavesStrangers z v w → GoesOn v w
goes_strangers z v w m = goes_as v w (ap (λ (u : View). u.records) m.3) (ap (λ (u : View). u.log) m.3)

goes_whole : (z : Sizes) (v w : View) → StaysWhole z v w → GoesOn v w
goes_whole z v w m = goes_as v w (ap (λ (u : View). u.records) m.3) (ap (λ (u : View). u.log) m.3)

pub goes_not_closed : (z : Sizes) (v w : View) (fault : CloseFault) → IsCloseRefused z v fault w → GoesOn v w
goes_not_closed z v w close.Strangers = goes_strangers z v w
goes_not_closed z v w close.Memory = goes_whole z v w

pub goes_not_renewed : (z : Sizes) (v w : View) (fault : RenewFault) → IsRenewRefused z v fault w → GoesOn v w
goes_not_renewed z v w renew.Strangers = goes_strangers z v w
goes_not_renewed z v w renew.Memory = goes_whole z v w

-- ---- Steps

pub step_keeps : (s t : CallerState) (v : View) → t ≡ with_view s v → v.records ≡ s.view.records → v.log ≡ s.view.log
    → GoesOn s.view t.view
step_keeps s t v is records log = let same = ap (λ (c : CallerState). c.view) is in
    goes_as s.view t.view (ap (λ (u : View). u.records) same ∙ records) (ap (λ (u : View). u.log) same ∙ log)

goes_to : (v w x : View) → w ≡ x → x.records ≡ v.records → x.log ≡ v.log → GoesOn v w
goes_to v w x is records log = goes_as v w (ap (λ (u : View). u.records) is ∙ records) (ap (λ (u : View). u.log) is ∙ log)

pub step_load_bucket : (z : Sizes) (s t : CallerState) (b word : ℕ) → FindsBucket z s t b word → GoesOn s.view t.view
step_load_bucket z s t b word m = elim m.seen [
  | inl o ↦ goes_to s.view t.view _ o.is refl refl
  | inr l ↦ goes_to s.view t.view _ l.is refl refl
]

pub step_lock_from : (z : Sizes) (s t : CallerState) (b word : ℕ) (locked : Bool) → TriesLock z s t b word locked → GoesOn s.view t.view
step_lock_from z s t b word true m = let taken = m.taken refl in subst (GoesOn s.view) (sym taken.is)
    record { numbers = λ n h. counted_back n s.view.records h; log = begins_refl s.view.log }
step_lock_from z s t b word false m = goes_to s.view t.view _ (m.not refl) refl refl

step_enters : (z : Sizes) (v after w : View) (c : Call) → after.records ≡ push_call c v.records → Enters z v c after w → GoesOn v w
step_enters z v after w c records e = record {
  numbers = λ n h. subst (λ (rs : List Record). HasNumber rs n) (sym (ap (λ (u : View). u.records) e.is ∙ records)) (pushed_has n c v.records h);
  log = subst (Begins v.log) (sym (ap (λ (u : View). u.log) e.is))
      (begins_more v.log e.before (record { by = acting v.records; call = c } ∷ []) e.begins);
}

pub step_validate : (z : Sizes) (s t : CallerState) (c : Call) (here : Bool) → IsValidated z s t c here → GoesOn s.view t.view
step_validate z s t c true m = step_enters z s.view _ t.view c refl (m.valid refl)
step_validate z s t c false m = step_keeps s t _ (m.not refl) refl refl

pub step_entered : (z : Sizes) (s t : CallerState) (after : View) (c : Call) → HasEntered z s after c t
    → after.records ≡ push_call c s.view.records → GoesOn s.view t.view
step_entered z s t after c m records = step_enters z s.view after t.view c records m.entered

pub step_release : (z : Sizes) (s t : CallerState) → Becomes z s (without_lock s.view) t → GoesOn s.view t.view
step_release z s t m = step_keeps s t (without_lock s.view) m.view refl refl

pub step_pool_lock : (z : Sizes) (s t : CallerState) (locked : Bool) → TriesStoreLock z s t locked → GoesOn s.view t.view
step_pool_lock z s t true m = goes_to s.view t.view _ (m.taken refl).is refl refl
step_pool_lock z s t false m = goes_to s.view t.view _ (m.not refl) refl refl

pub step_load_count : (z : Sizes) (s t : CallerState) (count : ℕ) → HasCounted z s t count → GoesOn s.view t.view
step_load_count z s t count m = step_keeps s t (view_after_count s.view count) m.view refl refl

pub step_take_number : (z : Sizes) (s t : CallerState) (count : ℕ) (won : Bool) → TakesNumber z s t count won → GoesOn s.view t.view
step_take_number z s t count true m = subst (GoesOn s.view) (sym (m.taken refl)) record {
  numbers = λ n h. (h.0, h.1, at_longer s.view.records (empty_record (count + 1) ∷ []) h.0 h.1 h.2, h.3);
  log = begins_refl s.view.log;
}
step_take_number z s t count false m = let o = m.not refl in goes_to s.view t.view (recounted s.view o.0) o.3 refl refl

pub step_cut : (z : Sizes) (s t u : CallerState) (kept n : ℕ) → IsCut z s t u kept → HasNumber s.view.records n
    → (t.view.log ≡ s.view.log) × (u.view.log ≡ s.view.log) × (HasNumber t.view.records n ⊎ HasNumber u.view.records n)
step_cut z s t u kept n m h =
    let left : t.view ≡ first_numbers kept s.view = ap (λ (c : CallerState). c.view) m.left in
    let right : u.view ≡ other_numbers kept s.view = m.right.1 in (
      ap (λ (x : View). x.log) left,
      ap (λ (x : View). x.log) right,
      elim (at_either (take kept s.view.records) (drop kept s.view.records) h.0 h.1
          (ap (λ (rs : List Record). get_elem? rs h.0) (take-append-drop kept s.view.records) ∙ h.2)) [
            | inl o ↦ inl (subst (λ (x : View). HasNumber x.records n) (sym left) (h.0, h.1, o, h.3))
            | inr o ↦ inr (subst (λ (x : View). HasNumber x.records n) (sym right) (o.0, h.1, o.2, h.3))
          ],
    )

-- ---- What calls tell

module _ (z : Sizes) (s t : CallerState) (words : List ℕ) where
  answer_of : (e : Event) → e.key ≡ words → IsAnswered z s.view t.view e → IsLawfulCaller z t.view → WasAnswered z s t words e.reply
  answer_of e is a lawful = (e, is, refl, record { home = ap (bucket_of z) is; answered = a; lawful = lawful })

  searched : (found : Option ℕ) → IsAnswered z s.view t.view (search_of words found) → IsLawfulCaller z t.view
      → WasAnswered z s t words (Kept found)
  searched found = answer_of (search_of words found) refl

  updated : (decision : Option ℕ → Change) (reply : Reply) → IsUpdated z s.view t.view words decision reply
      → IsLawfulCaller z t.view → WasAnswered z s t words reply
  updated decision reply u = answer_of (event words u.found (decision u.found) reply) refl u.answered

  updated_over : (decision : Option ℕ → Change) (is_expired : ℕ → Bool) (reply : Reply)
      → IsUpdatedOver z s.view t.view words decision is_expired reply → IsLawfulCaller z t.view → WasAnswered z s t words reply
  updated_over decision is_expired reply u =
      answer_of (recycled_update words u.found (decision u.found) is_expired u.answered.removed reply) refl u.answered.answered

  -- an answer, and so a caller that goes on
  with_answer : (reply : Reply) → WasAnswered z s t words reply → WasAnswered z s t words reply × GoesOn s.view t.view
  with_answer reply a = (a, goes_answered z s.view t.view a.0 a.3.answered)

module _ {A K : Type 0} {g : Ghosts A K} {s t : CallerState} {key : K} where
  pub told_search : (found : Option ℕ) → TellsSearch g s t key found → WasAnswered (sizes_of g) s t (g.words_of key) (Kept found)
  told_search found m = searched (sizes_of g) s t (g.words_of key) found m.answered m.lawful

  pub told_update : (decision : Option ℕ → Change) (reply : Reply) → TellsUpdate g s t key decision reply
      → WasAnswered (sizes_of g) s t (g.words_of key) reply
  told_update decision reply m = updated (sizes_of g) s t (g.words_of key) decision reply m.answered m.lawful

  pub told_recycle : (decision : Option ℕ → Change) (is_expired : ℕ → Bool) (reply : Reply) → TellsRecycle g s t key decision is_expired reply
      → WasAnswered (sizes_of g) s t (g.words_of key) reply
  told_recycle decision is_expired reply m = updated_over (sizes_of g) s t (g.words_of key) decision is_expired reply m.answered m.lawful

  pub tried_search : (r : Result (Option ℕ) contended.Contended) → TellsSearchTry g s t key r
      → WasTried (sizes_of g) s t (g.words_of key) Kept r
  tried_search (Ok found) m = with_answer (sizes_of g) s t (g.words_of key) (Kept found)
      (searched (sizes_of g) s t (g.words_of key) found m.answered m.lawful)
  tried_search (Err refused) m = (tt, goes_contended (sizes_of g) s.view t.view (bucket_of (sizes_of g) (g.words_of key)) m.contended)

  pub tried_update : (decision : Option ℕ → Change) (r : Result Reply contended.Contended) → TellsUpdateTry g s t key decision r
      → WasTried (sizes_of g) s t (g.words_of key) (λ reply. reply) r
  tried_update decision (Ok reply) m = with_answer (sizes_of g) s t (g.words_of key) reply
      (updated (sizes_of g) s t (g.words_of key) decision reply m.answered m.lawful)
  tried_update decision (Err refused) m =
      (tt, goes_contended (sizes_of g) s.view t.view (bucket_of (sizes_of g) (g.words_of key)) m.contended)

  pub tried_recycle : (decision : Option ℕ → Change) (is_expired : ℕ → Bool) (r : Result Reply contended.Contended)
      → TellsRecycleTry g s t key decision is_expired r → WasTried (sizes_of g) s t (g.words_of key) (λ reply. reply) r
  tried_recycle decision is_expired (Ok reply) m = with_answer (sizes_of g) s t (g.words_of key) reply
      (updated_over (sizes_of g) s t (g.words_of key) decision is_expired reply m.answered m.lawful)
  tried_recycle decision is_expired (Err refused) m =
      (tt, goes_contended (sizes_of g) s.view t.view (bucket_of (sizes_of g) (g.words_of key)) m.contended)

-- ---- What looks tell

module _ (z : Sizes) (is_expired : ℕ → Bool) where
  looked : (v w : View) (b : ℕ) (found : Option Reply) → Ages z v w b is_expired found → IsLawfulCaller z w
      → WasLooked z v w b is_expired found × GoesOn v w
  looked v w b None none lawful = (none, goes_contended z v w b none.learned)
  looked v w b (Some reply) a lawful = (
    (a.key, a.value, a.expired, record { home = a.home; answered = a.answered; lawful = lawful }),
    goes_answered z v w _ a.answered,
  )

  looked_in_turn : (v : View) (looks : List Look) (w : View) → LookInTurn z is_expired v looks w
      → WereLooked z is_expired v looks w × GoesOn v w
  looked_in_turn v [] w same = (same, subst (GoesOn v) (sym same) (goes_same v))
  looked_in_turn v (look ∷ looks) w m =
      let first = looked v m.0 look.bucket look.found m.1 m.2 in
      let others = looked_in_turn m.0 looks w m.3 in
      ((m.0, first.0, others.0), goes_through v m.0 w first.1 others.1)

pub told_expire : (z : Sizes) (s t : CallerState) (b : ℕ) (is_expired : ℕ → Bool) (found : Option Reply) → TellsExpire z s t b is_expired found
    → WasLooked z s.view t.view b is_expired found × GoesOn s.view t.view
told_expire z s t b is_expired found m = looked z is_expired s.view t.view b found m.answered m.lawful

pub tried_expire : (z : Sizes) (s t : CallerState) (b : ℕ) (is_expired : ℕ → Bool) (r : Result (Option Reply) contended.Contended)
    → TellsExpireTry z s t b is_expired r → IfOk r (WasLooked z s.view t.view b is_expired) × GoesOn s.view t.view
tried_expire z s t b is_expired (Ok found) m = looked z is_expired s.view t.view b found m.answered m.lawful
tried_expire z s t b is_expired (Err refused) m = (tt, goes_contended z s.view t.view b m.contended)

pub told_sweep : (z : Sizes) (s t : CallerState) (from to : ℕ) (is_expired : ℕ → Bool) (went : ℕ)
    (m : Sweeps z s t from to is_expired went) → WereLooked z is_expired s.view m.looks t.view × GoesOn s.view t.view
told_sweep z s t from to is_expired went m = looked_in_turn z is_expired s.view m.looks t.view m.ages
