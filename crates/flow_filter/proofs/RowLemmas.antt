-- Each verdict is given exactly where its row of the table of verdicts holds.
use Rattle.std.proofs.Common.{◌≡◌, ◌∙◌, ◌+◌, ◌++◌, ◌<◌, ◌≤◌, ◌^◌, ℕ, Bool, true, false, List, ◌∷◌, Option, Some, None, ap, ap₂, sym, refl, subst, subst₂, inl, inr, arith}
use Rattle.std.specs.FinMap.{get, len}
use Rattle.std.specs.Prelude.{◌↔◌, if◌then◌else◌, nat_lt}
use Rattle.std.proofs.lemmas.Bool.{cases_Bool, ltb-true, ltb-false}
use Rattle.packet_view.specs.Captures.{PacketFacts}
use Rattle.packet_view.specs.Frames as frames
use Rattle.packet_view.specs.Frames.{FrameFacts}
use Rattle.packet_view.specs.Tuples.{TupleFacts}
use Rattle.acl_policy.specs.declared.rule.Action.TheVariants.{Deny, Permit, Reflect}
use Rattle.acl_policy.specs.Policies.{PolicyFacts, section_of}
use Rattle.bihash_words.specs.Maps.{Answers, AnswersFull, Bounds, Event, NewKey, NoRoom, Pairs, OldKey, WornOut, IsEvent, case_with, effect_of, found_by, most_pairs}
use Rattle.bihash_words.specs.Refusals.{IsTaken}
use Rattle.bihash_words.specs.declared.patch.Change.{Change}
use Rattle.bihash_words.specs.declared.patch.Change.TheVariants.{Keep, Set, Remove}
use Rattle.bihash_words.specs.declared.patch.Reply.{Reply}
use Rattle.bihash_words.specs.declared.patch.Reply.TheVariants.{Kept, Changed, Worn, Full, NoPages}
use Rattle.bihash_words.proofs.MapLemmas.{found_is_told}
use Rattle.session_state.specs.declared.timeouts.Timeouts.{Timeouts}
use Rattle.session_state.specs.declared.verdict.Verdict.{Verdict}
use Rattle.session_state.specs.declared.verdict.Verdict.TheVariants as verdict
use Rattle.session_state.specs.Decisions.{IsLiveFor, is_live_for}
use Rattle.session_state.specs.Sessions.{SessionFacts}
use Rattle.session_state.proofs.LiveLemmas.{live_told}
use Rattle.flow_filter.specs.Judged.{Asked, Asks, IsAsked, IsEventOf, Judged, Settled, verdict_by_event, verdict_on, verdict_with}
use Rattle.flow_filter.specs.OneThread.{Home, IsOneThread, Layout, bounds_in, home_of}
use Rattle.flow_filter.specs.Passing.{FindsNoRoom, HoldsLive, HoldsStarted, Leave}
use Rattle.flow_filter.specs.Readings.{Framed, IsReading, IsReadingOf, IsSeen, Reading, Ruled, Ruling}
use Rattle.flow_filter.specs.Updates.{Update, reflects, update_of, words_of}
use Rattle.flow_filter.specs.Verdicts.{verdict_entered, verdict_of, verdict_of_rules, verdict_reflected}
use Rattle.flow_filter.proofs.PassingLemmas.{reflects_by_rule, said_by_rules, taken_starts}
use Rattle.flow_filter.proofs.ReadingLemmas.{one_reading}
use Rattle.flow_filter.specs.VerdictTable.{FindsWorn, IsFlowRow, IsMet, IsMetAt, IsRuleRow, Meeting}
use Rattle.flow_filter.proofs.FullLemmas.{is_full, no_room, refused_full}
use Rattle.flow_filter.proofs.OrderLemmas.{leaves_behind, placed}

-- what a reply tells of the map before it
abbrev Tells : Bounds → Pairs → ℕ → Option ℕ → Reply → Type 0
Tells b m w found (Kept value) = Unit {0}
Tells b m w found (Changed value) = Unit {0}
Tells b m w found (Worn value) = b.limit ≤ w
Tells b m w found Full = Unit {0}
Tells b m w found (NoPages log2 left) =
    (found ≡ None) × (w < b.limit) × (len m < most_pairs b) × (log2 ≤ b.max_log2) × (left < 2 ^ log2)

module _ (b : Bounds) (m n : Pairs) (w : ℕ) (e : Event) where
  told_full : (removed : Option (List ℕ)) → AnswersFull removed m e n → Tells b m w None e.reply
  told_full None h = subst (Tells b m w None) (sym h.0) tt
  told_full (Some gone) h = subst (Tells b m w None) (sym h.0) tt

  told_new : (may room : Bool) → nat_lt w b.limit ≡ may → nat_lt (len m) (most_pairs b) ≡ room
      → Answers (if may then (if room then NewKey else NoRoom) else WornOut) b m e n → Tells b m w None e.reply
  told_new true true may room (inl h) = subst (Tells b m w None) (sym h.0) tt
  told_new true true may room (inr ((log2, left, refused, within, few), same)) =
      subst (Tells b m w None) (sym refused) (refl, ltb-true w b.limit may, ltb-true (len m) (most_pairs b) room, within, few)
  told_new true false may room h = told_full e.recycling.removed h
  told_new false room may test h = subst (Tells b m w None) (sym h.0) (ltb-false w b.limit may)

  told_old : (found : Option ℕ) (may : Bool) → nat_lt w b.limit ≡ may → Answers (if may then OldKey else WornOut) b m e n
      → Tells b m w found e.reply
  told_old found true test h = subst (Tells b m w found) (sym h.0) tt
  told_old found false test h = subst (Tells b m w found) (sym h.0) (ltb-false w b.limit test)

  told_case : (found : Option ℕ) (effect : Change) → Answers (case_with b (len m) w found effect) b m e n → Tells b m w found e.reply
  told_case None Keep h = subst (Tells b m w None) (sym h.0) tt
  told_case None (Set value) h = told_new (nat_lt w b.limit) (nat_lt (len m) (most_pairs b)) refl refl h
  told_case None Remove h = told_old None (nat_lt w b.limit) refl h
  told_case (Some old) Keep h = subst (Tells b m w (Some old)) (sym h.0) tt
  told_case (Some old) (Set value) h = told_old (Some old) (nat_lt w b.limit) refl h
  told_case (Some old) Remove h = told_old (Some old) (nat_lt w b.limit) refl h

  told : IsEvent b m w e n → Tells b m w e.found e.reply
  told step = told_case e.found (effect_of e.change e.found) step.answers

-- the verdict by what is live, what the packet may start, the rule, and the reply
abbrev said : Bool → Bool → Ruling → Reply → Verdict
said live starts ruling r = if live then verdict.Session else (if starts then verdict_reflected ruling r else verdict_of_rules ruling)

entered : (rule : ℕ) (r : Reply) → IsTaken r → verdict_entered rule r ≡ verdict.Reflect rule
entered rule (Kept found) taken = refl
entered rule (Changed found) taken = refl
entered rule (Worn found) taken = absurd taken
entered rule Full taken = absurd taken
entered rule (NoPages log2 left) taken = absurd taken

reflected_worn : (ruling : Ruling) (found : Option ℕ) → reflects ruling ≡ true → verdict_reflected ruling (Worn found) ≡ verdict.Worn
reflected_worn None found is = absurd (let f : ⊥ = cc in f)
reflected_worn (Some decided) found is = refl

reflected_pages : (ruling : Ruling) (log2 left : ℕ) → reflects ruling ≡ true → verdict_reflected ruling (NoPages log2 left) ≡ verdict.NoPages
reflected_pages None log2 left is = absurd (let f : ⊥ = cc in f)
reflected_pages (Some decided) log2 left is = refl

module _ (u : Update) (at : Meeting) (of : IsEventOf u at.event)
    (step : IsEvent at.bounds at.before at.writes at.event at.after) where
  words_are : at.event.found ≡ get at.before (words_of u.key)
  words_are = step.found ∙ ap (get at.before) of.key

  live_is : (is_live_for u.patch at.event.found ≡ true) ↔ HoldsLive u at.before
  live_is =
      subst (λ found. (is_live_for u.patch at.event.found ≡ true) ↔ ((session : SessionFacts) × IsLiveFor u.patch found session))
      words_are (live_told u.patch at.event.found)

  none_live : is_live_for u.patch at.event.found ≡ false → HoldsLive u at.before → ⊥
  none_live off live = let clash = sym (live_is.1 live) ∙ off in let f : ⊥ = cc in f

  off_from : (HoldsLive u at.before → ⊥) → is_live_for u.patch at.event.found ≡ false
  off_from none = elim (cases_Bool (is_live_for u.patch at.event.found)) [
    | inl on ↦ absurd (none (live_is.0 on))
    | inr off ↦ off
  ]

  stands : is_live_for u.patch at.event.found ≡ false → u.patch.reflects ≡ true → IsTaken at.event.reply ↔ HoldsStarted u at.after
  stands off starts = taken_starts u at.bounds at.before at.after at.writes at.event of step off starts

  tells : (r : Reply) → at.event.reply ≡ r → Tells at.bounds at.before at.writes at.event.found r
  tells r is =
      subst (Tells at.bounds at.before at.writes at.event.found) is (told at.bounds at.before at.after at.writes at.event step)

  row_entered : (place : ℕ) → is_live_for u.patch at.event.found ≡ false → u.patch.reflects ≡ true → (r : Reply) → at.event.reply ≡ r
      → IsFlowRow u (Some (place, Reflect)) at (verdict_entered (place + 1) r)
  row_entered place off starts (Kept found) is =
      (record { none = none_live off; starts = starts }, (place, refl, refl), (stands off starts).0 (subst IsTaken (sym is) tt))
  row_entered place off starts (Changed found) is =
      (record { none = none_live off; starts = starts }, (place, refl, refl), (stands off starts).0 (subst IsTaken (sym is) tt))
  row_entered place off starts (Worn found) is = record {
    may = record { none = none_live off; starts = starts };
    worn = tells (Worn found) is;
    missing = λ there. subst IsTaken is ((stands off starts).1 there);
  }
  row_entered place off starts Full is =
      no_room u (Some (place, Reflect)) at.bounds at.before at.after at.writes at.event of step
      (λ i. said (off i) (starts i) (Some (place, Reflect)) (is i))
  row_entered place off starts (NoPages log2 left) is =
      let (absent, may_change, room, within, few) = tells (NoPages log2 left) is in record {
        starts = starts;
        absent = sym words_are ∙ absent;
        may_change = may_change;
        room = room;
        log2 = log2;
        left = left;
        within = within;
        few = few;
        told = is;
      }

  -- what is said has its row
  row_said : (live starts : Bool) (ruling : Ruling) → is_live_for u.patch at.event.found ≡ live → u.patch.reflects ≡ starts
      → (starts ≡ true → reflects ruling ≡ true) → IsFlowRow u ruling at (said live starts ruling at.event.reply)
  row_said true starts ruling on is rules = live_is.0 on
  row_said false true None off is rules = absurd (let t = rules refl in let f : ⊥ = cc in f)
  row_said false true (Some (place, Deny)) off is rules = absurd (let t = rules refl in let f : ⊥ = cc in f)
  row_said false true (Some (place, Permit)) off is rules = absurd (let t = rules refl in let f : ⊥ = cc in f)
  row_said false true (Some (place, Reflect)) off is rules = row_entered place off is at.event.reply refl
  row_said false false None off is rules = (none_live off, refl)
  row_said false false (Some (place, Deny)) off is rules = (none_live off, (place, refl, refl))
  row_said false false (Some (place, Permit)) off is rules = (none_live off, inl (place, refl, refl))
  row_said false false (Some (place, Reflect)) off is rules = (none_live off, inr ((place, refl, refl), is))

  -- a worn bucket says so
  replies_worn : FindsWorn u at → (r : Reply) → at.event.reply ≡ r → (found : Option ℕ) × (at.event.reply ≡ Worn found)
  replies_worn row (Kept found) is = absurd (row.missing ((stands (off_from row.may.none) row.may.starts).0 (subst IsTaken (sym is) tt)))
  replies_worn row (Changed found) is = absurd (row.missing ((stands (off_from row.may.none) row.may.starts).0 (subst IsTaken (sym is) tt)))
  replies_worn row (Worn found) is = (found, is)
  replies_worn row Full is =
      let absent : at.event.found ≡ None = found_is_told at.bounds at.before at.after at.writes at.event step ∙ ap found_by is in
      let refused = refused_full at.bounds at.before at.after at.writes at.event step is absent in
      let may_change : at.writes < at.bounds.limit = ltb-true at.writes at.bounds.limit refused.may_change in
      let worn : at.bounds.limit ≤ at.writes = row.worn in
      absurd (omega arith)
  replies_worn row (NoPages log2 left) is =
      let may_change : at.writes < at.bounds.limit = (tells (NoPages log2 left) is).1 in
      let worn : at.bounds.limit ≤ at.writes = row.worn in
      absurd (omega arith)

  module _ (ruling : Ruling) (rules : u.patch.reflects ≡ true → reflects ruling ≡ true) where
    -- a packet whose rule doesn't reflect starts nothing
    quiet : reflects ruling ≡ false → u.patch.reflects ≡ false
    quiet plain = elim (cases_Bool u.patch.reflects) [
      | inl starts ↦ let clash = sym (rules starts) ∙ plain in absurd (let f : ⊥ = cc in f)
      | inr is ↦ is
    ]

    by_rule : (HoldsLive u at.before → ⊥) → u.patch.reflects ≡ false → (other : Ruling) → ruling ≡ other
        → verdict_of u.patch ruling at.event.found at.event.reply ≡ verdict_of_rules other
    by_rule none still other ruled = λ i. said (off_from none i) (still i) (ruled i) at.event.reply

    -- where a row holds, its verdict is said
    said_in : (v : Verdict) → IsFlowRow u ruling at v → verdict_of u.patch ruling at.event.found at.event.reply ≡ v
    said_in verdict.Session holds = λ i. said (live_is.1 holds i) u.patch.reflects ruling at.event.reply
    said_in (verdict.Reflect number) (may, (place, ruled, counted), there) =
        let off = off_from may.none in
        let starts = may.starts in
        (λ i. said (off i) (starts i) (ruled i) at.event.reply)
        ∙ entered (place + 1) at.event.reply ((stands off starts).1 there) ∙ ap (λ (k : ℕ). verdict.Reflect k) (sym counted)
    said_in (verdict.Permit number) (none, inl (place, ruled, counted)) =
        by_rule none (quiet (ap reflects ruled)) (Some (place, Permit)) ruled ∙ ap (λ (k : ℕ). verdict.Permit k) (sym counted)
    said_in (verdict.Permit number) (none, inr ((place, ruled, counted), still)) =
        by_rule none still (Some (place, Reflect)) ruled ∙ ap (λ (k : ℕ). verdict.Permit k) (sym counted)
    said_in (verdict.Deny number) (none, (place, ruled, counted)) =
        by_rule none (quiet (ap reflects ruled)) (Some (place, Deny)) ruled ∙ ap (λ (k : ℕ). verdict.Deny k) (sym counted)
    said_in verdict.ByDefault (none, ruled) = by_rule none (quiet (ap reflects ruled)) None ruled
    said_in verdict.Worn row =
        let (found, is) = replies_worn row at.event.reply refl in
        (λ i. said (off_from row.may.none i) (row.may.starts i) ruling (is i)) ∙ reflected_worn ruling found (rules row.may.starts)
    said_in verdict.Full row =
        is_full u ruling at.bounds at.before at.after at.writes at.event of step (rules row.starts) row
    said_in verdict.NoPages row =
        let off : is_live_for u.patch at.event.found ≡ false = ap (is_live_for u.patch) (words_are ∙ row.absent) in
        (λ i. said (off i) (row.starts i) ruling (row.told i)) ∙ reflected_pages ruling row.log2 row.left (rules row.starts)
    said_in verdict.NotIp row = absurd row
    said_in verdict.Malformed row = absurd row
    said_in verdict.Short row = absurd row

    row_of : IsFlowRow u ruling at (verdict_of u.patch ruling at.event.found at.event.reply)
    row_of = row_said (is_live_for u.patch at.event.found) u.patch.reflects ruling refl refl rules

    pub flow_row : (v : Verdict) → (verdict_of u.patch ruling at.event.found at.event.reply ≡ v) ↔ IsFlowRow u ruling at v
    flow_row v = (λ is. subst (IsFlowRow u ruling at) is row_of, said_in v)

pub row_by_reading : (times : Timeouts) (moment : ℕ) (tuple : TupleFacts) (ruling : Ruling) (u : Update) (at : Meeting)
    (v : Verdict) → update_of times (Ruled moment tuple ruling) ≡ Some u → IsMet u at
    → (verdict_with (Ruled moment tuple ruling) (Asks u at.event) ≡ v) ↔ IsFlowRow u ruling at v
row_by_reading times moment tuple ruling u at v is met =
    flow_row u at met.of met.step ruling (reflects_by_rule times moment tuple ruling u is) v

-- the rules alone
rules_said : (ruling : Ruling) → IsRuleRow ruling (verdict_of_rules ruling)
rules_said None = refl
rules_said (Some (place, Deny)) = (place, refl, refl)
rules_said (Some (place, Permit)) = inl (place, refl, refl)
rules_said (Some (place, Reflect)) = inr (place, refl, refl)

rules_in : (ruling : Ruling) (v : Verdict) → IsRuleRow ruling v → verdict_of_rules ruling ≡ v
rules_in ruling verdict.Session row = absurd row
rules_in ruling (verdict.Reflect number) row = absurd row
rules_in ruling (verdict.Permit number) (inl (place, ruled, counted)) = ap verdict_of_rules ruled ∙ ap (λ (k : ℕ). verdict.Permit k) (sym counted)
rules_in ruling (verdict.Permit number) (inr (place, ruled, counted)) = ap verdict_of_rules ruled ∙ ap (λ (k : ℕ). verdict.Permit k) (sym counted)
rules_in ruling (verdict.Deny number) (place, ruled, counted) = ap verdict_of_rules ruled ∙ ap (λ (k : ℕ). verdict.Deny k) (sym counted)
rules_in ruling verdict.ByDefault ruled = ap verdict_of_rules ruled
rules_in ruling verdict.Worn row = absurd row
rules_in ruling verdict.Full row = absurd row
rules_in ruling verdict.NoPages row = absurd row
rules_in ruling verdict.NotIp row = absurd row
rules_in ruling verdict.Malformed row = absurd row
rules_in ruling verdict.Short row = absurd row

pub row_by_rules : (times : Timeouts) (moment : ℕ) (tuple : TupleFacts) (ruling : Ruling) (j : Judged) (v : Verdict)
    → IsAsked times j → j.reading ≡ Ruled moment tuple ruling → update_of times j.reading ≡ None
    → (verdict_on j ≡ v) ↔ IsRuleRow ruling v
row_by_rules times moment tuple ruling j v asked reads none =
    subst (λ said. (said ≡ v) ↔ IsRuleRow ruling v) (sym (said_by_rules times moment tuple ruling j asked reads none))
    (λ is. subst (IsRuleRow ruling) is (rules_said ruling), rules_in ruling v)

-- whether a verdict is one that a frame alone gives
abbrev is_framed : Verdict → Bool
is_framed verdict.Session = false
is_framed (verdict.Reflect number) = false
is_framed (verdict.Permit number) = false
is_framed (verdict.Deny number) = false
is_framed verdict.ByDefault = false
is_framed verdict.Worn = false
is_framed verdict.Full = false
is_framed verdict.NoPages = false
is_framed verdict.NotIp = true
is_framed verdict.Malformed = true
is_framed verdict.Short = true

rules_unframed : (ruling : Ruling) → is_framed (verdict_of_rules ruling) ≡ false
rules_unframed None = refl
rules_unframed (Some (place, Deny)) = refl
rules_unframed (Some (place, Permit)) = refl
rules_unframed (Some (place, Reflect)) = refl

entered_unframed : (rule : ℕ) (r : Reply) → is_framed (verdict_entered rule r) ≡ false
entered_unframed rule (Kept found) = refl
entered_unframed rule (Changed found) = refl
entered_unframed rule (Worn found) = refl
entered_unframed rule Full = refl
entered_unframed rule (NoPages log2 left) = refl

said_unframed : (live starts : Bool) (ruling : Ruling) (r : Reply) → is_framed (said live starts ruling r) ≡ false
said_unframed true starts ruling r = refl
said_unframed false true None r = refl
said_unframed false true (Some decided) r = entered_unframed (decided.0 + 1) r
said_unframed false false ruling r = rules_unframed ruling

event_unframed : (ruling : Ruling) (asked : Asked Event) → is_framed (verdict_by_event ruling asked) ≡ false
event_unframed ruling Settled = rules_unframed ruling
event_unframed ruling (Asks u e) = said_unframed (is_live_for u.patch e.found) u.patch.reflects ruling e.reply

module _ (policy : PolicyFacts) (packet : PacketFacts) (reading : Reading) (asked : Asked Event)
    (read : IsReading policy packet reading) where
  given : (v : Verdict) → reading ≡ Framed v → verdict_with reading asked ≡ v
  given v same = ap (λ (r : Reading). verdict_with r asked) same

  no_rule : (tuple : TupleFacts) (ruling : Ruling) → reading ≡ Ruled packet.moment tuple ruling → (v : Verdict) → is_framed v ≡ true
      → verdict_with reading asked ≡ v → ⊥
  no_rule tuple ruling same v framed is =
      let clash : false ≡ true =
      sym (event_unframed ruling asked)
      ∙ ap (λ (r : Reading). is_framed (verdict_with r asked)) (sym same) ∙ ap is_framed is ∙ framed in
      let f : ⊥ = cc in f

  -- the view by which the packet was read
  abbrev Views : FrameFacts → Type 0
  Views view = IsSeen policy packet view × IsReadingOf (section_of packet.interface policy) packet.moment view reading

  seen_not_ip : (view : FrameFacts) → Views view → verdict_with reading asked ≡ verdict.NotIp → IsSeen policy packet frames.NotIp
  seen_not_ip frames.NotIp (seen, of) is = seen
  seen_not_ip frames.Malformed (seen, of) is = let other = given verdict.Malformed of in absurd (cc)
  seen_not_ip frames.Short (seen, of) is = let other = given verdict.Short of in absurd (cc)
  seen_not_ip (frames.Ip direction tuple) (seen, (ruling, decides, same)) is = absurd (no_rule tuple ruling same verdict.NotIp refl is)

  seen_malformed : (view : FrameFacts) → Views view → verdict_with reading asked ≡ verdict.Malformed → IsSeen policy packet frames.Malformed
  seen_malformed frames.NotIp (seen, of) is = let other = given verdict.NotIp of in absurd (cc)
  seen_malformed frames.Malformed (seen, of) is = seen
  seen_malformed frames.Short (seen, of) is = let other = given verdict.Short of in absurd (cc)
  seen_malformed (frames.Ip direction tuple) (seen, (ruling, decides, same)) is = absurd (no_rule tuple ruling same verdict.Malformed refl is)

  seen_short : (view : FrameFacts) → Views view → verdict_with reading asked ≡ verdict.Short → IsSeen policy packet frames.Short
  seen_short frames.NotIp (seen, of) is = let other = given verdict.NotIp of in absurd (cc)
  seen_short frames.Malformed (seen, of) is = let other = given verdict.Malformed of in absurd (cc)
  seen_short frames.Short (seen, of) is = seen
  seen_short (frames.Ip direction tuple) (seen, (ruling, decides, same)) is = absurd (no_rule tuple ruling same verdict.Short refl is)

  pub not_ip_row : (verdict_with reading asked ≡ verdict.NotIp) ↔ IsSeen policy packet frames.NotIp
  not_ip_row = (
    seen_not_ip read.0 (read.1, read.2),
    λ seen. given verdict.NotIp (one_reading policy packet reading (Framed verdict.NotIp) read (frames.NotIp, seen, refl)),
  )

  pub malformed_row : (verdict_with reading asked ≡ verdict.Malformed) ↔ IsSeen policy packet frames.Malformed
  malformed_row = (
    seen_malformed read.0 (read.1, read.2),
    λ seen. given verdict.Malformed (one_reading policy packet reading (Framed verdict.Malformed) read (frames.Malformed, seen, refl)),
  )

  pub short_row : (verdict_with reading asked ≡ verdict.Short) ↔ IsSeen policy packet frames.Short
  short_row = (
    seen_short read.0 (read.1, read.2),
    λ seen. given verdict.Short (one_reading policy packet reading (Framed verdict.Short) read (frames.Short, seen, refl)),
  )

-- a packet among others that are judged one after the other
pub row_in_order : (l : Layout) (times : Timeouts) (opening : Home → Pairs) (before after : List Judged) (j : Judged)
    (moment : ℕ) (tuple : TupleFacts) (ruling : Ruling) (u : Update) → IsOneThread l times opening (before ++ j ∷ after)
    → j.reading ≡ Ruled moment tuple ruling → update_of times j.reading ≡ Some u
    → (at : Meeting) × IsMetAt l opening before j u at × ((v : Verdict) → (verdict_on j ≡ v) ↔ IsFlowRow u ruling at v)
row_in_order l times opening before after j moment tuple ruling u thread reads is =
    let p = placed l times opening before after j u thread is in
    let at : Meeting = record {
      bounds = bounds_in l (home_of l u.key).family;
      before = p.left;
      writes = p.count;
      event = p.event;
      after = p.leaves;
    } in
    let same : verdict_on j ≡ verdict_with (Ruled moment tuple ruling) (Asks u p.event) = ap₂ verdict_with reads p.is in (
      at,
      record {
        event = p.is;
        bounds = refl;
        left = (p.count, p.before_it);
        counted = refl;
        leaves = leaves_behind l opening before j u p;
      },
      λ v. subst (λ found. (found ≡ v) ↔ IsFlowRow u ruling at v) (sym same)
          (row_by_reading times moment tuple ruling u at v (ap (update_of times) (sym reads) ∙ is) (record { of = p.of; step = p.step })),
    )

-- the row of a full bucket
pub full_in_order : (l : Layout) (times : Timeouts) (opening : Home → Pairs) (before after : List Judged) (j : Judged)
    (moment : ℕ) (tuple : TupleFacts) (ruling : Ruling) (u : Update) → IsOneThread l times opening (before ++ j ∷ after)
    → j.reading ≡ Ruled moment tuple ruling → update_of times j.reading ≡ Some u
    → (m : Pairs) × (left : Leave l opening before (home_of l u.key) m)
    × ((verdict_on j ≡ verdict.Full) ↔ FindsNoRoom u (bounds_in l (home_of l u.key).family) m left.0)
full_in_order l times opening before after j moment tuple ruling u thread reads is =
    let (at, met, rows) = row_in_order l times opening before after j moment tuple ruling u thread reads is in (
      at.before,
      met.left,
      subst₂ (λ b w. (verdict_on j ≡ verdict.Full) ↔ FindsNoRoom u b at.before w) met.bounds met.counted (rows verdict.Full),
    )
