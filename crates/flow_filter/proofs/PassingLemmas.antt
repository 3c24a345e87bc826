-- A packet goes through exactly where a rule lets it through or its session is live.
use Rattle.std.proofs.Common.{◌≡◌, ◌⊎◌, ◌∙◌, ◌+◌, ℕ, Bool, true, false, Option, Some, None, ap, ap₂, sym, refl, subst, inl, inr}
use Rattle.std.specs.FinMap.{get}
use Rattle.std.specs.Prelude.{◌↔◌, if◌then◌else◌, is_some, option_map}
use Rattle.std.proofs.lemmas.Bool.{and_parts}
use Rattle.packet_view.specs.Tuples.{TupleFacts}
use Rattle.acl_policy.specs.declared.rule.Action.TheVariants.{Deny, Permit, Reflect}
use Rattle.bihash_words.specs.Maps.{Bounds, Event, Pairs, IsEvent}
use Rattle.bihash_words.specs.declared.patch.Change.TheVariants.{Set}
use Rattle.bihash_words.specs.declared.patch.Reply.{Reply}
use Rattle.bihash_words.specs.declared.patch.Reply.TheVariants.{Kept, Changed, Worn, Full, NoPages}
use Rattle.bihash_words.specs.Refusals.{IsTaken}
use Rattle.bihash_words.proofs.SetLemmas.{set_stands}
use Rattle.session_state.specs.declared.timeouts.Timeouts.{Timeouts}
use Rattle.session_state.specs.Decisions.{IsLiveFor, PatchFacts, decision_at, decision_of, is_live_for, live_session, started_session}
use Rattle.session_state.specs.Sessions.{SessionFacts, session_word}
use Rattle.session_state.proofs.DecisionLemmas.{without_live}
use Rattle.session_state.proofs.LiveLemmas.{live_told}
use Rattle.session_state.specs.declared.flow.Flow.{Flow}
use Rattle.session_state.specs.Flows.{flow_of}
use Rattle.session_state.specs.declared.verdict.Verdict.{Verdict}
use Rattle.session_state.specs.declared.verdict.Verdict.TheVariants as verdict
use Rattle.flow_filter.specs.Judged.{Asks, IsAsked, IsEventOf, Judged, verdict_on, verdict_with}
use Rattle.flow_filter.specs.Passing.{HoldsLive, HoldsStarted, IsPermitting, LetsThrough}
use Rattle.flow_filter.specs.Readings.{Ruled, Ruling}
use Rattle.flow_filter.specs.Updates.{Update, reflects, update_in, update_of, words_of}
use Rattle.flow_filter.proofs.AskedLemmas.{asks_nothing}
use Rattle.session_state.specs.Passes.{passes}
use Rattle.flow_filter.specs.Verdicts.{verdict_entered, verdict_of, verdict_of_rules, verdict_reflected}

-- the rules alone let a packet through exactly where they permit
rules_pass : (ruling : Ruling) → (passes (verdict_of_rules ruling) ≡ true) ↔ IsPermitting ruling
rules_pass None = (λ is. let f : ⊥ = cc in f, λ h. absurd h)
rules_pass (Some (i, Deny)) = (λ is. let f : ⊥ = cc in f, λ h. absurd h)
rules_pass (Some (i, Permit)) = (λ is. tt, λ h. refl)
rules_pass (Some (i, Reflect)) = (λ is. tt, λ h. refl)

-- a packet whose session was to be entered goes through exactly where the call was taken
entered_passes : (rule : ℕ) (reply : Reply) → (passes (verdict_entered rule reply) ≡ true) ↔ IsTaken reply
entered_passes rule (Kept found) = (λ is. tt, λ h. refl)
entered_passes rule (Changed found) = (λ is. tt, λ h. refl)
entered_passes rule (Worn found) = (λ is. let f : ⊥ = cc in f, λ h. absurd h)
entered_passes rule Full = (λ is. let f : ⊥ = cc in f, λ h. absurd h)
entered_passes rule (NoPages log2 left) = (λ is. let f : ⊥ = cc in f, λ h. absurd h)

-- the verdict where no session is live
abbrev unlive_verdict : Bool → Ruling → Reply → Verdict
unlive_verdict reflecting ruling reply = if reflecting then verdict_reflected ruling reply else verdict_of_rules ruling

-- what a packet that reflects without a live session sets
sets_started : (patch : PatchFacts) (found : Option ℕ) → is_live_for patch found ≡ false → patch.reflects ≡ true
    → decision_of patch found ≡ Set (session_word (started_session patch))
sets_started patch found none is = go (live_session patch found) refl none
  where
    go : (live : Option SessionFacts) → live_session patch found ≡ live → is_some live ≡ false
        → decision_of patch found ≡ Set (session_word (started_session patch))
    go None same test = ap (decision_at patch found) same ∙ ap (without_live patch found) is
    go (Some session) same test = let f : ⊥ = cc in absurd f

-- without a live session the rule decides
unlive : (u : Update) (ruling : Ruling) (reflecting : Bool) (n : Pairs) (reply : Reply) → u.patch.reflects ≡ reflecting
    → (reflecting ≡ true → reflects ruling ≡ true) → (reflecting ≡ true → IsTaken reply ↔ HoldsStarted u n)
    → (passes (unlive_verdict reflecting ruling reply) ≡ true) ↔ LetsThrough u n ruling
unlive u None true n reply is rules taken = absurd (let t = rules refl in let f : ⊥ = cc in f)
unlive u (Some (i, Deny)) true n reply is rules taken = absurd (let t = rules refl in let f : ⊥ = cc in f)
unlive u (Some (i, Permit)) true n reply is rules taken = absurd (let t = rules refl in let f : ⊥ = cc in f)
unlive u (Some (i, Reflect)) true n reply is rules taken =
    let passed = entered_passes (i + 1) reply in
    let stands = taken refl in
    (λ p reflecting. stands.0 (passed.0 p), λ h. passed.1 (stands.1 (h is)))
unlive u None false n reply is rules taken = (λ p. let f : ⊥ = cc in f, λ h. absurd h)
unlive u (Some (i, Deny)) false n reply is rules taken = (λ p. let f : ⊥ = cc in f, λ h. absurd h)
unlive u (Some (i, Permit)) false n reply is rules taken = (λ p. tt, λ h. refl)
unlive u (Some (i, Reflect)) false n reply is rules taken = (λ p reflecting. let f : ⊥ = cc in absurd f, λ h. refl)

-- an update reflects only where the rule does
pub reflects_by_rule : (times : Timeouts) (moment : ℕ) (tuple : TupleFacts) (ruling : Ruling) (u : Update)
    → update_of times (Ruled moment tuple ruling) ≡ Some u → u.patch.reflects ≡ true → reflects ruling ≡ true
reflects_by_rule times moment tuple ruling u is starts = go (flow_of tuple) is
  where
    go : (flow : Option Flow) → option_map (update_in times moment tuple ruling) flow ≡ Some u → reflects ruling ≡ true
    go None none = let f : ⊥ = cc in absurd f
    go (Some flow) same =
        let both : update_in times moment tuple ruling flow ≡ u = cc in
        (and_parts (reflects ruling) flow.starts (ap (λ (v : Update). v.patch.reflects) both ∙ starts)).0

-- the verdict by a session or without
abbrev verdict_by_session : Bool → Update → Ruling → Event → Verdict
verdict_by_session live u ruling e = if live then verdict.Session else unlive_verdict u.patch.reflects ruling e.reply

-- the call of a packet that reflects without a live session is taken exactly where its session stands then
pub taken_starts : (u : Update) (b : Bounds) (m n : Pairs) (w : ℕ) (e : Event) → IsEventOf u e → IsEvent b m w e n
    → is_live_for u.patch e.found ≡ false → u.patch.reflects ≡ true → IsTaken e.reply ↔ HoldsStarted u n
taken_starts u b m n w e of step none starts =
    let value : ℕ = session_word (started_session u.patch) in
    subst (λ key. IsTaken e.reply ↔ (get n key ≡ Some value)) of.key
    (set_stands b m n w value e step (of.change ∙ sets_started u.patch e.found none starts))

-- a packet goes through exactly where its session is live or the rule lets it through
pub pass_by_event : (u : Update) (ruling : Ruling) (b : Bounds) (m n : Pairs) (w : ℕ) (e : Event) → IsEventOf u e
    → IsEvent b m w e n → (u.patch.reflects ≡ true → reflects ruling ≡ true)
    → (passes (verdict_of u.patch ruling e.found e.reply) ≡ true) ↔ (HoldsLive u m ⊎ LetsThrough u n ruling)
pass_by_event u ruling b m n w e of step rules = go (is_live_for u.patch e.found) refl
  where
    found_is : e.found ≡ get m (words_of u.key)
    found_is = step.found ∙ ap (get m) of.key

    told : (is_live_for u.patch e.found ≡ true) ↔ HoldsLive u m
    told =
        subst (λ found. (is_live_for u.patch e.found ≡ true)
        ↔ ((session : SessionFacts) × IsLiveFor u.patch found session))
        found_is (live_told u.patch e.found)

    go : (live : Bool) → is_live_for u.patch e.found ≡ live
        → (passes (verdict_of u.patch ruling e.found e.reply) ≡ true) ↔ (HoldsLive u m ⊎ LetsThrough u n ruling)
    go true is = (λ p. inl (told.0 is), λ h. ap (λ t. passes (verdict_by_session t u ruling e)) is)
    go false is =
        let same = ap (λ t. passes (verdict_by_session t u ruling e)) is in
        let rest = unlive u ruling u.patch.reflects n e.reply refl rules (taken_starts u b m n w e of step is) in (
          λ p. inr (rest.0 (sym same ∙ p)),
          λ h. elim h [
            | inl live ↦ let clash = sym (told.1 live) ∙ is in let f : ⊥ = cc in absurd f
            | inr lets ↦ same ∙ rest.1 lets
          ],
        )

-- the same of a reading
pub pass_by_reading : (times : Timeouts) (moment : ℕ) (tuple : TupleFacts) (ruling : Ruling) (u : Update) (b : Bounds)
    (m n : Pairs)
    (w : ℕ) (e : Event) → update_of times (Ruled moment tuple ruling) ≡ Some u → IsEventOf u e → IsEvent b m w e n
    → (passes (verdict_with (Ruled moment tuple ruling) (Asks u e)) ≡ true) ↔ (HoldsLive u m ⊎ LetsThrough u n ruling)
pass_by_reading times moment tuple ruling u b m n w e is of step =
    pass_by_event u ruling b m n w e of step (reflects_by_rule times moment tuple ruling u is)

-- what the rules alone say of a packet without a flow
pub said_by_rules : (times : Timeouts) (moment : ℕ) (tuple : TupleFacts) (ruling : Ruling) (j : Judged) → IsAsked times j
    → j.reading ≡ Ruled moment tuple ruling → update_of times j.reading ≡ None → verdict_on j ≡ verdict_of_rules ruling
said_by_rules times moment tuple ruling j asked reads none =
    ap₂ verdict_with reads (asks_nothing (update_of times j.reading) j.asked asked none)

-- it goes through exactly where the rule permits
pub pass_by_rules : (times : Timeouts) (moment : ℕ) (tuple : TupleFacts) (ruling : Ruling) (j : Judged) → IsAsked times j
    → j.reading ≡ Ruled moment tuple ruling → update_of times j.reading ≡ None
    → (passes (verdict_on j) ≡ true) ↔ IsPermitting ruling
pass_by_rules times moment tuple ruling j asked reads none =
    subst (λ v. (passes v ≡ true) ↔ IsPermitting ruling) (sym (said_by_rules times moment tuple ruling j asked reads none))
    (rules_pass ruling)
