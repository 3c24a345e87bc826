-- A packet is dropped as full exactly where it finds no room.
use Rattle.std.proofs.Common.{◌≡◌, ◌∙◌, ◌+◌, ℕ, Bool, true, false, Option, Some, None, ap, sym, refl, subst, inl, inr}
use Rattle.std.specs.FinMap.{get, len}
use Rattle.std.specs.Prelude.{◌↔◌, if◌then◌else◌, nat_lt, List}
use Rattle.std.proofs.lemmas.Bool.{ltb-true, ltb-false, lt-ltb, le-ltb}
use Rattle.packet_view.specs.Tuples.{TupleFacts}
use Rattle.acl_policy.specs.declared.rule.Action.TheVariants.{Deny, Permit, Reflect}
use Rattle.bihash_words.specs.Maps.{Answers, AnswersFull, Bounds, Case, Event, NewKey, NoRoom, Pairs, OldKey, WornOut, IsEvent, expired_told, case_with, effect_of, found_by, most_pairs, removed_in, spare}
use Rattle.bihash_words.specs.declared.patch.Change.{Change}
use Rattle.bihash_words.specs.declared.patch.Change.TheVariants.{Keep, Set, Remove}
use Rattle.bihash_words.specs.declared.patch.Reply.{Reply}
use Rattle.bihash_words.specs.declared.patch.Reply.TheVariants as reply
use Rattle.bihash_words.specs.declared.patch.Reply.TheVariants.{Full}
use Rattle.bihash_words.proofs.MapLemmas.{found_is_told}
use Rattle.session_state.specs.declared.timeouts.Timeouts.{Timeouts}
use Rattle.session_state.specs.Decisions.{decision_of, is_live_for, started_session}
use Rattle.session_state.specs.Sessions.{session_word}
use Rattle.session_state.specs.declared.verdict.Verdict.TheVariants as verdict
use Rattle.flow_filter.specs.Judged.{Asks, IsEventOf, expired_for, verdict_with}
use Rattle.flow_filter.specs.Passing.{FindsNoRoom}
use Rattle.flow_filter.specs.Readings.{Ruled, Ruling}
use Rattle.flow_filter.specs.Updates.{Update, reflects, update_of, words_of}
use Rattle.flow_filter.specs.Verdicts.{verdict_entered, verdict_of, verdict_of_rules, verdict_reflected}
use Rattle.flow_filter.proofs.PassingLemmas.{reflects_by_rule}
use Rattle.flow_filter.proofs.RecyclingLemmas.{none_goes, none_while_live}

-- what a refusal for want of room tells of the map before it
pub record IsRefusedFull (b : Bounds) (m : Pairs) (w : ℕ) (e : Event) : Type 0 where
  pub may_change : nat_lt w b.limit ≡ true
  pub most : nat_lt (len m) (most_pairs b) ≡ false
  pub stays : e.recycling.removed ≡ None
  pub none : spare m e.recycling.expired ≡ None

abbrev NewCase : Bool → Bool → Case
NewCase may room = if may then (if room then NewKey else NoRoom) else WornOut

module _ (b : Bounds) (m n : Pairs) (w : ℕ) (e : Event) (full : e.reply ≡ Full) where
  by_key : (removed : Option (List ℕ)) → AnswersFull removed m e n → removed ≡ None
  by_key None h = refl
  by_key (Some gone) h = absurd (let clash = sym h.0 ∙ full in let f : ⊥ = cc in f)

  by_room : (may room : Bool) → nat_lt w b.limit ≡ may → nat_lt (len m) (most_pairs b) ≡ room
      → e.recycling.removed ≡ removed_in (NewCase may room) m e.recycling.expired → Answers (NewCase may room) b m e n
      → IsRefusedFull b m w e
  by_room true true may room removed (inl h) = absurd (let clash = sym h.0 ∙ full in let f : ⊥ = cc in f)
  by_room true true may room removed (inr ((log2, left, refused, within, few), same)) =
      absurd (let clash = sym refused ∙ full in let f : ⊥ = cc in f)
  by_room true false may room removed h =
      let stays = by_key e.recycling.removed h in
      record { may_change = may; most = room; stays = stays; none = sym removed ∙ stays }
  by_room false room may test removed h = absurd (let clash = sym h.0 ∙ full in let f : ⊥ = cc in f)

  not_removed : (may : Bool) → Answers (if may then OldKey else WornOut) b m e n → ⊥
  not_removed true h = let clash = sym h.0 ∙ full in cc
  not_removed false h = let clash = sym h.0 ∙ full in cc

  by_effect : (effect : Change) → e.recycling.removed ≡ removed_in (case_with b (len m) w None effect) m e.recycling.expired
      → Answers (case_with b (len m) w None effect) b m e n → IsRefusedFull b m w e
  by_effect Keep removed h = absurd (let clash = sym h.0 ∙ full in let f : ⊥ = cc in f)
  by_effect (Set value) removed h = by_room (nat_lt w b.limit) (nat_lt (len m) (most_pairs b)) refl refl removed h
  by_effect Remove removed h = absurd (not_removed (nat_lt w b.limit) h)

pub refused_full : (b : Bounds) (m n : Pairs) (w : ℕ) (e : Event) → IsEvent b m w e n → e.reply ≡ Full
    → e.found ≡ None → IsRefusedFull b m w e
refused_full b m n w e step full absent =
    by_effect b m n w e full (effect_of e.change None)
    (subst (λ found. e.recycling.removed
    ≡ removed_in (case_with b (len m) w found (effect_of e.change found)) m e.recycling.expired) absent step.removed)
    (subst (λ found. Answers (case_with b (len m) w found (effect_of e.change found)) b m e n) absent step.answers)

-- the verdict tells of the reply
full_entered : (rule : ℕ) (r : Reply) → verdict_entered rule r ≡ verdict.Full → r ≡ Full
full_entered rule (reply.Worn found) is = absurd (let f : ⊥ = cc in f)
full_entered rule reply.Full is = refl
full_entered rule (reply.NoPages log2 left) is = absurd (let f : ⊥ = cc in f)
full_entered rule (reply.Kept found) is = absurd (let f : ⊥ = cc in f)
full_entered rule (reply.Changed found) is = absurd (let f : ⊥ = cc in f)

full_reflected : (ruling : Ruling) (r : Reply) → verdict_reflected ruling r ≡ verdict.Full → r ≡ Full
full_reflected None r is = absurd (let f : ⊥ = cc in f)
full_reflected (Some decided) r is = full_entered (decided.0 + 1) r is

not_by_rules : (ruling : Ruling) → verdict_of_rules ruling ≡ verdict.Full → ⊥
not_by_rules None is = cc
not_by_rules (Some (i, Deny)) is = cc
not_by_rules (Some (i, Permit)) is = cc
not_by_rules (Some (i, Reflect)) is = cc

full_told : (live starts : Bool) (ruling : Ruling) (r : Reply)
    → (if live then verdict.Session else (if starts then verdict_reflected ruling r else verdict_of_rules ruling)) ≡ verdict.Full
    → (starts ≡ true) × (r ≡ Full)
full_told true starts ruling r is = absurd (let f : ⊥ = cc in f)
full_told false true ruling r is = (refl, full_reflected ruling r is)
full_told false false ruling r is = absurd (not_by_rules ruling is)

said_full : (ruling : Ruling) → reflects ruling ≡ true → verdict_reflected ruling Full ≡ verdict.Full
said_full None is = absurd (let f : ⊥ = cc in f)
said_full (Some decided) is = refl

module _ (u : Update) (ruling : Ruling) (b : Bounds) (m n : Pairs) (w : ℕ) (e : Event) (of : IsEventOf u e)
    (step : IsEvent b m w e n) where
  words_are : e.found ≡ get m (words_of u.key)
  words_are = step.found ∙ ap (get m) of.key

  pub no_room : verdict_of u.patch ruling e.found e.reply ≡ verdict.Full → FindsNoRoom u b m w
  no_room is =
      let (starts, full) = full_told (is_live_for u.patch e.found) u.patch.reflects ruling e.reply is in
      let absent : e.found ≡ None = found_is_told b m n w e step ∙ ap found_by full in
      let refused = refused_full b m n w e step full absent in
      let words : e.recycling.expired ≡ expired_for u.patch =
      of.expiry ∙ (λ i. expired_told (refused.stays i) (full i) (expired_for u.patch)) in record {
        starts = starts;
        absent = sym words_are ∙ absent;
        may_change = ltb-true w b.limit refused.may_change;
        most = ltb-false (len m) (most_pairs b) refused.most;
        live = none_goes u.patch m (ap (spare m) (sym words) ∙ refused.none);
      }

  -- the event's case
  no_room_case : FindsNoRoom u b m w → e.found ≡ None → case_with b (len m) w e.found (effect_of e.change e.found) ≡ NoRoom
  no_room_case stuck absent =
      let sets : effect_of e.change e.found ≡ Set (session_word (started_session u.patch)) =
      (λ i. effect_of (of.change i) (absent i)) ∙ ap (λ found. effect_of (decision_of u.patch found) None) absent
      ∙ ap (λ t. effect_of (if t then Set (session_word (started_session u.patch)) else Keep) None) stuck.starts in
      (λ i. case_with b (len m) w (absent i) (sets i))
      ∙ (λ i. NewCase (lt-ltb w b.limit stuck.may_change i) (le-ltb (len m) (most_pairs b) stuck.most i))

  by_going : FindsNoRoom u b m w → (removed : Option (List ℕ)) → e.recycling.removed ≡ removed
      → e.recycling.removed ≡ spare m e.recycling.expired → AnswersFull removed m e n → e.reply ≡ Full
  by_going stuck None is named h = h.0
  by_going stuck (Some gone) is named h =
      let words : e.recycling.expired ≡ expired_for u.patch =
      of.expiry ∙ ap (λ removed. expired_told removed e.reply (expired_for u.patch)) is in
      let clash = sym is ∙ named ∙ ap (spare m) words ∙ none_while_live u.patch m stuck.live in
      absurd (let f : ⊥ = cc in f)

  pub is_full : (reflects ruling ≡ true) → FindsNoRoom u b m w → verdict_of u.patch ruling e.found e.reply ≡ verdict.Full
  is_full rules stuck =
      let absent : e.found ≡ None = words_are ∙ stuck.absent in
      let at = no_room_case stuck absent in
      let full =
      by_going stuck e.recycling.removed refl (subst (λ c. e.recycling.removed ≡ removed_in c m e.recycling.expired) at step.removed)
      (subst (λ c. Answers c b m e n) at step.answers) in
      (λ i. verdict_of u.patch ruling (absent i) (full i))
      ∙ ap (λ t. if t then verdict_reflected ruling Full else verdict_of_rules ruling) stuck.starts ∙ said_full ruling rules

pub full_by_reading : (times : Timeouts) (moment : ℕ) (tuple : TupleFacts) (ruling : Ruling) (u : Update) (b : Bounds)
    (m n : Pairs) (w : ℕ) (e : Event) → update_of times (Ruled moment tuple ruling) ≡ Some u → IsEventOf u e
    → IsEvent b m w e n
    → (verdict_with (Ruled moment tuple ruling) (Asks u e) ≡ verdict.Full) ↔ FindsNoRoom u b m w
full_by_reading times moment tuple ruling u b m n w e is of step = (
  no_room u ruling b m n w e of step,
  λ stuck. is_full u ruling b m n w e of step (reflects_by_rule times moment tuple ruling u is stuck.starts) stuck,
)
