-- What a refusal for want of pages tells of a packet.
use Rattle.std.proofs.Common.{◌≡◌, ◌≢◌, ◌∙◌, ◌+◌, ◌^◌, ◌<◌, ◌≤◌, ℕ, Bool, true, false, Option, Some, None, ap, refl, sym, subst, inl, inr}
use Rattle.std.specs.Prelude.{nat_lt, if◌then◌else◌, ◌==◌}
use Rattle.std.specs.FinMap.{len}
use lib.ListN.{get_elem?}
use mathlib.Core.Option.{some}
use Rattle.packet_view.specs.Captures.{PacketFacts}
use Rattle.packet_view.specs.Frames as frames
use Rattle.acl_policy.specs.Policies.{PolicyFacts, section_of}
use Rattle.acl_policy.specs.declared.rule.Action.{Action}
use Rattle.acl_policy.specs.declared.rule.Action.TheVariants as action
use Rattle.bihash_words.specs.Maps.{Answers, Bounds, NoRoom, NewKey, Event, WornOut, Pairs, OldKey, effect_of, most_pairs, case_with}
use Rattle.bihash_words.specs.Refusals.{IsNoRefusal}
use Rattle.bihash_words.proofs.MapLemmas.{refused_or_recycled}
use Rattle.bihash_words.specs.Sizes.{Sizes}
use Rattle.bihash_words.specs.declared.patch.Change.{Change}
use Rattle.bihash_words.specs.declared.patch.Change.TheVariants.{Keep, Set, Remove}
use Rattle.bihash_words.specs.declared.patch.Reply.{Reply}
use Rattle.bihash_words.specs.declared.patch.Reply.TheVariants as reply
use Rattle.bihash_rule.specs.Histories.{IsLegal, after, bounds_of, event_of, is_changed}
use Rattle.bihash_rule.specs.Callers.{IsLawfulCaller, known_at, opening_at}
use Rattle.bihash_rule.specs.declared.view.Call.{Call}
use Rattle.bihash_rule.specs.declared.view.Record.{Record}
use Rattle.bihash_rule.specs.declared.view.View.{View}
use Rattle.session_state.specs.Decisions.{PatchFacts, decision_of, is_live_for}
use Rattle.session_state.specs.declared.timeouts.Timeouts.{Timeouts}
use Rattle.session_state.specs.declared.verdict.Verdict.TheVariants as verdict
use Rattle.flow_filter.specs.Readings.{Framed, IsReading, IsReadingOf, Reading, Ruled, Ruling}
use Rattle.flow_filter.specs.Updates.{Update, reflects, update_of}
use Rattle.flow_filter.specs.Judged.{Asked, Asks, IsEventOf, Judged, Settled, WhereAsked, verdict_by_event, verdict_on, verdict_with}
use Rattle.flow_filter.specs.Verdicts.{verdict_by, verdict_entered, verdict_of, verdict_of_rules, verdict_reflected}
use Rattle.flow_filter.specs.OneThread.{HasPages}
use Rattle.flow_filter.proofs.PassingLemmas.{reflects_by_rule}

-- ---- On the map

kept_pages : (found : Option ℕ) (log2 left : ℕ) → reply.Kept found ≡ reply.NoPages log2 left → ⊥
kept_pages found log2 left e = let f : ⊥ = cc in f

changed_pages : (found : Option ℕ) (log2 left : ℕ) → reply.Changed found ≡ reply.NoPages log2 left → ⊥
changed_pages found log2 left e = let f : ⊥ = cc in f

worn_pages : (found : Option ℕ) (log2 left : ℕ) → reply.Worn found ≡ reply.NoPages log2 left → ⊥
worn_pages found log2 left e = let f : ⊥ = cc in f

full_pages : (log2 left : ℕ) → reply.Full ≡ reply.NoPages log2 left → ⊥
full_pages log2 left e = let f : ⊥ = cc in f

same_log2 : (log2 left other rest : ℕ) → reply.NoPages log2 left ≡ reply.NoPages other rest → log2 ≡ other
same_log2 log2 left other rest e = cc

same_left : (log2 left other rest : ℕ) → reply.NoPages log2 left ≡ reply.NoPages other rest → left ≡ rest
same_left log2 left other rest e = cc

-- an event that was refused for want of pages found nothing and was to set a value, and fewer pages were left than the
-- least block has that it wanted
pub record IsWant (b : Bounds) (found : Option ℕ) (change : Change) (log2 left : ℕ) : Type 0 where
  pub absent : found ≡ None
  pub value : ℕ
  pub sets : change ≡ Set value
  pub small : log2 ≤ b.max_log2
  pub few : left < 2 ^ log2

wants_new : (b : Bounds) (m m' : Pairs) (e : Event) (value log2 left : ℕ) (may room : Bool)
    → Answers (if may then (if room then NewKey else NoRoom) else WornOut) b m e m' → e.reply ≡ reply.NoPages log2 left
    → IsWant b None (Set value) log2 left
wants_new b m m' e value log2 left true true (inl sure) short =
    absurd (changed_pages None log2 left (sym sure.0 ∙ short))
wants_new b m m' e value log2 left true true (inr ((other, rest, is, small, few), same)) short =
    let told : reply.NoPages other rest ≡ reply.NoPages log2 left = sym is ∙ short in record {
      absent = refl;
      value = value;
      sets = refl;
      small = subst (λ k. k ≤ b.max_log2) (same_log2 other rest log2 left told) small;
      few =
          subst (λ k. left < 2 ^ k) (same_log2 other rest log2 left told)
          (subst (λ k. k < 2 ^ other) (same_left other rest log2 left told) few);
    }
wants_new b m m' e value log2 left true false answers short =
    elim (refused_or_recycled e.recycling.removed m m' e answers) [
      | inl refused ↦ absurd (full_pages log2 left (sym refused.0 ∙ short))
      | inr recycled ↦ absurd (changed_pages None log2 left (sym recycled.0 ∙ short))
    ]
wants_new b m m' e value log2 left false room answers short =
    absurd (worn_pages e.found log2 left (sym answers.0 ∙ short))

present : (b : Bounds) (m m' : Pairs) (e : Event) (log2 left : ℕ) (may : Bool)
    → Answers (if may then OldKey else WornOut) b m e m' → e.reply ≡ reply.NoPages log2 left → ⊥
present b m m' e log2 left true answers short = changed_pages e.found log2 left (sym answers.0 ∙ short)
present b m m' e log2 left false answers short = worn_pages e.found log2 left (sym answers.0 ∙ short)

wants_at : (b : Bounds) (pairs w : ℕ) (found : Option ℕ) (change : Change) (e : Event) (m m' : Pairs) (log2 left : ℕ)
    → Answers (case_with b pairs w found (effect_of change found)) b m e m' → e.reply ≡ reply.NoPages log2 left
    → IsWant b found change log2 left
wants_at b pairs w found Keep e m m' log2 left answers short =
    absurd (kept_pages e.found log2 left (sym answers.0 ∙ short))
wants_at b pairs w None Remove e m m' log2 left answers short =
    absurd (kept_pages e.found log2 left (sym answers.0 ∙ short))
wants_at b pairs w (Some old) Remove e m m' log2 left answers short =
    absurd (present b m m' e log2 left (nat_lt w b.limit) answers short)
wants_at b pairs w None (Set value) e m m' log2 left answers short =
    wants_new b m m' e value log2 left (nat_lt w b.limit) (nat_lt pairs (most_pairs b)) answers short
wants_at b pairs w (Some old) (Set value) e m m' log2 left answers short = go (old == value) answers
  where
    go : (s : Bool) → Answers (case_with b pairs w (Some old) (if s then Keep else Set value)) b m e m'
        → IsWant b (Some old) (Set value) log2 left
    go true x = absurd (kept_pages e.found log2 left (sym x.0 ∙ short))
    go false x = absurd (present b m m' e log2 left (nat_lt w b.limit) x short)

-- ---- In a record

pub legal_call : (z : Sizes) (v : View) (i k : ℕ) (r : Record) (c : Call) → IsLawfulCaller z v
    → get_elem? v.records i ≡ some r
    → get_elem? r.calls k ≡ some c → IsLegal z (opening_at v.known c.bucket) (known_at v.known c.bucket) r.number c
legal_call z v i k r c caller at_i at_k = caller.lawful.legal i k r c at_i at_k

pub wants : (z : Sizes) (v : View) (i k : ℕ) (r : Record) (c : Call) (log2 left : ℕ) → IsLawfulCaller z v
    → get_elem? v.records i ≡ some r
    → get_elem? r.calls k ≡ some c → c.reply ≡ reply.NoPages log2 left → IsWant (bounds_of z) c.found c.change log2 left
wants z v i k r c log2 left caller at_i at_k short =
    let answer = (legal_call z v i k r c caller at_i at_k).other (ap is_changed short) in
    wants_at (bounds_of z) (len (after (opening_at v.known c.bucket) (known_at v.known c.bucket) c.stamp)) c.stamp
    c.found c.change (event_of c)
    (after (opening_at v.known c.bucket) (known_at v.known c.bucket) c.stamp) answer.0 log2 left answer.1.answers short

-- ---- In the verdict

-- a packet that enters a value reflects
sets_reflects : (patch : PatchFacts) (value : ℕ) → decision_of patch None ≡ Set value → patch.reflects ≡ true
sets_reflects patch value sets = go patch.reflects refl
  where
    go : (t : Bool) → patch.reflects ≡ t → patch.reflects ≡ true
    go true e = e
    go false e = let kept : decision_of patch None ≡ Keep = rw e refl in let clash = sym kept ∙ sets in
        let f : ⊥ = cc in absurd f

-- a reflecting packet that is refused for want of pages is told so
refused_is_told : (patch : PatchFacts) (ruling : Ruling) (found : Option ℕ) (r : Reply) (log2 left : ℕ)
    → found ≡ None → patch.reflects ≡ true → reflects ruling ≡ true → r ≡ reply.NoPages log2 left
    → verdict_of patch ruling found r ≡ verdict.NoPages
refused_is_told patch ruling found r log2 left absent sure rules short =
    rw absent (rw short (rw sure (go ruling rules)))
  where
    go : (d : Ruling) → reflects d ≡ true → verdict_reflected d (reply.NoPages log2 left) ≡ verdict.NoPages
    go None clash = let f : ⊥ = cc in absurd f
    go (Some decided) ok = refl

-- a packet whose event was refused for want of pages has that verdict
pub refusal_is_verdict : (times : Timeouts) (reading : Reading) (u : Update) (e : Event) (b : Bounds) (log2 left : ℕ)
    → update_of times reading ≡ Some u → IsEventOf u e → IsWant b e.found e.change log2 left
    → e.reply ≡ reply.NoPages log2 left → verdict_with reading (Asks u e) ≡ verdict.NoPages
refusal_is_verdict times (Framed said) u e b log2 left is of want short = let f : ⊥ = cc in absurd f
refusal_is_verdict times (Ruled moment tuple ruling) u e b log2 left is of want short =
    let sure =
    sets_reflects u.patch want.value (ap (decision_of u.patch) (sym want.absent) ∙ (sym of.change ∙ want.sets)) in
    refused_is_told u.patch ruling e.found e.reply log2 left want.absent sure
    (reflects_by_rule times moment tuple ruling u is sure) short

rules_say_other : (ruling : Ruling) → verdict_of_rules ruling ≢ verdict.NoPages
rules_say_other None e = let f : ⊥ = cc in f
rules_say_other (Some decided) e = go decided.1 e
  where
    go : (a : Action) → verdict_by (decided.0 + 1) a ≡ verdict.NoPages → ⊥
    go action.Deny is = let f : ⊥ = cc in f
    go action.Permit is = let f : ⊥ = cc in f
    go action.Reflect is = let f : ⊥ = cc in f

entered_says_other : (rule : ℕ) (r : Reply) → IsNoRefusal r → verdict_entered rule r ≢ verdict.NoPages
entered_says_other rule (reply.Worn found) paged e = let f : ⊥ = cc in f
entered_says_other rule reply.Full paged e = let f : ⊥ = cc in f
entered_says_other rule (reply.NoPages log2 left) paged e = paged log2 left refl
entered_says_other rule (reply.Kept found) paged e = let f : ⊥ = cc in f
entered_says_other rule (reply.Changed found) paged e = let f : ⊥ = cc in f

reflected_says_other : (ruling : Ruling) (r : Reply) → IsNoRefusal r → verdict_reflected ruling r ≢ verdict.NoPages
reflected_says_other None r paged e = let f : ⊥ = cc in f
reflected_says_other (Some decided) r paged e = entered_says_other (decided.0 + 1) r paged e

verdict_says_other : (patch : PatchFacts) (ruling : Ruling) (found : Option ℕ) (r : Reply) → IsNoRefusal r
    → verdict_of patch ruling found r ≢ verdict.NoPages
verdict_says_other patch ruling found r paged = go (is_live_for patch found) patch.reflects
  where
    go : (s t : Bool)
        → (if s then verdict.Session else (if t then verdict_reflected ruling r else verdict_of_rules ruling))
        ≢ verdict.NoPages
    go true t e = let f : ⊥ = cc in f
    go false true e = reflected_says_other ruling r paged e
    go false false e = rules_say_other ruling e

-- a packet whose event wasn't refused for want of pages has another verdict
pub paged_is_told : (policy : PolicyFacts) (packet : PacketFacts) (j : Judged)
    → IsReading policy packet j.reading → HasPages j → verdict_on j ≢ verdict.NoPages
paged_is_told policy packet j read paged = go read.0 read.2
  where
    ruled : (ruling : Ruling) (asked : Asked Event) → WhereAsked asked (λ e. IsNoRefusal e.reply)
        → verdict_by_event ruling asked ≢ verdict.NoPages
    ruled ruling Settled has e = rules_say_other ruling e
    ruled ruling (Asks u x) has e = verdict_says_other u.patch ruling x.found x.reply has e

    go : (view : frames.FrameFacts) → IsReadingOf (section_of packet.interface policy) packet.moment view j.reading
        → verdict_on j ≢ verdict.NoPages
    go frames.NotIp is = subst (λ (r : Reading). verdict_with r j.asked ≢ verdict.NoPages) (sym is) (λ e. let f : ⊥ = cc in f)
    go frames.Malformed is = subst (λ (r : Reading). verdict_with r j.asked ≢ verdict.NoPages) (sym is) (λ e. let f : ⊥ = cc in f)
    go frames.Short is = subst (λ (r : Reading). verdict_with r j.asked ≢ verdict.NoPages) (sym is) (λ e. let f : ⊥ = cc in f)
    go (frames.Ip direction tuple) is =
        subst (λ (r : Reading). verdict_with r j.asked ≢ verdict.NoPages) (sym is.2) (ruled is.0 j.asked paged)
