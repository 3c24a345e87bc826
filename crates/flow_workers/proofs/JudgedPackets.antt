-- A packet that was prepared under what the rules say of it is judged by its verdict alone, or by the reply to its
-- update.
use Rattle.std.proofs.Common.{◌≡◌, ◌∙◌, ℕ, Some, None, Option, ap, refl, sym, subst}
use Rattle.std.specs.Prelude.{option_map}
use Rattle.packet_view.specs.Captures.{PacketFacts}
use Rattle.packet_view.specs.Frames as frames
use Rattle.packet_view.specs.Frames.{FrameFacts, frame_facts}
use Rattle.acl_policy.specs.Policies.{PolicyFacts, SectionFacts, rules_of, section_of}
use Rattle.acl_policy.proofs.RulingLaws.{some_ruling_of}
use Rattle.bihash_words.specs.Expiries.{expired_words}
use Rattle.bihash_words.specs.Maps.{Event, HasExpiry, expired_told, found_by}
use Rattle.bihash_words.specs.declared.patch.Reply.{Reply}
use Rattle.bihash_rule.specs.declared.view.View.{View}
use Rattle.session_state.specs.declared.timeouts.Timeouts.{Timeouts}
use Rattle.session_state.specs.declared.flow.Flow.{Flow}
use Rattle.session_state.specs.Decisions.{decision_of}
use Rattle.session_state.specs.Flows.{flow_of}
use Rattle.session_state.specs.Sessions.{is_expired_at}
use Rattle.flow_filter.specs.declared.interface_filters.InterfaceFilter.{InterfaceFilter}
use Rattle.session_state.specs.declared.verdict.Verdict.{Verdict}
use Rattle.flow_filter.specs.Filters.{section_in}
use Rattle.flow_filter.specs.Readings.{IsReading, IsReadingOf, Reading, Ruling}
use Rattle.flow_filter.specs.Updates.{Update, update_in, update_of, words_of}
use Rattle.flow_filter.specs.Verdicts.{verdict_of}
use Rattle.flow_filter.specs.Judged.{Asks, Settled, expired_for, verdict_with}
use Rattle.flow_filter.specs.OneThread.{Layout}
use Rattle.flow_dealing.specs.Views.{Views}
use Rattle.flow_workers.specs.declared.viewed_packet.ViewedPacket.{ViewedPacket}
use Rattle.flow_workers.specs.Judging.{IsAway, IsJudged, IsPacketRefused}
use Rattle.flow_workers.specs.inner.PacketPlans.{IsFrameRuling, reading_with}
use Rattle.flow_workers.specs.inner.Updates.{IsToldFlow, told_event}
use Rattle.flow_workers.specs.inner.ViewedPackets.{IsViewed, IsViewedBy}

-- what the rules say of a packet, where they are asked
abbrev pub ruling_on : SectionFacts → FrameFacts → Ruling
ruling_on section frames.NotIp = None
ruling_on section frames.Malformed = None
ruling_on section frames.Short = None
ruling_on section (frames.Ip direction tuple) = (some_ruling_of (rules_of direction section) tuple).0

pub is_ruling : (section : SectionFacts) (view : FrameFacts) → IsFrameRuling section view (ruling_on section view)
is_ruling section frames.NotIp = tt
is_ruling section frames.Malformed = tt
is_ruling section frames.Short = tt
is_ruling section (frames.Ip direction tuple) = (some_ruling_of (rules_of direction section) tuple).1

reading_of : (section : SectionFacts) (moment : ℕ) (view : FrameFacts) (ruling : Ruling)
    → IsFrameRuling section view ruling → IsReadingOf section moment view (reading_with moment view ruling)
reading_of section moment frames.NotIp ruling is = refl
reading_of section moment frames.Malformed ruling is = refl
reading_of section moment frames.Short ruling is = refl
reading_of section moment (frames.Ip direction tuple) ruling is = (ruling, is, refl)

-- a packet that was viewed, under what the rules of its interface say of it
pub record IsRuled (policy : PolicyFacts) (s : PacketFacts) (p : ViewedPacket) (ruling : Ruling) : Type 0 where
  pub seen : IsViewed (section_of s.interface policy).own s p
  pub ruled : IsFrameRuling (section_of s.interface policy) (frame_facts p.frame.now) ruling

pub ruled_by : (filter : InterfaceFilter) (policy : PolicyFacts) (s : PacketFacts) (p : ViewedPacket) (ruling : Ruling)
    → IsViewedBy policy filter s p → IsFrameRuling (section_in filter) (frame_facts p.frame.now) ruling
    → IsRuled policy s p ruling
ruled_by filter policy s p ruling by ruled = record {
  seen = subst (λ (section : SectionFacts). IsViewed section.own s p) by.section by.seen;
  ruled = subst (λ (section : SectionFacts). IsFrameRuling section (frame_facts p.frame.now) ruling) by.section ruled;
}

abbrev pub reading_in : ViewedPacket → Ruling → Reading
reading_in p ruling = reading_with p.moment (frame_facts p.frame.now) ruling

reads : (policy : PolicyFacts) (s : PacketFacts) (p : ViewedPacket) (ruling : Ruling) → IsRuled policy s p ruling
    → IsReading policy s (reading_in p ruling)
reads policy s p ruling is = (
  frame_facts p.frame.now,
  is.seen.1,
  subst (λ moment. IsReadingOf (section_of s.interface policy) moment (frame_facts p.frame.now) (reading_in p ruling))
      (sym is.seen.0)
      (reading_of (section_of s.interface policy) p.moment (frame_facts p.frame.now) ruling is.ruled),
)

pub settled : (l : Layout) (took : View → View → Reply → Type 0) (times : Timeouts) (policy : PolicyFacts)
    (s : PacketFacts) (p : ViewedPacket) (ruling : Ruling) (v : Views) (verdict : Verdict) → IsRuled policy s p ruling
    → (update_of times (reading_in p ruling) ≡ None) × (verdict ≡ verdict_with (reading_in p ruling) Settled)
    → IsJudged l took times policy s v v verdict
settled l took times policy s p ruling v verdict is known = record {
  judged = record { reading = reading_in p ruling; asked = Settled };
  read = reads policy s p ruling is;
  asked = known.0;
  entered = refl;
  said = known.1;
}

-- only a packet of a five-tuple has an update, and its verdict is that of the update
said_by : (times : Timeouts) (moment : ℕ) (view : FrameFacts) (ruling : Ruling) (u : Update) (e : Event)
    → update_of times (reading_with moment view ruling) ≡ Some u
    → verdict_with (reading_with moment view ruling) (Asks u e) ≡ verdict_of u.patch ruling e.found e.reply
said_by times moment frames.NotIp ruling u e is = absurd (let f : ⊥ = cc in f)
said_by times moment frames.Malformed ruling u e is = absurd (let f : ⊥ = cc in f)
said_by times moment frames.Short ruling u e is = absurd (let f : ⊥ = cc in f)
said_by times moment (frames.Ip direction tuple) ruling u e is = refl

-- the update's patch has the packet's moment and these timeouts
timed_by : (times : Timeouts) (moment : ℕ) (view : FrameFacts) (ruling : Ruling) (u : Update)
    → update_of times (reading_with moment view ruling) ≡ Some u
    → expired_words (is_expired_at times moment) ≡ expired_for u.patch
timed_by times moment frames.NotIp ruling u is = absurd (let f : ⊥ = cc in f)
timed_by times moment frames.Malformed ruling u is = absurd (let f : ⊥ = cc in f)
timed_by times moment frames.Short ruling u is = absurd (let f : ⊥ = cc in f)
timed_by times moment (frames.Ip direction tuple) ruling u is = go (flow_of tuple) is
  where
    go : (found : Option Flow) → option_map (update_in times moment tuple ruling) found ≡ Some u
        → expired_words (is_expired_at times moment) ≡ expired_for u.patch
    go None e = absurd (let f : ⊥ = cc in f)
    go (Some flow) e =
        let same : update_in times moment tuple ruling flow ≡ u = cc in ap (λ (x : Update). expired_for x.patch) same

pub answered : (l : Layout) (took : View → View → Reply → Type 0) (times : Timeouts) (policy : PolicyFacts)
    (s : PacketFacts) (p : ViewedPacket) (ruling : Ruling) (v w : Views) (verdict : Verdict) (u : Update)
    (reply : Reply) → IsRuled policy s p ruling → update_of times (reading_in p ruling) ≡ Some u
    → IsToldFlow l took u.key (decision_of u.patch) (is_expired_at times p.moment) v w reply
    → verdict ≡ verdict_of u.patch ruling (found_by reply) reply → IsJudged l took times policy s v w verdict
answered l took times policy s p ruling v w verdict u reply is asks entered said = record {
  judged = record { reading = reading_in p ruling; asked = Asks u event };
  read = reads policy s p ruling is;
  asked = (asks, record { key = refl; change = refl; expiry = expiry });
  entered = entered.1;
  said = said ∙ sym (said_by times p.moment (frame_facts p.frame.now) ruling u event asks);
}
  where
    event : Event
    event = told_event (words_of u.key) (decision_of u.patch) (is_expired_at times p.moment) entered.0 reply

    expiry : HasExpiry (expired_for u.patch) event
    expiry = ap (expired_told entered.0 reply) (timed_by times p.moment (frame_facts p.frame.now) ruling u asks)

pub refused : (l : Layout) (times : Timeouts) (policy : PolicyFacts) (s : PacketFacts) (p : ViewedPacket)
    (ruling : Ruling) (v w : Views) (u : Update)
    → IsRuled policy s p ruling → update_of times (reading_in p ruling) ≡ Some u → IsAway l u.key v w
    → IsPacketRefused l times policy s v w
refused l times policy s p ruling v w u is asks away = record {
  reading = reading_in p ruling;
  read = reads policy s p ruling is;
  update = u;
  has = asks;
  away = away;
}
