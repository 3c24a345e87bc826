-- What judging a packet that was viewed tells, by what its update told, or without one.
use Rattle.std.proofs.Common.{◌≡◌, ◌∙◌, None, Some, Ok, refl, sym}
use Rattle.packet_view.specs.Frames.{frame_facts}
use Rattle.bihash_words.specs.Maps.{found_by}
use Rattle.bihash_words.specs.declared.patch.Reply.{Reply}
use Rattle.bihash_words.specs.declared.shape.Shape.{Ghosts}
use Rattle.bihash_rule.specs.declared.view.View.{View}
use Rattle.session_state.specs.Decisions.{decision_of}
use Rattle.session_state.specs.Sessions.{is_expired_at}
use Rattle.flow_filter.specs.declared.interface_filters.InterfaceFilter.{InterfaceFilter}
use Rattle.session_state.specs.declared.verdict.Verdict.{Verdict}
use Rattle.flow_filter.specs.Filters.{section_in}
use Rattle.flow_filter.specs.Judged.{Settled, verdict_with}
use Rattle.flow_filter.specs.Readings.{Ruling}
use Rattle.flow_filter.specs.Updates.{Update, update_of}
use Rattle.flow_filter.specs.Verdicts.{verdict_of}
use Rattle.flow_workers.specs.declared.session_tables.Callers.{Callers}
use Rattle.flow_workers.specs.declared.session_tables.Tables.{Tables}
use Rattle.flow_workers.specs.declared.viewed_packet.ViewedPacket.{ViewedPacket}
use Rattle.flow_workers.specs.Callers.{AreIdle}
use Rattle.flow_workers.specs.inner.PacketPlans.{IsFrameRuling}
use Rattle.flow_workers.specs.inner.Updates.{TellsFlow}
use Rattle.flow_workers.specs.inner.ViewedPackets.{TellsViewed}
use Rattle.flow_workers.proofs.JudgedPackets.{answered, reading_in, ruled_by, settled}
use Rattle.flow_workers.proofs.ShortPackets.{flow_reply, settled_has_pages, short_packet}

-- of a packet without an update, whose callers stay as they are
pub told_settled : {A B K L E : Type 0} (ga : Ghosts A K) (gb : Ghosts B L) (took : View → View → Reply → Type 0)
    (filter : InterfaceFilter) (packet : ViewedPacket) (ruling : Ruling) (tables : Tables A B K L)
    (callers : Callers A B K L ga gb) (verdict : Verdict) → AreIdle ga gb tables callers
    → IsFrameRuling (section_in filter) (frame_facts packet.frame.now) ruling
    → (update_of filter.times (reading_in packet ruling) ≡ None)
    × (verdict ≡ verdict_with (reading_in packet ruling) Settled)
    → TellsViewed {E = E} took filter packet tables callers callers (Ok verdict)
told_settled ga gb took filter packet ruling tables callers verdict idle ruled known = record {
  same = record { four = refl; six = refl };
  idle = idle;
  judged = λ policy s seen.
      settled _ took filter.times policy s packet ruling _ verdict (ruled_by filter policy s packet ruling seen ruled)
      known;
  no_pages = λ policy s seen said. absurd
      (settled_has_pages filter.times packet.moment (frame_facts packet.frame.now) ruling verdict known said);
  wanted = (λ had. had, λ had. had);
  refused = tt;
  lone = λ four six. refl;
  settled = λ none. refl;
}

-- of a packet whose update told this
pub told_answered : {A B K L E : Type 0} (ga : Ghosts A K) (gb : Ghosts B L) (took : View → View → Reply → Type 0)
    (filter : InterfaceFilter) (packet : ViewedPacket) (ruling : Ruling) (tables : Tables A B K L)
    (old new : Callers A B K L ga gb) (u : Update) (reply : Reply) (verdict : Verdict)
    → IsFrameRuling (section_in filter) (frame_facts packet.frame.now) ruling
    → update_of filter.times (reading_in packet ruling) ≡ Some u
    → TellsFlow {E = E} took tables old new u.key (decision_of u.patch) (is_expired_at filter.times packet.moment) (Ok reply)
    → verdict ≡ verdict_of u.patch ruling (found_by reply) reply
    → TellsViewed {E = E} took filter packet tables old new (Ok verdict)
told_answered ga gb took filter packet ruling tables old new u reply verdict ruled asks told said = record {
  same = told.same;
  idle = told.idle;
  judged = λ policy s seen.
      answered _ took filter.times policy s packet ruling _ _ verdict u reply
      (ruled_by filter policy s packet ruling seen ruled) asks told.entered said;
  no_pages = λ policy s seen none.
      short_packet ga gb policy filter.times s packet ruling u _ reply (found_by reply)
      (ruled_by filter policy s packet ruling seen ruled).seen asks
      (flow_reply _ took u.key _ _ _ told.entered.1 told.idle.lawful.0.acts told.idle.lawful.1.acts)
      told.no_pages (sym said ∙ none);
  wanted = told.wanted;
  refused = tt;
  lone = λ four six. refl;
  settled = λ none. refl;
}
