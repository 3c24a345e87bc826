-- What viewing a packet tells of it, and what judging it then tells of its callers.
use Rattle.std.specs.Prelude.{◌≡◌, true, Option, None, Result, IfOk, IfErr, is_ok}
use Rattle.packet_view.specs.Captures.{PacketFacts}
use Rattle.packet_view.specs.Frames.{frame_facts}
use Rattle.packet_view.specs.declared.tuple.Mac.{Mac}
use Rattle.acl_policy.specs.Policies.{PolicyFacts, section_of}
use Rattle.bihash_words.specs.declared.patch.Reply.{Reply}
use Rattle.bihash_words.specs.declared.shape.Shape.{Ghosts}
use Rattle.bihash_rule.specs.declared.view.View.{View}
use Rattle.flow_filter.specs.Filters.{section_in}
use Rattle.flow_filter.specs.declared.interface_filters.InterfaceFilter.{InterfaceFilter}
use Rattle.session_state.specs.declared.verdict.Verdict.{Verdict}
use Rattle.flow_filter.specs.OneThread.{layout_of}
use Rattle.flow_filter.specs.Readings.{IsSeenAt}
use Rattle.flow_dealing.specs.Dealings.{flow_of_frame}
use Rattle.flow_workers.specs.declared.session_tables.Callers.{Callers}
use Rattle.flow_workers.specs.declared.session_tables.Tables.{Tables}
use Rattle.flow_workers.specs.declared.viewed_packet.ViewedPacket.{ViewedPacket}
use Rattle.flow_workers.specs.Callers.{AreIdle, AreSame, views_of}
use Rattle.flow_workers.specs.Verdicts.{HasNoVerdict, HasVerdict, ShowsOutOfPages}
use Rattle.flow_workers.specs.inner.Wanted.{KeepWanted}

-- the packet is this where its interface has this address
abbrev pub IsViewed : Option Mac → PacketFacts → ViewedPacket → Type 0
IsViewed own packet v = (packet.moment ≡ v.moment) × IsSeenAt own packet (frame_facts v.frame.now)

-- the packet was viewed so, and the filter goes by what the policy says of its interface
pub record IsViewedBy (policy : PolicyFacts) (filter : InterfaceFilter) (packet : PacketFacts) (v : ViewedPacket)
    : Type 0 where
  pub section : section_in filter ≡ section_of packet.interface policy
  pub seen : IsViewed filter.own packet v

-- The verdict on each packet that was viewed so (`TellsVerdict` says it of one), by locks as `took` says. Lone callers
-- are answered, and all of a packet without a flow.
pub record TellsViewed {A B K L E : Type 0} {ga : Ghosts A K} {gb : Ghosts B L} (took : View → View → Reply → Type 0)
    (filter : InterfaceFilter) (packet : ViewedPacket) (tables : Tables A B K L) (old new : Callers A B K L ga gb)
    (r : Result Verdict E) : Type 0 where
  pub same : AreSame ga gb old new
  pub idle : AreIdle ga gb tables new
  pub judged : IfOk r (λ verdict. (policy : PolicyFacts) (s : PacketFacts) → IsViewedBy policy filter s packet
      → HasVerdict ga gb took filter.times policy s old new verdict)
  pub no_pages : IfOk r (λ verdict. (policy : PolicyFacts) (s : PacketFacts) → IsViewedBy policy filter s packet
      → ShowsOutOfPages ga gb policy s new verdict)
  pub wanted : IfOk r (λ _. KeepWanted (layout_of ga gb) (views_of ga gb old) (views_of ga gb new))
  pub refused : IfErr r (λ _. (policy : PolicyFacts) (s : PacketFacts) → IsViewedBy policy filter s packet
      → HasNoVerdict ga gb filter.times policy s old new)
  pub lone : old.four.seat.view.lone ≡ true → old.six.seat.view.lone ≡ true → is_ok r ≡ true
  pub settled : flow_of_frame (frame_facts packet.frame.now) ≡ None → is_ok r ≡ true
