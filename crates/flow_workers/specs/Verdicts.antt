-- The verdict of one packet, said of the callers that asked for it.
use Rattle.std.specs.Prelude.{◌≡◌, None}
use Rattle.packet_view.specs.Captures.{PacketFacts}
use Rattle.packet_view.specs.Frames.{FrameFacts}
use Rattle.acl_policy.specs.Policies.{PolicyFacts}
use Rattle.bihash_words.specs.declared.patch.Reply.{Reply}
use Rattle.bihash_words.specs.declared.shape.Shape.{Ghosts}
use Rattle.bihash_rule.specs.declared.view.View.{View}
use Rattle.session_state.specs.declared.timeouts.Timeouts.{Timeouts}
use Rattle.session_state.specs.declared.verdict.Verdict.{Verdict}
use Rattle.session_state.specs.declared.verdict.Verdict.TheVariants.{NoPages}
use Rattle.flow_filter.specs.OneThread.{layout_of}
use Rattle.flow_filter.specs.Readings.{IsSeen}
use Rattle.flow_dealing.specs.Dealings.{flow_of_frame}
use Rattle.flow_workers.specs.declared.session_tables.Callers.{Callers}
use Rattle.flow_workers.specs.Callers.{views_of}
use Rattle.flow_workers.specs.Judging.{IsJudged, IsPacketRefused}
use Rattle.flow_workers.specs.OutOfPages.{IsPacketOutOfPages}

-- the packet was judged, by a call that took locks of buckets as `took` says
abbrev pub HasVerdict : {A B K L : Type 0} (ga : Ghosts A K) (gb : Ghosts B L) → (View → View → Reply → Type 0)
    → Timeouts → PolicyFacts → PacketFacts → Callers A B K L ga gb → Callers A B K L ga gb → Verdict → Type 0
HasVerdict ga gb took times policy s old new verdict =
    IsJudged (layout_of ga gb) took times policy s (views_of ga gb old) (views_of ga gb new) verdict

-- the packet met another caller's change or lock
abbrev pub HasNoVerdict : {A B K L : Type 0} (ga : Ghosts A K) (gb : Ghosts B L) → Timeouts → PolicyFacts → PacketFacts
    → Callers A B K L ga gb → Callers A B K L ga gb → Type 0
HasNoVerdict ga gb times policy s old new =
    IsPacketRefused (layout_of ga gb) times policy s (views_of ga gb old) (views_of ga gb new)

-- the packet takes no part in sessions
pub record HasNoFlow (policy : PolicyFacts) (packet : PacketFacts) : Type 0 where
  pub view : FrameFacts
  pub framed : IsSeen policy packet view
  pub shown : flow_of_frame view ≡ None

-- no pages are said where there were too few
abbrev pub ShowsOutOfPages : {A B K L : Type 0} (ga : Ghosts A K) (gb : Ghosts B L) → PolicyFacts → PacketFacts
    → Callers A B K L ga gb → Verdict → Type 0
ShowsOutOfPages ga gb policy s new verdict =
    verdict ≡ NoPages → IsPacketOutOfPages ga gb policy s (views_of ga gb new)
