-- What is known of a packet before it asks, under what the rules will say of it.
use Rattle.std.specs.Prelude.{◌≡◌, ℕ, Some, None}
use Rattle.packet_view.specs.Frames as frames
use Rattle.packet_view.specs.Frames.{FrameFacts}
use Rattle.acl_policy.specs.Matching.{IsRuling}
use Rattle.acl_policy.specs.Policies.{SectionFacts, rules_of}
use Rattle.session_state.specs.declared.timeouts.Timeouts.{Timeouts}
use Rattle.flow_filter.specs.declared.lazy_patch.HasReading.{Ghosts}
use Rattle.session_state.specs.declared.verdict.Verdict.TheVariants as verdict
use Rattle.flow_filter.specs.LazyPatches.{facts_of}
use Rattle.flow_filter.specs.Readings.{Framed, Reading, Ruled, Ruling}
use Rattle.flow_filter.specs.Updates.{update_of}
use Rattle.flow_filter.specs.Judged as judged
use Rattle.flow_filter.specs.Judged.{verdict_with}
use Rattle.flow_workers.specs.declared.packet_plan.PacketPlan.{PacketPlan}
use Rattle.flow_workers.specs.declared.packet_plan.PacketPlan.TheVariants.{Settled, Asks}

-- the rules of its interface say this of a packet whose frame turns out to be this
abbrev pub IsFrameRuling : SectionFacts → FrameFacts → Ruling → Type 0
IsFrameRuling section frames.NotIp ruling = Unit {0}
IsFrameRuling section frames.Malformed ruling = Unit {0}
IsFrameRuling section frames.Short ruling = Unit {0}
IsFrameRuling section (frames.Ip direction tuple) ruling = IsRuling (rules_of direction section) tuple ruling

-- its reading then
abbrev pub reading_with : ℕ → FrameFacts → Ruling → Reading
reading_with moment frames.NotIp ruling = Framed verdict.NotIp
reading_with moment frames.Malformed ruling = Framed verdict.Malformed
reading_with moment frames.Short ruling = Framed verdict.Short
reading_with moment (frames.Ip direction tuple) ruling = Ruled moment tuple ruling

-- the verdict of a packet without an update, or the update of the others
abbrev pub IsPacketPlan : {D : Type 0} (g : Ghosts D) → Timeouts → Reading → PacketPlan D g → Type 0
IsPacketPlan g times reading (Settled verdict) =
    (update_of times reading ≡ None) × (verdict ≡ verdict_with reading judged.Settled)
IsPacketPlan g times reading (Asks key patch) =
    update_of times reading ≡ Some (record { key = key.now; patch = facts_of g patch })
