-- What the rules say of the packet, and which sessions are live for it.
use Rattle.packet_view.specs.Frames.{frame_facts}
use Rattle.session_state.specs.Decisions.{is_live_for}
use Rattle.flow_filter.specs.Filters.{section_in}
use Rattle.flow_filter.specs.Liveness.{packet_at}
use Rattle.flow_workers.proofs.JudgedPackets.{ruling_on}
use Rattle.flow_workers.proofs.packet_verdict.try_judge_at.Given as goal

abbrev pub ghosts-judge_as : goal.ghosts-judge_as
ghosts-judge_as g a = record {
  ruling = ruling_on (section_in a.filter.now) (frame_facts a.packet.now.frame.now);
  is_live = is_live_for (packet_at a.filter.now.times a.packet.now.moment);
}
