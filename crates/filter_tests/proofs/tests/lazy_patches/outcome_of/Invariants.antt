use Rattle.session_state.specs.Decisions.{is_live_for}
use Rattle.flow_filter.specs.Filters.{section_in}
use Rattle.flow_filter.specs.Liveness.{packet_at}
use Rattle.flow_filter.proofs.Rulings.{some_ruling}
use Rattle.filter_tests.proofs.tests.lazy_patches.outcome_of.Given as goal

abbrev pub ghosts-outcome_as : goal.ghosts-outcome_as
ghosts-outcome_as a = record {
  ruling = (some_ruling (section_in a.filter.now) a.packet).0;
  is_live = is_live_for (packet_at a.filter.now.times a.packet.moment);
}
