use Rattle.flow_filter.specs.Filters.{section_in}
use Rattle.flow_filter.proofs.Rulings.{some_ruling}
use Rattle.filter_tests.proofs.tests.lazy_patches.outcome_of.Goals as goal

pub outcome_as-requires-clause-ruling : goal.outcome_as-requires-clause-ruling
outcome_as-requires-clause-ruling c = (some_ruling (section_in c.args.filter.now) c.args.packet).1
