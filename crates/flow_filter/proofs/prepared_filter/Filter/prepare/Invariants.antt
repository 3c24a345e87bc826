use Rattle.std.proofs.Common.{take}
use Rattle.std.specs.List.{AllZip}
use Rattle.flow_filter.specs.RuleIndexes.{ArePrepared}
use Rattle.flow_filter.proofs.prepared_filter.Filter.prepare.Given as goal

-- the rules of the sections so far are prepared
abbrev pub invariant-loop-section : goal.invariant-loop-section
invariant-loop-section l = AllZip ArePrepared (take l.section-index l.self.policy.sections.items) l.all.items
