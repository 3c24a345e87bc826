use Rattle.std.proofs.Common.{◌≡◌, length, map}
use Rattle.std.specs.List.{AllZip}
use Rattle.acl_policy.specs.Policies.{section_among, section_facts}
use Rattle.flow_filter.specs.RuleIndexes.{ArePrepared}
use Rattle.flow_filter.proofs.filters_made_ready.ready_at.Given as goal

-- what is left decides, and is prepared
abbrev pub invariant-sections : goal.invariant-sections
invariant-sections l = record {
  prepared : AllZip ArePrepared l.rest l.left;
  decides : section_among l.interface (map section_facts l.rest) ≡ section_among l.interface (map section_facts l.sections);
}

abbrev pub decreases-sections : goal.decreases-sections
decreases-sections l = length l.rest
