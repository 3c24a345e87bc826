-- A filter at hand, as what it goes by.
use Rattle.acl_policy.specs.Policies.{SectionFacts}
use Rattle.flow_filter.specs.declared.interface_filters.InterfaceFilter.{InterfaceFilter}
use Rattle.flow_filter.specs.Rulesets.{rules_in}

-- the section that a filter at an interface goes by
abbrev pub section_in : InterfaceFilter → SectionFacts
section_in f = record { interface = f.interface; own = f.own; inbound = rules_in f.inbound; outbound = rules_in f.outbound }
