use Rattle.std.proofs.Common.{◌≡◌, length, map}
use Rattle.acl_policy.specs.Policies.{numbers_of, section_facts}
use Rattle.acl_policy.specs.inner.Reading.Policies.{is_among}
use Rattle.acl_policy.proofs.interface_sections.has_section.Given as goal

-- what is left decides
abbrev pub invariant-sections : goal.invariant-sections
invariant-sections l =
    is_among l.interface (numbers_of (map section_facts l.rest)) ≡ is_among l.interface (numbers_of (map section_facts l.sections))

abbrev pub decreases-sections : goal.decreases-sections
decreases-sections l = length l.rest
