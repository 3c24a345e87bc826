use Rattle.std.proofs.Common.{◌≡◌, length, map}
use Rattle.acl_policy.specs.Policies.{find_section, section_facts}
use Rattle.acl_policy.proofs.policy.Policy.section.Given as goal

-- what is left decides
abbrev pub invariant-sections : goal.invariant-sections
invariant-sections l =
    find_section l.interface (map section_facts l.rest) ≡ find_section l.interface (map section_facts l.self.sections.items)

abbrev pub decreases-sections : goal.decreases-sections
decreases-sections l = length l.rest
