use Rattle.std.proofs.Common.{◌∙◌, ◌||◌, ◌==◌, List, ap, map, sym}
use Rattle.acl_policy.specs.declared.policy.Section.{Section}
use Rattle.acl_policy.specs.Policies.{numbers_of, section_facts}
use Rattle.acl_policy.specs.inner.Reading.Policies.{is_among}
use Rattle.acl_policy.proofs.SectionLemmas.{among_more}
use Rattle.acl_policy.proofs.policy_reading.reading_has_section.Goals as goal

pub returns-then-has_section : goal.returns-then-has_section
returns-then-has_section c =
    let draft = c.args.draft.now in
    let slice = ap (λ (xs : List Section). is_among c.args.interface (numbers_of (map section_facts xs))) c.as_slice.ensures.value in
    c.if-has_section.true
    ∙ sym (among_more c.args.interface (map section_facts draft.done.items) (section_facts draft.current)
    ∙ ap (λ t. t || (c.args.interface == draft.current.interface)) (sym slice ∙ sym c.if-has_section.ensures))

pub returns-else-has_section : goal.returns-else-has_section
returns-else-has_section c =
    let draft = c.args.draft.now in
    let slice = ap (λ (xs : List Section). is_among c.args.interface (numbers_of (map section_facts xs))) c.as_slice.ensures.value in
    sym (among_more c.args.interface (map section_facts draft.done.items) (section_facts draft.current)
    ∙ ap (λ t. t || (c.args.interface == draft.current.interface)) (sym slice ∙ sym c.if-has_section.ensures))
