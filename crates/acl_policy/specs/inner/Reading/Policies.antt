-- What a line adds to a policy, as a function.
use Rattle.std.specs.Prelude.{◌≡◌, ℕ, Bool, false, ◌||◌, ◌==◌, nat_le, List, [], ◌∷◌, ◌++◌, length, map, Option, Some, None, is_some, Result, Ok, Err, if◌then◌else◌}
use Rattle.packet_view.specs.declared.tuple.Direction.TheVariants.{Inbound, Outbound}
use Rattle.acl_policy.specs.declared.policy.PolicyFault.{PolicyFault}
use Rattle.acl_policy.specs.declared.policy.PolicyFault.TheVariants.{Memory, NotUtf8, BadLine, TooMany}
use Rattle.acl_policy.specs.declared.policy_draft.Draft.{Draft}
use Rattle.acl_policy.specs.Lines.{Begins, Blank, LineFacts, Own, Ruled}
use Rattle.acl_policy.specs.Policies.{IsFirstFault, IsSurplus, IsWrong, PolicyFacts, SectionFacts, empty_section, numbers_of, section_facts}
use Rattle.acl_policy.specs.Rules.{RuleFacts, most_rules}

-- what was read of a policy so far: the sections before the current one, and that one
pub record DraftFacts : Type 0 where
  pub done : List SectionFacts
  pub current : SectionFacts

abbrev pub draft_facts : Draft → DraftFacts
draft_facts d = record { done = map section_facts d.done.items; current = section_facts d.current }

-- all sections so far
abbrev pub policy_so_far : DraftFacts → PolicyFacts
policy_so_far draft = record { sections = draft.done ++ draft.current ∷ [] }

-- whether a number is among these
abbrev pub is_among : ℕ → List ℕ → Bool
is_among number [] = false
is_among number (other ∷ others) = (number == other) || is_among number others

-- the rules of a direction with one more, which the line with this number has
unfoldable pub rule_added : ℕ → List RuleFacts → RuleFacts → Result (List RuleFacts) PolicyFault
rule_added number rules rule = if nat_le most_rules (length rules) then Err (TooMany number) else Ok (rules ++ rule ∷ [])

abbrev pub with_inbound : DraftFacts → Result (List RuleFacts) PolicyFault → Result DraftFacts PolicyFault
with_inbound draft (Ok rules) = Ok (record { done = draft.done; current = record draft.current { inbound = rules } })
with_inbound draft (Err fault) = Err fault

abbrev pub with_outbound : DraftFacts → Result (List RuleFacts) PolicyFault → Result DraftFacts PolicyFault
with_outbound draft (Ok rules) = Ok (record { done = draft.done; current = record draft.current { outbound = rules } })
with_outbound draft (Err fault) = Err fault

-- a policy with what the line with this number says
abbrev pub line_added : ℕ → DraftFacts → Option LineFacts → Result DraftFacts PolicyFault
line_added number draft None = Err (BadLine number)
line_added number draft (Some Blank) = Ok draft
line_added number draft (Some (Begins interface)) =
    if is_among interface (numbers_of (policy_so_far draft).sections) then Err (BadLine number)
    else Ok (record { done = draft.done ++ draft.current ∷ []; current = empty_section interface })
line_added number draft (Some (Own mac)) =
    if is_some draft.current.own then Err (BadLine number)
    else Ok (record { done = draft.done; current = record draft.current { own = Some mac } })
line_added number draft (Some (Ruled Inbound rule)) = with_inbound draft (rule_added number draft.current.inbound rule)
line_added number draft (Some (Ruled Outbound rule)) = with_outbound draft (rule_added number draft.current.outbound rule)

-- The fault is the one that a function gives, or that memory ran out.
abbrev pub Fails : {A : Type 0} → Result A PolicyFault → PolicyFault → Type 0
Fails wanted Memory = Unit {0}
Fails wanted NotUtf8 = wanted ≡ Err NotUtf8
Fails wanted (BadLine number) = wanted ≡ Err (BadLine number)
Fails wanted (TooMany number) = wanted ≡ Err (TooMany number)

-- The fault is the first one of these lines, or that memory ran out.
abbrev pub LinesFail : List (List ℕ) → PolicyFault → Type 0
LinesFail texts Memory = Unit {0}
LinesFail texts NotUtf8 = ⊥
LinesFail texts (BadLine number) = IsFirstFault IsWrong texts number
LinesFail texts (TooMany number) = IsFirstFault IsSurplus texts number
