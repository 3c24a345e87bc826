-- What C is told of a policy's text: whether it says a policy, what is the matter with its lines, and where its rules stand.
use Rattle.std.specs.Prelude.{◌≡◌, ◌==◌, ◌⊎◌, ℕ, List, ◌++◌, length, take, drop, min, if◌then◌else◌, Option, None, Some}
use Rattle.packet_view.specs.declared.tuple.Direction.TheVariants.{Inbound, Outbound}
use Rattle.acl_policy.specs.Policies.{IsPolicyText, PolicyFacts}
use Rattle.racl_views.specs.Entries.{line_deciding}
use Rattle.racl_views.specs.RuleLines.{AreRules}
use Rattle.racl_views.specs.declared.rule_numbering.RuleLine.{RuleLine}
use Rattle.racl_views.specs.declared.rule_numbering.RuleName.{RuleName}
use Rattle.racl_c.specs.declared.answer_numbers.Made.{Made}
use Rattle.racl_c.specs.declared.policy_text.Checked.{Checked}

-- of what was to be written the front that there is room for was written, and the bytes behind it are the same
abbrev pub IsWritten : List ℕ → (before after : List ℕ) → Type 0
IsWritten told before after =
    after ≡ take (min (length told) (length before)) told ++ drop (min (length told) (length before)) before

-- lines were told of a text of so many bytes, of which as many were written as there is room for
abbrev pub LinesTold : (before after : List ℕ) → ℕ → Type 0
LinesTold before after size = (told : List ℕ) × (size ≡ length told) × IsWritten told before after

-- it is a policy, or it is none, and lines tell why; or memory was refused
abbrev pub CheckTold : List ℕ → (before after : List ℕ) → Checked → Type 0
CheckTold text before after checked =
    ((checked ≡ record { kind = 1; length = 0 }) × (after ≡ before))
    ⊎ (((checked.kind ≡ 0) × LinesTold before after checked.length × ((policy : PolicyFacts) × IsPolicyText text policy))
    ⊎ ((checked.kind ≡ 3) × LinesTold before after checked.length × ((policy : PolicyFacts) → IsPolicyText text policy → ⊥)))

-- the rule with this number among those of a direction, as answers number them, of an interface's section
abbrev pub rule_named : (interface direction rule : ℕ) → Option RuleName
rule_named interface direction rule =
    if direction == 1 then Some (record { interface = interface; direction = Inbound; number = rule })
    else (if direction == 2 then Some (record { interface = interface; direction = Outbound; number = rule }) else None)

-- the line of the rule in a policy's text, and 0 where it has no such rule; or memory was refused
abbrev pub LineTold : List ℕ → Option RuleName → Made → Type 0
LineTold text rule made = (made ≡ record { kind = 1; line = 0 })
    ⊎ ((made.kind ≡ 0) × ((policy : PolicyFacts) → IsPolicyText text policy
    → (rules : List RuleLine) × AreRules text rules × (made.line ≡ line_deciding rules rule)))
