-- Counts by rule behind a handle.
use Rattle.std.specs.Prelude.{◌≡◌, ◌==◌, ◌⊎◌, ℕ, List, Option, None, Some, if◌then◌else◌}
use Rattle.packet_view.specs.declared.tuple.Direction.{Direction}
use Rattle.packet_view.specs.declared.tuple.Direction.TheVariants.{Inbound, Outbound}
use Rattle.acl_policy.specs.Policies.{IsPolicyText, PolicyFacts}
use Rattle.flow_judge.specs.RuleCounting.{CountsNone, RuleRows, count_at, counted_at}
use Rattle.racl_c.specs.Contents.{IsFaultTold}
use Rattle.racl_c.specs.declared.answer_numbers.Made.{Made}
use Rattle.racl_c.specs.declared.content_calls.Content.{Content}
use Rattle.racl_c.specs.declared.content_calls.Content.TheVariants.{Rules}

-- there are counts by rule
abbrev pub HasRules : Content → Type 0
HasRules (Rules counts) = Unit {0}
HasRules x = ⊥

-- no packet was counted yet, for the rules of the policy of this text
pub record AreNoCounts (text : List ℕ) (counts : RuleRows) : Type 0 where
  pub policy : PolicyFacts
  pub says : IsPolicyText text policy
  pub inbound : CountsNone Inbound policy counts.inbound
  pub outbound : CountsNone Outbound policy counts.outbound

abbrev pub CountsNothing : List ℕ → Content → Type 0
CountsNothing text (Rules counts) = AreNoCounts text counts
CountsNothing text x = ⊥

-- counts were made, or the text has a fault, or memory was refused; refused, all is as it was
abbrev pub NewCountsTold : List ℕ → (before after : Content) → Made → Type 0
NewCountsTold text before after made = ((made ≡ record { kind = 0; line = 0 }) × CountsNothing text after)
    ⊎ (IsFaultTold text made × (after ≡ before))

-- the direction with this number, as answers have it
abbrev pub direction_of : ℕ → Option Direction
direction_of number = if number == 1 then Some Inbound else (if number == 2 then Some Outbound else None)

-- a packet of the rule is counted, and none without a direction
abbrev pub counted_by : ℕ → Option Direction → ℕ → RuleRows → RuleRows
counted_by interface None rule counts = counts
counted_by interface (Some direction) rule counts = counted_at interface direction rule counts

abbrev pub RuleCounted : ℕ → Option Direction → ℕ → (before after : Content) → Type 0
RuleCounted interface direction rule (Rules c) (Rules d) = d ≡ counted_by interface direction rule c
RuleCounted interface direction rule x y = ⊥

-- how many packets the rule decided
abbrev pub count_by : ℕ → Option Direction → ℕ → RuleRows → ℕ
count_by interface None rule counts = 0
count_by interface (Some direction) rule counts = count_at interface direction rule counts

abbrev pub RuleCountTold : ℕ → Option Direction → ℕ → Content → ℕ → Type 0
RuleCountTold interface direction rule (Rules counts) told = told ≡ count_by interface direction rule counts
RuleCountTold interface direction rule x told = ⊥
