-- How many packets each rule of a policy decided, in words of 64 bits: for each interface and direction a row of counts by the
-- rules' numbers. At 0 stands how many packets no rule decided.
use Rattle.std.specs.Prelude.{◌≡◌, ◌<◌, ℕ, ◌+◌, List, [], length, replicate, slice_index_or, slice_set}
use Rattle.packet_view.specs.declared.tuple.Direction.{Direction}
use Rattle.packet_view.specs.declared.tuple.Direction.TheVariants.{Inbound, Outbound}
use Rattle.acl_policy.specs.Policies.{PolicyFacts, rules_of, section_of}
use Rattle.flow_judge.specs.Counting.{in_all}

pub record RuleRows : Type 0 where
  pub inbound : List (List ℕ)
  pub outbound : List (List ℕ)

-- there is a count for each rule of the policy's, and each is 0
pub record CountsNone (direction : Direction) (policy : PolicyFacts) (rows : List (List ℕ)) : Type 0 where
  pub count : length rows ≡ 256
  pub each : (interface : ℕ) → interface < 256
      → slice_index_or rows interface [] ≡ replicate (length (rules_of direction (section_of interface policy)) + 1) 0

-- one packet more, which begins again at 0 behind the last word; a number behind the row's stands for no rule of the policy's
abbrev pub one_more : List ℕ → ℕ → List ℕ
one_more row rule = slice_set row rule (in_all (slice_index_or row rule 0) 1)

abbrev pub one_more_at : List (List ℕ) → (interface rule : ℕ) → List (List ℕ)
one_more_at rows interface rule = slice_set rows interface (one_more (slice_index_or rows interface []) rule)

-- one packet more at this interface was decided by this rule of the direction
abbrev pub counted_at : ℕ → Direction → ℕ → RuleRows → RuleRows
counted_at interface Inbound rule c = record c { inbound = one_more_at c.inbound interface rule }
counted_at interface Outbound rule c = record c { outbound = one_more_at c.outbound interface rule }

abbrev pub rows_of : Direction → RuleRows → List (List ℕ)
rows_of Inbound c = c.inbound
rows_of Outbound c = c.outbound

-- how many packets the rule decided
abbrev pub count_at : ℕ → Direction → ℕ → RuleRows → ℕ
count_at interface direction rule c = slice_index_or (slice_index_or (rows_of direction c) interface []) rule 0
