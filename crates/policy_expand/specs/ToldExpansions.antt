-- What is told of a written policy (this project's profile).
use Rattle.std.specs.Prelude.{◌⊎◌, ℕ, List}
use Rattle.acl_policy.specs.Policies.{IsPolicyText, PolicyFacts}
use Rattle.policy_expand.specs.Expansions.{IsBehindExpanded, IsExpansion}
use Rattle.policy_expand.specs.Sources.{SourceFacts}
use Rattle.policy_expand.specs.declared.told_expansion.Told.{Told}
use Rattle.policy_expand.specs.declared.told_expansion.Told.TheVariants.{Faults, Plain}

-- Where a plain policy is told, it is one, and the expansion of these lines. Where faults are told, a line behind right ones is at
-- fault, or the expansion is no policy.
abbrev pub IsToldOf : List SourceFacts → Told → Type 0
IsToldOf lines (Plain bytes) = IsExpansion lines bytes.items × ((policy : PolicyFacts) × IsPolicyText bytes.items policy)
IsToldOf lines (Faults message) = ((line : SourceFacts) × IsBehindExpanded lines line)
    ⊎ ((text : List ℕ) × IsExpansion lines text × ((policy : PolicyFacts) → IsPolicyText text policy → ⊥))
