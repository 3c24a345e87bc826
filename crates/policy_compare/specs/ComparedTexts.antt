-- The comparison of the policies that two texts say, as it is written, and why there is none (this project's profile).
use Rattle.std.specs.Prelude.{◌≡◌, ◌≢◌, ◌⊎◌, ℕ, List, Option}
use Rattle.std.specs.Io.KnownBytes.{Appends}
use Rattle.acl_policy.specs.Policies.{IsPolicyFault, IsPolicyText, PolicyFacts}
use Rattle.acl_policy.specs.declared.policy.PolicyFault.{PolicyFault}
use Rattle.acl_policy.specs.declared.policy.PolicyFault.TheVariants as policy
use Rattle.racl_io.specs.declared.fault.Fault.TheVariants.{Memory, Write}
use Rattle.policy_compare.specs.Comparisons.{IsComparison}
use Rattle.policy_compare.specs.ComparisonReports.{report_of, status_behind}
use Rattle.policy_compare.specs.declared.compared_texts.CompareFault.{CompareFault}
use Rattle.policy_compare.specs.declared.compared_texts.CompareFault.TheVariants.{Before, After, Run}
use Rattle.policy_compare.specs.declared.difference.Comparison.{Comparison}

-- Both texts say policies, and what is told of these, where so many tests are left, was written.
pub record HasCompared (before after : List ℕ) (left : ℕ) (old new : Option (List ℕ)) (status : ℕ) : Type 0 where
  pub one : PolicyFacts
  pub two : PolicyFacts
  pub by_before : IsPolicyText before one
  pub by_after : IsPolicyText after two
  pub told : Comparison
  pub right : IsComparison one two left told
  pub text : Appends old new (report_of told)
  pub status_is : status ≡ status_behind told

-- the text has this fault, or memory ran out while it was read
abbrev pub IsFaultOfText : List ℕ → PolicyFault → Type 0
IsFaultOfText text cause = cause ≢ policy.Memory → IsPolicyFault text cause

abbrev pub IsCompareFault : List ℕ → List ℕ → CompareFault → Type 0
IsCompareFault before after (Before cause) = IsFaultOfText before cause
IsCompareFault before after (After cause) = (one : PolicyFacts) × IsPolicyText before one × IsFaultOfText after cause
IsCompareFault before after (Run fault) = (fault ≡ Memory) ⊎ (fault ≡ Write)
