-- What is told of whether a rule ever decides, as more remarks come.
use Rattle.std.proofs.Common.{◌≡◌, ◌∙◌, ◌<◌, ◌+◌, ℕ, List, [], ◌∷◌, ◌++◌, All, Some, arith, length, inl, inr, ap, sym, subst}
use Rattle.std.specs.Prelude.{Contains, slice_get}
use Rattle.std.proofs.lemmas.List.Elements.{All-contains, Contains-append_left, Contains-append_right, Contains-push}
use Rattle.std.proofs.lemmas.Option.{get_or_from_slice_get, slice_get_within}
use borrow.Author.Count.{below_more}
use Rattle.packet_view.specs.declared.tuple.Direction.{Direction}
use Rattle.packet_view.specs.declared.tuple.Direction.TheVariants.{Inbound, Outbound}
use Rattle.acl_policy.specs.Policies.{PolicyFacts, SectionFacts, rules_of}
use Rattle.acl_policy.proofs.OptionLemmas.{same_some}
use Rattle.policy_check.specs.Remarks.{AreRulesTold, HasNoRule, IsDecidingTold, IsOfDeciding, IsPolicyTold, IsSectionRemark, IsSectionTold}
use Rattle.policy_check.specs.inner.Added.{Adds}
use Rattle.policy_check.specs.declared.remark_kinds.Remark.{Remark}

pub still_told : (section : SectionFacts) (direction : Direction) (place : ℕ) (old more new : List Remark) → new ≡ old ++ more
    → IsDecidingTold section direction place old → IsDecidingTold section direction place new
still_told section direction place old more new same (inl decides) = inl decides
still_told section direction place old more new same (inr (remark, in_it, of_it)) =
    inr (remark, subst (λ (xs : List Remark). Contains xs remark) (sym same) (Contains-append_left old more remark in_it), of_it)

pub newly_told : (section : SectionFacts) (direction : Direction) (place : ℕ) (old more new : List Remark) → new ≡ old ++ more
    → IsDecidingTold section direction place more → IsDecidingTold section direction place new
newly_told section direction place old more new same (inl decides) = inl decides
newly_told section direction place old more new same (inr (remark, in_it, of_it)) =
    inr (remark, subst (λ (xs : List Remark). Contains xs remark) (sym same) (Contains-append_right old more remark in_it), of_it)

-- so it is of a rule's own remark
pub told_by : (section : SectionFacts) (direction : Direction) (place : ℕ) (remark : Remark) → IsOfDeciding section direction place remark
    → IsDecidingTold section direction place (remark ∷ [])
told_by section direction place remark of_it = inr (remark, Contains-push [] remark, of_it)

-- so it is of all rules of a direction, and of a section
pub adds_told : (section : SectionFacts) (direction : Direction) (old new : List Remark) → Adds (IsSectionRemark section) old new
    → AreRulesTold section direction old → AreRulesTold section direction new
adds_told section direction old new (more, same, each) told = λ place within. still_told section direction place old more new same (told place within)

pub both_told : (section : SectionFacts) (remarks : List Remark) → AreRulesTold section Inbound remarks → AreRulesTold section Outbound remarks
    → IsSectionTold section remarks
both_told section remarks inbound outbound Inbound = inbound
both_told section remarks inbound outbound Outbound = outbound

-- so it is of the sections, one more
pub section_told : (policy : PolicyFacts) (index : ℕ) (section : SectionFacts) (old new : List Remark) → slice_get policy.sections index ≡ Some section
    → ((k : ℕ) (one : SectionFacts) → k < index → slice_get policy.sections k ≡ Some one → IsSectionTold one old)
    → Adds (IsSectionRemark section) old new → IsSectionTold section new
    → (k : ℕ) (one : SectionFacts) → k < index + 1 → slice_get policy.sections k ≡ Some one → IsSectionTold one new
section_told policy index section old new at before (more, same, each) told = λ k one below here.
    below_more (λ (k : ℕ). (one : SectionFacts) → slice_get policy.sections k ≡ Some one → IsSectionTold one new) index
    (λ k less one here direction place within. still_told one direction place old more new same (before k one less here direction place within))
    (λ one here. subst (λ (s : SectionFacts). IsSectionTold s new) (same_some _ _ (sym at ∙ here)) told)
    k below one here

-- a policy without rules
pub none_told : (policy : PolicyFacts) (remarks : List Remark) → All HasNoRule policy.sections → IsPolicyTold policy remarks
none_told policy remarks none k section at direction place within =
    absurd (no_place section place direction (All-contains HasNoRule policy.sections section none (k, slice_get_within policy.sections k section at, get_or_from_slice_get policy.sections k section section at)) within)
  where
    no_place : (section : SectionFacts) (place : ℕ) (direction : Direction) → HasNoRule section → place < length (rules_of direction section) → ⊥
    no_place section place Inbound none within = omega (arith, ap length none.0, within)
    no_place section place Outbound none within = omega (arith, ap length none.1, within)
