-- What a line adds to a policy, and where it is at fault, is what the grammar says.
use Rattle.std.proofs.Common.{◌≡◌, ◌∙◌, ℕ, List, [], ◌∷◌, ◌++◌, Result, Ok, Err, refl, sym, ap, subst, inl, inr}
use Rattle.std.specs.Prelude.{◌↔◌}
use Rattle.acl_policy.specs.declared.policy.PolicyFault.{PolicyFault}
use Rattle.acl_policy.specs.declared.policy.PolicyFault.TheVariants.{BadLine, TooMany}
use Rattle.acl_policy.specs.Policies.{IsSurplus, IsWrong, PolicyFacts, SayPolicy}
use Rattle.acl_policy.specs.inner.Reading.Lines.{line_in}
use Rattle.acl_policy.specs.inner.Reading.Policies.{DraftFacts, line_added, policy_so_far}
use Rattle.acl_policy.proofs.PolicyLemmas.{IsFaultAt, SayPolicy-line_added, line_added-err}
use Rattle.acl_policy.proofs.TextLaws.{IsSurplus-refuted, IsWrong-refuted, apart, one_policy}

module _ (number : ℕ) (texts : List (List ℕ)) (line : List ℕ) (draft : DraftFacts) (reads : SayPolicy texts (policy_so_far draft)) where
  at_fault : (fault : PolicyFault) → line_added number draft (line_in line) ≡ Err fault → IsFaultAt fault (policy_so_far draft) line number
  at_fault fault is = line_added-err number texts line draft fault (line_in line) refl reads is

  refuted : (policy : PolicyFacts) (fault : PolicyFault) → SayPolicy (texts ++ line ∷ []) policy → IsFaultAt fault (policy_so_far draft) line number → ⊥
  refuted policy fault grown (inl wrong) = IsWrong-refuted texts line [] policy (policy_so_far draft) grown reads wrong.1
  refuted policy fault grown (inr surplus) = IsSurplus-refuted texts line [] policy (policy_so_far draft) grown reads surplus.1

  grows_to : (policy : PolicyFacts) (added : Result DraftFacts PolicyFault) → line_added number draft (line_in line) ≡ added → SayPolicy (texts ++ line ∷ []) policy
      → (next : DraftFacts) × (line_added number draft (line_in line) ≡ Ok next) × (policy ≡ policy_so_far next)
  grows_to policy (Ok next) is grown =
      (next, is, one_policy (texts ++ line ∷ []) policy (policy_so_far next) grown (SayPolicy-line_added number texts line draft next reads is))
  grows_to policy (Err fault) is grown = absurd (refuted policy fault grown (at_fault fault is))

  pub adds : (policy : PolicyFacts)
      → SayPolicy (texts ++ line ∷ []) policy ↔ ((next : DraftFacts) × (line_added number draft (line_in line) ≡ Ok next) × (policy ≡ policy_so_far next))
  adds policy = (
    grows_to policy (line_added number draft (line_in line)) refl,
    λ (next, is, same). subst (SayPolicy (texts ++ line ∷ [])) (sym same) (SayPolicy-line_added number texts line draft next reads is),
  )

  told_wrong : IsFaultAt (BadLine number) (policy_so_far draft) line number → IsWrong (policy_so_far draft) line
  told_wrong (inl wrong) = wrong.1
  told_wrong (inr surplus) = let clash = surplus.0 in absurd (cc)

  told_surplus : IsFaultAt (TooMany number) (policy_so_far draft) line number → IsSurplus (policy_so_far draft) line
  told_surplus (inl wrong) = let clash = wrong.0 in absurd (cc)
  told_surplus (inr surplus) = surplus.1

  by_wrong : IsWrong (policy_so_far draft) line → (fault : PolicyFault) → IsFaultAt fault (policy_so_far draft) line number → fault ≡ BadLine number
  by_wrong is fault (inl wrong) = wrong.0
  by_wrong is fault (inr surplus) = absurd (apart (policy_so_far draft) line is surplus.1)

  by_surplus : IsSurplus (policy_so_far draft) line → (fault : PolicyFault) → IsFaultAt fault (policy_so_far draft) line number → fault ≡ TooMany number
  by_surplus is fault (inl wrong) = absurd (apart (policy_so_far draft) line wrong.1 is)
  by_surplus is fault (inr surplus) = surplus.0

  fails_wrong : IsWrong (policy_so_far draft) line → (added : Result DraftFacts PolicyFault) → line_added number draft (line_in line) ≡ added
      → line_added number draft (line_in line) ≡ Err (BadLine number)
  fails_wrong wrong (Ok next) is =
      absurd (IsWrong-refuted texts line [] (policy_so_far next) (policy_so_far draft) (SayPolicy-line_added number texts line draft next reads is) reads wrong)
  fails_wrong wrong (Err fault) is = is ∙ ap (λ (f : PolicyFault). Err f) (by_wrong wrong fault (at_fault fault is))

  fails_surplus : IsSurplus (policy_so_far draft) line → (added : Result DraftFacts PolicyFault) → line_added number draft (line_in line) ≡ added
      → line_added number draft (line_in line) ≡ Err (TooMany number)
  fails_surplus many (Ok next) is =
      absurd (IsSurplus-refuted texts line [] (policy_so_far next) (policy_so_far draft) (SayPolicy-line_added number texts line draft next reads is) reads many)
  fails_surplus many (Err fault) is = is ∙ ap (λ (f : PolicyFault). Err f) (by_surplus many fault (at_fault fault is))

  pub wrong : (line_added number draft (line_in line) ≡ Err (BadLine number)) ↔ IsWrong (policy_so_far draft) line
  wrong = (λ is. told_wrong (at_fault (BadLine number) is), λ bad. fails_wrong bad (line_added number draft (line_in line)) refl)

  pub surplus : (line_added number draft (line_in line) ≡ Err (TooMany number)) ↔ IsSurplus (policy_so_far draft) line
  surplus = (λ is. told_surplus (at_fault (TooMany number) is), λ many. fails_surplus many (line_added number draft (line_in line)) refl)
