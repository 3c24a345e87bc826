-- Each text says a policy or has a fault.
use Rattle.std.proofs.Common.{◌≡◌, ℕ, ◌+◌, ◌⊎◌, List, [], ◌∷◌, ◌++◌, length, Result, Ok, Err, refl, sym, ◌∙◌, subst, inl, inr}
use Rattle.std.specs.Str.{IsUtf8, is_utf8}
use Rattle.std.specs.Str.Lines.{lines}
use Rattle.std.proofs.lemmas.Bool.{cases_Bool}
use Rattle.std.proofs.lemmas.List.{append-nil, append_assoc}
use Rattle.std.proofs.lemmas.Str.{IsUtf8-from_is_utf8, is_utf8-from_IsUtf8}
use Rattle.acl_policy.specs.declared.policy.PolicyFault.{PolicyFault}
use Rattle.acl_policy.specs.declared.policy.PolicyFault.TheVariants.{BadLine, NotUtf8, TooMany}
use Rattle.acl_policy.specs.Policies.{IsFirstFault, IsPolicyFault, IsPolicyText, IsSurplus, IsWrong, PolicyFacts, SayPolicy, empty_section}
use Rattle.acl_policy.specs.inner.Reading.Lines.{line_in}
use Rattle.acl_policy.specs.inner.Reading.Policies.{DraftFacts, line_added, policy_so_far}
use Rattle.acl_policy.proofs.PolicyLemmas.{SayPolicy-line_added, line_added-err}
use Rattle.acl_policy.proofs.SectionLemmas.{no_lines}

-- Lines say a policy, or one of them is the first at fault.
abbrev SayOrFail : List (List ℕ) → Type 0
SayOrFail texts =
    ((policy : PolicyFacts) × SayPolicy texts policy)
    ⊎ (((number : ℕ) × IsFirstFault IsWrong texts number) ⊎ ((number : ℕ) × IsFirstFault IsSurplus texts number))

-- nothing was read
abbrev pub nothing : DraftFacts
nothing = record { done = []; current = empty_section 0 }

pub nothing_said : SayPolicy [] (policy_so_far nothing)
nothing_said = record { sections = ([], [], refl, refl, no_lines 0, refl); once = ((λ is. is), tt) }

-- one line more, where those after it are known
from_line : (texts before : List (List ℕ)) (line : List ℕ) (after : List (List ℕ)) (draft : DraftFacts) → texts ≡ before ++ line ∷ after
    → SayPolicy before (policy_so_far draft)
    → (added : Result DraftFacts PolicyFault) → line_added (length before + 1) draft (line_in line) ≡ added
    → ((next : DraftFacts) → SayPolicy (before ++ line ∷ []) (policy_so_far next) → SayOrFail texts) → SayOrFail texts
from_line texts before line after draft split reads (Ok next) added more =
    more next (SayPolicy-line_added (length before + 1) before line draft next reads added)
from_line texts before line after draft split reads (Err fault) added more =
    elim (line_added-err (length before + 1) before line draft fault (line_in line) refl reads added) [
      | inl wrong ↦ inr (inl (length before + 1, (before, line, after, policy_so_far draft, split, refl, reads, wrong.1)))
      | inr surplus ↦ inr (inr (length before + 1, (before, line, after, policy_so_far draft, split, refl, reads, surplus.1)))
    ]

from_lines : (texts before after : List (List ℕ)) (draft : DraftFacts) → texts ≡ before ++ after → SayPolicy before (policy_so_far draft) → SayOrFail texts
from_lines texts before [] draft split reads =
    inl (policy_so_far draft, subst (λ (ls : List (List ℕ)). SayPolicy ls (policy_so_far draft)) (sym (split ∙ append-nil before)) reads)
from_lines texts before (line ∷ after) draft split reads =
    from_line texts before line after draft split reads (line_added (length before + 1) draft (line_in line)) refl
    (λ next more. from_lines texts (before ++ line ∷ []) after next (split ∙ sym (append_assoc before (line ∷ []) after)) more)

pub some_lines : (texts : List (List ℕ)) → SayOrFail texts
some_lines texts = from_lines texts [] texts nothing refl nothing_said

pub some_reading : (text : List ℕ) → ((policy : PolicyFacts) × IsPolicyText text policy) ⊎ ((fault : PolicyFault) × IsPolicyFault text fault)
some_reading text =
    elim (cases_Bool (is_utf8 text)) [
      | inl valid ↦
          let utf8 : IsUtf8 text = IsUtf8-from_is_utf8 text valid in
          elim (some_lines (lines text)) [
            | inl said ↦ inl (said.0, (utf8, said.1))
            | inr fails ↦ elim fails [
              | inl wrong ↦ inr (BadLine wrong.0, (utf8, wrong.1))
              | inr surplus ↦ inr (TooMany surplus.0, (utf8, surplus.1))
            ]
          ]
      | inr other ↦ inr (NotUtf8, (λ utf8. let valid = is_utf8-from_IsUtf8 text utf8 in cc))
    ]
