-- A text is complained of exactly where it says no policy.
use Rattle.std.proofs.Common.{◌≡◌, ◌↔◌, ◌==◌, Bool, false, IsTrue, map, ℕ, ◌+◌, List, [], ◌∷◌, length, refl, sym, subst, arith, ◌⊎◌, inl, inr}
use Rattle.std.proofs.lemmas.Bool.{ne_eqb}
use Rattle.std.specs.Str.{IsUtf8}
use Rattle.std.specs.Str.Lines.{lines}
use Rattle.acl_policy.specs.declared.policy.PolicyFault.{PolicyFault}
use Rattle.acl_policy.specs.declared.policy.PolicyFault.TheVariants.{Memory, BadLine, TooMany}
use Rattle.acl_policy.specs.declared.policy.PolicyFault.TheVariants as fault
use Rattle.acl_policy.specs.Policies.{IsPolicyFault, IsPolicyText, IsSurplus, IsWrong, PolicyFacts, SayPolicy}
use Rattle.acl_policy.proofs.TextLaws.{one_fault, one_policy, policy_or_fault}
use Rattle.policy_check.specs.Complaints.{AreSorted, ComplaintFacts, IsChecked, IsComplaint, IsToldFirst, complaint_facts}
use Rattle.policy_check.specs.declared.policy_checking.Complaint.{Complaint}
use Rattle.policy_check.specs.declared.reason.Reason.{Reason}
use Rattle.policy_check.specs.declared.reason.Reason.TheVariants.{Surplus}

-- a line that is complained of is at fault
at_fault : (policy : PolicyFacts) (line : List ℕ) (reason : Reason) (word : List ℕ) → IsComplaint policy line reason word
    → IsWrong policy line ⊎ (IsSurplus policy line × (reason ≡ Surplus))
at_fault policy line reason word (inl (none, why)) = inl (inl none)
at_fault policy line reason word (inr (inl second, first)) = inl (inr (inl second.1))
at_fault policy line reason word (inr (inr (inl second), first)) = inl (inr (inr second.1))
at_fault policy line reason word (inr (inr (inr surplus), first)) = inr (surplus.1, surplus.0)

-- the first complaint is of the first fault
first_fault : (text : List ℕ) (c : ComplaintFacts) (cs : List ComplaintFacts) (rights : List (List ℕ)) → IsUtf8 text → AreSorted 0 [] (lines text) (c ∷ cs) rights
    → IsPolicyFault text (BadLine c.line) ⊎ (IsPolicyFault text (TooMany c.line) × (c.reason ≡ Surplus))
first_fault text c cs rights utf8 (front, line, rest, policy, split, counted, says, is, more) =
    let count : c.line ≡ length front + 1 = omega arith in
    elim (at_fault policy line c.reason c.word is) [
      | inl wrong ↦ inl (utf8, (front, line, rest, policy, split, count, says, wrong))
      | inr surplus ↦ inr ((utf8, (front, line, rest, policy, split, count, says, surplus.0)), surplus.1)
    ]

pub none_right : (text : List ℕ) (policy said : PolicyFacts) (cs : List ComplaintFacts) → IsPolicyText text policy → IsChecked text cs said → (cs ≡ []) × (said ≡ policy)
none_right text policy said [] is (inl (utf8, (rights, sorted, says))) =
    (refl, one_policy (lines text) said policy (subst (λ (ls : List (List ℕ)). SayPolicy ls said) sorted says) is.1)
none_right text policy said (c ∷ cs) is (inl (utf8, (rights, sorted, says))) =
    elim (first_fault text c cs rights utf8 sorted) [
      | inl wrong ↦ absurd (policy_or_fault text policy (BadLine c.line) is wrong)
      | inr surplus ↦ absurd (policy_or_fault text policy (TooMany c.line) is surplus.0)
    ]
none_right text policy said cs is (inr (other, one, says)) = absurd (other is.0)

pub right_none : (text : List ℕ) (said : PolicyFacts) (cs : List ComplaintFacts) → IsChecked text cs said → cs ≡ [] → IsPolicyText text said
right_none text said [] (inl (utf8, (rights, sorted, says))) none = (utf8, subst (λ (ls : List (List ℕ)). SayPolicy ls said) sorted says)
right_none text said (c ∷ cs) (inl (utf8, (rights, sorted, says))) none = absurd (cc)
right_none text said cs (inr (other, one, says)) none = absurd (cc)

first_wrong : (text : List ℕ) (n : ℕ) (said : PolicyFacts) (cs : List ComplaintFacts) (rights : List (List ℕ)) → IsPolicyFault text (BadLine n)
    → AreSorted 0 [] (lines text) cs rights → SayPolicy rights said → IsToldFirst cs (BadLine n)
first_wrong text n said [] rights is sorted says =
    absurd (policy_or_fault text said (BadLine n) (is.0, subst (λ (ls : List (List ℕ)). SayPolicy ls said) sorted says) is)
first_wrong text n said (c ∷ cs) rights is sorted says = elim (first_fault text c cs rights is.0 sorted) [
  | inl wrong ↦ let same = one_fault text (BadLine c.line) (BadLine n) wrong is in cc
  | inr surplus ↦ let same = one_fault text (TooMany c.line) (BadLine n) surplus.0 is in absurd (cc)
]

first_surplus : (text : List ℕ) (n : ℕ) (said : PolicyFacts) (cs : List ComplaintFacts) (rights : List (List ℕ)) → IsPolicyFault text (TooMany n)
    → AreSorted 0 [] (lines text) cs rights → SayPolicy rights said → IsToldFirst cs (TooMany n)
first_surplus text n said [] rights is sorted says =
    absurd (policy_or_fault text said (TooMany n) (is.0, subst (λ (ls : List (List ℕ)). SayPolicy ls said) sorted says) is)
first_surplus text n said (c ∷ cs) rights is sorted says = elim (first_fault text c cs rights is.0 sorted) [
  | inl wrong ↦ let same = one_fault text (BadLine c.line) (TooMany n) wrong is in absurd (cc)
  | inr surplus ↦ let same = one_fault text (TooMany c.line) (TooMany n) surplus.0 is in ((let line : c.line ≡ n = cc in line), surplus.1)
]

pub first_told : (text : List ℕ) (told : PolicyFault) (said : PolicyFacts) (cs : List ComplaintFacts) → IsPolicyFault text told → IsChecked text cs said → IsToldFirst cs told
first_told text Memory said cs is checked = absurd is
first_told text fault.NotUtf8 said cs is (inl (utf8, sorted)) = absurd (is utf8)
first_told text fault.NotUtf8 said cs is (inr (other, one, says)) =
    subst (λ (ds : List ComplaintFacts). IsToldFirst ds fault.NotUtf8) (sym one) refl
first_told text (BadLine n) said cs is (inl (utf8, (rights, sorted, says))) = first_wrong text n said cs rights is sorted says
first_told text (BadLine n) said cs is (inr (other, one, says)) = absurd (other is.0)
first_told text (TooMany n) said cs is (inl (utf8, (rights, sorted, says))) = first_surplus text n said cs rights is sorted says
first_told text (TooMany n) said cs is (inr (other, one, says)) = absurd (other is.0)

-- A text is a policy where nothing was complained of.
pub decided : (text : List ℕ) (said : PolicyFacts) (items : List Complaint) (b : Bool) → IsChecked text (map complaint_facts items) said → b ≡ (length items == 0)
    → IsTrue b ↔ ((policy : PolicyFacts) × IsPolicyText text policy)
decided text said [] b checked same = (λ yes. (said, right_none text said [] checked refl), λ is. same)
decided text said (c ∷ cs) b checked same =
    let some : (length (c ∷ cs) == 0) ≡ false = ne_eqb (length (c ∷ cs)) 0 (λ zero. omega (arith, zero)) in
    (λ yes. absurd (cc), λ is. let none = none_right text is.0 said (map complaint_facts (c ∷ cs)) is.1 checked in absurd (cc))
