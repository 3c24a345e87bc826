-- Numbers that begin alike lie in one block.
use Rattle.std.proofs.Common.{◌≡◌, ◌≤◌, ◌<◌, ℕ, ◌+◌, ◌-◌, ◌*◌, ◌/◌, ◌%◌, List, [], ◌∷◌, ◌++◌, length, get_or, Some, arith, ap, sym, ◌∙◌, subst, inl, inr}
use Rattle.std.specs.Prelude.{slice_get}
use Rattle.std.proofs.lemmas.Bool.{cases_lt}
use Rattle.std.proofs.lemmas.List.{get_or_append_left, length-append}
use Rattle.std.proofs.lemmas.Option.{get_or_from_slice_get, slice_get-get_or, slice_get_within}
use Rattle.std.proofs.Math.Seq.{get_or-append_seam}
use Rattle.rule_index.specs.declared.ranges_of_rules.Dimension.{Dimension}
use Rattle.rule_index.specs.Dimensions.{Spans}
use Rattle.acl_policy.specs.Rules.{RuleFacts}

pub in_block : (network address size : ℕ) → 0 < size → network / size ≡ address / size
    → (network - network % size ≤ address) × (address ≤ network - network % size + (size - 1))
in_block network address size some same =
    let alike : size * (network / size) ≡ size * (address / size) = ap (λ (q : ℕ). size * q) same in
    (omega arith, omega arith)

-- a range for one more rule
pub spans_more : (dimension : Dimension) (rules : List RuleFacts) (ranges : List (ℕ × ℕ)) (range : ℕ × ℕ)
    → ((k : ℕ) (rule : RuleFacts) (r : ℕ × ℕ) → slice_get rules k ≡ Some rule → slice_get ranges k ≡ Some r → Spans dimension rule r)
    → ((rule : RuleFacts) → slice_get rules (length ranges) ≡ Some rule → Spans dimension rule range)
    → (k : ℕ) (rule : RuleFacts) (r : ℕ × ℕ) → slice_get rules k ≡ Some rule → slice_get (ranges ++ range ∷ []) k ≡ Some r → Spans dimension rule r
spans_more dimension rules ranges range each last k rule r at read =
    let within : k < length (ranges ++ range ∷ []) = slice_get_within (ranges ++ range ∷ []) k r read in
    elim (cases_lt k (length ranges)) [
      | inl early ↦
          let same : get_or ranges k r ≡ r = sym (get_or_append_left ranges (range ∷ []) r k early) ∙ get_or_from_slice_get (ranges ++ range ∷ []) k r r read in
          each k rule r at (slice_get-get_or ranges k r early ∙ ap (λ (q : ℕ × ℕ). Some q) same)
      | inr late ↦
          let there : k ≡ length ranges = omega (arith, length-append ranges (range ∷ [])) in
          let same : range ≡ r = sym (get_or-append_seam ranges range [] r) ∙ (ap (λ (i : ℕ). get_or (ranges ++ range ∷ []) i r) (sym there) ∙ get_or_from_slice_get (ranges ++ range ∷ []) k r r read) in
          subst (λ (q : ℕ × ℕ). Spans dimension rule q) same (last rule (subst (λ (i : ℕ). slice_get rules i ≡ Some rule) there at))
    ]
