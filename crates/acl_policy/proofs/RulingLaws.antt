-- A list of rules decides each packet.
use Rattle.std.specs.Prelude.{slice_get, bit_and}
use Rattle.std.proofs.Common.{◌≡◌, ◌<◌, ◌≤◌, ◌⊎◌, ℕ, zero, suc, List, [], ◌∷◌, Option, Some, None, refl, sym, subst, inl, inr, arith}
use Rattle.std.proofs.lemmas.Bool.{cases_eq, cases_lt}
use Rattle.packet_view.specs.Tuples.{TupleFacts}
use Rattle.packet_view.specs.declared.tuple.Family.{Family}
use Rattle.packet_view.specs.declared.tuple.Family.TheVariants.{V4, V6}
use Rattle.packet_view.specs.declared.tuple.Fields.{Fields}
use Rattle.packet_view.specs.declared.tuple.Fields.TheVariants.{Absent, Ports, Tcp, Icmp}
use Rattle.acl_policy.specs.declared.rule.Action.{Action}
use Rattle.acl_policy.specs.Matching.{DecidesByDefault, HasFields, HoldsPrefix, HoldsProtocol, IsRuling, IsIn, Matches}
use Rattle.acl_policy.specs.Rules.{RuleFacts}

-- it holds, or it doesn't
abbrev Decided : Type 0 → Type 0
Decided P = P ⊎ (P → ⊥)

both : (P Q : Type 0) → Decided P → Decided Q → Decided (P × Q)
both P Q (inl p) (inl q) = inl (p, q)
both P Q (inl p) (inr fails) = inr (λ h. fails h.1)
both P Q (inr fails) q = inr (λ h. fails h.0)

all_three : (P Q R : Type 0) → Decided P → Decided Q → Decided R → Decided (P × Q × R)
all_three P Q R (inl p) (inl q) (inl r) = inl (p, q, r)
all_three P Q R (inl p) (inl q) (inr fails) = inr (λ h. fails h.2)
all_three P Q R (inl p) (inr fails) r = inr (λ h. fails h.1)
all_three P Q R (inr fails) q r = inr (λ h. fails h.0)

either : (P Q : Type 0) → Decided P → Decided Q → Decided (P ⊎ Q)
either P Q (inl p) q = inl (inl p)
either P Q (inr fails) (inl q) = inl (inr q)
either P Q (inr fails) (inr fails') = inr (λ h. elim h [ inl p ↦ fails p | inr q ↦ fails' q ])

at_most : (a b : ℕ) → Decided (a ≤ b)
at_most a b = elim (cases_lt b a) [ inl above ↦ inr (λ h. omega (arith, above, h)) | inr below ↦ inl below ]

is_in : (range : ℕ × ℕ) (n : ℕ) → Decided (IsIn range n)
is_in range n = both (range.0 ≤ n) (n ≤ range.1) (at_most range.0 n) (at_most n range.1)

same_family : (a b : Family) → Decided (a ≡ b)
same_family V4 V4 = inl refl
same_family V4 V6 = inr (λ same. cc)
same_family V6 V4 = inr (λ same. cc)
same_family V6 V6 = inl refl

has_fields : (rule : RuleFacts) (fields : Fields) → Decided (HasFields rule fields)
has_fields rule Absent = inl tt
has_fields rule (Ports from to) = both (IsIn rule.first from) (IsIn rule.second to) (is_in rule.first from) (is_in rule.second to)
has_fields rule (Tcp from to flags) =
    all_three (IsIn rule.first from) (IsIn rule.second to) (bit_and flags rule.mask ≡ rule.value)
    (is_in rule.first from) (is_in rule.second to) (cases_eq (bit_and flags rule.mask) rule.value)
has_fields rule (Icmp kind code) = both (IsIn rule.first kind) (IsIn rule.second code) (is_in rule.first kind) (is_in rule.second code)

has_prefix : (family : Family) (prefix : ℕ × ℕ) (address : ℕ) → Decided (HoldsPrefix family prefix address)
has_prefix family prefix address = cases_eq _ _

holds_protocol : (rule : RuleFacts) (tuple : TupleFacts) → Decided (HoldsProtocol rule tuple)
holds_protocol rule tuple =
    either (rule.proto ≡ 0) ((rule.proto ≡ tuple.proto) × HasFields rule tuple.fields) (cases_eq rule.proto 0)
    (both (rule.proto ≡ tuple.proto) (HasFields rule tuple.fields) (cases_eq rule.proto tuple.proto) (has_fields rule tuple.fields))

matches : (rule : RuleFacts) (tuple : TupleFacts) → Decided (Matches rule tuple)
matches rule tuple =
    elim (same_family rule.family tuple.family) [
      | inl family ↦ elim (all_three (HoldsPrefix tuple.family rule.source tuple.source) (HoldsPrefix tuple.family rule.dest tuple.dest) (HoldsProtocol rule tuple)
          (has_prefix tuple.family rule.source tuple.source) (has_prefix tuple.family rule.dest tuple.dest) (holds_protocol rule tuple)) [
            | inl rest ↦ inl (family, rest.0, rest.1, rest.2)
            | inr fails ↦ inr (λ h. fails (h.1, h.2, h.3))
          ]
      | inr fails ↦ inr (λ h. fails h.0)
    ]

-- no place before the rest holds a rule that matches, where the first one doesn't
unmatched : (rule : RuleFacts) (rules : List RuleFacts) (tuple : TupleFacts) (bound : ℕ) → (Matches rule tuple → ⊥)
    → ((k : ℕ) (other : RuleFacts) → k < bound → slice_get rules k ≡ Some other → Matches other tuple → ⊥)
    → (k : ℕ) (other : RuleFacts) → k < suc bound → slice_get (rule ∷ rules) k ≡ Some other → Matches other tuple → ⊥
unmatched rule rules tuple bound fails none zero other before read m = let same : rule ≡ other = cc in fails (subst (λ r. Matches r tuple) (sym same) m)
unmatched rule rules tuple bound fails none (suc k) other before read m = let less : k < bound = omega (arith, before) in none k other less read m

unmatched_all : (rule : RuleFacts) (rules : List RuleFacts) (tuple : TupleFacts) → (Matches rule tuple → ⊥) → DecidesByDefault rules tuple
    → (k : ℕ) (other : RuleFacts) → slice_get (rule ∷ rules) k ≡ Some other → Matches other tuple → ⊥
unmatched_all rule rules tuple fails none zero other read m = let same : rule ≡ other = cc in fails (subst (λ r. Matches r tuple) (sym same) m)
unmatched_all rule rules tuple fails none (suc k) other read m = none k other read m

-- after a rule that doesn't match, what decides the rest decides
behind : (rule : RuleFacts) (rules : List RuleFacts) (tuple : TupleFacts) → (Matches rule tuple → ⊥) → (decision : Option (ℕ × Action)) → IsRuling rules tuple decision
    → (found : Option (ℕ × Action)) × IsRuling (rule ∷ rules) tuple found
behind rule rules tuple fails None none = (None, unmatched_all rule rules tuple fails none)
behind rule rules tuple fails (Some (i, action)) (other, read, m, is, first) =
    (Some (suc i, action), (other, read, m, is, unmatched rule rules tuple i fails first))

pub some_ruling_of : (rules : List RuleFacts) (tuple : TupleFacts) → (ruling : Option (ℕ × Action)) × IsRuling rules tuple ruling
some_ruling_of [] tuple = (None, λ k other read m. cc)
some_ruling_of (rule ∷ rules) tuple =
    elim (matches rule tuple) [
      | inl m ↦ (Some (0, rule.action), (rule, refl, m, refl, λ k other before read n. omega (arith, before)))
      | inr fails ↦ let rest = some_ruling_of rules tuple in behind rule rules tuple fails rest.0 rest.1
    ]
