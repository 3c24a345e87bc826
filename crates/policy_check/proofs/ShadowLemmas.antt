-- What one rule lets through is let through by another, and which flags none lets through.
use Rattle.std.proofs.Common.{◌≡◌, ◌≢◌, ◌≤◌, ◌<◌, ℕ, zero, suc, ◌+◌, ◌-◌, ◌/◌, ◌^◌, Bool, List, [], ◌∷◌, Some, All, IsTrue, length, ltb, map, take, bit_and, refl, sym, subst, ap, ◌∙◌, arith}
use Rattle.std.specs.Prelude.{Contains, slice_get}
use Rattle.std.specs.Int.Bits.{and_self}
use Rattle.std.proofs.lemmas.Bool.{ltb-true}
use Rattle.std.proofs.lemmas.List.{length-take-le}
use Rattle.std.proofs.lemmas.List.Elements.{All-contains, All-weaker}
use Rattle.std.proofs.lemmas.Nat.{and_assoc, shr-shr}
use Rattle.packet_view.specs.Tuples.{TupleFacts}
use Rattle.packet_view.specs.declared.tuple.Family.{Family}
use Rattle.acl_policy.specs.Matching.{HoldsPrefix}
use Rattle.acl_policy.specs.Rules.{RuleFacts, rule_facts}
use Rattle.acl_policy.specs.declared.rule.Rule.{Rule}
use Rattle.acl_policy.specs.Widths.{width}
use Rattle.rule_cover.specs.Covers.{AreTaken, IsLeft, IsNeeded}
use Rattle.policy_check.specs.Remarks.{CanDecide, IsShadowedTogether, NoneCovers}

-- numbers that begin alike in more bits do so in fewer
alike : (w e l a b : ℕ) → e ≤ l → l ≤ w → a / 2 ^ (w - l) ≡ b / 2 ^ (w - l) → a / 2 ^ (w - e) ≡ b / 2 ^ (w - e)
alike w e l a b less within same =
    let sum : w - e ≡ (w - l) + (l - e) = omega arith in
    ap (λ (k : ℕ). a / 2 ^ k) sum ∙ sym (shr-shr a (w - l) (l - e)) ∙ ap (λ (n : ℕ). n / 2 ^ (l - e)) same
    ∙ shr-shr b (w - l) (l - e) ∙ ap (λ (k : ℕ). b / 2 ^ k) (sym sum)

pub prefix_taken : (family : Family) (earlier later : ℕ × ℕ) (address : ℕ) → earlier.1 ≤ later.1 → later.1 ≤ width family
    → HoldsPrefix family earlier later.0 → HoldsPrefix family later address → HoldsPrefix family earlier address
prefix_taken family earlier later address less within first second =
    first ∙ alike (width family) earlier.1 later.1 later.0 address less within second

pub flags_taken : (flags value mask first kept : ℕ) → bit_and mask kept ≡ kept → bit_and value kept ≡ first → bit_and flags mask ≡ value → bit_and flags kept ≡ first
flags_taken flags value mask first kept more same has =
    ap (bit_and flags) (sym more) ∙ sym (and_assoc kept flags mask) ∙ ap (λ (n : ℕ). bit_and n kept) has ∙ same

-- a value with bits outside the mask is that of no flags
pub no_flags_match : (mask value : ℕ) → bit_and value mask ≢ value → (flags : ℕ) → bit_and flags mask ≢ value
no_flags_match mask value outside flags = λ has.
    outside (ap (λ (n : ℕ). bit_and n mask) (sym has) ∙ and_assoc mask flags mask ∙ ap (bit_and flags) (and_self mask) ∙ has)

-- a rule at the front of a list is one of the list
slice_get-front : (rules : List Rule) (n k : ℕ) (rule : RuleFacts) → slice_get (map rule_facts (take n rules)) k ≡ Some rule
    → slice_get (map rule_facts rules) k ≡ Some rule
slice_get-front [] zero k rule is = is
slice_get-front [] (suc n) k rule is = is
slice_get-front (x ∷ xs) zero k rule is = let f : ⊥ = cc in absurd f
slice_get-front (x ∷ xs) (suc n) zero rule is = is
slice_get-front (x ∷ xs) (suc n) (suc k) rule is = slice_get-front xs n k rule is

slice_get-below : (rules : List Rule) (n k : ℕ) (rule : RuleFacts) → k < n → slice_get (map rule_facts rules) k ≡ Some rule
    → slice_get (map rule_facts (take n rules)) k ≡ Some rule
slice_get-below rules zero k rule less is = absurd (omega (arith, less))
slice_get-below [] (suc n) k rule less is = is
slice_get-below (x ∷ xs) (suc n) zero rule less is = is
slice_get-below (x ∷ xs) (suc n) (suc k) rule less is = slice_get-below xs n k rule (omega (arith, less)) is

-- a packet that rules at the front leave is decided by the rule behind them
pub decides_left : (rules : List Rule) (n : ℕ) (rule : RuleFacts) (tuple : TupleFacts) → slice_get (map rule_facts rules) n ≡ Some rule
    → IsLeft rule rule (map rule_facts (take n rules)) tuple → CanDecide (map rule_facts rules) n
decides_left rules n rule tuple at left =
    (tuple, rule.action, left.packet, (rule, at, left.one, refl, λ k other less there. left.none k other (slice_get-below rules n k other less there)))

pub some_left : (n : ℕ) → IsTrue (ltb 0 n) → n ≢ 0
some_left n some = λ none. omega (arith, ltb-true 0 n some, none)

-- what rules at the front take, and which of them are needed
pub shadowed_together : (rules : List Rule) (n : ℕ) (rule : RuleFacts) (takers : List ℕ) (least : Bool) → n ≤ length rules
    → slice_get (map rule_facts rules) n ≡ Some rule → NoneCovers (map rule_facts rules) n rule → All (λ k. k < length (take n rules)) takers
    → AreTaken rule rule (map rule_facts (take n rules)) (Contains takers)
    → (IsTrue least → All (IsNeeded rule (map rule_facts (take n rules)) takers) takers)
    → IsShadowedTogether (map rule_facts rules) n takers least
shadowed_together rules n rule takers least within at alone before taken needed =
    let size = length-take-le n rules within in
    let less : All (λ k. k < n) takers = subst (λ (m : ℕ). All (λ k. k < m) takers) size before in
    record {
      before = less;
      later = rule;
      is = at;
      alone = alone;
      taken = λ tuple packet one two. let it = taken tuple packet one two in (it.0, it.1, it.2, slice_get-front rules n it.0 it.1 it.3, it.4);
      needed = λ are. All-weaker (IsNeeded rule (map rule_facts (take n rules)) takers) (IsNeeded rule (map rule_facts rules) takers)
          (λ k need. record {
            tuple = need.tuple;
            packet = need.packet;
            is = need.is;
            alone = λ j other in_it not there.
                need.alone j other in_it not (slice_get-below rules n j other (All-contains (λ k. k < n) takers j less in_it) there);
          })
          takers (needed are);
    }
