-- The order of two ends.
use Rattle.std.proofs.Common.{◌≡◌, ◌≢◌, ◌∙◌, ◌⊎◌, true, false, ap, ap₂, arith, sym, subst, inl, inr}
use Rattle.std.proofs.lemmas.Bool.{cases_order}
use Rattle.session_state.specs.declared.flow_end.End.{End}
use Rattle.session_state.specs.Flows.{LesserFirst, Precedes, side_of, stands_first}

-- equal addresses and ports make equal ends
pub same_end : (one other : End) → one.address ≡ other.address → one.port ≡ other.port → one ≡ other
same_end one other address port =
    ap₂ (λ a p. let end : End = record { address = a; port = p } in end) address port

-- of two ends one is lesser, or both are the same
pub end_order : (one other : End) → (one ≡ other) ⊎ (Precedes one other ⊎ Precedes other one)
end_order one other =
    elim (cases_order one.address other.address) [
      | inl address ↦ elim (cases_order one.port other.port) [
        | inl port ↦ inl (same_end one other address port)
        | inr (inl less) ↦ inr (inl (inr (address, less)))
        | inr (inr more) ↦ inr (inr (inr (sym address, more)))
      ]
      | inr (inl less) ↦ inr (inl (inl less))
      | inr (inr more) ↦ inr (inr (inl more))
    ]

-- a lesser end isn't the other one
pub apart_ends : (one other : End) → Precedes one other ⊎ Precedes other one → one ≡ other → ⊥
apart_ends one other apart same = omega (arith, apart, ap (λ e. e.address) same, ap (λ e. e.port) same)

-- ends of which neither is lesser are the same
pub neither : (one other : End) → (Precedes one other → ⊥) → (Precedes other one → ⊥) → one ≡ other
neither one other least most =
    elim (end_order one other) [
      | inl same ↦ same
      | inr (inl less) ↦ absurd (least less)
      | inr (inr more) ↦ absurd (most more)
    ]

-- the sender that stands first has side 0
pub side_first : (first sender : End) → sender ≡ first → side_of first sender ≡ 0
side_first first sender same = grind (arith, ap (λ e. e.address) same, ap (λ e. e.port) same)

-- any other sender has side 1
pub side_second : (first sender : End) → sender ≢ first → side_of first sender ≡ 1
side_second first sender other = grind (arith, other, same_end sender first)

-- where the test of the order holds, the other end isn't lesser
pub ordered : (one other : End) → stands_first one other ≡ true → Precedes other one → ⊥
ordered one other test (inl less) = grind (arith, test, less)
ordered one other test (inr (same, less)) = grind (arith, test, same, less)

-- where it fails, the other end is the lesser one
pub not_ordered : (one other : End) → stands_first one other ≡ false → Precedes one other → ⊥
not_ordered one other test (inl less) = grind (arith, test, less)
not_ordered one other test (inr (same, less)) = grind (arith, test, same, less)

pub test_same : (end : End) → stands_first end end ≡ true
test_same end = grind arith

test_less : (one other : End) → Precedes one other → stands_first one other ≡ true
test_less one other (inl less) = grind (arith, less)
test_less one other (inr (same, less)) = grind (arith, same, less)

test_more : (one other : End) → Precedes other one → stands_first one other ≡ false
test_more one other (inl less) = grind (arith, less)
test_more one other (inr (same, less)) = grind (arith, same, less)

-- an end stands first where the other doesn't precede it
pub first_by_order : (one other : End) → (Precedes other one → ⊥) → stands_first one other ≡ true
first_by_order one other least =
    elim (end_order one other) [
      | inl same ↦ subst (λ e. stands_first one e ≡ true) same (test_same one)
      | inr (inl less) ↦ test_less one other less
      | inr (inr more) ↦ absurd (least more)
    ]

-- an end that doesn't precede the other stands second, or both are the same
pub second_by_order : (one other : End) → (Precedes one other → ⊥)
    → (one ≡ other) ⊎ (stands_first one other ≡ false)
second_by_order one other most =
    elim (end_order one other) [
      | inl same ↦ inl same
      | inr (inl less) ↦ absurd (most less)
      | inr (inr more) ↦ inr (test_more one other more)
    ]

-- two ends stand in the same order from either side
pub lesser_swap : (from to first second : End) → LesserFirst from to first second → LesserFirst to from first second
lesser_swap from to first second (inl h) = inr h
lesser_swap from to first second (inr h) = inl h

-- two ends stand in one order
pub lesser_once : (from to first second first' second' : End) → LesserFirst from to first second
    → LesserFirst from to first' second' → (first ≡ first') × (second ≡ second')
lesser_once from to first second first' second' (inl h) (inl k) = (h.0 ∙ sym k.0, h.1 ∙ sym k.1)
lesser_once from to first second first' second' (inr h) (inr k) = (h.0 ∙ sym k.0, h.1 ∙ sym k.1)
lesser_once from to first second first' second' (inl h) (inr k) =
    let same : from ≡ to = neither from to k.2 h.2 in (h.0 ∙ same ∙ sym k.0, h.1 ∙ sym same ∙ sym k.1)
lesser_once from to first second first' second' (inr h) (inl k) =
    let same : from ≡ to = neither from to h.2 k.2 in (h.0 ∙ sym same ∙ sym k.0, h.1 ∙ same ∙ sym k.1)
