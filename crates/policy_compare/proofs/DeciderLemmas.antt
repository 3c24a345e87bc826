-- The first rule that matches is the one at a place before which none does.
use Rattle.std.proofs.Common.{◌≡◌, ◌<◌, ◌⊎◌, ℕ, zero, suc, ◌+◌, List, [], ◌∷◌, ◌++◌, Option, Some, None, length, take, refl, sym, subst, ap, inl, inr, arith}
use Rattle.std.specs.Prelude.{option_map, slice_get}
use Rattle.std.proofs.lemmas.Bool.{cases_eq}
use Rattle.std.proofs.lemmas.Option.{slice_get_cases, slice_get_past, slice_get_within}
use Rattle.packet_view.specs.declared.tuple.Direction.{Direction}
use Rattle.packet_view.specs.Tuples.{TupleFacts}
use Rattle.acl_policy.specs.declared.rule.Action.{Action}
use Rattle.acl_policy.specs.Matching.{DecidesByDefault, Matches}
use Rattle.acl_policy.specs.Rules.{RuleFacts}
use Rattle.policy_compare.specs.Comparisons.{IsDecider, decider_at}
use Rattle.policy_compare.specs.declared.difference.Pair.{Pair}
use Rattle.policy_compare.specs.inner.Findings.{MatchesIf}
use Rattle.policy_compare.specs.inner.Found.{IsAtRow, IsAtSides, IsBeforeRow, IsPairOf, SidesFacts, pair_at}

-- ---- none of several lists matches

pub none_of_both : (xs ys : List RuleFacts) (tuple : TupleFacts) → DecidesByDefault xs tuple → DecidesByDefault ys tuple
    → (k : ℕ) (other : RuleFacts) → slice_get (xs ++ ys) k ≡ Some other → Matches other tuple → ⊥
none_of_both [] ys tuple one two k other read m = two k other read m
none_of_both (x ∷ xs) ys tuple one two zero other read m = one zero other read m
none_of_both (x ∷ xs) ys tuple one two (suc k) other read m = none_of_both xs ys tuple (λ i. one (suc i)) two k other read m

pub none_of_left : (xs ys : List RuleFacts) (tuple : TupleFacts) → DecidesByDefault (xs ++ ys) tuple
    → (k : ℕ) (other : RuleFacts) → slice_get xs k ≡ Some other → Matches other tuple → ⊥
none_of_left [] ys tuple all k other read m = let f : ⊥ = cc in f
none_of_left (x ∷ xs) ys tuple all zero other read m = all zero other read m
none_of_left (x ∷ xs) ys tuple all (suc k) other read m = none_of_left xs ys tuple (λ i. all (suc i)) k other read m

pub none_of_right : (xs ys : List RuleFacts) (tuple : TupleFacts) → DecidesByDefault (xs ++ ys) tuple → DecidesByDefault ys tuple
none_of_right [] ys tuple all = all
none_of_right (x ∷ xs) ys tuple all = none_of_right xs ys tuple (λ i. all (suc i))

-- ---- none before a place matches

pub from_front : (rules : List RuleFacts) (i : ℕ) (tuple : TupleFacts) → DecidesByDefault (take i rules) tuple
    → (k : ℕ) (other : RuleFacts) → k < i → slice_get rules k ≡ Some other → Matches other tuple → ⊥
from_front [] i tuple none k other below read m = let f : ⊥ = cc in f
from_front (x ∷ xs) zero tuple none k other below read m = absurd (omega (arith, below))
from_front (x ∷ xs) (suc i) tuple none zero other below read m = none zero other read m
from_front (x ∷ xs) (suc i) tuple none (suc k) other below read m = from_front xs i tuple (λ j. none (suc j)) k other (omega (arith, below)) read m

to_front : (rules : List RuleFacts) (i : ℕ) (tuple : TupleFacts)
    → ((k : ℕ) (other : RuleFacts) → k < i → slice_get rules k ≡ Some other → Matches other tuple → ⊥)
    → (k : ℕ) (other : RuleFacts) → slice_get (take i rules) k ≡ Some other → Matches other tuple → ⊥
to_front [] zero tuple none k other read m = let f : ⊥ = cc in f
to_front [] (suc i) tuple none k other read m = let f : ⊥ = cc in f
to_front (x ∷ xs) zero tuple none k other read m = let f : ⊥ = cc in f
to_front (x ∷ xs) (suc i) tuple none zero other read m = none zero other (omega arith) read m
to_front (x ∷ xs) (suc i) tuple none (suc k) other read m =
    to_front xs i tuple (λ j rule below at n. none (suc j) rule (omega (arith, below)) at n) k other read m

-- ---- what decides

-- a place behind which there is a rule isn't behind the last
inside : (rules : List RuleFacts) (i k : ℕ) (other : RuleFacts) → slice_get rules i ≡ None → slice_get rules k ≡ Some other → k < i
inside rules i k other none read =
    let there = slice_get_within rules k other read in
    elim (slice_get_cases rules i).1 [
      | inl found ↦ (let f : ⊥ = cc (none, found.2) in absurd f)
      | inr past ↦ omega (arith, past.0, there)
    ]

pub decides : (rules : List RuleFacts) (i : ℕ) (tuple : TupleFacts) (there : Option RuleFacts) → slice_get rules i ≡ there → MatchesIf there tuple
    → DecidesByDefault (take i rules) tuple → IsDecider rules tuple (option_map (λ rule. (i + 1, rule.action)) there)
decides rules i tuple None read m none = λ k other at n. from_front rules i tuple none k other (inside rules i k other read at) at n
decides rules i tuple (Some rule) read m none = (i, refl, (rule, read, m, refl, λ k other below at n. from_front rules i tuple none k other below at n))

-- What decides a packet is at a place of its own.
pub decided : (rules : List RuleFacts) (i : ℕ) (tuple : TupleFacts) (there : Option RuleFacts) → slice_get rules i ≡ there
    → IsDecider rules tuple (option_map (λ rule. (i + 1, rule.action)) there) → MatchesIf there tuple × DecidesByDefault (take i rules) tuple
decided rules i tuple None read is = (tt, to_front rules i tuple (λ k other below at n. is k other at n))
decided rules i tuple (Some rule) read (place, same, (other, at, m, act, none)) =
    let here : i ≡ place = omega (arith, same) in
    let found : slice_get rules i ≡ Some other = subst (λ (n : ℕ). slice_get rules n ≡ Some other) (sym here) at in
    let one : other ≡ rule = cc (read, found) in (
      subst (λ (r : RuleFacts). Matches r tuple) one m,
      to_front rules i tuple (λ k it below there n. none k it (omega (arith, here, below)) there n),
    )

-- what decides a packet stands at some place
place_of : (rules : List RuleFacts) (tuple : TupleFacts) (decider : Option (ℕ × Action)) → IsDecider rules tuple decider
    → (i : ℕ) × (i < length rules + 1) × (decider ≡ decider_at rules i)
place_of rules tuple None is =
    let past = slice_get_past rules (length rules) (omega arith) in
    (length rules, omega arith, sym (ap (λ (o : Option RuleFacts). option_map (λ rule. (length rules + 1, rule.action)) o) past))
place_of rules tuple (Some (number, action)) (place, same, (rule, at, m, act, none)) =
    let there = slice_get_within rules place rule at in
    let found : decider_at rules place ≡ Some (place + 1, rule.action) = ap (λ (o : Option RuleFacts). option_map (λ r. (place + 1, r.action)) o) at in
    let numbered : number ≡ place + 1 = same in
    let acted : action ≡ rule.action = act in
    (place, omega (arith, there), cc)

-- ---- pairs

same_pair : (pair : Pair) (interface : ℕ) (direction : Direction) (before after : Option (ℕ × Action)) → pair.interface ≡ interface
    → pair.direction ≡ direction → pair.before ≡ before → pair.after ≡ after
    → pair ≡ record { interface = interface; direction = direction; before = before; after = after }
same_pair pair interface direction before after one two three four = rw (← one, ← two, ← three, ← four) refl

-- each pair that decides a packet differently is at a place of either list
pub at_places : (sides : SidesFacts) (pair : Pair) → IsAtSides sides pair → IsBeforeRow sides (length sides.before + 1) pair
at_places sides pair (interface, direction, (tuple, apart)) =
    let one = place_of sides.before tuple pair.before apart.by_before in
    let two = place_of sides.after tuple pair.after apart.by_after in
    let i = one.0 in
    let j = two.0 in
    let first : pair.before ≡ decider_at sides.before i = one.2 in
    let second : pair.after ≡ decider_at sides.after j = two.2 in
    let whole : pair ≡ pair_at sides i j =
    same_pair pair sides.interface sides.direction (decider_at sides.before i) (decider_at sides.after j) interface direction first second in
    (i, one.1, (j, two.1, whole, (tuple, apart)))

-- ---- rows

-- the next pair of a row
pub next_of_row : (sides : SidesFacts) (place bound : ℕ) (pair : Pair) → IsAtRow sides place (bound + 1) pair
    → IsAtRow sides place bound pair ⊎ ((pair ≡ pair_at sides place bound) × IsPairOf sides pair)
next_of_row sides place bound pair (other, below, is, found) =
    elim (cases_eq other bound) [
      | inl same ↦ inr (subst (λ (n : ℕ). pair ≡ pair_at sides place n) same is, found)
      | inr unequal ↦ inl (other, omega (arith, below, unequal), is, found)
    ]

-- the next row
pub next_row : (sides : SidesFacts) (bound : ℕ) (pair : Pair) → IsBeforeRow sides (bound + 1) pair
    → IsBeforeRow sides bound pair ⊎ IsAtRow sides bound (length sides.after + 1) pair
next_row sides bound pair (place, below, found) =
    elim (cases_eq place bound) [
      | inl same ↦ inr (subst (λ (n : ℕ). IsAtRow sides n (length sides.after + 1) pair) same found)
      | inr unequal ↦ inl (place, omega (arith, below, unequal), found)
    ]
