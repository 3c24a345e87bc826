-- What is told of all pairs, one after the other.
use Rattle.std.proofs.Common.{◌≡◌, ◌<◌, ◌≤◌, ◌⊎◌, ℕ, zero, suc, ◌+◌, List, [], ◌∷◌, ◌++◌, Option, Some, None, IfSome, length, length-append, length-take-le, map, take, refl, sym, subst, ap, ◌∙◌, inl, inr, arith}
use Rattle.std.specs.Prelude.{Contains, option_to_list}
use Rattle.std.proofs.lemmas.Bool.{cases_eq}
use Rattle.std.proofs.lemmas.List.{length-map, map-append, map-id, take-map}
use Rattle.std.proofs.Math.Seq.{take-append-add}
use Rattle.std.proofs.lemmas.List.Elements.{All-same}
use Rattle.packet_view.specs.declared.tuple.Direction.{Direction}
use Rattle.packet_view.specs.declared.tuple.Direction.TheVariants.{Inbound, Outbound}
use Rattle.packet_view.specs.declared.tuple.Tuple.{Tuple}
use Rattle.packet_view.specs.Tuples.{TupleFacts, tuple_facts}
use Rattle.acl_policy.specs.Policies.{PolicyFacts}
use Rattle.acl_policy.specs.declared.rule.Rule.{Rule}
use Rattle.acl_policy.specs.Rules.{RuleFacts, rule_facts}
use Rattle.policy_compare.specs.Comparisons.{AreApart, DifferBy, GoByBoth, IsComparison, IsDifference, IsExample, OwnDiffer, rules_at}
use Rattle.policy_compare.specs.declared.difference.Comparison.{Comparison}
use Rattle.policy_compare.specs.declared.difference.Difference.{Difference}
use Rattle.policy_compare.specs.declared.difference.Pair.{Pair}
use Rattle.policy_compare.specs.inner.Found.{Adds, AddsDifferences, IsAtInterface, IsAtRow, IsAtSides, IsBeforeInterface, IsBeforeRow, IsDifferenceOf, IsOtherBefore, IsPairOf, SidesFacts, pair_at, sides_at}
use Rattle.policy_compare.specs.inner.Starting.{idle_of, idle_rules}
use Rattle.policy_compare.proofs.AddingLemmas.{adds_both, adds_found, adds_none, adds_other}
use Rattle.policy_compare.proofs.DeciderLemmas.{at_places, next_of_row, next_row}

-- ---- where fewer tests are left

fewer_left : (Is : Tuple → Type 0) (was left : ℕ) (packet : Option Tuple) → left ≤ was → IsExample was Is packet → IsExample left Is packet
fewer_left Is was left None fewer is = omega (arith, fewer, is)
fewer_left Is was left (Some tuple) fewer is = is

pub sides_left : (sides : SidesFacts) (Is : Pair → Type 0) (was left : ℕ) (old new : List Difference) → left ≤ was
    → AddsDifferences (IsDifferenceOf sides was) Is old new → AddsDifferences (IsDifferenceOf sides left) Is old new
sides_left sides Is was left old new fewer adds =
    adds_other (λ d. d.pair) (IsDifferenceOf sides was) (IsDifferenceOf sides left) Is Is old new
    (λ d is. (is.0, is.1, fewer_left (λ tuple. (tuple.interface ≡ sides.interface) × AreApart sides.before sides.after d.pair (tuple_facts tuple)) was left d.packet fewer is.2))
    (λ pair at. at) adds

pub policies_left : (before after : PolicyFacts) (Is : Pair → Type 0) (was left : ℕ) (old new : List Difference) → left ≤ was
    → AddsDifferences (IsDifference before after was) Is old new → AddsDifferences (IsDifference before after left) Is old new
policies_left before after Is was left old new fewer adds =
    adds_other (λ d. d.pair) (IsDifference before after was) (IsDifference before after left) Is Is old new
    (λ d is. fewer_left (λ tuple. (tuple.interface ≡ d.pair.interface) × DifferBy before after d.pair (tuple_facts tuple)) was left d.packet fewer is)
    (λ pair at. at) adds

-- ---- a row

pub front_of_both : {A : Type 0} (xs ys : List A) (i j : ℕ) → i ≤ length xs → take (i + j) (take i xs ++ ys) ≡ take i xs ++ take j ys
front_of_both xs ys zero j within = let none : 0 + j ≡ j = omega arith in rw none refl
front_of_both [] ys (suc i) j within = absurd (omega (arith, within))
front_of_both (x ∷ xs) ys (suc i) j within = let more : suc i + j ≡ suc (i + j) = omega arith in rw more (ap (λ (l : List _). x ∷ l) (front_of_both xs ys i j (omega (arith, within))))

-- the rules before two places, behind the idle ones
pub earlier_rules : (all before after : List Rule) (place other : ℕ) → map rule_facts all ≡ idle_rules ++ map rule_facts (take place before ++ after)
    → place ≤ length before
    → map rule_facts (take (8 + place + other) all) ≡ idle_rules ++ (take place (map rule_facts before) ++ take other (map rule_facts after))
unfolding idle_rules idle_of
earlier_rules all before after place other is within =
    let same = length-map before rule_facts in
    let sum : 8 + place + other ≡ 8 + (place + other) = omega arith in
    let both : map rule_facts (take place before ++ after) ≡ take place (map rule_facts before) ++ map rule_facts after =
    map-append rule_facts (take place before) after ∙ ap (λ (rs : List RuleFacts). rs ++ map rule_facts after) (sym (take-map rule_facts place before)) in
    sym (take-map rule_facts (8 + place + other) all) ∙ ap (take (8 + place + other)) is ∙ ap (λ (n : ℕ). take n (idle_rules ++ map rule_facts (take place before ++ after))) sum
    ∙ take-append-add idle_rules (map rule_facts (take place before ++ after)) (place + other)
    ∙ ap (λ (rs : List RuleFacts). idle_rules ++ take (place + other) rs) both
    ∙ ap (λ (rs : List RuleFacts). idle_rules ++ rs) (front_of_both (map rule_facts before) (map rule_facts after) place other (omega (arith, same, within)))

-- they are so many
pub earlier_within : (all before after : List Rule) (place other : ℕ) → map rule_facts all ≡ idle_rules ++ map rule_facts (take place before ++ after)
    → place ≤ length before → other ≤ length after → 8 + place + other ≤ length all
unfolding idle_rules idle_of
earlier_within all before after place other is within beyond =
    let one = length-map all rule_facts in
    let two = length-map (take place before ++ after) rule_facts in
    let three : length (map rule_facts all) ≡ 8 + length (map rule_facts (take place before ++ after)) =
    ap length is ∙ length-append idle_rules (map rule_facts (take place before ++ after)) in
    let four = length-append (take place before) after in
    let five : length (take place before) ≡ place = length-take-le place before within in
    omega (arith, one, two, three, four, five, beyond)

pub no_pair : (sides : SidesFacts) (left place : ℕ) (all : List Difference) → AddsDifferences (IsDifferenceOf sides left) (IsAtRow sides place 0) all all
no_pair sides left place all = adds_none (λ d. d.pair) (IsDifferenceOf sides left) (IsAtRow sides place 0) all (λ pair at. omega (arith, at.1))

-- the pair of these places
abbrev IsThere : SidesFacts → ℕ → ℕ → Pair → Type 0
IsThere sides place other pair = (pair ≡ pair_at sides place other) × IsPairOf sides pair

told_there : (sides : SidesFacts) (place other : ℕ) (found : Option Difference) → IfSome found (λ d. d.pair ≡ pair_at sides place other)
    → (pair : Pair) → IsThere sides place other pair → IfSome found (λ d. d.pair ≡ pair)
told_there sides place other None same pair there = tt
told_there sides place other (Some d) same pair there = same ∙ sym there.0

pub next_pair : (sides : SidesFacts) (was left place other : ℕ) (first old new : List Difference) (found : Option Difference)
    → left ≤ was → AddsDifferences (IsDifferenceOf sides was) (IsAtRow sides place other) first old → new ≡ old ++ option_to_list found → IfSome found (IsDifferenceOf sides left)
    → IfSome found (λ d. d.pair ≡ pair_at sides place other)
    → (found ≡ None → (tuple : TupleFacts) → AreApart sides.before sides.after (pair_at sides place other) tuple → ⊥)
    → AddsDifferences (IsDifferenceOf sides left) (IsAtRow sides place (other + 1)) first new
next_pair sides was left place other first old new found fewer so_far is right same none =
    let step = adds_found (λ d. d.pair) (IsDifferenceOf sides left) (IsThere sides place other) old new found is right (told_there sides place other found same)
    (λ lacks pair there. none lacks there.1.0 (subst (λ (p : Pair). AreApart sides.before sides.after p there.1.0) there.0 there.1.1)) in
    adds_both (λ d. d.pair) (IsDifferenceOf sides left) (IsAtRow sides place other) (IsThere sides place other) (IsAtRow sides place (other + 1)) first old new
    (sides_left sides (IsAtRow sides place other) was left first old fewer so_far) step
    (next_of_row sides place other)

-- ---- rows

pub no_row : (sides : SidesFacts) (left : ℕ) (all : List Difference) → AddsDifferences (IsDifferenceOf sides left) (IsBeforeRow sides 0) all all
no_row sides left all = adds_none (λ d. d.pair) (IsDifferenceOf sides left) (IsBeforeRow sides 0) all (λ pair at. omega (arith, at.1))

pub row_more : (sides : SidesFacts) (was left place : ℕ) (first old new : List Difference) → left ≤ was
    → AddsDifferences (IsDifferenceOf sides was) (IsBeforeRow sides place) first old
    → AddsDifferences (IsDifferenceOf sides left) (IsAtRow sides place (length sides.after + 1)) old new
    → AddsDifferences (IsDifferenceOf sides left) (IsBeforeRow sides (place + 1)) first new
row_more sides was left place first old new fewer so_far row =
    adds_both (λ d. d.pair) (IsDifferenceOf sides left) (IsBeforeRow sides place) (IsAtRow sides place (length sides.after + 1)) (IsBeforeRow sides (place + 1)) first old new
    (sides_left sides (IsBeforeRow sides place) was left first old fewer so_far) row (next_row sides place)

pub all_rows : (sides : SidesFacts) (left : ℕ) (old new : List Difference) → AddsDifferences (IsDifferenceOf sides left) (IsBeforeRow sides (length sides.before + 1)) old new
    → AddsDifferences (IsDifferenceOf sides left) (IsAtSides sides) old new
all_rows sides left old new rows =
    adds_other (λ d. d.pair) (IsDifferenceOf sides left) (IsDifferenceOf sides left) (IsBeforeRow sides (length sides.before + 1)) (IsAtSides sides) old new
    (λ d is. is) (at_places sides) rows

-- ---- interfaces

-- a pair decides a packet differently at this interface in this direction
abbrev DifferAt : PolicyFacts → PolicyFacts → ℕ → Direction → Pair → TupleFacts → Type 0
DifferAt before after interface direction pair tuple =
    GoByBoth before after interface direction × AreApart (rules_at before interface direction) (rules_at after interface direction) pair tuple

of_policies : (before after : PolicyFacts) (interface : ℕ) (direction : Direction) (left : ℕ) (d : Difference) → GoByBoth before after interface direction
    → IsDifferenceOf (sides_at before after interface direction) left d → IsDifference before after left d
of_policies before after interface direction left d go (at, way, is) = by d.packet is
  where
    by : (packet : Option Tuple)
        → IsExample left (λ tuple. (tuple.interface ≡ interface)
        × AreApart (rules_at before interface direction) (rules_at after interface direction) d.pair (tuple_facts tuple)) packet
        → IsExample left (λ tuple. (tuple.interface ≡ d.pair.interface) × DifferBy before after d.pair (tuple_facts tuple)) packet
    by None found = found
    by (Some tuple) found = (
      found.0 ∙ sym at,
      subst (λ (n : ℕ). DifferAt before after n d.pair.direction d.pair (tuple_facts tuple)) (sym at)
          (subst (λ (w : Direction). DifferAt before after interface w d.pair (tuple_facts tuple)) (sym way) (go, found.1)),
    )

either_way : (before after : PolicyFacts) (interface : ℕ) (pair : Pair) → IsAtInterface before after interface pair
    → IsAtSides (sides_at before after interface Inbound) pair
    ⊎ (GoByBoth before after interface Outbound × IsAtSides (sides_at before after interface Outbound) pair)
either_way before after interface pair (at, tuple, differ) = by pair.direction refl
  where
    there : (way : Direction) → pair.direction ≡ way → DifferAt before after interface way pair tuple
    there way is = subst (λ (n : ℕ). DifferAt before after n way pair tuple) at (subst (λ (w : Direction). DifferAt before after pair.interface w pair tuple) is differ)

    by : (way : Direction) → pair.direction ≡ way → IsAtSides (sides_at before after interface Inbound) pair
        ⊎ (GoByBoth before after interface Outbound × IsAtSides (sides_at before after interface Outbound) pair)
    by Inbound is = inl (at, is, (tuple, (there Inbound is).1))
    by Outbound is = let it = there Outbound is in inr (it.0, (at, is, (tuple, it.1)))

-- what is told of one direction is told of the policies
one_way : (before after : PolicyFacts) (interface : ℕ) (direction : Direction) (left : ℕ) (old new : List Difference) (sides : SidesFacts)
    → GoByBoth before after interface direction → sides ≡ sides_at before after interface direction → AddsDifferences (IsDifferenceOf sides left) (IsAtSides sides) old new
    → AddsDifferences (IsDifference before after left) (IsAtSides (sides_at before after interface direction)) old new
one_way before after interface direction left old new sides go is adds =
    let there = sides_at before after interface direction in
    let moved = subst (λ (s : SidesFacts). AddsDifferences (IsDifferenceOf s left) (IsAtSides s) old new) is adds in
    adds_other (λ d. d.pair) (IsDifferenceOf there left) (IsDifference before after left) (IsAtSides there) (IsAtSides there) old new
    (λ d told. of_policies before after interface direction left d go told) (λ pair at. at) moved

pub both_ways : (before after : PolicyFacts) (interface was left : ℕ) (old mid new : List Difference) (one two : SidesFacts)
    → GoByBoth before after interface Outbound → left ≤ was → one ≡ sides_at before after interface Inbound → two ≡ sides_at before after interface Outbound
    → AddsDifferences (IsDifferenceOf one was) (IsAtSides one) old mid → AddsDifferences (IsDifferenceOf two left) (IsAtSides two) mid new
    → AddsDifferences (IsDifference before after left) (IsAtInterface before after interface) old new
both_ways before after interface was left old mid new one two go fewer is_one is_two first second =
    let inbound = one_way before after interface Inbound was old mid one (tt, tt) is_one first in
    adds_both (λ d. d.pair) (IsDifference before after left) (IsAtSides (sides_at before after interface Inbound)) (IsAtSides (sides_at before after interface Outbound))
    (IsAtInterface before after interface) old mid new
    (policies_left before after (IsAtSides (sides_at before after interface Inbound)) was left old mid fewer inbound)
    (one_way before after interface Outbound left mid new two go is_two second)
    (λ pair at. elim (either_way before after interface pair at) [ inl inbound ↦ inl inbound | inr outbound ↦ inr outbound.1 ])

-- no packet goes out by both
pub in_alone : (before after : PolicyFacts) (interface left : ℕ) (old new : List Difference) (one : SidesFacts) → (GoByBoth before after interface Outbound → ⊥)
    → one ≡ sides_at before after interface Inbound → AddsDifferences (IsDifferenceOf one left) (IsAtSides one) old new
    → AddsDifferences (IsDifference before after left) (IsAtInterface before after interface) old new
in_alone before after interface left old new one stay is adds =
    adds_other (λ d. d.pair) (IsDifference before after left) (IsDifference before after left) (IsAtSides (sides_at before after interface Inbound))
    (IsAtInterface before after interface) old new (λ d told. told)
    (λ pair at. elim (either_way before after interface pair at) [ inl inbound ↦ inbound | inr outbound ↦ absurd (stay outbound.0) ])
    (one_way before after interface Inbound left old new one (tt, tt) is adds)

pub no_interface : (before after : PolicyFacts) (left : ℕ) (all : List Difference) → all ≡ []
    → AddsDifferences (IsDifference before after left) (IsBeforeInterface before after 0) [] all
no_interface before after left all is =
    subst (λ (ds : List Difference). AddsDifferences (IsDifference before after left) (IsBeforeInterface before after 0) [] ds) (sym is)
    (adds_none (λ d. d.pair) (IsDifference before after left) (IsBeforeInterface before after 0) [] (λ pair at. omega (arith, at.0)))

next_interface : (before after : PolicyFacts) (number : ℕ) (pair : Pair) → IsBeforeInterface before after (number + 1) pair
    → IsBeforeInterface before after number pair ⊎ IsAtInterface before after number pair
next_interface before after number pair (below, tuple, differ) =
    elim (cases_eq pair.interface number) [
      | inl same ↦ inr (same, tuple, differ)
      | inr other ↦ inl (omega (arith, below, other), tuple, differ)
    ]

pub interface_more : (before after : PolicyFacts) (was left number interface : ℕ) (old new : List Difference) → left ≤ was → interface ≡ number
    → AddsDifferences (IsDifference before after was) (IsBeforeInterface before after number) [] old
    → AddsDifferences (IsDifference before after left) (IsAtInterface before after interface) old new
    → AddsDifferences (IsDifference before after left) (IsBeforeInterface before after (number + 1)) [] new
interface_more before after was left number interface old new fewer same so_far one =
    let here = subst (λ (n : ℕ). AddsDifferences (IsDifference before after left) (IsAtInterface before after n) old new) same one in
    adds_both (λ d. d.pair) (IsDifference before after left) (IsBeforeInterface before after number) (IsAtInterface before after number)
    (IsBeforeInterface before after (number + 1)) [] old new (policies_left before after (IsBeforeInterface before after number) was left [] old fewer so_far) here
    (next_interface before after number)

-- ---- own addresses

pub no_other : (before after : PolicyFacts) (all : List ℕ) → all ≡ [] → Adds (λ n. n) (OwnDiffer before after) (IsOtherBefore before after 0) [] all
no_other before after all is =
    subst (λ (ns : List ℕ). Adds (λ n. n) (OwnDiffer before after) (IsOtherBefore before after 0) [] ns) (sym is)
    (adds_none (λ n. n) (OwnDiffer before after) (IsOtherBefore before after 0) [] (λ n at. omega (arith, at.0)))

-- the interface with this number
abbrev IsOther : PolicyFacts → PolicyFacts → ℕ → ℕ → Type 0
IsOther before after number interface = (interface ≡ number) × OwnDiffer before after interface

next_other : (before after : PolicyFacts) (number interface : ℕ) → IsOtherBefore before after (number + 1) interface
    → IsOtherBefore before after number interface ⊎ IsOther before after number interface
next_other before after number interface (below, differ) =
    elim (cases_eq interface number) [
      | inl same ↦ inr (same, differ)
      | inr other ↦ inl (omega (arith, below, other), differ)
    ]

other_more : (before after : PolicyFacts) (number : ℕ) (old new : List ℕ) (found : Option ℕ)
    → Adds (λ n. n) (OwnDiffer before after) (IsOtherBefore before after number) [] old → new ≡ old ++ option_to_list found
    → IfSome found (OwnDiffer before after) → ((k : ℕ) → IsOther before after number k → IfSome found (λ n. n ≡ k))
    → (found ≡ None → (k : ℕ) → IsOther before after number k → ⊥)
    → Adds (λ n. n) (OwnDiffer before after) (IsOtherBefore before after (number + 1)) [] new
other_more before after number old new found so_far is right same none =
    adds_both (λ n. n) (OwnDiffer before after) (IsOtherBefore before after number) (IsOther before after number) (IsOtherBefore before after (number + 1)) [] old new
    so_far (adds_found (λ n. n) (OwnDiffer before after) (IsOther before after number) old new found is right same none) (next_other before after number)

-- it differs, and is pushed
pub other_pushed : (before after : PolicyFacts) (number interface : ℕ) (old new : List ℕ) → interface ≡ number
    → Adds (λ n. n) (OwnDiffer before after) (IsOtherBefore before after number) [] old → OwnDiffer before after interface → new ≡ old ++ interface ∷ []
    → Adds (λ n. n) (OwnDiffer before after) (IsOtherBefore before after (number + 1)) [] new
other_pushed before after number interface old new here so_far differ is =
    other_more before after number old new (Some interface) so_far is differ (λ k other. here ∙ sym other.0) (λ same k other. cc same)

-- it doesn't
pub other_passed : (before after : PolicyFacts) (number interface : ℕ) (old : List ℕ) → interface ≡ number
    → Adds (λ n. n) (OwnDiffer before after) (IsOtherBefore before after number) [] old → (OwnDiffer before after interface → ⊥)
    → Adds (λ n. n) (OwnDiffer before after) (IsOtherBefore before after (number + 1)) [] old
other_passed before after number interface old here so_far same =
    adds_other (λ n. n) (OwnDiffer before after) (OwnDiffer before after) (IsOtherBefore before after number) (IsOtherBefore before after (number + 1)) [] old
    (λ n is. is) (λ k at. elim (next_other before after number k at) [
      | inl below ↦ below
      | inr there ↦ absurd (same (subst (λ (n : ℕ). OwnDiffer before after n) (there.0 ∙ sym here) there.1))
    ]) so_far

-- ---- the whole

-- what is among keys of a list that has none
none_in : (ds : List Difference) (pair : Pair) → ds ≡ [] → Contains (map (λ d. d.pair) ds) pair → ⊥
none_in ds pair is in_it =
    let here : Contains [] pair = subst (λ (xs : List Difference). Contains (map (λ d. d.pair) xs) pair) is in_it in
    omega (arith, here.1)

pub is_comparison : (before after : PolicyFacts) (left : ℕ) (told : Comparison)
    → AddsDifferences (IsDifference before after left) (IsBeforeInterface before after 256) [] told.differences.items
    → Adds (λ n. n) (OwnDiffer before after) (IsOtherBefore before after 256) [] told.interfaces.items → IsComparison before after left told
is_comparison before after left told found others =
    let every : (pair : Pair) (tuple : TupleFacts) → pair.interface < 256 → DifferBy before after pair tuple → Contains (map (λ d. d.pair) told.differences.items) pair =
    λ pair tuple within differ. subst (λ (ds : List Difference). Contains (map (λ d. d.pair) ds) pair) (sym found.is) (found.every pair (within, tuple, differ)) in
    record {
      sound = All-same (IsDifference before after left) told.differences.items found.more found.is found.each;
      complete = every;
      none = λ is interface direction tuple within differ.
          none_in told.differences.items differ.0 is
          (every differ.0 tuple (subst (λ (n : ℕ). n < 256) (sym differ.1) within) differ.3);
      own = All-same (OwnDiffer before after) told.interfaces.items others.more others.is others.each;
      every_own = λ interface within differ.
          subst (λ (ns : List ℕ). Contains ns interface) (sym (others.is ∙ sym (map-id others.more))) (others.every interface (within, differ));
    }
