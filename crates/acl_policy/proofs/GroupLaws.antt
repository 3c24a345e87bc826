-- The groups of an IPv6 address are read as the grammar says.
use Rattle.std.proofs.Common.{◌≡◌, ℕ, zero, suc, ◌+◌, ◌*◌, ◌^◌, ◌≤◌, ◌==◌, false, List, [], ◌∷◌, ◌++◌, length, Option, Some, None, refl, sym, ap, ◌∙◌, arith, lit≤, pow-add}
use Rattle.std.specs.Prelude.{option_map, replicate}
use Rattle.std.proofs.Math.Nat.{pow-suc}
use Rattle.std.proofs.lemmas.Bool.{ne_eqb}
use Rattle.std.proofs.lemmas.List.{length-append}
use Rattle.acl_policy.specs.Numerals.{ArePieces, IsGroup, in_base}
use Rattle.acl_policy.specs.inner.WordReading.{◌>>=◌}
use Rattle.acl_policy.specs.inner.WordReading.Numerals.{cut_in, group_in}
use Rattle.acl_policy.specs.inner.WordReading.Prefixes.{groups_after, groups_in, groups_step}
use Rattle.acl_policy.proofs.GroupLemmas.{groups_after-suc, groups_in-none, groups_in-some}
use Rattle.acl_policy.proofs.NumeralLaws.{cut_in-complete, cut_in-none, cut_in-sound, group_in-complete, group_in-sound}
use Rattle.acl_policy.proofs.OptionLemmas.{bind_some, map_some, same_some}
use Rattle.acl_policy.proofs.PieceLaws.{Lacks-IsGroup}

-- groups in a text, and the number that they make after another
pub record AreGroups (most number count : ℕ) (text : List ℕ) (made : ℕ × ℕ) : Type 0 where
  pub groups : List ℕ
  pub are : ArePieces 58 IsGroup text groups
  pub some : 1 ≤ length groups
  pub few : length groups ≤ most
  pub value : made.0 ≡ number * 65536 ^ length groups + in_base 65536 groups
  pub counted : made.1 ≡ count + length groups

last_group : (most number count : ℕ) (text : List ℕ) (made : ℕ × ℕ) (group : ℕ) → group_in text ≡ Some group → made ≡ (number * 65536 + group, count + 1)
    → AreGroups (suc most) number count text made
last_group most number count text made group found is = record {
  groups = group ∷ [];
  are = group_in-sound text group found;
  some = lit≤ tt;
  few = omega arith;
  value = ap (λ (p : ℕ × ℕ). p.0) is ∙ omega arith;
  counted = ap (λ (p : ℕ × ℕ). p.1) is;
}

-- one digit in front of others
one_more : (number group count rest : ℕ)
    → (number * 65536 + group) * 65536 ^ count + rest ≡ number * 65536 ^ suc count + (group * 65536 ^ count + rest)
one_more number group count rest = rw (pow-suc 65536 count) (grind arith)

more_groups : (most number count : ℕ) (text first rest : List ℕ) (made : ℕ × ℕ) (group : ℕ) → text ≡ first ++ 58 ∷ rest → group_in first ≡ Some group
    → (groups : List ℕ) → ArePieces 58 IsGroup rest groups → 1 ≤ length groups → length groups ≤ most
    → made.0 ≡ (number * 65536 + group) * 65536 ^ length groups + in_base 65536 groups → made.1 ≡ (count + 1) + length groups
    → AreGroups (suc most) number count text made
more_groups most number count text first rest made group split found [] are some few value counted = absurd (omega arith)
more_groups most number count text first rest made group split found (h ∷ more) are some few value counted = record {
  groups = group ∷ h ∷ more;
  are = (first, rest, split, group_in-sound first group found, are);
  some = omega arith;
  few = omega arith;
  value = value ∙ one_more number group (length (h ∷ more)) (in_base 65536 (h ∷ more));
  counted = omega arith;
}

-- what a step gives, where the rest is known to be groups
step-sound : (most number count : ℕ) (text : List ℕ) (cut : Option (List ℕ × List ℕ)) (made : ℕ × ℕ)
    → ((n : ℕ) (rest : List ℕ) → groups_after most n (count + 1) rest ≡ Some made → AreGroups most n (count + 1) rest made)
    → cut_in 58 text ≡ cut → groups_step number count (λ n rest. groups_after most n (count + 1) rest) text cut ≡ Some made
    → AreGroups (suc most) number count text made
step-sound most number count text None made later found given =
    let group = map_some {B = ℕ × ℕ} (λ n. (number * 65536 + n, count + 1)) (group_in text) made given in
    last_group most number count text made group.0 group.1 group.2
step-sound most number count text (Some cut) made later found given =
    let group = bind_some (group_in cut.0) _ made given in
    let rest = later (number * 65536 + group.0) cut.1 group.2 in
    more_groups most number count text cut.0 cut.1 made group.0 (cut_in-sound 58 text cut.0 cut.1 found) group.1 rest.groups rest.are rest.some rest.few rest.value rest.counted

pub groups_after-sound : (most number count : ℕ) (text : List ℕ) (made : ℕ × ℕ) → groups_after most number count text ≡ Some made → AreGroups most number count text made
unfolding groups_after
groups_after-sound zero number count text made found = absurd (cc)
groups_after-sound (suc most) number count text made found =
    step-sound most number count text (cut_in 58 text) made (λ n rest given. groups_after-sound most n (count + 1) rest made given) refl found

same_pair : (a b x y : ℕ) → a ≡ x → b ≡ y → ◌≡◌ {A = Option (ℕ × ℕ)} (Some (a, b)) (Some (x, y))
same_pair a b x y first second = ap (λ (n : ℕ). Some (n, b)) first ∙ ap (λ (n : ℕ). Some (x, n)) second

pub groups_after-complete : (groups : List ℕ) (most number count : ℕ) (text : List ℕ) → ArePieces 58 IsGroup text groups → 1 ≤ length groups → length groups ≤ most
    → groups_after most number count text ≡ Some (number * 65536 ^ length groups + in_base 65536 groups, count + length groups)
groups_after-complete [] most number count text are some few = absurd (omega arith)
groups_after-complete (g ∷ gs) zero number count text are some few = absurd (omega arith)
groups_after-complete (g ∷ []) (suc most) number count text are some few =
    let none = cut_in-none 58 text (Lacks-IsGroup 58 text g (lit≤ tt) are) in
    groups_after-suc most number count text None none
    ∙ ap (option_map {U = ℕ × ℕ} (λ n. (number * 65536 + n, count + 1))) (group_in-complete text g are)
    ∙ same_pair _ _ _ _ (omega arith) refl
groups_after-complete (g ∷ h ∷ more) (suc most) number count text (first, rest, split, is, are) some few =
    let cut : cut_in 58 text ≡ Some (first, rest) = ap (cut_in 58) split ∙ cut_in-complete 58 first rest (Lacks-IsGroup 58 first g (lit≤ tt) is) in
    let later = groups_after-complete (h ∷ more) most (number * 65536 + g) (count + 1) rest are (omega arith) (omega arith) in
    groups_after-suc most number count text (Some (first, rest)) cut
    ∙ ap (λ (o : Option ℕ). o >>= λ n. groups_after most (number * 65536 + n) (count + 1) rest) (group_in-complete first g is)
    ∙ later
    ∙ same_pair _ _ _ _ (one_more number g (length (h ∷ more)) (in_base 65536 (h ∷ more))) (omega arith)

pub groups_in-sound : (text : List ℕ) (made : ℕ × ℕ) → groups_in text ≡ Some made
    → (groups : List ℕ) × ArePieces 58 IsGroup text groups × (length groups ≤ 8) × (made.0 ≡ in_base 65536 groups) × (made.1 ≡ length groups)
groups_in-sound [] made found =
    let pair = same_some (0, 0) made (sym (groups_in-none [] refl) ∙ found) in
    ([], refl, lit≤ tt, ap (λ (p : ℕ × ℕ). p.0) (sym pair), ap (λ (p : ℕ × ℕ). p.1) (sym pair))
groups_in-sound (b ∷ bs) made found =
    let some : (length (b ∷ bs) == 0) ≡ false = ne_eqb (length (b ∷ bs)) 0 (λ none. omega (arith, none)) in
    let all = groups_after-sound 8 0 0 (b ∷ bs) made (sym (groups_in-some (b ∷ bs) some) ∙ found) in
    (all.groups, all.are, all.few, all.value ∙ omega arith, all.counted ∙ omega arith)

piece-nonempty : (text : List ℕ) (groups : List ℕ) → ArePieces 58 IsGroup text groups → 1 ≤ length groups → (length text == 0) ≡ false
piece-nonempty text [] are some = absurd (omega arith)
piece-nonempty text (g ∷ []) are some = ne_eqb (length text) 0 (λ none. omega (arith, none, are.0.0))
piece-nonempty text (g ∷ h ∷ more) (first, rest, split, is, are) some =
    ne_eqb (length text) 0 (λ none. omega (arith, none, is.0.0, ap length split, length-append first (58 ∷ rest)))

pub groups_in-complete : (text : List ℕ) (groups : List ℕ) → ArePieces 58 IsGroup text groups → length groups ≤ 8 → groups_in text ≡ Some (in_base 65536 groups, length groups)
groups_in-complete text [] are few = groups_in-none text (rw are refl)
groups_in-complete text (g ∷ gs) are few =
    groups_in-some text (piece-nonempty text (g ∷ gs) are (omega arith))
    ∙ groups_after-complete (g ∷ gs) 8 0 0 text are (omega arith) few
    ∙ same_pair _ _ _ _ (omega arith) (omega arith)

-- a number made of two lists of digits
pub in_base-append : (base : ℕ) (xs ys : List ℕ) → in_base base (xs ++ ys) ≡ in_base base xs * base ^ length ys + in_base base ys
in_base-append base [] ys = omega arith
in_base-append base (x ∷ xs) ys =
    let rest = in_base-append base xs ys in
    let power : base ^ length (xs ++ ys) ≡ base ^ length xs * base ^ length ys = ap (λ (n : ℕ). base ^ n) (length-append xs ys) ∙ pow-add base (length xs) (length ys) in
    rw (power, rest) (grind arith)

pub in_base-replicate : (base n : ℕ) → in_base base (replicate n 0) ≡ 0
in_base-replicate base zero = refl
in_base-replicate base (suc n) = omega (arith, in_base-replicate base n)
