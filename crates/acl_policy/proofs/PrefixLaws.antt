-- Addresses and prefixes are read as the grammar says.
use Rattle.std.proofs.Common.{◌≡◌, ℕ, zero, suc, ◌+◌, ◌-◌, ◌*◌, ◌^◌, ◌≤◌, ◌==◌, true, false, List, ◌∷◌, ◌++◌, length, Option, Some, None, refl, sym, ap, ◌∙◌, subst, arith, lit≤, ◌⊎◌, inl, inr}
use Rattle.std.specs.Prelude.{codes, nat_le, option_map, replicate}
use Rattle.std.specs.Char.{digit_value}
use Rattle.std.specs.Str.{bytes_eq}
use Rattle.std.proofs.lemmas.Bool.{eq-eqb, eqb-true, le-leb, leb-true}
use Rattle.std.proofs.lemmas.List.{length-append}
use Rattle.packet_view.specs.declared.tuple.Family.{Family}
use Rattle.packet_view.specs.declared.tuple.Family.TheVariants.{V4, V6}
use Rattle.acl_policy.specs.Numerals.{IsGroup, IsNumber, IsOctet, in_base}
use Rattle.acl_policy.specs.Prefixes.{IsAddress, IsEightGroups, IsPrefix, IsShortened}
use Rattle.acl_policy.specs.inner.WordReading.{at_most, ◌>>=◌}
use Rattle.acl_policy.specs.inner.WordReading.Numerals.{cut_in, number_in}
use Rattle.acl_policy.specs.inner.WordReading.Prefixes.{address_in, all_groups, cut_double_in, groups_address_in, groups_in, prefix_in, prefix_in_parts, six_in_parts, spread}
use Rattle.acl_policy.specs.Widths.{width}
use Rattle.acl_policy.proofs.ColonLaws.{IsSingle-groups, cut_double-complete, cut_double-none, cut_double-sound}
use Rattle.acl_policy.proofs.GroupLaws.{groups_in-complete, groups_in-sound, in_base-append, in_base-replicate}
use Rattle.acl_policy.proofs.NumeralLaws.{Lacks, Lacks-append, bytes_eq-Lacks, cut_in-complete, cut_in-none, cut_in-sound, number_in-complete, number_in-sound}
use Rattle.acl_policy.proofs.OptionLemmas.{at_most-le, at_most-some, bind_some, bytes_eq-same, bytes_eq-true, chosen, guarded, map_some, same_some}
use Rattle.acl_policy.proofs.PieceLaws.{Lacks-ArePieces, Lacks-IsGroup, Lacks-IsNumber, Lacks-IsOctet, four_parts_in-complete, four_parts_in-sound}

length-replicate : (n : ℕ) → length {A = ℕ} (replicate n 0) ≡ n
length-replicate zero = refl
length-replicate (suc n) = ap suc (length-replicate n)

-- the number of an address whose middle groups are zeros
in_base-spread : (front back : List ℕ) (missing : ℕ) → length front + missing + length back ≡ 8
    → in_base 65536 (front ++ (replicate missing 0 ++ back)) ≡ in_base 65536 front * 65536 ^ (8 - length front) + in_base 65536 back
in_base-spread front back missing eight =
    let zeros : in_base 65536 (replicate missing 0 ++ back) ≡ in_base 65536 back =
    in_base-append 65536 (replicate missing 0) back ∙ ap (λ (n : ℕ). n * 65536 ^ length back + in_base 65536 back) (in_base-replicate 65536 missing) ∙ omega arith in
    let behind : length (replicate missing 0 ++ back) ≡ 8 - length front = omega (arith, length-append (replicate missing 0) back, length-replicate missing) in
    in_base-append 65536 front (replicate missing 0 ++ back)
    ∙ ap (λ (n : ℕ). in_base 65536 front * 65536 ^ n + in_base 65536 (replicate missing 0 ++ back)) behind
    ∙ ap (λ (n : ℕ). in_base 65536 front * 65536 ^ (8 - length front) + n) zeros

six-sound : (word : List ℕ) (cut : Option (List ℕ × List ℕ)) (address : ℕ) → cut_double_in word ≡ cut → six_in_parts word cut ≡ Some address
    → IsEightGroups word address ⊎ IsShortened word address
six-sound word None address found given =
    let made = bind_some (groups_in word) all_groups address given in
    let all = guarded (made.0.1 == 8) made.0.0 address made.2 in
    let groups = groups_in-sound word made.0 made.1 in
    inl (groups.0, sym groups.4 ∙ eqb-true made.0.1 8 all.0, groups.1, sym all.1 ∙ groups.3)
six-sound word (Some cut) address found given =
    let front = bind_some (groups_in cut.0) _ address given in
    let back = bind_some (groups_in cut.1) (spread front.0) address front.2 in
    let sum = guarded (nat_le (front.0.1 + back.0.1) 7) (front.0.0 * 65536 ^ (8 - front.0.1) + back.0.0) address back.2 in
    let few = leb-true (front.0.1 + back.0.1) 7 sum.0 in
    let before = groups_in-sound cut.0 front.0 front.1 in
    let after = groups_in-sound cut.1 back.0 back.1 in
    let missing = 8 - (length before.0 + length after.0) in
    let eight : length before.0 + missing + length after.0 ≡ 8 = omega (arith, before.4, after.4, few) in
    inr (
      cut.0,
      cut.1,
      before.0,
      after.0,
      missing,
      cut_double-sound word cut.0 cut.1 found,
      before.1,
      after.1,
      omega (arith, before.4, after.4, few),
      eight,
      sym sum.1 ∙ ap (λ (n : ℕ). n * 65536 ^ (8 - front.0.1) + back.0.0) before.3 ∙ ap (λ (n : ℕ). in_base 65536 before.0 * 65536 ^ (8 - n) + back.0.0) before.4
          ∙ ap (λ (n : ℕ). in_base 65536 before.0 * 65536 ^ (8 - length before.0) + n) after.3 ∙ sym (in_base-spread before.0 after.0 missing eight),
    )

groups_address_in-sound : (word : List ℕ) (address : ℕ) → groups_address_in word ≡ Some address → IsEightGroups word address ⊎ IsShortened word address
unfolding groups_address_in
groups_address_in-sound word address found = six-sound word (cut_double_in word) address refl found

eight_groups-complete : (word : List ℕ) (address : ℕ) → IsEightGroups word address → groups_address_in word ≡ Some address
unfolding groups_address_in
eight_groups-complete word address (groups, eight, are, value) =
    let few : length groups ≤ 8 = omega arith in
    let eight_is : (length groups == 8) ≡ true = eq-eqb (length groups) 8 eight in
    ap (six_in_parts word) (cut_double-none word (IsSingle-groups word groups are))
    ∙ ap (λ (o : Option (ℕ × ℕ)). o >>= all_groups) (groups_in-complete word groups are few)
    ∙ rw eight_is (ap Some (sym value))

shortened-complete : (word : List ℕ) (address : ℕ) → IsShortened word address → groups_address_in word ≡ Some address
unfolding groups_address_in
shortened-complete word address (before, after, front, back, missing, split, are, behind, some, eight, value) =
    let few : nat_le (length front + length back) 7 ≡ true = le-leb (length front + length back) 7 (omega arith) in
    let front_few : length front ≤ 8 = omega arith in
    let back_few : length back ≤ 8 = omega arith in
    ap (λ (w : List ℕ). six_in_parts word (cut_double_in w)) split
    ∙ ap (six_in_parts word) (cut_double-complete before after (IsSingle-groups before front are))
    ∙ ap (λ (o : Option (ℕ × ℕ)). o >>= λ f. groups_in after >>= spread f) (groups_in-complete before front are front_few)
    ∙ ap (λ (o : Option (ℕ × ℕ)). o >>= spread (in_base 65536 front, length front)) (groups_in-complete after back behind back_few)
    ∙ rw few (ap Some (sym (value ∙ in_base-spread front back missing eight)))

pub address_in-sound : (family : Family) (word : List ℕ) (address : ℕ) → address_in family word ≡ Some address → IsAddress family word address
address_in-sound V4 word address found = four_parts_in-sound word address found
address_in-sound V6 word address found = groups_address_in-sound word address found

pub address_in-complete : (family : Family) (word : List ℕ) (address : ℕ) → IsAddress family word address → address_in family word ≡ Some address
address_in-complete V4 word address is = four_parts_in-complete word address is
address_in-complete V6 word address (inl eight) = eight_groups-complete word address eight
address_in-complete V6 word address (inr short) = shortened-complete word address short

-- no byte but hexadecimal digits, '.' and ':' is in an address
Lacks-IsAddress : (byte : ℕ) (family : Family) (word : List ℕ) (address : ℕ) → 16 ≤ digit_value byte → (46 == byte) ≡ false → (58 == byte) ≡ false
    → IsAddress family word address → Lacks byte word
Lacks-IsAddress byte V4 word address none dot colon (parts, four, are, value) =
    Lacks-ArePieces byte 46 IsOctet (λ piece n. Lacks-IsOctet byte piece n (omega arith)) dot word parts are
Lacks-IsAddress byte V6 word address none dot colon (inl (groups, eight, are, value)) =
    Lacks-ArePieces byte 58 IsGroup (λ piece n. Lacks-IsGroup byte piece n none) colon word groups are
Lacks-IsAddress byte V6 word address none dot colon (inr (before, after, front, back, missing, split, are, behind, some, eight, value)) =
    subst (Lacks byte) (sym split)
    (Lacks-append byte before (58 ∷ 58 ∷ after) (Lacks-ArePieces byte 58 IsGroup (λ piece n. Lacks-IsGroup byte piece n none) colon before front are)
    (colon, (colon, Lacks-ArePieces byte 58 IsGroup (λ piece n. Lacks-IsGroup byte piece n none) colon after back behind)))

has_n : Lacks 110 (codes "any") → ⊥
has_n lacks = absurd (cc (lacks.1.0))

prefix_in_parts-sound : (family : Family) (word : List ℕ) (cut : Option (List ℕ × List ℕ)) (prefix : ℕ × ℕ) → cut_in 47 word ≡ cut
    → prefix_in_parts family word cut ≡ Some prefix → IsPrefix family word prefix
prefix_in_parts-sound family word None prefix found given =
    let address = map_some {B = ℕ × ℕ} (λ address. (address, width family)) (address_in family word) prefix given in
    inr (inl (
      subst (λ (p : ℕ × ℕ). IsAddress family word p.0) (sym address.2) (address_in-sound family word address.0 address.1),
      ap (λ (p : ℕ × ℕ). p.1) address.2,
    ))
prefix_in_parts-sound family word (Some cut) prefix found given =
    let address = bind_some (address_in family cut.0) _ prefix given in
    let number = bind_some (number_in cut.1) _ prefix address.2 in
    let bits = map_some {B = ℕ × ℕ} (λ bits. (address.0, bits)) (at_most (width family) number.0) prefix number.2 in
    let few = at_most-some (width family) number.0 bits.0 bits.1 in
    let is = number_in-sound cut.1 number.0 number.1 in
    subst (IsPrefix family word) (sym bits.2)
    (inr (inr (
      cut.0,
      cut.1,
      cut_in-sound 47 word cut.0 cut.1 found,
      address_in-sound family cut.0 address.0 address.1,
      subst (IsNumber cut.1) few.0 is,
      subst (λ (n : ℕ). n ≤ width family) few.0 few.1,
    )))

pub prefix_in-sound : (family : Family) (word : List ℕ) (prefix : ℕ × ℕ) → prefix_in family word ≡ Some prefix → IsPrefix family word prefix
unfolding prefix_in
prefix_in-sound family word prefix found = elim (chosen (bytes_eq word (codes "any")) (Some (0, 0)) (prefix_in_parts family word (cut_in 47 word)) (Some prefix) found) [
  | inl any ↦ inl (bytes_eq-true word (codes "any") any.0, sym (same_some (0, 0) prefix any.1))
  | inr other ↦ prefix_in_parts-sound family word (cut_in 47 word) prefix refl other.1
]

pub prefix_in-complete : (family : Family) (word : List ℕ) (prefix : ℕ × ℕ) → IsPrefix family word prefix → prefix_in family word ≡ Some prefix
unfolding prefix_in
prefix_in-complete family word prefix (inl any) = rw (bytes_eq-same word (codes "any") any.0) (ap Some (sym any.1))
prefix_in-complete family word prefix (inr (inl one)) =
    let other = bytes_eq-Lacks 110 word (codes "any") (Lacks-IsAddress 110 family word prefix.0 (lit≤ tt) refl refl one.0) has_n in
    rw other (
    ap (prefix_in_parts family word) (cut_in-none 47 word (Lacks-IsAddress 47 family word prefix.0 (lit≤ tt) refl refl one.0))
    ∙ ap (option_map {U = ℕ × ℕ} (λ address. (address, width family))) (address_in-complete family word prefix.0 one.0)
    ∙ ap (λ (n : ℕ). Some (prefix.0, n)) (sym one.1)
    )
prefix_in-complete family word prefix (inr (inr (address, bits, split, is, number, few))) =
    let lacks : Lacks 110 (address ++ 47 ∷ bits) =
    Lacks-append 110 address (47 ∷ bits) (Lacks-IsAddress 110 family address prefix.0 (lit≤ tt) refl refl is) (refl, Lacks-IsNumber 110 bits prefix.1 (lit≤ tt) number) in
    let other = bytes_eq-Lacks 110 word (codes "any") (subst (Lacks 110) (sym split) lacks) has_n in
    rw other (
    ap (λ (w : List ℕ). prefix_in_parts family word (cut_in 47 w)) split
    ∙ ap (prefix_in_parts family word) (cut_in-complete 47 address bits (Lacks-IsAddress 47 family address prefix.0 (lit≤ tt) refl refl is))
    ∙ ap (λ (o : Option ℕ). o >>= λ a. number_in bits >>= λ n. option_map {U = ℕ × ℕ} (λ n. (a, n)) (at_most (width family) n)) (address_in-complete family address prefix.0 is)
    ∙ ap (λ (o : Option ℕ). o >>= λ n. option_map {U = ℕ × ℕ} (λ n. (prefix.0, n)) (at_most (width family) n)) (number_in-complete bits prefix.1 number)
    ∙ ap (option_map {U = ℕ × ℕ} (λ n. (prefix.0, n))) (at_most-le (width family) prefix.1 few)
    )
