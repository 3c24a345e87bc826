-- Groups of an IPv6 address, read one after another.
use Rattle.std.proofs.Common.{◌≡◌, ℕ, suc, ◌+◌, ◌-◌, ◌*◌, ◌^◌, ◌<◌, ◌≤◌, ◌==◌, false, true, List, length, Option, Some, None, refl, sym, ap, ◌∙◌, arith, lit<, pow-add}
use Rattle.std.proofs.Math.Nat.{mul-le-mul_right, pow-le-pow_right}
use Rattle.std.proofs.lemmas.Bool.{cond-false, cond-true}
use Rattle.std.proofs.lemmas.Grind.{pow_more}
use Rattle.acl_policy.specs.inner.WordReading.Numerals.{cut_in}
use Rattle.acl_policy.specs.inner.WordReading.Prefixes.{groups_after, groups_in, groups_step}

-- eight groups fit 128 bits
pub groups-fit : (number group count : ℕ) → number < 65536 ^ count → group < 65536 → count < 8 → number * 65536 + group < 2 ^ 128
groups-fit number group count below small few =
    let more : count + 1 ≤ 8 = omega arith in
    omega (arith, pow_more 65536 count, pow-le-pow_right {n = 65536} (lit< tt) more)

pub groups_after-suc : (most number count : ℕ) (text : List ℕ) (cut : Option (List ℕ × List ℕ)) → cut_in 58 text ≡ cut
    → groups_after (suc most) number count text ≡ groups_step number count (λ n rest. groups_after most n (count + 1) rest) text cut
unfolding groups_after
groups_after-suc most number count text cut found = ap (groups_step number count (λ n rest. groups_after most n (count + 1) rest) text) found

-- one step of the groups that are left, where the place of the next ':' is known
pub one_group : (number count : ℕ) (text : List ℕ) (whole : Option (ℕ × ℕ)) (cut : Option (List ℕ × List ℕ)) → count < 8
    → groups_after (8 - count) number count text ≡ whole → cut_in 58 text ≡ cut
    → groups_step number count (λ n rest. groups_after (8 - (count + 1)) n (count + 1) rest) text cut ≡ whole
one_group number count text whole cut few left found =
    let more : 8 - count ≡ suc (8 - (count + 1)) = omega arith in
    sym (groups_after-suc (8 - (count + 1)) number count text cut found) ∙ ap (λ (k : ℕ). groups_after k number count text) (sym more) ∙ left

pub no_group_left : (number : ℕ) (text : List ℕ) → groups_after 0 number 8 text ≡ None
unfolding groups_after
no_group_left number text = refl

-- a text that isn't empty
pub groups_in-some : (text : List ℕ) → (length text == 0) ≡ false → groups_in text ≡ groups_after 8 0 0 text
unfolding groups_in
groups_in-some text some = cond-false _ _ _ some

pub groups_in-none : (text : List ℕ) → (length text == 0) ≡ true → groups_in text ≡ Some (0, 0)
unfolding groups_in
groups_in-none text none = cond-true _ _ _ none

-- groups at both ends, of which there are at most eight, fit 128 bits
pub spread-fits : (front back count rest : ℕ) → front < 65536 ^ count → back < 65536 ^ rest → count + rest ≤ 8
    → front * 65536 ^ (8 - count) + back < 2 ^ 128
spread-fits front back count rest front_fits back_fits few =
    let behind = 65536 ^ (8 - count) in
    let eight : count + (8 - count) ≡ 8 = omega arith in
    let whole : 65536 ^ count * behind ≡ 65536 ^ 8 = sym (pow-add 65536 count (8 - count)) ∙ ap (λ (k : ℕ). 65536 ^ k) eight in
    let next : (front + 1) * behind ≤ 65536 ^ count * behind = mul-le-mul_right behind (omega arith) in
    let short : rest ≤ 8 - count = omega arith in
    omega (arith, next, whole, pow-le-pow_right {n = 65536} (lit< tt) short)
