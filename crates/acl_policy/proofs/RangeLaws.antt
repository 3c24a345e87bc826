-- Ranges of numbers and flags are read as the grammar says.
use Rattle.std.proofs.Common.{◌≡◌, ℕ, ◌≤◌, List, Option, Some, None, refl, sym, ap, ◌∙◌, subst, arith, lit≤, inl, inr}
use Rattle.std.specs.Prelude.{nat_le, option_map}
use Rattle.std.proofs.lemmas.Bool.{le-leb, leb-true}
use Rattle.acl_policy.specs.Numerals.{IsNumber}
use Rattle.acl_policy.specs.inner.WordReading.{at_most, ◌>>=◌}
use Rattle.acl_policy.specs.inner.WordReading.Numerals.{cut_in, number_in, pair_in}
use Rattle.acl_policy.specs.inner.WordReading.Traffic.{flags_in, number_up_to_in, range_in, range_in_parts}
use Rattle.acl_policy.specs.Traffic.{IsFlags, IsRange}
use Rattle.acl_policy.proofs.NumeralLaws.{cut_in-complete, cut_in-none, cut_in-sound, number_in-complete, number_in-sound, pair_in-complete, pair_in-sound}
use Rattle.acl_policy.proofs.OptionLemmas.{at_most-le, at_most-some, bind_some, guarded, map_some, same_some}
use Rattle.acl_policy.proofs.PieceLaws.{Lacks-IsNumber, Lacks-IsPair}

pub number_up_to-sound : (most : ℕ) (word : List ℕ) (n : ℕ) → number_up_to_in most word ≡ Some n → IsNumber word n × (n ≤ most)
unfolding number_up_to_in
number_up_to-sound most word n found =
    let number = bind_some (number_in word) (at_most most) n found in
    let few = at_most-some most number.0 n number.2 in
    (subst (IsNumber word) few.0 (number_in-sound word number.0 number.1), subst (λ (m : ℕ). m ≤ most) few.0 few.1)

pub number_up_to-complete : (most : ℕ) (word : List ℕ) (n : ℕ) → IsNumber word n → n ≤ most → number_up_to_in most word ≡ Some n
unfolding number_up_to_in
number_up_to-complete most word n is few = ap (λ (o : Option ℕ). o >>= at_most most) (number_in-complete word n is) ∙ at_most-le most n few

range_in_parts-sound : (most : ℕ) (word : List ℕ) (cut : Option (List ℕ × List ℕ)) (range : ℕ × ℕ) → cut_in 45 word ≡ cut
    → range_in_parts most word cut ≡ Some range → IsRange most word range
range_in_parts-sound most word None range found given =
    let number = map_some {B = ℕ × ℕ} (λ n. (n, n)) (number_up_to_in most word) range given in
    let is = number_up_to-sound most word number.0 number.1 in
    subst (IsRange most word) (sym number.2) (inl (is.0, refl, is.1))
range_in_parts-sound most word (Some cut) range found given =
    let low = bind_some (number_up_to_in most cut.0) _ range given in
    let high = bind_some (number_up_to_in most cut.1) _ range low.2 in
    let both = guarded {A = ℕ × ℕ} (nat_le low.0 high.0) (low.0, high.0) range high.2 in
    let is_low = number_up_to-sound most cut.0 low.0 low.1 in
    let is_high = number_up_to-sound most cut.1 high.0 high.1 in
    subst (IsRange most word) both.1
    (inr (cut.0, cut.1, cut_in-sound 45 word cut.0 cut.1 found, is_low.0, is_high.0, leb-true low.0 high.0 both.0, is_high.1))

pub range_in-sound : (most : ℕ) (word : List ℕ) (range : ℕ × ℕ) → range_in most word ≡ Some range → IsRange most word range
unfolding range_in
range_in-sound most word range found = range_in_parts-sound most word (cut_in 45 word) range refl found

pub range_in-complete : (most : ℕ) (word : List ℕ) (range : ℕ × ℕ) → IsRange most word range → range_in most word ≡ Some range
unfolding range_in
range_in-complete most word range (inl one) =
    ap (range_in_parts most word) (cut_in-none 45 word (Lacks-IsNumber 45 word range.0 (lit≤ tt) one.0))
    ∙ ap (option_map {U = ℕ × ℕ} (λ n. (n, n))) (number_up_to-complete most word range.0 one.0 one.2)
    ∙ ap (λ (n : ℕ). Some (range.0, n)) (sym one.1)
range_in-complete most word range (inr (low, high, split, is_low, is_high, order, few)) =
    let low_few : range.0 ≤ most = omega arith in
    ap (λ (w : List ℕ). range_in_parts most word (cut_in 45 w)) split
    ∙ ap (range_in_parts most word) (cut_in-complete 45 low high (Lacks-IsNumber 45 low range.0 (lit≤ tt) is_low))
    ∙ rw (number_up_to-complete most low range.0 is_low low_few, number_up_to-complete most high range.1 is_high few, le-leb range.0 range.1 order) refl

pub flags_in-sound : (word : List ℕ) (flags : ℕ × ℕ) → flags_in word ≡ Some flags → IsFlags word flags
unfolding flags_in
flags_in-sound word flags found =
    let cut = bind_some (cut_in 47 word) _ flags found in
    let value = bind_some (pair_in cut.0.0) _ flags cut.2 in
    let mask = bind_some (pair_in cut.0.1) _ flags value.2 in
    subst (IsFlags word) (same_some _ flags mask.2)
    (cut.0.0, cut.0.1, cut_in-sound 47 word cut.0.0 cut.0.1 cut.1, pair_in-sound cut.0.0 value.0 value.1, pair_in-sound cut.0.1 mask.0 mask.1)

pub flags_in-complete : (word : List ℕ) (flags : ℕ × ℕ) → IsFlags word flags → flags_in word ≡ Some flags
unfolding flags_in
flags_in-complete word flags (value, mask, split, is_value, is_mask) =
    rw (split, cut_in-complete 47 value mask (Lacks-IsPair 47 value flags.0 (lit≤ tt) is_value), pair_in-complete value flags.0 is_value, pair_in-complete mask flags.1 is_mask) refl
