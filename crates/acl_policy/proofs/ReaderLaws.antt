-- What cuts a word or a list of words, as the grammar says.
use Rattle.std.proofs.Common.{◌≡◌, ◌≢◌, ◌==◌, ℕ, suc, List, [], ◌∷◌, take, drop, ◌+◌, Some, sym, ap, ◌∙◌, subst, inl, inr}
use Rattle.std.specs.Prelude.{All, position}
use Rattle.std.proofs.lemmas.Bool.{both_ways, cases_Bool, eq-eqb, ne_eqb}
use Rattle.std.proofs.lemmas.List.Elements.{All-cons, All-head, All-nil, All-tail}
use Rattle.acl_policy.specs.Readers.{IsCut, IsNext, IsReaderOf}
use Rattle.acl_policy.specs.inner.WordReading.{next_in}
use Rattle.acl_policy.specs.inner.WordReading.Numerals.{cut_in}
use Rattle.acl_policy.proofs.NumeralLaws.{Lacks, cut_in-complete, cut_in-sound}
use Rattle.acl_policy.proofs.OptionLemmas.{map_some, next_in-some, same_some}
use Rattle.acl_policy.proofs.PlaceLemmas.{position-here, position-past}

Lacks-All : (byte : ℕ) (word : List ℕ) → All (λ b. b ≢ byte) word → Lacks byte word
Lacks-All byte [] other = tt
Lacks-All byte (b ∷ bs) other =
    (ne_eqb b byte (All-head (λ b. b ≢ byte) b bs other), Lacks-All byte bs (All-tail (λ b. b ≢ byte) b bs other))

-- no byte before the first such one is such a one
none_before : (byte : ℕ) (word : List ℕ) (i : ℕ) → position (λ b. b == byte) word ≡ Some i → All (λ b. b ≢ byte) (take i word)
none_before byte [] i found = absurd (cc)
none_before byte (b ∷ bs) i found = elim (cases_Bool (b == byte)) [
  | inl same ↦
      let here : 0 ≡ i = same_some 0 i (sym (position-here (λ b. b == byte) b bs same) ∙ found) in
      subst (λ (n : ℕ). All (λ b. b ≢ byte) (take n (b ∷ bs))) here (All-nil (λ (b : ℕ). b ≢ byte))
  | inr other ↦
      let later = map_some suc (position (λ b. b == byte) bs) i (sym (position-past (λ b. b == byte) b bs other) ∙ found) in
      subst (λ (n : ℕ). All (λ b. b ≢ byte) (take n (b ∷ bs))) (sym later.2)
      (All-cons (λ (b : ℕ). b ≢ byte) b (take later.0 bs) (λ same. both_ways (b == byte) other (eq-eqb b byte same)) (none_before byte bs later.0 later.1))
]

front_lacks : (byte : ℕ) (word front back : List ℕ) → cut_in byte word ≡ Some (front, back) → All (λ b. b ≢ byte) front
unfolding cut_in
front_lacks byte word front back found =
    let at = map_some {B = List ℕ × List ℕ} (λ i. (take i word, drop (i + 1) word)) (position (λ b. b == byte) word) (front, back) found in
    subst (λ (ws : List ℕ). All (λ b. b ≢ byte) ws) (sym (ap (λ (cut : List ℕ × List ℕ). cut.0) at.2)) (none_before byte word at.0 at.1)

pub cut_read : (byte : ℕ) → IsReaderOf (IsCut byte) (cut_in byte)
cut_read byte word (front, back) = (
  λ found. (cut_in-sound byte word front back found, front_lacks byte word front back found),
  λ is. ap (cut_in byte) is.0 ∙ cut_in-complete byte front back (Lacks-All byte front is.1),
)

pub next_read : IsReaderOf IsNext next_in
next_read words (word, rest) = (λ found. next_in-some words word rest found, λ is. ap next_in is)
