-- The words of one place of a block, and those of the others.
use Rattle.std.proofs.Common.{◌≡◌, ◌≢◌, ◌∙◌, ◌+◌, ◌-◌, ◌*◌, ◌<◌, ℕ, List, length, set, drop, min, ap, arith, sym, inl, inr, length-set, get_or-set_other}
use Rattle.std.proofs.lemmas.Bool.{cases_order}
use Rattle.std.proofs.lemmas.List.{ext_get_or, length-drop, length-take}
use Rattle.std.proofs.lemmas.Nat.{row_fits}
use Rattle.bihash_words.specs.Sizes.{Sizes}
use Rattle.bihash_rule.specs.Words.{place_words}
use Rattle.bihash_rule.specs.Blocks.{key_in, value_in}
use Rattle.bihash_table.specs.inner.Stores.{IsBeside, IsPlaceSet}
use Rattle.bihash_table.proofs.PlaceReads.{word_of_key}

beside_place : (z : Sizes) (i k j : ℕ) → k ≢ i → j < place_words z → IsBeside z i (k * place_words z + j)
beside_place z i k j differ inside =
    let w : ℕ = place_words z in
    elim (cases_order k i) [
      | inl same ↦ absurd (differ same)
      | inr (inl below) ↦ inl (omega (arith, row_fits k w i w below (omega arith)))
      | inr (inr above) ↦ inr (omega (arith, row_fits i w k w above (omega arith)))
    ]

key_length : (z : Sizes) (block : List ℕ) (k : ℕ)
    → length (key_in z block k) ≡ min z.key_words (length block - k * place_words z)
key_length z block k = length-take z.key_words (drop (k * place_words z) block)
    ∙ ap (min z.key_words) (length-drop (k * place_words z) block)

module _ (z : Sizes) (block now : List ℕ) (i : ℕ) (placed : IsPlaceSet z block now i) (k : ℕ)
    (differ : k ≢ i) where
  pub value_beside : value_in z now k ≡ value_in z block k
  value_beside = placed.others _ (beside_place z i k z.key_words differ (omega arith))

  pub key_beside : key_in z now k ≡ key_in z block k
  key_beside =
      let size : length (key_in z now k) ≡ length (key_in z block k) = key_length z now k
      ∙ (ap (λ (n : ℕ). min z.key_words (n - k * place_words z)) placed.size ∙ sym (key_length z block k)) in
      ext_get_or 0 (key_in z now k) (key_in z block k) size
      (λ j below. let at : ℕ = k * place_words z in
      let within : j < z.key_words = omega (arith, key_length z now k) in
      word_of_key z now (key_in z block k) k j within
      ∙ (placed.others _ (beside_place z i k j differ (omega arith)) ∙ sym (word_of_key z block (key_in z block k) k j within)))

-- a word of place i is set
pub set_in_place : (z : Sizes) (block now : List ℕ) (i j word : ℕ) → IsPlaceSet z block now i
    → j < place_words z → IsPlaceSet z block (set now (i * place_words z + j) word) i
set_in_place z block now i j word placed inside =
    let at : ℕ = i * place_words z in
    record {
      size = length-set now (at + j) word ∙ placed.size;
      others = λ n beside.
          let differ : n ≢ at + j = λ e. elim beside [ inl below ↦ omega arith | inr above ↦ omega arith ] in
          get_or-set_other now (at + j) n word 0 differ ∙ placed.others n beside;
    }
