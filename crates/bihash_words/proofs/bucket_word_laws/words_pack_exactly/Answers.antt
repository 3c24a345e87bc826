-- The fields that are at their places in a word.
use Rattle.std.proofs.Common.{◌≡◌, ◌+◌, ◌*◌, ◌/◌, ◌%◌, ◌^◌, ◌<◌, ◌∙◌, ℕ, ap, ap₂, arith, sym, inl, inr}
use Rattle.std.specs.Prelude.{◌==◌}
use Rattle.std.proofs.lemmas.Bool.Decides.{eqb_tells}
use Rattle.bihash_words.specs.Words.{Bucket, bit}
use Rattle.bihash_words.proofs.bucket_word_laws.words_pack_exactly.Goals as goal

bucket_of_word : ℕ → Bucket
bucket_of_word word = record {
  page = word % 2 ^ 24;
  log2 = word / 2 ^ 24 % 2 ^ 5;
  linear = word / 2 ^ 29 % 2 == 1;
  locked = word / 2 ^ 30 % 2 == 1;
  version = word / 2 ^ 31;
}

bit_of_test : (n : ℕ) → n < 2 → bit (n == 1) ≡ n
bit_of_test n small =
    elim (eqb_tells n 1) [
      | inl (test, one) ↦ ap bit test ∙ sym one
      | inr (test, other) ↦ ap bit test ∙ omega (arith, small, other)
    ]

marks : (word : ℕ)
    → bit (word / 2 ^ 29 % 2 == 1) * 2 ^ 29 + bit (word / 2 ^ 30 % 2 == 1) * 2 ^ 30 ≡ word / 2 ^ 29 % 4 * 2 ^ 29
marks word =
    ap₂ (λ linear locked. linear * 2 ^ 29 + locked * 2 ^ 30)
    (bit_of_test (word / 2 ^ 29 % 2) (omega arith)) (bit_of_test (word / 2 ^ 30 % 2) (omega arith))
    ∙ omega arith

pub returns-clause-each : goal.returns-clause-each
unfolding bucket_of_word
returns-clause-each c = λ word fits. (
  bucket_of_word word,
  record { page = omega arith; log2 = omega arith; version = omega (arith, fits) },
  omega (arith, marks word),
)
