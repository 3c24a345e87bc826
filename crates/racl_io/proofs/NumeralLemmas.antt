-- The digits of a number.
use Rattle.std.proofs.Common.{◌≡◌, ◌∙◌, ◌<◌, ◌≤◌, ◌^◌, ◌+◌, ◌*◌, ◌%◌, ◌/◌, ◌++◌, ℕ, List, [], ◌∷◌, length, drop, arith, length-append, refl, sym, ap}
use Rattle.std.proofs.lemmas.List.{drop-drop, drop_at}
use Rattle.std.specs.Fmt.{decimal}
use Rattle.std.proofs.lemmas.Fmt.{decimal_digit, decimal_step, length-decimal-le}

-- the digits of a number in a buffer, from an index to 24
pub record AreDigits (n start : ℕ) (buffer : List ℕ) : Type 0 where
  pub ended : start + length (decimal n) ≡ 24
  pub told : drop start buffer ≡ decimal n ++ drop 24 buffer

-- whatever follows them
pub digits_of_tail : (n start : ℕ) (buffer tail : List ℕ) → start + length (decimal n) ≡ 24 → drop start buffer ≡ decimal n ++ tail → AreDigits n start buffer
digits_of_tail n start buffer tail ended told =
    let same : drop 24 buffer ≡ tail = ap (λ k. drop k buffer) (sym ended) ∙ sym (drop-drop (length (decimal n)) start buffer) ∙ ap (drop (length (decimal n))) told ∙ drop_at (decimal n) tail _ refl in
    record { ended = ended; told = told ∙ ap (λ t. decimal n ++ t) (sym same) }

-- the last digit after those of the tens
pub tens_and_last : (tens last : ℕ) → 0 < tens → last < 10 → tens * 10 + last < 2 ^ 64 → decimal (tens * 10 + last) ≡ decimal tens ++ (48 + last) ∷ []
tens_and_last tens last some digit fits =
    let front : (tens * 10 + last) / 10 ≡ tens = omega arith in
    let end : (tens * 10 + last) % 10 ≡ last = omega arith in
    let step = decimal_step (tens * 10 + last) (omega arith) fits in
    step ∙ ap (λ n. decimal n ++ (48 + (tens * 10 + last) % 10) ∷ []) front ∙ ap (λ d. decimal tens ++ (48 + d) ∷ []) end

pub length_digit : (n : ℕ) → n < 10 → length (decimal n) ≡ 1
length_digit n digit = ap length (decimal_digit n digit)

pub length_step : (n : ℕ) → 10 ≤ n → n < 2 ^ 64 → length (decimal n) ≡ length (decimal (n / 10)) + 1
length_step n large fits = ap length (decimal_step n large fits) ∙ length-append (decimal (n / 10)) ((48 + n % 10) ∷ [])

pub few_digits : (n : ℕ) → n < 2 ^ 64 → length (decimal n) ≤ 20
few_digits n fits = length-decimal-le 20 n (omega arith) (omega arith) fits

pub one_digit : (n : ℕ) → n < 10 → decimal n ≡ (48 + n % 10) ∷ []
one_digit n digit = let same : n ≡ n % 10 = omega (arith, digit) in decimal_digit n digit ∙ ap (λ d. (48 + d) ∷ []) same

pub two_digits : (n : ℕ) → 10 ≤ n → n / 10 < 10 → n < 2 ^ 64 → decimal n ≡ (48 + n / 10 % 10) ∷ (48 + n % 10) ∷ []
two_digits n large tens fits = decimal_step n large fits ∙ ap (λ front. front ++ (48 + n % 10) ∷ []) (one_digit (n / 10) tens)

pub three_digits : (n : ℕ) → 10 ≤ n → 10 ≤ n / 10 → n < 256 → decimal n ≡ (48 + n / 10 / 10) ∷ (48 + n / 10 % 10) ∷ (48 + n % 10) ∷ []
three_digits n large tens fits =
    decimal_step n large (omega (arith, fits))
    ∙ ap (λ front. front ++ (48 + n % 10) ∷ []) (decimal_step (n / 10) tens (omega (arith, fits))
    ∙ ap (λ front. front ++ (48 + n / 10 % 10) ∷ []) (decimal_digit (n / 10 / 10) (omega (arith, fits))))
