-- Each bucket's word has a place of its own among the bucket words.
use Rattle.std.proofs.Common.{◌≡◌, ◌∙◌, ℕ, suc, ◌+◌, ◌-◌, ◌*◌, ◌/◌, ◌%◌, ◌^◌, ◌<◌, ◌≤◌, ap, sym, subst, arith, mul-le-mul_right, suc-mul, pow-add, pow_mono}
use Rattle.std.proofs.lemmas.Nat.{mod-mul-add}
use mathlib.Core.Logic.{dite}
use native.Mathlib.Decide.{dec_lt}
use Rattle.bihash_words.specs.Sizes.{Sizes, IsSound}
use Rattle.bihash_rule.specs.Words.{buckets, bucket_place}

-- rows of q words: a place in an earlier row stands before one in a later row
earlier_row : (q r r' d d' : ℕ) → d < q → r < r' → r * q + d < r' * q + d'
earlier_row q r r' d d' inside less =
    let m : suc r * q ≤ r' * q = mul-le-mul_right q less in
    let x : ℕ = r * q in let y : ℕ = r' * q in
    let m' : x + q ≤ y = subst (λ (t : ℕ). t ≤ y) (suc-mul r q) m in omega arith

-- the bucket words stand in rows, one for each remainder modulo 16: how many words a row has
abbrev row_words : Sizes → ℕ
row_words z = 2 ^ (z.log2_buckets - 4)

-- sixteen rows are all of them
sixteen_rows : (z : Sizes) → 4 ≤ z.log2_buckets → buckets z ≡ 16 * row_words z
sixteen_rows z many = let e : 2 ^ (4 + (z.log2_buckets - 4)) ≡ 2 ^ 4 * 2 ^ (z.log2_buckets - 4) = pow-add 2 4 (z.log2_buckets - 4) in
    let k : 4 + (z.log2_buckets - 4) ≡ z.log2_buckets = omega arith in
    subst (λ (n : ℕ). 2 ^ n ≡ 16 * row_words z) k e

-- a bucket's place in its row, and among all bucket words
in_row : (z : Sizes) (b : ℕ) → b < buckets z → (b / 16 < row_words z) × (b % 16 * row_words z + b / 16 < buckets z)
in_row z b l = dite (dec_lt z.log2_buckets 4)
    (λ few. let one : row_words z ≡ 1 = ap (λ (n : ℕ). 2 ^ n) (let none : z.log2_buckets - 4 ≡ 0 = omega arith in none) in
    let p : 2 ^ z.log2_buckets ≤ 2 ^ 3 = pow_mono {j = 3} (omega arith) in
    let n : ℕ = 2 ^ z.log2_buckets in let small : n ≤ 8 = p in
    let r : b % 16 * row_words z ≡ b % 16 * 1 = ap (λ (q : ℕ). b % 16 * q) one in
    let x : ℕ = b % 16 * row_words z in let q : ℕ = row_words z in let q' : q ≡ 1 = one in let x' : x ≡ b % 16 = omega (arith, r) in
    (omega arith, omega arith))
    (λ not. let e : buckets z ≡ 16 * row_words z = sixteen_rows z (omega arith) in
    let m : b % 16 * row_words z ≤ 15 * row_words z = mul-le-mul_right (row_words z) (let h : b % 16 ≤ 15 = omega arith in h) in
    let q : ℕ = row_words z in let x : ℕ = b % 16 * q in let m' : x ≤ 15 * q = m in
    let n : ℕ = 2 ^ z.log2_buckets in let e' : n ≡ 16 * q = e in
    (omega arith, omega arith))

pub place_inside : (z : Sizes) (b : ℕ) → b < buckets z → bucket_place z b < buckets z
unfolding bucket_place
place_inside z b l = (in_row z b l).1

pub one_place : (z : Sizes) (b c : ℕ) → b < buckets z → c < buckets z → bucket_place z b ≡ bucket_place z c → b ≡ c
unfolding bucket_place
one_place z b c l l' e =
    let q : ℕ = row_words z in let x : ℕ = b % 16 * q in let y : ℕ = c % 16 * q in
    let row : b % 16 ≡ c % 16 = dite (dec_lt (b % 16) (c % 16))
    (λ less. absurd (let h : x + b / 16 < y + c / 16 = earlier_row q (b % 16) (c % 16) (b / 16) (c / 16) (in_row z b l).0 less in
    let e' : x + b / 16 ≡ y + c / 16 = e in omega arith))
    (λ not. dite (dec_lt (c % 16) (b % 16))
    (λ less. absurd (let h : y + c / 16 < x + b / 16 = earlier_row q (c % 16) (b % 16) (c / 16) (b / 16) (in_row z c l').0 less in
    let e' : x + b / 16 ≡ y + c / 16 = e in omega arith))
    (λ neither. omega arith)) in
    let same : x ≡ y = ap (λ (r : ℕ). r * q) row in
    let e' : x + b / 16 ≡ y + c / 16 = e in omega arith

-- ---- A place as it is computed

-- how many buckets there are, as it is computed
buckets_are : (z : Sizes) (log2 : ℕ) → IsSound z → log2 ≡ z.log2_buckets → 1 * 2 ^ log2 % 18446744073709551616 ≡ buckets z
buckets_are z log2 sound el =
    let a = sound.few_buckets in
    let same : 2 ^ log2 ≡ 2 ^ z.log2_buckets = ap (λ (n : ℕ). 2 ^ n) el in
    let small : 2 ^ z.log2_buckets ≤ 2 ^ 24 = pow_mono {j = 24} (let k : z.log2_buckets ≤ 24 = omega arith in k) in
    let n : ℕ = 2 ^ log2 in let m : ℕ = 2 ^ z.log2_buckets in let same' : n ≡ m = same in let small' : m ≤ 16777216 = small in omega arith

-- fewer than sixteen buckets stand in their order
pub place_of_few : (z : Sizes) (b log2 : ℕ) → log2 ≡ z.log2_buckets → log2 < 4 → b < buckets z → b ≡ bucket_place z b
unfolding bucket_place
place_of_few z b log2 el few l =
    let one : row_words z ≡ 1 = ap (λ (n : ℕ). 2 ^ n) (let none : z.log2_buckets - 4 ≡ 0 = omega arith in none) in
    let p : 2 ^ z.log2_buckets ≤ 2 ^ 3 = pow_mono {j = 3} (omega arith) in
    let n : ℕ = 2 ^ z.log2_buckets in let small : n ≤ 8 = p in
    let r : b % 16 * row_words z ≡ b % 16 * 1 = ap (λ (q : ℕ). b % 16 * q) one in
    let x : ℕ = b % 16 * row_words z in let x' : x ≡ b % 16 = omega (arith, r) in omega arith

in_rows : (r d q : ℕ) → (16 * d + r) * (16 * q + 1) ≡ 16 * (d * (16 * q) + r * q) + (16 * d + r)
in_rows r d q = grind arith

place_of_rows : (n q b : ℕ) → n ≡ 16 * q → b % 16 * q + b / 16 < n → b * (n + 1) / 16 % n ≡ b % 16 * q + b / 16
place_of_rows n q b e inside =
    let r : ℕ = b % 16 in let d : ℕ = b / 16 in
    let parts : b ≡ 16 * d + r = omega arith in
    let whole : b * (n + 1) ≡ 16 * (d * n + r * q) + b =
    (λ i. parts i * (e i + 1)) ∙ in_rows r d q ∙ (λ i. 16 * (d * sym e i + r * q) + sym parts i) in
    let x : ℕ = d * n in let y : ℕ = r * q in let w : ℕ = b * (n + 1) in let whole' : w ≡ 16 * (x + y) + b = whole in
    let half : w / 16 ≡ x + (y + d) = omega arith in
    ap (λ (k : ℕ). k % n) half ∙ mod-mul-add d n (y + d) inside

pub place_of_many : (z : Sizes) (b log2 : ℕ) → IsSound z → log2 ≡ z.log2_buckets → 4 ≤ log2 → b < buckets z
    → b * (1 * 2 ^ log2 % 18446744073709551616 + 1) / 16 % (1 * 2 ^ log2 % 18446744073709551616) ≡ bucket_place z b
unfolding bucket_place
place_of_many z b log2 sound el many l =
    ap (λ (n : ℕ). b * (n + 1) / 16 % n) (buckets_are z log2 sound el)
    ∙ place_of_rows (buckets z) (row_words z) b (sixteen_rows z (omega arith)) (in_row z b l).1

-- a loop over all buckets is at one of them
pub bucket_below : (z : Sizes) (b log2 : ℕ) → IsSound z → log2 ≡ z.log2_buckets → b < 1 * 2 ^ log2 % 2 ^ 64 → b < buckets z
bucket_below z b log2 sound is below = subst (λ (n : ℕ). b < n) (buckets_are z log2 sound is) below
