-- The words of a row are few enough to be counted.
use Rattle.std.proofs.Common.{◌≡◌, ℕ, zero, suc, ◌+◌, ◌*◌, ◌%◌, ◌^◌, ◌<◌, ◌≤◌, ap, ◌∙◌, arith, mul-le-mul_left}
use native.Mathlib.Nat.{pow-le-pow_right}
use Rattle.std.proofs.Math.Nat.{div-le_self}
use Rattle.bihash_words.specs.Sizes.{Sizes, IsSound}
use Rattle.bihash_rule.specs.Words.{buckets, page_words, list_words, lists_words, list_at, front_words, all_words}
use Rattle.bihash_steps.proofs.CountWord.{front}
use Rattle.bihash_steps.proofs.Frames.{list_inside}

pub few_listed : (z : Sizes) (n : ℕ) → IsSound z → lists_words z n ≤ n * 16777216
few_listed z zero sound = omega arith
few_listed z (suc n) sound = let l = few_listed z n sound in let d : list_words z n ≤ z.pages = div-le_self z.pages (2 ^ n) in
    let p = sound.few_pages in let x : ℕ = list_words z n in let y : ℕ = lists_words z n in omega arith

few_buckets : (z : Sizes) → IsSound z → buckets z ≤ 16777216
few_buckets z sound = let a = sound.few_buckets in let l : z.log2_buckets ≤ 24 = omega arith in pow-le-pow_right {n = 2} (omega arith) l

few_page_words : (z : Sizes) → IsSound z → z.pages * page_words z ≤ 603979776
few_page_words z sound = let p = sound.few_pages in let w = sound.few_words in let l : page_words z ≤ 36 = omega arith in
    let m : z.pages * page_words z ≤ z.pages * 36 = mul-le-mul_left z.pages l in omega arith

-- the words before the bucket words, by the sizes as they are computed with
pub front_is : (z : Sizes) (log2 top listed : ℕ) → IsSound z → log2 ≡ z.max_log2 → top ≡ z.max_log2 → listed ≡ lists_words z (top + 1)
    → (4 + log2 + listed ≡ front_words z) × (4 + log2 + listed < 1073741824)
unfolding front_words
front_is z log2 top listed sound el et ef =
    let all : top + 1 ≡ suc z.max_log2 = omega arith in
    let same : listed ≡ lists_words z (suc z.max_log2) = ef ∙ ap (lists_words z) all in
    let u : ℕ = lists_words z (suc z.max_log2) in
    let f : u ≤ suc z.max_log2 * 16777216 = few_listed z (suc z.max_log2) sound in
    let a = sound.few_buckets in (omega arith, omega arith)

-- the words before the page words
pub pages_are : (z : Sizes) (front buckets : ℕ) → IsSound z → front ≡ front_words z → front < 1073741824 → buckets ≡ z.log2_buckets
    → (front + 1 * 2 ^ buckets % 18446744073709551616 ≡ front_words z + 2 ^ z.log2_buckets)
    × (front + 1 * 2 ^ buckets % 18446744073709551616 < 2147483648)
pages_are z front buckets sound ef few eb =
    let p : 2 ^ buckets ≡ 2 ^ z.log2_buckets = ap (λ (k : ℕ). 2 ^ k) eb in
    let b = few_buckets z sound in
    let w : ℕ = 2 ^ buckets in let v : ℕ = 2 ^ z.log2_buckets in
    let e : w ≡ v = p in let c : v ≤ 16777216 = b in (omega arith, omega arith)

-- all words of a row
pub row_is : (z : Sizes) (front buckets pages words : ℕ) → IsSound z → front ≡ front_words z → front < 1073741824
    → buckets ≡ z.log2_buckets → pages ≡ z.pages → words ≡ z.key_words
    → (front + 1 * 2 ^ buckets % 18446744073709551616 + pages * (4 * (words + 1)) ≡ all_words z)
    × (front + 1 * 2 ^ buckets % 18446744073709551616 + pages * (4 * (words + 1)) < 2 ^ 32)
row_is z front buckets pages words sound ef few eb ep ew =
    let p : 2 ^ buckets ≡ 2 ^ z.log2_buckets = ap (λ (k : ℕ). 2 ^ k) eb in
    let b = few_buckets z sound in
    let q : pages * (4 * (words + 1)) ≡ z.pages * page_words z = λ i. ep i * (4 * (ew i + 1)) in
    let x : ℕ = pages * (4 * (words + 1)) in let y : ℕ = z.pages * page_words z in let same : x ≡ y = q in
    let small : y ≤ 603979776 = few_page_words z sound in
    let w : ℕ = 2 ^ buckets in let v : ℕ = 2 ^ z.log2_buckets in
    let e : w ≡ v = p in let c : v ≤ 16777216 = b in (omega arith, omega arith)

-- the places of two lists that a block fills
pub places_are : (n log2 places : ℕ) → log2 ≤ 24 → n ≡ log2 → places ≡ 4 * 2 ^ n % 18446744073709551616 → places ≡ 4 * 2 ^ log2
places_are n log2 places few e p =
    let same : 2 ^ n ≡ 2 ^ log2 = ap (λ (k : ℕ). 2 ^ k) e in
    let small : 2 ^ log2 ≤ 16777216 = pow-le-pow_right {n = 2} (omega arith) few in
    let x : ℕ = 2 ^ n in let y : ℕ = 2 ^ log2 in let xy : x ≡ y = same in let s : y ≤ 16777216 = small in omega arith

pub few_words : (z : Sizes) → IsSound z → all_words z < 2 ^ 32
unfolding front_words
few_words z sound =
    let u : ℕ = lists_words z (suc z.max_log2) in
    let f : u ≤ suc z.max_log2 * 16777216 = few_listed z (suc z.max_log2) sound in
    let a = sound.few_buckets in
    let b = few_buckets z sound in
    let y : ℕ = z.pages * page_words z in let small : y ≤ 603979776 = few_page_words z sound in omega arith

-- a place in a list, by the sizes as they are computed with
pub list_is : (z : Sizes) (log2 most listed i : ℕ) → most ≡ z.max_log2 → listed ≡ lists_words z log2 → log2 ≤ z.max_log2 → i < list_words z log2
    → (4 + most + listed + i ≡ list_at z log2 + i) × (4 + most + listed + i < all_words z)
unfolding list_at
list_is z log2 most listed i em el small inside =
    let l = (list_inside z log2 i small inside).1 in
    let y : ℕ = z.pages * page_words z in (omega arith, omega arith)

-- the allocation lock and the used mark stand before all lists
pub some_front : (z : Sizes) → (1 < all_words z) × (2 < all_words z)
some_front z = let f = front z in let pages : ℕ = z.pages * page_words z in (omega arith, omega arith)
