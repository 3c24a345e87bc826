-- Lemmas on the page that a key's hash names.
use Rattle.std.proofs.Common.{◌≡◌, ◌≤◌, ◌<◌, ◌+◌, ◌-◌, ◌^◌, ◌/◌, ◌%◌, ℕ, arith, rules, ap, ◌∙◌}
use Rattle.std.proofs.Math.Pow.{mod-mod-pow}
use Rattle.bihash_words.specs.Pages.{Paging, page_of}

pub page_of-lt : {K : Type 0} (paging : Paging K) (log2 : ℕ) (key : K) → page_of paging log2 key < 2 ^ log2
page_of-lt paging log2 key = search (rules, arith)

-- a page of a larger block takes its keys from one page of a smaller one
pub page_of-mod : {K : Type 0} (paging : Paging K) (log2 size : ℕ) (key : K)
    → log2 ≤ size → page_of paging size key % 2 ^ log2 ≡ page_of paging log2 key
page_of-mod paging log2 size key larger =
    let h : ℕ = paging.hash key / 2 ^ paging.log2_buckets in
    let split : size ≡ (size - log2) + log2 = omega arith in
    ap (λ n. h % 2 ^ n % 2 ^ log2) split ∙ mod-mod-pow h (size - log2) log2
