-- The places of a block that are open to a key, and what a search of them leaves out.
use Rattle.std.proofs.Common.{◌≡◌, ◌≢◌, ℕ, zero, suc, ◌+◌, ◌*◌, ◌/◌, ◌%◌, ◌^◌, ◌<◌, ◌≤◌, true, false, true≢false, List, pow_mono, refl, sym, ap, ◌∙◌, subst, arith}
use Rattle.bihash_words.specs.Pages.{page_of, word_paging}
use Rattle.bihash_words.specs.Sizes.{Sizes, IsSound}
use Rattle.bihash_words.proofs.BlockLemmas.{in_page, open_of_page}
use Rattle.bihash_plan.proofs.PageLemmas.{page_of-lt}
use Rattle.bihash_rule.specs.Blocks.{places}
use Rattle.bihash_rule.specs.declared.view.Extent.{Extent}
use Rattle.bihash_rule.specs.declared.view.LockedBucket.{LockedBucket}
use Rattle.bihash_rule.specs.declared.view.View.{View}
use Rattle.bihash_table.specs.inner.Locked.{HasLock}
use Rattle.bihash_table.specs.inner.Scans.{IsWordOf, AreOpenTo}

-- a block that is there has four places a page
pub some_places : (page log2 : ℕ) → page ≢ 0 → places page log2 ≡ 4 * 2 ^ log2
some_places zero log2 some = absurd (some refl)
some_places (suc page) log2 some = refl

-- a block has few pages
pub few_pages : (z : Sizes) (log2 : ℕ) → IsSound z → log2 ≤ z.max_log2 → 2 ^ log2 ≤ 2 ^ 24
few_pages z log2 sound small = let few = sound.few_buckets in let low : log2 ≤ 24 = omega arith in pow_mono low

module _ (z : Sizes) (e : Extent) (key : List ℕ) where
  pub none_open : e.page ≡ 0 → AreOpenTo z e key 0 0
  none_open is = let none_there : places e.page e.size.log2 ≡ 0 = ap (λ (page : ℕ). places page e.size.log2) is in record {
    within = omega arith;
    exact = λ i l. absurd (omega arith);
  }

  pub all_open : (count : ℕ) → e.page ≢ 0 → e.size.linear ≡ true → count ≡ 2 ^ e.size.log2 → AreOpenTo z e key 0 (4 * count)
  all_open count some linear is = let n = some_places e.page e.size.log2 some in record {
    within = omega arith;
    exact = λ i l. (λ _. open_of_page e.size.linear _ i (λ plain. absurd (true≢false (sym linear ∙ plain))), λ _. (omega arith, omega arith));
  }

  pub page_open : (page : ℕ) → e.page ≢ 0 → e.size.linear ≡ false → page ≡ page_of (word_paging z) e.size.log2 key → AreOpenTo z e key (4 * page) (4 * page + 4)
  page_open page some linear is =
      let n = some_places e.page e.size.log2 some in
      let low : page < 2 ^ e.size.log2 = rw is (page_of-lt (word_paging z) e.size.log2 key) in record {
        within = omega arith;
        exact = λ i l. (λ among. open_of_page e.size.linear _ i (λ _. omega arith), λ reached. let at = in_page e.size.linear _ i linear reached in (omega arith, omega arith));
      }

  -- the same, where the page after it is named
  pub one_page_open : (page log2 : ℕ) → e.page ≢ 0 → e.size.linear ≡ false → log2 ≡ e.size.log2
      → page ≡ z.hash key / 2 ^ z.log2_buckets % 2 ^ log2 → AreOpenTo z e key (4 * page) (4 * (page + 1))
  one_page_open page log2 some linear same is = let up : 4 * page + 4 ≡ 4 * (page + 1) = omega arith in
      subst (AreOpenTo z e key (4 * page)) up
      (page_open page some linear (is ∙ ap (λ (n : ℕ). z.hash key / 2 ^ z.log2_buckets % 2 ^ n) same))

-- the word of a locked bucket tells its block
pub word_tells : (z : Sizes) (v : View) (b word : ℕ) (l : LockedBucket) → HasLock z v b word l → IsWordOf z word l.extent
word_tells z v b word l h = record { version = l.version; fits = h.fits; stood = h.stood; small = h.pairs.rule.small }
