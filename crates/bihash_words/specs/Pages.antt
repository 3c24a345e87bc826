-- Which page of a block a key's hash names. This is the table's own rule: the lowest bits of
-- the hash name the bucket, and the bits above them the page.
use Rattle.std.specs.Prelude.{ℕ, List}
use Rattle.bihash_words.specs.Sizes.{Sizes, page_in}
use Rattle.bihash_words.specs.declared.shape.Shape.{Ghosts}

-- what the pages of a bucket depend on: the hash of a key, how many of its bits name the
-- bucket, and the log2 of the most pages that a block has
pub record Paging (K : Type 0) : Type 0 where
  pub hash : K → ℕ
  pub log2_buckets : ℕ
  pub max_log2 : ℕ

-- the paging of a shape
abbrev pub paging_of : {A K : Type 0} → Ghosts A K → Paging K
paging_of s = record {
  hash = λ key. s.hash_of_words (s.words_of key);
  log2_buckets = s.LOG2_BUCKETS;
  max_log2 = s.MAX_LOG2;
}

-- the same for the words of its keys
abbrev pub word_paging : Sizes → Paging (List ℕ)
word_paging z = record { hash = z.hash; log2_buckets = z.log2_buckets; max_log2 = z.max_log2 }

-- the page that the hash of a key names, in a block of 2 ^ log2 pages
abbrev pub page_of : {K : Type 0} → Paging K → ℕ → K → ℕ
page_of paging log2 key = page_in paging.log2_buckets log2 (paging.hash key)
