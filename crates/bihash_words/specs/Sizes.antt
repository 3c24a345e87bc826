-- The sizes of a table and the hash of its keys, as one value that definitions take.
use Rattle.std.specs.Prelude.{ℕ, ◌+◌, ◌/◌, ◌^◌, ◌%◌, ◌<◌, ◌≤◌, List}
use Rattle.bihash_words.specs.declared.shape.Shape.{Ghosts}

pub record Sizes : Type 0 where
  pub key_words : ℕ
  pub log2_buckets : ℕ
  pub pages : ℕ
  pub max_log2 : ℕ
  pub limit : ℕ
  pub callers : ℕ
  pub hash : List ℕ → ℕ

-- the sizes of a shape
abbrev pub sizes_of : {S K : Type 0} → Ghosts S K → Sizes
sizes_of s = record {
  key_words = s.WORDS;
  log2_buckets = s.LOG2_BUCKETS;
  pages = s.PAGES;
  max_log2 = s.MAX_LOG2;
  limit = s.LIMIT;
  callers = s.CALLERS;
  hash = s.hash_of_words;
}

-- the bucket of a key: the lowest bits of its hash
abbrev pub bucket_of : Sizes → List ℕ → ℕ
bucket_of z key = z.hash key % 2 ^ z.log2_buckets

-- the page that a hash names in a block of 2 ^ log2 pages: the bits after those that name the bucket
abbrev pub page_in : ℕ → ℕ → ℕ → ℕ
page_in log2_buckets log2 hash = hash / 2 ^ log2_buckets % 2 ^ log2

-- the sizes that a table may have
pub record IsSound (z : Sizes) : Type 0 where
  pub some_word : 1 ≤ z.key_words
  pub few_words : z.key_words ≤ 8
  pub few_buckets : z.log2_buckets + z.max_log2 ≤ 24
  pub some_page : 1 ≤ z.pages
  pub few_pages : z.pages < 2 ^ 24
  pub some_write : 1 ≤ z.limit
  pub few_writes : z.limit < 2 ^ 33
  pub some_callers : 16 ≤ z.callers
  pub few_callers : z.callers ≤ 65535
