-- Where the words of a table stand (this project's layout): the caller count, the allocation lock, the
-- used mark, for each log2 a count of returned blocks, for each log2 a list of them, the bucket words,
-- the page words.
use Rattle.std.specs.Prelude.{◌≡◌, ℕ, ◌+◌, ◌-◌, ◌*◌, ◌/◌, ◌%◌, ◌^◌, ◌<◌, ◌≤◌, List, length, slice_index, zero, suc}
use Rattle.bihash_words.specs.Sizes.{Sizes}

abbrev pub count_of : List ℕ → ℕ
count_of words = slice_index words 0

abbrev pub allocation_lock_of : List ℕ → ℕ
allocation_lock_of words = slice_index words 1

abbrev pub used_mark_of : List ℕ → ℕ
used_mark_of words = slice_index words 2

-- the word that counts the returned blocks of this log2
abbrev pub returned_count_at : ℕ → ℕ
returned_count_at log2 = 3 + log2

-- a list has a word for each block of its size that the pages could make
abbrev pub list_words : Sizes → ℕ → ℕ
list_words z log2 = z.pages / 2 ^ log2

-- the words of the lists of all log2 below n
abbrev pub lists_words : Sizes → ℕ → ℕ
lists_words z zero = 0
lists_words z (suc n) = lists_words z n + list_words z n

-- the first word of the list of this log2
unfoldable pub list_at : Sizes → ℕ → ℕ
list_at z log2 = (4 + z.max_log2) + lists_words z log2

-- how many words stand before the bucket words
unfoldable pub front_words : Sizes → ℕ
front_words z = (4 + z.max_log2) + lists_words z (suc z.max_log2)

abbrev pub buckets : Sizes → ℕ
buckets z = 2 ^ z.log2_buckets

-- Where the word of a bucket stands among the bucket words: those of buckets whose numbers are the same modulo 16 stand
-- together. So 2, 4, 8 or 16 workers, to whom packets are dealt by bucket, hardly share a cache line there.
unfoldable pub bucket_place : Sizes → ℕ → ℕ
bucket_place z b = b % 16 * 2 ^ (z.log2_buckets - 4) + b / 16

abbrev pub bucket_at : Sizes → ℕ → ℕ
bucket_at z b = front_words z + bucket_place z b

-- a place has a key and a value, and a page four places
abbrev pub place_words : Sizes → ℕ
place_words z = z.key_words + 1

abbrev pub page_words : Sizes → ℕ
page_words z = 4 * place_words z

-- the first word of a page; the first page has the number 1
abbrev pub page_at : Sizes → ℕ → ℕ
page_at z page = front_words z + buckets z + (page - 1) * page_words z

-- the words of the block of this log2 at a page, where page 0 stands for no block
abbrev pub block_words : Sizes → ℕ → ℕ → ℕ
block_words z zero log2 = 0
block_words z (suc page) log2 = 2 ^ log2 * page_words z

abbrev pub all_words : Sizes → ℕ
all_words z = front_words z + buckets z + z.pages * page_words z

-- the words of a table that no caller has used
pub record IsFresh (z : Sizes) (words : List ℕ) : Type 0 where
  pub wide : length words ≡ all_words z
  pub one : count_of words ≡ 1
  pub empty : (i : ℕ) → 1 ≤ i → i < all_words z → slice_index words i ≡ 0

-- from `at` on the words are xs
abbrev pub Stands : List ℕ → ℕ → List ℕ → Type 0
Stands words at xs = (k : ℕ) → k < length xs → slice_index words (at + k) ≡ slice_index xs k
