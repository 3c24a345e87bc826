-- The word of a bucket (this project's profile).
use Rattle.std.specs.Prelude.{ℕ, ◌+◌, ◌*◌, ◌/◌, ◌^◌, ◌<◌, Bool, if◌then◌else◌}

-- what a bucket's word says
pub record Bucket : Type 0 where
  -- the number of the first page of the bucket's block, 0 for none
  pub page : ℕ
  -- the log2 of the block's pages
  pub log2 : ℕ
  -- any place of the block may hold any key
  pub linear : Bool
  -- a writer holds the bucket
  pub locked : Bool
  -- how often the bucket's map was changed
  pub version : ℕ

-- each field fits its bits
pub record FitsWord (b : Bucket) : Type 0 where
  pub page : b.page < 2 ^ 24
  pub log2 : b.log2 < 2 ^ 5
  pub version : b.version < 2 ^ 33

-- a mark as a bit
abbrev pub bit : Bool → ℕ
bit mark = if mark then 1 else 0

-- the fields at their places, from the lowest bit
abbrev pub packed : Bucket → ℕ
packed b = b.page + 2 ^ 24 * b.log2 + 2 ^ 29 * bit b.linear + 2 ^ 30 * bit b.locked + 2 ^ 31 * b.version

-- the highest 33 bits of a word
abbrev pub version_of : ℕ → ℕ
version_of word = word / 2 ^ 31
