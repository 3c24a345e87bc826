-- Which kind of table C asks for: by the struct's own size, the words of a key, and the size of the table. A program may know more of
-- the struct than this, and the rest of its bytes are 0 then.
use Rattle.std.specs.Prelude.{◌≡◌, ◌≢◌, ◌+◌, ◌⊎◌, ℕ, List, length, EachIndex, slice_index, Option, None, Some}
use Rattle.bihash_words.specs.Sizes.{bucket_of}
use Rattle.bihash_c.specs.Kinds.{sizes_in, words_in}
use Rattle.bihash_c.specs.declared.pair.Key.{Key}
use Rattle.bihash_c.specs.declared.options.Options.{Options}
use Rattle.bihash_c.specs.declared.options.Kind.{Kind}
use Rattle.bihash_c.specs.declared.options.Kind.TheVariants.{Two, LargeTwo, Five, LargeFive}

abbrev pub words_number : Kind → ℕ
words_number Two = 2
words_number LargeTwo = 2
words_number Five = 5
words_number LargeFive = 5

abbrev pub tables_number : Kind → ℕ
tables_number Two = 0
tables_number LargeTwo = 1
tables_number Five = 0
tables_number LargeFive = 1

-- the bytes behind those that are known ask for nothing
abbrev pub AskNothing : List ℕ → Type 0
AskNothing rest = EachIndex rest (λ k. slice_index rest k ≡ 0)

-- this kind is meant
pub record IsKind (o : Options) (rest : List ℕ) (kind : Kind) : Type 0 where
  pub size : o.size ≡ 12 + length rest
  pub more : AskNothing rest
  pub words : o.words ≡ words_number kind
  pub tables : o.tables ≡ tables_number kind

-- it is said, or something isn't right
abbrev pub KindTold : Options → (rest : List ℕ) → Option Kind → Type 0
KindTold o rest (Some kind) = IsKind o rest kind
KindTold o rest None = (o.size ≢ 12 + length rest) ⊎ ((AskNothing rest → ⊥)
    ⊎ (((o.words ≢ 2) × (o.words ≢ 5)) ⊎ ((o.tables ≢ 0) × (o.tables ≢ 1))))

-- the number that no bucket has
abbrev pub no_bucket : ℕ
no_bucket = 18446744073709551615

-- the bucket of a key in a table of this kind, or of none
abbrev pub bucket_in : Option Kind → Key → ℕ
bucket_in (Some kind) key = bucket_of (sizes_in kind) (words_in kind key)
bucket_in None key = no_bucket

pub record BucketTold (o : Options) (rest : List ℕ) (key : Key) (bucket : ℕ) : Type 0 where
  pub kind : Option Kind
  pub asked : KindTold o rest kind
  pub told : bucket ≡ bucket_in kind key
