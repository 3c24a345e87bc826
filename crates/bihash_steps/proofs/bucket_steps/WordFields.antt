-- What the word of a bucket tells: it holds one bucket's fields.
use Rattle.std.proofs.Common.{◌≡◌, ℕ, ◌+◌, ◌*◌, ◌^◌, ◌<◌, ◌≤◌, Bool, true, false, true≢false, length, refl, sym, ap, ◌∙◌, subst, arith, pow_pos, Option, Some, None}
use Rattle.std.specs.Prelude.{slice_index, is_some}
use Rattle.atomic_table.specs.Table.{State}
use Rattle.bihash_words.specs.Sizes.{Sizes}
use Rattle.bihash_words.specs.Words.{Bucket, FitsWord, bit, packed}
use Rattle.bihash_rule.specs.Words.{buckets, bucket_at}
use Rattle.bihash_rule.specs.Buckets.{word_of}
use Rattle.bihash_rule.specs.Partition.{of_bucket}
use Rattle.bihash_rule.specs.PageStores.{runs_now}
use Rattle.bihash_rule.specs.WordRule.{WordRule}
use Rattle.bihash_rule.specs.declared.view.View.{View}
use Rattle.bihash_steps.proofs.OwnedWords.{extent_near_end}

few_bit : (mark : Bool) → bit mark ≤ 1
few_bit true = omega arith
few_bit false = omega arith

bit_once : (mark other : Bool) → bit mark ≡ bit other → mark ≡ other
bit_once true true e = refl
bit_once true false e = absurd (omega arith)
bit_once false true e = absurd (omega arith)
bit_once false false e = refl

pub packed_once : (x y : Bucket) → FitsWord x → FitsWord y → packed x ≡ packed y → x ≡ y
packed_once x y fits fits' same =
    let p = fits.page in let p' = fits'.page in
    let l = fits.log2 in let l' = fits'.log2 in
    let a : ℕ = bit x.linear in let a' : ℕ = bit y.linear in
    let few : a ≤ 1 = few_bit x.linear in let few' : a' ≤ 1 = few_bit y.linear in
    let c : ℕ = bit x.locked in let c' : ℕ = bit y.locked in
    let one : c ≤ 1 = few_bit x.locked in let one' : c' ≤ 1 = few_bit y.locked in
    let e : x.page + 2 ^ 24 * x.log2 + 2 ^ 29 * a + 2 ^ 30 * c + 2 ^ 31 * x.version
    ≡ y.page + 2 ^ 24 * y.log2 + 2 ^ 29 * a' + 2 ^ 30 * c' + 2 ^ 31 * y.version = same in
    let page : x.page ≡ y.page = omega arith in
    let log2 : x.log2 ≡ y.log2 = omega arith in
    let linear : a ≡ a' = omega arith in
    let locked : c ≡ c' = omega arith in
    let version : x.version ≡ y.version = omega arith in
    let linear' = bit_once x.linear y.linear linear in
    let locked' = bit_once x.locked y.locked locked in
    λ i. record { page = page i; log2 = log2 i; linear = linear' i; locked = locked' i; version = version i }

none_of : (lock : Option ℕ) → is_some lock ≡ false → lock ≡ None
none_of None e = refl
none_of (Some j) e = absurd (true≢false e)

module _ (z : Sizes) (s : State (Unit {0}) View) (r : WordRule z s) (b : ℕ) (inside : b < buckets z) where
  pub near_block : (r.table.bucket b).extent.page + 2 ^ (r.table.bucket b).extent.size.log2 ≤ z.pages + 1
  near_block = extent_near_end z r.table.store.store.used (runs_now r.table.bucket r.table.store.store s.views) r.parted (of_bucket b)
      (r.table.bucket b).extent refl (r.each_bucket b inside).pairs.absent

  pub bucket_fits : (locked : Bool) → FitsWord (word_of (r.table.bucket b).extent locked (length (r.table.bucket b).history))
  bucket_fits locked = let sound = r.sound in let ok = r.each_bucket b inside in record {
    page = let few = sound.few_pages in let near = near_block in let some_page = pow_pos (r.table.bucket b).extent.size.log2 in omega arith;
    log2 = let few = sound.few_buckets in let small = ok.pairs.rule.small in omega arith;
    version = let few = sound.few_writes in let short = ok.writes.short in omega arith;
  }

-- a bucket whose word has no lock bit has this extent and version, and nobody has its lock
pub unlocked_word : (z : Sizes) (s : State (Unit {0}) View) (r : WordRule z s) (b : ℕ) (x : Bucket) → b < buckets z → FitsWord x → x.locked ≡ false
    → slice_index s.words (bucket_at z b) ≡ packed x
    → ((r.table.bucket b).lock ≡ None) × (word_of (r.table.bucket b).extent false (length (r.table.bucket b).history) ≡ x)
unlocked_word z s r b x inside fits unset here =
    let y = r.table.bucket b in
    let is : word_of y.extent (is_some y.lock) (length y.history) ≡ x
    = packed_once _ x (bucket_fits z s r b inside (is_some y.lock)) fits (sym (r.each_bucket b inside).word ∙ here) in
    let free : is_some y.lock ≡ false = ap (λ (w : Bucket). w.locked) is ∙ unset in
    (none_of y.lock free, subst (λ (mark : Bool). word_of y.extent mark (length y.history) ≡ x) free is)
