-- The words of one place of a block, as a search reads them.
use lib.Seq.{ext_get_or}
use Rattle.std.proofs.Common.{◌≡◌, ℕ, zero, suc, ◌+◌, ◌*◌, ◌^◌, ◌<◌, ◌≤◌, List, length, slice_index, drop, get_or-take, get_or-drop, length-take-le, length-drop, mul-le-mul_right, suc-mul, mul_assoc, mul_comm, sym, ap, ◌∙◌, arith}
use Rattle.bihash_words.specs.Sizes.{Sizes}
use Rattle.bihash_rule.specs.Words.{place_words, block_words}
use Rattle.bihash_rule.specs.Blocks.{places, key_in}
use Rattle.bihash_steps.specs.BucketSteps.{IsLockedWord}
use Rattle.bihash_rule.specs.declared.view.Holdings.{Holdings}
use Rattle.bihash_rule.specs.declared.view.LockedBucket.{LockedBucket}
use Rattle.bihash_rule.specs.declared.view.View.{View}
use Rattle.bihash_table.specs.inner.Locked.{HasLock}

-- the first n words of the place are those of the key
abbrev pub SameTo : Sizes → List ℕ → ℕ → List ℕ → ℕ → Type 0
SameTo z block i key n = (j : ℕ) → j < n → slice_index block (i * place_words z + j) ≡ slice_index key j

module _ (z : Sizes) where
  -- a word of a place is a word of the block
  pub place_inside : (page log2 i k : ℕ) → i < places page log2 → k < place_words z → i * place_words z + k < block_words z page log2
  place_inside zero log2 i k l m = absurd (omega arith)
  place_inside (suc page) log2 i k l m =
      let p : ℕ = place_words z in
      let t : ℕ = 2 ^ log2 in
      let up : suc i * p ≤ (4 * t) * p = mul-le-mul_right p l in
      let one = suc-mul i p in
      let all : (4 * t) * p ≡ t * (4 * p) = ap (λ (n : ℕ). n * p) (mul_comm 4 t) ∙ mul_assoc t 4 p in
      let x : ℕ = i * p in
      let y : ℕ = (4 * t) * p in
      let w : ℕ = t * (4 * p) in omega arith

  pub locked_word : (v : View) (b word page i k : ℕ) (l : LockedBucket) → HasLock z v b word l → page ≡ l.extent.page
      → i < places l.extent.page l.extent.size.log2 → k < place_words z → IsLockedWord z v page (i * place_words z + k)
  locked_word v b word page i k l h is inside low = record {
    lock = l;
    held = ap (λ (x : Holdings). x.bucket) h.held;
    first = sym is;
    near = rw is h.near;
    inside = rw is (place_inside l.extent.page l.extent.size.log2 i k inside low);
  }

  module _ (block key : List ℕ) (i : ℕ) where
    pub word_of_key : (j : ℕ) → j < z.key_words → slice_index (key_in z block i) j ≡ slice_index block (i * place_words z + j)
    word_of_key j l = get_or-take z.key_words (drop (i * place_words z) block) j 0 l ∙ get_or-drop (i * place_words z) block j 0

    pub all_same : (page log2 : ℕ) → length block ≡ block_words z page log2 → i < places page log2 → length key ≡ z.key_words
        → SameTo z block i key z.key_words → key_in z block i ≡ key
    all_same page log2 size inside long same =
        let at : ℕ = i * place_words z in
        let low : at + z.key_words < block_words z page log2 = place_inside page log2 i z.key_words inside (omega arith) in
        let rest = length-drop at block in
        let count : length (key_in z block i) ≡ z.key_words = length-take-le z.key_words (drop at block) (omega arith) in
        ext_get_or 0 (key_in z block i) key (count ∙ sym long) (λ j l. let m : j < z.key_words = omega arith in word_of_key j m ∙ same j m)

-- a caller has one lock
pub same_lock : (z : Sizes) (v : View) (b word : ℕ) (l k : LockedBucket) → HasLock z v b word l → HasLock z v b word k → l ≡ k
same_lock z v b word l k h q =
    let e = ap (λ (x : Holdings). x.bucket) h.held in
    let f = ap (λ (x : Holdings). x.bucket) q.held in cc
