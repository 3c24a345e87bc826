-- Whether the version of a bucket that was seen is used up.
use Rattle.std.proofs.Common.{◌≡◌, ◌≢◌, ◌∙◌, ◌<◌, ◌≤◌, ℕ, Bool, true, false, eqb, true≢false, length, arith, ap, sym, eq-eqb}
use Rattle.std.proofs.lemmas.Bool.{eqb-true}
use Rattle.bihash_words.specs.Sizes.{Sizes}
use Rattle.bihash_words.specs.Words.{Bucket, FitsWord, packed}
use Rattle.bihash_rule.specs.Callers.{known_at}
use Rattle.bihash_rule.specs.Buckets.{word_of}
use Rattle.bihash_rule.specs.declared.view.View.{View}
use Rattle.bihash_table.specs.inner.OpenReads.{HasOpen}

module _ (z : Sizes) (v : View) (b word : ℕ) (has : HasOpen z v b word) (used : Bool)
    (tells : (x : Bucket) → FitsWord x → word ≡ packed x → used ≡ eqb x.version z.limit) where
  used_is : used ≡ eqb (length (known_at v.known b)) z.limit
  used_is = tells (word_of has.extent false has.block.open_bucket.version) has.block.fits has.block.stood
      ∙ ap (λ (n : ℕ). eqb n z.limit) has.version

  pub worn : used ≡ true → length (known_at v.known b) ≡ z.limit
  worn is = eqb-true (length (known_at v.known b)) z.limit (sym used_is ∙ is)

  pub unworn : used ≡ false → length (known_at v.known b) < z.limit
  unworn is =
      let n : ℕ = length (known_at v.known b) in
      let short : n ≤ z.limit = has.short in
      let apart : n ≢ z.limit = λ e. true≢false (sym (used_is ∙ eq-eqb n z.limit e) ∙ is) in
      omega arith
