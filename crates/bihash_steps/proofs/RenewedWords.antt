-- The words of a row become those of a renewed one, a bucket after the other.
use Rattle.std.proofs.Common.{◌≡◌, ℕ, ◌+◌, ◌<◌, false, List, length, set, sym, ap, ◌∙◌, subst, arith, length-set, get_or-set_same, get_or-set_other}
use mathlib.Core.Logic.{dite}
use native.Mathlib.Decide.{ℕ_discrete}
use Rattle.std.specs.Prelude.{slice_index}
use Rattle.bihash_words.specs.Sizes.{Sizes}
use Rattle.bihash_words.specs.Words.{Bucket, FitsWord, packed}
use Rattle.bihash_words.specs.declared.block_size.BlockSize.{BlockSize}
use Rattle.bihash_rule.specs.Words.{all_words, buckets, bucket_at}
use Rattle.bihash_steps.specs.Renewals.{AreRenewedBelow}
use Rattle.bihash_steps.proofs.BucketPlaces.{one_place, place_inside}
use Rattle.bihash_steps.proofs.CountWord.{front}
use Rattle.bihash_steps.proofs.OwnedWords.{bucket_inside}

module _ (z : Sizes) where
  renewed_at : (n word : ℕ) (words new : List ℕ) → n < buckets z → bucket_at z n < length new
      → ((x : Bucket) → FitsWord x → slice_index words (bucket_at z n) ≡ packed x → word ≡ packed (record x { locked = false; version = 0 }))
      → AreRenewedBelow z n words new → AreRenewedBelow z (n + 1) words (set new (bucket_at z n) word)
  renewed_at n word words new inside within is old = let f = front z in let p = place_inside z n inside in record {
    wide = length-set new (bucket_at z n) word ∙ old.wide;
    one = get_or-set_other new (bucket_at z n) 0 word 0 (λ e. omega arith) ∙ old.one;
    bucket = λ b x l fits stood. dite (ℕ_discrete b n)
        (λ here. ap (λ (k : ℕ). slice_index (set new (bucket_at z n) word) (bucket_at z k)) here
        ∙ (get_or-set_same new (bucket_at z n) word 0 within ∙ is x fits (ap (λ (k : ℕ). slice_index words (bucket_at z k)) (sym here) ∙ stood)))
        (λ ne. get_or-set_other new (bucket_at z n) (bucket_at z b) word 0 (λ e. ne (one_place z b n (omega arith) inside (omega arith))) ∙ old.bucket b x (omega arith) fits stood);
    front = λ i l h. get_or-set_other new (bucket_at z n) i word 0 (λ e. omega arith) ∙ old.front i l h;
    pages = λ i l. get_or-set_other new (bucket_at z n) i word 0 (λ e. omega arith) ∙ old.pages i l;
  }

  pub renewed_more : (n at word : ℕ) (words new : List ℕ) → at ≡ bucket_at z n → n < buckets z → length words ≡ all_words z
      → ((x : Bucket) → FitsWord x → slice_index words (bucket_at z n) ≡ packed x → word ≡ packed (record x { locked = false; version = 0 }))
      → AreRenewedBelow z n words new → AreRenewedBelow z (n + 1) words (set new at word)
  renewed_more n at word words new place inside long is old =
      subst (λ (i : ℕ). AreRenewedBelow z (n + 1) words (set new i word)) (sym place)
      (renewed_at n word words new inside (let within = bucket_inside z n inside in let same = old.wide in omega arith) is old)

-- a word is packed anew
pub packed_anew : (x : Bucket) (page : ℕ) (size : BlockSize) → page ≡ x.page → size ≡ record { log2 = x.log2; linear = x.linear }
    → packed (record { page = page; log2 = size.log2; linear = size.linear; locked = false; version = 0 })
    ≡ packed (record x { locked = false; version = 0 })
packed_anew x page size is same =
    λ i. packed (record { page = is i; log2 = (same i).log2; linear = (same i).linear; locked = false; version = 0 })
