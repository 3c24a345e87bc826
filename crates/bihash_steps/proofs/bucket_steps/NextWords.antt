-- The word of a bucket after a write, and the stamp that its caller keeps.
use Rattle.std.proofs.Common.{◌≡◌, ℕ, ◌+◌, ◌-◌, ◌^◌, ◌<◌, Bool, true, false, length, sym, ap, ◌∙◌, arith, Option, Some}
use Rattle.bihash_words.specs.declared.block_size.BlockSize.{BlockSize}
use Rattle.bihash_words.specs.Sizes.{Sizes, IsSound}
use Rattle.bihash_words.specs.Words.{Bucket, FitsWord, packed, version_of}
use Rattle.bihash_rule.specs.Callers.{known_at}
use Rattle.bihash_rule.specs.Buckets.{word_of, open_word}
use Rattle.bihash_steps.specs.BucketSteps.{MayAnswer, MayWrite, TellsEntry, view_after_answer, push_call, MayValidate, TellsValid}
use Rattle.bihash_steps.specs.Steps.{ViewOfSeat}
use Rattle.bihash_rule.specs.declared.view.Call.{Call}
use Rattle.bihash_rule.specs.declared.view.Extent.{Extent}
use Rattle.bihash_rule.specs.declared.view.OpenBucket.{OpenBucket}
use Rattle.bihash_rule.specs.declared.view.View.{View}
use Rattle.bihash_steps.proofs.Addresses.{HasVersion}
use Rattle.bihash_steps.proofs.SeatCounts.{IsCounted, counted_call}

version_is : (page log2 version : ℕ) (linear : Bool) → page < 2 ^ 24 → log2 < 2 ^ 5
    → version_of (packed (record { page = page; log2 = log2; linear = linear; locked = false; version = version })) ≡ version
version_is page log2 version true p l = omega arith
version_is page log2 version false p l = omega arith

-- the word of an extent, by its fields
pub next_is : (e : Extent) (page version next : ℕ) (size : BlockSize) → page ≡ e.page
    → size ≡ e.size
    → next ≡ packed (record { page = page; log2 = size.log2; linear = size.linear; locked = false; version = version })
    → next ≡ packed (word_of e false version)
next_is e page version next size p s is =
    is ∙ (λ i. packed (record { page = p i; log2 = (s i).log2; linear = (s i).linear; locked = false; version = version }))

module _ (z : Sizes) (v : View) (b word : ℕ) (c : Call) (may : MayWrite z v b word c) where
  -- the bucket's version may rise
  pub version_rises : IsSound z → version_of word < 2 ^ 33 - 1
  version_rises sound =
      let e = may.lock.extent in
      let is = ap version_of may.stood ∙ version_is e.page e.size.log2 may.lock.version e.size.linear may.fits.page may.fits.log2 in
      let same = may.version in let unworn = may.unworn in let few = sound.few_writes in
      let n : ℕ = version_of word in let same_version : n ≡ may.lock.version = is in omega arith

-- a seat counts the write
pub counted_write : (z : Sizes) (after : View → View) (m m' : ViewOfSeat) (c : Call) (b word version numbers : ℕ) (old : Option (ℕ × ℕ))
    → MayWrite z m.0 b word c → ((x : Bucket) → FitsWord x → word ≡ packed x → version ≡ x.version) → TellsEntry z after c m m'
    → (after m.0).records ≡ push_call c m.0.records → IsCounted m numbers old → IsCounted m' numbers (Some (b, version + 1))
counted_write z after m m' c b word version numbers old may read told same h =
    let is = read (word_of may.lock.extent false may.lock.version) may.fits may.stood in
    let stamp : c.stamp ≡ version + 1 = let s = may.stamp in let l = may.version in omega arith in
    counted_call m m' c numbers b (version + 1) old told.slots (ap (λ (q : View). q.records) told.entered.is ∙ same)
    may.call stamp h

-- and the answer of a call that is no write
pub counted_answer : (z : Sizes) (m m' : ViewOfSeat) (c : Call) (b word version numbers : ℕ) (old : Option (ℕ × ℕ)) → MayAnswer z m.0 b word c
    → HasVersion m.0 → ((x : Bucket) → FitsWord x → word ≡ packed x → version ≡ x.version) → TellsEntry z (λ v. view_after_answer v c) c m m'
    → IsCounted m numbers old → IsCounted m' numbers (Some (b, version))
counted_answer z m m' c b word version numbers old may has read told h =
    let lock = may.clean.lock in
    let known = has lock may.clean.held in
    let is = read (word_of lock.extent false lock.version) known.0 may.clean.stood in
    let stamp : c.stamp ≡ version
    = may.stamp ∙ (ap (λ (n : ℕ). length (known_at m.0.known n)) (sym may.clean.bucket) ∙ (sym known.1 ∙ sym is)) in
    counted_call m m' c numbers b version old told.slots (ap (λ (q : View). q.records) told.entered.is)
    may.bucket stamp h

-- and of one that was answered without a lock
pub counted_valid : (z : Sizes) (m m' : ViewOfSeat) (c : Call) (b word version found numbers : ℕ) (old : Option (ℕ × ℕ))
    → MayValidate z m.0 b word c → ((x : Bucket) → FitsWord x → word ≡ packed x → version ≡ x.version)
    → ((o : OpenBucket) → m.0.notes.open_bucket ≡ Some o → TellsValid z (open_word o) c m found m')
    → found ≡ word → IsCounted m numbers old → IsCounted m' numbers (Some (b, version))
counted_valid z m m' c b word version found numbers old may read told here h =
    let o = may.open_bucket in
    let t = told o may.noted in
    let is = read (word_of o.extent false o.version) may.fits may.stood in
    counted_call m m' c numbers b version old t.slots (ap (λ (v : View). v.records) (t.valid (here ∙ may.stood)).is) may.bucket
    (let s = may.stamp in let v = may.version in omega arith) h
