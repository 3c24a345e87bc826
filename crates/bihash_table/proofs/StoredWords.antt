-- Words that are stored at one place of a locked block, one after another.
use Rattle.std.proofs.Common.{◌≡◌, ◌≢◌, ◌∙◌, ◌+◌, ◌*◌, ◌<◌, ◌≤◌, ℕ, true, false, List, length, set, Some, ap, arith, refl, sym, ⊎_elim, get_or-set_same, get_or-set_other, length-set}
use Rattle.std.specs.Prelude.{slice_index}
use Rattle.std.proofs.lemmas.Bool.{cases_eq}
use Rattle.bihash_words.specs.Sizes.{Sizes}
use Rattle.bihash_words.specs.Words.{Bucket, FitsWord, packed}
use Rattle.bihash_rule.specs.Words.{place_words}
use Rattle.bihash_rule.specs.Blocks.{key_in, places, value_in}
use Rattle.bihash_rule.specs.Buckets.{word_of}
use Rattle.bihash_steps.specs.BucketSteps.{IsLockedWord, with_lock, stored_in}
use Rattle.bihash_steps.specs.Seats.{CallerState, with_view}
use Rattle.bihash_rule.specs.declared.view.Holdings.{Holdings}
use Rattle.bihash_rule.specs.declared.view.LockedBucket.{LockedBucket}
use Rattle.bihash_rule.specs.declared.view.View.{View}
use Rattle.bihash_table.specs.inner.Locked.{HasLock}
use Rattle.bihash_table.specs.inner.Stores.{HasStored, HoldsPlace, IsPlaceSet}
use Rattle.bihash_table.proofs.PlaceReads.{all_same, place_inside, word_of_key}
use Rattle.bihash_table.proofs.PlaceWords.{set_in_place}

-- the view after one store
pub view_stored : (a b : CallerState) (l : LockedBucket) (at at' value value' : ℕ) → at ≡ at' → value ≡ value'
    → b ≡ with_view a (with_lock a.view (Some (stored_in l at value)))
    → b.view ≡ with_lock a.view (Some (stored_in l at' value'))
view_stored a b l at at' value value' here same step =
    ap (λ (k : CallerState). k.view) step
    ∙ (ap (λ (n : ℕ). with_lock a.view (Some (stored_in l n value))) here
    ∙ ap (λ (n : ℕ). with_lock a.view (Some (stored_in l at' n))) same)

-- a word of a place of the block that is locked
pub locked_word : (z : Sizes) (v : View) (word place i page : ℕ) (h : HoldsPlace z v word place)
    → i ≤ z.key_words → ((b : Bucket) → FitsWord b → word ≡ packed b → page ≡ b.page)
    → IsLockedWord z v page (place * place_words z + i)
locked_word z v word place i page h small tells =
    let same : page ≡ h.lock.extent.page = tells (word_of h.lock.extent false h.lock.version) h.fits h.stood in
    record {
      lock = h.lock;
      held = h.held;
      first = sym same;
      near = rw same h.near;
      inside = rw same (place_inside z h.lock.extent.page h.lock.extent.size.log2 place i h.inside (omega arith));
    }

module _ (z : Sizes) (v : View) (b word : ℕ) (l : LockedBucket) (has : HasLock z v b word l) where
  pub holds_place : (place : ℕ) → place < places l.extent.page l.extent.size.log2 → HoldsPlace z v word place
  holds_place place inside = record {
    lock = l;
    held = ap (λ h. h.bucket) has.held;
    fits = has.fits;
    stood = has.stood;
    near = has.near;
    small = has.pairs.rule.small;
    inside = inside;
  }

  -- nothing was stored yet
  abbrev pub stored_none : (i : ℕ) (key : List ℕ) → HasStored z v v l i key 0
  stored_none i key = record {
    now = l.now;
    stored = l.stored;
    is = ap (λ (h : Holdings). record v { holds = h })
        (has.held ∙ sym (ap (λ (h : Holdings). record h { bucket = Some l }) has.held));
    placed = record { size = refl; others = λ n beside. refl };
    words = λ j below. absurd (omega arith);
  }

  -- the whole key is there already
  abbrev pub stored_before : (i : ℕ) (key : List ℕ) → key_in z l.now i ≡ key → HasStored z v v l i key z.key_words
  stored_before i key stands = record {
    now = l.now;
    stored = l.stored;
    is = (stored_none i key).is;
    placed = record { size = refl; others = λ n beside. refl };
    words = λ j below. sym (word_of_key z l.now key i j below) ∙ ap (λ (xs : List ℕ). slice_index xs j) stands;
  }

  module _ (w : View) (i : ℕ) (inside : i < places l.extent.page l.extent.size.log2) (key : List ℕ) (k : ℕ)
      (h : HasStored z v w l i key k) where
    abbrev lock_now : LockedBucket
    lock_now = record l { now = h.now; stored = h.stored }

    pub held_now : w.holds.bucket ≡ Some lock_now
    held_now = ap (λ (u : View). u.holds.bucket) h.is

    -- what a store under the lock tells, after those of the key's words
    pub store_told : (u t : CallerState) → u.view ≡ w → (at value : ℕ)
        → ((m : LockedBucket) → u.view.holds.bucket ≡ Some m → t ≡ with_view u (with_lock u.view (Some (stored_in m at value))))
        → t ≡ with_view u (with_lock u.view (Some (stored_in lock_now at value)))
    store_told u t same at value told = told lock_now (ap (λ (x : View). x.holds.bucket) same ∙ held_now)

    pub holds_stored : HoldsPlace z w word i
    holds_stored = record {
      lock = lock_now;
      held = held_now;
      fits = has.fits;
      stood = has.stood;
      near = has.near;
      small = has.pairs.rule.small;
      inside = inside;
    }

    -- the next word is there already
    pub stored_same : (n : ℕ) → n ≡ slice_index h.now (i * place_words z + k) → n ≡ slice_index key k → HasStored z v w l i key (k + 1)
    stored_same n there is = record {
      now = h.now;
      stored = h.stored;
      is = h.is;
      placed = h.placed;
      words = λ j below. ⊎_elim
          (λ (here : j ≡ k). ap (λ (m : ℕ). slice_index h.now (i * place_words z + m)) here
          ∙ (sym there ∙ (is ∙ ap (slice_index key) (sym here))))
          (λ (other : j ≢ k). h.words j (omega arith))
          (cases_eq j k);
    }

    within : (j : ℕ) → j ≤ z.key_words → i * place_words z + j < length h.now
    within j small = let at : ℕ = i * place_words z in
        omega (arith, place_inside z l.extent.page l.extent.size.log2 i j inside (omega arith), has.size, h.placed.size)

    module _ (w' : View) (n value : ℕ)
        (is : w' ≡ with_lock w (Some (stored_in lock_now (i * place_words z + n) value))) where
      abbrev now' : List ℕ
      now' = set h.now (i * place_words z + n) value

      -- the view after one more store
      pub stored_is : w' ≡ with_lock v (Some (record l { now = now'; stored = true }))
      stored_is = is ∙ ap (λ (u : View). with_lock u (Some (record l { now = now'; stored = true }))) h.is

      pub stored_placed : n < place_words z → IsPlaceSet z l.now now' i
      stored_placed small = set_in_place z l.now h.now i n value h.placed small

      pub stored_here : n ≤ z.key_words → slice_index now' (i * place_words z + n) ≡ value
      stored_here small = get_or-set_same h.now (i * place_words z + n) value 0 (within n small)

      stored_there : (j : ℕ) → j < k → j ≢ n → slice_index now' (i * place_words z + j) ≡ slice_index key j
      stored_there j below differ = let at : ℕ = i * place_words z in
          get_or-set_other h.now (at + n) (at + j) value 0 (λ e. differ (omega arith)) ∙ h.words j below

    -- the next word of the key
    pub stored_more : (w' : View) → k < z.key_words
        → w' ≡ with_lock w (Some (stored_in lock_now (i * place_words z + k) (slice_index key k)))
        → HasStored z v w' l i key (k + 1)
    stored_more w' small is =
        let next : ℕ = slice_index key k in
        let all = stored_is w' k next is in
        let notes = sym (ap (λ (u : View). u.notes) all) in
        record {
          now = now' w' k next is;
          stored = true;
          is = all
              ∙ ap (λ n. record (with_lock v (Some (record l { now = now' w' k next is; stored = true }))) { notes = n }) notes;
          placed = stored_placed w' k next is (omega arith);
          words = λ j below. ⊎_elim
              (λ (here : j ≡ k). ap (λ (n : ℕ). slice_index (now' w' k next is) (i * place_words z + n)) here
              ∙ (stored_here w' k next is (omega arith) ∙ ap (slice_index key) (sym here)))
              (λ (other : j ≢ k). stored_there w' k next is j (omega arith) other)
              (cases_eq j k);
        }

    -- the value, after the words of the key
    module _ (w' : View) (value : ℕ) (whole : k ≡ z.key_words) (long : length key ≡ z.key_words)
        (is : w' ≡ with_lock w (Some (stored_in lock_now (i * place_words z + z.key_words) value))) where
      pub value_stored : value_in z (now' w' z.key_words value is) i ≡ value
      value_stored = stored_here w' z.key_words value is (omega arith)

      pub key_stored : key_in z (now' w' z.key_words value is) i ≡ key
      key_stored = all_same z (now' w' z.key_words value is) key i l.extent.page l.extent.size.log2
          (length-set h.now (i * place_words z + z.key_words) value ∙ (h.placed.size ∙ has.size)) inside long
          (λ j below. stored_there w' z.key_words value is j (omega arith) (λ e. omega arith))
