-- The writes for which a locked block has room: what was stored may be published, and is the answer then.
use Rattle.std.proofs.Common.{◌≡◌, ◌≢◌, ◌+◌, ◌*◌, ◌<◌, ℕ, Bool, true, List, length, set, Some, None, ap, arith, refl, sym}
use Rattle.std.specs.FinMap.{get}
use Rattle.bihash_words.specs.Sizes.{Sizes}
use Rattle.bihash_words.specs.declared.patch.Change.TheVariants.{Set, Remove}
use Rattle.bihash_words.specs.declared.patch.Reply.TheVariants.{Changed}
use Rattle.bihash_rule.specs.Words.{place_words}
use Rattle.bihash_rule.specs.Histories.{bounds_of, bucket_of}
use Rattle.bihash_rule.specs.Callers.{known_at}
use Rattle.bihash_rule.specs.Blocks.{HasPair, HoldsPair, free}
use Rattle.bihash_steps.specs.BucketCalls.{event}
use Rattle.bihash_steps.specs.BucketSteps.{Enters, MayMark, call_of, map_now, with_lock, stored_in, view_after_write}
use Rattle.bihash_steps.specs.Seats.{CallerState, with_view}
use Rattle.bihash_rule.specs.declared.view.LockedBucket.{LockedBucket}
use Rattle.bihash_rule.specs.declared.view.View.{View}
use Rattle.bihash_table.specs.Promise.{IsAnswered}
use Rattle.bihash_table.specs.inner.Locked.{HasLock}
use Rattle.bihash_rule.specs.Places.{IsFreeFor}
use Rattle.bihash_table.specs.inner.Stores.{HasStored}
use Rattle.bihash_table.proofs.Blocks.{filled_block, freed_block, overwritten_block}
use Rattle.bihash_table.proofs.Count.{few_pairs}
use Rattle.bihash_table.proofs.Decisions.{enter_step, remove_step, set_step}
use Rattle.bihash_table.proofs.HolderWrites.{HasMark, may_publish, published}
use Rattle.bihash_table.proofs.StoredWords.{key_stored, stored_before, stored_here, stored_is, stored_none, stored_placed, value_stored, view_stored}

-- the word after the key of place i gets this value
abbrev pub IsValueStored : Sizes → View → LockedBucket → ℕ → ℕ → View → Type 0
IsValueStored z w l i value w' = w' ≡ with_lock w (Some (stored_in l (i * place_words z + z.key_words) value))

pub value_is_stored : (z : Sizes) (a b : CallerState) (l : LockedBucket) (i value n : ℕ) → n ≡ z.key_words
    → b ≡ with_view a (with_lock a.view (Some (stored_in l (i * place_words z + n) value)))
    → IsValueStored z a.view l i value b.view
value_is_stored z a b l i value n is =
    view_stored a b l (i * place_words z + n) (i * place_words z + z.key_words) value value
    (ap (λ (m : ℕ). i * place_words z + m) is) refl

-- the words of the block after that
abbrev pub with_value : Sizes → List ℕ → ℕ → ℕ → List ℕ
with_value z block i value = set block (i * place_words z + z.key_words) value

module _ (z : Sizes) (v : View) (b word : ℕ) (l : LockedBucket) (has : HasLock z v b word l) (key : List ℕ)
    (long : length key ≡ z.key_words) (home : bucket_of z key ≡ b)
    (unworn : length (known_at v.known b) < z.limit) where
  -- a pair of a new key at a free place, whose words were stored before
  module _ (i value : ℕ) (vacant : IsFreeFor z l.extent l.now key i) (new : get (map_now v b) key ≡ None)
      (storable : value < free) (w : View) (h : HasStored z v w l i key z.key_words) (w' : View)
      (is : IsValueStored z w (record l { now = h.now; stored = h.stored }) i value w') where
    filled_is : w' ≡ with_lock v (Some (record l { now = with_value z h.now i value; stored = true }))
    filled_is = stored_is z v b word l has w i vacant.inside key z.key_words h w' z.key_words value is

    pub may_fill : (linear : Bool) → HasMark word linear
        → MayMark z w' b word linear (call_of w' b 1 (event key None (Set value) (Changed None)))
    may_fill = may_publish z v b word l has key long home None (Set value) w' _ filled_is (sym new) unworn storable
        (enter_step (bounds_of z) (map_now v b) (length (known_at v.known b)) key value (sym new) unworn
        (few_pairs z l.extent l.now (map_now v b) i has.pairs vacant.inside vacant.free))
        (filled_block z l.extent l.now _ (map_now v b) i has.pairs
        (stored_placed z v b word l has w i vacant.inside key z.key_words h w' z.key_words value is (omega arith))
        key value new vacant storable
        (key_stored z v b word l has w i vacant.inside key z.key_words h w' value refl long is)
        (value_stored z v b word l has w i vacant.inside key z.key_words h w' value refl long is))

    pub filled : (u : View) → Enters z w' (call_of w' b 1 (event key None (Set value) (Changed None)))
        (view_after_write w' (call_of w' b 1 (event key None (Set value) (Changed None)))) u
        → IsAnswered z v u (event key None (Set value) (Changed None))
    filled = published z v b word l has key long home None (Set value) w' _ filled_is

  -- the pair of the key at place i
  module _ (i old : ℕ) (pair : HoldsPair z l.extent l.now key old i) where
    there : Some old ≡ get (map_now v b) key
    there = sym (has.pairs.map.mapped key old i pair)

    -- it gets another value
    module _ (value : ℕ) (other : value ≢ old) (storable : value < free) (w' : View)
        (is : IsValueStored z v l i value w') where
      overwritten_is : w' ≡ with_lock v (Some (record l { now = with_value z l.now i value; stored = true }))
      overwritten_is = stored_is z v b word l has v i pair.pair.0 key z.key_words
          (stored_before z v b word l has i key pair.stands) w' z.key_words value is

      pub may_overwrite : (linear : Bool) → HasMark word linear
          → MayMark z w' b word linear (call_of w' b 1 (event key (Some old) (Set value) (Changed (Some old))))
      may_overwrite = let h = stored_before z v b word l has i key pair.stands in
          may_publish z v b word l has key long home (Some old) (Set value) w' _ overwritten_is there unworn storable
          (set_step (bounds_of z) (map_now v b) (length (known_at v.known b)) key old value there other unworn)
          (overwritten_block z l.extent l.now _ (map_now v b) i has.pairs
          (stored_placed z v b word l has v i pair.pair.0 key z.key_words h w' z.key_words value is (omega arith))
          key old value pair storable
          (key_stored z v b word l has v i pair.pair.0 key z.key_words h w' value refl long is)
          (value_stored z v b word l has v i pair.pair.0 key z.key_words h w' value refl long is))

      pub overwritten : (u : View) → Enters z w' (call_of w' b 1 (event key (Some old) (Set value) (Changed (Some old))))
          (view_after_write w' (call_of w' b 1 (event key (Some old) (Set value) (Changed (Some old))))) u
          → IsAnswered z v u (event key (Some old) (Set value) (Changed (Some old)))
      overwritten = published z v b word l has key long home (Some old) (Set value) w' _ overwritten_is

    -- it goes, and another is left
    module _ (k : ℕ) (apart : k ≢ i) (left : HasPair z l.extent l.now k) (w' : View)
        (is : IsValueStored z v l i free w') where
      freed_is : w' ≡ with_lock v (Some (record l { now = with_value z l.now i free; stored = true }))
      freed_is = stored_is z v b word l has v i pair.pair.0 key 0 (stored_none z v b word l has i key) w' z.key_words free is

      pub may_remove : (linear : Bool) → HasMark word linear
          → MayMark z w' b word linear (call_of w' b 1 (event key (Some old) Remove (Changed (Some old))))
      may_remove = let h = stored_none z v b word l has i key in
          may_publish z v b word l has key long home (Some old) Remove w' _ freed_is there unworn tt
          (remove_step (bounds_of z) (map_now v b) (length (known_at v.known b)) key old there unworn)
          (freed_block z l.extent l.now _ (map_now v b) i has.pairs
          (stored_placed z v b word l has v i pair.pair.0 key 0 h w' z.key_words free is (omega arith))
          key old pair (stored_here z v b word l has v i pair.pair.0 key 0 h w' z.key_words free is (omega arith)) k apart left)

      pub removed : (u : View) → Enters z w' (call_of w' b 1 (event key (Some old) Remove (Changed (Some old))))
          (view_after_write w' (call_of w' b 1 (event key (Some old) Remove (Changed (Some old))))) u
          → IsAnswered z v u (event key (Some old) Remove (Changed (Some old)))
      removed = published z v b word l has key long home (Some old) Remove w' _ freed_is
