-- What a call with an expiry removes of the map of its bucket.
use Rattle.std.specs.Prelude.{◌≡◌, ◌≢◌, ◌+◌, ℕ, Bool, true, List, length, Some, None}
use Rattle.std.specs.Ordering.{nat_cmp}
use Rattle.std.specs.declared.cmp.Ordering.TheVariants.{Greater}
use Rattle.std.specs.Cmp.Lexicographic.{slice_cmp}
use Rattle.std.specs.FinMap.{get, remove}
use Rattle.bihash_words.specs.Maps.{Pairs, changed}
use Rattle.bihash_words.specs.declared.patch.Change.{Change}
use Rattle.bihash_words.specs.declared.patch.Reply.{Reply}
use Rattle.bihash_words.specs.declared.patch.Reply.TheVariants.{Changed}
use Rattle.bihash_rule.specs.Histories.{after}
use Rattle.bihash_rule.specs.declared.view.Write.{Write}

-- the key has an expired value in this map, and no key with an expired value is less
pub record IsLeastExpired (is_expired : ℕ → Bool) (m : Pairs) (gone : List ℕ) : Type 0 where
  pub value : ℕ
  pub stands : get m gone ≡ Some value
  pub expired : is_expired value ≡ true
  pub least : (key : List ℕ) (other : ℕ) → get m key ≡ Some other → is_expired other ≡ true
      → slice_cmp nat_cmp gone key ≢ Greater

-- The last write of this history changed a new key, and removed for it, of the map before, just the least expired key.
pub record HasRecycled (opening : Pairs) (history : List Write) (key : List ℕ) (change : Change) (is_expired : ℕ → Bool)
    (gone : List ℕ) (reply : Reply) : Type 0 where
  pub before : ℕ
  pub last : length history ≡ before + 1
  pub goes : IsLeastExpired is_expired (after opening history before) gone
  pub answered : reply ≡ Changed None
  pub leaves : after opening history (length history) ≡ changed (remove (after opening history before) gone) key change
