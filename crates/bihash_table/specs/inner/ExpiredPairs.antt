-- What a look at an open bucket tells of its expired pairs.
use Rattle.std.specs.Prelude.{◌≡◌, ◌<◌, ◌^◌, ℕ, Bool, true, false, List, Option, Some, None, IfSome}
use Rattle.bihash_words.specs.Sizes.{sizes_of}
use Rattle.bihash_words.specs.declared.shape.Shape.{Ghosts}
use Rattle.bihash_rule.specs.Blocks.{HasPair, HoldsPair, value_in}
use Rattle.bihash_rule.specs.Callers.{IsLawfulCaller}
use Rattle.bihash_rule.specs.declared.view.Extent.{Extent}
use Rattle.bihash_steps.specs.Seats.{CallerState}
use Rattle.bihash_table.specs.inner.Seen.{HasSeen}

-- where an expired pair stands, or that no pair is expired
abbrev pub FindsExpired : {A K : Type 0} → Ghosts A K → (ℕ → Bool) → Option (ℕ × K × ℕ) → Extent → List ℕ → Type 0
FindsExpired g is_expired (Some pair) e block = HoldsPair (sizes_of g) e block (g.words_of pair.1) pair.2 pair.0
FindsExpired g is_expired None e block = (i : ℕ) → HasPair (sizes_of g) e block i → is_expired (value_in (sizes_of g) block i) ≡ false

-- The caller of this row saw bucket b, and found this expired pair there, or none.
pub record HasFoundExpired {A K : Type 0} (g : Ghosts A K) (row : _) (s : CallerState) (b word : ℕ) (is_expired : ℕ → Bool)
    (found : Option (ℕ × K × ℕ)) : Type 0 where
  pub own : s.row ≡ row
  pub seen : HasSeen (sizes_of g) s.view b word (FindsExpired g is_expired found)
  pub expired : IfSome found (λ pair. (is_expired pair.2 ≡ true) × (pair.2 < 2 ^ 64))
  pub lawful : IsLawfulCaller (sizes_of g) s.view
