-- The pairs of a bucket's map are those that may stand in the bucket.
use Rattle.std.proofs.Common.{◌≡◌, ◌∙◌, ℕ, suc, List, [], ◌∷◌, length, Option, Some, None, ap, inl, inr, refl, sym, subst}
use Rattle.std.proofs.Math.ListN.{take}
use mathlib.Core.Option.{some}
use lib.ListN.{get_elem?}
use Rattle.std.specs.FinMap.{get, insert, remove}
use Rattle.bihash_words.specs.Maps.{Pairs, changed, without, written}
use Rattle.bihash_words.specs.Patches.{IsStorable}
use Rattle.bihash_words.specs.Sizes.{Sizes}
use Rattle.bihash_words.specs.declared.patch.Change.{Change}
use Rattle.bihash_words.specs.declared.patch.Change.TheVariants.{Keep, Set, Remove}
use Rattle.bihash_words.proofs.MapValues.{get_left, get_other, get_removed, get_set, same_or_other}
use Rattle.bihash_rule.specs.Histories.{IsKeyOf, IsPairOf, IsWriteList, after, bucket_of, replay}
use Rattle.bihash_rule.specs.declared.view.Write.{Write}
use Rattle.bihash_steps.proofs.Lists.{at_take}

module _ (z : Sizes) (b : ℕ) where
  -- each pair of the map may stand in the bucket
  abbrev AreHome : Pairs → Type 0
  AreHome m = (key : List ℕ) (value : ℕ) → get m key ≡ Some value → IsPairOf z b key value

  set_home : (m : Pairs) (k : List ℕ) (v : ℕ) → IsPairOf z b k v → AreHome m → AreHome (insert m k v)
  set_home m k v of home = λ key value h. elim (same_or_other key k) [
    | inl same ↦
        let both : Some v ≡ Some value = sym (get_set m k v) ∙ ap (get (insert m k v)) (sym same) ∙ h in
        let is : v ≡ value = cc in
        subst (λ (p : List ℕ × ℕ). IsPairOf z b p.0 p.1) (λ i. (sym same i, is i)) of
    | inr other ↦ home key value (sym (get_other m k v key other) ∙ h)
  ]

  removed_home : (m : Pairs) (gone : List ℕ) → AreHome m → AreHome (remove m gone)
  removed_home m gone home = λ key value h. elim (same_or_other key gone) [
    | inl same ↦ absurd (let clash : None ≡ Some value = sym (get_removed m gone) ∙ ap (get (remove m gone)) (sym same) ∙ h in
        let c : ⊥ = cc in c)
    | inr other ↦ home key value (sym (get_left m gone key other) ∙ h)
  ]

  -- the pair of the change may stand there, and each other one stood there before
  changed_home : (m : Pairs) (k : List ℕ) (change : Change) → IsKeyOf z b k → IsStorable change → AreHome m
      → AreHome (changed m k change)
  changed_home m k Keep of fits home = home
  changed_home m k (Set v) of fits home = set_home m k v record { home = of; storable = fits } home
  changed_home m k Remove of fits home = removed_home m k home

  without_home : (m : Pairs) (removed : Option (List ℕ)) → AreHome m → AreHome (without m removed)
  without_home m None home = home
  without_home m (Some gone) home = removed_home m gone home

  replay_home : (m : Pairs) (ws : List Write) → AreHome m
      → ((n : ℕ) (w : Write) → get_elem? ws n ≡ some w → IsKeyOf z b w.key × IsStorable w.change) → AreHome (replay m ws)
  replay_home m [] home each = home
  replay_home m (w ∷ ws) home each =
      replay_home (written m w.key w.change w.recycling) ws
      (changed_home (without m w.recycling.removed) w.key w.change (each 0 w refl).0 (each 0 w refl).1
      (without_home m w.recycling.removed home)) (λ n u e. each (suc n) u e)

  -- the pairs that the first writes of a write list leave may stand in the bucket
  pub pairs_after : (opening : Pairs) (H : List Write) (n : ℕ) (key : List ℕ) (value : ℕ) → IsWriteList z b opening H
      → get (after opening H n) key ≡ Some value → IsPairOf z b key value
  pairs_after opening H n key value writes h = replay_home opening (take n H) writes.home
      (λ i w e. let write = writes.each i w (at_take n H i w e).1 in (write.key, write.storable)) key value h

  pub after_home : (opening : Pairs) (H : List Write) (key : List ℕ) (value : ℕ) → IsWriteList z b opening H
      → get (after opening H (length H)) key ≡ Some value → IsKeyOf z b key
  after_home opening H key value writes h = (pairs_after opening H (length H) key value writes h).home

  pub key_home : (opening : Pairs) (H : List Write) (key : List ℕ) (value : ℕ) → IsWriteList z b opening H
      → get (after opening H (length H)) key ≡ Some value → bucket_of z key ≡ b
  key_home opening H key value writes h = (after_home opening H key value writes h).home
