-- What a step of a bounded map leaves, and the map after one write more.
use Rattle.std.proofs.Common.{◌≡◌, ◌∙◌, ◌+◌, ℕ, zero, suc, true, false, List, [], ◌∷◌, ap, arith, refl, sym, inl, inr}
use mathlib.Core.Option.{some, some-ne-none, some-injective}
use lib.ListN.{get_elem?}
use Rattle.bihash_words.specs.Maps.{Answers, Bounds, NoRoom, NewKey, Event, WornOut, Unchanged, Pairs, OldKey, Case, IsEvent, written}
use Rattle.bihash_words.proofs.MapLemmas.{refused_or_recycled}
use Rattle.bihash_words.specs.Runs.{writes_of}
use Rattle.bihash_words.specs.declared.patch.Reply.{Reply}
use Rattle.bihash_words.specs.declared.patch.Reply.TheVariants.{Kept, Changed, Worn, Full, NoPages}
use Rattle.bihash_rule.specs.Histories.{after, is_changed}
use Rattle.bihash_rule.specs.declared.view.Write.{Write}

changed_at : (r : Case) (b : Bounds) (m n : Pairs) (e : Event) → Answers r b m e n → is_changed e.reply ≡ true
    → n ≡ written m e.key e.change e.recycling
changed_at Unchanged b m n e h is = absurd (let clash = sym is ∙ ap is_changed h.0 in let f : ⊥ = cc in f)
changed_at WornOut b m n e h is = absurd (let clash = sym is ∙ ap is_changed h.0 in let f : ⊥ = cc in f)
changed_at NoRoom b m n e h is = elim (refused_or_recycled e.recycling.removed m n e h) [
  | inl refused ↦ absurd (let clash = sym is ∙ ap is_changed refused.0 in let f : ⊥ = cc in f)
  | inr recycled ↦ recycled.1
]
changed_at NewKey b m n e (inl h) is = h.1
changed_at NewKey b m n e (inr h) is = absurd (let clash = sym is ∙ ap is_changed h.0.2 in let f : ⊥ = cc in f)
changed_at OldKey b m n e h is = h.1

left_at : (r : Case) (b : Bounds) (m n : Pairs) (e : Event) → Answers r b m e n → is_changed e.reply ≡ false → n ≡ m
left_at Unchanged b m n e h is = h.1
left_at WornOut b m n e h is = h.1
left_at NoRoom b m n e h is = elim (refused_or_recycled e.recycling.removed m n e h) [
  | inl refused ↦ refused.1
  | inr recycled ↦ absurd (let clash = sym is ∙ ap is_changed recycled.0 in let f : ⊥ = cc in f)
]
left_at NewKey b m n e (inl h) is = absurd (let clash = sym is ∙ ap is_changed h.0 in let f : ⊥ = cc in f)
left_at NewKey b m n e (inr h) is = h.1
left_at OldKey b m n e h is = absurd (let clash = sym is ∙ ap is_changed h.0 in let f : ⊥ = cc in f)

-- a call that is answered Changed leaves the map with its change
pub step_changes : (b : Bounds) (m n : Pairs) (w : ℕ) (e : Event) → IsEvent b m w e n → is_changed e.reply ≡ true
    → n ≡ written m e.key e.change e.recycling
step_changes b m n w e step = changed_at _ b m n e step.answers

-- any other call leaves the map
pub step_leaves : (b : Bounds) (m n : Pairs) (w : ℕ) (e : Event) → IsEvent b m w e n → is_changed e.reply ≡ false → n ≡ m
step_leaves b m n w e step = left_at _ b m n e step.answers

-- how many writes there are after a write, and after another call
pub one_more : (r : Reply) (n : ℕ) → is_changed r ≡ true → n + writes_of r ≡ n + 1
one_more (Kept found) n is = let f : ⊥ = cc in absurd f
one_more (Changed found) n is = refl
one_more (Worn found) n is = let f : ⊥ = cc in absurd f
one_more Full n is = let f : ⊥ = cc in absurd f
one_more (NoPages log2 left) n is = let f : ⊥ = cc in absurd f

pub no_more : (r : Reply) (n : ℕ) → is_changed r ≡ false → n + writes_of r ≡ n
no_more (Kept found) n is = omega arith
no_more (Changed found) n is = let f : ⊥ = cc in absurd f
no_more (Worn found) n is = omega arith
no_more Full n is = omega arith
no_more (NoPages log2 left) n is = omega arith

-- the map after the write at place n
pub after_next : (opening : Pairs) (H : List Write) (n : ℕ) (w : Write) → get_elem? H n ≡ some w
    → after opening H (n + 1) ≡ written (after opening H n) w.key w.change w.recycling
after_next opening [] n w at = absurd (some-ne-none w (sym at))
after_next opening (x ∷ xs) zero w at = ap (λ (y : Write). written opening y.key y.change y.recycling) (some-injective x w at)
after_next opening (x ∷ xs) (suc n) w at = let next : suc n + 1 ≡ suc (n + 1) = omega arith in
    ap (after opening (x ∷ xs)) next ∙ after_next (written opening x.key x.change x.recycling) xs n w at
