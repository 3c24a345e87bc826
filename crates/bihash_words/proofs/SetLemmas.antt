-- A call that sets a value is taken exactly where the value follows it.
use Rattle.std.proofs.Common.{◌≡◌, ◌≢◌, ◌∙◌, ◌==◌, ℕ, Bool, true, false, ap, sym, refl, subst, inl, inr, Option, Some, None}
use Rattle.std.specs.FinMap.{get, len}
use Rattle.std.specs.Prelude.{◌↔◌, if◌then◌else◌, nat_lt}
use Rattle.std.proofs.lemmas.Bool.{eqb-false, eqb-true}
use Rattle.bihash_words.specs.declared.patch.Change.TheVariants.{Keep, Set}
use Rattle.bihash_words.specs.Maps.{Answers, Bounds, NoRoom, NewKey, Event, WornOut, Pairs, OldKey, IsEvent, effect_of, most_pairs, case_with, without, written}
use Rattle.bihash_words.specs.Refusals.{IsTaken}
use Rattle.bihash_words.proofs.MapLemmas.{refused_or_recycled}
use Rattle.bihash_words.proofs.MapValues.{get_set}

abbrev Stands : ℕ → Pairs → Event → Type 0
Stands value n e = IsTaken e.reply ↔ (get n e.key ≡ Some value)

taken : (value : ℕ) (n : Pairs) (e : Event) → IsTaken e.reply → get n e.key ≡ Some value → Stands value n e
taken value n e is stands = (λ t. stands, λ g. is)

refused : (value : ℕ) (n : Pairs) (e : Event) → (IsTaken e.reply → ⊥) → get n e.key ≢ Some value → Stands value n e
refused value n e not other = (λ t. absurd (not t), λ g. absurd (other g))

-- the key has the value once it is set
set_there : (value : ℕ) (m n : Pairs) (e : Event) → e.change ≡ Set value → n ≡ written m e.key e.change e.recycling
    → get n e.key ≡ Some value
set_there value m n e sets is = ap (λ x. get x e.key) (is ∙ ap (λ c. written m e.key c e.recycling) sets)
    ∙ get_set (without m e.recycling.removed) e.key value

-- it has what it had where nothing was changed
still : (found : Option ℕ) (m n : Pairs) (e : Event) → get m e.key ≡ found → n ≡ m → get n e.key ≡ found
still found m n e had same = ap (λ x. get x e.key) same ∙ had

of_new : (more room : Bool) (b : Bounds) (value : ℕ) (m n : Pairs) (e : Event) → e.change ≡ Set value → get m e.key ≡ None
    → Answers (if more then (if room then NewKey else NoRoom) else WornOut) b m e n → Stands value n e
of_new true true b value m n e sets none (inl h) =
    taken value n e (subst IsTaken (sym h.0) tt) (set_there value m n e sets h.1)
of_new true true b value m n e sets none (inr h) =
    refused value n e (λ t. subst IsTaken h.0.2 t) (λ g. let had = still None m n e none h.1 in let f : ⊥ = cc in f)
of_new true false b value m n e sets none h = elim (refused_or_recycled e.recycling.removed m n e h) [
  | inl full ↦ refused value n e (λ t. subst IsTaken full.0 t) (λ g. let had = still None m n e none full.1 in let f : ⊥ = cc in f)
  | inr recycled ↦ taken value n e (subst IsTaken (sym recycled.0) tt) (set_there value m n e sets recycled.1)
]
of_new false room b value m n e sets none h =
    refused value n e (λ t. subst IsTaken h.0 t) (λ g. let had = still None m n e none h.1 in let f : ⊥ = cc in f)

of_other : (more : Bool) (b : Bounds) (value old : ℕ) (m n : Pairs) (e : Event) → e.change ≡ Set value → get m e.key ≡ Some old
    → old ≢ value → Answers (if more then OldKey else WornOut) b m e n → Stands value n e
of_other true b value old m n e sets had other h =
    taken value n e (subst IsTaken (sym h.0) tt) (set_there value m n e sets h.1)
of_other false b value old m n e sets had other h =
    refused value n e (λ t. subst IsTaken h.0 t)
    (λ g. let has = still (Some old) m n e had h.1 in let same : old ≡ value = cc in other same)

of_old : (same : Bool) (b : Bounds) (w value old : ℕ) (m n : Pairs) (e : Event) → (old == value) ≡ same → e.change ≡ Set value
    → get m e.key ≡ Some old → Answers (case_with b (len m) w (Some old) (if same then Keep else Set value)) b m e n → Stands value n e
of_old true b w value old m n e test sets had h =
    taken value n e (subst IsTaken (sym h.0) tt) (still (Some old) m n e had h.1 ∙ ap Some (eqb-true old value test))
of_old false b w value old m n e test sets had h =
    of_other (nat_lt w b.limit) b value old m n e sets had (eqb-false old value test) h

by_found : (found : Option ℕ) (b : Bounds) (w value : ℕ) (m n : Pairs) (e : Event) → e.change ≡ Set value → get m e.key ≡ found
    → Answers (case_with b (len m) w found (effect_of (Set value) found)) b m e n → Stands value n e
by_found None b w value m n e sets had h = of_new (nat_lt w b.limit) (nat_lt (len m) (most_pairs b)) b value m n e sets had h
by_found (Some old) b w value m n e sets had h = of_old (old == value) b w value old m n e refl sets had h

-- the value follows the call exactly where it was taken
pub set_stands : (b : Bounds) (m n : Pairs) (w value : ℕ) (e : Event) → IsEvent b m w e n → e.change ≡ Set value
    → IsTaken e.reply ↔ (get n e.key ≡ Some value)
set_stands b m n w value e step sets = by_found e.found b w value m n e sets (sym step.found)
    (subst (λ c. Answers (case_with b (len m) w e.found (effect_of c e.found)) b m e n) sets step.answers)
