-- What a packet asked, by its update.
use Rattle.std.proofs.Common.{◌≡◌, Option, Some, None, ap, refl, subst}
use Rattle.bihash_words.specs.Maps.{Event}
use Rattle.flow_filter.specs.Judged.{Asked, Asks, IsAskedBy, IsEventOf, Settled, WhereAsked}
use Rattle.flow_filter.specs.Updates.{Update}

-- a packet with an update asked once by it
pub asks_once : (update : Option Update) (a : Asked Event) → IsAskedBy update a → (u : Update) → update ≡ Some u
    → (e : Event) × (a ≡ Asks u e) × IsEventOf u e
asks_once update Settled none u is = let f : ⊥ = cc in absurd f
asks_once update (Asks w e) asked u is =
    let same : w ≡ u = cc in (e, ap (λ x. Asks x e) same, subst (λ x. IsEventOf x e) same asked.1)

-- one without an update asked nothing
pub asks_nothing : (update : Option Update) (a : Asked Event) → IsAskedBy update a → update ≡ None → a ≡ Settled
asks_nothing update Settled settled none = refl
asks_nothing update (Asks u e) asked none = let f : ⊥ = cc in absurd f

-- what holds where a packet asked holds of its event
pub of_asked : (P : Event → Type 0) (a : Asked Event) (u : Update) (e : Event) → WhereAsked a P → a ≡ Asks u e → P e
of_asked P a u e holds is = subst (λ a. WhereAsked a P) is holds
