-- Packets that are dealt one by one.
use Rattle.std.proofs.Common.{◌≡◌, ◌∙◌, ◌+◌, ◌<◌, ◌≤◌, ℕ, zero, suc, List, [], ◌∷◌, ◌++◌, length, drop, Some, ap, refl, sym, subst, inl, inr, arith, drop-drop, slice_get}
use Rattle.std.proofs.lemmas.Bool.Decides.{eqb_tells}
use Rattle.std.proofs.lemmas.List.{get_or_append_left, get_or_push, length_push}
use Rattle.std.proofs.lemmas.Option.{slice_get_past, slice_get_within}
use Rattle.packet_view.specs.Captures.{PacketFacts}
use Rattle.bihash_words.specs.declared.shape.Shape.{Ghosts}
use Rattle.flow_dealing.specs.Dealt.{AreWorkers, IsDealtTo}
use Rattle.flow_dealing.specs.declared.dealer.Dealer.{Dealer}

-- ---- Where a packet stands

-- what stands in front stays where more is put behind
pub front_only : {X : Type 0} (xs ys : List X) (i : ℕ) → i < length xs → slice_get (xs ++ ys) i ≡ slice_get xs i
front_only [] ys i inside = absurd (omega arith)
front_only (x ∷ xs) ys zero inside = refl
front_only (x ∷ xs) ys (suc i) inside = front_only xs ys i (omega arith)

-- where so many are left, one can be taken
pub some_left : {X : Type 0} (xs : List X) (at : ℕ) → at < length xs → drop at xs ≡ [] → ⊥
some_left [] at inside none = omega arith
some_left (x ∷ xs) zero inside none = cc
some_left (x ∷ xs) (suc at) inside none = some_left xs at (omega arith) none

pub none_left : {X : Type 0} (xs : List X) (at : ℕ) → drop at xs ≡ [] → length xs ≤ at
none_left [] at none = omega arith
none_left (x ∷ xs) zero none = absurd (let f : ⊥ = cc in f)
none_left (x ∷ xs) (suc at) none = let less = none_left xs at none in omega arith

pub stands_at : {X : Type 0} (xs ys : List X) (k : ℕ) (x : X) → drop k xs ≡ x ∷ ys → slice_get xs k ≡ Some x
stands_at [] ys zero x e = absurd (let f : ⊥ = cc in f)
stands_at [] ys (suc k) x e = absurd (let f : ⊥ = cc in f)
stands_at (y ∷ xs) ys zero x e = cc
stands_at (y ∷ xs) ys (suc k) x e = stands_at xs ys k x e

-- the first one that is left behind some others is the next after them
pub next_there : {X : Type 0} (xs ys : List X) (first k : ℕ) (x : X) → drop (first + k) xs ≡ x ∷ ys
    → slice_get (drop first xs) k ≡ Some x
next_there xs ys first k x left = stands_at (drop first xs) ys k x (drop-drop k first xs ∙ left)

pub there_behind : {X : Type 0} (xs : List X) (n k : ℕ) → slice_get (drop n xs) k ≡ slice_get xs (n + k)
there_behind xs zero k = ap (slice_get xs) (let e : k ≡ zero + k = omega arith in e)
there_behind [] (suc n) k = sym (slice_get_past [] (suc n + k) (omega arith))
there_behind (x ∷ xs) (suc n) k =
    there_behind xs n k ∙ ap (slice_get (x ∷ xs)) (let e : suc (n + k) ≡ suc n + k = omega arith in e)

-- ---- Workers of packets

module _ {A B K L : Type 0} (ga : Ghosts A K) (gb : Ghosts B L) (dealer : Dealer) (first : ℕ)
    (packets : List PacketFacts) where
  pub workers_push : (workers : List ℕ) (w : ℕ) (packet : PacketFacts) → AreWorkers ga gb dealer first workers packets
      → slice_get packets (length workers) ≡ Some packet
      → IsDealtTo ga gb dealer (first + length workers) packet w
      → AreWorkers ga gb dealer first (workers ++ w ∷ []) packets
  workers_push workers w packet old there one = record {
    inside = let l = length_push workers w in let i = slice_get_within packets (length workers) packet there in
        omega arith;
    each = λ k other below at. elim (eqb_tells k (length workers)) [
      | inl (test, last) ↦
          let same : packet ≡ other =
          let t = sym there ∙ (ap (slice_get packets) (sym last) ∙ at) in cc in
          subst (λ n. IsDealtTo ga gb dealer (first + k) other n)
          (sym (get_or_push workers w 0 k (sym last)))
          (subst (λ (p : PacketFacts). IsDealtTo ga gb dealer (first + k) p w) same
          (subst (λ n. IsDealtTo ga gb dealer (first + n) packet w) (sym last) one))
      | inr (test, earlier) ↦
          let before : k < length workers = let l = length_push workers w in omega arith in
          subst (λ n. IsDealtTo ga gb dealer (first + k) other n)
          (sym (get_or_append_left workers (w ∷ []) 0 k before)) (old.each k other before at)
    ];
  }
