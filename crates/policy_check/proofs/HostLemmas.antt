-- Some of the packets at the front of a capture, how many, and what is seen of one.
use Rattle.std.proofs.Common.{◌≡◌, ◌⊎◌, ◌∙◌, ◌+◌, ℕ, zero, suc, List, [], ◌∷◌, Any, ap, arith, inl, inr, refl, subst, sym}
use Rattle.packet_view.specs.Frames.{Ip, frame_facts}
use Rattle.packet_view.specs.Tuples.{TupleFacts}
use Rattle.packet_view.specs.declared.frame.Frame.{Frame}
use Rattle.packet_view.specs.declared.frame.Frame.TheVariants as frame
use Rattle.packet_view.specs.declared.tuple.Direction.{Direction}
use Rattle.packet_view.specs.declared.tuple.Tuple.{Tuple}
use Rattle.policy_check.specs.SameHost.{IsOfSoMany}

pub any_here : {X : Type 0} (P : X → Type 0) (x : X) (xs : List X) → P x → Any P (x ∷ xs)
any_here P x xs holds = (0, x, omega arith, refl, holds)

pub any_later : {X : Type 0} (P : X → Type 0) (x : X) (xs : List X) → Any P xs → Any P (x ∷ xs)
any_later P x xs (k, y, within, there, holds) = (suc k, y, omega (arith, within), there, holds)

pub any_cases : {X : Type 0} (P : X → Type 0) (x : X) (xs : List X) → Any P (x ∷ xs) → P x ⊎ Any P xs
any_cases P x xs (zero, y, within, there, holds) = inl (subst P (sym there) holds)
any_cases P x xs (suc k, y, within, there, holds) = inr (k, y, omega (arith, within), there, holds)

pub any_none : {X : Type 0} (P : X → Type 0) → Any P [] → ⊥
any_none P (k, y, within, there, holds) = omega (arith, within)

-- what is left behind others, none of which is so
pub record SoOfLeft {X : Type 0} (P : X → Type 0) (all left : List X) : Type 0 where
  pub yes : Any P left → Any P all
  pub no : Any P all → Any P left

pub so_on : {X : Type 0} (P : X → Type 0) (all left more : List X) (x : X) → SoOfLeft P all left → left ≡ x ∷ more → (P x → ⊥) → SoOfLeft P all more
so_on P all left more x so next not = record {
  yes = λ any. so.yes (subst (Any P) (sym next) (any_later P x more any));
  no = λ any. elim (any_cases P x more (subst (Any P) next (so.no any))) [ inl here ↦ absurd (not here) | inr later ↦ later ];
}

-- ---- counts

pub some_more : {X : Type 0} (P : X → Type 0) (left more : List X) (x : X) (count : ℕ) → left ≡ x ∷ more → P x → IsOfSoMany P more count → IsOfSoMany P left (count + 1)
some_more P left more x count next holds so = subst (λ xs. IsOfSoMany P xs (count + 1)) (sym next) (inl (holds, (count, refl, so)))

pub no_more : {X : Type 0} (P : X → Type 0) (left more : List X) (x : X) (count : ℕ) → left ≡ x ∷ more → (P x → ⊥) → IsOfSoMany P more count → IsOfSoMany P left count
no_more P left more x count next not so = subst (λ xs. IsOfSoMany P xs count) (sym next) (inr (not, so))

pub one_count : {X : Type 0} (P : X → Type 0) (xs : List X) (a b : ℕ) → IsOfSoMany P xs a → IsOfSoMany P xs b → a ≡ b
one_count P [] a b first second = first ∙ sym second
one_count P (x ∷ xs) a b (inl (holds, (m, more, so))) (inl (too, (n, others, also))) =
    more ∙ ap (λ k. k + 1) (one_count P xs m n so also) ∙ sym others
one_count P (x ∷ xs) a b (inl (holds, so)) (inr (not, also)) = absurd (not holds)
one_count P (x ∷ xs) a b (inr (not, so)) (inl (holds, also)) = absurd (not holds)
one_count P (x ∷ xs) a b (inr (not, so)) (inr (neither, also)) = one_count P xs a b so also

-- ---- what is seen

-- what is seen as a packet of IP is one
pub no_packet : (seen : Frame) (direction : Direction) (tuple : TupleFacts) → ((way : Direction) (read : Tuple) → seen ≡ frame.Ip way read → ⊥)
    → Ip direction tuple ≡ frame_facts seen → ⊥
no_packet frame.NotIp direction tuple other is = cc
no_packet frame.Malformed direction tuple other is = cc
no_packet frame.Short direction tuple other is = cc
no_packet (frame.Ip way read) direction tuple other is = other way read refl
