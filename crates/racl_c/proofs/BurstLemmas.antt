-- Frames that were judged, and one more of them that is answered at its place.
use Rattle.std.proofs.Common.{◌≡◌, ◌≢◌, ◌<◌, ◌≤◌, ◌+◌, ◌∙◌, ◌⊎◌, ℕ, zero, suc, List, add-one, ap, arith, inl, inr, length, refl, slice_index_or, slice_set, subst, sym}
use Rattle.std.proofs.lemmas.List.{get_or-set_other, get_or-set_same, get_or_default}
use Rattle.bihash_words.specs.declared.shape.Shape.{Ghosts}
use Rattle.flow_judge.specs.JudgeStates.{JudgeState}
use Rattle.racl_c.specs.Bursts.{AreJudged, IsJudgedAt, packet_in}
use Rattle.racl_c.specs.Contents.{JudgeTold}
use Rattle.racl_c.specs.declared.answer_numbers.Answer.{Answer}
use Rattle.racl_c.specs.declared.burst.Descriptor.{Descriptor}

less_is_other : (k n : ℕ) → k < n → k ≢ n
less_is_other k n less same = absurd (omega arith)

more_is_other : (k n : ℕ) → n < k → k ≢ n
more_is_other k n more same = absurd (omega arith)

less_or_same : (k n : ℕ) → k < suc n → (k < n) ⊎ (k ≡ n)
less_or_same zero zero few = inr refl
less_or_same zero (suc n) few = inl (omega arith)
less_or_same (suc k) zero few = absurd (omega arith)
less_or_same (suc k) (suc n) few = elim (less_or_same k n (omega arith)) [
  | inl less ↦ inl (omega arith)
  | inr same ↦ inr (ap suc same)
]

-- answers before and behind a place stay where it is set
pub answer_before : (answers : List Answer) (n k : ℕ) (answer a : Answer) → k < n
    → slice_index_or (slice_set answers n answer) k a ≡ slice_index_or answers k a
answer_before answers n k answer a less = get_or-set_other answers n k answer a (less_is_other k n less)

pub answer_behind : (answers : List Answer) (n k : ℕ) (answer a : Answer) → n < k
    → slice_index_or (slice_set answers n answer) k a ≡ slice_index_or answers k a
answer_behind answers n k answer a more = get_or-set_other answers n k answer a (more_is_other k n more)

pub are_judged_still : {A B K L : Type 0} (ga : Ghosts A K) (gb : Ghosts B L) (memory : List ℕ) (ds : List Descriptor)
    (answers : List Answer) (s : JudgeState) (n m : ℕ) (answer : Answer) (t : JudgeState) → m ≤ n
    → AreJudged ga gb memory ds answers s m t → AreJudged ga gb memory ds (slice_set answers n answer) s m t
are_judged_still ga gb memory ds answers s n zero answer t few judged = judged
are_judged_still ga gb memory ds answers s n (suc m) answer t few (u, before, last) = (
  u,
  are_judged_still ga gb memory ds answers s n m answer u (omega arith) before,
  λ d a. subst (λ (told : Answer). JudgeTold ga gb (packet_in memory (slice_index_or ds m d)) told u t)
      (sym (answer_before answers n m answer a (omega arith))) (last d a),
)

-- the frame is answered at its place
pub judged_here : {A B K L : Type 0} (ga : Ghosts A K) (gb : Ghosts B L) (memory : List ℕ) (ds : List Descriptor)
    (answers : List Answer) (n : ℕ) (d : Descriptor) (answer : Answer) (s t : JudgeState) → n < length ds → n < length answers
    → JudgeTold ga gb (packet_in memory (slice_index_or ds n d)) answer s t
    → IsJudgedAt ga gb memory ds (slice_set answers n answer) n s t
judged_here ga gb memory ds answers n d answer s t inside room told = λ e a.
    subst (λ (x : Answer). JudgeTold ga gb (packet_in memory (slice_index_or ds n e)) x s t)
    (sym (get_or-set_same answers n answer a room))
    (subst (λ (x : Descriptor). JudgeTold ga gb (packet_in memory x) answer s t) (get_or_default ds n d e inside) told)

-- so are all up to it
pub judged_more : {A B K L : Type 0} (ga : Ghosts A K) (gb : Ghosts B L) (memory : List ℕ) (ds : List Descriptor)
    (answers : List Answer) (n : ℕ) (answer : Answer) (s u t : JudgeState) → AreJudged ga gb memory ds answers s n u
    → IsJudgedAt ga gb memory ds (slice_set answers n answer) n u t
    → AreJudged ga gb memory ds (slice_set answers n answer) s (n + 1) t
judged_more ga gb memory ds answers n answer s u t before here =
    subst (λ (m : ℕ). AreJudged ga gb memory ds (slice_set answers n answer) s m t) (sym (add-one n))
    (u, are_judged_still ga gb memory ds answers s n n answer u (omega arith) before, here)

-- none of them met another judge
pub met_none_more : (answers : List Answer) (n : ℕ) (answer : Answer)
    → ((k : ℕ) (a : Answer) → k < n → (slice_index_or answers k a).kind ≢ 7) → n < length answers → answer.kind ≢ 7
    → (k : ℕ) (a : Answer) → k < n + 1 → (slice_index_or (slice_set answers n answer) k a).kind ≢ 7
met_none_more answers n answer before room last k a few =
    elim (less_or_same k n (omega arith)) [
      | inl less ↦ subst (λ (x : Answer). x.kind ≢ 7) (sym (answer_before answers n k answer a less)) (before k a less)
      | inr same ↦ subst (λ (x : Answer). x.kind ≢ 7)
          (sym (ap (λ i. slice_index_or (slice_set answers n answer) i a) same ∙ get_or-set_same answers n answer a room)) last
    ]
