-- What closing a table came to is told of what is behind a handle.
use Rattle.std.proofs.Common.{◌≡◌, ℕ, List, inl, subst, sym}
use Rattle.bihash_words.specs.declared.shape.Shape.{Ghosts}
use Rattle.packet_view.specs.declared.tuple.Family.{Family}
use Rattle.flow_judge.specs.JudgeStates.{JudgeState}
use Rattle.racl_c.specs.Closings.{CloseTold, IsClosedTo}
use Rattle.racl_c.specs.declared.content_calls.Content.{Content}
use Rattle.racl_c.specs.declared.content_calls.Content.TheVariants.{Large, Standard}

pub standard_closed : {A B C D : Type 0} (ga : Ghosts A (List ℕ)) (gb : Ghosts B (List ℕ)) (la : Ghosts C (List ℕ))
    (lb : Ghosts D (List ℕ)) (family : Family) (x before after : Content) (s t : JudgeState) (answer : ℕ) → x ≡ Standard s
    → IsClosedTo ga gb family after s t → answer ≡ 0 → CloseTold ga gb la lb family x (Standard t) before after answer
standard_closed ga gb la lb family x before after s t answer is told done =
    subst (λ (y : Content). CloseTold ga gb la lb family y (Standard t) before after answer) (sym is) (inl (done, told))

pub large_closed : {A B C D : Type 0} (ga : Ghosts A (List ℕ)) (gb : Ghosts B (List ℕ)) (la : Ghosts C (List ℕ))
    (lb : Ghosts D (List ℕ)) (family : Family) (x before after : Content) (s t : JudgeState) (answer : ℕ) → x ≡ Large s
    → IsClosedTo la lb family after s t → answer ≡ 0 → CloseTold ga gb la lb family x (Large t) before after answer
large_closed ga gb la lb family x before after s t answer is told done =
    subst (λ (y : Content). CloseTold ga gb la lb family y (Large t) before after answer) (sym is) (inl (done, told))
