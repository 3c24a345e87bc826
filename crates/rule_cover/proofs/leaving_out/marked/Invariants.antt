use Rattle.std.proofs.Common.{◌<◌, ℕ, All, length}
use Rattle.std.specs.Prelude.{Contains}
use Rattle.rule_cover.specs.Covers.{IsMarked}
use Rattle.rule_cover.proofs.leaving_out.marked.Given as goal

-- The places so far that are marked.
abbrev pub invariant-loop-place : goal.invariant-loop-place
invariant-loop-place l =
    All (λ k. k < length l.marks) l.places.items × ((k : ℕ) → k < l.place → IsMarked l.marks k → Contains l.places.items k)
