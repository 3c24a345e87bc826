use Rattle.std.proofs.Common.{◌≤◌, ◌<◌, ◌-◌, ◌+◌, ◌*◌, ◌/◌, ◌++◌, ◌∙◌, ℕ, List, [], ◌∷◌, length, get_or, ap, subst, sym, arith}
use Rattle.std.specs.Prelude.{slice_index}
use Rattle.std.proofs.Math.ListN.{get_or-append}
use Rattle.std.proofs.lemmas.List.{get_or_default, get_or_push, length_push}
use Rattle.std.proofs.lemmas.List.Sorted.{IsNonDecreasingBy-push}
use Rattle.rule_index.specs.Rows.{AreStarts}
use Rattle.rule_index.proofs.column.interval_starts.thin.Goals as goal

-- each of the starts is at most this
abbrev AreUpTo : List ℕ → ℕ → Type 0
AreUpTo starts last = (k : ℕ) → k < length starts → slice_index starts k ≤ last

-- a number above all starts is one more
more_starts : (starts : List ℕ) (x last : ℕ) → AreStarts starts → AreUpTo starts last → last < x → AreStarts (starts ++ x ∷ [])
more_starts starts x last are up above = record {
  some = omega (arith, length_push starts x);
  zero = get_or-append starts (x ∷ []) 0 0 are.some ∙ are.zero;
  ordered = IsNonDecreasingBy-push (λ n. n) starts x are.ordered
      (λ d some. omega (arith, get_or_default starts (length starts - 1) d 0 (omega arith), up (length starts - 1) (omega arith)));
}

more_up : (starts : List ℕ) (x last : ℕ) → AreUpTo starts last → last < x → AreUpTo (starts ++ x ∷ []) x
more_up starts x last up above k within = grind (arith, length_push starts x, get_or-append, get_or_push, up)

pub loop-k-preserved : goal.loop-k-preserved
loop-k-preserved c =
    let starts = c.loop-k.starts.items in
    let last = c.loop-k.last in
    let bound : ℕ = get_or c.args.bounds.now (c.loop-k.k * (length c.args.bounds.now / 5000 + 1)) 0 in
    let pushed = c.in_ok-push-2.ensures.items in
    record {
      ordered = subst AreStarts (sym pushed) (more_starts starts bound last c.loop-k.invariant.ordered c.loop-k.invariant.last c.if-bound-last.false);
      few = omega (arith, ap length pushed, length_push starts bound);
      last = subst (λ (s : List ℕ). AreUpTo s bound) (sym pushed) (more_up starts bound last c.loop-k.invariant.last c.if-bound-last.false);
    }
