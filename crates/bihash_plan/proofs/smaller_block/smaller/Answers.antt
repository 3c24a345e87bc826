use Rattle.std.proofs.Common.{◌≡◌, ◌<◌, ◌≤◌, ◌∙◌, ℕ, arith, subst, sym, ⊎_elim}
use Rattle.std.proofs.lemmas.Bool.{cases_lt, false≢true}
use Rattle.bihash_words.specs.Pages.{paging_of}
use Rattle.bihash_plan.specs.Plans.{Fits, keys_of}
use Rattle.bihash_plan.proofs.FirstPairs.{no_pair, some_pair}
use Rattle.bihash_plan.proofs.smaller_block.smaller.Goals as goal

pub returns-in_default : goal.returns-in_default
returns-in_default g c = record { found = tt; none = λ log2. no_pair _ _ log2 _ c.in_default.ensures.none }

pub returns-then-fits_from : goal.returns-then-fits_from
returns-then-fits_from g c = record {
  found = record {
    some = some_pair _ _ c.in-Some.ensures.found;
    less = c.loop-smaller-test.true;
    fits = c.fits_from.ensures.0 c.if-fits_from.true;
    first = c.loop-smaller.invariant;
  };
  none = tt;
}

pub loop-smaller-preserved : goal.loop-smaller-preserved
loop-smaller-preserved g c = λ other less fits. ⊎_elim
    (λ (low : other < c.loop-smaller.smaller). c.loop-smaller.invariant other low fits)
    (λ (high : c.loop-smaller.smaller ≤ other).
    let same : other ≡ c.loop-smaller.smaller = omega arith in
    false≢true (sym c.if-fits_from.false ∙ c.fits_from.ensures.1
    (subst (λ (n : ℕ). Fits (paging_of g.S.Shape) n (keys_of c.args.places.now)) same fits)))
    (cases_lt other c.loop-smaller.smaller)

pub returns : goal.returns
returns g c = record {
  found = tt;
  none = λ log2 h. c.loop-smaller.invariant log2 (omega (arith, h.less, c.loop-smaller-test.false)) h.fits;
}
