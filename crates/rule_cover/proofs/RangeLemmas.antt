-- Ranges of numbers: the addresses of a prefix, and how a range is cut.
use Rattle.std.proofs.Common.{◌<◌, ℕ, ◌+◌, ◌-◌, arith, inl, inr, min, max}
use Rattle.std.proofs.lemmas.Bool.{cases_lt}
use Rattle.rule_cover.specs.inner.Regions.{IsRangeCut}

pub cut_below : (a b c d : ℕ) → a < c → IsRangeCut (a, b) (c, d) (a, min b (c - 1)) (c, b)
cut_below a b c d less = record {
  splits = λ n is. elim (cases_lt n c) [ inl early ↦ inl (is.0, omega arith) | inr late ↦ inr (omega arith, is.1) ];
  out = λ n is. (is.0, omega arith);
  rest = λ n is. (omega arith, is.1);
  apart = λ n is other. omega arith;
}

pub cut_above : (a b c d : ℕ) → d < b → IsRangeCut (a, b) (c, d) (max a (d + 1), b) (a, d)
cut_above a b c d less = record {
  splits = λ n is. elim (cases_lt d n) [ inl behind ↦ inl (omega arith, is.1) | inr within ↦ inr (is.0, omega arith) ];
  out = λ n is. (omega arith, is.1);
  rest = λ n is. (is.0, omega arith);
  apart = λ n is other. omega arith;
}
