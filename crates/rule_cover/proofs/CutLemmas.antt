-- Regions and their numbers are cut as one of their parts is.
use Rattle.std.proofs.Common.{◌≡◌, ℕ, ◌^◌, arith, sym, subst, inl, inr}
use Rattle.std.specs.Prelude.{bit_or}
use Rattle.std.specs.Int.{bit_at}
use Rattle.std.proofs.lemmas.Bool.{cases_lt}
use Rattle.std.proofs.lemmas.Nat.Bits.{bit_at-lt}
use Rattle.rule_cover.specs.declared.region.Numbers.{Numbers}
use Rattle.rule_cover.specs.declared.region.Region.{Region}
use Rattle.rule_cover.specs.inner.Regions.{AreByFlag, AreNumbersCut, IsCut, IsRangeCut, first_of, flags_of, second_of}
use Rattle.rule_cover.proofs.FlagLemmas.{less_one, less_zero, one_is_set, with_one, with_zero, zero_is_clear}

pub first_cut : (numbers other : Numbers) (outside inside : ℕ × ℕ) → IsRangeCut numbers.first other.first outside inside
    → AreNumbersCut numbers other (record numbers { first = outside }) (record numbers { first = inside })
first_cut numbers other outside inside cut = record {
  splits = λ fields is. elim (cut.splits (first_of fields) is.0) [ inl out ↦ inl (out, is.1, is.2) | inr rest ↦ inr (rest, is.1, is.2) ];
  out = λ fields is. (cut.out (first_of fields) is.0, is.1, is.2);
  rest = λ fields is. (cut.rest (first_of fields) is.0, is.1, is.2);
  apart = λ fields is has. cut.apart (first_of fields) is.0 has.0;
}

pub second_cut : (numbers other : Numbers) (outside inside : ℕ × ℕ) → IsRangeCut numbers.second other.second outside inside
    → AreNumbersCut numbers other (record numbers { second = outside }) (record numbers { second = inside })
second_cut numbers other outside inside cut = record {
  splits = λ fields is. elim (cut.splits (second_of fields) is.1) [ inl out ↦ inl (is.0, out, is.2) | inr rest ↦ inr (is.0, rest, is.2) ];
  out = λ fields is. (is.0, cut.out (second_of fields) is.1, is.2);
  rest = λ fields is. (is.0, cut.rest (second_of fields) is.1, is.2);
  apart = λ fields is has. cut.apart (second_of fields) is.1 has.1;
}

pub source_cut : (region other : Region) (outside inside : ℕ × ℕ) → IsRangeCut region.source other.source outside inside
    → IsCut region other (record region { source = outside }) (record region { source = inside })
source_cut region other outside inside cut = record {
  splits = λ tuple is. elim (cut.splits tuple.source is.2) [ inl out ↦ inl (is.0, is.1, out, is.3, is.4, is.5) | inr rest ↦ inr (is.0, is.1, rest, is.3, is.4, is.5) ];
  out = λ tuple is. (is.0, is.1, cut.out tuple.source is.2, is.3, is.4, is.5);
  rest = λ tuple is. (is.0, is.1, cut.rest tuple.source is.2, is.3, is.4, is.5);
  apart = λ tuple is has. cut.apart tuple.source is.2 has.2;
}

pub dest_cut : (region other : Region) (outside inside : ℕ × ℕ) → IsRangeCut region.dest other.dest outside inside
    → IsCut region other (record region { dest = outside }) (record region { dest = inside })
dest_cut region other outside inside cut = record {
  splits = λ tuple is. elim (cut.splits tuple.dest is.3) [ inl out ↦ inl (is.0, is.1, is.2, out, is.4, is.5) | inr rest ↦ inr (is.0, is.1, is.2, rest, is.4, is.5) ];
  out = λ tuple is. (is.0, is.1, is.2, cut.out tuple.dest is.3, is.4, is.5);
  rest = λ tuple is. (is.0, is.1, is.2, cut.rest tuple.dest is.3, is.4, is.5);
  apart = λ tuple is has. cut.apart tuple.dest is.3 has.3;
}

pub proto_cut : (region other : Region) (outside inside : ℕ × ℕ) → IsRangeCut region.proto other.proto outside inside
    → IsCut region other (record region { proto = outside }) (record region { proto = inside })
proto_cut region other outside inside cut = record {
  splits = λ tuple is. elim (cut.splits tuple.proto is.4) [ inl out ↦ inl (is.0, is.1, is.2, is.3, out, is.5) | inr rest ↦ inr (is.0, is.1, is.2, is.3, rest, is.5) ];
  out = λ tuple is. (is.0, is.1, is.2, is.3, cut.out tuple.proto is.4, is.5);
  rest = λ tuple is. (is.0, is.1, is.2, is.3, cut.rest tuple.proto is.4, is.5);
  apart = λ tuple is has. cut.apart tuple.proto is.4 has.4;
}

pub flag_cut : (numbers : Numbers) (flag bit : ℕ) → bit ≡ 2 ^ flag
    → AreByFlag flag numbers (record numbers { zeros = bit_or numbers.zeros bit }) (record numbers { ones = bit_or numbers.ones bit })
flag_cut numbers flag bit is =
    subst (λ (b : ℕ). AreByFlag flag numbers (record numbers { zeros = bit_or numbers.zeros b }) (record numbers { ones = bit_or numbers.ones b })) (sym is)
    (record {
      splits = λ fields has. elim (cases_lt (bit_at (flags_of fields) flag) 1) [
        | inl none ↦ inl (has.0, has.1, with_zero numbers.ones numbers.zeros flag (flags_of fields) has.2 (omega arith))
        | inr some ↦ inr (has.0, has.1, with_one numbers.ones numbers.zeros flag (flags_of fields) has.2 (omega (arith, bit_at-lt (flags_of fields) flag)))
      ];
      less = λ fields has. (has.0, has.1, less_zero numbers.ones numbers.zeros (2 ^ flag) (flags_of fields) has.2);
      more = λ fields has. (has.0, has.1, less_one numbers.ones numbers.zeros (2 ^ flag) (flags_of fields) has.2);
      lacks = λ fields has. zero_is_clear numbers.ones numbers.zeros flag (flags_of fields) has.2;
      has = λ fields has. one_is_set numbers.ones numbers.zeros flag (flags_of fields) has.2;
    })
