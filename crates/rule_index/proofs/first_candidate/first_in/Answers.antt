use Rattle.std.proofs.Common.{arith, ◌∙◌, ℕ, map, ap}
use Rattle.std.specs.Int.{w64, trailing_zeros, bit_at}
use Rattle.std.proofs.lemmas.Nat.Bits.{bit_at-trailing_zeros, bit_at-zero}
use Rattle.packet_view.specs.Tuples.{tuple_facts}
use Rattle.acl_policy.specs.Rules.{rule_facts}
use Rattle.rule_index.proofs.SieveLemmas.{cleared_less, kept_without, none_before_bit}
use Rattle.rule_index.proofs.first_candidate.first_in.Goals as goal

pub returns : goal.returns
returns c =
    none_before_bit (map rule_facts c.args.rules.now) (tuple_facts c.args.tuple.now) c.args.from c.loop-left.left 64 (omega arith) c.requires.before c.loop-left.invariant
    (λ i within. ap (λ (n : ℕ). bit_at n i) c.loop-left-test.false ∙ bit_at-zero i)

pub returns-in-Some : goal.returns-in-Some
returns-in-Some c =
    let zeros = bit_at-trailing_zeros w64 c.loop-left.left (omega arith) (omega arith) in
    let m = c.in-Some.ensures in
    (m.0, m.1, m.2, m.3, none_before_bit (map rule_facts c.args.rules.now) (tuple_facts c.args.tuple.now) c.args.from c.loop-left.left (trailing_zeros w64 c.loop-left.left) (omega arith) c.requires.before c.loop-left.invariant zeros.2)

pub loop-left-preserved : goal.loop-left-preserved
loop-left-preserved c =
    let zeros = bit_at-trailing_zeros w64 c.loop-left.left (omega arith) (omega arith) in
    kept_without (map rule_facts c.args.rules.now) (tuple_facts c.args.tuple.now) c.args.from c.loop-left.left (trailing_zeros w64 c.loop-left.left) zeros.0 c.loop-left.invariant c.in_default.ensures

pub loop-left-smaller : goal.loop-left-smaller
loop-left-smaller c =
    let zeros = bit_at-trailing_zeros w64 c.loop-left.left (omega arith) (omega arith) in
    cleared_less c.loop-left.left (trailing_zeros w64 c.loop-left.left) zeros.0 zeros.1
