use Rattle.std.proofs.Common.{arith, ◌≡◌, ◌<◌, ◌/◌, ◌∙◌, ℕ, length, inl, inr, map, refl, ap, sym, subst}
use Rattle.std.proofs.lemmas.Bool.{cases_eq}
use Rattle.std.proofs.lemmas.List.{length-map}
use Rattle.std.proofs.lemmas.Option.{slice_get_read, slice_get_within}
use Rattle.acl_policy.specs.Rules.{RuleFacts, rule_facts}
use Rattle.rule_index.specs.Rows.{bit_in}
use Rattle.rule_index.proofs.RuleLemmas.{facts_there}
use Rattle.rule_index.proofs.flag_rows.building_and_reading.mark_free.Goals as goal

pub loop-place-preserved-then-rule-ne0 : goal.loop-place-preserved-then-rule-ne0
loop-place-preserved-then-rule-ne0 c =
    let rules = c.args.rules.now in
    let i = c.loop-place.place in
    let item = c.index-rules-place.result in
    let here = slice_get_read rules (length rules) i item refl (omega arith) c.index-rules-place.is in
    record {
      len = c.loop-place.invariant.len;
      first = λ k rule below read none.
          elim (cases_eq k i) [
            | inl same ↦
                let alike : rule ≡ rule_facts item = facts_there rules i k item rule here same read in
                let clear : item.mask ≡ 0 = sym (ap (λ (r : RuleFacts). r.mask) alike) ∙ none in
                absurd (c.if-rule-ne0.true clear)
            | inr other ↦ c.loop-place.invariant.first k rule (omega (arith, other)) read none
          ];
      still = c.loop-place.invariant.still;
    }

pub loop-place-preserved : goal.loop-place-preserved
loop-place-preserved c =
    let width = c.args.width in
    let i = c.loop-place.place in
    record {
      len = omega arith;
      first = λ k rule below read none.
          elim (cases_eq k i) [
            | inl same ↦ subst (λ (n : ℕ). bit_in width c.set_bit.new.rows 0 n ≡ 1) (sym same) c.set_bit.ensures.set
            | inr other ↦
                let inside : k < length (map rule_facts c.args.rules.now) = slice_get_within (map rule_facts c.args.rules.now) k rule read in
                let short : k / 64 < width = omega (arith, inside, length-map c.args.rules.now rule_facts) in
                c.set_bit.ensures.others 0 k short (inr other) ∙ c.loop-place.invariant.first k rule (omega (arith, other)) read none
          ];
      still = λ row k short apart. c.set_bit.ensures.others row k short (inl apart) ∙ c.loop-place.invariant.still row k short apart;
    }

pub returns-clause-first : goal.returns-clause-first
returns-clause-first c = λ k rule read.
    c.loop-place.invariant.first k rule
    (let within : k < length (map rule_facts c.args.rules.now) = slice_get_within (map rule_facts c.args.rules.now) k rule read in omega (arith, length-map c.args.rules.now rule_facts)) read
