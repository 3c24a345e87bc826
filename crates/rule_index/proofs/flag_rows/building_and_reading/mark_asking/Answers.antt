use Rattle.std.proofs.Common.{arith, ◌≡◌, ◌<◌, ◌/◌, ◌∙◌, ℕ, length, inl, inr, map, refl, ap, subst, sym, Some}
use Rattle.std.specs.Prelude.{slice_get}
use Rattle.std.proofs.lemmas.Bool.{cases_eq}
use Rattle.std.proofs.lemmas.List.{length-map}
use Rattle.std.proofs.lemmas.Option.{slice_get_read, slice_get_within}
use Rattle.acl_policy.specs.Matching.{Matches}
use Rattle.acl_policy.specs.Rules.{RuleFacts, rule_facts}
use Rattle.rule_index.specs.Rows.{bit_in}
use Rattle.rule_index.proofs.RuleLemmas.{facts_there}
use Rattle.rule_index.proofs.flag_rows.building_and_reading.mark_asking.Goals as goal

pub loop-place-preserved-then-rule-eq0 : goal.loop-place-preserved-then-rule-eq0
loop-place-preserved-then-rule-eq0 c =
    let rules = c.args.rules.now in
    let i = c.loop-place.place in
    let item = c.index-rules-place.result in
    let here = slice_get_read rules (length rules) i item refl (omega arith) c.index-rules-place.is in
    record {
      len = c.loop-place.invariant.len;
      free = c.loop-place.invariant.free;
      held = λ k x rule tuple below read within at matches.
          elim (cases_eq k i) [
            | inl same ↦
                let alike : rule ≡ rule_facts item = facts_there rules i k item rule here same read in
                c.loop-place.invariant.free k x rule read (ap (λ (r : RuleFacts). r.mask) alike ∙ c.if-rule-eq0.true) within
            | inr other ↦ c.loop-place.invariant.held k x rule tuple (omega (arith, other)) read within at matches
          ];
    }

pub loop-place-preserved : goal.loop-place-preserved
loop-place-preserved c =
    let rules = c.args.rules.now in
    let width = c.args.width in
    let i = c.loop-place.place in
    let item = c.index-rules-place.result in
    let here = slice_get_read rules (length rules) i item refl (omega arith) c.index-rules-place.is in
    let short : (k : ℕ) (rule : RuleFacts) → slice_get (map rule_facts rules) k ≡ Some rule → k / 64 < width =
    λ k rule read. let inside : k < length (map rule_facts rules) = slice_get_within (map rule_facts rules) k rule read in omega (arith, inside, length-map rules rule_facts) in
    record {
      len = omega arith;
      free = λ k x rule read none within. c.mark_flags.ensures.kept x k (short k rule read) (c.loop-place.invariant.free k x rule read none within);
      held = λ k x rule tuple below read within at matches.
          elim (cases_eq k i) [
            | inl same ↦
                let alike : rule ≡ rule_facts item = facts_there rules i k item rule here same read in
                subst (λ (n : ℕ). bit_in width c.mark_flags.new.rows x n ≡ 1) (sym same)
                (c.mark_flags.ensures.marked x tuple within at (subst (λ (r : RuleFacts). Matches r tuple) alike matches))
            | inr other ↦ c.mark_flags.ensures.kept x k (short k rule read) (c.loop-place.invariant.held k x rule tuple (omega (arith, other)) read within at matches)
          ];
    }

pub returns-clause-marked : goal.returns-clause-marked
returns-clause-marked c = λ k x rule tuple read.
    c.loop-place.invariant.held k x rule tuple (let within : k < length (map rule_facts c.args.rules.now) = slice_get_within (map rule_facts c.args.rules.now) k rule read in omega (arith, length-map c.args.rules.now rule_facts)) read
