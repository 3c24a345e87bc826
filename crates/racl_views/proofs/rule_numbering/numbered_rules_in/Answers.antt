use Rattle.std.proofs.Common.{◌≡◌, ◌++◌, [], ◌∷◌, ℕ, arith, drop, length, map, subst, sym}
use Rattle.std.specs.Str.Lines.{lines}
use Rattle.std.proofs.lemmas.Iterator.Consumers.{YieldsList-end, YieldsList-turn}
use Rattle.std.proofs.lemmas.Iterator.Splits.{YieldsList-from_lines}
use Rattle.std.proofs.lemmas.List.{length_push}
use Rattle.packet_view.specs.declared.tuple.Direction.TheVariants.{Inbound, Outbound}
use Rattle.acl_policy.specs.inner.Reading.Lines.{line_facts}
use Rattle.racl_views.specs.RuleLines.{rules_from}
use Rattle.racl_views.specs.inner.Spots.{said}
use Rattle.racl_views.proofs.LineLemmas.{few_rules, rules_done, rules_more}
use Rattle.racl_views.proofs.rule_numbering.numbered_rules_in.Goals as goal

pub number_rules_past_line-requires : goal.number_rules_past_line-requires
number_rules_past_line-requires c =
    let h = c.loop-line.invariant in
    let i = h.behind.inbound in
    let o = h.behind.outbound in
    let l = h.as_many in
    let n = h.counted in (omega (arith, few_rules Inbound h.before), omega (arith, few_rules Outbound h.before))

pub loop-line-preserved : goal.loop-line-preserved
loop-line-preserved c =
    let h = c.loop-line.invariant in
    let turn = YieldsList-turn (YieldsList-from_lines c.args.text.now cc) c.loop-line.yielded _ c.loop-line.yielded_by _ _ c.in-Some.line c.in-Some.is c.next.ensures.steps in
    let says : line_facts c.line_for_numbering.result ≡ said c.in-Some.line.now = rw c.as_bytes.ensures.value at c.line_for_numbering.ensures in
    let count = length_push c.loop-line.yielded c.in-Some.line in
    let next = c.in_ok-number_rules_past_line.ensures.behind h.before h.behind in
    let n = h.counted in
    let l = h.as_many in
    let all = rules_more (lines c.args.text.now) (length c.loop-line.yielded) c.in-Some.line.now h.before (line_facts c.line_for_numbering.result) c.loop-line.rules.items
    c.number_rules_past_line.new.rules.items turn.0 turn.1 says (c.in_ok-number_rules_past_line.ensures.rule h.before h.behind (omega arith)) h.all in
    record {
      before = line_facts c.line_for_numbering.result ∷ h.before;
      behind = next;
      counted = omega (arith, count);
      as_many = omega (arith, count);
      all = subst (λ (n : ℕ). rules_from [] (map said (lines c.args.text.now))
          ≡ c.number_rules_past_line.new.rules.items ++ rules_from (line_facts c.line_for_numbering.result ∷ h.before) (map said (drop n (lines c.args.text.now)))) (sym count) all;
    }

pub returns : goal.returns
returns c =
    let end = YieldsList-end (YieldsList-from_lines c.args.text.now cc) c.loop-line.yielded _ c.loop-line.yielded_by _ _ c.in-None.is c.next.ensures.steps in
    let h = c.loop-line.invariant in
    rules_done (lines c.args.text.now) h.before c.loop-line.rules.items (length c.loop-line.yielded) (let e = end.1 in omega arith) h.all
