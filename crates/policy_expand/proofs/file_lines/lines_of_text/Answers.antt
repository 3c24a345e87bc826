use Rattle.std.proofs.Common.{◌∙◌, List, ℕ, ap, arith, length, map, refl, rules, sym, take}
use Rattle.std.specs.Str.Lines.{lines}
use Rattle.std.proofs.lemmas.Iterator.Consumers.{YieldsList-end, YieldsList-turn}
use Rattle.std.proofs.lemmas.Iterator.Splits.{YieldsList-from_lines}
use Rattle.std.proofs.lemmas.List.{length_push, take_all}
use Rattle.policy_expand.specs.Sources.{numbered, source_facts}
use Rattle.policy_expand.proofs.SourceLemmas.{numbered_next}
use Rattle.policy_expand.proofs.file_lines.lines_of_text.Goals as goal

pub loop-line-preserved : goal.loop-line-preserved
loop-line-preserved c =
    let all : List (List ℕ) = lines c.args.text.now in
    let n = length c.loop-line.yielded in
    let turn = YieldsList-turn (YieldsList-from_lines c.args.text.now cc) c.loop-line.yielded _ c.loop-line.yielded_by _ _ c.in-Some.line c.in-Some.is c.next.ensures.steps in
    ap (map source_facts) c.in_ok-push.ensures.items
    ∙ numbered_next c.args.file.now all n c.loop-line.found.items _ c.in-Some.line.now turn.0 c.loop-line.invariant refl (search rules) (c.as_bytes.ensures.value ∙ turn.1)
    ∙ ap (λ (k : ℕ). numbered c.args.file.now (take k all)) (sym (length_push c.loop-line.yielded c.in-Some.line))

pub returns : goal.returns
returns c =
    let all : List (List ℕ) = lines c.args.text.now in
    let end = YieldsList-end (YieldsList-from_lines c.args.text.now cc) c.loop-line.yielded _ c.loop-line.yielded_by _ _ c.in-None.is c.next.ensures.steps in
    c.loop-line.invariant ∙ ap (λ (ls : List (List ℕ)). numbered c.args.file.now ls) (ap (λ (n : ℕ). take n all) end.1 ∙ take_all (length all) all (omega arith))
