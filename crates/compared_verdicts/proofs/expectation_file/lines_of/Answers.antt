use Rattle.std.proofs.Common.{◌∙◌, ◌++◌, ◌∷◌, [], List, ℕ, ap, arith, length, map, sym, take}
use Rattle.std.specs.Str.Lines.{lines}
use Rattle.std.proofs.lemmas.Iterator.Consumers.{YieldsList-end, YieldsList-turn}
use Rattle.std.proofs.lemmas.Iterator.Splits.{YieldsList-from_lines}
use Rattle.std.proofs.lemmas.List.{length_push, map_push, take_all, take_more}
use Rattle.compared_verdicts.specs.inner.Reading.{line_text}
use Rattle.compared_verdicts.proofs.expectation_file.lines_of.Goals as goal

pub loop-line-preserved : goal.loop-line-preserved
loop-line-preserved c =
    let all : List (List ℕ) = lines c.args.text.now in
    let n = length c.loop-line.yielded in
    let turn = YieldsList-turn (YieldsList-from_lines c.args.text.now cc) c.loop-line.yielded _ c.loop-line.yielded_by _ _ c.in-Some.line c.in-Some.is c.next.ensures.steps in
    ap (map line_text) c.in_ok-push.ensures.items ∙ map_push line_text c.loop-line.found.items c.as_bytes.result
    ∙ ap (λ (ls : List (List ℕ)). ls ++ c.as_bytes.result.now ∷ []) c.loop-line.invariant
    ∙ ap (λ (l : List ℕ). take n all ++ l ∷ []) (c.as_bytes.ensures.value ∙ turn.1)
    ∙ sym (take_more all n c.in-Some.line.now turn.0)
    ∙ ap (λ (k : ℕ). take k all) (sym (length_push c.loop-line.yielded c.in-Some.line))

pub returns : goal.returns
returns c =
    let all : List (List ℕ) = lines c.args.text.now in
    let end = YieldsList-end (YieldsList-from_lines c.args.text.now cc) c.loop-line.yielded _ c.loop-line.yielded_by _ _ c.in-None.is c.next.ensures.steps in
    c.loop-line.invariant ∙ ap (λ (n : ℕ). take n all) end.1 ∙ take_all (length all) all (omega arith)
