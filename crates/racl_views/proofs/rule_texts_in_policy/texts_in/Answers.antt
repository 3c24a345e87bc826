use Rattle.std.proofs.Common.{◌∙◌, ◌++◌, ◌∷◌, [], ℕ, List, ap, arith, length, map, sym, take}
use Rattle.std.specs.Str.Lines.{lines}
use Rattle.std.proofs.lemmas.Iterator.Consumers.{YieldsList-end, YieldsList-turn}
use Rattle.std.proofs.lemmas.Iterator.Splits.{YieldsList-from_lines}
use Rattle.std.proofs.lemmas.List.{length_push, map-append}
use Rattle.racl_views.specs.RuleTexts.{rule_text, shown_of}
use Rattle.racl_views.proofs.RuleTextLemmas.{texts_done, texts_more}
use Rattle.racl_views.proofs.rule_texts_in_policy.texts_in.Goals as goal

pub loop-line-preserved : goal.loop-line-preserved
loop-line-preserved c =
    let turn = YieldsList-turn (YieldsList-from_lines c.args.text.now cc) c.loop-line.yielded _ c.loop-line.yielded_by _ _ c.in-Some.line c.in-Some.is c.next.ensures.steps in
    let count = length_push c.loop-line.yielded c.in-Some.line in
    let old = map shown_of c.loop-line.texts.items in
    let pushed = ap (map shown_of) c.in_ok-push.ensures.items ∙ map-append shown_of c.loop-line.texts.items (c.rule_text.result ∷ [])
    ∙ ap (λ (t : List ℕ). old ++ t ∷ []) (rw c.as_bytes.ensures.value at c.rule_text.ensures) in
    texts_more (lines c.args.text.now) (length c.loop-line.yielded) c.in-Some.line.now old (map shown_of c.push.new.self.items) turn.0 turn.1 c.loop-line.invariant pushed
    ∙ ap (λ (n : ℕ). map rule_text (take n (lines c.args.text.now))) (sym count)

pub returns : goal.returns
returns c =
    let end = YieldsList-end (YieldsList-from_lines c.args.text.now cc) c.loop-line.yielded _ c.loop-line.yielded_by _ _ c.in-None.is c.next.ensures.steps in
    texts_done (lines c.args.text.now) (length c.loop-line.yielded) (map shown_of c.loop-line.texts.items) (let e = end.1 in omega arith) c.loop-line.invariant
