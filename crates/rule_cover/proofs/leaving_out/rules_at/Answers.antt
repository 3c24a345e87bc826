use Rattle.std.proofs.Common.{◌<◌, ◌∙◌, ◌+◌, ap, arith, get_or, length, map, refl, subst, sym, take}
use Rattle.std.proofs.lemmas.List.{map_push}
use Rattle.std.proofs.lemmas.List.Elements.{All-get_or}
use Rattle.std.proofs.lemmas.Option.{slice_get_read}
use Rattle.acl_policy.specs.Rules.{rule_facts}
use Rattle.acl_policy.proofs.RulingLemmas.{slice_get-rule_facts}
use Rattle.rule_cover.specs.inner.Takers.{AreAt}
use Rattle.rule_cover.proofs.TakerLemmas.{at_more}
use Rattle.rule_cover.proofs.leaving_out.rules_at.Goals as goal

pub loop-i-preserved : goal.loop-i-preserved
loop-i-preserved c =
    let rules = c.args.rules.now in
    let places = c.args.places.now in
    let i = c.loop-i.i in
    let place = get_or places i 0 in
    let rule = c.index-rules-places.result in
    let within = All-get_or (λ k. k < length rules) places i 0 (omega arith) c.requires in
    let at = slice_get-rule_facts rules place rule (slice_get_read rules (length rules) place rule refl within c.index-rules-places.is) in
    let items = ap (map rule_facts) c.in_ok-push.ensures.items ∙ map_push rule_facts c.loop-i.others.items rule in
    subst (AreAt (map rule_facts rules) (take (i + 1) places)) (sym items)
    (at_more (map rule_facts rules) places i (map rule_facts c.loop-i.others.items) (rule_facts rule) (omega arith) at c.loop-i.invariant)
