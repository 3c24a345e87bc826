use Rattle.std.proofs.Common.{◌∙◌, ap, sym}
use Rattle.racl_views.specs.RuleTexts.{without_end}
use Rattle.racl_views.proofs.RuleTextLemmas.{without_end-blank, without_end-word}
use Rattle.racl_views.proofs.rule_texts_in_policy.rule_text_before_blanks.Goals as goal

pub returns-then-not-is_blank : goal.returns-then-not-is_blank
returns-then-not-is_blank c =
    let parts = c.in-Some.ensures.cases.0 in
    parts ∙ sym (without_end-word c.in-Some.others.now c.in-Some.last.now (sym c.is_blank.ensures ∙ c.if-not-is_blank.true))
    ∙ ap without_end (sym parts) ∙ c.blanks.invariant

pub blanks-preserved : goal.blanks-preserved
blanks-preserved c =
    sym (without_end-blank c.in-Some.others.now c.in-Some.last.now (sym c.is_blank.ensures ∙ c.if-not-is_blank.false))
    ∙ ap without_end (sym c.in-Some.ensures.cases.0) ∙ c.blanks.invariant
