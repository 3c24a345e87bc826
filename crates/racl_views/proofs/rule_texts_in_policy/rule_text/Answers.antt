use Rattle.std.proofs.Common.{◌∙◌, ap, subst, sym, take}
use Rattle.std.specs.Str.{IsUtf8}
use Rattle.racl_views.specs.RuleTexts.{from_word, without_end}
use Rattle.racl_views.proofs.ShownTexts.{rule_text_utf8}
use Rattle.racl_views.proofs.rule_texts_in_policy.rule_text.Goals as goal

pub returns : goal.returns
returns c =
    let words = c.rule_text_after_blanks-words.ensures ∙ ap from_word c.rule_line_with_comment.ensures in
    let cut = c.rule_text_cut.ensures.text ∙ ap (take 200) (c.rule_text_before_blanks.ensures ∙ ap without_end words) in
    c.rule_text_of.ensures (subst IsUtf8 (sym cut) (rule_text_utf8 c.args.line.now)) ∙ cut
