use Rattle.std.proofs.Common.{◌∙◌, sym}
use Rattle.policy_check.proofs.TextKindLemmas.{no_kind}
use Rattle.policy_check.proofs.kinds_of_other_texts.kind_of_other.Goals as goal

pub returns-in-None-None-clause-none : goal.returns-in-None-None-clause-none
returns-in-None-None-clause-none c = λ none.
    no_kind c.args.text.now (sym c.is_capture.ensures ∙ c.if-is_capture.false) (c.begins_as_utf16.ensures.no c.if-begins_as_utf16.false)
    (c.marked_line.ensures.none c.in-None-None.is-0) (c.line_for_expand.ensures.none c.in-None-None.is-1)
