use Rattle.std.proofs.Common.{◌≡◌, length, map, take}
use Rattle.std.specs.Str.Lines.{lines}
use Rattle.racl_views.specs.RuleTexts.{rule_text, shown_of}
use Rattle.racl_views.proofs.rule_texts_in_policy.texts_in.Given as goal

-- the texts of the lines so far
abbrev pub invariant-loop-line : goal.invariant-loop-line
invariant-loop-line l = map shown_of l.texts.items ≡ map rule_text (take (length l.yielded) (lines l.text))
