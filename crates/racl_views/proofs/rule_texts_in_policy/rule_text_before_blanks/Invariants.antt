use Rattle.std.proofs.Common.{◌≡◌, length}
use Rattle.racl_views.specs.RuleTexts.{without_end}
use Rattle.racl_views.proofs.rule_texts_in_policy.rule_text_before_blanks.Given as goal

-- only blanks were left out
abbrev pub invariant-blanks : goal.invariant-blanks
invariant-blanks l = without_end l.kept ≡ without_end l.text

abbrev pub decreases-blanks : goal.decreases-blanks
decreases-blanks l = length l.kept
