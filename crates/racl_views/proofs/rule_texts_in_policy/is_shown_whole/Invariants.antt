use Rattle.std.proofs.Common.{◌≡◌, length}
use Rattle.std.specs.List.{list_all}
use Rattle.racl_views.specs.RuleTexts.{is_shown_byte}
use Rattle.racl_views.proofs.rule_texts_in_policy.is_shown_whole.Given as goal

-- what is left decides
abbrev pub invariant-bytes : goal.invariant-bytes
invariant-bytes l = list_all is_shown_byte l.rest ≡ list_all is_shown_byte l.line

abbrev pub decreases-bytes : goal.decreases-bytes
decreases-bytes l = length l.rest
