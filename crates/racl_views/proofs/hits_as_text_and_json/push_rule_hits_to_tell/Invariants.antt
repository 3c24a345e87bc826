use Rattle.std.proofs.Common.{◌≡◌, ◌++◌, List, Option, drop}
use Rattle.racl_views.specs.Hits.{rule_hits}
use Rattle.racl_views.specs.declared.rule_numbering.RuleName.{RuleName}
use Rattle.racl_views.specs.inner.Counts.{Count}
use Rattle.racl_views.proofs.hits_as_text_and_json.push_rule_hits_to_tell.Given as goal

-- the hits so far, and those of the rules that are left
abbrev pub invariant-rules : goal.invariant-rules
invariant-rules l = (deciding : List (Option RuleName)) → Count l.counts deciding
    → l.hits.items ++ rule_hits deciding (drop l.at-index l.rules) ≡ l.fn.hits.items ++ rule_hits deciding l.rules
