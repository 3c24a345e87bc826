-- None of the rules so far is the one.
use Rattle.std.proofs.Common.{◌≡◌, drop}
use Rattle.racl_views.specs.Entries.{line_among}
use Rattle.racl_c.proofs.policy_text.line_of.Given as goal

abbrev pub invariant-rules : goal.invariant-rules
invariant-rules l = line_among (drop l.at-index l.rules) l.rule ≡ line_among l.rules l.rule
