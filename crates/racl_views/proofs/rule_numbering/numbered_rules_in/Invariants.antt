use Rattle.std.proofs.Common.{◌≡◌, ◌++◌, [], List, drop, length, map}
use Rattle.std.specs.Str.Lines.{lines}
use Rattle.acl_policy.specs.Lines.{LineFacts}
use Rattle.racl_views.specs.RuleLines.{rules_from}
use Rattle.racl_views.specs.inner.Spots.{IsBehind, said}
use Rattle.racl_views.proofs.rule_numbering.numbered_rules_in.Given as goal

-- the rules so far, and those of the lines that are left
abbrev pub invariant-loop-line : goal.invariant-loop-line
invariant-loop-line l = record {
  before : List LineFacts;
  behind : IsBehind before l.spot;
  counted : l.number ≡ length l.yielded;
  as_many : length before ≡ length l.yielded;
  all : rules_from [] (map said (lines l.text)) ≡ l.rules.items ++ rules_from before (map said (drop (length l.yielded) (lines l.text)));
}
