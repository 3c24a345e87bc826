use Rattle.std.proofs.Common.{◌≡◌, ◌≤◌, ◌<◌, ◌+◌, ◌^◌, ◌++◌, ℕ, List, Option, drop, get_or, length}
use Rattle.packet_view.specs.CheckedCaptures.{remaining}
use Rattle.acl_policy.specs.Policies.{policy_facts}
use Rattle.racl_views.specs.Deciding.{AreDecided, hits_on}
use Rattle.racl_views.specs.declared.rule_numbering.RuleName.{RuleName}
use Rattle.racl_views.specs.inner.Places.{place_of}
use Rattle.racl_views.proofs.hit_counts.count_packets.Given as goal

-- what was decided so far is counted, and what is decided of those that are left follows it
abbrev pub invariant-verdicts : goal.invariant-verdicts
invariant-verdicts l = record {
  rules : List (Option RuleName);
  goes_on : (others : List (Option RuleName)) → AreDecided (policy_facts l.policy) (remaining l.left) (drop l.verdict-index l.verdicts) others
      → AreDecided (policy_facts l.policy) (remaining l.packets) l.verdicts (rules ++ others);
  counted : (name : RuleName) → name.interface < 2 ^ 8 → get_or l.counts.items (place_of name) 0 ≡ get_or l.fn.counts.items (place_of name) 0 + hits_on name rules;
  few : (place : ℕ) → get_or l.counts.items place 0 ≤ get_or l.fn.counts.items place 0 + length rules;
  within : length rules ≤ l.verdict-index;
  most : length rules ≤ length l.verdicts;
}
