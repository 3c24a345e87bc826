-- Counts of the packets that each rule decided.
use Rattle.std.specs.Prelude.{◌≡◌, ◌+◌, ◌≤◌, ◌<◌, ◌^◌, ℕ, List, Option, get_or, length}
use Rattle.packet_view.specs.Captures.{PacketFacts}
use Rattle.acl_policy.specs.Policies.{PolicyFacts}
use Rattle.session_state.specs.declared.verdict.Verdict.{Verdict}
use Rattle.racl_views.specs.Deciding.{AreDecided, hits_on}
use Rattle.racl_views.specs.declared.rule_numbering.RuleName.{RuleName}
use Rattle.racl_views.specs.inner.Places.{place_of}

-- how often each rule stands among these, at its place
abbrev pub Count : List ℕ → List (Option RuleName) → Type 0
Count counts rules = (name : RuleName) → name.interface < 2 ^ 8 → get_or counts (place_of name) 0 ≡ hits_on name rules

-- what these packets add to what was counted before
pub record AreCountedOn (policy : PolicyFacts) (old : List ℕ) (packets : List PacketFacts) (verdicts : List Verdict) (new : List ℕ) : Type 0 where
  pub rules : List (Option RuleName)
  pub decided : AreDecided policy packets verdicts rules
  pub counted : (name : RuleName) → name.interface < 2 ^ 8 → get_or new (place_of name) 0 ≡ get_or old (place_of name) 0 + hits_on name rules
  pub few : (place : ℕ) → get_or new place 0 ≤ get_or old place 0 + length verdicts
