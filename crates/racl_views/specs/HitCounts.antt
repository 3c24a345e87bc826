-- Counts of packets that were judged, of which hits are told.
use Rattle.std.specs.Prelude.{◌≡◌, ◌+◌, ◌++◌, ◌≤◌, ◌<◌, ◌^◌, ℕ, List, Option, count_by, get_or, length}
use Rattle.packet_view.specs.Captures.{PacketFacts}
use Rattle.acl_policy.specs.Policies.{PolicyFacts}
use Rattle.session_state.specs.declared.verdict.Verdict.{Verdict}
use Rattle.racl_views.specs.Deciding.{AreDecided}
use Rattle.racl_views.specs.Hits.{has_reason, is_entry}
use Rattle.racl_views.specs.declared.counting_reasons.ReasonCounts.{ReasonCounts}
use Rattle.racl_views.specs.declared.hit_counts.HitCounts.{HitCounts}
use Rattle.racl_views.specs.declared.counting_reasons.NoRule.TheVariants as reason
use Rattle.racl_views.specs.declared.rule_numbering.RuleName.{RuleName}
use Rattle.racl_views.specs.inner.Counts.{Count}

-- each reason has as many of these verdicts
pub record CountReasons (verdicts : List Verdict) (counts : ReasonCounts) : Type 0 where
  pub session : counts.session ≡ count_by (has_reason reason.Session) verdicts
  pub by_default : counts.by_default ≡ count_by (has_reason reason.ByDefault) verdicts
  pub full : counts.full ≡ count_by (has_reason reason.Full) verdicts
  pub worn : counts.worn ≡ count_by (has_reason reason.Worn) verdicts
  pub no_pages : counts.no_pages ≡ count_by (has_reason reason.NoPages) verdicts
  pub not_ip : counts.not_ip ≡ count_by (has_reason reason.NotIp) verdicts
  pub malformed : counts.malformed ≡ count_by (has_reason reason.Malformed) verdicts
  pub short : counts.short ≡ count_by (has_reason reason.Short) verdicts

-- these packets were counted, which had these verdicts, and no others
pub record HaveCounted (policy : PolicyFacts) (packets : List PacketFacts) (verdicts : List Verdict) (counts : HitCounts) : Type 0 where
  pub rules : List (Option RuleName)
  pub decided : AreDecided policy packets verdicts rules
  pub counted : Count counts.rules.items rules
  pub few : (place : ℕ) → get_or counts.rules.items place 0 ≤ length verdicts
  pub reasons : CountReasons verdicts counts.reasons
  pub entered : counts.entered ≡ count_by is_entry verdicts

-- so many more verdicts may be counted
pub record MayCount (counts : HitCounts) (more : ℕ) : Type 0 where
  pub policy : PolicyFacts
  pub packets : List PacketFacts
  pub verdicts : List Verdict
  pub have : HaveCounted policy packets verdicts counts
  pub each : length verdicts ≡ length packets
  pub fits : length verdicts + more < 2 ^ 64

-- these packets were counted too, behind those before, whatever these were
abbrev pub HaveCountedOn : PolicyFacts → HitCounts → List PacketFacts → List Verdict → HitCounts → Type 0
HaveCountedOn policy old more verdicts new = (packets : List PacketFacts) (said : List Verdict) → HaveCounted policy packets said old
    → length said ≡ length packets → HaveCounted policy (packets ++ more) (said ++ verdicts) new
