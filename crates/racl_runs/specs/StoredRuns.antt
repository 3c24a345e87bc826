-- Which sessions stand in the tables when a run has ended.
use Rattle.std.specs.Prelude.{ℕ, List}
use Rattle.std.specs.Cmp.Lexicographic.{slice_cmp}
use Rattle.std.specs.List.Sorted.{IsStrictlySortedBy}
use Rattle.std.specs.Ordering.{nat_cmp}
use Rattle.packet_view.specs.Captures.{PacketFacts}
use Rattle.packet_view.specs.declared.tuple.Family.{Family}
use Rattle.packet_view.specs.declared.tuple.Family.TheVariants.{V4, V6}
use Rattle.acl_policy.specs.Policies.{PolicyFacts}
use Rattle.session_state.specs.declared.timeouts.Timeouts.{Timeouts}
use Rattle.flow_filter.specs.OneThread.{AreVerdicts, Home, IsHome, Layout}
use Rattle.session_state.specs.declared.verdict.Verdict.{Verdict}
use Rattle.flow_workers.specs.Stored.{AreLeft, AreLiveLeft, keys_in}
use Rattle.racl_views.specs.Stored.{StoredFacts}

-- the pairs of a family's table
abbrev pub pairs_of : StoredFacts → Family → List (List ℕ × ℕ)
pairs_of stored V4 = stored.four
pairs_of stored V6 = stored.six

-- the verdicts on these packets are those of the one-thread filter, and the pairs of all buckets are those that it leaves
pub record AreLeftByOneThread (l : Layout) (times : Timeouts) (policy : PolicyFacts) (packets : List PacketFacts)
    (verdicts : List Verdict) (stored : StoredFacts) : Type 0 where
  pub verdicts_are : AreVerdicts l times policy packets verdicts
  pub left : (home : Home) → IsHome l home → AreLeft l verdicts_are.judged home (pairs_of stored home.family)

-- the verdicts on these packets are those of the one-thread filter, and the pairs, in the order of their keys, are those that it leaves
-- in all buckets and that are live at a second
pub record AreLiveByOneThread (l : Layout) (times : Timeouts) (moment : ℕ) (policy : PolicyFacts) (packets : List PacketFacts)
    (verdicts : List Verdict) (stored : StoredFacts) : Type 0 where
  pub verdicts_are : AreVerdicts l times policy packets verdicts
  pub left : (home : Home) → IsHome l home → AreLiveLeft l times moment verdicts_are.judged home (pairs_of stored home.family)
  pub ascending : (family : Family) → IsStrictlySortedBy (slice_cmp nat_cmp) (keys_in (pairs_of stored family))
