-- The table of verdicts: for each verdict, where a packet gets it (this project's profile).
use Rattle.std.specs.Prelude.{◌≡◌, ◌≤◌, ◌<◌, ◌⊎◌, ◌↔◌, ℕ, ◌+◌, ◌^◌, true, false, List, [], ◌∷◌, ◌++◌, Some, None}
use Rattle.std.specs.FinMap.{get, len}
use Rattle.packet_view.specs.Captures.{PacketFacts}
use Rattle.packet_view.specs.Frames.{FrameFacts}
use Rattle.acl_policy.specs.Policies.{PolicyFacts}
use Rattle.acl_policy.specs.declared.rule.Action.{Action}
use Rattle.acl_policy.specs.declared.rule.Action.TheVariants as action
use Rattle.bihash_words.specs.Maps.{Bounds, Event, Pairs, IsEvent, most_pairs}
use Rattle.bihash_words.specs.declared.patch.Reply.TheVariants as reply
use Rattle.session_state.specs.declared.verdict.Verdict.{Verdict}
use Rattle.session_state.specs.declared.verdict.Verdict.TheVariants as verdict
use Rattle.flow_filter.specs.Judged.{Asked, Asks, IsEventOf, Judged, verdict_with}
use Rattle.flow_filter.specs.OneThread.{Home, Layout, bounds_in, home_of}
use Rattle.flow_filter.specs.Passing.{FindsNoRoom, HoldsLive, HoldsStarted, Leave}
use Rattle.flow_filter.specs.Readings.{IsReading, IsSeen, Reading, Ruling}
use Rattle.flow_filter.specs.Updates.{Update, words_of}

-- what a packet of a flow meets: its bucket's bounds, the pairs there before it, after so many writes, and after it
pub record Meeting : Type 0 where
  pub bounds : Bounds
  pub before : Pairs
  pub writes : ℕ
  pub event : Event
  pub after : Pairs

-- The packet's one event leads from what is there before it to what is there after it.
pub record IsMet (u : Update) (at : Meeting) : Type 0 where
  pub of : IsEventOf u at.event
  pub step : IsEvent at.bounds at.before at.writes at.event at.after

-- A packet that is judged after others meets what these left in its flow's bucket.
pub record IsMetAt (l : Layout) (opening : Home → Pairs) (before : List Judged) (j : Judged) (u : Update)
    (at : Meeting) : Type 0 where
  pub event : j.asked ≡ Asks u at.event
  pub bounds : at.bounds ≡ bounds_in l (home_of l u.key).family
  pub left : Leave l opening before (home_of l u.key) at.before
  pub counted : at.writes ≡ left.0
  pub leaves : Leave l opening (before ++ j ∷ []) (home_of l u.key) at.after

-- the rule with this number, counted from 1, decides, and does this
abbrev pub Decided : Ruling → ℕ → Action → Type 0
Decided ruling number does = (place : ℕ) × (ruling ≡ Some (place, does)) × (number ≡ place + 1)

-- No session lets the packet through, and it may start one by the rule that decides.
pub record MayStart (u : Update) (at : Meeting) : Type 0 where
  pub none : HoldsLive u at.before → ⊥
  pub starts : u.patch.reflects ≡ true

-- The bucket has had as many writes as it may have, so the session isn't there.
pub record FindsWorn (u : Update) (at : Meeting) : Type 0 where
  pub may : MayStart u at
  pub worn : at.bounds.limit ≤ at.writes
  pub missing : HoldsStarted u at.after → ⊥

-- The bucket may change and hold a pair more, but the session needs a block of so many pages, and fewer are left.
pub record FindsNoPages (u : Update) (at : Meeting) : Type 0 where
  pub starts : u.patch.reflects ≡ true
  pub absent : get at.before (words_of u.key) ≡ None
  pub may_change : at.writes < at.bounds.limit
  pub room : len at.before < most_pairs at.bounds
  pub log2 : ℕ
  pub left : ℕ
  pub within : log2 ≤ at.bounds.max_log2
  pub few : left < 2 ^ log2
  pub told : at.event.reply ≡ reply.NoPages log2 left

-- The rows of a packet that has a flow. The last three are of frames.
abbrev pub IsFlowRow : Update → Ruling → Meeting → Verdict → Type 0
IsFlowRow u ruling at verdict.Session = HoldsLive u at.before
IsFlowRow u ruling at (verdict.Reflect number) = MayStart u at × Decided ruling number action.Reflect × HoldsStarted u at.after
IsFlowRow u ruling at (verdict.Permit number) =
    (HoldsLive u at.before → ⊥)
    × (Decided ruling number action.Permit ⊎ (Decided ruling number action.Reflect × (u.patch.reflects ≡ false)))
IsFlowRow u ruling at (verdict.Deny number) = (HoldsLive u at.before → ⊥) × Decided ruling number action.Deny
IsFlowRow u ruling at verdict.ByDefault = (HoldsLive u at.before → ⊥) × (ruling ≡ None)
IsFlowRow u ruling at verdict.Worn = FindsWorn u at
IsFlowRow u ruling at verdict.Full = FindsNoRoom u at.bounds at.before at.writes
IsFlowRow u ruling at verdict.NoPages = FindsNoPages u at
IsFlowRow u ruling at verdict.NotIp = ⊥
IsFlowRow u ruling at verdict.Malformed = ⊥
IsFlowRow u ruling at verdict.Short = ⊥

-- A verdict that a frame alone gives is given exactly where a packet's frame is seen as this.
abbrev pub IsFrameRow : FrameFacts → Verdict → Type 0
IsFrameRow view v =
    (policy : PolicyFacts) (packet : PacketFacts) (reading : Reading) (asked : Asked Event)
    → IsReading policy packet reading → (verdict_with reading asked ≡ v) ↔ IsSeen policy packet view

-- The rows of a packet that is IP and has no flow: the rules alone say them, and one that reflects permits.
abbrev pub IsRuleRow : Ruling → Verdict → Type 0
IsRuleRow ruling verdict.Session = ⊥
IsRuleRow ruling (verdict.Reflect number) = ⊥
IsRuleRow ruling (verdict.Permit number) = Decided ruling number action.Permit ⊎ Decided ruling number action.Reflect
IsRuleRow ruling (verdict.Deny number) = Decided ruling number action.Deny
IsRuleRow ruling verdict.ByDefault = ruling ≡ None
IsRuleRow ruling verdict.Worn = ⊥
IsRuleRow ruling verdict.Full = ⊥
IsRuleRow ruling verdict.NoPages = ⊥
IsRuleRow ruling verdict.NotIp = ⊥
IsRuleRow ruling verdict.Malformed = ⊥
IsRuleRow ruling verdict.Short = ⊥
