-- What becomes of a judge: s is the judge before a call, t after it.
use Rattle.std.specs.Prelude.{◌≡◌, ◌≢◌, ◌≤◌, ◌<◌, ◌⊎◌, ℕ, List, true, false, Result, IfOk, IfErr, is_ok}
use Rattle.packet_view.specs.Captures.{PacketFacts}
use Rattle.acl_policy.specs.Policies.{IsPolicyText}
use Rattle.bihash_words.specs.Sizes.{Sizes}
use Rattle.bihash_words.specs.declared.shape.Shape.{Ghosts}
use Rattle.bihash_rule.specs.Callers.{Agrees, IsLawfulCaller}
use Rattle.bihash_steps.specs.CallerCalls.{IsJoined}
use Rattle.bihash_steps.specs.Seats.{CallerState, with_view}
use Rattle.bihash_steps.specs.Steps.{IsRefused, newcomer, parent}
use Rattle.bihash_steps.specs.declared.split_fault.SplitFault.{SplitFault}
use Rattle.bihash_steps.specs.declared.split_fault.SplitFault.TheVariants.{Memory}
use Rattle.session_state.specs.declared.timeouts.Timeouts.{Timeouts}
use Rattle.flow_filter.specs.OneThread.{Layout, layout_of}
use Rattle.session_state.specs.declared.verdict.Verdict.TheVariants.{NoPages}
use Rattle.flow_workers.specs.Callers.{first_views}
use Rattle.flow_workers.specs.Judging.{IsJudged, IsPacketRefused, TookByOneTry}
use Rattle.flow_workers.specs.OutOfPages.{IsPacketOutOfPages}
use Rattle.flow_workers.specs.Verdicts.{HasNoFlow}
use Rattle.flow_judge.specs.Counting.{added, counted, no_counts}
use Rattle.flow_judge.specs.JudgeStates.{JudgeState, views_in}
use Rattle.flow_judge.specs.Meetings.{TellsLoneJudge}
use Rattle.flow_judge.specs.Ways.{GoesBy}
use Rattle.flow_judge.specs.declared.judged.Judged.{Judged}
use Rattle.flow_judge.specs.declared.take_fault.TakeFault.{TakeFault}
use Rattle.flow_judge.specs.declared.take_fault.TakeFault.TheVariants as takes

-- a judge of new tables, by the policy of this text
pub record IsNewJudge (l : Layout) (text : List ℕ) (times : Timeouts) (t : JudgeState) : Type 0 where
  pub policy : IsPolicyText text t.policy
  pub lives : t.times ≡ times
  pub first : views_in t ≡ first_views l
  pub counts : t.counts ≡ no_counts
  pub shared : t.shared ≡ false

-- the judge goes by the policy of this text, and is the same elsewhere
pub record IsRuledAnew (text : List ℕ) (s t : JudgeState) : Type 0 where
  pub policy : IsPolicyText text t.policy
  pub same : t ≡ record s { policy = t.policy }

-- The judge goes by the other one's policy, and the timeouts were the same; or it was found to be alone over its tables, and has the
-- other one's timeouts too.
abbrev pub IsRuledAs : Layout → (other s t : JudgeState) → Type 0
IsRuledAs l other s t =
    ((other.times ≡ s.times) × (t ≡ record s { policy = other.policy }))
    ⊎ ((lone : JudgeState) × TellsLoneJudge l s lone true × (t ≡ record lone { policy = other.policy; times = other.times }))

-- why it doesn't, and keeps its policy and timeouts: too many share the other one's, or the timeouts are others and some judge over
-- its tables wasn't joined into it
abbrev pub IsTakeRefused : Layout → (other s : JudgeState) → TakeFault → (t : JudgeState) → Type 0
IsTakeRefused l other s takes.Memory t = t ≡ s
IsTakeRefused l other s takes.Strangers t = (other.times ≢ s.times) × TellsLoneJudge l s t false

-- the judge is the same, but for what its callers know and what it counts
abbrev pub IsSameJudge : JudgeState → JudgeState → Type 0
IsSameJudge s t =
    t ≡ record s { four = with_view s.four t.four.view; six = with_view s.six t.six.view; counts = t.counts }

-- What judging a packet came to, by one try. A judge whose callers are lone is answered, and each where the packet takes no
-- part in sessions. What was answered is counted.
pub record TellsJudged {A B K L E : Type 0} (ga : Ghosts A K) (gb : Ghosts B L) (packet : PacketFacts) (s t : JudgeState)
    (r : Result Judged E) : Type 0 where
  pub same : IsSameJudge s t
  pub judged : IfOk r (λ j. IsJudged (layout_of ga gb) TookByOneTry s.times s.policy packet (views_in s) (views_in t) j.verdict)
  pub way : IfOk r (λ j. GoesBy s.policy packet j.direction)
  pub counts : IfOk r (λ j. t.counts ≡ counted s.counts j.verdict)
  pub no_pages : IfOk r (λ j. j.verdict ≡ NoPages → IsPacketOutOfPages ga gb s.policy packet (views_in t))
  pub refused : IfErr r (λ _. IsPacketRefused (layout_of ga gb) s.times s.policy packet (views_in s) (views_in t))
  pub uncounted : IfErr r (λ _. t.counts ≡ s.counts)
  pub lone : s.four.view.lone ≡ true → s.six.view.lone ≡ true → is_ok r ≡ true
  pub settled : HasNoFlow s.policy packet → is_ok r ≡ true

-- the caller s became t, and the new caller u has a number of its own
pub record IsSplit (z : Sizes) (s t u : CallerState) : Type 0 where
  pub count : ℕ
  pub rises : s.view.seen ≤ count
  pub few : count < z.callers
  pub left : t ≡ with_view s (parent s.view count)
  pub right : (u.row ≡ s.row) × (u.view ≡ newcomer s.view count)
  pub lawful : IsLawfulCaller z t.view × IsLawfulCaller z u.view
  pub agree : Agrees t.view u.view

-- the caller is as the refusal of a split leaves it
pub record IsSplitRefused (z : Sizes) (fault : SplitFault) (s t : CallerState) : Type 0 where
  pub same : t ≡ with_view s t.view
  pub why : IsRefused z s.view fault t.view
  pub lawful : IsLawfulCaller z t.view

-- the caller was split, and the new one joined again
pub record IsSplitAndJoined (z : Sizes) (s t : CallerState) : Type 0 where
  pub left : CallerState
  pub right : CallerState
  pub split : IsSplit z s left right
  pub joined : IsJoined z left right t

-- Nothing was done, or one family's caller was refused its split. Where that is the one of IPv6, the other one was split and joined
-- again: a number of its table is used up, and it doesn't know any more that it is lone, where it did.
abbrev pub AreSplitRefused : Layout → SplitFault → (four six four' six' : CallerState) → Type 0
AreSplitRefused l fault four six four' six' =
    ((four' ≡ four) × (six' ≡ six) × (fault ≡ Memory))
    ⊎ ((IsSplitRefused l.four fault four four' × (six' ≡ six))
    ⊎ (IsSplitAndJoined l.four four four' × IsSplitRefused l.six fault six six'))

-- a judge by the same policy over the same tables, with callers of its own, that counted nothing
pub record AreSplitJudges (l : Layout) (s t u : JudgeState) : Type 0 where
  pub by : (t.policy ≡ s.policy) × (t.times ≡ s.times) × (u.policy ≡ s.policy) × (u.times ≡ s.times)
  pub four : IsSplit l.four s.four t.four u.four
  pub six : IsSplit l.six s.six t.six u.six
  pub counts : (t.counts ≡ s.counts) × (u.counts ≡ no_counts)
  pub shared : (t.shared ≡ true) × (u.shared ≡ true)

-- there is no new judge for this reason
pub record IsSplitJudgeRefused (l : Layout) (fault : SplitFault) (s t : JudgeState) : Type 0 where
  pub by : (t.policy ≡ s.policy) × (t.times ≡ s.times) × (t.counts ≡ s.counts)
  pub callers : AreSplitRefused l fault s.four s.six t.four t.six

-- both judge over the same tables
abbrev pub AreOfOneTable : JudgeState → JudgeState → Type 0
AreOfOneTable s other = (other.four.row ≡ s.four.row) × (other.six.row ≡ s.six.row)

-- the judge has the callers and the counts of both, and its own policy
pub record IsJoinedJudge (l : Layout) (s other t : JudgeState) : Type 0 where
  pub by : (t.policy ≡ s.policy) × (t.times ≡ s.times)
  pub four : IsJoined l.four s.four other.four t.four
  pub six : IsJoined l.six s.six other.six t.six
  pub counts : t.counts ≡ added s.counts other.counts
  pub shared : t.shared ≡ s.shared
