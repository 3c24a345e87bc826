-- What judging one packet leaves of the callers.
use Rattle.std.specs.Prelude.{◌≡◌, Some, Ok}
use Rattle.bihash_words.specs.Maps.{Event}
use Rattle.bihash_words.specs.Sizes.{bucket_of}
use Rattle.bihash_words.specs.declared.patch.Reply.{Reply}
use Rattle.bihash_rule.specs.declared.view.View.{View}
use Rattle.bihash_table.specs.Promise.{IsAnswered, IsContended}
use Rattle.bihash_table.specs.Tries.{TookAtMost, try_locks}
use Rattle.packet_view.specs.Captures.{PacketFacts}
use Rattle.acl_policy.specs.Policies.{PolicyFacts}
use Rattle.session_state.specs.declared.flow.FlowKey.{FlowKey}
use Rattle.session_state.specs.declared.flow.FlowKey.TheVariants.{Four, Six}
use Rattle.session_state.specs.declared.timeouts.Timeouts.{Timeouts}
use Rattle.session_state.specs.declared.verdict.Verdict.{Verdict}
use Rattle.flow_filter.specs.Readings.{IsReading, Reading}
use Rattle.flow_filter.specs.Updates.{Update, update_of}
use Rattle.flow_filter.specs.Judged.{Asked, Asks, IsAsked, Judged, Settled, verdict_on}
use Rattle.flow_filter.specs.OneThread.{Layout}
use Rattle.flow_dealing.specs.Views.{Views}

-- a call that was tried once took no more locks of buckets than its reply allows: none where it is Kept, Worn or Full,
-- and one at most elsewhere
abbrev pub TookByOneTry : View → View → Reply → Type 0
TookByOneTry v w reply = TookAtMost v w (try_locks (Ok reply))

-- The event was one call of the caller of its key's family, which took locks of buckets as `took` says of its
-- reply; the other caller made none.
abbrev pub IsFlowEntry : Layout → (View → View → Reply → Type 0) → FlowKey → Event → Views → Views → Type 0
IsFlowEntry l took (Four key) e v w =
    IsAnswered l.four v.four w.four e × (w.six ≡ v.six) × took v.four w.four e.reply
IsFlowEntry l took (Six key) e v w =
    IsAnswered l.six v.six w.six e × (w.four ≡ v.four) × took v.six w.six e.reply

-- a packet without a flow made no call
abbrev pub IsEnteredBy : Layout → (View → View → Reply → Type 0) → Asked Event → Views → Views → Type 0
IsEnteredBy l took Settled v w = w ≡ v
IsEnteredBy l took (Asks u e) v w = IsFlowEntry l took u.key e v w

-- The packet was judged: it asked once where it has a flow, by one call that is in its family's record now and
-- took locks as `took` says, and else not at all; and the verdict is that of what it found and was answered.
pub record IsJudged (l : Layout) (took : View → View → Reply → Type 0) (times : Timeouts) (policy : PolicyFacts)
    (packet : PacketFacts) (v w : Views) (verdict : Verdict) : Type 0 where
  pub judged : Judged
  pub read : IsReading policy packet judged.reading
  pub asked : IsAsked times judged
  pub entered : IsEnteredBy l took judged.asked v w
  pub said : verdict ≡ verdict_on judged

-- the call met another caller (IsContended) and took one lock at most; the other family's caller made no call
abbrev pub IsAway : Layout → FlowKey → Views → Views → Type 0
IsAway l (Four key) v w =
    IsContended l.four v.four w.four (bucket_of l.four key) × (w.six ≡ v.six) × TookAtMost v.four w.four 1
IsAway l (Six key) v w =
    IsContended l.six v.six w.six (bucket_of l.six key) × (w.four ≡ v.four) × TookAtMost v.six w.six 1

-- The packet met another caller's change or lock; only a packet with a flow can.
pub record IsPacketRefused (l : Layout) (times : Timeouts) (policy : PolicyFacts) (packet : PacketFacts)
    (v w : Views) : Type 0 where
  pub reading : Reading
  pub read : IsReading policy packet reading
  pub update : Update
  pub has : update_of times reading ≡ Some update
  pub away : IsAway l update.key v w
