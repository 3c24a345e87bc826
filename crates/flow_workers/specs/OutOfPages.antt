-- Why a verdict of no pages was right.
use Rattle.std.specs.Prelude.{◌≡◌, ℕ, Some}
use Rattle.packet_view.specs.Captures.{PacketFacts}
use Rattle.packet_view.specs.Frames.{FrameFacts}
use Rattle.acl_policy.specs.Policies.{PolicyFacts}
use Rattle.bihash_words.specs.Sizes.{bucket_of, sizes_of}
use Rattle.bihash_words.specs.declared.patch.Reply.{Reply}
use Rattle.bihash_words.specs.declared.patch.Reply.TheVariants.{NoPages}
use Rattle.bihash_words.specs.declared.shape.Shape.{Ghosts}
use Rattle.bihash_steps.specs.BucketSteps.{last_call}
use Rattle.bihash_rule.specs.declared.view.Call.{Call}
use Rattle.bihash_rule.specs.declared.view.View.{View}
use Rattle.bihash_table.specs.OutOfPages.{IsOutOfPages}
use Rattle.session_state.specs.declared.flow.Flow.{Flow}
use Rattle.session_state.specs.declared.flow.FlowKey.{FlowKey}
use Rattle.session_state.specs.declared.flow.FlowKey.TheVariants.{Four, Six}
use Rattle.flow_filter.specs.Readings.{IsSeen}
use Rattle.flow_dealing.specs.Dealings.{flow_of_frame}
use Rattle.flow_dealing.specs.Views.{Views}

-- the last call of the caller of this key's family found too few pages for a block of 2 ^ log2 of them
abbrev pub IsFlowOutOfPages : {A B K L : Type 0} (ga : Ghosts A K) (gb : Ghosts B L) → FlowKey → Views → ℕ → ℕ → Type 0
IsFlowOutOfPages ga gb (Four key) w log2 left =
    IsOutOfPages ga w.four (bucket_of (sizes_of ga) key) (ga.key_of key) log2 left
IsFlowOutOfPages ga gb (Six key) w log2 left =
    IsOutOfPages gb w.six (bucket_of (sizes_of gb) key) (gb.key_of key) log2 left

-- the entry of the caller's last call has this reply
abbrev pub HasLastReply : View → Reply → Type 0
HasLastReply w reply = (c : Call) × (last_call w.records ≡ Some c) × (c.reply ≡ reply)

-- so has that of the caller of this key's family
abbrev pub IsFlowReply : FlowKey → Views → Reply → Type 0
IsFlowReply (Four key) w reply = HasLastReply w.four reply
IsFlowReply (Six key) w reply = HasLastReply w.six reply

-- the packet's flow found too few pages in its family's table, as its entry says
pub record IsPacketOutOfPages {A B K L : Type 0} (ga : Ghosts A K) (gb : Ghosts B L) (policy : PolicyFacts)
    (packet : PacketFacts) (w : Views) : Type 0 where
  pub view : FrameFacts
  pub framed : IsSeen policy packet view
  pub flow : Flow
  pub shown : flow_of_frame view ≡ Some flow
  pub log2 : ℕ
  pub left : ℕ
  pub replied : IsFlowReply flow.key w (NoPages log2 left)
  pub short : IsFlowOutOfPages ga gb flow.key w log2 left
