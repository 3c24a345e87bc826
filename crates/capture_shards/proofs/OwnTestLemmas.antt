-- The packets that are found to be of a shard.
use Rattle.std.proofs.Common.{◌≡◌, ◌∙◌, ℕ, List, Option, Some, None, ap, refl, sym}
use Rattle.std.specs.Prelude.{◌+◌, ◌%◌, ◌^◌, ◌==◌}
use Rattle.std.specs.Option.{ForSome}
use Rattle.packet_view.specs.Captures.{PacketFacts}
use Rattle.packet_view.specs.Interfaces.{Interface}
use Rattle.packet_view.specs.inner.FrameSteps.{view_of}
use Rattle.packet_view.proofs.FrameLemmas.{view_shown}
use Rattle.bihash_words.specs.contracts.flow_shapes.ShapeV4Shape.TheImpl as four
use Rattle.bihash_words.specs.contracts.flow_shapes.ShapeV6Shape.TheImpl as six
use Rattle.bihash_words.specs.Hash.{hash_of}
use Rattle.session_state.specs.declared.flow.Flow.{Flow}
use Rattle.session_state.specs.declared.flow.FlowKey.{FlowKey}
use Rattle.session_state.specs.declared.flow.FlowKey.TheVariants.{Four, Six}
use Rattle.flow_filter.specs.OneThread.{Layout, home_of, layout_of}
use Rattle.flow_filter.specs.Updates.{words_of}
use Rattle.flow_dealing.specs.Dealings.{flow_of_frame, hash_in}
use Rattle.flow_dealing.specs.Dealt.{HasFlow}
use Rattle.flow_dealing.specs.HashedFlows as dealt
use Rattle.flow_dealing.specs.declared.hashed_flow.HashedFlow.{HashedFlow}
use Rattle.flow_dealing.proofs.OwnAddresses.{same_flow_shown}
use Rattle.capture_shards.specs.Shards.{IsOver, IsOwnOf, shard_of}
use Rattle.capture_shards.specs.declared.shard.Shard.{Shard}
use Rattle.capture_shards.specs.inner.OwnTests.{IsHashed, bucket_in, flow_seen, own_of, place_in}

abbrev seen_at : PacketFacts → Interface
seen_at packet = record { number = packet.interface; own = None }

-- the flow that was found is that which is seen
pub seen_flow : (packet : PacketFacts) (flow : Option Flow) → HasFlow packet flow → flow_seen packet ≡ flow
seen_flow packet flow has = has None (view_of packet.frame (seen_at packet)) (view_shown packet.frame (seen_at packet))

-- tables of both sizes have one hash
pub hash_is : (key : FlowKey) → hash_in (layout_of four.ghosts six.ghosts) key ≡ hash_of (words_of key)
hash_is (Four words) = refl
hash_is (Six words) = refl

pub hashed_is : (hashed : HashedFlow) → dealt.IsHashed (layout_of four.ghosts six.ghosts) hashed → IsHashed hashed
hashed_is hashed is = go hashed.flow is
  where
    go : (flow : Option Flow) → ForSome flow (λ f. hashed.hash ≡ hash_in (layout_of four.ghosts six.ghosts) f.key)
        → ForSome flow (λ f. hashed.hash ≡ hash_of (words_of f.key))
    go None is = λ f at. absurd (let x : ⊥ = cc in x)
    go (Some flow) is = λ f at. is f at ∙ hash_is f.key

-- ---- The shard of a packet

bucket_is : (l : Layout) (shard : Shard) → IsOver l shard → (key : FlowKey) → bucket_in shard key ≡ (home_of l key).bucket
bucket_is l shard over (Four words) =
    ap (λ n. hash_of words % 2 ^ n) (sym over.four) ∙ ap (λ (h : List ℕ → ℕ). h words % 2 ^ l.four.log2_buckets) (sym over.hash_four)
bucket_is l shard over (Six words) =
    ap (λ n. hash_of words % 2 ^ n) (sym over.six) ∙ ap (λ (h : List ℕ → ℕ). h words % 2 ^ l.six.log2_buckets) (sym over.hash_six)

shard_is : (l : Layout) (shard : Shard) → IsOver l shard → (n : ℕ) (flow : Option Flow)
    → place_in shard n flow % shard.count + 1 ≡ shard_of l shard.count n flow
shard_is l shard over n None = refl
shard_is l shard over n (Some flow) = ap (λ b. b % shard.count + 1) (bucket_is l shard over flow.key)

pub own_is : (l : Layout) (shard : Shard) → IsOver l shard → IsOwnOf l shard.count shard.number (own_of shard)
own_is l shard over n packet mac seen shown =
    let at = seen_at packet in
    let flow : flow_seen packet ≡ flow_of_frame seen =
    sym (same_flow_shown packet None (view_of packet.frame at) (view_shown packet.frame at) mac seen shown) in
    ap (λ s. s == shard.number) (shard_is l shard over n (flow_seen packet) ∙ ap (shard_of l shard.count n) flow)
