-- Which packets are of a shard, as a test.
use Rattle.std.specs.Prelude.{◌≡◌, ◌+◌, ◌-◌, ◌%◌, ◌^◌, ◌==◌, ℕ, true, Option, Some, None}
use Rattle.std.specs.Option.{ForSome}
use Rattle.packet_view.specs.Captures.{PacketFacts}
use Rattle.packet_view.specs.inner.FrameSteps.{view_of}
use Rattle.bihash_words.specs.Hash.{hash_of}
use Rattle.session_state.specs.declared.flow.Flow.{Flow}
use Rattle.session_state.specs.declared.flow.FlowKey.{FlowKey}
use Rattle.session_state.specs.declared.flow.FlowKey.TheVariants.{Four, Six}
use Rattle.flow_filter.specs.Updates.{words_of}
use Rattle.flow_dealing.specs.Dealings.{flow_of_frame}
use Rattle.flow_dealing.specs.declared.hashed_flow.HashedFlow.{HashedFlow}
use Rattle.capture_shards.specs.Shards.{Own}
use Rattle.capture_shards.specs.declared.shard.Shard.{Shard}

-- the flow of a packet where its interface has no own address
abbrev pub flow_seen : PacketFacts → Option Flow
flow_seen packet = flow_of_frame (view_of packet.frame (record { number = packet.interface; own = None }))

-- the hash is that of the flow's key
abbrev pub IsHashed : HashedFlow → Type 0
IsHashed hashed = ForSome hashed.flow (λ flow. hashed.hash ≡ hash_of (words_of flow.key))

-- the bucket of a key in the shard's tables
abbrev pub bucket_in : Shard → FlowKey → ℕ
bucket_in shard (Four words) = hash_of words % 2 ^ shard.log2_four
bucket_in shard (Six words) = hash_of words % 2 ^ shard.log2_six

-- by what a packet falls to a shard
abbrev pub place_in : Shard → ℕ → Option Flow → ℕ
place_in shard number None = number - 1
place_in shard number (Some flow) = bucket_in shard flow.key

-- the packets of the shard
abbrev pub own_of : Shard → Own
own_of shard number packet = place_in shard number (flow_seen packet) % shard.count + 1 == shard.number

-- those of the shard, or all where there is none
abbrev pub own_among : Option Shard → Own
own_among None = λ number packet. true
own_among (Some shard) = own_of shard
