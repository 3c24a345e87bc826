-- A capture that several machines judge: each judges the packets of one shard (this project's profile).
use Rattle.std.specs.Prelude.{◌≡◌, ◌+◌, ◌-◌, ◌%◌, ◌==◌, ◌≤◌, ℕ, zero, suc, Bool, if◌then◌else◌, List, [], ◌∷◌, Option, Some, None, length}
use Rattle.packet_view.specs.Captures.{PacketFacts}
use Rattle.packet_view.specs.Frames.{FrameFacts}
use Rattle.packet_view.specs.declared.tuple.Mac.{Mac}
use Rattle.acl_policy.specs.Policies.{PolicyFacts}
use Rattle.bihash_words.specs.Hash.{hash_of}
use Rattle.session_state.specs.declared.flow.Flow.{Flow}
use Rattle.session_state.specs.declared.timeouts.Timeouts.{Timeouts}
use Rattle.session_state.specs.declared.verdict.Verdict.{Verdict}
use Rattle.flow_filter.specs.OneThread.{AreVerdicts, Layout, home_of}
use Rattle.flow_filter.specs.Readings.{IsSeenAt}
use Rattle.flow_dealing.specs.Dealings.{flow_of_frame}
use Rattle.racl_io.specs.Reports.{dropped, passed, without_pages}
use Rattle.capture_shards.specs.declared.shard.Shard.{Shard}

-- Of so many shards that of the packet with this number and this flow, or none; packets and shards have numbers from 1. A flow's
-- packets fall to a shard by the bucket of its key, other packets by their number.
abbrev pub shard_of : Layout → ℕ → ℕ → Option Flow → ℕ
shard_of l count number None = (number - 1) % count + 1
shard_of l count number (Some flow) = (home_of l flow.key).bucket % count + 1

-- whether a packet, which has this number, is one's own
abbrev pub Own : Type 0
Own = ℕ → PacketFacts → Bool

-- the packets of this shard of so many, whatever the own addresses of interfaces
abbrev pub IsOwnOf : Layout → ℕ → ℕ → Own → Type 0
IsOwnOf l count shard own = (number : ℕ) (packet : PacketFacts) (mac : Option Mac) (seen : FrameFacts) → IsSeenAt mac packet seen
    → own number packet ≡ (shard_of l count number (flow_of_frame seen) == shard)

-- the tables have the buckets by which flows fall to the shard
pub record IsOver (l : Layout) (shard : Shard) : Type 0 where
  pub four : l.four.log2_buckets ≡ shard.log2_four
  pub six : l.six.log2_buckets ≡ shard.log2_six
  pub hash_four : l.four.hash ≡ hash_of
  pub hash_six : l.six.hash ≡ hash_of

-- of what there is for each of these packets, whose numbers begin with n, that for one's own
abbrev pub own_in : {X : Type 0} → Own → ℕ → List PacketFacts → List X → List X
own_in own n [] xs = []
own_in own n (packet ∷ packets) [] = []
own_in own n (packet ∷ packets) (x ∷ xs) =
    if own n packet then x ∷ own_in own (n + 1) packets xs else own_in own (n + 1) packets xs

-- one's own packets
abbrev pub own_packets : Own → ℕ → List PacketFacts → List PacketFacts
own_packets own n packets = own_in own n packets packets

-- each of so many shards has its own packets
abbrev pub AreOwns : Layout → ℕ → (ℕ → Own) → Type 0
AreOwns l count owns = (shard : ℕ) → 1 ≤ shard → shard ≤ count → IsOwnOf l count shard (owns shard)

-- these are the verdicts of the one-thread filter on the packets of each shard alone
abbrev pub AreShardVerdicts : Layout → Timeouts → PolicyFacts → List PacketFacts → ℕ → (ℕ → Own) → (ℕ → List Verdict) → Type 0
AreShardVerdicts l times policy packets count owns said = (shard : ℕ) → 1 ≤ shard → shard ≤ count
    → AreVerdicts l times policy (own_packets (owns shard) 1 packets) (said shard)

-- the verdicts of all shards, put back at the places of their packets
pub record AreMerged (packets : List PacketFacts) (count : ℕ) (owns : ℕ → Own) (said : ℕ → List Verdict) (verdicts : List Verdict) : Type 0 where
  pub each : length verdicts ≡ length packets
  pub at_places : (shard : ℕ) → 1 ≤ shard → shard ≤ count → own_in (owns shard) 1 packets verdicts ≡ said shard

-- what there is of each of so many shards, in all
abbrev pub over_shards : ℕ → (ℕ → ℕ) → ℕ
over_shards zero each = 0
over_shards (suc count) each = over_shards count each + each (suc count)

-- over the verdicts of all shards there are together as many packets, that pass, are dropped, or lack pages, as over these
pub record AddUp (count : ℕ) (said : ℕ → List Verdict) (verdicts : List Verdict) : Type 0 where
  pub all : length verdicts ≡ over_shards count (λ shard. length (said shard))
  pub passing : passed verdicts ≡ over_shards count (λ shard. passed (said shard))
  pub dropping : dropped verdicts ≡ over_shards count (λ shard. dropped (said shard))
  pub lacking : without_pages verdicts ≡ over_shards count (λ shard. without_pages (said shard))
