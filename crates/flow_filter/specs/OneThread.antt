-- The one-thread filter: what becomes of packets that are judged one after the other (this project's profile).
use Rattle.std.specs.Prelude.{◌≡◌, ◌<◌, ℕ, ◌^◌, ◌==◌, Bool, true, false, ◌&&◌, if◌then◌else◌, List, [], ◌∷◌, All}
use Rattle.std.specs.FinMap.{empty}
use Rattle.packet_view.specs.Captures.{PacketFacts}
use Rattle.packet_view.specs.declared.tuple.Family.{Family}
use Rattle.packet_view.specs.declared.tuple.Family.TheVariants.{V4, V6}
use Rattle.acl_policy.specs.Policies.{PolicyFacts}
use Rattle.bihash_words.specs.Maps.{Bounds, Event, Pairs}
use Rattle.bihash_words.specs.Refusals.{IsNoRefusal}
use Rattle.bihash_words.specs.Runs.{IsRun}
use Rattle.bihash_words.specs.Sizes.{Sizes, bucket_of, sizes_of}
use Rattle.bihash_words.specs.declared.shape.Shape.{Ghosts}
use Rattle.session_state.specs.declared.flow.FlowKey.{FlowKey}
use Rattle.session_state.specs.declared.flow.FlowKey.TheVariants.{Four, Six}
use Rattle.session_state.specs.declared.timeouts.Timeouts.{Timeouts}
use Rattle.session_state.specs.declared.verdict.Verdict.{Verdict}
use Rattle.flow_filter.specs.Readings.{AreReadings}
use Rattle.flow_filter.specs.Updates.{words_of}
use Rattle.flow_filter.specs.Judged.{AreAsked, Asked, Asks, Judged, Settled, WhereAsked, readings_of, verdicts_on}

-- the sizes of the tables of both families
pub record Layout : Type 0 where
  pub four : Sizes
  pub six : Sizes

abbrev pub layout_of : {A B K L : Type 0} → Ghosts A K → Ghosts B L → Layout
layout_of a b = record { four = sizes_of a; six = sizes_of b }

-- the keys of the tables are those of flows: two words, and five
pub record IsFlowLayout (l : Layout) : Type 0 where
  pub four : l.four.key_words ≡ 2
  pub six : l.six.key_words ≡ 5

abbrev pub sizes_in : Layout → Family → Sizes
sizes_in l V4 = l.four
sizes_in l V6 = l.six

abbrev pub bounds_in : Layout → Family → Bounds
bounds_in l family = record { limit = (sizes_in l family).limit; max_log2 = (sizes_in l family).max_log2 }

-- a bucket of a family's table
pub record Home : Type 0 where
  pub family : Family
  pub bucket : ℕ

abbrev pub family_of : FlowKey → Family
family_of (Four key) = V4
family_of (Six key) = V6

-- the bucket of a key
abbrev pub home_of : Layout → FlowKey → Home
home_of l key = record { family = family_of key; bucket = bucket_of (sizes_in l (family_of key)) (words_of key) }

-- the table has that bucket
abbrev pub IsHome : Layout → Home → Type 0
IsHome l home = home.bucket < 2 ^ (sizes_in l home.family).log2_buckets

abbrev pub same_family : Family → Family → Bool
same_family V4 V4 = true
same_family V4 V6 = false
same_family V6 V4 = false
same_family V6 V6 = true

abbrev pub same_home : Home → Home → Bool
same_home one other = same_family one.family other.family && (one.bucket == other.bucket)

-- a packet's event stands before the others where its key is of this bucket
abbrev pub add_event : Layout → Home → Asked Event → List Event → List Event
add_event l home Settled events = events
add_event l home (Asks u e) events = if same_home home (home_of l u.key) then e ∷ events else events

-- the events on one bucket, in the order of the packets
abbrev pub events_at : Layout → Home → List Judged → List Event
events_at l home [] = []
events_at l home (j ∷ js) = add_event l home j.asked (events_at l home js)

-- the packet was not refused for want of pages
abbrev pub HasPages : Judged → Type 0
HasPages j = WhereAsked j.asked (λ e. IsNoRefusal e.reply)

-- The packets are judged one after the other: each asks once, the events on each bucket are a run of one bounded map,
-- and pages never run out. The buckets hold these pairs at first.
pub record IsOneThread (l : Layout) (times : Timeouts) (opening : Home → Pairs) (js : List Judged) : Type 0 where
  pub asked : AreAsked times js
  pub runs : (home : Home) → IsHome l home → (last : Pairs) × (writes : ℕ)
      × IsRun (bounds_in l home.family) (opening home) 0 (events_at l home js) last writes
  pub paged : All HasPages js

-- no bucket holds anything
abbrev pub nothing : Home → Pairs
nothing home = empty

-- the verdicts of the one-thread filter on these packets: no bucket holds anything at first
pub record AreVerdicts (l : Layout) (times : Timeouts) (policy : PolicyFacts) (packets : List PacketFacts)
    (verdicts : List Verdict) : Type 0 where
  pub judged : List Judged
  pub read : AreReadings policy packets (readings_of judged)
  pub one_thread : IsOneThread l times nothing judged
  pub said : verdicts ≡ verdicts_on judged
