-- What one worker did: an item for each packet that was dealt to it.
use Rattle.std.specs.Prelude.{◌≡◌, ℕ, ◌+◌, ◌==◌, if◌then◌else◌, List, [], ◌∷◌, length, map, Some, All, slice_get}
use Rattle.std.specs.List.{AllZip}
use lib.ListN.{get_elem?}
use mathlib.Core.Option.{some}
use Rattle.packet_view.specs.Captures.{PacketFacts}
use Rattle.packet_view.specs.Frames as frames
use Rattle.acl_policy.specs.Policies.{PolicyFacts}
use Rattle.bihash_words.specs.Maps.{Event}
use Rattle.bihash_rule.specs.Histories.{event_of}
use Rattle.bihash_rule.specs.declared.view.Call.{Call}
use Rattle.session_state.specs.declared.timeouts.Timeouts.{Timeouts}
use Rattle.session_state.specs.declared.verdict.Verdict.{Verdict}
use Rattle.flow_filter.specs.Readings.{IsReading, IsSeen, Reading}
use Rattle.flow_filter.specs.Judged.{Asked, Asks, IsAsked, Judged, Settled, verdict_on}
use Rattle.flow_filter.specs.OneThread.{Layout, home_of}
use Rattle.flow_dealing.specs.Dealings.{Deal, flow_of_reading, flow_of_frame, worker_of}

-- a packet by its number, from 0, its reading, and the call that it made
pub record Item : Type 0 where
  pub packet : ℕ
  pub reading : Reading
  pub asked : Asked Call

abbrev pub events_of : Asked Call → Asked Event
events_of Settled = Settled
events_of (Asks u c) = Asks u (event_of c)

abbrev pub judged_of : Item → Judged
judged_of i = record { reading = i.reading; asked = events_of i.asked }

-- the call is one on the bucket of the update's key
abbrev pub IsCallAt : Layout → Asked Call → Type 0
IsCallAt l Settled = Unit {0}
IsCallAt l (Asks u c) = c.bucket ≡ (home_of l u.key).bucket

-- the packet asked once, on the bucket of its flow's key, where it has a flow
pub record IsItem (l : Layout) (times : Timeouts) (i : Item) : Type 0 where
  pub asked : IsAsked times (judged_of i)
  pub placed : IsCallAt l i.asked

-- the item is of a packet of this worker, and has its reading
pub record IsItemOf (d : Deal) (worker : ℕ) (policy : PolicyFacts) (packets : List PacketFacts)
    (i : Item) : Type 0 where
  pub packet : PacketFacts
  pub there : slice_get packets i.packet ≡ Some packet
  pub read : IsReading policy packet i.reading
  pub dealt : worker_of d i.packet (flow_of_reading i.reading) ≡ worker

-- what each packet's frame turns out to be
abbrev pub AreFrames : PolicyFacts → List PacketFacts → List frames.FrameFacts → Type 0
AreFrames policy packets views = AllZip (IsSeen policy) packets views

-- the numbers of a worker's packets, from a number on
unfoldable pub numbers_from : Deal → ℕ → ℕ → List frames.FrameFacts → List ℕ
numbers_from d worker at [] = []
numbers_from d worker at (view ∷ views) =
    if worker_of d at (flow_of_frame view) == worker then at ∷ numbers_from d worker (at + 1) views
    else numbers_from d worker (at + 1) views

-- the items are those of a worker's packets, all of them, in the order of the packets
pub record IsTrace (d : Deal) (times : Timeouts) (worker : ℕ) (policy : PolicyFacts) (packets : List PacketFacts)
    (trace : List Item) : Type 0 where
  pub items : All (IsItem d.layout times) trace
  pub of : All (IsItemOf d worker policy packets) trace
  pub dealt : (views : List frames.FrameFacts) → AreFrames policy packets views
      → map (λ i. i.packet) trace ≡ numbers_from d worker 0 views

-- the traces are those of all workers, in their order
pub record AreTraces (d : Deal) (times : Timeouts) (policy : PolicyFacts) (packets : List PacketFacts)
    (traces : List (List Item)) : Type 0 where
  pub count : length traces ≡ d.workers
  pub each : (w : ℕ) (trace : List Item) → get_elem? traces w ≡ some trace → IsTrace d times w policy packets trace

-- each packet's verdict is at its place
pub record ArePlaced (packets : List PacketFacts) (traces : List (List Item))
    (verdicts : List Verdict) : Type 0 where
  pub count : length verdicts ≡ length packets
  pub each : (w : ℕ) (trace : List Item) → get_elem? traces w ≡ some trace → (k : ℕ) (i : Item)
      → get_elem? trace k ≡ some i → get_elem? verdicts i.packet ≡ some (verdict_on (judged_of i))
