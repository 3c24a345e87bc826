-- What workers said of packets, and where it is placed.
use Rattle.std.specs.Prelude.{◌≡◌, ◌<◌, ◌≤◌, ◌+◌, ◌++◌, ◌==◌, if◌then◌else◌, ℕ, List, [], ◌∷◌, Some, drop, length, map, replicate, slice_get, slice_index, slice_index_or}
use Rattle.std.specs.Global.{Vec}
use lib.ListN.{get_elem?}
use mathlib.Core.Option.{some}
use Rattle.packet_view.specs.Captures.{PacketFacts}
use Rattle.packet_view.specs.Frames as frames
use Rattle.bihash_words.specs.declared.shape.Shape.{Ghosts}
use Rattle.flow_filter.specs.Readings.{IsSeen}
use Rattle.session_state.specs.declared.verdict.Verdict.{Verdict}
use Rattle.flow_dealing.specs.Dealings.{flow_of_frame, worker_of}
use Rattle.flow_dealing.specs.Traces.{ArePlaced, AreTraces, AreFrames, Item, numbers_from}
use Rattle.flow_workers.specs.declared.verdict_merge.VerdictMerge.{VerdictMerge}
use Rattle.flow_workers.specs.declared.worker_share.Share.{Share}
use Rattle.flow_workers.specs.inner.Work.{AreSaid, RunFacts, numbers_of, verdict_in}

-- the verdicts on the first packets, of which some may be kept no longer, and how many of those in each worker's share are
-- among them
pub record PlacedFacts : Type 0 where
  pub verdicts : List Verdict
  pub next : List ℕ

-- those that are placed behind these, which are kept no longer
abbrev pub placed_behind : List Verdict → VerdictMerge → PlacedFacts
placed_behind said placed = record { verdicts = said ++ placed.verdicts.items; next = placed.next }

-- what each worker said before and its share keeps no longer, by the worker's number
abbrev pub LetGo : Type 0
LetGo = ℕ → List Verdict

-- what the workers' shares have that they said
abbrev pub said_in_shares : {A B K L : Type 0} {ga : Ghosts A K} {gb : Ghosts B L} → List (Share A B K L ga gb) → List (Vec Verdict)
said_in_shares {A} {B} {K} {L} {ga} {gb} shares = map (λ (s : Share A B K L ga gb). s.said) shares

-- these are the workers of the run's packets from this number on
pub record AreJudges (run : RunFacts) (first : ℕ) (workers : List ℕ) : Type 0 where
  pub inside : first + length workers ≤ length run.packets
  pub each : (k : ℕ) (packet : PacketFacts) (view : frames.FrameFacts) → k < length workers
      → slice_get run.packets (first + k) ≡ Some packet → IsSeen run.policy packet view
      → slice_index workers k ≡ worker_of run.deal (first + k) (flow_of_frame view)

-- the workers of a run did these traces, and said this: what they let go, and then what is in their shares
pub record AreTold (run : RunFacts) (traces : List (List Item)) (gone : LetGo) (all : List (Vec Verdict)) : Type 0 where
  pub some_worker : 0 < run.deal.workers
  pub few : run.deal.workers ≤ 16
  pub traced : AreTraces run.deal run.times run.policy run.packets traces
  pub count : length all ≡ run.deal.workers
  pub said : (w : ℕ) (trace : List Item) (said : Vec Verdict) → get_elem? traces w ≡ some trace → get_elem? all w ≡ some said
      → AreSaid trace (gone w ++ said.items)

-- at the numbers of each worker's packets stand the verdicts that it said and let go, and these are the verdicts on all packets
pub record AreInPlace (run : RunFacts) (gone : LetGo) (verdicts : List Verdict) : Type 0 where
  pub count : length verdicts ≡ length run.packets
  pub each : (w : ℕ) (views : List frames.FrameFacts) → w < run.deal.workers → AreFrames run.policy run.packets views
      → map (λ n. get_elem? verdicts n) (numbers_from run.deal w 0 views) ≡ map (λ v. some v) (gone w)

-- The verdicts on the first packets are at their places, and none of the others: each worker's are those that it let go, and
-- so many of those in its share.
pub record ArePlacedBefore (run : RunFacts) (traces : List (List Item)) (gone : LetGo) (placed : PlacedFacts) : Type 0 where
  pub room : length placed.next ≡ 16
  pub left : (w : ℕ) (trace : List Item) → get_elem? traces w ≡ some trace
      → (views : List frames.FrameFacts) → AreFrames run.policy run.packets views
      → drop (length (gone w) + slice_index placed.next w) (numbers_of trace)
      ≡ numbers_from run.deal w (length placed.verdicts) (drop (length placed.verdicts) views)
  pub each : (w : ℕ) (trace : List Item) → get_elem? traces w ≡ some trace → (k : ℕ) (i : Item)
      → get_elem? trace k ≡ some i → k < length (gone w) + slice_index placed.next w
      → get_elem? placed.verdicts i.packet ≡ some (verdict_in i)

-- the verdicts on the packets before these workers' are placed
pub record MayPlace (run : RunFacts) (traces : List (List Item)) (gone : LetGo) (all : List (Vec Verdict))
    (workers : List ℕ) (placed : PlacedFacts) : Type 0 where
  pub told : AreTold run traces gone all
  pub judges : AreJudges run (length placed.verdicts) workers
  pub before : ArePlacedBefore run traces gone placed

-- so they are for some run
abbrev pub CanPlace : List (Vec Verdict) → List ℕ → VerdictMerge → Type 0
CanPlace all workers placed = (run : RunFacts) × (traces : List (List Item)) × (gone : LetGo) × (said : List Verdict)
    × MayPlace run traces gone all workers (placed_behind said placed)

-- the verdicts on the packets of these workers were placed after those that were
pub record HasPlaced (all : List (Vec Verdict)) (workers : List ℕ) (old new : VerdictMerge) : Type 0 where
  pub count : length new.verdicts.items ≡ length old.verdicts.items + length workers
  pub placed : (run : RunFacts) (traces : List (List Item)) (gone : LetGo) (said : List Verdict)
      → MayPlace run traces gone all workers (placed_behind said old) → ArePlacedBefore run traces gone (placed_behind said new)

-- the verdicts on the packets before a batch, and none on the batch's
abbrev pub before_batch : List Verdict → PlacedFacts
before_batch verdicts = record { verdicts = verdicts; next = replicate 16 0 }

-- these are the workers of the packets of a batch, the last of the run, and the verdicts on those before it are placed
pub record MayMerge (run : RunFacts) (traces : List (List Item)) (gone : LetGo) (all : List (Vec Verdict))
    (workers : List ℕ) (verdicts : List Verdict) : Type 0 where
  pub may : MayPlace run traces gone all workers (before_batch verdicts)
  pub last : length verdicts + length workers ≡ length run.packets

-- so they are for some run
abbrev pub CanMerge : List (Vec Verdict) → List ℕ → Vec Verdict → Type 0
CanMerge all workers verdicts = (run : RunFacts) × (traces : List (List Item)) × (gone : LetGo) × (said : List Verdict)
    × MayMerge run traces gone all workers (said ++ verdicts.items)

-- These verdicts are what was said, in the order of the packets, whatever the run and its traces were, and whatever the
-- workers let go before.
abbrev pub AreMerged : List (Vec Verdict) → List ℕ → Vec Verdict → List Verdict → Type 0
AreMerged all workers before verdicts = (run : RunFacts) (traces : List (List Item)) (gone : LetGo) (said : List Verdict)
    → MayMerge run traces gone all workers (said ++ before.items) → ArePlaced run.packets traces (said ++ verdicts)

-- the shares have their callers, and nothing that was said
pub record HaveLetGo {A B K L : Type 0} {ga : Ghosts A K} {gb : Ghosts B L} (old new : List (Share A B K L ga gb))
    : Type 0 where
  pub count : length new ≡ length old
  pub callers : (i : ℕ) (d e : Share A B K L ga gb) → i < length old
      → (slice_index_or new i e).callers ≡ (slice_index_or old i d).callers
  pub silent : (i : ℕ) (d : Share A B K L ga gb) → i < length old → (slice_index_or new i d).said.items ≡ []

-- several workers' verdicts are those that were merged, and the only one's those that it said
pub record AreAllVerdicts (merged : List Verdict) (all : List (Vec Verdict)) (verdicts : List Verdict) : Type 0 where
  pub several : 1 < length all → verdicts ≡ merged
  pub one : (only : Vec Verdict) → all ≡ only ∷ [] → verdicts ≡ only.items

-- what comes behind the first packets for any worker, where the next packet is this worker's
abbrev pub numbers_behind : RunFacts → ℕ → ℕ → ℕ → List frames.FrameFacts → List ℕ
numbers_behind run w v at views = if w == v then at ∷ numbers_from run.deal v (at + 1) (drop (at + 1) views)
    else numbers_from run.deal v (at + 1) (drop (at + 1) views)

-- the next packet is this worker's, which said this of it
pub record IsNext (run : RunFacts) (traces : List (List Item)) (gone : LetGo) (all : List (Vec Verdict))
    (placed : PlacedFacts) (w : ℕ) : Type 0 where
  pub trace : List Item
  pub traced : get_elem? traces w ≡ some trace
  pub said : Vec Verdict
  pub here : get_elem? all w ≡ some said
  pub few : w < 16
  pub item : Item
  pub at : get_elem? trace (length (gone w) + slice_index placed.next w) ≡ some item
  pub verdict : get_elem? said.items (slice_index placed.next w) ≡ some (verdict_in item)
  pub number : item.packet ≡ length placed.verdicts
  pub behind : (v : ℕ) (views : List frames.FrameFacts) → AreFrames run.policy run.packets views
      → numbers_from run.deal v (length placed.verdicts) (drop (length placed.verdicts) views)
      ≡ numbers_behind run w v (length placed.verdicts) views

-- this worker's next verdict is that on the next packet
pub record MayPlaceNext (run : RunFacts) (traces : List (List Item)) (gone : LetGo) (all : List (Vec Verdict))
    (placed : PlacedFacts) (w : ℕ) : Type 0 where
  pub before : ArePlacedBefore run traces gone placed
  pub next : IsNext run traces gone all placed w

-- so it is for some run
abbrev pub CanPlaceNext : List (Vec Verdict) → VerdictMerge → ℕ → Type 0
CanPlaceNext all placed w = (run : RunFacts) × (traces : List (List Item)) × (gone : LetGo) × (said : List Verdict)
    × MayPlaceNext run traces gone all (placed_behind said placed) w

-- this worker's next verdict was placed
pub record HasPlacedNext (all : List (Vec Verdict)) (old : VerdictMerge) (w : ℕ) (new : VerdictMerge) : Type 0 where
  pub count : length new.verdicts.items ≡ length old.verdicts.items + 1
  pub placed : (run : RunFacts) (traces : List (List Item)) (gone : LetGo) (said : List Verdict)
      → MayPlaceNext run traces gone all (placed_behind said old) w → ArePlacedBefore run traces gone (placed_behind said new)
