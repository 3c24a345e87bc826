-- The one-thread filter that ages: between packets, sessions that have ended are removed (this project's profile).
use Rattle.std.specs.Prelude.{◌≡◌, ◌≢◌, ◌<◌, ◌≤◌, ◌^◌, ◌↔◌, ℕ, false, true, if◌then◌else◌, List, [], ◌∷◌, Option, Some, None, All, map}
use Rattle.std.specs.FinMap.{get}
use Rattle.bihash_words.specs.Maps.{Event, Pairs}
use Rattle.bihash_words.specs.Runs.{IsRun}
use Rattle.bihash_words.specs.declared.patch.Change.TheVariants.{Remove}
use Rattle.bihash_words.specs.declared.patch.Reply.{Reply}
use Rattle.bihash_words.specs.declared.patch.Reply.TheVariants.{Worn}
use Rattle.bihash_words.specs.Sizes.{bucket_of}
use Rattle.packet_view.specs.declared.tuple.Family.{Family}
use Rattle.session_state.specs.declared.timeouts.Timeouts.{Timeouts}
use Rattle.session_state.specs.Sessions.{is_expired_at}
use Rattle.flow_filter.specs.Judged.{IsAsked, Judged, WhereAsked}
use Rattle.flow_filter.specs.OneThread.{HasPages, Home, IsHome, Layout, add_event, bounds_in, same_home, sizes_in}
use Rattle.flow_filter.specs.Readings.{Framed, Reading, Ruled}

-- a removal between packets: the worker that makes it, its moment, the family of its table, and the event there
pub record Removal : Type 0 where
  pub worker : ℕ
  pub moment : ℕ
  pub family : Family
  pub event : Event

-- the bucket of its key
abbrev pub removed_from : Layout → Removal → Home
removed_from l r = record { family = r.family; bucket = bucket_of (sizes_in l r.family) r.event.key }

-- what the filter does, one after the other
pub data Step : Type 0 where
  -- it judges a packet
  Judges : Judged → Step
  -- it removes a session without a packet
  Removes : Removal → Step

-- the key is removed of a word that counts as expired at that moment
pub record IsOfExpired (times : Timeouts) (r : Removal) : Type 0 where
  pub word : ℕ
  pub found : r.event.found ≡ Some word
  pub short : word < 2 ^ 64
  pub ended : is_expired_at times r.moment word ≡ true
  pub change : r.event.change ≡ Remove

-- a packet asks once and finds pages, and only what is expired is removed
abbrev pub IsRightStep : Timeouts → Step → Type 0
IsRightStep times (Judges j) = IsAsked times j × HasPages j
IsRightStep times (Removes r) = IsOfExpired times r

-- the packets among the steps, in their order
abbrev pub packets_in : List Step → List Judged
packets_in [] = []
packets_in (Judges j ∷ steps) = j ∷ packets_in steps
packets_in (Removes r ∷ steps) = packets_in steps

-- the removals among them
abbrev pub removals_in : List Step → List Removal
removals_in [] = []
removals_in (Judges j ∷ steps) = removals_in steps
removals_in (Removes r ∷ steps) = r ∷ removals_in steps

-- the events on one bucket, in the order of the steps
abbrev pub steps_at : Layout → Home → List Step → List Event
steps_at l home [] = []
steps_at l home (Judges j ∷ steps) = add_event l home j.asked (steps_at l home steps)
steps_at l home (Removes r ∷ steps) =
    if same_home home (removed_from l r) then r.event ∷ steps_at l home steps else steps_at l home steps

-- when a step was: a packet that its frame alone gives a verdict has no moment
abbrev pub moment_of_reading : Reading → Option ℕ
moment_of_reading (Framed verdict) = None
moment_of_reading (Ruled moment tuple ruling) = Some moment

abbrev pub moment_of : Step → Option ℕ
moment_of (Judges j) = moment_of_reading j.reading
moment_of (Removes r) = Some r.moment

-- moments never fall, from this one on
abbrev pub NeverFall : ℕ → List (Option ℕ) → Type 0
NeverFall least [] = Unit {0}
NeverFall least (None ∷ moments) = NeverFall least moments
NeverFall least (Some moment ∷ moments) = (least ≤ moment) × NeverFall moment moments

-- Packets are judged one after the other, as in the one-thread filter, and between them sessions that have ended are
-- removed. Moments never fall.
pub record IsAgedThread (l : Layout) (times : Timeouts) (opening : Home → Pairs) (steps : List Step) : Type 0 where
  pub right : All (IsRightStep times) steps
  pub runs : (home : Home) → IsHome l home → (last : Pairs) × (writes : ℕ)
      × IsRun (bounds_in l home.family) (opening home) 0 (steps_at l home steps) last writes
  pub in_time : NeverFall 0 (map moment_of steps)

-- the maps hold the same sessions that are live at this moment
abbrev pub HoldSameLive : Timeouts → ℕ → Pairs → Pairs → Type 0
HoldSameLive times moment m n = (key : List ℕ) (value : ℕ) → is_expired_at times moment value ≡ false
    → (get m key ≡ Some value) ↔ (get n key ≡ Some value)

-- the packet's bucket was not worn
abbrev pub IsNotWorn : Reply → Type 0
IsNotWorn reply = (found : Option ℕ) → reply ≢ Worn found

abbrev pub IsUnworn : Judged → Type 0
IsUnworn j = WhereAsked j.asked (λ e. IsNotWorn e.reply)
