-- What a worker may do that removes sessions between its packets, and what that leaves of its callers.
use Rattle.std.specs.Prelude.{◌≡◌, ◌⊎◌, ◌<◌, ◌+◌, ◌%◌, ℕ, Bool, List, [], Some, All, min, slice_get}
use Rattle.packet_view.specs.Captures.{PacketFacts}
use Rattle.packet_view.specs.CheckedCaptures.{remaining}
use Rattle.bihash_words.specs.Sizes.{Sizes}
use Rattle.bihash_words.specs.declared.shape.Shape.{Ghosts}
use Rattle.bihash_rule.specs.Callers.{IsLawfulCaller}
use Rattle.bihash_rule.specs.Views.{nothing_held}
use Rattle.bihash_steps.specs.Seats.{CallerState, with_view}
use Rattle.bihash_table.specs.Ageing.{EndsAt, Look, LookInTurn}
use Rattle.session_state.specs.declared.timeouts.Timeouts.{Timeouts}
use Rattle.flow_workers.specs.declared.ageing_clock.AgeingClock.{AgeingClock}
use Rattle.flow_workers.specs.declared.worker_share.Batch.{Batch}
use Rattle.flow_workers.specs.declared.worker_share.Share.{Share}
use Rattle.flow_workers.specs.Callers.{AreIdle, AreShapes}
use Rattle.flow_workers.specs.inner.AgeingTimes.{no_moment, seconds_of_part, seconds_of_round}

-- The packet at this place of the batch has this moment, and the worker holds nothing.
pub record MayAge {A B R G K L : Type 0} (ga : Ghosts A K) (gb : Ghosts B L) (batch : Batch A B R G K L)
    (worker at moment : ℕ) (share : Share A B K L ga gb) : Type 0 where
  pub shapes : AreShapes ga gb
  pub few : worker < batch.setup.workers
  pub idle : AreIdle ga gb batch.setup.tables.now share.callers
  pub packet : PacketFacts
  pub there : slice_get (remaining batch.packets) at ≡ Some packet
  pub timed : packet.moment ≡ moment

-- the bucket is one of this worker's, of so many
abbrev pub IsOwn : ℕ → ℕ → ℕ → Type 0
IsOwn workers worker bucket = worker ≡ bucket % workers

-- the caller looked at some buckets of this worker, one after the other, for what is expired
pub record HasAged (z : Sizes) (workers worker : ℕ) (is_expired : ℕ → Bool) (s t : CallerState) : Type 0 where
  pub same : t ≡ with_view s t.view
  pub free : t.view.holds ≡ nothing_held
  pub lawful : IsLawfulCaller z t.view
  pub looks : List Look
  pub own : All (λ look. IsOwn workers worker look.bucket) looks
  pub ages : LookInTurn z is_expired s.view looks t.view

-- the next place is behind a bucket at which these looks end, of so many workers, or where they began if there are none
abbrev pub GoesOn : ℕ → ℕ → List Look → ℕ → Type 0
GoesOn workers from looks next =
    ((looks ≡ []) × (next ≡ from)) ⊎ ((b : ℕ) × EndsAt looks b × (next ≡ min (b + workers) no_moment))

-- so the caller looked, and this place is next
abbrev pub HasAgedOn : Sizes → ℕ → ℕ → (ℕ → Bool) → CallerState → CallerState → ℕ → ℕ → Type 0
HasAgedOn z workers worker is_expired s t from next =
    (aged : HasAged z workers worker is_expired s t) × GoesOn workers from aged.looks next

-- The clock of a worker that aged at this moment: it is due again a part of a round later, whichever tables are short of pages.
pub record HasTicked (times : Timeouts) (moment : ℕ) (clock : AgeingClock) : Type 0 where
  pub last : clock.last ≡ moment
  pub four : Bool
  pub six : Bool
  pub due : clock.due ≡ min (moment + seconds_of_part (min (seconds_of_round times four) (seconds_of_round times six))) no_moment
