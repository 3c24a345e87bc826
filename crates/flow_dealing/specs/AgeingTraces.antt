-- What one worker did: the packets that were dealt to it, and the sessions that it removed, in its order.
use Rattle.std.specs.Prelude.{◌≡◌, ◌≤◌, ℕ, ◌+◌, Bool, true, if◌then◌else◌, List, [], ◌∷◌, length, Some, All, slice_get}
use Rattle.std.specs.List.{AllZip}
use lib.ListN.{get_elem?}
use mathlib.Core.Option.{some}
use Rattle.packet_view.specs.Captures.{PacketFacts}
use Rattle.packet_view.specs.declared.tuple.Family.{Family}
use Rattle.acl_policy.specs.Policies.{PolicyFacts}
use Rattle.bihash_words.specs.Sizes.{Sizes}
use Rattle.bihash_rule.specs.Views.{no_openings}
use Rattle.bihash_rule.specs.Callers.{IsLawfulCaller}
use Rattle.bihash_rule.specs.Histories.{event_of}
use Rattle.bihash_steps.specs.Steps.{IsToldWhole}
use Rattle.bihash_rule.specs.declared.view.Call.{Call}
use Rattle.bihash_rule.specs.declared.view.View.{View}
use Rattle.session_state.specs.declared.timeouts.Timeouts.{Timeouts}
use Rattle.flow_filter.specs.Ageing.{Removal}
use Rattle.flow_filter.specs.OneThread.{same_family, sizes_in}
use Rattle.flow_dealing.specs.Dealings.{Deal}
use Rattle.flow_dealing.specs.Traces.{IsTrace, Item}
use Rattle.flow_dealing.specs.Wanted.{HaveWanted}
use Rattle.flow_dealing.specs.WorkerRecords.{HasLongExpired, IsByOwner, add_in}

-- a removal: how many of all packets stand before it, its moment, the family of its table, and the call that it made
pub record Aged : Type 0 where
  pub behind : ℕ
  pub moment : ℕ
  pub family : Family
  pub call : Call

abbrev pub removal_by : ℕ → Aged → Removal
removal_by worker a = record { worker = worker; moment = a.moment; family = a.family; event = event_of a.call }

-- what a worker does
pub data Deed : Type 0 where
  -- it judges a packet
  Takes : Item → Deed
  -- it removes a session
  Ages : Aged → Deed

-- the items among the deeds, in their order
abbrev pub items_in : List Deed → List Item
items_in [] = []
items_in (Takes i ∷ deeds) = i ∷ items_in deeds
items_in (Ages a ∷ deeds) = items_in deeds

-- the removals among them
abbrev pub aged_in : List Deed → List Aged
aged_in [] = []
aged_in (Takes i ∷ deeds) = aged_in deeds
aged_in (Ages a ∷ deeds) = a ∷ aged_in deeds

-- the calls on one family's table, in the order of the deeds
abbrev pub calls_by : Family → List Deed → List Call
calls_by family [] = []
calls_by family (Takes i ∷ deeds) = add_in family i.asked (calls_by family deeds)
calls_by family (Ages a ∷ deeds) =
    if same_family family a.family then a.call ∷ calls_by family deeds else calls_by family deeds

-- The deeds stand in the order of all packets, from one number on: a removal behind the packets that it names. None is behind
-- more packets than there are.
abbrev pub AreInOrder : ℕ → ℕ → List Deed → Type 0
AreInOrder packets at [] = Unit {0}
AreInOrder packets at (Takes i ∷ deeds) = (at ≤ i.packet) × AreInOrder packets (i.packet + 1) deeds
AreInOrder packets at (Ages a ∷ deeds) = (at ≤ a.behind) × (a.behind ≤ packets) × AreInOrder packets a.behind deeds

-- A removal of a worker whose workers age: of a session that had ended, for so long that a late packet loses none, in a bucket
-- of its own, at the moment of the packet before which it stands.
pub record IsRemovalOf (d : Deal) (times : Timeouts) (ages : Bool) (packets : List PacketFacts) (worker : ℕ) (a : Aged)
    : Type 0 where
  pub may : ages ≡ true
  pub late : HasLongExpired times (removal_by worker a)
  pub own : IsByOwner d (removal_by worker a)
  pub packet : PacketFacts
  pub there : slice_get packets a.behind ≡ Some packet
  pub timed : a.moment ≡ packet.moment

-- the deeds are a worker's packets, all of them, and its removals, in the order of all packets
pub record AreDeeds (d : Deal) (times : Timeouts) (ages : Bool) (worker : ℕ) (policy : PolicyFacts)
    (packets : List PacketFacts) (deeds : List Deed) : Type 0 where
  pub trace : IsTrace d times worker policy packets (items_in deeds)
  pub removals : All (IsRemovalOf d times ages packets worker) (aged_in deeds)
  pub order : AreInOrder (length packets) 0 deeds

-- so they are of all workers, in their order
pub record AreAllDeeds (d : Deal) (times : Timeouts) (ages : Bool) (policy : PolicyFacts) (packets : List PacketFacts)
    (all : List (List Deed)) : Type 0 where
  pub count : length all ≡ d.workers
  pub each : (w : ℕ) (deeds : List Deed) → get_elem? all w ≡ some deeds → AreDeeds d times ages w policy packets deeds

-- The records are those of the workers in their order, each with the calls of its worker's deeds, of a table whose buckets
-- began empty; calls that were refused for want of a block had wanted it.
pub record HaveDeeds (z : Sizes) (family : Family) (all : List (List Deed)) (v : View) : Type 0 where
  pub records : AllZip (λ deeds r. r.calls ≡ calls_by family deeds) all v.records
  pub openings : v.known.openings ≡ no_openings
  pub wanted : HaveWanted z v

-- one family's callers of these workers, all of them, as one caller that is lawful and whole
pub record HaveDone (d : Deal) (family : Family) (all : List (List Deed)) (v : View) : Type 0 where
  pub lawful : IsLawfulCaller (sizes_in d.layout family) v
  pub told : IsToldWhole (sizes_in d.layout family) v
  pub did : HaveDeeds (sizes_in d.layout family) family all v
