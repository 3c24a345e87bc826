-- Where a packet's event stands in the record of its worker and in the history of its bucket, and that the packet passes by
-- what stands there.
use Rattle.std.specs.Prelude.{◌≡◌, ◌⊎◌, ◌↔◌, ◌<◌, ℕ, ◌+◌, ◌++◌, true, if◌then◌else◌, List, ◌∷◌, length, Some}
use lib.ListN.{get_elem?}
use mathlib.Core.Option.{some}
use Rattle.packet_view.specs.Captures.{PacketFacts}
use Rattle.packet_view.specs.Tuples.{TupleFacts}
use Rattle.acl_policy.specs.Policies.{PolicyFacts}
use Rattle.bihash_words.specs.Maps.{Event, IsEvent, Pairs}
use Rattle.bihash_words.specs.Sizes.{Sizes}
use Rattle.bihash_rule.specs.Callers.{known_at, opening_at}
use Rattle.bihash_rule.specs.Histories.{after, bounds_of, event_of, is_changed}
use Rattle.bihash_rule.specs.declared.view.Call.{Call}
use Rattle.bihash_rule.specs.declared.view.Record.{Record}
use Rattle.bihash_rule.specs.declared.view.View.{View}
use Rattle.session_state.specs.declared.timeouts.Timeouts.{Timeouts}
use Rattle.flow_filter.specs.Ageing.{Judges, Removal, Step, packets_in}
use Rattle.flow_filter.specs.Judged.{Asks, Judged, verdict_on}
use Rattle.flow_filter.specs.OneThread.{family_of, home_of, sizes_in}
use Rattle.flow_filter.specs.Passing.{HoldsLive, LetsThrough}
use Rattle.flow_filter.specs.Readings.{Ruled, Ruling}
use Rattle.flow_filter.specs.Updates.{Update, update_of}
use Rattle.session_state.specs.Passes.{passes}
use Rattle.session_state.specs.declared.verdict.Verdict.{Verdict}
use Rattle.flow_dealing.specs.Dealings.{Deal, flow_of_reading, worker_of}
use Rattle.flow_dealing.specs.WorkerRecords.{AreJudgedBetween, events_by}
use Rattle.flow_dealing.specs.Views.{Views, view_in}

-- the event is a call of this worker's record, after `before` writes of its bucket, and leads from the map there to
-- another
pub record HasPlace (z : Sizes) (v : View) (worker : ℕ) (e : Event) : Type 0 where
  pub record_at : Record
  pub stands : get_elem? v.records worker ≡ some record_at
  pub place : ℕ
  pub call : Call
  pub called : get_elem? record_at.calls place ≡ some call
  pub event : event_of call ≡ e
  pub before : ℕ
  pub number : call.stamp ≡ before + (if is_changed call.reply then 1 else 0)
  pub left : Pairs
  pub step : IsEvent (bounds_of z) (after (opening_at v.known call.bucket) (known_at v.known call.bucket) before) before e left

-- the steps that come before the packet of this number, from 0: as many packets are among them
pub record AreStepsBefore (steps : List Step) (number : ℕ) (j : Judged) (earlier : List Step) : Type 0 where
  pub later : List Step
  pub whole : steps ≡ earlier ++ (Judges j ∷ later)
  pub count : length (packets_in earlier) ≡ number

-- The packet has an event in the record of the worker that it is dealt to, on the bucket of its flow's key: there it stands
-- behind the worker's events of all steps that come before the packet, and no others. The packet passes exactly where at that
-- place its session is live or the rule lets it through.
pub record PassesAtPlace (d : Deal) (steps : List Step) (views : Views) (number : ℕ) (j : Judged) (u : Update)
    (ruling : Ruling) : Type 0 where
  pub e : Event
  pub its : j.asked ≡ Asks u e
  pub stands : HasPlace (sizes_in d.layout (family_of u.key)) (view_in views (family_of u.key))
      (worker_of d number (flow_of_reading j.reading)) e
  pub earlier : List Step
  pub are_earlier : AreStepsBefore steps number j earlier
  pub place : stands.place
      ≡ length (events_by d (family_of u.key) (worker_of d number (flow_of_reading j.reading)) 0 earlier)
  pub home : stands.call.bucket ≡ (home_of d.layout u.key).bucket
  pub exactly : (passes (verdict_on j) ≡ true)
      ↔ (HoldsLive u (after (opening_at (view_in views (family_of u.key)).known stands.call.bucket)
      (known_at (view_in views (family_of u.key)).known stands.call.bucket) stands.before)
      ⊎ LetsThrough u stands.left ruling)

-- by these records each packet of a flow does so
abbrev pub PassByRecords : {d : Deal} {times : Timeouts} {policy : PolicyFacts} {packets : List PacketFacts} {removals : List Removal}
    {verdicts : List Verdict} → AreJudgedBetween d times policy packets removals verdicts → Type 0
PassByRecords {d = d} {times = times} are = (k : ℕ) (j : Judged) (moment : ℕ) (tuple : TupleFacts) (ruling : Ruling) (u : Update)
    → get_elem? are.judged k ≡ some j → j.reading ≡ Ruled moment tuple ruling → update_of times j.reading ≡ Some u
    → PassesAtPlace d are.steps are.views k j u ruling

-- however the packets were judged, and whichever sessions were removed between them, each packet of a flow does so
abbrev pub PassAtPlaces : Deal → Timeouts → PolicyFacts → List PacketFacts → List Verdict → Type 0
PassAtPlaces d times policy packets verdicts =
    (removals : List Removal) (are : AreJudgedBetween d times policy packets removals verdicts) → PassByRecords are

-- No two packets have the same call: of two packets that one worker judged, with flows of one family, the call of the one
-- that comes first stands first in the worker's record.
abbrev pub HaveOwnCalls : Deal → List Step → Views → Type 0
HaveOwnCalls d steps views = (k m : ℕ) (j i : Judged) (u w : Update) (one other : Ruling)
    → (p : PassesAtPlace d steps views k j u one)
    → (q : PassesAtPlace d steps views m i w other) → family_of u.key ≡ family_of w.key
    → worker_of d k (flow_of_reading j.reading) ≡ worker_of d m (flow_of_reading i.reading)
    → k < m → p.stands.place < q.stands.place
