-- What many workers leave: one event for each packet of a flow, in the record of the worker that it was dealt to, and one for
-- each session that they remove.
use Rattle.std.specs.Prelude.{◌≡◌, ◌≢◌, ◌≤◌, ◌<◌, ◌*◌, ◌%◌, ◌^◌, ◌-◌, ℕ, ◌+◌, ◌==◌, ◌&&◌, Bool, true, false, count_by, if◌then◌else◌, List, [], ◌∷◌, length, map, Some, All}
use lib.ListN.{get_elem?}
use mathlib.Core.Option.{some}
use Rattle.packet_view.specs.Captures.{PacketFacts}
use Rattle.packet_view.specs.declared.tuple.Family.{Family}
use Rattle.acl_policy.specs.Policies.{PolicyFacts}
use Rattle.bihash_words.specs.Maps.{Event}
use Rattle.bihash_rule.specs.Views.{no_openings}
use Rattle.bihash_rule.specs.Callers.{IsLawfulCaller}
use Rattle.bihash_rule.specs.Histories.{event_of}
use Rattle.bihash_steps.specs.Steps.{IsToldWhole}
use Rattle.bihash_rule.specs.declared.view.Record.{Record}
use Rattle.bihash_rule.specs.declared.view.View.{View}
use Rattle.session_state.specs.declared.timeouts.Timeouts.{Timeouts}
use Rattle.session_state.specs.declared.verdict.Verdict.{Verdict}
use Rattle.session_state.specs.declared.verdict.Verdict.TheVariants.{NoPages}
use Rattle.flow_filter.specs.Ageing.{IsOfExpired, Judges, NeverFall, Removal, Removes, Step, moment_of, packets_in, removals_in, removed_from}
use Rattle.flow_filter.specs.Readings.{AreReadings}
use Rattle.flow_filter.specs.Judged.{Asked, Asks, IsAsked, Judged, Settled, verdict_on}
use Rattle.flow_filter.specs.OneThread.{HasPages, Layout, bounds_in, family_of, same_family, sizes_in}
use Rattle.flow_dealing.specs.Views.{Views, view_in}
use Rattle.flow_dealing.specs.Dealings.{Deal, flow_of_reading, worker_of}
use Rattle.flow_dealing.specs.Wanted.{HaveWanted}

-- what came of an update of this family, an event or a call, stands before the others
abbrev pub add_in : {A : Type 0} → Family → Asked A → List A → List A
add_in family Settled others = others
add_in family (Asks u this) others = if same_family family (family_of u.key) then this ∷ others else others

-- The events of a worker on one family's table, in the order of the steps: those of its packets, whose numbers begin with n,
-- and its removals.
unfoldable pub events_by : Deal → Family → ℕ → ℕ → List Step → List Event
events_by d family worker n [] = []
events_by d family worker n (Judges j ∷ steps) =
    if worker_of d n (flow_of_reading j.reading) == worker
    then add_in family j.asked (events_by d family worker (n + 1) steps)
    else events_by d family worker (n + 1) steps
events_by d family worker n (Removes r ∷ steps) =
    if same_family family r.family && (r.worker == worker) then r.event ∷ events_by d family worker n steps
    else events_by d family worker n steps

-- The records of one family's callers, all of them: that of each worker has the events of its packets and its removals, in
-- their order, and no other. The caller that has them is lawful and whole, of a table that began empty. Each call that was
-- refused for want of a block had wanted it at the map where it stands.
pub record AreRecorded (d : Deal) (family : Family) (steps : List Step) (v : View) : Type 0 where
  pub lawful : IsLawfulCaller (sizes_in d.layout family) v
  pub told : IsToldWhole (sizes_in d.layout family) v
  pub openings : v.known.openings ≡ no_openings
  pub count : length v.records ≡ d.workers
  pub each : (worker : ℕ) (r : Record) → get_elem? v.records worker ≡ some r
      → map event_of r.calls ≡ events_by d family worker 0 steps
  pub wanted : HaveWanted (sizes_in d.layout family) v

-- The packets were judged by workers, one of whom removed each of these sessions between them, which had ended. Each packet
-- asked once, what was said of them are the verdicts on what they found and were answered, and the events of all that the workers
-- did, in one order of steps, stand in whole records.
pub record AreJudgedBetween (d : Deal) (times : Timeouts) (policy : PolicyFacts) (packets : List PacketFacts)
    (removals : List Removal) (verdicts : List Verdict) : Type 0 where
  pub judged : List Judged
  pub read : AreReadings policy packets (map (λ j. j.reading) judged)
  pub asked : All (IsAsked times) judged
  pub said : verdicts ≡ map verdict_on judged
  pub steps : List Step
  pub packets_are : packets_in steps ≡ judged
  pub removals_are : removals_in steps ≡ removals
  pub ended : All (IsOfExpired times) removals
  pub by : All (λ r. r.worker < d.workers) removals
  pub views : Views
  pub recorded : (family : Family) → AreRecorded d family steps (view_in views family)

-- the same where no session was removed
abbrev pub AreJudged : Deal → Timeouts → PolicyFacts → List PacketFacts → List Verdict → Type 0
AreJudged d times policy packets verdicts = AreJudgedBetween d times policy packets [] verdicts

-- the same where this is what all callers know together
abbrev pub AreJudgedBy : Deal → Timeouts → PolicyFacts → List PacketFacts → List Verdict → Views → Type 0
AreJudgedBy d times policy packets verdicts views = (run : AreJudged d times policy packets verdicts) × (run.views ≡ views)

-- a packet of this family's flows
abbrev pub is_in : Family → Asked Event → Bool
is_in family Settled = false
is_in family (Asks u e) = same_family family (family_of u.key)

-- how many packets are of this family's flows
abbrev pub keyed : Family → List Judged → ℕ
keyed family js = count_by (λ j. is_in family j.asked) js

-- so few packets of the family's flows that its pages can't run out, however blocks grow
abbrev pub AreFew : Layout → Family → List Judged → Type 0
AreFew l family js = keyed family js * 2 ^ (sizes_in l family).max_log2 ≤ (sizes_in l family).pages

-- how many removals are of this family's table
abbrev pub removed_of : Family → List Removal → ℕ
removed_of family removals = count_by (λ r. same_family family r.family) removals

-- the same where sessions are removed too
abbrev pub AreFewBetween : Layout → Family → List Removal → List Judged → Type 0
AreFewBetween l family removals js =
    (keyed family js + removed_of family removals) * 2 ^ (sizes_in l family).max_log2 ≤ (sizes_in l family).pages

-- a packet of this family's flows was not refused for want of pages, and its verdict doesn't say so
abbrev pub HasPagesIn : Family → Judged → Type 0
HasPagesIn family j = is_in family j.asked ≡ true → HasPages j × (verdict_on j ≢ NoPages)

-- no verdict says no-pages
abbrev pub HavePages : List Verdict → Type 0
HavePages verdicts = All (λ v. v ≢ NoPages) verdicts

-- a session is removed by the worker to whom packets of its bucket are dealt
abbrev pub IsByOwner : Deal → Removal → Type 0
IsByOwner d r = r.worker ≡ (removed_from d.layout r).bucket % d.workers

-- how many seconds after a session has ended workers remove it
abbrev pub removal_delay : ℕ
removal_delay = 60

-- what was removed was expired for so long already
abbrev pub HasLongExpired : Timeouts → Removal → Type 0
HasLongExpired times r = IsOfExpired times (record r { moment = r.moment - removal_delay })

-- the moments of packets never fall
abbrev pub AreInTimeOrder : List PacketFacts → Type 0
AreInTimeOrder packets = NeverFall 0 (map (λ p. Some p.moment) packets)

-- none of these packets is later than this
abbrev pub AreUntil : ℕ → List PacketFacts → Type 0
AreUntil latest packets = All (λ p. p.moment ≤ latest) packets

-- The packets were judged by workers, and this is what all of them know together. Where they age, each removes, between its own
-- packets, sessions of its own buckets that ended so long before that a packet which is late by less loses none; where they don't,
-- none is removed. No removal is later than the latest packet. Where the packets' moments never fall, those of all steps don't either.
pub record AreJudgedAgeing (d : Deal) (times : Timeouts) (ages : Bool) (policy : PolicyFacts) (packets : List PacketFacts)
    (verdicts : List Verdict) (views : Views) : Type 0 where
  pub removals : List Removal
  pub judged : AreJudgedBetween d times policy packets removals verdicts
  pub known : judged.views ≡ views
  pub none : ages ≡ false → removals ≡ []
  pub own : All (IsByOwner d) removals
  pub late : All (HasLongExpired times) removals
  pub timed : (latest : ℕ) → AreUntil latest packets → All (λ r. r.moment ≤ latest) removals
  pub in_time : AreInTimeOrder packets → NeverFall 0 (map moment_of judged.steps)

-- packets and removals are no more than the writes that a bucket may have
abbrev pub AreWithinLimit : Deal → List PacketFacts → List Removal → Type 0
AreWithinLimit d packets removals = (family : Family) → length packets + length removals ≤ (bounds_in d.layout family).limit

-- twice as many packets are no more than these
abbrev pub AreWithinHalf : Deal → List PacketFacts → Type 0
AreWithinHalf d packets = (family : Family) → 2 * length packets ≤ (bounds_in d.layout family).limit

-- Each session is removed by the worker of its bucket, moments never fall, and packets and removals are no more than the
-- writes that a bucket may have.
pub record RemoveInTime (d : Deal) (steps : List Step) : Type 0 where
  pub own : All (IsByOwner d) (removals_in steps)
  pub in_time : NeverFall 0 (map moment_of steps)
  pub few : (family : Family) → length steps ≤ (bounds_in d.layout family).limit
