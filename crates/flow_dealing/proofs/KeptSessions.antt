-- Where workers age, they keep what is live at the latest second of the packets.
use Rattle.std.proofs.Common.{◌≡◌, ◌⊎◌, ◌++◌, ◌≤◌, ℕ, Bool, List, [], ◌∷◌, Option, Some, None, All, map, arith, sym, subst}
use Rattle.std.specs.Prelude.{IfSome}
use Rattle.std.proofs.lemmas.List.Elements.{All-cons, All-head, All-nil, All-tail}
use Rattle.packet_view.specs.Captures.{PacketFacts}
use Rattle.packet_view.specs.Frames as frames
use Rattle.acl_policy.specs.Policies.{PolicyFacts, section_of}
use Rattle.bihash_words.specs.Maps.{Pairs}
use Rattle.bihash_words.specs.Runs.{IsRun}
use Rattle.bihash_steps.specs.BucketSteps.{map_now}
use Rattle.session_state.specs.declared.timeouts.Timeouts.{Timeouts}
use Rattle.session_state.specs.declared.verdict.Verdict.{Verdict}
use Rattle.session_state.specs.declared.verdict.Verdict.TheVariants as verdict
use Rattle.flow_filter.specs.Ageing.{HoldSameLive, Judges, NeverFall, Removes, Step, moment_of, moment_of_reading, packets_in, removals_in}
use Rattle.flow_filter.specs.Judged.{readings_of}
use Rattle.flow_filter.specs.OneThread.{AreVerdicts, Home, IsHome, bounds_in, events_at, nothing}
use Rattle.flow_filter.specs.Readings.{AreReadings, Framed, IsReading, IsReadingOf, Reading}
use Rattle.flow_filter.proofs.LiveLemmas.{live_at_end}
use Rattle.flow_dealing.specs.declared.worker_of_flow.Dealing.TheVariants.{Bucket}
use Rattle.flow_dealing.specs.Views.{Views, view_in}
use Rattle.flow_dealing.specs.Dealings.{Deal}
use Rattle.flow_dealing.specs.WorkerRecords.{AreInTimeOrder, AreJudgedAgeing, AreUntil, AreWithinLimit, HavePages}
use Rattle.flow_dealing.proofs.OneReport.{aged_by_one, removed_in_time, run_of_steps}

-- a step, where it has a moment, is no later than this
abbrev IsUntil : ℕ → Option ℕ → Type 0
IsUntil latest moment = IfSome moment (λ n. n ≤ latest)

-- moments that never fall don't fall to one that none is later than
fall_to_none : (least latest : ℕ) (moments : List (Option ℕ)) → least ≤ latest → NeverFall least moments → All (IsUntil latest) moments
    → NeverFall least (moments ++ Some latest ∷ [])
fall_to_none least latest [] goes fall until = (goes, tt)
fall_to_none least latest (None ∷ moments) goes fall until =
    fall_to_none least latest moments goes fall (All-tail (IsUntil latest) None moments until)
fall_to_none least latest (Some moment ∷ moments) goes fall until = (
  fall.0,
  fall_to_none moment latest moments (All-head (IsUntil latest) (Some moment) moments until) fall.1
      (All-tail (IsUntil latest) (Some moment) moments until),
)

read_until : (policy : PolicyFacts) (p : PacketFacts) (reading : Reading) (latest : ℕ) → p.moment ≤ latest → IsReading policy p reading
    → IsUntil latest (moment_of_reading reading)
read_until policy p reading latest goes read = go read.0 read.2
  where
    unmoved : (said : Verdict) → reading ≡ Framed said → IsUntil latest (moment_of_reading reading)
    unmoved said is = subst (λ (r : Reading). IsUntil latest (moment_of_reading r)) (sym is) tt

    go : (view : frames.FrameFacts) → IsReadingOf (section_of p.interface policy) p.moment view reading
        → IsUntil latest (moment_of_reading reading)
    go frames.NotIp is = unmoved verdict.NotIp is
    go frames.Malformed is = unmoved verdict.Malformed is
    go frames.Short is = unmoved verdict.Short is
    go (frames.Ip direction tuple) is = subst (λ (r : Reading). IsUntil latest (moment_of_reading r)) (sym is.2) goes

-- where no packet and no removal is later, no step is
steps_until : (policy : PolicyFacts) (latest : ℕ) (packets : List PacketFacts) (steps : List Step)
    → AreReadings policy packets (readings_of (packets_in steps)) → AreUntil latest packets
    → All (λ r. r.moment ≤ latest) (removals_in steps) → All (IsUntil latest) (map moment_of steps)
steps_until policy latest packets [] read until removed = All-nil (IsUntil latest)
steps_until policy latest [] (Judges j ∷ steps) read until removed = absurd read
steps_until policy latest (p ∷ ps) (Judges j ∷ steps) read until removed =
    All-cons (IsUntil latest) (moment_of (Judges j)) (map moment_of steps)
    (read_until policy p j.reading latest (All-head (λ q. q.moment ≤ latest) p ps until) read.0)
    (steps_until policy latest ps steps read.1 (All-tail (λ q. q.moment ≤ latest) p ps until) removed)
steps_until policy latest packets (Removes r ∷ steps) read until removed =
    All-cons (IsUntil latest) (moment_of (Removes r)) (map moment_of steps)
    (All-head (λ s. s.moment ≤ latest) r (removals_in steps) removed)
    (steps_until policy latest packets steps read until (All-tail (λ s. s.moment ≤ latest) r (removals_in steps) removed))

-- what all workers know of a bucket has the live sessions that the one-thread filter leaves there, and no other
pub live_is_kept : (d : Deal) (times : Timeouts) (ages : Bool) (policy : PolicyFacts) (packets : List PacketFacts)
    (verdicts : List Verdict) (v : Views) (are : AreJudgedAgeing d times ages policy packets verdicts v)
    → (d.dealing ≡ Bucket) ⊎ (d.workers ≡ 1) → HavePages verdicts → AreInTimeOrder packets
    → AreWithinLimit d packets are.removals → (moment : ℕ) → AreUntil moment packets
    → (all : AreVerdicts d.layout times policy packets verdicts) (home : Home) → IsHome d.layout home → (last : Pairs) (writes : ℕ)
    → IsRun (bounds_in d.layout home.family) (nothing home) 0 (events_at d.layout home all.judged) last writes
    → HoldSameLive times moment last (map_now (view_in v home.family) home.bucket)
live_is_kept d times ages policy packets verdicts v are one paged order few moment until all home inside last writes run =
    let steps = are.judged.steps in
    let in_time = removed_in_time d times ages policy packets verdicts v are order few in
    let aged = run_of_steps d times policy packets verdicts are.removals are.judged one in_time.own home inside in
    let read = subst (λ js. AreReadings policy packets (readings_of js)) (sym are.judged.packets_are) are.judged.read in
    let removed = subst (All (λ r. r.moment ≤ moment)) (sym are.judged.removals_are) (are.timed moment until) in
    subst (λ known. HoldSameLive times moment last (map_now (view_in known home.family) home.bucket)) are.known
    (live_at_end d.layout times policy packets verdicts steps all
    (aged_by_one d times policy packets verdicts are.removals are.judged one paged in_time) read in_time.few moment
    (fall_to_none 0 moment (map moment_of steps) (omega arith) in_time.in_time (steps_until policy moment packets steps read until removed))
    home last (map_now (view_in are.judged.views home.family) home.bucket) writes aged.0 run aged.1)
