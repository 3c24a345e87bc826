-- Removing sessions that have ended between packets takes none that is live at the end.
use Rattle.std.proofs.Common.{◌≡◌, ◌∙◌, ◌≤◌, ◌+◌, ◌++◌, ℕ, arith, Bool, true, false, true≢false, List, [], ◌∷◌, Option, Some, None, All, length, map, refl, sym, ap, subst}
use Rattle.std.proofs.lemmas.List.Elements.{All-head, All-tail}
use Rattle.std.specs.Cmp.Lexicographic.{slice_cmp}
use Rattle.std.specs.Ordering.{nat_cmp}
use Rattle.std.specs.FinMap.{len, len-empty}
use Rattle.std.specs.Prelude.{if◌then◌else◌}
use Rattle.bihash_words.specs.Expiries.{expired_words, is_among}
use Rattle.bihash_words.specs.Maps.{Bounds, Event, IsEvent, Pairs, most_pairs}
use Rattle.bihash_words.specs.Refusals.{IsNoRefusal}
use Rattle.bihash_words.specs.Runs.{IsRun, writes_of}
use Rattle.bihash_words.proofs.MapLemmas.{stays_bounded}
use Rattle.bihash_words.proofs.SpareLemmas.{among_words, counted_told}
use Rattle.session_state.specs.declared.timeouts.Timeouts.{Timeouts}
use Rattle.session_state.specs.declared.verdict.Verdict.{Verdict}
use Rattle.session_state.specs.Sessions.{is_expired_at}
use Rattle.packet_view.specs.Captures.{PacketFacts}
use Rattle.packet_view.specs.declared.tuple.Family.{Family}
use Rattle.acl_policy.specs.Policies.{PolicyFacts}
use Rattle.flow_filter.specs.Ageing.{HoldSameLive, IsAgedThread, IsNotWorn, IsOfExpired, IsRightStep, IsUnworn, Judges, NeverFall, Removal, Removes, Step, moment_of, packets_in, removed_from, steps_at}
use Rattle.flow_filter.specs.Judged.{AreAsked, Asked, Asks, IsAsked, Judged, Settled, expired_for, readings_of}
use Rattle.flow_filter.specs.OneThread.{AreVerdicts, HasPages, Home, Layout, add_event, bounds_in, events_at, home_of, nothing, same_home}
use Rattle.flow_filter.specs.Readings.{AreReadings}
use Rattle.flow_filter.specs.Updates.{Update, update_of}
use Rattle.flow_filter.proofs.AgeingLemmas.{goes_on, patch_is, unworn_both}
use Rattle.flow_filter.proofs.AgeingMaps.{Agree, agree_later, agree_removed, alike_after}
use Rattle.flow_filter.proofs.AskedLemmas.{asks_nothing, asks_once, of_asked}
use Rattle.flow_filter.proofs.ReadingLemmas.{one_readings}

-- One bucket, of which the one-thread filter and one that ages both have a run, up to this moment.
module _ (l : Layout) (times : Timeouts) (home : Home) (moment : ℕ) where
  abbrev B : Bounds
  B = bounds_in l home.family

  -- both maps agree on what is live at a moment, and are within their bounds
  record AreNearAt (t : ℕ) (m n : Pairs) : Type 0 where
    agree : Agree (expired_words (is_expired_at times t)) m n
    bounded : len m ≤ most_pairs B
    aged_bounded : len n ≤ most_pairs B

  later_near : (t t' : ℕ) (m n : Pairs) → t ≤ t' → AreNearAt t m n → AreNearAt t' m n
  later_near t t' m n goes near =
      record { agree = agree_later times t t' m n goes near.agree; bounded = near.bounded; aged_bounded = near.aged_bounded }

  -- the bucket's runs of packets and of these steps end with maps that agree on what is live
  abbrev EndAlike : List Step → Type 0
  EndAlike steps = (js : List Judged) (least : ℕ) (m n last aged : Pairs) (w v writes aged_writes : ℕ)
      → readings_of (packets_in steps) ≡ readings_of js → AreAsked times js → All HasPages js → All IsUnworn js
      → All (IsRightStep times) steps → All IsUnworn (packets_in steps) → NeverFall least (map moment_of steps ++ Some moment ∷ [])
      → AreNearAt least m n → IsRun B m w (events_at l home js) last writes → IsRun B n v (steps_at l home steps) aged aged_writes
      → Agree (expired_words (is_expired_at times moment)) last aged

  none_alike : EndAlike []
  none_alike [] least m n last aged w v writes aged_writes same asked paged unworn right unworn' goes near run run' =
      subst (λ x. Agree (expired_words (is_expired_at times moment)) x aged) run.0
      (subst (λ x. Agree (expired_words (is_expired_at times moment)) m x) run'.0 (agree_later times least moment m n goes.0 near.agree))
  none_alike (j ∷ js) least m n last aged w v writes aged_writes same asked paged unworn right unworn' goes near run run' = let c : ⊥ = cc in absurd c

  removed_alike : (r : Removal) (steps : List Step) → EndAlike steps → EndAlike (Removes r ∷ steps)
  removed_alike r steps rest js least m n last aged w v writes aged_writes same asked paged unworn right unworn' goes near run run' =
      let of : IsOfExpired times r = All-head (IsRightStep times) (Removes r) steps right in
      let right' = All-tail (IsRightStep times) (Removes r) steps right in
      let near' = later_near least r.moment m n goes.0 near in
      let counts = among_words (is_expired_at times r.moment) of.word of.short ∙ of.ended in
      elim (same_home home (removed_from l r)) as (λ t. IsRun B n v (if t then r.event ∷ steps_at l home steps else steps_at l home steps) aged aged_writes
      → Agree (expired_words (is_expired_at times moment)) last aged) [
        | true ↦ λ here. let (n', step, more) = here in
            rest js r.moment m n' last aged w (v + writes_of r.event.reply) writes aged_writes same asked paged unworn right' unworn' goes.1 (record {
              agree = agree_removed (expired_words (is_expired_at times r.moment)) B m n n' v of.word r.event step of.found of.change counts near'.agree;
              bounded = near'.bounded;
              aged_bounded = stays_bounded B n n' v r.event step near'.aged_bounded;
            }) run more
        | false ↦ λ other. rest js r.moment m n last aged w v writes aged_writes same asked paged unworn right' unworn' goes.1 near' run other
      ] run'

  unasked_alike : (j k : Judged) (js : List Judged) (steps : List Step) → EndAlike steps → k.reading ≡ j.reading → update_of times j.reading ≡ None
      → (least : ℕ) (m n last aged : Pairs) (w v writes aged_writes : ℕ) → readings_of (packets_in steps) ≡ readings_of js → AreAsked times (j ∷ js)
      → All HasPages (j ∷ js) → All IsUnworn (j ∷ js) → All (IsRightStep times) (Judges k ∷ steps) → All IsUnworn (k ∷ packets_in steps)
      → NeverFall least (moment_of (Judges k) ∷ (map moment_of steps ++ Some moment ∷ [])) → AreNearAt least m n
      → IsRun B m w (events_at l home (j ∷ js)) last writes → IsRun B n v (steps_at l home (Judges k ∷ steps)) aged aged_writes
      → Agree (expired_words (is_expired_at times moment)) last aged
  unasked_alike j k js steps rest one none least m n last aged w v writes aged_writes same asked paged unworn right unworn' goes near run run' =
      let at = asks_nothing (update_of times j.reading) j.asked (All-head (IsAsked times) j js asked) none in
      let right_k : IsAsked times k × HasPages k = All-head (IsRightStep times) (Judges k) steps right in
      let at' = asks_nothing (update_of times k.reading) k.asked right_k.0 (ap (update_of times) one ∙ none) in
      let (next, on, later) = goes_on least (moment_of (Judges k)) (map moment_of steps ++ Some moment ∷ []) goes in
      rest js next m n last aged w v writes aged_writes same (All-tail (IsAsked times) j js asked) (All-tail HasPages j js paged)
      (All-tail IsUnworn j js unworn) (All-tail (IsRightStep times) (Judges k) steps right) (All-tail IsUnworn k (packets_in steps) unworn') later
      (later_near least next m n on near)
      (subst (λ (a : Asked Event). IsRun B m w (add_event l home a (events_at l home js)) last writes) at run)
      (subst (λ (a : Asked Event). IsRun B n v (add_event l home a (steps_at l home steps)) aged aged_writes) at' run')

  asked_alike : (j k : Judged) (js : List Judged) (steps : List Step) (u : Update) → EndAlike steps → k.reading ≡ j.reading → update_of times j.reading ≡ Some u
      → (least : ℕ) (m n last aged : Pairs) (w v writes aged_writes : ℕ) → readings_of (packets_in steps) ≡ readings_of js → AreAsked times (j ∷ js)
      → All HasPages (j ∷ js) → All IsUnworn (j ∷ js) → All (IsRightStep times) (Judges k ∷ steps) → All IsUnworn (k ∷ packets_in steps)
      → NeverFall least (moment_of (Judges k) ∷ (map moment_of steps ++ Some moment ∷ [])) → AreNearAt least m n
      → IsRun B m w (events_at l home (j ∷ js)) last writes → IsRun B n v (steps_at l home (Judges k ∷ steps)) aged aged_writes
      → Agree (expired_words (is_expired_at times moment)) last aged
  asked_alike j k js steps u rest one is least m n last aged w v writes aged_writes same asked paged unworn right unworn' goes near run run' =
      let is' : update_of times k.reading ≡ Some u = ap (update_of times) one ∙ is in
      let patch = patch_is times k.reading u is' in
      let (e, at, of) = asks_once (update_of times j.reading) j.asked (All-head (IsAsked times) j js asked) u is in
      let right_k : IsAsked times k × HasPages k = All-head (IsRightStep times) (Judges k) steps right in
      let (f, at', of') = asks_once (update_of times k.reading) k.asked right_k.0 u is' in
      let on : (least ≤ u.patch.moment) × NeverFall u.patch.moment (map moment_of steps ++ Some moment ∷ [])
      = subst (λ x. NeverFall least (x ∷ (map moment_of steps ++ Some moment ∷ []))) patch.0 goes in
      let near' = later_near least u.patch.moment m n on.0 near in
      let agrees : Agree (expired_for u.patch) m n
      = subst (λ (t : Timeouts). Agree (expired_words (is_expired_at t u.patch.moment)) m n) patch.1 near'.agree in
      let more = λ (m' n' : Pairs) (w' v' : ℕ). rest js u.patch.moment m' n' last aged w' v' writes aged_writes same (All-tail (IsAsked times) j js asked)
      (All-tail HasPages j js paged) (All-tail IsUnworn j js unworn) (All-tail (IsRightStep times) (Judges k) steps right)
      (All-tail IsUnworn k (packets_in steps) unworn') on.1 in
      elim (same_home home (home_of l u.key)) as (λ t. IsRun B m w (if t then e ∷ events_at l home js else events_at l home js) last writes
      → IsRun B n v (if t then f ∷ steps_at l home steps else steps_at l home steps) aged aged_writes
      → Agree (expired_words (is_expired_at times moment)) last aged) [
        | true ↦ λ here here'.
            let (m', step, left) = here in
            let (n', step', left') = here' in
            let alike = alike_after u B m m' n n' w v e f of step of' step' agrees near.bounded near.aged_bounded
            (of_asked (λ e. IsNotWorn e.reply) j.asked u e (All-head IsUnworn j js unworn) at)
            (of_asked (λ e. IsNoRefusal e.reply) j.asked u e (All-head HasPages j js paged) at)
            (of_asked (λ e. IsNotWorn e.reply) k.asked u f (All-head IsUnworn k (packets_in steps) unworn') at')
            (of_asked (λ e. IsNoRefusal e.reply) k.asked u f right_k.1 at') in
            more m' n' (w + writes_of e.reply) (v + writes_of f.reply) (record {
              agree = subst (λ (t : Timeouts). Agree (expired_words (is_expired_at t u.patch.moment)) m' n') (sym patch.1) alike.agree;
              bounded = stays_bounded B m m' w e step near.bounded;
              aged_bounded = stays_bounded B n n' v f step' near.aged_bounded;
            }) left left'
        | false ↦ λ other other'. more m n w v near' other other'
      ]
      (subst (λ (a : Asked Event). IsRun B m w (add_event l home a (events_at l home js)) last writes) at run)
      (subst (λ (a : Asked Event). IsRun B n v (add_event l home a (steps_at l home steps)) aged aged_writes) at' run')

  updated_alike : (j k : Judged) (js : List Judged) (steps : List Step) (u : Option Update) → EndAlike steps → k.reading ≡ j.reading → update_of times j.reading ≡ u
      → (least : ℕ) (m n last aged : Pairs) (w v writes aged_writes : ℕ) → readings_of (packets_in steps) ≡ readings_of js → AreAsked times (j ∷ js)
      → All HasPages (j ∷ js) → All IsUnworn (j ∷ js) → All (IsRightStep times) (Judges k ∷ steps) → All IsUnworn (k ∷ packets_in steps)
      → NeverFall least (moment_of (Judges k) ∷ (map moment_of steps ++ Some moment ∷ [])) → AreNearAt least m n
      → IsRun B m w (events_at l home (j ∷ js)) last writes → IsRun B n v (steps_at l home (Judges k ∷ steps)) aged aged_writes
      → Agree (expired_words (is_expired_at times moment)) last aged
  updated_alike j k js steps None = unasked_alike j k js steps
  updated_alike j k js steps (Some u) = asked_alike j k js steps u

  judged_alike : (k : Judged) (steps : List Step) → EndAlike steps → EndAlike (Judges k ∷ steps)
  judged_alike k steps rest [] least m n last aged w v writes aged_writes same = let c : ⊥ = cc in absurd c
  judged_alike k steps rest (j ∷ js) least m n last aged w v writes aged_writes same =
      let one : k.reading ≡ j.reading = cc in
      let others : readings_of (packets_in steps) ≡ readings_of js = cc in
      updated_alike j k js steps (update_of times j.reading) rest one refl least m n last aged w v writes aged_writes others

  end_alike : (steps : List Step) → EndAlike steps
  end_alike [] = none_alike
  end_alike (Judges k ∷ steps) = judged_alike k steps (end_alike steps)
  end_alike (Removes r ∷ steps) = removed_alike r steps (end_alike steps)

-- maps that agree hold the same live sessions
hold_same : (times : Timeouts) (moment : ℕ) (m n : Pairs) → Agree (expired_words (is_expired_at times moment)) m n → HoldSameLive times moment m n
hold_same times moment m n agree key value live = (agree.0 key value counts, agree.1 key value counts)
  where
    counts : is_among value (expired_words (is_expired_at times moment)) ≡ false
    counts = elim (is_among value (expired_words (is_expired_at times moment))) as (λ x. is_among value (expired_words (is_expired_at times moment)) ≡ x → x ≡ false) [
      | true ↦ λ x. absurd (true≢false (sym (counted_told (is_expired_at times moment) value x) ∙ live))
      | false ↦ λ x. refl
    ] refl

pub live_at_end : (l : Layout) (times : Timeouts) (policy : PolicyFacts) (packets : List PacketFacts) (verdicts : List Verdict) (steps : List Step)
    (all : AreVerdicts l times policy packets verdicts) → IsAgedThread l times nothing steps → AreReadings policy packets (readings_of (packets_in steps))
    → ((family : Family) → length steps ≤ (bounds_in l family).limit) → (moment : ℕ) → NeverFall 0 (map moment_of steps ++ Some moment ∷ [])
    → (home : Home) (last aged : Pairs) (writes aged_writes : ℕ) → IsRun (bounds_in l home.family) (nothing home) 0 (events_at l home all.judged) last writes
    → IsRun (bounds_in l home.family) (nothing home) 0 (steps_at l home steps) aged aged_writes → HoldSameLive times moment last aged
live_at_end l times policy packets verdicts steps all aged read few moment goes home last left writes left_writes run run' =
    let js = all.judged in
    let same = one_readings policy packets (readings_of (packets_in steps)) (readings_of js) read all.read in
    let unworn = unworn_both l times policy packets verdicts steps all aged same few in
    let none = len-empty (slice_cmp nat_cmp) ℕ in
    hold_same times moment last left
    (end_alike l times home moment steps js 0 (nothing home) (nothing home) last left 0 0 writes left_writes same all.one_thread.asked all.one_thread.paged
    unworn.0 aged.right unworn.1 goes (record {
      agree = (λ key value live there. there, λ key value live there. there);
      bounded = omega (arith, none);
      aged_bounded = omega (arith, none);
    }) run run')
