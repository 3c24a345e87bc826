-- Removing sessions that have ended between packets changes no verdict.
use Rattle.std.proofs.Common.{◌≡◌, ◌∙◌, ◌≤◌, ◌+◌, ℕ, suc, arith, inl, inr, length, Bool, true, false, List, [], ◌∷◌, Option, Some, None, All, map, le_refl, refl, sym, ap, ap₂, subst}
use Rattle.std.proofs.lemmas.List.Elements.{All-cons, All-head, All-nil, All-tail}
use Rattle.session_state.specs.declared.verdict.Verdict.{Verdict}
use Rattle.std.proofs.lemmas.Bool.{ltb-false}
use Rattle.std.specs.Cmp.Lexicographic.{slice_cmp}
use Rattle.std.specs.Ordering.{nat_cmp}
use Rattle.std.specs.FinMap.{len, len-empty}
use Rattle.std.specs.Prelude.{if◌then◌else◌, nat_lt, option_map}
use Rattle.bihash_words.specs.Expiries.{expired_words, is_among}
use Rattle.bihash_words.specs.Maps.{Answers, AnswersFull, Bounds, Case, Event, NewKey, NoRoom, OldKey, Pairs, IsEvent, WornOut, case_with, effect_of, most_pairs}
use Rattle.bihash_words.specs.declared.patch.Change.{Change}
use Rattle.bihash_words.specs.declared.patch.Change.TheVariants.{Keep, Set, Remove}
use Rattle.bihash_words.specs.declared.patch.Reply.{Reply}
use Rattle.bihash_words.specs.declared.patch.Reply.TheVariants.{Kept, Changed, Worn, Full, NoPages}
use Rattle.bihash_words.specs.Refusals.{IsNoRefusal}
use Rattle.bihash_words.specs.Runs.{writes_of}
use Rattle.bihash_words.proofs.MapLemmas.{stays_bounded}
use Rattle.bihash_words.proofs.SpareLemmas.{among_words}
use Rattle.session_state.specs.declared.flow.Flow.{Flow}
use Rattle.session_state.specs.declared.timeouts.Timeouts.{Timeouts}
use Rattle.session_state.specs.Flows.{flow_of}
use Rattle.session_state.specs.Sessions.{is_expired_at}
use Rattle.flow_filter.specs.Judged.{Asks, IsAsked, Judged, WhereAsked, expired_for, readings_of, verdict_on, verdict_with, verdicts_on}
use Rattle.flow_filter.specs.OneThread.{AreVerdicts, HasPages, Home, IsHome, IsOneThread, Layout, nothing, add_event, bounds_in, home_of, same_home}
use Rattle.flow_filter.specs.Readings.{AreReadings, Framed, Reading, Ruled, Ruling}
use Rattle.flow_filter.specs.Updates.{Update, update_in, update_of}
use Rattle.flow_filter.specs.Verdicts.{verdict_of}
use Rattle.packet_view.specs.Captures.{PacketFacts}
use Rattle.packet_view.specs.declared.tuple.Family.{Family}
use Rattle.acl_policy.specs.Policies.{PolicyFacts}
use Rattle.flow_filter.proofs.ReadingLemmas.{one_readings}
use Rattle.flow_filter.proofs.AskedLemmas.{asks_nothing, asks_once, of_asked}
use Rattle.flow_filter.proofs.HomeLemmas.{holds_key, homes_are_one, is_home, same_as_itself}
use Rattle.flow_filter.proofs.OneThreadLemmas.{IsThread, Runs, after_run, counts_after, first_asked, first_unasked, maps_after, of_one_thread}
use Rattle.flow_filter.specs.Ageing.{IsAgedThread, IsOfExpired, IsNotWorn, IsRightStep, IsUnworn, Judges, NeverFall, Removal, Removes, Step, moment_of, moment_of_reading, packets_in, removed_from, steps_at}
use Rattle.flow_filter.proofs.AgeingMaps.{Agree, agree_later, agree_removed, alike_after, later_among}
use Rattle.flow_filter.proofs.RecyclingLemmas.{ended_for}
use Rattle.session_state.specs.Decisions.{is_live_for}

-- ---- Steps, where the buckets held this and had changed so often

record IsAged (l : Layout) (times : Timeouts) (maps : Home → Pairs) (counts : Home → ℕ) (steps : List Step) : Type 0 where
  pub right : All (IsRightStep times) steps
  pub runs : (home : Home) → IsHome l home
      → Runs (bounds_in l home.family) (maps home) (counts home) (steps_at l home steps)

-- the first event of a bucket, and the runs after it
record IsNext (l : Layout) (maps : Home → Pairs) (counts : Home → ℕ) (at : Home) (e : Event) (events : Home → List Event) : Type 0 where
  pub left : Pairs
  pub step : IsEvent (bounds_in l at.family) (maps at) (counts at) e left
  pub behind : (home : Home) → IsHome l home
      → Runs (bounds_in l home.family) (maps_after maps at left home) (counts_after counts at e home) (events home)

next_event : (l : Layout) (maps : Home → Pairs) (counts : Home → ℕ) (at : Home) (e : Event) (events : Home → List Event) → IsHome l at
    → ((home : Home) → IsHome l home → Runs (bounds_in l home.family) (maps home) (counts home)
    (if same_home home at then e ∷ events home else events home)) → IsNext l maps counts at e events
next_event l maps counts at e events in_table runs =
    let (last, writes, (n, step, rest)) : Runs (bounds_in l at.family) (maps at) (counts at) (e ∷ events at) =
    subst (λ t. Runs (bounds_in l at.family) (maps at) (counts at) (if t then e ∷ events at else events at))
    (same_as_itself at) (runs at in_table) in record {
      left = n;
      step = step;
      behind = λ home is. after_run l home at maps counts n e events (last, writes, rest) (runs home is);
    }

-- ---- Both

-- the buckets of both agree on what is live at a moment, and are within their bounds
record AreNear (l : Layout) (times : Timeouts) (moment : ℕ) (maps aged : Home → Pairs) : Type 0 where
  pub agree : (home : Home) → Agree (expired_words (is_expired_at times moment)) (maps home) (aged home)
  pub bounded : (home : Home) → len (maps home) ≤ most_pairs (bounds_in l home.family)
  pub aged_bounded : (home : Home) → len (aged home) ≤ most_pairs (bounds_in l home.family)

near_later : (l : Layout) (times : Timeouts) (t t' : ℕ) (maps aged : Home → Pairs) → t ≤ t' → AreNear l times t maps aged
    → AreNear l times t' maps aged
near_later l times t t' maps aged goes near = record {
  agree = λ home. agree_later times t t' (maps home) (aged home) goes (near.agree home);
  bounded = near.bounded;
  aged_bounded = near.aged_bounded;
}

-- what is so of the bucket `at`, with a test that says that it is that one, and of others, is so of each
at_each : (P : Home → Bool → Type 0) (home at : Home) → P at true → P home false → P home (same_home home at)
at_each P home at here other =
    elim (same_home home at) as (λ t. same_home home at ≡ t → P home t) [
      | true ↦ λ same. subst (λ h. P h true) (sym (homes_are_one home at same)) here
      | false ↦ λ differ. other
    ] refl

-- a packet's update is of its reading's moment
pub patch_is : (times : Timeouts) (reading : Reading) (u : Update) → update_of times reading ≡ Some u
    → (moment_of_reading reading ≡ Some u.patch.moment) × (times ≡ u.patch.times)
patch_is times (Framed verdict) u is = let c : ⊥ = cc in absurd c
patch_is times (Ruled moment tuple ruling) u is = go (flow_of tuple) is
  where
    go : (flow : Option Flow) → option_map (update_in times moment tuple ruling) flow ≡ Some u
        → (Some moment ≡ Some u.patch.moment) × (times ≡ u.patch.times)
    go None none = let c : ⊥ = cc in absurd c
    go (Some flow) same =
        let both : update_in times moment tuple ruling flow ≡ u = cc in
        (ap (λ (v : Update). Some v.patch.moment) both, ap (λ (v : Update). v.patch.times) both)

-- packets of one reading with such events get one verdict
one_verdict : (reading : Reading) (u : Update) (e f : Event)
    → ((ruling : Ruling) → verdict_of u.patch ruling e.found e.reply ≡ verdict_of u.patch ruling f.found f.reply)
    → verdict_with reading (Asks u f) ≡ verdict_with reading (Asks u e)
one_verdict (Framed verdict) u e f same = refl
one_verdict (Ruled moment tuple ruling) u e f same = sym (same ruling)

-- the steps come to the verdicts of the packets
abbrev ComeToOne : Layout → Timeouts → List Step → Type 0
ComeToOne l times steps = (js : List Judged) (least : ℕ) (maps aged : Home → Pairs) (counts aged_counts : Home → ℕ)
    → readings_of (packets_in steps) ≡ readings_of js → IsThread l times maps counts js → IsAged l times aged aged_counts steps
    → NeverFall least (map moment_of steps) → All IsUnworn js → All IsUnworn (packets_in steps) → AreNear l times least maps aged
    → verdicts_on (packets_in steps) ≡ verdicts_on js

more_removed : (l : Layout) (times : Timeouts) (r : Removal) (steps : List Step) → ComeToOne l times steps
    → ComeToOne l times (Removes r ∷ steps)
more_removed l times r steps rest js least maps aged counts aged_counts same thread ages in_time unworn unworn' near =
    let of : IsOfExpired times r = All-head (IsRightStep times) (Removes r) steps ages.right in
    let b : Bounds = bounds_in l r.family in
    let events : Home → List Event = λ home. steps_at l home steps in
    let next = next_event l aged aged_counts (removed_from l r) r.event events (holds_key l r.family r.event.key) ages.runs in
    let near' = near_later l times least r.moment maps aged in_time.0 near in
    let counts_as = among_words (is_expired_at times r.moment) of.word of.short ∙ of.ended in
    rest js r.moment maps (maps_after aged (removed_from l r) next.left) counts (counts_after aged_counts (removed_from l r) r.event) same thread
    (record { right = All-tail (IsRightStep times) (Removes r) steps ages.right; runs = next.behind }) in_time.1 unworn unworn' (record {
      agree = λ home. at_each (λ h t. Agree (expired_words (is_expired_at times r.moment)) (maps h) (if t then next.left else aged h)) home (removed_from l r)
          (agree_removed (expired_words (is_expired_at times r.moment)) b (maps (removed_from l r)) (aged (removed_from l r)) next.left (aged_counts (removed_from l r)) of.word r.event
          next.step of.found of.change counts_as (near'.agree (removed_from l r))) (near'.agree home);
      bounded = near.bounded;
      aged_bounded = λ home. at_each (λ h t. len (if t then next.left else aged h) ≤ most_pairs (bounds_in l h.family)) home (removed_from l r)
          (stays_bounded b (aged (removed_from l r)) next.left (aged_counts (removed_from l r)) r.event next.step (near.aged_bounded (removed_from l r))) (near.aged_bounded home);
    })

-- the moments go on from one of a packet that has none, or from its own
pub goes_on : (least : ℕ) (moment : Option ℕ) (moments : List (Option ℕ)) → NeverFall least (moment ∷ moments)
    → (next : ℕ) × (least ≤ next) × NeverFall next moments
goes_on least None moments in_time = (least, le_refl least, in_time)
goes_on least (Some moment) moments in_time = (moment, in_time.0, in_time.1)

more_unasked : (l : Layout) (times : Timeouts) (j k : Judged) (js : List Judged) (steps : List Step) → ComeToOne l times steps
    → k.reading ≡ j.reading → update_of times j.reading ≡ None → (least : ℕ) (maps aged : Home → Pairs) (counts aged_counts : Home → ℕ)
    → readings_of (packets_in steps) ≡ readings_of js → IsThread l times maps counts (j ∷ js) → IsAged l times aged aged_counts (Judges k ∷ steps)
    → NeverFall least (moment_of (Judges k) ∷ map moment_of steps) → All IsUnworn (j ∷ js) → All IsUnworn (k ∷ packets_in steps) → AreNear l times least maps aged
    → (verdict_on k ∷ verdicts_on (packets_in steps)) ≡ (verdict_on j ∷ verdicts_on js)
more_unasked l times j k js steps rest one none least maps aged counts aged_counts same thread ages in_time unworn unworn' near =
    let none' : update_of times k.reading ≡ None = ap (update_of times) one ∙ none in
    let right : IsAsked times k × HasPages k = All-head (IsRightStep times) (Judges k) steps ages.right in
    let at' = asks_nothing (update_of times k.reading) k.asked right.0 none' in
    let (at, behind) = first_unasked l times maps counts j js none thread in
    let (next, goes, later) = goes_on least (moment_of (Judges k)) (map moment_of steps) in_time in
    ap₂ (λ v vs. v ∷ vs) (ap₂ verdict_with one (at' ∙ sym at))
    (rest js next maps aged counts aged_counts same behind
    (record {
      right = All-tail (IsRightStep times) (Judges k) steps ages.right;
      runs = λ home is. subst (λ a. Runs (bounds_in l home.family) (aged home) (aged_counts home) (add_event l home a (steps_at l home steps)))
          at' (ages.runs home is);
    })
    later (All-tail IsUnworn j js unworn) (All-tail IsUnworn k (packets_in steps) unworn') (near_later l times least next maps aged goes near))

more_asked : (l : Layout) (times : Timeouts) (j k : Judged) (js : List Judged) (steps : List Step) (u : Update) → ComeToOne l times steps
    → k.reading ≡ j.reading → update_of times j.reading ≡ Some u → (least : ℕ) (maps aged : Home → Pairs) (counts aged_counts : Home → ℕ)
    → readings_of (packets_in steps) ≡ readings_of js → IsThread l times maps counts (j ∷ js) → IsAged l times aged aged_counts (Judges k ∷ steps)
    → NeverFall least (moment_of (Judges k) ∷ map moment_of steps) → All IsUnworn (j ∷ js) → All IsUnworn (k ∷ packets_in steps) → AreNear l times least maps aged
    → (verdict_on k ∷ verdicts_on (packets_in steps)) ≡ (verdict_on j ∷ verdicts_on js)
more_asked l times j k js steps u rest one is least maps aged counts aged_counts same thread ages in_time unworn unworn' near =
    let is' : update_of times k.reading ≡ Some u = ap (update_of times) one ∙ is in
    let home : Home = home_of l u.key in
    let b : Bounds = bounds_in l home.family in
    let patch = patch_is times k.reading u is' in
    let first = first_asked l times maps counts u j js is thread in
    let e : Event = first.event in
    let right : IsAsked times k × HasPages k = All-head (IsRightStep times) (Judges k) steps ages.right in
    let (f, at, of) = asks_once (update_of times k.reading) k.asked right.0 u is' in
    let events : Home → List Event = λ h. steps_at l h steps in
    let next = next_event l aged aged_counts home f events (is_home l u.key)
    (λ h in_table. subst (λ a. Runs (bounds_in l h.family) (aged h) (aged_counts h) (add_event l h a (events h))) at (ages.runs h in_table)) in
    let times_on : (least ≤ u.patch.moment) × NeverFall u.patch.moment (map moment_of steps)
    = subst (λ m. NeverFall least (m ∷ map moment_of steps)) patch.0 in_time in
    let near' = near_later l times least u.patch.moment maps aged times_on.0 near in
    let agrees : Agree (expired_for u.patch) (maps home) (aged home)
    = subst (λ (t : Timeouts). Agree (expired_words (is_expired_at t u.patch.moment)) (maps home) (aged home)) patch.1 (near'.agree home) in
    let alike = alike_after u b (maps home) first.left (aged home) next.left (counts home) (aged_counts home) e f first.of first.step of next.step agrees
    (near.bounded home) (near.aged_bounded home) (of_asked (λ e. IsNotWorn e.reply) j.asked u e (All-head IsUnworn j js unworn) first.is) first.paged
    (of_asked (λ e. IsNotWorn e.reply) k.asked u f (All-head IsUnworn k (packets_in steps) unworn') at)
    (of_asked (λ e. IsNoRefusal e.reply) k.asked u f right.1 at) in
    ap₂ (λ v vs. v ∷ vs)
    (ap₂ verdict_with one at ∙ one_verdict j.reading u e f alike.same ∙ ap (verdict_with j.reading) (sym first.is))
    (rest js u.patch.moment (maps_after maps home first.left) (maps_after aged home next.left) (counts_after counts home e)
    (counts_after aged_counts home f) same first.behind
    (record { right = All-tail (IsRightStep times) (Judges k) steps ages.right; runs = next.behind })
    times_on.1 (All-tail IsUnworn j js unworn) (All-tail IsUnworn k (packets_in steps) unworn') (record {
      agree = λ h. at_each (λ h t. Agree (expired_words (is_expired_at times u.patch.moment)) (if t then first.left else maps h) (if t then next.left else aged h)) h home
          (subst (λ (t : Timeouts). Agree (expired_words (is_expired_at t u.patch.moment)) first.left next.left) (sym patch.1) alike.agree) (near'.agree h);
      bounded = λ h. at_each (λ h t. len (if t then first.left else maps h) ≤ most_pairs (bounds_in l h.family)) h home
          (stays_bounded b (maps home) first.left (counts home) e first.step (near.bounded home)) (near.bounded h);
      aged_bounded = λ h. at_each (λ h t. len (if t then next.left else aged h) ≤ most_pairs (bounds_in l h.family)) h home
          (stays_bounded b (aged home) next.left (aged_counts home) f next.step (near.aged_bounded home)) (near.aged_bounded h);
    }))

more_by_update : (l : Layout) (times : Timeouts) (j k : Judged) (js : List Judged) (steps : List Step) (u : Option Update) → ComeToOne l times steps
    → k.reading ≡ j.reading → update_of times j.reading ≡ u → (least : ℕ) (maps aged : Home → Pairs) (counts aged_counts : Home → ℕ)
    → readings_of (packets_in steps) ≡ readings_of js → IsThread l times maps counts (j ∷ js) → IsAged l times aged aged_counts (Judges k ∷ steps)
    → NeverFall least (moment_of (Judges k) ∷ map moment_of steps) → All IsUnworn (j ∷ js) → All IsUnworn (k ∷ packets_in steps) → AreNear l times least maps aged
    → (verdict_on k ∷ verdicts_on (packets_in steps)) ≡ (verdict_on j ∷ verdicts_on js)
more_by_update l times j k js steps None = more_unasked l times j k js steps
more_by_update l times j k js steps (Some u) = more_asked l times j k js steps u

more_judged : (l : Layout) (times : Timeouts) (k : Judged) (steps : List Step) → ComeToOne l times steps → ComeToOne l times (Judges k ∷ steps)
more_judged l times k steps rest [] least maps aged counts aged_counts same = let c : ⊥ = cc in absurd c
more_judged l times k steps rest (j ∷ js) least maps aged counts aged_counts same =
    let one : k.reading ≡ j.reading = cc in
    let others : readings_of (packets_in steps) ≡ readings_of js = cc in
    more_by_update l times j k js steps (update_of times j.reading) rest one refl least maps aged counts aged_counts others

none_left : (l : Layout) (times : Timeouts) → ComeToOne l times []
none_left l times [] least maps aged counts aged_counts same thread ages in_time unworn unworn' near = refl
none_left l times (j ∷ js) least maps aged counts aged_counts same thread ages in_time unworn unworn' near = let c : ⊥ = cc in absurd c

come_to_one : (l : Layout) (times : Timeouts) (steps : List Step) → ComeToOne l times steps
come_to_one l times [] = none_left l times
come_to_one l times (Judges k ∷ steps) = more_judged l times k steps (come_to_one l times steps)
come_to_one l times (Removes r ∷ steps) = more_removed l times r steps (come_to_one l times steps)

agree_itself : (expired : List ℕ) (m : Pairs) → Agree expired m m
agree_itself expired m = (λ key value live there. there, λ key value live there. there)

pub removals_change_no_verdict : (l : Layout) (times : Timeouts) (opening : Home → Pairs) (js : List Judged) (steps : List Step)
    → ((home : Home) → len (opening home) ≤ most_pairs (bounds_in l home.family))
    → IsOneThread l times opening js → IsAgedThread l times opening steps → readings_of (packets_in steps) ≡ readings_of js
    → All IsUnworn js → All IsUnworn (packets_in steps)
    → verdicts_on (packets_in steps) ≡ verdicts_on js
removals_change_no_verdict l times opening js steps bounded thread aged same unworn unworn' =
    come_to_one l times steps js 0 opening opening (λ home. 0) (λ home. 0) same (of_one_thread l times opening js thread)
    (record { right = aged.right; runs = aged.runs }) aged.in_time unworn unworn' (record {
      agree = λ home. agree_itself (expired_words (is_expired_at times 0)) (opening home);
      bounded = bounded;
      aged_bounded = bounded;
    })

-- ---- Few steps wear no bucket

few_writes : (reply : Reply) → writes_of reply ≤ 1
few_writes (Kept found) = omega arith
few_writes (Changed found) = omega arith
few_writes (Worn found) = omega arith
few_writes Full = omega arith
few_writes (NoPages log2 left) = omega arith

module _ (b : Bounds) (m n : Pairs) (w : ℕ) (e : Event) (found : Option ℕ) (worn : e.reply ≡ Worn found) where
  not_full : (removed : Option (List ℕ)) → AnswersFull removed m e n → ⊥
  not_full None h = let clash = sym h.0 ∙ worn in cc
  not_full (Some gone) h = let clash = sym h.0 ∙ worn in cc

  not_new : (room : Bool) → Answers (if room then NewKey else NoRoom) b m e n → ⊥
  not_new true (inl h) = let clash = sym h.0 ∙ worn in cc
  not_new true (inr ((log2, left, refused, may, few), same)) = let clash = sym refused ∙ worn in cc
  not_new false h = not_full e.recycling.removed h

  worn_by : (r : Case) → (Answers r b m e n → ⊥) → Answers (if nat_lt w b.limit then r else WornOut) b m e n → b.limit ≤ w
  worn_by r not h = elim (nat_lt w b.limit) as (λ t. nat_lt w b.limit ≡ t → Answers (if t then r else WornOut) b m e n → b.limit ≤ w) [
    | true ↦ λ t h. absurd (not h)
    | false ↦ λ t h. ltb-false w b.limit t
  ] refl h

  worn_at : (at : Option ℕ) (effect : Change) → Answers (case_with b (len m) w at effect) b m e n → b.limit ≤ w
  worn_at at Keep h = let clash = sym h.0 ∙ worn in let f : ⊥ = cc in absurd f
  worn_at None (Set value) h = worn_by (if nat_lt (len m) (most_pairs b) then NewKey else NoRoom) (not_new (nat_lt (len m) (most_pairs b))) h
  worn_at (Some old) (Set value) h = worn_by OldKey (λ h. let clash = sym h.0 ∙ worn in cc) h
  worn_at at Remove h = worn_by OldKey (λ h. let clash = sym h.0 ∙ worn in cc) h

  worn_out : IsEvent b m w e n → b.limit ≤ w
  worn_out step = worn_at e.found (effect_of e.change e.found) step.answers

-- the buckets may change so often yet
abbrev HaveWrites : Layout → (Home → ℕ) → ℕ → Type 0
HaveWrites l counts more = (home : Home) → counts home + more ≤ (bounds_in l home.family).limit

writes_left : (l : Layout) (counts : Home → ℕ) (more : ℕ) (at : Home) (e : Event) → HaveWrites l counts (suc more)
    → HaveWrites l (counts_after counts at e) more
writes_left l counts more at e have home = at_each (λ h t. (if t then counts at + writes_of e.reply else counts h) + more ≤ (bounds_in l h.family).limit) home at
    (let few = few_writes e.reply in let room = have at in omega arith) (let room = have home in omega arith)

not_worn : (b : Bounds) (m n : Pairs) (w more : ℕ) (e : Event) → IsEvent b m w e n → w + suc more ≤ b.limit → IsNotWorn e.reply
not_worn b m n w more e step few found worn = let out = worn_out b m n w e found worn step in absurd (omega arith)

unworn_more : (l : Layout) (times : Timeouts) (j : Judged) (js : List Judged) (u : Option Update) → update_of times j.reading ≡ u
    → ((maps : Home → Pairs) (counts : Home → ℕ) → IsThread l times maps counts js → HaveWrites l counts (length js) → All IsUnworn js)
    → (maps : Home → Pairs) (counts : Home → ℕ) → IsThread l times maps counts (j ∷ js) → HaveWrites l counts (suc (length js)) → All IsUnworn (j ∷ js)
unworn_more l times j js None none rest maps counts thread have =
    let (at, behind) = first_unasked l times maps counts j js none thread in
    All-cons IsUnworn j js (subst (λ a. WhereAsked a (λ e. IsNotWorn e.reply)) (sym at) tt)
    (rest maps counts behind (λ home. let room = have home in omega arith))
unworn_more l times j js (Some u) is rest maps counts thread have =
    let home : Home = home_of l u.key in
    let first = first_asked l times maps counts u j js is thread in
    let here = not_worn (bounds_in l home.family) (maps home) first.left (counts home) (length js) first.event first.step (have home) in
    All-cons IsUnworn j js (subst (λ a. WhereAsked a (λ e. IsNotWorn e.reply)) (sym first.is) here)
    (rest (maps_after maps home first.left) (counts_after counts home first.event) first.behind (writes_left l counts (length js) home first.event have))

unworn_thread : (l : Layout) (times : Timeouts) (js : List Judged) (maps : Home → Pairs) (counts : Home → ℕ) → IsThread l times maps counts js
    → HaveWrites l counts (length js) → All IsUnworn js
unworn_thread l times [] maps counts thread have = All-nil IsUnworn
unworn_thread l times (j ∷ js) maps counts thread have =
    unworn_more l times j js (update_of times j.reading) refl (unworn_thread l times js) maps counts thread have

-- the same of steps
abbrev AreUnworn : Layout → Timeouts → List Step → Type 0
AreUnworn l times steps = (maps : Home → Pairs) (counts : Home → ℕ) → IsAged l times maps counts steps → HaveWrites l counts (length steps)
    → All IsUnworn (packets_in steps)

unworn_removed : (l : Layout) (times : Timeouts) (r : Removal) (steps : List Step) → AreUnworn l times steps → AreUnworn l times (Removes r ∷ steps)
unworn_removed l times r steps rest maps counts ages have =
    let of : IsOfExpired times r = All-head (IsRightStep times) (Removes r) steps ages.right in
    let next = next_event l maps counts (removed_from l r) r.event (λ home. steps_at l home steps) (holds_key l r.family r.event.key) ages.runs in
    rest (maps_after maps (removed_from l r) next.left) (counts_after counts (removed_from l r) r.event)
    (record { right = All-tail (IsRightStep times) (Removes r) steps ages.right; runs = next.behind })
    (writes_left l counts (length steps) (removed_from l r) r.event have)

unworn_judged : (l : Layout) (times : Timeouts) (k : Judged) (steps : List Step) (u : Option Update) → update_of times k.reading ≡ u
    → AreUnworn l times steps → AreUnworn l times (Judges k ∷ steps)
unworn_judged l times k steps None none rest maps counts ages have =
    let right : IsAsked times k × HasPages k = All-head (IsRightStep times) (Judges k) steps ages.right in
    let at = asks_nothing (update_of times k.reading) k.asked right.0 none in
    All-cons IsUnworn k (packets_in steps) (subst (λ a. WhereAsked a (λ e. IsNotWorn e.reply)) (sym at) tt)
    (rest maps counts
    (record {
      right = All-tail (IsRightStep times) (Judges k) steps ages.right;
      runs = λ home is. subst (λ a. Runs (bounds_in l home.family) (maps home) (counts home) (add_event l home a (steps_at l home steps)))
          at (ages.runs home is);
    })
    (λ home. let room = have home in omega arith))
unworn_judged l times k steps (Some u) is rest maps counts ages have =
    let home : Home = home_of l u.key in
    let right : IsAsked times k × HasPages k = All-head (IsRightStep times) (Judges k) steps ages.right in
    let (f, at, of) = asks_once (update_of times k.reading) k.asked right.0 u is in
    let events : Home → List Event = λ h. steps_at l h steps in
    let next = next_event l maps counts home f events (is_home l u.key)
    (λ h in_table. subst (λ a. Runs (bounds_in l h.family) (maps h) (counts h) (add_event l h a (events h))) at (ages.runs h in_table)) in
    let here = not_worn (bounds_in l home.family) (maps home) next.left (counts home) (length steps) f next.step (have home) in
    All-cons IsUnworn k (packets_in steps) (subst (λ a. WhereAsked a (λ e. IsNotWorn e.reply)) (sym at) here)
    (rest (maps_after maps home next.left) (counts_after counts home f)
    (record { right = All-tail (IsRightStep times) (Judges k) steps ages.right; runs = next.behind })
    (writes_left l counts (length steps) home f have))

unworn_steps : (l : Layout) (times : Timeouts) (steps : List Step) → AreUnworn l times steps
unworn_steps l times [] = λ maps counts ages have. All-nil IsUnworn
unworn_steps l times (Judges k ∷ steps) = unworn_judged l times k steps (update_of times k.reading) refl (unworn_steps l times steps)
unworn_steps l times (Removes r ∷ steps) = unworn_removed l times r steps (unworn_steps l times steps)

-- there are no more packets than steps
fewer_packets : (steps : List Step) → length (packets_in steps) ≤ length steps
fewer_packets [] = omega arith
fewer_packets (Judges k ∷ steps) = let few = fewer_packets steps in omega arith
fewer_packets (Removes r ∷ steps) = let few = fewer_packets steps in omega arith

as_many : (js ks : List Judged) → readings_of js ≡ readings_of ks → length js ≡ length ks
as_many [] [] same = refl
as_many [] (k ∷ ks) same = let f : ⊥ = cc in absurd f
as_many (j ∷ js) [] same = let f : ⊥ = cc in absurd f
as_many (j ∷ js) (k ∷ ks) same = let rest : readings_of js ≡ readings_of ks = cc in ap suc (as_many js ks rest)

-- no bucket is worn for the packets of the one-thread filter, nor where so few steps are made on the same packets
pub unworn_both : (l : Layout) (times : Timeouts) (policy : PolicyFacts) (packets : List PacketFacts) (verdicts : List Verdict)
    (steps : List Step) (all : AreVerdicts l times policy packets verdicts) → IsAgedThread l times nothing steps
    → readings_of (packets_in steps) ≡ readings_of all.judged → ((family : Family) → length steps ≤ (bounds_in l family).limit)
    → All IsUnworn all.judged × All IsUnworn (packets_in steps)
unworn_both l times policy packets verdicts steps all aged same few =
    let js = all.judged in
    let long = as_many (packets_in steps) js same in
    let short = fewer_packets steps in (
      unworn_thread l times js nothing (λ home. 0) (of_one_thread l times nothing js all.one_thread)
          (λ home. let limit = few home.family in omega arith),
      unworn_steps l times steps nothing (λ home. 0) (record { right = aged.right; runs = aged.runs })
          (λ home. let limit = few home.family in omega arith),
    )

-- the one-thread filter's verdicts are those of a filter that ages
pub aged_verdicts : (l : Layout) (times : Timeouts) (policy : PolicyFacts) (packets : List PacketFacts) (verdicts : List Verdict)
    (steps : List Step) → AreVerdicts l times policy packets verdicts → IsAgedThread l times nothing steps
    → AreReadings policy packets (readings_of (packets_in steps)) → ((family : Family) → length steps ≤ (bounds_in l family).limit)
    → verdicts_on (packets_in steps) ≡ verdicts
aged_verdicts l times policy packets verdicts steps all aged read few =
    let js = all.judged in
    let same : readings_of (packets_in steps) ≡ readings_of js
    = one_readings policy packets (readings_of (packets_in steps)) (readings_of js) read all.read in
    let unworn = unworn_both l times policy packets verdicts steps all aged same few in
    let none = len-empty (slice_cmp nat_cmp) ℕ in
    removals_change_no_verdict l times nothing js steps (λ home. omega (arith, none)) all.one_thread aged same unworn.0 unworn.1
    ∙ sym all.said

-- what was removed is live for no packet from then on
pub removed_not_live : (times : Timeouts) (r : Removal) (u : Update) → IsOfExpired times r → u.patch.times ≡ times
    → r.moment ≤ u.patch.moment → is_live_for u.patch r.event.found ≡ false
removed_not_live times r u of same goes =
    let counts = among_words (is_expired_at times r.moment) of.word of.short ∙ of.ended in
    ap (is_live_for u.patch) of.found
    ∙ ended_for u.patch of.word (subst (λ (t : Timeouts). is_among of.word (expired_words (is_expired_at t u.patch.moment)) ≡ true) (sym same)
    (later_among times r.moment u.patch.moment of.word goes counts))
