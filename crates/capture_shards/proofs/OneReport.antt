-- The reports of all shards are one report.
use Rattle.std.proofs.Common.{◌≡◌, ◌∙◌, ◌+◌, ◌-◌, ◌<◌, ◌≤◌, ◌%◌, ℕ, suc, Bool, true, false, cond, List, [], ◌∷◌, length, Option, Some, None, ap, arith, refl, sym, subst, eq-eqb}
use Rattle.std.specs.Prelude.{◌==◌, option_map}
use Rattle.std.proofs.lemmas.Bool.{false≢true}
use Rattle.std.proofs.lemmas.List.{length-map}
use Rattle.std.proofs.Math.Nat.{mod-lt}
use Rattle.std.proofs.lemmas.List.Elements.{All-head, All-tail}
use Rattle.packet_view.specs.Captures.{PacketFacts}
use Rattle.packet_view.specs.Frames as frames
use Rattle.packet_view.specs.Interfaces.{Interface}
use Rattle.packet_view.specs.inner.FrameSteps.{view_of}
use Rattle.packet_view.specs.Tuples.{TupleFacts}
use Rattle.packet_view.proofs.FrameLemmas.{view_shown}
use Rattle.acl_policy.specs.Policies.{PolicyFacts, section_of}
use Rattle.bihash_words.specs.Maps.{Event, Pairs}
use Rattle.bihash_words.specs.Runs.{IsRun}
use Rattle.session_state.specs.Flows.{flow_of}
use Rattle.session_state.specs.declared.flow.Flow.{Flow}
use Rattle.session_state.specs.declared.timeouts.Timeouts.{Timeouts}
use Rattle.session_state.specs.declared.verdict.Verdict.{Verdict}
use Rattle.flow_filter.specs.Judged.{AreAsked, Asked, Asks, IsAsked, IsAskedBy, Judged, Settled, readings_of, verdict_on}
use Rattle.flow_filter.specs.OneThread.{AreVerdicts, HasPages, Home, Layout, add_event, bounds_in, events_at, home_of, nothing, same_home}
use Rattle.flow_filter.specs.Readings.{AreReadings, Framed, IsReading, Reading, Ruled, Ruling}
use Rattle.flow_filter.specs.Updates.{Update, update_in, update_of}
use Rattle.flow_filter.proofs.HomeLemmas.{homes_are_one}
use Rattle.flow_filter.proofs.OneThreadLemmas.{one_verdicts, some_verdicts}
use Rattle.flow_dealing.specs.Dealings.{flow_of_frame, flow_of_reading}
use Rattle.capture_shards.specs.Shards.{AreMerged, AreOwns, AreShardVerdicts, IsOwnOf, Own, own_in, own_packets, shard_of}
use Rattle.capture_shards.proofs.PickedLists.{HasOwner, own_all, own_map, own_zip, same_by_owns}

-- ---- Packets and their events

-- the flow of a packet is that of its reading
own_by_reading : (l : Layout) (count shard : ℕ) (own : Own) (policy : PolicyFacts) (n : ℕ) (p : PacketFacts) (r : Reading)
    → IsOwnOf l count shard own → IsReading policy p r → own n p ≡ (shard_of l count n (flow_of_reading r) == shard)
own_by_reading l count shard own policy n p r is (frames.NotIp, seen, of) =
    is n p (section_of p.interface policy).own frames.NotIp seen ∙ ap (λ x. shard_of l count n (flow_of_reading x) == shard) (sym of)
own_by_reading l count shard own policy n p r is (frames.Malformed, seen, of) =
    is n p (section_of p.interface policy).own frames.Malformed seen ∙ ap (λ x. shard_of l count n (flow_of_reading x) == shard) (sym of)
own_by_reading l count shard own policy n p r is (frames.Short, seen, of) =
    is n p (section_of p.interface policy).own frames.Short seen ∙ ap (λ x. shard_of l count n (flow_of_reading x) == shard) (sym of)
own_by_reading l count shard own policy n p r is (frames.Ip way tuple, seen, (ruling, decides, of)) =
    is n p (section_of p.interface policy).own (frames.Ip way tuple) seen ∙ ap (λ x. shard_of l count n (flow_of_reading x) == shard) (sym of)

-- where the event of a packet is on a bucket, the packet is one's own exactly where this says so
abbrev Fits : Layout → Home → Bool → Bool → Asked Event → Type 0
Fits l home mine says Settled = Unit {0}
Fits l home mine says (Asks u e) = same_home home (home_of l u.key) ≡ true → mine ≡ says

-- the bucket is of the shard
abbrev is_of : ℕ → ℕ → Home → Bool
is_of count shard home = home.bucket % count + 1 == shard

fits_update : (l : Layout) (count shard n : ℕ) (home : Home) (u : Update) (times : Timeouts) (moment : ℕ) (tuple : TupleFacts) (ruling : Ruling)
    (flow : Option Flow) → option_map (update_in times moment tuple ruling) flow ≡ Some u → same_home home (home_of l u.key) ≡ true
    → (shard_of l count n flow == shard) ≡ is_of count shard home
fits_update l count shard n home u times moment tuple ruling None is same = let f : ⊥ = cc in absurd f
fits_update l count shard n home u times moment tuple ruling (Some flow) is same =
    let made : update_in times moment tuple ruling flow ≡ u = cc in
    ap (λ (w : Update). is_of count shard (home_of l w.key)) made ∙ ap (is_of count shard) (sym (homes_are_one home (home_of l u.key) same))

fits_reading : (l : Layout) (count shard n : ℕ) (home : Home) (u : Update) (times : Timeouts) (r : Reading) → update_of times r ≡ Some u
    → same_home home (home_of l u.key) ≡ true → (shard_of l count n (flow_of_reading r) == shard) ≡ is_of count shard home
fits_reading l count shard n home u times (Framed verdict) is same = let f : ⊥ = cc in absurd f
fits_reading l count shard n home u times (Ruled moment tuple ruling) is same =
    fits_update l count shard n home u times moment tuple ruling (flow_of tuple) is same

fits_asked : (l : Layout) (count shard n : ℕ) (home : Home) (times : Timeouts) (r : Reading) (mine : Bool) (a : Asked Event)
    → mine ≡ (shard_of l count n (flow_of_reading r) == shard) → IsAskedBy (update_of times r) a → Fits l home mine (is_of count shard home) a
fits_asked l count shard n home times r mine Settled says asked = tt
fits_asked l count shard n home times r mine (Asks u e) says asked = λ same. says ∙ fits_reading l count shard n home u times r asked.0 same

-- ---- The events on a bucket

-- one packet more
one_more : (l : Layout) (home : Home) (mine says : Bool) (j : Judged) (own all : List Judged) → Fits l home mine says j.asked
    → events_at l home own ≡ cond says (events_at l home all) []
    → events_at l home (cond mine (j ∷ own) own) ≡ cond says (add_event l home j.asked (events_at l home all)) []
one_more l home true true j own all fits same = ap (add_event l home j.asked) same
one_more l home false false j own all fits same = same
one_more l home true false j own all fits same = go j.asked fits
  where
    go : (a : Asked Event) → Fits l home true false a → add_event l home a (events_at l home own) ≡ []
    go Settled fits = same
    go (Asks u e) fits = at (same_home home (home_of l u.key)) fits
      where
        at : (t : Bool) → (t ≡ true → true ≡ false) → cond t (e ∷ events_at l home own) (events_at l home own) ≡ []
        at true wrong = absurd (false≢true (sym (wrong refl)))
        at false wrong = same
one_more l home false true j own all fits same = go j.asked fits
  where
    go : (a : Asked Event) → Fits l home false true a → events_at l home own ≡ add_event l home a (events_at l home all)
    go Settled fits = same
    go (Asks u e) fits = at (same_home home (home_of l u.key)) fits
      where
        at : (t : Bool) → (t ≡ true → false ≡ true) → events_at l home own ≡ cond t (e ∷ events_at l home all) (events_at l home all)
        at true wrong = absurd (false≢true (wrong refl))
        at false wrong = same

module _ (l : Layout) (times : Timeouts) (policy : PolicyFacts) (count shard : ℕ) (own : Own) (is : IsOwnOf l count shard own) where
  -- a bucket of the shard has all its events among the shard's packets, and another bucket none
  shard_events : (home : Home) (n : ℕ) (ps : List PacketFacts) (js : List Judged) → AreReadings policy ps (readings_of js) → AreAsked times js
      → events_at l home (own_in own n ps js) ≡ cond (is_of count shard home) (events_at l home js) []
  shard_events home n [] [] read asked = go (is_of count shard home)
    where
      go : (b : Bool) → [] ≡ cond b (events_at l home []) []
      go true = refl
      go false = refl
  shard_events home n [] (j ∷ js) read asked = absurd read
  shard_events home n (p ∷ ps) [] read asked = absurd read
  shard_events home n (p ∷ ps) (j ∷ js) read asked =
      one_more l home (own n p) (is_of count shard home) j (own_in own (n + 1) ps js) js
      (fits_asked l count shard n home times j.reading (own n p) j.asked (own_by_reading l count shard own policy n p j.reading is read.0)
      (All-head (IsAsked times) j js asked))
      (shard_events home (n + 1) ps js read.1 (All-tail (IsAsked times) j js asked))

  run_of_shard : (home : Home) (b : Bool) (events : List Event)
      → ((last : Pairs) × (writes : ℕ) × IsRun (bounds_in l home.family) (nothing home) 0 events last writes)
      → (last : Pairs) × (writes : ℕ) × IsRun (bounds_in l home.family) (nothing home) 0 (cond b events []) last writes
  run_of_shard home true events run = run
  run_of_shard home false events run = (nothing home, 0, (refl, refl))

  -- the shard's packets are judged alone as they are among all
  pub own_verdicts : (ps : List PacketFacts) (verdicts : List Verdict) → AreVerdicts l times policy ps verdicts
      → AreVerdicts l times policy (own_packets own 1 ps) (own_in own 1 ps verdicts)
  own_verdicts ps verdicts are =
      let js = are.judged in
      record {
        judged = own_in own 1 ps js;
        read = subst (λ (rs : List Reading). AreReadings policy (own_packets own 1 ps) rs) (sym (own_map own (λ (j : Judged). j.reading) 1 ps js))
            (own_zip own (IsReading policy) 1 ps (readings_of js) are.read);
        one_thread = record {
          asked = own_all own (IsAsked times) 1 ps js are.one_thread.asked;
          runs = λ home in_table.
              subst (λ (es : List Event). (last : Pairs) × (writes : ℕ) × IsRun (bounds_in l home.family) (nothing home) 0 es last writes)
              (sym (shard_events home 1 ps js are.read are.one_thread.asked))
              (run_of_shard home (is_of count shard home) (events_at l home js) (are.one_thread.runs home in_table));
          paged = own_all own HasPages 1 ps js are.one_thread.paged;
        };
        said = ap (own_in own 1 ps) are.said ∙ sym (own_map own verdict_on 1 ps js);
      }

  -- and so alone
  pub one_own : (ps : List PacketFacts) (verdicts said : List Verdict) → AreVerdicts l times policy ps verdicts
      → AreVerdicts l times policy (own_packets own 1 ps) said → said ≡ own_in own 1 ps verdicts
  one_own ps verdicts said are alone =
      one_verdicts l times policy (own_packets own 1 ps) said (own_in own 1 ps verdicts) alone (own_verdicts ps verdicts are)

-- ---- All shards

pub shard_within : (l : Layout) (count n : ℕ) (flow : Option Flow) → 1 ≤ count → (1 ≤ shard_of l count n flow) × (shard_of l count n flow ≤ count)
shard_within l count n None some = let less : (n - 1) % count < count = mod-lt (n - 1) some in (omega arith, omega (arith, less))
shard_within l count n (Some flow) some =
    let less : (home_of l flow.key).bucket % count < count = mod-lt (home_of l flow.key).bucket some in (omega arith, omega (arith, less))

-- each packet is of a shard
some_owner : (l : Layout) (count : ℕ) (owns : ℕ → Own) → 1 ≤ count → AreOwns l count owns → (n : ℕ) (p : PacketFacts)
    → HasOwner count owns n p
some_owner l count owns some are n p =
    let at : Interface = record { number = p.interface; own = None } in
    let seen = view_of p.frame at in
    let flow = flow_of_frame seen in
    let few = shard_within l count n flow some in
    record {
      shard = shard_of l count n flow;
      some = few.0;
      few = few.1;
      is = are (shard_of l count n flow) few.0 few.1 n p None seen (view_shown p.frame at) ∙ eq-eqb (shard_of l count n flow) (shard_of l count n flow) refl;
    }

count_of : (policy : PolicyFacts) (ps : List PacketFacts) (js : List Judged) → AreReadings policy ps (readings_of js) → length js ≡ length ps
count_of policy [] [] read = refl
count_of policy [] (j ∷ js) read = absurd read
count_of policy (p ∷ ps) [] read = absurd read
count_of policy (p ∷ ps) (j ∷ js) read = ap suc (count_of policy ps js read.1)

module _ (l : Layout) (times : Timeouts) (policy : PolicyFacts) (ps : List PacketFacts) (count : ℕ) (owns : ℕ → Own) (said : ℕ → List Verdict)
    (some : 1 ≤ count) (are : AreOwns l count owns) (each : AreShardVerdicts l times policy ps count owns said) where
  -- the verdicts on all packets are the shards' at their places
  whole : (verdicts : List Verdict) → AreVerdicts l times policy ps verdicts → AreMerged ps count owns said verdicts
  whole verdicts all = record {
    each = ap length all.said ∙ length-map all.judged verdict_on ∙ count_of policy ps all.judged all.read;
    at_places = λ shard least most. sym (one_own l times policy count shard (owns shard) (are shard least most) ps verdicts (said shard) all (each shard least most));
  }

  pub some_merged : (verdicts : List Verdict) × AreMerged ps count owns said verdicts
  some_merged = let (verdicts, all) = some_verdicts l times policy ps in (verdicts, whole verdicts all)

  pub merged_verdicts : (verdicts : List Verdict) → AreMerged ps count owns said verdicts → AreVerdicts l times policy ps verdicts
  merged_verdicts verdicts merged =
      let (others, all) = some_verdicts l times policy ps in
      let made = whole others all in
      subst (AreVerdicts l times policy ps)
      (same_by_owns count owns (some_owner l count owns some are) 1 ps others verdicts made.each merged.each
      (λ shard least most. made.at_places shard least most ∙ sym (merged.at_places shard least most))) all
