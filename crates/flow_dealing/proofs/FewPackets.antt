-- So few packets of a family's flows that its pages can't run out.
use Rattle.std.proofs.Common.{◌≡◌, ◌≢◌, ◌∙◌, ◌+◌, ◌-◌, ◌*◌, ◌^◌, ◌<◌, ◌≤◌, ℕ, zero, suc, Bool, true, false, cond, List, [], ◌∷◌, ◌++◌, length, ap, ap₂, refl, sym, subst, arith, inl, inr, length-append}
use Rattle.std.specs.Prelude.{if◌then◌else◌, ◌==◌, ◌&&◌}
use Rattle.std.specs.List.{All}
use Rattle.std.proofs.Math.Nat.{mul-le-mul_right, pow-le-pow_right}
use Rattle.std.proofs.lemmas.Bool.{cases_lt}
use Rattle.std.proofs.lemmas.List.{length-map}
use Rattle.std.proofs.lemmas.List.Elements.{All-map}
use Rattle.std.proofs.lemmas.List.Sums.{sum_by-cons}
use lib.ListN.{get_elem?}
use mathlib.Core.Option.{some, some-ne-none, some-injective}
use Rattle.packet_view.specs.Captures.{PacketFacts}
use Rattle.packet_view.specs.declared.tuple.Family.{Family}
use Rattle.acl_policy.specs.Policies.{PolicyFacts}
use Rattle.bihash_words.specs.Maps.{Event}
use Rattle.bihash_words.specs.Refusals.{IsNoRefusal}
use Rattle.bihash_words.specs.Sizes.{Sizes}
use Rattle.bihash_words.specs.declared.patch.Reply.TheVariants as reply
use Rattle.bihash_rule.specs.Words.{buckets}
use Rattle.bihash_rule.specs.Histories.{event_of, is_changed}
use Rattle.bihash_rule.specs.Callers.{HasMadeAll, HasWrite, IsLawfulCaller, known_at, known_writes}
use Rattle.bihash_rule.specs.declared.view.Openings.{Openings}
use Rattle.bihash_rule.specs.declared.view.Call.{Call}
use Rattle.bihash_rule.specs.declared.view.Known.{Known}
use Rattle.bihash_rule.specs.declared.view.Record.{Record}
use Rattle.bihash_rule.specs.declared.view.View.{View}
use Rattle.bihash_steps.proofs.Lists.{at_after, there}
use Rattle.session_state.specs.declared.timeouts.Timeouts.{Timeouts}
use Rattle.session_state.specs.declared.verdict.Verdict.{Verdict}
use Rattle.session_state.specs.declared.verdict.Verdict.TheVariants.{NoPages}
use Rattle.flow_filter.specs.Ageing.{Judges, Removal, Removes, Step, packets_in, removals_in}
use Rattle.flow_filter.specs.Readings.{AreReadings, IsReading, Reading}
use Rattle.flow_filter.specs.Updates.{Update}
use Rattle.flow_filter.specs.Judged.{Asked, Asks, Judged, Settled, WhereAsked, readings_of, verdict_on}
use Rattle.flow_filter.specs.OneThread.{HasPages, Layout, family_of, same_family, sizes_in}
use Rattle.flow_filter.proofs.HomeLemmas.{families_are_one}
use Rattle.flow_dealing.specs.Views.{view_in}
use Rattle.flow_dealing.specs.Dealings.{Deal, flow_of_reading, worker_of}
use Rattle.flow_dealing.specs.WorkerRecords.{AreFew, AreFewBetween, AreJudged, AreJudgedBetween, AreRecorded, HasPagesIn, HavePages, add_in, events_by, is_in, keyed, removed_of}
use Rattle.flow_dealing.proofs.ListCounts.{IsLabelled, at_least, sum_at, sum_one, sum_zero}
use Rattle.flow_dealing.proofs.DealtEvents.{events_by-judges, events_by-nil, events_by-removes}
use Rattle.flow_dealing.proofs.PacketCalls.{call_of_packet}
use Rattle.flow_dealing.proofs.Places.{after_map, all_from, at_front}
use Rattle.flow_dealing.proofs.Refusals.{paged_is_told, wants}

-- ---- All calls of a caller

abbrev all_calls : List Record → List Call
all_calls [] = []
all_calls (r ∷ rs) = r.calls ++ all_calls rs

in_all : (records : List Record) (i k : ℕ) (r : Record) (c : Call) → get_elem? records i ≡ some r
    → get_elem? r.calls k ≡ some c → (p : ℕ) × (get_elem? (all_calls records) p ≡ some c)
in_all [] i k r c at_i at_k = absurd (some-ne-none r (sym at_i))
in_all (q ∷ qs) zero k r c at_i at_k =
    (k, at_front q.calls (all_calls qs) k c (ap (λ (x : Record). get_elem? x.calls k) (some-injective q r at_i) ∙ at_k))
in_all (q ∷ qs) (suc i) k r c at_i at_k =
    let p = in_all qs i k r c at_i at_k in (length q.calls + p.0, at_after q.calls (all_calls qs) p.0 c p.1)

how_many : (records : List Record) (w : ℕ) (f : ℕ → ℕ)
    → ((i : ℕ) (r : Record) → get_elem? records i ≡ some r → length r.calls ≡ f (w + i))
    → length (all_calls records) ≡ sum_at w (length records) f
how_many [] w f each = refl
how_many (r ∷ rs) w f each =
    let more =
    how_many rs (w + 1) f (λ i q at. let e : w + suc i ≡ w + 1 + i = omega arith in each (suc i) q at ∙ ap f e) in
    let here : length r.calls ≡ f w = let e : w + 0 ≡ w = omega arith in each 0 r refl ∙ ap f e in
    let both = length-append r.calls (all_calls rs) in
    omega arith

-- ---- Known writes are calls

-- the place of a write among those of all buckets
place : (known : Known) (b k : ℕ) → k < known_writes known b
    → (a : ℕ) × (n : ℕ) × (a < b) × (n < length (known_at known a)) × (k ≡ known_writes known a + n)
place known zero k few = absurd (omega arith)
place known (suc b) k few = elim (cases_lt k (known_writes known b)) [
  | inl less ↦ let p = place known b k less in let inside = p.2 in (p.0, p.1, omega arith, p.3, p.4)
  | inr more ↦ (b, k - known_writes known b, omega arith, omega arith, omega arith)
]

-- a write's place, from 1, and 0 for another call
abbrev label : Known → Call → ℕ
label known c = cond (is_changed c.reply) (known_writes known c.bucket + c.stamp) 0

label_of_write : (known : Known) (c : Call) (b n m : ℕ) → is_changed c.reply ≡ true → c.bucket ≡ b → c.stamp ≡ n + 1
    → m ≡ known_writes known b + n → label known c ≡ suc m
label_of_write known c b n m wrote at_bucket stamp is =
    let first : known_writes known c.bucket ≡ known_writes known b = ap (known_writes known) at_bucket in
    let all : known_writes known c.bucket + c.stamp ≡ suc m = omega arith in
    ap (λ t. cond t (known_writes known c.bucket + c.stamp) 0) wrote ∙ all

-- a caller that made all that it knows made more calls than it knows writes, where one of them wrote nothing
more_calls : (z : Sizes) (v : View) (i k : ℕ) (r : Record) (c : Call) → IsLawfulCaller z v → HasMadeAll z v
    → get_elem? v.records i ≡ some r
    → get_elem? r.calls k ≡ some c → is_changed c.reply ≡ false
    → known_writes v.known (buckets z) + 1 ≤ length (all_calls v.records)
more_calls z v i k r c caller made at_i at_k kept =
    let all = at_least (label v.known) (suc (known_writes v.known (buckets z))) (all_calls v.records) each in
    omega arith
  where
    each : (m : ℕ) → m < suc (known_writes v.known (buckets z)) → IsLabelled (label v.known) (all_calls v.records) m
    each zero few = let p = in_all v.records i k r c at_i at_k in
        (p.0, c, p.1, ap (λ t. cond t (known_writes v.known c.bucket + c.stamp) 0) kept)
    each (suc m) few =
        let (b, n, inside, stands, is) = place v.known (buckets z) m (omega arith) in
        let w = there (known_at v.known b) n stands in
        let by = made b inside n w.0 w.1 in
        let has : HasWrite by.1.calls b (n + 1) = caller.lawful.own by.0 b n by.1 w.0 by.2 inside w.1 (sym by.3) in
        let p = in_all v.records by.0 has.0 by.1 has.1 by.2 has.2 in
        (p.0, has.1, p.1, label_of_write v.known has.1 b n m has.4 has.3 has.5 is)

-- ---- The calls of all workers are no more than the packets with a flow of the family

module _ (d : Deal) (family : Family) where
  one_event : (asked : Asked Event) (events : List Event)
      → length (add_in family asked events) ≤ length events + cond (is_in family asked) 1 0
  one_event Settled events = omega arith
  one_event (Asks u e) events = go (same_family family (family_of u.key))
    where
      go : (t : Bool) → length (if t then e ∷ events else events) ≤ length events + cond t 1 0
      go true = omega arith
      go false = omega arith

  abbrev its_count : ℕ → List Step → ℕ → ℕ
  its_count n steps w = length (events_by d family w n steps)

  one_packet : (n : ℕ) (j : Judged) (steps : List Step) (w : ℕ) → its_count n (Judges j ∷ steps) w
      ≤ cond (worker_of d n (flow_of_reading j.reading) == w)
      (its_count (n + 1) steps w + cond (is_in family j.asked) 1 0) (its_count (n + 1) steps w)
  one_packet n j steps w =
      subst (λ es. length es ≤ cond test (its_count (n + 1) steps w + cond (is_in family j.asked) 1 0)
      (its_count (n + 1) steps w))
      (sym (events_by-judges d family w n j steps)) (go test)
    where
      test : Bool
      test = worker_of d n (flow_of_reading j.reading) == w

      E : List Event
      E = events_by d family w (n + 1) steps

      go : (t : Bool) → length (cond t (add_in family j.asked E) E)
          ≤ cond t (length E + cond (is_in family j.asked) 1 0) (length E)
      go true = one_event j.asked E
      go false = omega arith

  one_removal : (n : ℕ) (r : Removal) (steps : List Step) (w : ℕ) → its_count n (Removes r ∷ steps) w
      ≤ cond (r.worker == w) (its_count n steps w + cond (same_family family r.family) 1 0) (its_count n steps w)
  one_removal n r steps w =
      subst (λ es. length es ≤ cond (r.worker == w) (its_count n steps w + cond (same_family family r.family) 1 0) (its_count n steps w))
      (sym (events_by-removes d family w n r steps)) (go (same_family family r.family) (r.worker == w))
    where
      E : List Event
      E = events_by d family w n steps

      go : (s t : Bool) → length (cond (s && t) (r.event ∷ E) E) ≤ cond t (length E + cond s 1 0) (length E)
      go true true = omega arith
      go true false = omega arith
      go false true = omega arith
      go false false = omega arith

  no_more_events : (w workers n : ℕ) (steps : List Step)
      → sum_at w workers (its_count n steps) ≤ keyed family (packets_in steps) + removed_of family (removals_in steps)
  no_more_events w workers n [] =
      let none = sum_zero w workers (its_count n []) (λ k. ap length (events_by-nil d family k n)) in omega arith
  no_more_events w workers n (Judges j ∷ steps) =
      let x : ℕ = cond (is_in family j.asked) 1 0 in
      let one =
      sum_one (worker_of d n (flow_of_reading j.reading)) x (its_count (n + 1) steps) (its_count n (Judges j ∷ steps))
      (one_packet n j steps) w workers in
      let more = no_more_events w workers (n + 1) steps in
      let js : List Judged = packets_in steps in
      let all : keyed family (j ∷ js) ≡ x + keyed family js =
      sum_by-cons (λ (i : Judged). cond (is_in family i.asked) 1 0) j js in
      omega arith
  no_more_events w workers n (Removes r ∷ steps) =
      let x : ℕ = cond (same_family family r.family) 1 0 in
      let one = sum_one r.worker x (its_count n steps) (its_count n (Removes r ∷ steps)) (one_removal n r steps) w workers in
      let more = no_more_events w workers n steps in
      let rs : List Removal = removals_in steps in
      let all : removed_of family (r ∷ rs) ≡ x + removed_of family rs =
      sum_by-cons (λ (i : Removal). cond (same_family family i.family) 1 0) r rs in
      omega arith

  no_more_calls : (steps : List Step) (v : View) → AreRecorded d family steps v
      → length (all_calls v.records) ≤ keyed family (packets_in steps) + removed_of family (removals_in steps)
  no_more_calls steps v recorded =
      let all = how_many v.records 0 (its_count 0 steps) (λ i r at.
      let e : 0 + i ≡ i = omega arith in
      sym (length-map r.calls event_of) ∙ (ap length (recorded.each i r at) ∙ ap (its_count 0 steps) (sym e))) in
      let few = no_more_events 0 (length v.records) 0 steps in
      omega arith

-- with so few packets of a family none of them is refused for want of pages
abbrev IsPagedIn : Family → Judged → Type 0
IsPagedIn family j = is_in family j.asked ≡ true → HasPages j

module _ (d : Deal) (times : Timeouts) (policy : PolicyFacts) (packets : List PacketFacts) (verdicts : List Verdict)
    (removals : List Removal) (are : AreJudgedBetween d times policy packets removals verdicts) (family : Family)
    (few : AreFewBetween d.layout family removals are.judged) where
  event_for_few : (k : ℕ) (j : Judged) (u : Update) (e : Event) → get_elem? are.judged k ≡ some j → j.asked ≡ Asks u e
      → family_of u.key ≡ family → IsNoRefusal e.reply
  event_for_few k j u e at its inside log2 left short =
      let recorded = are.recorded family in
      let v : View = view_in are.views family in
      let by : ℕ = worker_of d k (flow_of_reading j.reading) in
      let c = call_of_packet d family are.steps v recorded k j u e (ap (λ js. get_elem? js k) are.packets_are ∙ at) its inside in
      let refused : c.call.reply ≡ reply.NoPages log2 left = ap (λ (x : Event). x.reply) c.event ∙ short in
      let want = wants (sizes_in d.layout family) v by c.place c.record_at c.call log2 left recorded.lawful c.stands c.called refused in
      let taken = (recorded.told.short c.call (by, c.place, c.record_at, c.stands, c.called) log2 left refused).taken in
      let calls =
      more_calls (sizes_in d.layout family) v by c.place c.record_at c.call recorded.lawful recorded.told.made
      c.stands c.called (ap is_changed refused) in
      let steps_few = no_more_calls d family are.steps v recorded in
      let all : ℕ = keyed family are.judged + removed_of family removals in
      let counted : keyed family (packets_in are.steps) + removed_of family (removals_in are.steps) ≡ all =
      ap₂ (λ js rs. keyed family js + removed_of family rs) are.packets_are are.removals_are in
      let M : ℕ = (sizes_in d.layout family).max_log2 in
      let writes : ℕ = known_writes v.known (buckets (sizes_in d.layout family)) in
      let block : 2 ^ log2 ≤ 2 ^ M = pow-le-pow_right (omega arith) want.small in
      let left_few : left < 2 ^ log2 = want.few in
      let enough : (writes + 1) * 2 ^ M ≤ all * 2 ^ M =
      mul-le-mul_right (2 ^ M) (omega arith) in
      let none = ap (λ (o : Openings). o.used) recorded.openings in
      omega (arith, few, taken, none)

  events_for_few : (k : ℕ) (j : Judged) → get_elem? are.judged k ≡ some j → IsPagedIn family j
  events_for_few k j at = go j.asked refl
    where
      go : (asked : Asked Event) → j.asked ≡ asked → is_in family asked ≡ true → WhereAsked asked (λ e. IsNoRefusal e.reply)
      go Settled its is = tt
      go (Asks u e) its is = event_for_few k j u e at its (sym (families_are_one family (family_of u.key) is))

-- a packet that was judged has another verdict where it wasn't refused for want of pages
told_else : (d : Deal) (times : Timeouts) (policy : PolicyFacts) (packets : List PacketFacts) (verdicts : List Verdict)
    (removals : List Removal) (are : AreJudgedBetween d times policy packets removals verdicts) (k : ℕ) (j : Judged)
    → get_elem? are.judged k ≡ some j → HasPages j → verdict_on j ≢ NoPages
told_else d times policy packets verdicts removals are k j at paged =
    let p =
    packet_of (readings_of are.judged) packets k j.reading are.read
    (after_map (λ (i : Judged). i.reading) are.judged k j at) in
    paged_is_told policy p.0 j p.1 paged
  where
    packet_of : (readings : List Reading) (ps : List PacketFacts) (k : ℕ) (reading : Reading)
        → AreReadings policy ps readings
        → get_elem? readings k ≡ some reading → (packet : PacketFacts) × IsReading policy packet reading
    packet_of [] [] k reading read at = absurd (some-ne-none reading (sym at))
    packet_of [] (p ∷ ps) k reading read at = absurd read
    packet_of (r ∷ rs) [] k reading read at = absurd read
    packet_of (r ∷ rs) (p ∷ ps) zero reading read at =
        (p, subst (IsReading policy p) (some-injective r reading at) read.0)
    packet_of (r ∷ rs) (p ∷ ps) (suc k) reading read at = packet_of rs ps k reading read.1 at

-- with so few packets of a family none of them is refused for want of pages, and no verdict of theirs says so
pub pages_for_few_between : (d : Deal) (times : Timeouts) (policy : PolicyFacts) (packets : List PacketFacts)
    (removals : List Removal) (verdicts : List Verdict)
    (are : AreJudgedBetween d times policy packets removals verdicts) (family : Family)
    → AreFewBetween d.layout family removals are.judged → All (HasPagesIn family) are.judged
pages_for_few_between d times policy packets removals verdicts are family few =
    all_from (HasPagesIn family) are.judged (λ k j at is.
    let paged = events_for_few d times policy packets verdicts removals are family few k j at is in
    (paged, told_else d times policy packets verdicts removals are k j at paged))

-- so few packets, and no removal
few_alone : (l : Layout) (family : Family) (js : List Judged) → AreFew l family js
    → AreFewBetween l family [] js
few_alone l family js few =
    let none : keyed family js ≡ keyed family js + removed_of family [] = omega arith in
    subst (λ n. n * 2 ^ (sizes_in l family).max_log2 ≤ (sizes_in l family).pages) none few

pub pages_for_few : (d : Deal) (times : Timeouts) (policy : PolicyFacts) (packets : List PacketFacts)
    (verdicts : List Verdict)
    (are : AreJudged d times policy packets verdicts) (family : Family) → AreFew d.layout family are.judged
    → All (HasPagesIn family) are.judged
pages_for_few d times policy packets verdicts are family few =
    pages_for_few_between d times policy packets [] verdicts are family (few_alone d.layout family are.judged few)

-- with so few packets of both families no verdict says that pages were wanting
pub verdicts_for_few : (d : Deal) (times : Timeouts) (policy : PolicyFacts) (packets : List PacketFacts)
    (verdicts : List Verdict)
    (are : AreJudged d times policy packets verdicts) → ((family : Family) → AreFew d.layout family are.judged)
    → HavePages verdicts
verdicts_for_few d times policy packets verdicts are few =
    subst HavePages (sym are.said) (All-map (λ v. v ≢ NoPages) verdict_on are.judged
    (all_from (λ j. verdict_on j ≢ NoPages) are.judged (λ k j at.
    told_else d times policy packets verdicts [] are k j at (has_pages k j at))))
  where
    has_pages : (k : ℕ) (j : Judged) → get_elem? are.judged k ≡ some j → HasPages j
    has_pages k j at = go j.asked refl
      where
        go : (asked : Asked Event) → j.asked ≡ asked → WhereAsked asked (λ e. IsNoRefusal e.reply)
        go Settled its = tt
        go (Asks u e) its =
            event_for_few d times policy packets verdicts [] are (family_of u.key)
            (few_alone d.layout (family_of u.key) are.judged (few (family_of u.key))) k j u e at its refl
