-- The packets of one interface are judged as they would be alone, where the others leave them alone.
use Rattle.std.proofs.Common.{◌≡◌, ◌∙◌, ◌≤◌, ◌+◌, ◌==◌, ℕ, Bool, true, false, List, [], ◌∷◌, Option, Some, None, All, refl, sym, ap, ap₂, arith, map, cond, le_refl, subst}
use Rattle.std.proofs.lemmas.List.Elements.{All-head, All-nil, All-tail}
use Rattle.std.specs.FinMap.{len, len-empty}
use Rattle.std.specs.Cmp.Lexicographic.{slice_cmp}
use Rattle.std.specs.Ordering.{nat_cmp}
use Rattle.std.specs.Option.{ForSome}
use Rattle.std.specs.Prelude.{◌≢◌, if◌then◌else◌}
use Rattle.packet_view.specs.Captures.{PacketFacts}
use Rattle.acl_policy.specs.Policies.{PolicyFacts}
use Rattle.bihash_words.specs.Maps.{Bounds, Event, Pairs, expired_told, most_pairs}
use Rattle.bihash_words.specs.declared.patch.Reply.{Reply}
use Rattle.bihash_words.specs.declared.patch.Reply.TheVariants.{Kept, Changed, Worn, Full, NoPages}
use Rattle.bihash_words.proofs.MapLemmas.{stays_bounded}
use Rattle.bihash_words.specs.Refusals.{IsTaken}
use Rattle.bihash_words.specs.Runs.{writes_of}
use Rattle.session_state.specs.declared.timeouts.Timeouts.{Timeouts}
use Rattle.session_state.specs.declared.verdict.Verdict.{Verdict}
use Rattle.flow_filter.specs.Apart.{HasKeyNumber, TookNoPlaceOf, WasTaken, number_in, packets_of, those_of}
use Rattle.flow_filter.specs.Judged.{Asked, Asks, IsAsked, Judged, Settled, expired_for, readings_of, verdict_on, verdict_with, verdicts_on}
use Rattle.flow_filter.specs.OneThread.{AreVerdicts, HasPages, Home, Layout, bounds_in, home_of, nothing, same_home}
use Rattle.flow_filter.specs.Readings.{AreReadings, Framed, IsReading, Reading, Ruled}
use Rattle.flow_filter.specs.Updates.{Update, update_of, words_of}
use Rattle.flow_filter.proofs.AskedLemmas.{of_asked}
use Rattle.flow_filter.proofs.HomeLemmas.{homes_are_one}
use Rattle.flow_filter.proofs.NumberLemmas.{is_of, of_interface, unlike}
use Rattle.flow_filter.proofs.OneThreadLemmas.{IsThread, counts_after, first_asked, first_unasked, maps_after, of_one_thread, one_verdicts, thread_asked, thread_unasked}
use Rattle.flow_filter.proofs.PartedMaps.{AreParts, bare, own_step, rest_step}

-- what the buckets hold is of two kinds of keys, within its bounds, and the one kind has changed no oftener
record ArePartings (l : Layout) (kind : List ℕ → Bool) (maps own rest : Home → Pairs)
    (counts own_counts : Home → ℕ) : Type 0 where
  pub parts : (home : Home) → AreParts kind (maps home) (own home) (rest home)
  pub bounded : (home : Home) → len (maps home) ≤ most_pairs (bounds_in l home.family)
  pub fewer : (home : Home) → own_counts home ≤ counts home

-- what is so of the bucket `at`, with a test that says that it is that one, and of others, is so of each
at_each : (P : Home → Bool → Type 0) (home at : Home) → P at true → P home false → P home (same_home home at)
at_each P home at here other =
    elim (same_home home at) as (λ t. same_home home at ≡ t → P home t) [
      | true ↦ λ same. subst (λ h. P h true) (sym (homes_are_one home at same)) here
      | false ↦ λ differ. other
    ] refl

-- the same call where no key has to go, and the packet with it
abbrev single_asked : Asked Event → Asked Event
single_asked Settled = Settled
single_asked (Asks u e) = Asks u (bare e)

abbrev single : Judged → Judged
single j = record { reading = j.reading; asked = single_asked j.asked }

-- what this event took the place of is not of this interface
abbrev TookNone : ℕ → Event → Type 0
TookNone interface e = ForSome e.recycling.removed (λ gone. number_in gone ≢ interface)

-- the packets of the interface, judged alone
abbrev singles_of : ℕ → List PacketFacts → List Judged → List Judged
singles_of interface packets js = map single (those_of interface packets js)

-- a call that was taken and removed no key bears no expired words
asks_none : (reply : Reply) (words : List ℕ) → IsTaken reply → [] ≡ expired_told None reply words
asks_none (Kept found) words taken = refl
asks_none (Changed found) words taken = refl
asks_none (Worn found) words taken = absurd taken
asks_none Full words taken = absurd taken
asks_none (NoPages log2 left) words taken = absurd taken

-- the packets of the interface are one thread of their own
abbrev AreApart : Layout → Timeouts → ℕ → List PacketFacts → List Judged → Type 0
AreApart l times interface packets js =
    (maps own rest : Home → Pairs) (counts own_counts : Home → ℕ) → IsThread l times maps counts js
    → ArePartings l (is_of interface) maps own rest counts own_counts
    → IsThread l times own own_counts (singles_of interface packets js)

-- one more packet, which has no update
more_unasked : (l : Layout) (times : Timeouts) (interface : ℕ) (packet : PacketFacts) (packets : List PacketFacts)
    (j : Judged) (js : List Judged) → update_of times j.reading ≡ None → AreApart l times interface packets js
    → AreApart l times interface (packet ∷ packets) (j ∷ js)
more_unasked l times interface packet packets j js none apart maps own rest counts own_counts thread are =
    let (at, behind) = first_unasked l times maps counts j js none thread in
    let those = those_of interface packets js in
    let others = apart maps own rest counts own_counts behind are in
    elim (packet.interface == interface) as (λ t. IsThread l times own own_counts
    (map single (if t then j ∷ those else those))) [
      | true ↦ thread_unasked l times own own_counts (single j) (map single those) none (ap single_asked at) others
      | false ↦ others
    ]

-- one more packet of the interface, with this update
more_own : (l : Layout) (times : Timeouts) (interface : ℕ) (packets : List PacketFacts) (j : Judged) (js : List Judged)
    (u : Update) → update_of times j.reading ≡ Some u → is_of interface (words_of u.key) ≡ true
    → TookNoPlaceOf interface j → WasTaken j → AreApart l times interface packets js
    → (maps own rest : Home → Pairs) (counts own_counts : Home → ℕ) → IsThread l times maps counts (j ∷ js)
    → ArePartings l (is_of interface) maps own rest counts own_counts
    → IsThread l times own own_counts (single j ∷ singles_of interface packets js)
more_own l times interface packets j js u is of took taken apart maps own rest counts own_counts thread are =
    let home : Home = home_of l u.key in
    let b : Bounds = bounds_in l home.family in
    let first = first_asked l times maps counts u j js is thread in
    let e : Event = first.event in
    let kind : List ℕ → Bool = is_of interface in
    let held : IsTaken e.reply = of_asked (λ e. IsTaken e.reply) j.asked u e taken first.is in
    let (left, rest', step, parts) =
    own_step kind b (maps home) (own home) (rest home) first.left (counts home) (own_counts home) e
    (ap kind first.of.key ∙ of) held (unlike interface e (of_asked (TookNone interface) j.asked u e took first.is)) (are.fewer home)
    (are.bounded home) (are.parts home) first.step in
    let bears = asks_none e.reply (expired_for u.patch) held in
    thread_asked l times own own_counts (single j) (singles_of interface packets js) u (bare e) left is
    (ap single_asked first.is) (record { key = first.of.key; change = first.of.change; expiry = bears }) first.paged
    step
    (apart (maps_after maps home first.left) (maps_after own home left) (maps_after rest home rest')
    (counts_after counts home e) (counts_after own_counts home e) first.behind (record {
      parts = λ h. at_each (λ h t. AreParts kind (if t then first.left else maps h) (if t then left else own h)
          (if t then rest' else rest h)) h home parts (are.parts h);
      bounded = λ h. at_each (λ h t. len (if t then first.left else maps h) ≤ most_pairs (bounds_in l h.family)) h home
          (stays_bounded b (maps home) first.left (counts home) e first.step (are.bounded home)) (are.bounded h);
      fewer = λ h. at_each (λ h t. (if t then own_counts home + writes_of e.reply else own_counts h)
          ≤ (if t then counts home + writes_of e.reply else counts h)) h home
          (let less = are.fewer home in omega (arith, less)) (are.fewer h);
    }))

-- one more packet of another interface, with this update
more_other : (l : Layout) (times : Timeouts) (interface : ℕ) (packets : List PacketFacts) (j : Judged) (js : List Judged)
    (u : Update) → update_of times j.reading ≡ Some u → is_of interface (words_of u.key) ≡ false
    → TookNoPlaceOf interface j → AreApart l times interface packets js
    → (maps own rest : Home → Pairs) (counts own_counts : Home → ℕ) → IsThread l times maps counts (j ∷ js)
    → ArePartings l (is_of interface) maps own rest counts own_counts
    → IsThread l times own own_counts (singles_of interface packets js)
more_other l times interface packets j js u is of took apart maps own rest counts own_counts thread are =
    let home : Home = home_of l u.key in
    let b : Bounds = bounds_in l home.family in
    let first = first_asked l times maps counts u j js is thread in
    let e : Event = first.event in
    let kind : List ℕ → Bool = is_of interface in
    let (rest', parts) =
    rest_step kind b (maps home) (own home) (rest home) first.left (counts home) e (ap kind first.of.key ∙ of)
    (unlike interface e (of_asked (TookNone interface) j.asked u e took first.is)) (are.parts home) first.step in
    apart (maps_after maps home first.left) own (maps_after rest home rest') (counts_after counts home e) own_counts
    first.behind (record {
      parts = λ h. at_each (λ h t. AreParts kind (if t then first.left else maps h) (own h) (if t then rest' else rest h))
          h home parts (are.parts h);
      bounded = λ h. at_each (λ h t. len (if t then first.left else maps h) ≤ most_pairs (bounds_in l h.family)) h home
          (stays_bounded b (maps home) first.left (counts home) e first.step (are.bounded home)) (are.bounded h);
      fewer = λ h. at_each (λ h t. own_counts h ≤ (if t then counts home + writes_of e.reply else counts h)) h home
          (let less = are.fewer home in omega (arith, less)) (are.fewer h);
    })

-- one more packet, which has this update
more_asked : (l : Layout) (times : Timeouts) (interface : ℕ) (packet : PacketFacts) (packets : List PacketFacts)
    (j : Judged) (js : List Judged) (u : Update) → update_of times j.reading ≡ Some u
    → is_of interface (words_of u.key) ≡ (packet.interface == interface) → TookNoPlaceOf interface j
    → All WasTaken (those_of interface (packet ∷ packets) (j ∷ js))
    → (All WasTaken (those_of interface packets js) → AreApart l times interface packets js)
    → AreApart l times interface (packet ∷ packets) (j ∷ js)
more_asked l times interface packet packets j js u is of took taken apart maps own rest counts own_counts thread are =
    let those = those_of interface packets js in
    elim (packet.interface == interface) as (λ t. is_of interface (words_of u.key) ≡ t
    → All WasTaken (if t then j ∷ those else those)
    → IsThread l times own own_counts (map single (if t then j ∷ those else those))) [
      | true ↦ λ of taken. more_own l times interface packets j js u is of took (All-head WasTaken j those taken)
          (apart (All-tail WasTaken j those taken)) maps own rest counts own_counts thread are
      | false ↦ λ of taken. more_other l times interface packets j js u is of took (apart taken) maps own rest counts
          own_counts thread are
    ] of taken

-- what was taken of all was taken of those behind the first
taken_behind : (interface : ℕ) (packet : PacketFacts) (packets : List PacketFacts) (j : Judged) (js : List Judged)
    → All WasTaken (those_of interface (packet ∷ packets) (j ∷ js)) → All WasTaken (those_of interface packets js)
taken_behind interface packet packets j js =
    let those = those_of interface packets js in
    elim (packet.interface == interface) as (λ t. All WasTaken (if t then j ∷ those else those) → All WasTaken those) [
      | true ↦ λ taken. All-tail WasTaken j those taken
      | false ↦ λ taken. taken
    ]

apart_by_update : (l : Layout) (times : Timeouts) (policy : PolicyFacts) (interface : ℕ) (packet : PacketFacts)
    (packets : List PacketFacts) (j : Judged) (js : List Judged) (u : Option Update) → update_of times j.reading ≡ u
    → HasKeyNumber packet → IsReading policy packet j.reading → TookNoPlaceOf interface j
    → All WasTaken (those_of interface (packet ∷ packets) (j ∷ js))
    → (All WasTaken (those_of interface packets js) → AreApart l times interface packets js)
    → AreApart l times interface (packet ∷ packets) (j ∷ js)
apart_by_update l times policy interface packet packets j js None none fits reads took taken apart =
    more_unasked l times interface packet packets j js none (apart (taken_behind interface packet packets j js taken))
apart_by_update l times policy interface packet packets j js (Some u) is fits reads took taken apart =
    more_asked l times interface packet packets j js u is
    (of_interface times policy packet j.reading u interface fits reads is) took taken apart

-- where none of them is refused, and none of their sessions makes room
are_apart : (l : Layout) (times : Timeouts) (policy : PolicyFacts) (interface : ℕ) (packets : List PacketFacts)
    (js : List Judged) → All HasKeyNumber packets → AreReadings policy packets (readings_of js)
    → All (TookNoPlaceOf interface) js → All WasTaken (those_of interface packets js) → AreApart l times interface packets js
are_apart l times policy interface [] [] fit read took taken = λ maps own rest counts own_counts thread are. record {
  asked = All-nil (IsAsked times);
  runs = λ home is. (own home, own_counts home, (refl, refl));
  paged = All-nil HasPages;
}
are_apart l times policy interface [] (j ∷ js) fit read took taken = absurd read
are_apart l times policy interface (packet ∷ packets) [] fit read took taken = absurd read
are_apart l times policy interface (packet ∷ packets) (j ∷ js) fit read took taken =
    apart_by_update l times policy interface packet packets j js (update_of times j.reading) refl
    (All-head HasKeyNumber packet packets fit) read.0 (All-head (TookNoPlaceOf interface) j js took) taken
    (λ behind. are_apart l times policy interface packets js (All-tail HasKeyNumber packet packets fit) read.1
    (All-tail (TookNoPlaceOf interface) j js took) behind)

-- the readings of those packets
those_read : (policy : PolicyFacts) (interface : ℕ) (packets : List PacketFacts) (js : List Judged)
    → AreReadings policy packets (readings_of js)
    → AreReadings policy (packets_of interface packets) (readings_of (those_of interface packets js))
those_read policy interface [] [] read = tt
those_read policy interface [] (j ∷ js) read = absurd read
those_read policy interface (packet ∷ packets) [] read = absurd read
those_read policy interface (packet ∷ packets) (j ∷ js) read =
    let those = those_of interface packets js in
    let alone = packets_of interface packets in
    let behind = those_read policy interface packets js read.1 in
    elim (packet.interface == interface) as (λ t. AreReadings policy (cond t (packet ∷ alone) alone)
    (readings_of (if t then j ∷ those else those))) [
      | true ↦ (read.0, behind)
      | false ↦ behind
    ]

-- and their verdicts
those_said : (interface : ℕ) (packets : List PacketFacts) (js : List Judged)
    → those_of interface packets (verdicts_on js) ≡ verdicts_on (those_of interface packets js)
those_said interface [] js = refl
those_said interface (packet ∷ packets) [] = refl
those_said interface (packet ∷ packets) (j ∷ js) =
    let those = those_of interface packets js in
    let said = those_of interface packets (verdicts_on js) in
    let behind = those_said interface packets js in
    elim (packet.interface == interface) as (λ t. (if t then verdict_on j ∷ said else said)
    ≡ verdicts_on (if t then j ∷ those else those)) [
      | true ↦ ap (λ vs. verdict_on j ∷ vs) behind
      | false ↦ behind
    ]

-- a packet that is judged alone has the same reading and the same verdict
singles_read : (js : List Judged) → readings_of (map single js) ≡ readings_of js
singles_read [] = refl
singles_read (j ∷ js) = ap (λ rs. j.reading ∷ rs) (singles_read js)

single_said : (reading : Reading) (asked : Asked Event) → verdict_with reading (single_asked asked) ≡ verdict_with reading asked
single_said (Framed verdict) asked = refl
single_said (Ruled moment tuple ruling) Settled = refl
single_said (Ruled moment tuple ruling) (Asks u e) = refl

singles_said : (js : List Judged) → verdicts_on (map single js) ≡ verdicts_on js
singles_said [] = refl
singles_said (j ∷ js) = ap₂ (λ v vs. v ∷ vs) (single_said j.reading j.asked) (singles_said js)

-- nothing is parted into nothing
at_first : (l : Layout) (kind : List ℕ → Bool) → ArePartings l kind nothing nothing nothing (λ home. 0) (λ home. 0)
at_first l kind =
    let none = len-empty (slice_cmp nat_cmp) ℕ in record {
      parts = λ home. record {
        own_values = λ key same. refl;
        rest_values = λ key unlike. refl;
        sum = omega (arith, none);
      };
      bounded = λ home. omega (arith, none);
      fewer = λ home. le_refl 0;
    }

-- the verdicts of those packets are the ones that they get alone
pub apart_verdicts : (l : Layout) (times : Timeouts) (policy : PolicyFacts) (packets : List PacketFacts) (interface : ℕ)
    (verdicts alone : List Verdict) → All HasKeyNumber packets → (all : AreVerdicts l times policy packets verdicts)
    → All WasTaken (those_of interface packets all.judged) → All (TookNoPlaceOf interface) all.judged
    → AreVerdicts l times policy (packets_of interface packets) alone
    → alone ≡ those_of interface packets verdicts
apart_verdicts l times policy packets interface verdicts alone fit all taken took by_themselves =
    let those = those_of interface packets all.judged in
    let zero_counts : Home → ℕ = λ home. 0 in
    let thread =
    are_apart l times policy interface packets all.judged fit all.read took taken nothing nothing nothing zero_counts
    zero_counts (of_one_thread l times nothing all.judged all.one_thread) (at_first l (is_of interface)) in
    let read = those_read policy interface packets all.judged all.read in
    one_verdicts l times policy (packets_of interface packets) alone (those_of interface packets verdicts) by_themselves
    (record {
      judged = map single those;
      read = subst (AreReadings policy (packets_of interface packets)) (sym (singles_read those)) read;
      one_thread = record { asked = thread.asked; runs = thread.runs; paged = thread.paged };
      said = ap (those_of interface packets) all.said ∙ those_said interface packets all.judged
          ∙ sym (singles_said those);
    })
