-- Sessions that are removed are at most as many as packets: each was entered by a packet of its bucket.
use Rattle.std.proofs.Common.{◌≡◌, ◌≢◌, ◌⊎◌, ◌∙◌, ◌+◌, ◌-◌, ◌*◌, ◌≤◌, ◌<◌, ℕ, zero, suc, Bool, true, false, cond, List, [], ◌∷◌, length, All, Option, Some, None, ap, arith, refl, sym, subst, inl, inr}
use Rattle.std.specs.Prelude.{if◌then◌else◌, nat_lt}
use Rattle.std.proofs.lemmas.Bool.{lt-ltb}
use Rattle.std.proofs.lemmas.List.Elements.{All-cons, All-head, All-nil, All-tail}
use Rattle.std.specs.Cmp.Lexicographic.{nat_list_cmp_total, slice_cmp}
use Rattle.std.specs.Ordering.{nat_cmp}
use Rattle.std.specs.FinMap.{contains_key, empty, empty_of_len, get, get-empty, insert, len, len-empty, len-insert, len-remove, remove}
use Rattle.packet_view.specs.Captures.{PacketFacts}
use Rattle.acl_policy.specs.Policies.{PolicyFacts}
use Rattle.bihash_words.specs.Maps.{Answers, AnswersFull, Bounds, Case, Event, IsEvent, NewKey, NoRoom, OldKey, Pairs, Unchanged, WornOut, case_with, changed, effect_of, removed_in, without, written}
use Rattle.bihash_words.specs.Runs.{IsRun, writes_of}
use Rattle.bihash_words.specs.declared.patch.Change.{Change}
use Rattle.bihash_words.specs.declared.patch.Change.TheVariants.{Keep, Set, Remove}
use Rattle.bihash_words.specs.declared.patch.Reply.{Reply}
use Rattle.bihash_words.specs.declared.patch.Reply.TheVariants.{Kept, Changed, Worn, Full, NoPages}
use Rattle.bihash_words.proofs.MapLemmas.{none_for_old}
use Rattle.bihash_words.proofs.MapValues.{len_less}
use Rattle.session_state.specs.declared.timeouts.Timeouts.{Timeouts}
use Rattle.session_state.specs.declared.verdict.Verdict.{Verdict}
use Rattle.flow_filter.specs.Ageing.{IsOfExpired, Judges, Removal, Removes, Step, packets_in, removals_in, removed_from, steps_at}
use Rattle.flow_filter.specs.Judged.{Asked, Asks, Judged, Settled}
use Rattle.flow_filter.specs.OneThread.{Home, IsHome, Layout, add_event, bounds_in, home_of, same_home, sizes_in}
use Rattle.flow_filter.proofs.HomeLemmas.{holds_key, homes_are_one, same_as_itself}
use Rattle.flow_dealing.specs.declared.worker_of_flow.Dealing.TheVariants.{Bucket}
use Rattle.flow_dealing.specs.Dealings.{Deal}
use Rattle.flow_dealing.specs.WorkerRecords.{AreJudgedBetween, AreWithinHalf, IsByOwner}
use Rattle.flow_dealing.proofs.OneReport.{packets_counted, run_of_steps}

-- ---- The pairs of a map

one_more_at_most : (there : Bool) (n : ℕ) → cond there n (n + 1) ≤ n + 1
one_more_at_most true n = omega arith
one_more_at_most false n = omega arith

none_more : (there : Bool) (n : ℕ) → cond there (n - 1) n ≤ n
none_more true n = omega arith
none_more false n = omega arith

len_without : (m : Pairs) (removed : Option (List ℕ)) → len (without m removed) ≤ len m
len_without m None = omega arith
len_without m (Some key) = subst (λ n. n ≤ len m) (sym (len-remove nat_list_cmp_total m key)) (none_more (contains_key m key) (len m))

len_changed : (m : Pairs) (key : List ℕ) (change : Change) → len (changed m key change) ≤ len m + 1
len_changed m key Keep = omega arith
len_changed m key (Set value) =
    subst (λ n. n ≤ len m + 1) (sym (len-insert nat_list_cmp_total m key value)) (one_more_at_most (contains_key m key) (len m))
len_changed m key Remove = let few = len_without m (Some key) in omega arith

module _ (b : Bounds) (m n : Pairs) (e : Event) where
  by_written : n ≡ written m e.key e.change e.recycling → len n ≤ len m + 1
  by_written is =
      let few = len_changed (without m e.recycling.removed) e.key e.change in
      let left = len_without m e.recycling.removed in
      subst (λ x. len x ≤ len m + 1) (sym is) (omega arith)

  by_same : n ≡ m → len n ≤ len m + 1
  by_same is = subst (λ x. len x ≤ len m + 1) (sym is) (omega arith)

  by_full : (removed : Option (List ℕ)) → AnswersFull removed m e n → len n ≤ len m + 1
  by_full None h = by_same h.1
  by_full (Some gone) h = by_written h.1

  -- a call adds one pair at most
  by_answers : (r : Case) → Answers r b m e n → len n ≤ len m + 1
  by_answers Unchanged h = by_same h.1
  by_answers WornOut h = by_same h.1
  by_answers NoRoom h = by_full e.recycling.removed h
  by_answers NewKey (inl h) = by_written h.1
  by_answers NewKey (inr h) = by_same h.1
  by_answers OldKey h = by_written h.1

one_write : (reply : Reply) → writes_of reply ≤ 1
one_write (Kept found) = omega arith
one_write (Changed found) = omega arith
one_write (Worn found) = omega arith
one_write Full = omega arith
one_write (NoPages log2 left) = omega arith

-- a key that is there, and may be removed, is one pair less
module _ (b : Bounds) (m n : Pairs) (w word : ℕ) (e : Event) (step : IsEvent b m w e n) (found : e.found ≡ Some word)
    (change : e.change ≡ Remove) where
  there : get m e.key ≡ Some word
  there = sym step.found ∙ found

  some : len m ≢ 0
  some none =
      let absent : get m e.key ≡ None = ap (λ p. get p e.key) (empty_of_len m none) ∙ get-empty (slice_cmp nat_cmp) e.key in
      let clash : None ≡ Some word = sym absent ∙ there in
      let f : ⊥ = cc in f

  none_for_it : e.recycling.removed ≡ None
  none_for_it = step.removed
      ∙ ap (λ x. removed_in (case_with b (len m) w x (effect_of e.change x)) m e.recycling.expired) found
      ∙ none_for_old b (len m) w word (effect_of e.change (Some word)) m e.recycling.expired

  answered : Answers (if nat_lt w b.limit then OldKey else WornOut) b m e n
  answered = subst (λ x. Answers (case_with b (len m) w x (effect_of Remove x)) b m e n) found
      (subst (λ c. Answers (case_with b (len m) w e.found (effect_of c e.found)) b m e n) change step.answers)

  one_less : w < b.limit → len n + 1 ≡ len m
  one_less room =
      let h = subst (λ t. Answers (if t then OldKey else WornOut) b m e n) (lt-ltb w b.limit room) answered in
      let is : n ≡ remove m e.key = h.1 ∙ ap (λ c. changed (without m e.recycling.removed) e.key c) change
      ∙ ap (λ r. remove (without m r) e.key) none_for_it in
      let less = ap len is ∙ len_less m e.key word there in
      let more = some in
      omega (arith, less, more)

-- ---- The buckets of packets and removals

abbrev homes_asked : Layout → Asked Event → List Home → List Home
homes_asked l Settled homes = homes
homes_asked l (Asks u e) homes = home_of l u.key ∷ homes

abbrev packet_homes : Layout → List Step → List Home
packet_homes l [] = []
packet_homes l (Judges j ∷ steps) = homes_asked l j.asked (packet_homes l steps)
packet_homes l (Removes r ∷ steps) = packet_homes l steps

abbrev removal_homes : Layout → List Step → List Home
removal_homes l [] = []
removal_homes l (Judges j ∷ steps) = removal_homes l steps
removal_homes l (Removes r ∷ steps) = removed_from l r ∷ removal_homes l steps

abbrev count : Home → List Home → ℕ
count home [] = 0
count home (h ∷ homes) = if same_home home h then suc (count home homes) else count home homes

-- What is removed behind these events of a bucket was there or is entered by a packet of these, as long as the bucket isn't worn.
module _ (b : Bounds) (es : List Event) (last : Pairs) (n packets removals : ℕ)
    (rest : (m : Pairs) (w : ℕ) → IsRun b m w es last n → w + len m + 2 * packets ≤ b.limit → removals ≤ packets + len m) where
  at_packet : (e : Event) (t : Bool) (m : Pairs) (w : ℕ) → IsRun b m w (if t then e ∷ es else es) last n
      → w + len m + 2 * (if t then suc packets else packets) ≤ b.limit → removals ≤ (if t then suc packets else packets) + len m
  at_packet e true m w (m', step, behind) room =
      let more = by_answers b m m' e _ step.answers in
      let one = one_write e.reply in
      let few = rest m' (w + writes_of e.reply) behind (omega arith) in
      omega arith
  at_packet e false m w run room = rest m w run room

  at_removal : (e : Event) (word : ℕ) → e.found ≡ Some word → e.change ≡ Remove → (t : Bool) (m : Pairs) (w : ℕ)
      → IsRun b m w (if t then e ∷ es else es) last n → w + len m + 2 * packets ≤ b.limit
      → (if t then suc removals else removals) ≤ packets + len m
  at_removal e word found change true m w (m', step, behind) room =
      let pairs = some b m m' w word e step found change in
      let less = one_less b m m' w word e step found change (omega arith) in
      let one = one_write e.reply in
      let few = rest m' (w + writes_of e.reply) behind (omega arith) in
      omega arith
  at_removal e word found change false m w run room = rest m w run room

module _ (l : Layout) (times : Timeouts) (home : Home) (b : Bounds) where
  at_asked : (es : List Event) (homes : List Home) (last : Pairs) (n removals : ℕ)
      → ((m : Pairs) (w : ℕ) → IsRun b m w es last n → w + len m + 2 * count home homes ≤ b.limit → removals ≤ count home homes + len m)
      → (asked : Asked Event) (m : Pairs) (w : ℕ) → IsRun b m w (add_event l home asked es) last n
      → w + len m + 2 * count home (homes_asked l asked homes) ≤ b.limit → removals ≤ count home (homes_asked l asked homes) + len m
  at_asked es homes last n removals rest Settled m w run room = rest m w run room
  at_asked es homes last n removals rest (Asks u e) m w run room =
      at_packet b es last n (count home homes) removals rest e (same_home home (home_of l u.key)) m w run room

  few_in_bucket : (steps : List Step) (last : Pairs) (n : ℕ) → All (IsOfExpired times) (removals_in steps) → (m : Pairs) (w : ℕ)
      → IsRun b m w (steps_at l home steps) last n → w + len m + 2 * count home (packet_homes l steps) ≤ b.limit
      → count home (removal_homes l steps) ≤ count home (packet_homes l steps) + len m
  few_in_bucket [] last n ended m w run room = omega arith
  few_in_bucket (Judges j ∷ steps) last n ended m w run room =
      at_asked (steps_at l home steps) (packet_homes l steps) last n (count home (removal_homes l steps))
      (λ m w run room. few_in_bucket steps last n ended m w run room) j.asked m w run room
  few_in_bucket (Removes r ∷ steps) last n ended m w run room =
      let head : IsOfExpired times r = All-head (IsOfExpired times) r (removals_in steps) ended in
      at_removal b (steps_at l home steps) last n (count home (packet_homes l steps)) (count home (removal_homes l steps))
      (λ m w run room. few_in_bucket steps last n (All-tail (IsOfExpired times) r (removals_in steps) ended) m w run room)
      r.event head.word head.found head.change (same_home home (removed_from l r)) m w run room

-- ---- Buckets that have at most so many have at most so many together

abbrev without_one : Home → List Home → List Home
without_one home [] = []
without_one home (h ∷ homes) = if same_home home h then homes else h ∷ without_one home homes

abbrev one_if : Bool → ℕ
one_if true = 1
one_if false = 0

shorter_at : (h : Home) (homes left : List Home) (counted : ℕ) → (0 < counted → length left + 1 ≡ length homes)
    → (t : Bool) → 0 < (if t then suc counted else counted) → length (if t then homes else h ∷ left) + 1 ≡ suc (length homes)
shorter_at h homes left counted rest true some = omega arith
shorter_at h homes left counted rest false some = let less = rest some in omega arith

one_shorter : (home : Home) (homes : List Home) → 0 < count home homes → length (without_one home homes) + 1 ≡ length homes
one_shorter home [] some = omega arith
one_shorter home (h ∷ homes) some =
    shorter_at h homes (without_one home homes) (count home homes) (one_shorter home homes) (same_home home h) some

one_more : (t : Bool) (a : ℕ) → (if t then suc a else a) ≤ a + one_if t
one_more true a = omega arith
one_more false a = omega arith

one_each : (t : Bool) (a c n : ℕ) → a ≤ c + n → (if t then suc a else a) ≤ (if t then suc c else c) + n
one_each true a c n few = omega arith
one_each false a c n few = omega arith

left_at : (home other h : Home) (homes left : List Home) → count other homes ≤ count other left + one_if (same_home other home)
    → (t : Bool) → same_home home h ≡ t
    → count other (h ∷ homes) ≤ count other (if t then homes else h ∷ left) + one_if (same_home other home)
left_at home other h homes left few true is =
    subst (λ x. count other (x ∷ homes) ≤ count other homes + one_if (same_home other home))
    (homes_are_one home h is) (one_more (same_home other home) (count other homes))
left_at home other h homes left few false is =
    one_each (same_home other h) (count other homes) (count other left) (one_if (same_home other home)) few

others_left : (home other : Home) (homes : List Home) → count other homes ≤ count other (without_one home homes) + one_if (same_home other home)
others_left home other [] = omega arith
others_left home other (h ∷ homes) =
    left_at home other h homes (without_one home homes) (others_left home other homes) (same_home home h) refl

few_by_homes : (l : Layout) (xs ys : List Home) → All (IsHome l) xs → ((home : Home) → IsHome l home → count home xs ≤ count home ys)
    → length xs ≤ length ys
few_by_homes l [] ys all few = omega arith
few_by_homes l (x ∷ xs) ys all few =
    let first : IsHome l x = All-head (IsHome l) x xs all in
    let here : (if same_home x x then suc (count x xs) else count x xs) ≤ count x ys = few x first in
    let some : suc (count x xs) ≤ count x ys = subst (λ t. (if t then suc (count x xs) else count x xs) ≤ count x ys) (same_as_itself x) here in
    let shorter = one_shorter x ys (omega arith) in
    let rest = few_by_homes l xs (without_one x ys) (All-tail (IsHome l) x xs all)
    (λ home inside. left (same_home home x) (count home xs) (count home ys) (count home (without_one x ys)) (few home inside) (others_left x home ys)) in
    omega arith
  where
    left : (t : Bool) (a c n : ℕ) → (if t then suc a else a) ≤ c → c ≤ n + one_if t → a ≤ n
    left true a c n few more = omega arith
    left false a c n few more = omega arith

-- ---- All

removal_homes_inside : (l : Layout) (steps : List Step) → All (IsHome l) (removal_homes l steps)
removal_homes_inside l [] = All-nil (IsHome l)
removal_homes_inside l (Judges j ∷ steps) = removal_homes_inside l steps
removal_homes_inside l (Removes r ∷ steps) =
    All-cons (IsHome l) (removed_from l r) (removal_homes l steps) (holds_key l r.family r.event.key) (removal_homes_inside l steps)

removals_counted : (l : Layout) (steps : List Step) → length (removal_homes l steps) ≡ length (removals_in steps)
removals_counted l [] = refl
removals_counted l (Judges j ∷ steps) = removals_counted l steps
removals_counted l (Removes r ∷ steps) = ap suc (removals_counted l steps)

asked_at_most : (l : Layout) (asked : Asked Event) (homes : List Home) → length (homes_asked l asked homes) ≤ suc (length homes)
asked_at_most l Settled homes = omega arith
asked_at_most l (Asks u e) homes = omega arith

packets_at_least : (l : Layout) (steps : List Step) → length (packet_homes l steps) ≤ length (packets_in steps)
packets_at_least l [] = omega arith
packets_at_least l (Judges j ∷ steps) =
    let one = asked_at_most l j.asked (packet_homes l steps) in let rest = packets_at_least l steps in omega arith
packets_at_least l (Removes r ∷ steps) = packets_at_least l steps

if_at_most : (t : Bool) (a n : ℕ) → a ≤ n → (if t then suc a else a) ≤ suc n
if_at_most true a n few = omega arith
if_at_most false a n few = omega arith

count_at_most : (home : Home) (homes : List Home) → count home homes ≤ length homes
count_at_most home [] = omega arith
count_at_most home (h ∷ homes) = if_at_most (same_home home h) (count home homes) (length homes) (count_at_most home homes)

module _ (d : Deal) (times : Timeouts) (policy : PolicyFacts) (packets : List PacketFacts) (verdicts : List Verdict)
    (removals : List Removal) (are : AreJudgedBetween d times policy packets removals verdicts) where
  pub few_removals : (d.dealing ≡ Bucket) ⊎ (d.workers ≡ 1) → All (IsByOwner d) removals
      → AreWithinHalf d packets → length removals ≤ length packets
  few_removals one own few =
      let by : All (IsByOwner d) (removals_in are.steps) = subst (All (IsByOwner d)) (sym are.removals_are) own in
      let ended : All (IsOfExpired times) (removals_in are.steps) = subst (All (IsOfExpired times)) (sym are.removals_are) are.ended in
      let asked = packets_at_least d.layout are.steps in
      let judged = packets_counted d times policy packets verdicts removals are in
      let there : (home : Home) → IsHome d.layout home
      → count home (removal_homes d.layout are.steps) ≤ count home (packet_homes d.layout are.steps)
      = λ home inside.
      let run = run_of_steps d times policy packets verdicts removals are one by home inside in
      let most = count_at_most home (packet_homes d.layout are.steps) in
      let limit = few home.family in
      let none = len-empty (slice_cmp nat_cmp) ℕ in
      let counted = few_in_bucket d.layout times home (bounds_in d.layout home.family) are.steps _ run.0 ended empty 0 run.1
      (omega arith) in
      omega arith in
      let all = few_by_homes d.layout (removal_homes d.layout are.steps) (packet_homes d.layout are.steps)
      (removal_homes_inside d.layout are.steps) there in
      let removed = removals_counted d.layout are.steps ∙ ap length are.removals_are in
      omega arith
