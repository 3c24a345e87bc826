-- What workers said, placed in the order of the packets.
use Rattle.std.proofs.Common.{Bool, false, append-nil, map, ◌≡◌, ◌≢◌, ◌∙◌, ◌+◌, ◌<◌, ℕ, zero, suc, true, cond, List, [], ◌∷◌, ◌++◌, drop, get_or, length, replicate, set, ap, refl, sym, subst, arith, inl, inr, eq-eqb, get_or-set_same, get_or-set_other}
use Rattle.std.specs.Prelude.{◌==◌, slice_get, slice_index}
use Rattle.std.specs.Global.{Vec}
use Rattle.std.proofs.lemmas.Bool.Decides.{eqb_tells}
use Rattle.std.proofs.lemmas.List.{drop_all, get_or-map, length-append, length-map, length-set}
use Rattle.std.proofs.lemmas.Option.{slice_get-get_or}
use lib.ListN.{get_elem?}
use mathlib.Core.Option.{Option, some, some-ne-none, some-injective}
use Rattle.packet_view.specs.Captures.{PacketFacts}
use Rattle.packet_view.specs.Frames as frames
use Rattle.packet_view.specs.Interfaces.{Interface}
use Rattle.packet_view.specs.inner.FrameSteps.{view_of}
use Rattle.packet_view.proofs.FrameLemmas.{view_only, view_shown}
use Rattle.packet_view.proofs.BurstLemmas.{left_behind}
use Rattle.bihash_words.specs.declared.shape.Shape.{Ghosts}
use Rattle.bihash_steps.proofs.Lists.{at_after, there, within}
use Rattle.flow_dealing.proofs.DealtLists.{none_left, there_behind}
use Rattle.std.proofs.Math.Seq.{drop-append_seam}
use Rattle.flow_dealing.specs.Dealt.{AreWorkers}
use Rattle.flow_dealing.specs.declared.dealer.Dealer.{Dealer}
use Rattle.acl_policy.specs.Policies.{PolicyFacts, section_of}
use Rattle.session_state.specs.declared.verdict.Verdict.{Verdict}
use Rattle.flow_filter.specs.OneThread.{layout_of}
use Rattle.flow_dealing.specs.Dealings.{Deal, flow_of_frame, worker_of}
use Rattle.flow_dealing.specs.Traces.{AreFrames, ArePlaced, IsTrace, Item, numbers_from}
use Rattle.flow_dealing.proofs.DealtEvents.{all_views, worker_few}
use Rattle.flow_dealing.proofs.Places.{after_map, at_front, before_map, zip_count}
use Rattle.flow_workers.specs.inner.Work.{AreSaid, RunFacts, numbers_of, verdict_in}
use Rattle.flow_workers.specs.inner.Merges.{AreAllVerdicts, AreInPlace, AreJudges, ArePlacedBefore, AreTold, IsNext, LetGo, MayPlace, PlacedFacts, before_batch, numbers_behind, said_in_shares}
use Rattle.flow_workers.specs.declared.worker_share.Share.{Share}
use Rattle.flow_workers.proofs.WorkSteps.{IsAt, no_numbers, numbers_at, numbers_cons}

-- ---- Lists

first_left : {X : Type 0} (xs ys : List X) (k : ℕ) (x : X) → drop k xs ≡ x ∷ ys → get_elem? xs k ≡ some x
first_left [] ys zero x e = absurd (let f : ⊥ = cc in f)
first_left [] ys (suc k) x e = absurd (let f : ⊥ = cc in f)
first_left (y ∷ xs) ys zero x e = let same : y ≡ x = cc in ap some same
first_left (y ∷ xs) ys (suc k) x e = first_left xs ys k x e

no_zeros : (n i : ℕ) → slice_index (replicate n 0) i ≡ 0
no_zeros zero i = refl
no_zeros (suc n) zero = refl
no_zeros (suc n) (suc i) = no_zeros n i

at_or : {X : Type 0} (xs : List X) (i : ℕ) (d : X) → i < length xs → get_elem? xs i ≡ some (get_or xs i d)
at_or [] i d inside = absurd (omega arith)
at_or (x ∷ xs) zero d inside = refl
at_or (x ∷ xs) (suc i) d inside = at_or xs i d (omega arith)

-- ---- A worker that is alone

alone_cons : (d : Deal) (at : ℕ) (view : frames.FrameFacts) (views : List frames.FrameFacts) → d.workers ≡ 1
    → numbers_from d 0 at (view ∷ views) ≡ at ∷ numbers_from d 0 (at + 1) views
alone_cons d at view views alone =
    let few = worker_few d at (flow_of_frame view) (let e = alone in omega arith) in
    let mine : (worker_of d at (flow_of_frame view) == 0) ≡ true = eq-eqb _ _ (omega arith) in
    numbers_cons d 0 at view views
    ∙ ap (λ b. cond b (at ∷ numbers_from d 0 (at + 1) views) (numbers_from d 0 (at + 1) views)) mine

-- a worker that is alone has each packet
alone_at : (d : Deal) (at : ℕ) (views : List frames.FrameFacts) (k n : ℕ) → d.workers ≡ 1
    → get_elem? (numbers_from d 0 at views) k ≡ some n → n ≡ at + k
alone_at d at [] k n alone stands =
    absurd (some-ne-none n (sym (sym (ap (λ ns. get_elem? ns k) (no_numbers d 0 at)) ∙ stands)))
alone_at d at (view ∷ views) zero n alone stands =
    let e = some-injective at n (sym (ap (λ ns. get_elem? ns 0) (alone_cons d at view views alone)) ∙ stands) in
    omega arith
alone_at d at (view ∷ views) (suc k) n alone stands =
    let e =
    alone_at d (at + 1) views k n alone
    (sym (ap (λ ns. get_elem? ns (suc k)) (alone_cons d at view views alone)) ∙ stands) in omega arith

alone_count : (d : Deal) (at : ℕ) (views : List frames.FrameFacts) → d.workers ≡ 1
    → length (numbers_from d 0 at views) ≡ length views
alone_count d at [] alone = ap length (no_numbers d 0 at)
alone_count d at (view ∷ views) alone =
    ap length (alone_cons d at view views alone) ∙ ap suc (alone_count d (at + 1) views alone)

-- the only one of a list
all_first : {X : Type 0} (xs : List X) (x : X) → length xs ≡ 1 → get_elem? xs 0 ≡ some x → xs ≡ x ∷ []
all_first [] x one at = absurd (some-ne-none x (sym at))
all_first (y ∷ []) x one at = ap (λ z. z ∷ []) (some-injective y x at)
all_first (y ∷ z ∷ zs) x one at = absurd (omega arith)

-- what it said is in order already
pub one_placed : (run : RunFacts) (trace : List Item) (verdicts : List Verdict) → run.deal.workers ≡ 1
    → IsTrace run.deal run.times 0 run.policy run.packets trace → AreSaid trace verdicts
    → ArePlaced run.packets (trace ∷ []) verdicts
one_placed run trace verdicts alone is said =
    let vs = all_views run.policy run.packets in
    let numbers = is.dealt vs.0 vs.1 in
    record {
      count =
          ap length said ∙ (length-map trace verdict_in ∙ (sym (length-map trace (λ (k : Item). k.packet))
          ∙ (ap length numbers ∙ (alone_count run.deal 0 vs.0 alone ∙ sym (zip_count _ run.packets vs.0 vs.1)))));
      each = λ w other stands k i at.
          let first : w ≡ 0 = let inside = within (trace ∷ []) w other stands in omega arith in
          let same : other ≡ trace =
          some-injective other trace (sym stands ∙ ap (get_elem? (trace ∷ [])) first) in
          let here = ap (λ (x : List Item). get_elem? x k) (sym same) ∙ at in
          let place : i.packet ≡ 0 + k = alone_at run.deal 0 vs.0 k i.packet alone
          (sym (ap (λ ns. get_elem? ns k) numbers) ∙ after_map (λ (x : Item). x.packet) trace k i here) in
          ap (get_elem? verdicts) (place ∙ (let e : 0 + k ≡ k = omega arith in e))
          ∙ (ap (λ vs. get_elem? vs k) said ∙ after_map verdict_in trace k i here);
    }

-- ---- What workers of one run said

-- the share of the next packet's worker is there
pub next_inside : {A B K L : Type 0} {ga : Ghosts A K} {gb : Ghosts B L} (run : RunFacts) (traces : List (List Item)) (gone : LetGo)
    (shares : List (Share A B K L ga gb)) (placed : PlacedFacts) (w : ℕ) → IsNext run traces gone (said_in_shares shares) placed w
    → w < length shares
next_inside {A} {B} {K} {L} {ga} {gb} run traces gone shares placed w is =
    let inside = within (said_in_shares shares) w is.said is.here in
    let many = length-map shares (λ (s : Share A B K L ga gb). s.said) in omega arith

-- what is in the share of a worker
pub said_of : {A B K L : Type 0} {ga : Ghosts A K} {gb : Ghosts B L} (shares : List (Share A B K L ga gb)) (w : ℕ)
    (d : Share A B K L ga gb) → w < length shares → (get_or shares w d).said ≡ get_or (said_in_shares shares) w (get_or shares w d).said
said_of {A} {B} {K} {L} {ga} {gb} shares w d inside =
    sym (get_or-map (λ (s : Share A B K L ga gb). s.said) shares w d (get_or shares w d).said inside)

module _ (run : RunFacts) (traces : List (List Item)) (gone : LetGo) (all : List (Vec Verdict)) where
  -- what the next packet's worker said stands at its place
  pub said_is : (placed : PlacedFacts) (w : ℕ) (is : IsNext run traces gone all placed w) (said : Vec Verdict) → said ≡ get_or all w said
      → is.said ≡ said
  said_is placed w is said at = some-injective is.said said
      (sym is.here ∙ (at_or all w said (within all w is.said is.here) ∙ ap some (sym at)))

  pub told_next : (placed : PlacedFacts) (w : ℕ) (is : IsNext run traces gone all placed w) (said : Vec Verdict) (x : Verdict)
      → said ≡ get_or all w said → x ≡ get_or said.items (slice_index placed.next w) x
      → get_elem? is.said.items (slice_index placed.next w) ≡ some x
  told_next placed w is said x at told =
      let n = slice_index placed.next w in
      let same = said_is placed w is said at in
      let inside = within said.items n _ (subst (λ s. get_elem? s.items n ≡ some (verdict_in is.item)) same is.verdict) in
      ap (λ s. get_elem? s.items n) same ∙ (at_or said.items n x inside ∙ ap some (sym told))

  pub placed_more : (placed new : PlacedFacts) (w : ℕ) (x : Verdict) → ArePlacedBefore run traces gone placed
      → (is : IsNext run traces gone all placed w) → get_elem? is.said.items (slice_index placed.next w) ≡ some x
      → new.verdicts ≡ placed.verdicts ++ x ∷ []
      → new.next ≡ set placed.next w (slice_index placed.next w + 1) → ArePlacedBefore run traces gone new
  placed_more placed new w x before is said verdicts next = record {
    room = ap length next ∙ (length-set placed.next w (n + 1) ∙ before.room);
    left = λ v trace traced views these. elim (eqb_tells w v) [
      | inl (test, same) ↦
          let old : drop m (numbers_of trace) ≡ at ∷ numbers_from run.deal v (at + 1) (drop (at + 1) views) =
          ap (λ k. drop (length (gone k) + slice_index placed.next k) (numbers_of trace)) same
          ∙ (before.left v trace traced views these ∙ (is.behind v views these
          ∙ ap (λ b. cond b (at ∷ numbers_from run.deal v (at + 1) (drop (at + 1) views))
          (numbers_from run.deal v (at + 1) (drop (at + 1) views))) test)) in
          ap (λ k. drop k (numbers_of trace)) (ap (λ u. length (gone u) + slice_index new.next u) (sym same) ∙ one_more)
          ∙ (left_behind _ _ m at old ∙ sym (ap (λ k. numbers_from run.deal v k (drop k views)) longer))
      | inr (test, other) ↦ ap (λ k. drop (length (gone v) + k) (numbers_of trace)) (the_same v other)
          ∙ (before.left v trace traced views these ∙ (is.behind v views these
          ∙ (ap (λ b. cond b (at ∷ numbers_from run.deal v (at + 1) (drop (at + 1) views))
          (numbers_from run.deal v (at + 1) (drop (at + 1) views))) test
          ∙ sym (ap (λ k. numbers_from run.deal v k (drop k views)) longer))))
    ];
    each = λ v trace traced k i stands below. elim (eqb_tells w v) [
      | inl (test, same) ↦ elim (eqb_tells k m) [
        | inl (first, last) ↦
            let one : trace ≡ is.trace =
            some-injective trace is.trace (sym traced ∙ (ap (get_elem? traces) (sym same) ∙ is.traced)) in
            let this : i ≡ is.item =
            some-injective i is.item
            (sym stands ∙ (ap (λ k'. get_elem? trace k') last ∙ (ap (λ t. get_elem? t m) one ∙ is.at))) in
            let right : x ≡ verdict_in i =
            some-injective x (verdict_in i)
            (sym said ∙ (is.verdict ∙ ap (λ (j : Item). some (verdict_in j)) (sym this))) in
            let place : i.packet ≡ at + 0 = let p = ap (λ (j : Item). j.packet) this ∙ is.number in omega arith in
            ap (get_elem? new.verdicts) place ∙ (ap (λ vs. get_elem? vs (at + 0)) verdicts
            ∙ (at_after placed.verdicts (x ∷ []) 0 x refl ∙ ap some right))
        | inr (first, earlier) ↦
            let less : k < m =
            let grown = ap (λ u. length (gone u) + slice_index new.next u) (sym same) ∙ one_more in omega arith in
            kept i (before.each v trace traced k i stands
            (subst (λ u. k < length (gone u) + slice_index placed.next u) same less))
      ]
      | inr (test, other) ↦
          kept i (before.each v trace traced k i stands (subst (λ j. k < length (gone v) + j) (the_same v other) below))
    ];
  }
    where
      at : ℕ
      at = length placed.verdicts

      n : ℕ
      n = slice_index placed.next w

      m : ℕ
      m = length (gone w) + n

      one_more : length (gone w) + slice_index new.next w ≡ m + 1
      one_more =
          let one = ap (λ ns. slice_index ns w) next
          ∙ get_or-set_same placed.next w (n + 1) 0 (let few = is.few in let room = before.room in omega arith) in
          omega arith

      the_same : (v : ℕ) → w ≢ v → slice_index new.next v ≡ slice_index placed.next v
      the_same v other = ap (λ ns. slice_index ns v) next
          ∙ get_or-set_other placed.next w v (n + 1) 0 (λ same. other (sym same))

      longer : length new.verdicts ≡ at + 1
      longer = ap length verdicts ∙ (let e = length-append placed.verdicts (x ∷ []) in omega arith)

      kept : (i : Item) → get_elem? placed.verdicts i.packet ≡ some (verdict_in i)
          → get_elem? new.verdicts i.packet ≡ some (verdict_in i)
      kept i old = ap (λ vs. get_elem? vs i.packet) verdicts
          ∙ at_front placed.verdicts (x ∷ []) i.packet (verdict_in i) old

-- what stands behind the first of two lists
behind_front : {X : Type 0} (xs ys : List X) (k : ℕ) → get_elem? (xs ++ ys) (length xs + k) ≡ get_elem? ys k
behind_front [] ys k = ap (get_elem? ys) (let e : 0 + k ≡ k = omega arith in e)
behind_front (x ∷ xs) ys k =
    ap (get_elem? (x ∷ xs ++ ys)) (let e : suc (length xs) + k ≡ suc (length xs + k) = omega arith in e) ∙ behind_front xs ys k

same_elements : {X Y : Type 0} (f : ℕ → Option Y) (g : X → Y) (h : X → ℕ) (xs : List X)
    → ((k : ℕ) (x : X) → get_elem? xs k ≡ some x → f (h x) ≡ some (g x))
    → map f (map h xs) ≡ map (λ y. some y) (map g xs)
same_elements f g h [] each = refl
same_elements f g h (x ∷ xs) each =
    ap (λ z. z ∷ map f (map h xs)) (each 0 x refl)
    ∙ ap (λ zs. some (g x) ∷ zs) (same_elements f g h xs (λ k y at. each (suc k) y at))

-- ---- Packets after others

-- the views of packets that follow others
views_split : (policy : PolicyFacts) (packets more : List PacketFacts) (views : List frames.FrameFacts)
    → AreFrames policy (packets ++ more) views
    → (front : List frames.FrameFacts) × (back : List frames.FrameFacts)
    × (views ≡ front ++ back) × AreFrames policy packets front
views_split policy [] more views these = ([], views, refl, tt)
views_split policy (p ∷ ps) more [] these = absurd these
views_split policy (p ∷ ps) more (v ∷ vs) these =
    let s = views_split policy ps more vs these.1 in (v ∷ s.0, s.1, ap (λ xs. v ∷ xs) s.2, (these.0, s.3))

split_cons : (t : Bool) (at : ℕ) (ns front back : List ℕ) → ns ≡ front ++ back
    → cond t (at ∷ ns) ns ≡ cond t (at ∷ front) front ++ back
split_cons true at ns front back is = ap (λ ms. at ∷ ms) is
split_cons false at ns front back is = is

numbers_split : (d : Deal) (w at : ℕ) (front back : List frames.FrameFacts)
    → numbers_from d w at (front ++ back) ≡ numbers_from d w at front ++ numbers_from d w (at + length front) back
numbers_split d w at [] back =
    sym (ap (λ ns. ns ++ numbers_from d w (at + 0) back) (no_numbers d w at)
    ∙ ap (λ n. numbers_from d w n back) (let e : at + 0 ≡ at = omega arith in e))
numbers_split d w at (view ∷ front) back =
    numbers_cons d w at view (front ++ back)
    ∙ (split_cons (worker_of d at (flow_of_frame view) == w) at (numbers_from d w (at + 1) (front ++ back))
    (numbers_from d w (at + 1) front) (numbers_from d w (at + suc (length front)) back)
    (numbers_split d w (at + 1) front back ∙ ap (λ n. numbers_from d w (at + 1) front ++ numbers_from d w n back)
    (let e : at + 1 + length front ≡ at + suc (length front) = omega arith in e))
    ∙ ap (λ ns. ns ++ numbers_from d w (at + suc (length front)) back) (sym (numbers_cons d w at view front)))

module _ (run : RunFacts) (traces : List (List Item)) (gone : LetGo) (all : List (Vec Verdict))
    (are : AreTold run traces gone all) where
  -- ---- The verdict that is placed next

  pub next_is : (placed : PlacedFacts) → ArePlacedBefore run traces gone placed → (w : ℕ) (packet : PacketFacts)
      (view : frames.FrameFacts) → IsAt run (length placed.verdicts) packet view
      → w ≡ worker_of run.deal (length placed.verdicts) (flow_of_frame view) → IsNext run traces gone all placed w
  next_is placed before w packet view is mine = record {
    trace = t.0;
    traced = t.1;
    said = s.0;
    here = s.1;
    few = let few = are.few in let less = few_w in omega arith;
    item = item.0;
    at = item.1;
    verdict = sym (behind_front (gone w) s.0.items n)
        ∙ (ap (λ vs. get_elem? vs m) (are.said w t.0 s.0 t.1 s.1) ∙ after_map verdict_in t.0 m item.0 item.1);
    number = item.2;
    behind = behind;
  }
    where
      at : ℕ
      at = length placed.verdicts

      n : ℕ
      n = slice_index placed.next w

      m : ℕ
      m = length (gone w) + n

      few_w : w < run.deal.workers
      few_w = subst (λ k. k < run.deal.workers) (sym mine) (worker_few run.deal at (flow_of_frame view) are.some_worker)

      t : (trace : List Item) × (get_elem? traces w ≡ some trace)
      t = there traces w (let count = are.traced.count in let less = few_w in omega arith)

      s : (said : Vec Verdict) × (get_elem? all w ≡ some said)
      s = there all w (let count = are.count in let less = few_w in omega arith)

      behind : (v : ℕ) (views : List frames.FrameFacts) → AreFrames run.policy run.packets views
          → numbers_from run.deal v at (drop at views) ≡ numbers_behind run w v at views
      behind v views these = numbers_at run v at packet view is views these (w == v)
          (ap (λ k. k == v) (sym mine))

      vs : (views : List frames.FrameFacts) × AreFrames run.policy run.packets views
      vs = all_views run.policy run.packets

      left : drop m (numbers_of t.0) ≡ at ∷ numbers_from run.deal w (at + 1) (drop (at + 1) vs.0)
      left = before.left w t.0 t.1 vs.0 vs.1 ∙ (behind w vs.0 vs.1
          ∙ ap (λ b. cond b (at ∷ numbers_from run.deal w (at + 1) (drop (at + 1) vs.0))
          (numbers_from run.deal w (at + 1) (drop (at + 1) vs.0))) (eq-eqb w w refl))

      item : (i : Item) × (get_elem? t.0 m ≡ some i) × (i.packet ≡ at)
      item = before_map (λ (i : Item). i.packet) t.0 m at (first_left _ _ m at left)

  -- ---- All verdicts

  pub all_placed : (placed : PlacedFacts) → ArePlacedBefore run traces gone placed
      → length placed.verdicts ≡ length run.packets
      → ArePlaced run.packets traces placed.verdicts
  all_placed placed before count = record {
    count = count;
    each = λ w trace traced k i stands.
        let vs = all_views run.policy run.packets in
        let views = zip_count _ run.packets vs.0 vs.1 in
        let at = length placed.verdicts in
        let none : drop (length (gone w) + slice_index placed.next w) (numbers_of trace) ≡ [] =
        before.left w trace traced vs.0 vs.1
        ∙ (ap (numbers_from run.deal w at) (drop_all at vs.0 (omega arith)) ∙ no_numbers run.deal w at) in
        let many = none_left (numbers_of trace) (length (gone w) + slice_index placed.next w) none in
        let mapped = length-map trace (λ (j : Item). j.packet) in
        let inside = within trace k i stands in before.each w trace traced k i stands (omega arith);
  }

  -- verdicts that are in place are what all workers said and let go
  pub in_place : (shares : LetGo) → ((w : ℕ) (said : Vec Verdict) → get_elem? all w ≡ some said → shares w ≡ gone w ++ said.items)
      → (verdicts : List Verdict) → ArePlaced run.packets traces verdicts → AreInPlace run shares verdicts
  in_place shares is verdicts placed = record {
    count = placed.count;
    each = λ w views few these.
        let t = there traces w (let count = are.traced.count in omega arith) in
        let s = there all w (let count = are.count in omega arith) in
        ap (map (get_elem? verdicts)) (sym ((are.traced.each w t.0 t.1).dealt views these))
        ∙ (same_elements (get_elem? verdicts) verdict_in (λ (i : Item). i.packet) t.0 (placed.each w t.0 t.1)
        ∙ ap (map (λ v. some v)) (sym (is w s.0 s.1 ∙ are.said w t.0 s.0 t.1 s.1)));
  }

-- a worker's packets, those whose verdicts are in place and those behind them
record SplitNumbers (run : RunFacts) (gone : LetGo) (verdicts : List Verdict) (w : ℕ) (trace : List Item)
    (views : List frames.FrameFacts) : Type 0 where
  front : List frames.FrameFacts
  back : List frames.FrameFacts
  count : length front ≡ length verdicts
  behind : back ≡ drop (length verdicts) views
  numbers : numbers_of trace ≡ numbers_from run.deal w 0 front ++ numbers_from run.deal w (length front) back
  each : map (λ n. get_elem? verdicts n) (numbers_from run.deal w 0 front) ≡ map (λ v. some v) (gone w)
  many : length (gone w) + 0 ≡ length (numbers_from run.deal w 0 front)

-- Verdicts that are in place for the first packets of a run are placed, and no other is.
pub in_place_before : (run : RunFacts) (more : List PacketFacts) (traces : List (List Item)) (gone : LetGo)
    (all : List (Vec Verdict)) (verdicts : List Verdict)
    → AreTold (record run { packets = run.packets ++ more }) traces gone all → AreInPlace run gone verdicts
    → ArePlacedBefore (record run { packets = run.packets ++ more }) traces gone (before_batch verdicts)
in_place_before run more traces gone all verdicts are place = record {
  room = refl;
  left = λ w trace traced views these.
      let s = split w trace traced views these in
      ap (λ k. drop (length (gone w) + k) (numbers_of trace)) (no_zeros 16 w)
      ∙ (ap (λ ns. drop (length (gone w) + 0) ns) s.numbers
      ∙ (ap (λ k. drop k (numbers_from run.deal w 0 s.front ++ numbers_from run.deal w (length s.front) s.back)) s.many
      ∙ (drop-append_seam (numbers_from run.deal w 0 s.front) (numbers_from run.deal w (length s.front) s.back)
      ∙ (ap (λ k. numbers_from run.deal w k s.back) s.count
      ∙ ap (numbers_from run.deal w (length verdicts)) s.behind))));
  each = λ w trace traced k i stands below.
      let vs = all_views run.policy (run.packets ++ more) in
      let s = split w trace traced vs.0 vs.1 in
      let zero_next = no_zeros 16 w in
      let said = there (gone w) k (omega arith) in
      let number : get_elem? (numbers_from run.deal w 0 s.front ++ numbers_from run.deal w (length s.front) s.back) k
      ≡ some i.packet = sym (ap (λ ns. get_elem? ns k) s.numbers) ∙ after_map (λ (x : Item). x.packet) trace k i stands in
      let this = there (numbers_from run.deal w 0 s.front) k (let many = s.many in omega arith) in
      let same : this.0 ≡ i.packet = some-injective this.0 i.packet
      (sym (at_front (numbers_from run.deal w 0 s.front) (numbers_from run.deal w (length s.front) s.back) k this.0 this.1) ∙ number) in
      let found : get_elem? verdicts this.0 ≡ some said.0 = some-injective _ _
      (sym (after_map (λ n. get_elem? verdicts n) (numbers_from run.deal w 0 s.front) k this.0 this.1)
      ∙ (ap (λ ns. get_elem? ns k) s.each ∙ after_map (λ v. some v) (gone w) k said.0 said.1)) in
      let share = there all w (let few = within traces w trace traced in let count = are.traced.count in let many = are.count in omega arith) in
      let right : said.0 ≡ verdict_in i = some-injective said.0 (verdict_in i)
      (sym (at_front (gone w) share.0.items k said.0 said.1)
      ∙ (ap (λ vs. get_elem? vs k) (are.said w trace share.0 traced share.1) ∙ after_map verdict_in trace k i stands)) in
      ap (get_elem? verdicts) (sym same) ∙ (found ∙ ap some right);
}
  where
    split : (w : ℕ) (trace : List Item) → get_elem? traces w ≡ some trace → (views : List frames.FrameFacts)
        → AreFrames run.policy (run.packets ++ more) views → SplitNumbers run gone verdicts w trace views
    split w trace traced views these =
        let s = views_split run.policy run.packets more views these in
        let count : length s.0 ≡ length verdicts = sym (zip_count _ run.packets s.0 s.3) ∙ sym place.count in
        let each = place.each w s.0 (let few = within traces w trace traced in let counted = are.traced.count in omega arith) s.3 in
        record {
          front = s.0;
          back = s.1;
          count = count;
          behind = sym (ap (λ n. drop n views) (sym count) ∙ (ap (drop (length s.0)) s.2 ∙ drop-append_seam s.0 s.1));
          numbers = (are.traced.each w trace traced).dealt views these
              ∙ (ap (numbers_from run.deal w 0) s.2 ∙ (numbers_split run.deal w 0 s.0 s.1
              ∙ ap (λ n. numbers_from run.deal w 0 s.0 ++ numbers_from run.deal w n s.1)
              (let e : 0 + length s.0 ≡ length s.0 = omega arith in e)));
          each = each;
          many =
              let long = sym (length-map (numbers_from run.deal w 0 s.0) (λ n. get_elem? verdicts n))
              ∙ (ap length each ∙ length-map (gone w) (λ v. some v)) in omega arith;
        }

-- all verdicts that are in place, after all packets
pub all_in_place : (run : RunFacts) (traces : List (List Item)) (gone : LetGo) (all : List (Vec Verdict)) (verdicts : List Verdict)
    → AreTold run traces gone all → AreInPlace run gone verdicts → ArePlaced run.packets traces verdicts
all_in_place run traces gone all verdicts are place =
    let same = append-nil run.packets in
    all_placed run traces gone all are (before_batch verdicts)
    (subst (λ ps. ArePlacedBefore (record run { packets = ps }) traces gone (before_batch verdicts)) same
    (in_place_before run [] traces gone all verdicts
    (subst (λ ps. AreTold (record run { packets = ps }) traces gone all) (sym same) are) place))
    place.count

pub more_than_one : (n : ℕ) → 0 < n → n ≢ 1 → 1 < n
more_than_one zero some_worker other = absurd (omega arith)
more_than_one (suc zero) some_worker other = absurd (other refl)
more_than_one (suc (suc n)) some_worker other = omega arith

-- the verdicts of several workers are in place, and those of the only one are in order already
pub all_verdicts_placed : (run : RunFacts) (traces : List (List Item)) (gone : LetGo) (all : List (Vec Verdict)) (before : List Verdict)
    (merged : Vec Verdict) → AreTold run traces gone all → (1 < run.deal.workers → AreInPlace run gone (before ++ merged.items))
    → (run.deal.workers ≡ 1 → gone 0 ≡ before) → (verdicts : List Verdict) → AreAllVerdicts merged.items all verdicts
    → ArePlaced run.packets traces (before ++ verdicts)
all_verdicts_placed run traces gone all before merged are place none verdicts is = elim (eqb_tells run.deal.workers 1) [
  | inl (test, alone) ↦
      let t = there traces 0 (let count = are.traced.count in omega arith) in
      let s = there all 0 (let count = are.count in omega arith) in
      subst (λ vs. ArePlaced run.packets traces (before ++ vs))
      (sym (is.one s.0 (all_first all s.0 (are.count ∙ alone) s.1)))
      (subst (λ ts. ArePlaced run.packets ts (before ++ s.0.items))
      (sym (all_first traces t.0 (are.traced.count ∙ alone) t.1))
      (one_placed run t.0 (before ++ s.0.items) alone (are.traced.each 0 t.0 t.1)
      (subst (λ vs. AreSaid t.0 (vs ++ s.0.items)) (none alone) (are.said 0 t.0 s.0 t.1 s.1))))
  | inr (test, other) ↦
      let many = more_than_one run.deal.workers are.some_worker other in
      subst (λ vs. ArePlaced run.packets traces (before ++ vs))
      (sym (is.several (let count = are.count in omega arith)))
      (all_in_place run traces gone all (before ++ merged.items) are (place many))
]

-- the next of packets whose workers are known
pub may_place_next : (run : RunFacts) (traces : List (List Item)) (gone : LetGo) (all : List (Vec Verdict)) (workers : List ℕ)
    (old placed : PlacedFacts) (k w : ℕ) (may : MayPlace run traces gone all workers old)
    → length placed.verdicts ≡ length old.verdicts + k → k < length workers → w ≡ slice_index workers k
    → ArePlacedBefore run traces gone placed → IsNext run traces gone all placed w
may_place_next run traces gone all workers old placed k w may count below this before =
    let at = length old.verdicts + k in
    let inside : at < length run.packets = let i = may.judges.inside in omega arith in
    let packet : PacketFacts = get_or run.packets at (record { interface = 0; moment = 0; micros = 0; frame = [] }) in
    let stands = slice_get-get_or run.packets at (record { interface = 0; moment = 0; micros = 0; frame = [] }) inside in
    let at_own : Interface = record { number = packet.interface; own = (section_of packet.interface run.policy).own } in
    next_is run traces gone all may.told placed before w packet (view_of packet.frame at_own)
    (record {
      stands = ap (slice_get run.packets) count ∙ stands;
      shown = view_shown packet.frame at_own;
      only = view_only packet.frame at_own;
    })
    (this ∙ (may.judges.each k packet (view_of packet.frame at_own) below stands (view_shown packet.frame at_own)
    ∙ ap (λ n. worker_of run.deal n (flow_of_frame (view_of packet.frame at_own))) (sym count)))

-- ---- The workers of a batch's packets

-- what the packets of a run are dealt by
abbrev pub dealer_by : RunFacts → Dealer
dealer_by run = record { dealing = run.deal.dealing; workers = run.deal.workers }

pub batch_judges : {A B K L : Type 0} (ga : Ghosts A K) (gb : Ghosts B L) (run : RunFacts)
    → run.deal.layout ≡ layout_of ga gb → (front more : List PacketFacts) → run.packets ≡ front ++ more → (workers : List ℕ)
    → length workers ≡ length more → AreWorkers ga gb (dealer_by run) (length front) workers more
    → AreJudges run (length front) workers
batch_judges ga gb run layout front more split workers count are = record {
  inside = let n = length-append front more in let m = ap length split in omega arith;
  each = λ k packet view below at shown. are.each k packet below
      (sym (ap (λ ps. slice_get ps k) (drop-append_seam front more))
      ∙ (there_behind (front ++ more) (length front) k ∙ (ap (λ ps. slice_get ps (length front + k)) (sym split) ∙ at)))
      (section_of packet.interface run.policy).own view shown
      ∙ ap (λ l. worker_of (record run.deal { layout = l }) (length front + k) (flow_of_frame view)) (sym layout);
}
