-- Packets in the lists of their workers.
use Rattle.std.specs.Global.{Vec}
use Rattle.std.specs.List.{AllZip}
use Rattle.std.proofs.Common.{◌≡◌, ◌≢◌, ◌∙◌, ◌+◌, ◌<◌, ℕ, suc, List, [], ◌∷◌, ◌++◌, Some, All, ap, arith, get_or, inl, inr, length, map, refl, slice_get, subst, sym, eq-eqb}
use Rattle.std.specs.Prelude.{◌==◌, if◌then◌else◌}
use Rattle.std.proofs.lemmas.Bool.{ne_eqb}
use Rattle.std.proofs.lemmas.Bool.Decides.{eqb_tells}
use Rattle.std.proofs.ResultArms.{subst_both}
use Rattle.std.proofs.lemmas.List.{length-map, map_push}
use Rattle.std.proofs.lemmas.Option.{slice_get_within}
use Rattle.std.proofs.lemmas.Slice.Zip.{all_zipped_more}
use Rattle.packet_view.specs.Captures.{PacketFacts, packet_facts}
use Rattle.packet_view.specs.declared.packet.Packet.{Packet}
use Rattle.bihash_words.specs.declared.shape.Shape.{Ghosts}
use Rattle.flow_dealing.proofs.DealtLists.{front_only, workers_push}
use Rattle.flow_filter.specs.OneThread.{Layout, layout_of}
use Rattle.flow_dealing.specs.Dealt.{AreWorkers, HaveOwn, IsDealtChunk, IsDealtPacket, IsDealtTo, IsFoundOf, IsSightingOf, picked}
use Rattle.flow_dealing.specs.declared.plain_sighting.PlainSighting.{PlainSighting}
use Rattle.flow_dealing.specs.declared.dealt_chunk.DealtPacket.TheVariants.{Plain, Other}
use Rattle.flow_dealing.specs.declared.dealer.Dealer.{Dealer}
use Rattle.flow_dealing.specs.declared.dealt_chunk.DealtPacket.{DealtPacket}
use Rattle.flow_dealing.specs.declared.dealt_chunk.DealtChunk.{DealtChunk}
use Rattle.flow_dealing.specs.inner.OwnPackets.{HasHanded, HasHandedFound, IsEmptyChunk}

pub none_picked : (worker at : ℕ) (packets : List PacketFacts) → picked worker at [] packets ≡ []
unfolding picked
none_picked worker at packets = refl

pub none_there : (worker at : ℕ) (workers : List ℕ) → picked worker at workers [] ≡ []
unfolding picked
none_there worker at [] = refl
none_there worker at (w ∷ ws) = refl

picked_at : (worker at w : ℕ) (ws : List ℕ) (packet : PacketFacts) (packets : List PacketFacts)
    → picked worker at (w ∷ ws) (packet ∷ packets)
    ≡ (if w == worker then (at, packet) ∷ picked worker (at + 1) ws packets else picked worker (at + 1) ws packets)
unfolding picked
picked_at worker at w ws packet packets = refl

-- the first packet is the worker's
pub picked_mine : (worker at w : ℕ) (ws : List ℕ) (packet : PacketFacts) (packets : List PacketFacts) → w ≡ worker
    → picked worker at (w ∷ ws) (packet ∷ packets) ≡ (at, packet) ∷ picked worker (at + 1) ws packets
picked_mine worker at w ws packet packets mine = picked_at worker at w ws packet packets
    ∙ ap (λ t. if t then (at, packet) ∷ picked worker (at + 1) ws packets else picked worker (at + 1) ws packets)
    (eq-eqb w worker mine)

-- the first packet is another's
pub picked_other : (worker at w : ℕ) (ws : List ℕ) (packet : PacketFacts) (packets : List PacketFacts) → w ≢ worker
    → picked worker at (w ∷ ws) (packet ∷ packets) ≡ picked worker (at + 1) ws packets
picked_other worker at w ws packet packets other = picked_at worker at w ws packet packets
    ∙ ap (λ t. if t then (at, packet) ∷ picked worker (at + 1) ws packets else picked worker (at + 1) ws packets)
    (ne_eqb w worker other)

-- one packet more at the end, which is the worker's
mine_push : (worker at w : ℕ) (ws : List ℕ) (packet : PacketFacts) (packets : List PacketFacts)
    → slice_get packets (length ws) ≡ Some packet → w ≡ worker
    → picked worker at (ws ++ w ∷ []) packets ≡ picked worker at ws packets ++ (at + length ws, packet) ∷ []
mine_push worker at w [] packet [] there mine = absurd (let f : ⊥ = cc in f)
mine_push worker at w [] packet (p ∷ ps) there mine =
    picked_mine worker at w [] p ps mine
    ∙ (ap (λ xs. (at, p) ∷ xs) (none_picked worker (at + 1) ps)
    ∙ (ap (λ q. (at, q) ∷ []) (let e : p ≡ packet = cc in e)
    ∙ (ap (λ n. (n, packet) ∷ []) (let e : at ≡ at + 0 = omega arith in e)
    ∙ ap (λ xs. xs ++ (at + 0, packet) ∷ []) (sym (none_picked worker at (p ∷ ps))))))
mine_push worker at w (x ∷ xs) packet [] there mine = absurd (let f : ⊥ = cc in f)
mine_push worker at w (x ∷ xs) packet (p ∷ ps) there mine = go (mine_push worker (at + 1) w xs packet ps there mine)
  where
    go : picked worker (at + 1) (xs ++ w ∷ []) ps ≡ picked worker (at + 1) xs ps ++ (at + 1 + length xs, packet) ∷ []
        → picked worker at (x ∷ xs ++ w ∷ []) (p ∷ ps)
        ≡ picked worker at (x ∷ xs) (p ∷ ps) ++ (at + suc (length xs), packet) ∷ []
    go before =
        let behind = before ∙ ap (λ n. picked worker (at + 1) xs ps ++ (n, packet) ∷ [])
        (let e : at + 1 + length xs ≡ at + suc (length xs) = omega arith in e) in
        elim (eqb_tells x worker) [
          | inl (test, same) ↦
              picked_mine worker at x (xs ++ w ∷ []) p ps same
              ∙ (ap (λ ys. (at, p) ∷ ys) behind
              ∙ ap (λ ys. ys ++ (at + suc (length xs), packet) ∷ []) (sym (picked_mine worker at x xs p ps same)))
          | inr (test, differ) ↦
              picked_other worker at x (xs ++ w ∷ []) p ps differ
              ∙ (behind
              ∙ ap (λ ys. ys ++ (at + suc (length xs), packet) ∷ []) (sym (picked_other worker at x xs p ps differ)))
        ]

-- one more, which is another's
other_push : (worker at w : ℕ) (ws : List ℕ) (packet : PacketFacts) (packets : List PacketFacts)
    → slice_get packets (length ws) ≡ Some packet → w ≢ worker
    → picked worker at (ws ++ w ∷ []) packets ≡ picked worker at ws packets
other_push worker at w [] packet [] there other = absurd (let f : ⊥ = cc in f)
other_push worker at w [] packet (p ∷ ps) there other =
    picked_other worker at w [] p ps other
    ∙ (none_picked worker (at + 1) ps ∙ sym (none_picked worker at (p ∷ ps)))
other_push worker at w (x ∷ xs) packet [] there other = absurd (let f : ⊥ = cc in f)
other_push worker at w (x ∷ xs) packet (p ∷ ps) there other = elim (eqb_tells x worker) [
  | inl (test, same) ↦
      picked_mine worker at x (xs ++ w ∷ []) p ps same
      ∙ (ap (λ ys. (at, p) ∷ ys) (other_push worker (at + 1) w xs packet ps there other)
      ∙ sym (picked_mine worker at x xs p ps same))
  | inr (test, differ) ↦
      picked_other worker at x (xs ++ w ∷ []) p ps differ
      ∙ (other_push worker (at + 1) w xs packet ps there other ∙ sym (picked_other worker at x xs p ps differ))
]

-- ---- Chunks

get_last : {X : Type 0} (xs : List X) (x : X) → slice_get (xs ++ x ∷ []) (length xs) ≡ Some x
get_last [] x = refl
get_last (y ∷ xs) x = get_last xs x

-- each stays where it was, and one more stands behind them
there_push : (l : Layout) (olds news : List PacketFacts)
    → ((i : ℕ) (other : PacketFacts) → slice_get olds i ≡ Some other → slice_get news i ≡ Some other)
    → (packet : PacketFacts) (found : DealtPacket) → IsFoundOf l olds packet found → IsFoundOf l news packet found
there_push l olds news stay packet (Plain at seen) is = is
there_push l olds news stay packet (Other at place) is = stay place packet is

still_dealt : (l : Layout) (olds news : List PacketFacts)
    → ((i : ℕ) (other : PacketFacts) → slice_get olds i ≡ Some other → slice_get news i ≡ Some other)
    → (own : List DealtPacket) (placed : List (ℕ × PacketFacts)) → AllZip (IsDealtPacket l olds) own placed
    → AllZip (IsDealtPacket l news) own placed
still_dealt l olds news stay [] [] are = tt
still_dealt l olds news stay [] (p ∷ ps) are = absurd are
still_dealt l olds news stay (d ∷ ds) [] are = absurd are
still_dealt l olds news stay (d ∷ ds) (p ∷ ps) are =
    (record { at = are.0.at; found = there_push l olds news stay p.1 d are.0.found }, still_dealt l olds news stay ds ps are.1)

-- the packet that was found is handed on as that
pub handed_plain : (l : Layout) (old new : DealtChunk) (worker at : ℕ) (packet : PacketFacts) (seen : PlainSighting)
    → at ≡ length old.workers.items → IsSightingOf l packet seen → HasHandedFound old worker (Plain at seen) new
    → HasHanded l old worker packet new
handed_plain l old new worker at packet seen last is did = record {
  dealt = Plain at seen;
  is = record { at = last; found = is };
  noted = did.noted;
  count = did.count;
  here = did.here;
  apart = did.apart;
  others = λ i other there. ap (λ (list : Vec Packet). slice_get (map packet_facts list.items) i) did.others ∙ there;
}

-- so is one that stands last among the others now
pub handed_other : (l : Layout) (old mid new : DealtChunk) (worker at place : ℕ) (packet : Packet)
    → at ≡ length old.workers.items → place ≡ length old.others.items
    → mid.workers ≡ old.workers → mid.own ≡ old.own → mid.others.items ≡ old.others.items ++ packet ∷ []
    → HasHandedFound mid worker (Other at place) new → HasHanded l old worker (packet_facts packet) new
handed_other l old mid new worker at place packet last last_other workers own more did = record {
  dealt = Other at place;
  is = record { at = last; found = stands_last };
  noted = did.noted ∙ ap (λ (list : Vec ℕ). list.items ++ worker ∷ []) workers;
  count = did.count ∙ ap (λ (list : Vec (Vec DealtPacket)). length list.items) own;
  here = λ d e. did.here d e
      ∙ ap (λ (lists : Vec (Vec DealtPacket)). (get_or lists.items worker e).items ++ Other at place ∷ []) own;
  apart = λ w d differ. did.apart w d differ ∙ ap (λ (lists : Vec (Vec DealtPacket)). get_or lists.items w d) own;
  others = λ i other there. ap (λ list. slice_get list i) listed
      ∙ (front_only (map packet_facts old.others.items) (packet_facts packet ∷ []) i
      (slice_get_within (map packet_facts old.others.items) i other there) ∙ there);
}
  where
    listed : map packet_facts new.others.items ≡ map packet_facts old.others.items ++ packet_facts packet ∷ []
    listed = ap (λ (list : Vec Packet). map packet_facts list.items) did.others
        ∙ (ap (map packet_facts) more ∙ map_push packet_facts old.others.items packet)

    stands_last : slice_get (map packet_facts new.others.items) place ≡ Some (packet_facts packet)
    stands_last = ap (λ list. slice_get list place) listed
        ∙ (ap (slice_get (map packet_facts old.others.items ++ packet_facts packet ∷ []))
        (last_other ∙ sym (length-map old.others.items packet_facts))
        ∙ get_last (map packet_facts old.others.items) (packet_facts packet))

-- no packet was handed out
none_own : (l : Layout) (count : ℕ) (chunk : DealtChunk) (packets : List PacketFacts) → IsEmptyChunk count chunk
    → HaveOwn l count chunk packets
none_own l count chunk packets empty = record {
  lists = empty.count;
  each = λ w d inside.
      subst_both (AllZip (IsDealtPacket l (map packet_facts chunk.others.items)))
      (sym (all_at (λ (list : Vec DealtPacket). list.items ≡ []) chunk.own.items empty.each w d
      (subst (λ n. w < n) (sym empty.count) inside)))
      (sym (ap (λ ws. picked w 0 ws packets) empty.none ∙ none_picked w 0 packets)) tt;
}
  where
    all_at : {X : Type 0} (P : X → Type 0) (xs : List X) → All P xs → (i : ℕ) (d : X) → i < length xs → P (get_or xs i d)
    all_at P xs all i d inside = all i d inside

-- the next packet was handed to its worker
own_push : (l : Layout) (count : ℕ) (old new : DealtChunk) (worker : ℕ) (packet : PacketFacts) (packets : List PacketFacts)
    → worker < count → HaveOwn l count old packets
    → slice_get packets (length old.workers.items) ≡ Some packet → HasHanded l old worker packet new
    → HaveOwn l count new packets
own_push l count old new worker packet packets one own there did = record {
  lists = did.count ∙ own.lists;
  each = λ w d inside. elim (eqb_tells w worker) [
    | inl (test, same) ↦
        subst_both (AllZip (IsDealtPacket l others))
        (sym (ap (λ n. (get_or new.own.items n d).items) same ∙ (did.here d d
        ∙ ap (λ n. (get_or old.own.items n d).items ++ did.dealt ∷ []) (sym same))))
        (sym (ap (λ ws. picked w 0 ws packets) did.noted
        ∙ (mine_push w 0 worker old.workers.items packet packets there (sym same)
        ∙ ap (λ n. picked w 0 old.workers.items packets ++ (n, packet) ∷ [])
        (let e : 0 + length old.workers.items ≡ length old.workers.items = omega arith in e))))
        (all_zipped_more (IsDealtPacket l others) (get_or old.own.items w d).items (picked w 0 old.workers.items packets) did.dealt
        (length old.workers.items, packet) (before w d inside) did.is)
    | inr (test, differ) ↦
        subst_both (AllZip (IsDealtPacket l others))
        (sym (ap (λ (list : Vec DealtPacket). list.items) (did.apart w d differ)))
        (sym (ap (λ ws. picked w 0 ws packets) did.noted
        ∙ other_push w 0 worker old.workers.items packet packets there (λ same. differ (sym same))))
        (before w d inside)
  ];
}
  where
    others : List PacketFacts
    others = map packet_facts new.others.items

    before : (w : ℕ) (d : Vec DealtPacket) → w < count
        → AllZip (IsDealtPacket l others) (get_or old.own.items w d).items (picked w 0 old.workers.items packets)
    before w d inside = still_dealt l (map packet_facts old.others.items) others did.others _ _ (own.each w d inside)

module _ {A B K L : Type 0} (ga : Ghosts A K) (gb : Ghosts B L) (dealer : Dealer) (first : ℕ)
    (packets : List PacketFacts) where
  pub none_dealt : (chunk : DealtChunk) → IsEmptyChunk dealer.workers chunk → IsDealtChunk ga gb dealer first chunk packets
  none_dealt chunk empty = record {
    workers = record {
      inside = let none = ap length empty.none in omega arith;
      each = λ k packet below there. absurd (let none = ap length empty.none in omega arith);
    };
    own = none_own (layout_of ga gb) dealer.workers chunk packets empty;
  }

  pub dealt_push : (old new : DealtChunk) (worker : ℕ) (packet : PacketFacts) → worker < dealer.workers
      → IsDealtChunk ga gb dealer first old packets
      → slice_get packets (length old.workers.items) ≡ Some packet
      → IsDealtTo ga gb dealer (first + length old.workers.items) packet worker
      → HasHanded (layout_of ga gb) old worker packet new → IsDealtChunk ga gb dealer first new packets
  dealt_push old new worker packet one before there dealt did = record {
    workers = subst (λ ws. AreWorkers ga gb dealer first ws packets) (sym did.noted)
        (workers_push ga gb dealer first packets old.workers.items worker packet before.workers there dealt);
    own = own_push (layout_of ga gb) dealer.workers old new worker packet packets one before.own there did;
  }
