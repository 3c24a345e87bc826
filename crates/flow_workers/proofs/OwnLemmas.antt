-- A worker at its own packets of a chunk.
use Rattle.std.proofs.Common.{◌≡◌, ◌≢◌, ◌∙◌, ◌+◌, ◌<◌, ◌≤◌, Fits, w64, ℕ, List, [], ◌∷◌, Some, ap, arith, drop, get_or, inl, inr, length, map, refl, slice_get, subst, sym}
use Rattle.std.proofs.lemmas.Bool.Decides.{eqb_tells}
use Rattle.std.specs.List.{AllZip}
use Rattle.std.proofs.lemmas.List.{drop_all, drop_more, length-map}
use Rattle.std.proofs.lemmas.Option.{slice_get_within}
use Rattle.packet_view.specs.Captures.{PacketFacts, packet_facts}
use Rattle.packet_view.specs.declared.packet.Packet.{Packet}
use Rattle.packet_view.specs.CheckedCaptures.{remaining}
use Rattle.packet_view.proofs.BurstLemmas.{left_behind}
use Rattle.bihash_words.specs.declared.shape.Shape.{Ghosts}
use Rattle.flow_dealing.proofs.DealtLists.{none_left, stands_at}
use Rattle.flow_dealing.proofs.HandedPackets.{none_picked, none_there, picked_mine, picked_other}
use Rattle.flow_filter.specs.OneThread.{layout_of}
use Rattle.flow_dealing.specs.Dealt.{IsDealtPacket, IsDealtTo, IsFoundOf, picked, place_of}
use Rattle.flow_dealing.specs.declared.plain_sighting.PlainSighting.{PlainSighting}
use Rattle.flow_dealing.specs.declared.dealt_chunk.DealtPacket.{DealtPacket}
use Rattle.flow_dealing.specs.declared.dealt_chunk.DealtPacket.TheVariants.{Other, Plain}
use Rattle.flow_dealing.specs.declared.dealt_chunk.DealtChunk.{DealtChunk}
use Rattle.flow_workers.specs.declared.worker_share.Batch.{Batch}
use Rattle.flow_workers.specs.declared.worker_share.Share.{Share}
use Rattle.flow_workers.specs.Callers.{AreIdle}
use Rattle.flow_workers.specs.inner.Jobs.{HasWorkedOn, IsChunkAt, MayJudgeChunk, MayJudgePacket, MayJudgeSighting, dealer_of}
use Rattle.flow_workers.proofs.DealtLemmas.{chunk_left, chunk_mine, facts_there, worked_none, worked_on, worked_past, worked_to}
use Rattle.flow_workers.proofs.WorkSteps.{taken_inside}

-- The worker has looked at the packets of the chunk before one of its places, and these are its own of the others.
pub record HasLeft {A B R G K L : Type 0} (ga : Ghosts A K) (gb : Ghosts B L) (batch : Batch A B R G K L) (w first : ℕ)
    (chunk : DealtChunk) (left : List DealtPacket) (old new : Share A B K L ga gb) : Type 0 where
  pub place : ℕ
  pub inside : place ≤ length chunk.workers.items
  pub own : AllZip (IsDealtPacket (layout_of ga gb) (map packet_facts chunk.others.items)) left
      (picked w place (drop place chunk.workers.items) (drop (first + place) (remaining batch.packets)))
  pub worked : HasWorkedOn ga gb batch w first (first + place) old new

-- The worker has looked at the packets before this one, which is its own, and these are its own behind it.
pub record IsNext {A B R G K L : Type 0} (ga : Ghosts A K) (gb : Ghosts B L) (batch : Batch A B R G K L) (w first : ℕ)
    (chunk : DealtChunk) (at : ℕ) (packet : PacketFacts) (left : List (ℕ × PacketFacts))
    (old new : Share A B K L ga gb) : Type 0 where
  pub inside : at < length chunk.workers.items
  pub there : slice_get (remaining batch.packets) (first + at) ≡ Some packet
  pub mine : IsDealtTo ga gb (dealer_of batch.setup) (batch.first + (first + at)) packet w
  pub own : left ≡ picked w (at + 1) (drop (at + 1) chunk.workers.items) (drop (first + (at + 1)) (remaining batch.packets))
  pub worked : HasWorkedOn ga gb batch w first (first + at) old new

-- This was dealt of the worker's next packet, and these are its own behind it.
pub record IsNextFound {A B R G K L : Type 0} (ga : Ghosts A K) (gb : Ghosts B L) (batch : Batch A B R G K L) (w first : ℕ)
    (chunk : DealtChunk) (dealt : DealtPacket) (left : List DealtPacket) (old new : Share A B K L ga gb) : Type 0 where
  pub packet : PacketFacts
  pub placed : List (ℕ × PacketFacts)
  pub found : IsFoundOf (layout_of ga gb) (map packet_facts chunk.others.items) packet dealt
  pub zipped : AllZip (IsDealtPacket (layout_of ga gb) (map packet_facts chunk.others.items)) left placed
  pub next : IsNext ga gb batch w first chunk (place_of dealt) packet placed old new

same_front : {X : Type 0} (x y : X) (xs ys : List X) → x ∷ xs ≡ y ∷ ys → x ≡ y
same_front x y xs ys e = cc

-- what stands first behind some others is the element at their number
front_is : {X : Type 0} (xs ys : List X) (k : ℕ) (x d : X) → drop k xs ≡ x ∷ ys → get_or xs k d ≡ x
front_is xs ys k x d here =
    let more = sym (drop_more xs k d (taken_inside xs ys k x here)) ∙ here in cc

module _ {A B R G K L : Type 0} (ga : Ghosts A K) (gb : Ghosts B L) (batch : Batch A B R G K L) (w first : ℕ)
    (chunk : DealtChunk) (is : IsChunkAt ga gb batch first chunk) (old new : Share A B K L ga gb) where
  -- the packets behind a place of the chunk's, where one more is passed
  one_behind : (k : ℕ) (packet : PacketFacts) (ps : List PacketFacts) → drop (first + k) (remaining batch.packets) ≡ packet ∷ ps
      → drop (first + (k + 1)) (remaining batch.packets) ≡ ps
  one_behind k packet ps here =
      ap (λ n. drop n (remaining batch.packets)) (let e : first + (k + 1) ≡ first + k + 1 = omega arith in e)
      ∙ left_behind (remaining batch.packets) ps (first + k) packet here

  -- another's packet is passed by
  past : (k x : ℕ) (ws : List ℕ) (packet : PacketFacts) (ps : List PacketFacts) → drop k chunk.workers.items ≡ x ∷ ws
      → drop (first + k) (remaining batch.packets) ≡ packet ∷ ps → x ≢ w → HasWorkedOn ga gb batch w first (first + k) old new
      → HasWorkedOn ga gb batch w first (first + (k + 1)) old new
  past k x ws packet ps at here other worked =
      worked_to ga gb batch w first (first + k + 1) (first + (k + 1)) old new (omega arith)
      (worked_on ga gb batch w first (first + k) (first + k + 1) old new new worked
      (worked_past ga gb batch w first k chunk packet ps new is (taken_inside chunk.workers.items ws k x at) here
      (λ same. other (sym (front_is chunk.workers.items ws k x 0 at) ∙ same)) worked.idle))

  -- the packet at a place is the worker's
  is_next : (k x : ℕ) (ws : List ℕ) (packet : PacketFacts) (ps : List PacketFacts) → drop k chunk.workers.items ≡ x ∷ ws
      → drop (first + k) (remaining batch.packets) ≡ packet ∷ ps → x ≡ w → HasWorkedOn ga gb batch w first (first + k) old new
      → IsNext ga gb batch w first chunk k packet (picked w (k + 1) ws ps) old new
  is_next k x ws packet ps at here mine worked =
      let inside = taken_inside chunk.workers.items ws k x at in
      record {
        inside = inside;
        there = stands_at (remaining batch.packets) ps (first + k) packet here;
        mine = subst (IsDealtTo ga gb (dealer_of batch.setup) (batch.first + (first + k)) packet)
            (front_is chunk.workers.items ws k x 0 at ∙ mine) (chunk_mine ga gb batch first k chunk packet ps is inside here);
        own = ap (λ qs. picked w (k + 1) ws qs) (sym (one_behind k packet ps here))
            ∙ ap (λ vs. picked w (k + 1) vs (drop (first + (k + 1)) (remaining batch.packets)))
            (sym (left_behind chunk.workers.items ws k x at));
        worked = worked;
      }

  -- the first one of those that are left is the worker's next packet
  found : (ws : List ℕ) (ps : List PacketFacts) (k at : ℕ) (packet : PacketFacts) (left : List (ℕ × PacketFacts))
      → drop k chunk.workers.items ≡ ws → drop (first + k) (remaining batch.packets) ≡ ps
      → (at, packet) ∷ left ≡ picked w k ws ps → HasWorkedOn ga gb batch w first (first + k) old new
      → IsNext ga gb batch w first chunk at packet left old new
  found [] ps k at packet left behind here own worked =
      absurd (let e = own ∙ none_picked w k ps in let f : ⊥ = cc in f)
  found (x ∷ ws) [] k at packet left behind here own worked =
      absurd (let e = own ∙ none_there w k (x ∷ ws) in let f : ⊥ = cc in f)
  found (x ∷ ws) (p ∷ ps) k at packet left behind here own worked = elim (eqb_tells x w) [
    | inl (test, same) ↦
        let e : (at, packet) ∷ left ≡ (k, p) ∷ picked w (k + 1) ws ps = own ∙ picked_mine w k x ws p ps same in
        let front = same_front (k, p) (at, packet) _ _ (sym e) in
        subst (λ n. IsNext ga gb batch w first chunk n packet left old new) (ap (λ (f : ℕ × PacketFacts). f.0) front)
        (subst (λ q. IsNext ga gb batch w first chunk k q left old new) (ap (λ (f : ℕ × PacketFacts). f.1) front)
        (subst (λ ls. IsNext ga gb batch w first chunk k p ls old new) (let f : picked w (k + 1) ws ps ≡ left = cc in f)
        (is_next k x ws p ps behind here same worked)))
    | inr (test, differ) ↦
        found ws ps (k + 1) at packet left (left_behind chunk.workers.items ws k x behind) (one_behind k p ps here)
        (own ∙ picked_other w k x ws p ps differ) (past k x ws p ps behind here differ worked)
  ]

  -- where none is left, the others are passed by
  passed : (ws : List ℕ) (ps : List PacketFacts) (k : ℕ) → k ≤ length chunk.workers.items
      → drop k chunk.workers.items ≡ ws → drop (first + k) (remaining batch.packets) ≡ ps
      → [] ≡ picked w k ws ps → HasWorkedOn ga gb batch w first (first + k) old new
      → HasWorkedOn ga gb batch w first (first + length chunk.workers.items) old new
  passed [] ps k inside behind here own worked =
      worked_to ga gb batch w first (first + k) (first + length chunk.workers.items) old new
      (let all = none_left chunk.workers.items k behind in omega arith) worked
  passed (x ∷ ws) [] k inside behind here own worked =
      absurd (chunk_left ga gb batch first k chunk is (taken_inside chunk.workers.items ws k x behind) here)
  passed (x ∷ ws) (p ∷ ps) k inside behind here own worked = elim (eqb_tells x w) [
    | inl (test, same) ↦ absurd (let e = own ∙ picked_mine w k x ws p ps same in let f : ⊥ = cc in f)
    | inr (test, differ) ↦
        passed ws ps (k + 1) (let more = taken_inside chunk.workers.items ws k x behind in omega arith)
        (left_behind chunk.workers.items ws k x behind) (one_behind k p ps here)
        (own ∙ picked_other w k x ws p ps differ) (past k x ws p ps behind here differ worked)
  ]

  -- the packet that the worker judges next, and what was found of it
  next_own : (own : List DealtPacket) (i : ℕ) (d : DealtPacket) → i < length own
      → HasLeft ga gb batch w first chunk (drop i own) old new
      → IsNextFound ga gb batch w first chunk (get_or own i d) (drop (i + 1) own) old new
  next_own own i d inside has =
      one_found (picked w has.place (drop has.place chunk.workers.items) (drop (first + has.place) (remaining batch.packets)))
      refl (subst (λ ds. AllZip (IsDealtPacket (layout_of ga gb) (map packet_facts chunk.others.items)) ds
      (picked w has.place (drop has.place chunk.workers.items) (drop (first + has.place) (remaining batch.packets))))
      (drop_more own i d inside) has.own)
    where
      one_found : (placed : List (ℕ × PacketFacts))
          → placed ≡ picked w has.place (drop has.place chunk.workers.items) (drop (first + has.place) (remaining batch.packets))
          → AllZip (IsDealtPacket (layout_of ga gb) (map packet_facts chunk.others.items)) (get_or own i d ∷ drop (i + 1) own) placed
          → IsNextFound ga gb batch w first chunk (get_or own i d) (drop (i + 1) own) old new
      one_found [] are zipped = absurd zipped
      one_found ((at, packet) ∷ placed) are zipped = record {
        packet = packet;
        placed = placed;
        found = zipped.0.found;
        zipped = zipped.1;
        next = subst (λ n. IsNext ga gb batch w first chunk n packet placed old new) (sym zipped.0.at)
            (found (drop has.place chunk.workers.items) (drop (first + has.place) (remaining batch.packets)) has.place at packet
            placed refl refl are has.worked);
      }

  -- the worker judged its own packets, all of them
  pub own_over : (own : List DealtPacket) (i : ℕ) → length own ≤ i → HasLeft ga gb batch w first chunk (drop i own) old new
      → HasWorkedOn ga gb batch w first (first + length chunk.workers.items) old new
  own_over own i past has =
      passed (drop has.place chunk.workers.items) (drop (first + has.place) (remaining batch.packets)) has.place has.inside refl
      refl (none_zipped (picked w has.place (drop has.place chunk.workers.items) (drop (first + has.place) (remaining batch.packets)))
      (subst (λ ds. AllZip (IsDealtPacket (layout_of ga gb) (map packet_facts chunk.others.items)) ds
      (picked w has.place (drop has.place chunk.workers.items) (drop (first + has.place) (remaining batch.packets))))
      (drop_all i own past) has.own)) has.worked
    where
      none_zipped : (placed : List (ℕ × PacketFacts))
          → AllZip (IsDealtPacket (layout_of ga gb) (map packet_facts chunk.others.items)) [] placed → [] ≡ placed
      none_zipped [] zipped = refl
      none_zipped (p ∷ placed) zipped = absurd zipped

module _ {A B R G K L : Type 0} (ga : Ghosts A K) (gb : Ghosts B L) (batch : Batch A B R G K L) (w first : ℕ)
    (chunk : DealtChunk) where
  -- all of the worker's own packets are left
  pub all_left : (own : List DealtPacket) (share : Share A B K L ga gb)
      → AllZip (IsDealtPacket (layout_of ga gb) (map packet_facts chunk.others.items)) own
      (picked w 0 chunk.workers.items (drop first (remaining batch.packets)))
      → AreIdle ga gb batch.setup.tables.now share.callers → HasLeft ga gb batch w first chunk own share share
  all_left own share are idle = record {
    place = 0;
    inside = omega arith;
    own = subst (λ n. AllZip (IsDealtPacket (layout_of ga gb) (map packet_facts chunk.others.items)) own
        (picked w 0 chunk.workers.items (drop n (remaining batch.packets)))) start are;
    worked = worked_to ga gb batch w first first (first + 0) share share start (worked_none ga gb batch w first share idle);
  }
    where
      start : first ≡ first + 0
      start = omega arith

  -- the next one was judged
  left_next : (dealt : DealtPacket) (left : List DealtPacket) (old between new : Share A B K L ga gb)
      → IsNextFound ga gb batch w first chunk dealt left old between
      → HasWorkedOn ga gb batch w (first + place_of dealt) (first + place_of dealt + 1) between new
      → HasLeft ga gb batch w first chunk left old new
  left_next dealt left old between new is judged = record {
    place = place_of dealt + 1;
    inside = let inside = is.next.inside in omega arith;
    own = subst (AllZip (IsDealtPacket (layout_of ga gb) (map packet_facts chunk.others.items)) left) is.next.own is.zipped;
    worked = worked_to ga gb batch w first (first + place_of dealt + 1) (first + (place_of dealt + 1)) old new (omega arith)
        (worked_on ga gb batch w first (first + place_of dealt) (first + place_of dealt + 1) old between new is.next.worked judged);
  }

-- The worker at the next packet of its own of a chunk, where it may judge its own of that.
module _ {A B R G K L : Type 0} (ga : Ghosts A K) (gb : Ghosts B L) (batch : Batch A B R G K L) (w first : ℕ)
    (chunk : DealtChunk) (old between : Share A B K L ga gb) (may : MayJudgeChunk ga gb batch w first chunk old)
    (own : List DealtPacket) (i : ℕ) (d : DealtPacket) (inside : i < length own)
    (has : HasLeft ga gb batch w first chunk (drop i own) old between) where
  next : IsNextFound ga gb batch w first chunk (get_or own i d) (drop (i + 1) own) old between
  next = next_own ga gb batch w first chunk may.of old between own i d inside has

  may_next : (at : ℕ) → place_of (get_or own i d) ≡ at → MayJudgePacket ga gb batch w (first + at) next.packet between
  may_next at is = subst (λ n. MayJudgePacket ga gb batch w (first + n) next.packet between) is (record {
    shapes = may.shapes;
    few = may.few;
    idle = next.next.worked.idle;
    fits = may.fits;
    there = next.next.there;
    mine = next.next.mine;
  })

  -- it stands within the batch
  pub next_fits : (at : ℕ) → place_of (get_or own i d) ≡ at → Fits w64 (first + at)
  next_fits at is =
      let fits = may.fits in
      let within = slice_get_within (remaining batch.packets) (first + at) next.packet (may_next at is).there in omega arith

  -- its plain frame was seen
  pub may_plain : (at : ℕ) (seen : PlainSighting) → get_or own i d ≡ Plain at seen
      → MayJudgeSighting ga gb batch w (first + at) seen between
  may_plain at seen is = record {
    packet = next.packet;
    is = subst (IsFoundOf (layout_of ga gb) (map packet_facts chunk.others.items) next.packet) is next.found;
    may = may_next at (ap place_of is);
  }

  -- it stands among the chunk's others
  other_there : (at place : ℕ) (others : List Packet) → others ≡ chunk.others.items → get_or own i d ≡ Other at place
      → slice_get (map packet_facts others) place ≡ Some next.packet
  other_there at place others same is =
      subst (λ os. slice_get (map packet_facts os) place ≡ Some next.packet) (sym same)
      (subst (IsFoundOf (layout_of ga gb) (map packet_facts chunk.others.items) next.packet) is next.found)

  pub other_inside : (at place : ℕ) (others : List Packet) → others ≡ chunk.others.items → get_or own i d ≡ Other at place
      → place < length others
  other_inside at place others same is =
      let within =
      slice_get_within (map packet_facts others) place next.packet (other_there at place others same is) in
      let count = length-map others packet_facts in omega arith

  pub may_other : (at place : ℕ) (others : List Packet) (e : Packet) → others ≡ chunk.others.items
      → get_or own i d ≡ Other at place
      → MayJudgePacket ga gb batch w (first + at) (packet_facts (get_or others place e)) between
  may_other at place others e same is =
      subst (λ p. MayJudgePacket ga gb batch w (first + at) p between)
      (sym (facts_there others place e next.packet (other_there at place others same is)))
      (may_next at (ap place_of is))

  -- it was judged, when sessions were removed before it
  pub next_judged : (at : ℕ) (aged new : Share A B K L ga gb) → place_of (get_or own i d) ≡ at
      → HasWorkedOn ga gb batch w (first + at) (first + at) between aged
      → HasWorkedOn ga gb batch w (first + at) (first + at + 1) aged new
      → HasLeft ga gb batch w first chunk (drop (i + 1) own) old new
  next_judged at aged new is before judged =
      left_next ga gb batch w first chunk (get_or own i d) (drop (i + 1) own) old between new next
      (subst (λ n. HasWorkedOn ga gb batch w (first + n) (first + n + 1) between new) (sym is)
      (worked_on ga gb batch w (first + at) (first + at) (first + at + 1) between aged new before judged))
