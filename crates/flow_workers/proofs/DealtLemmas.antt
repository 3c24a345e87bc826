-- A worker at packets that were dealt.
use Rattle.std.proofs.Common.{◌≡◌, ◌≢◌, ◌∙◌, ◌+◌, ◌<◌, ◌≤◌, ℕ, zero, suc, List, [], ◌∷◌, ◌++◌, Some, Ok, ap, drop, drop-drop, length, get_or, map, slice_get, subst, sym, arith}
use Rattle.std.specs.Prelude.{slice_index}
use Rattle.std.specs.declared.convert.Infallible.{Infallible}
use Rattle.std.proofs.lemmas.List.{drop_all, drop_more, length-drop}
use Rattle.std.proofs.lemmas.Option.{same_Some, slice_get_within}
use Rattle.packet_view.specs.Captures.{PacketFacts, packet_facts}
use Rattle.packet_view.specs.CheckedCaptures.{remaining}
use Rattle.packet_view.specs.Frames.{FrameFacts, frame_facts}
use Rattle.packet_view.specs.Interfaces.{Interface}
use Rattle.packet_view.specs.declared.packet.Packet.{Packet}
use Rattle.packet_view.specs.inner.FrameSteps.{view_of}
use Rattle.packet_view.proofs.FrameLemmas.{view_only, view_shown}
use Rattle.acl_policy.specs.Policies.{SectionFacts, section_of}
use Rattle.bihash_table.specs.Tries.{TookByTries}
use Rattle.bihash_words.specs.declared.shape.Shape.{Ghosts}
use Rattle.flow_filter.specs.Readings.{IsSeenAt}
use Rattle.flow_filter.specs.InterfaceFilters.{IsReadyAt}
use Rattle.flow_filter.specs.declared.interface_filters.InterfaceFilter.{InterfaceFilter}
use Rattle.session_state.specs.declared.verdict.Verdict.{Verdict}
use Rattle.flow_filter.specs.OneThread.{layout_of}
use Rattle.flow_dealing.specs.HashedFlows.{IsHashed}
use Rattle.flow_dealing.proofs.DealtLists.{front_only, next_there, some_left, stands_at, there_behind}
use Rattle.flow_dealing.specs.Dealt.{AreDealt, IsDealtTo}
use Rattle.flow_dealing.specs.declared.dealt_chunk.DealtChunk.{DealtChunk}
use Rattle.flow_dealing.specs.declared.plain_sighting.PlainSighting.{PlainSighting}
use Rattle.flow_workers.specs.declared.worker_share.Batch.{Batch}
use Rattle.flow_workers.specs.declared.worker_share.Share.{Share}
use Rattle.flow_workers.specs.declared.session_tables.Callers.{Callers}
use Rattle.flow_workers.specs.declared.viewed_packet.ViewedPacket.{ViewedPacket}
use Rattle.flow_workers.specs.Callers.{AreIdle}
use Rattle.flow_workers.specs.Verdicts.{HasVerdict}
use Rattle.flow_workers.specs.inner.Ageing.{MayAge}
use Rattle.flow_workers.specs.inner.Jobs.{AreDealtFrom, HasWorkedOn, IsChunkAt, IsViewedAt, IsWorkerOf, MayJudgePacket, MayJudgeSighting, MayJudgeViewed, StandAmong, dealer_of, policy_of, run_facts}
use Rattle.flow_workers.specs.inner.ViewedPackets.{IsViewed, TellsViewed}
use Rattle.flow_workers.proofs.WorkSteps.{IsAt, one_more, work_passed}

front_there : {X : Type 0} (xs ys : List X) (k : ℕ) (x : X) → slice_get xs k ≡ Some x → slice_get (xs ++ ys) k ≡ Some x
front_there xs ys k x at = front_only xs ys k (slice_get_within xs k x at) ∙ at

-- what a place of a list of packets says
pub facts_there : (packets : List Packet) (k : ℕ) (d : Packet) (packet : PacketFacts) → slice_get (map packet_facts packets) k ≡ Some packet
    → packet_facts (get_or packets k d) ≡ packet
facts_there [] k d packet there = let inside = slice_get_within [] k packet there in absurd (omega arith)
facts_there (p ∷ packets) zero d packet there = same_Some _ _ there
facts_there (p ∷ packets) (suc k) d packet there = facts_there packets k d packet there

module _ {A B R G K L : Type 0} (ga : Ghosts A K) (gb : Ghosts B L) (batch : Batch A B R G K L) where
  -- ---- One chunk

  -- a packet of the batch stands among all packets
  pub stands_among : (all : List PacketFacts) → StandAmong batch all → (at : ℕ) (packet : PacketFacts)
      → slice_get (remaining batch.packets) at ≡ Some packet → slice_get all (batch.first + at) ≡ Some packet
  stands_among all among at packet there = sym (there_behind all batch.first at)
      ∙ (ap (λ xs. slice_get xs at) among.stand ∙ front_there (remaining batch.packets) among.behind at packet there)

  -- the chunk ends within the batch
  pub chunk_few : (first : ℕ) (chunk : DealtChunk) → IsChunkAt ga gb batch first chunk → first ≤ length (remaining batch.packets)
      → first + length chunk.workers.items ≤ length (remaining batch.packets)
  chunk_few first chunk is inside =
      let few = is.workers.inside in let left = length-drop first (remaining batch.packets) in omega arith

  -- behind fewer packets than a chunk has is one of its own
  pub chunk_left : (first k : ℕ) (chunk : DealtChunk) → IsChunkAt ga gb batch first chunk → k < length chunk.workers.items
      → drop (first + k) (remaining batch.packets) ≡ [] → ⊥
  chunk_left first k chunk is below =
      let inside = is.workers.inside in let left = length-drop first (remaining batch.packets) in
      some_left (remaining batch.packets) (first + k) (omega arith)

  pub chunk_mine : (first k : ℕ) (chunk : DealtChunk) (packet : PacketFacts) (behind : List PacketFacts)
      → IsChunkAt ga gb batch first chunk → k < length chunk.workers.items
      → drop (first + k) (remaining batch.packets) ≡ packet ∷ behind
      → IsDealtTo ga gb (dealer_of batch.setup) (batch.first + (first + k)) packet
      (slice_index chunk.workers.items k)
  chunk_mine first k chunk packet behind is below here =
      subst (λ n. IsDealtTo ga gb (dealer_of batch.setup) n packet (slice_index chunk.workers.items k))
      (let e : batch.first + first + k ≡ batch.first + (first + k) = omega arith in e)
      (is.workers.each k packet below (next_there (remaining batch.packets) behind first k packet here))

  -- a packet that turned out to be this may be judged as it was viewed
  pub may_judge_viewed : (worker at : ℕ) (packet : PacketFacts) (filter : InterfaceFilter) (viewed : ViewedPacket)
      (frame : FrameFacts) (share : Share A B K L ga gb) → MayJudgePacket ga gb batch worker at packet share
      → IsReadyAt (policy_of batch.setup) batch.setup.filter.now.times packet.interface filter
      → IsViewed filter.own packet viewed → frame ≡ frame_facts viewed.frame.now → IsSeenAt filter.own packet frame
      → ((other : FrameFacts) → IsSeenAt filter.own packet other → other ≡ frame)
      → IsHashed (layout_of ga gb) viewed.hashed.now → MayJudgeViewed ga gb batch worker at filter viewed share
  may_judge_viewed worker at packet filter viewed frame share may ready seen same shown only hashed = record {
    shapes = may.shapes;
    few = may.few;
    idle = may.idle;
    fits = may.fits;
    stands = record {
      packet = packet;
      there = may.there;
      ready = ready;
      seen = seen;
      only = λ other is. only other is ∙ same;
    };
    hashed = hashed;
    mine = subst (λ f. IsWorkerOf ga gb batch at f worker) same (may.mine filter.own frame shown);
  }

  -- a packet may be judged still when the worker has removed sessions before it
  pub may_judge_aged : (worker at : ℕ) (packet : PacketFacts) (old new : Share A B K L ga gb)
      → MayJudgePacket ga gb batch worker at packet old → HasWorkedOn ga gb batch worker at at old new
      → MayJudgePacket ga gb batch worker at packet new
  may_judge_aged worker at packet old new may aged = record {
    shapes = may.shapes;
    few = may.few;
    idle = aged.idle;
    fits = may.fits;
    there = may.there;
    mine = may.mine;
  }

  -- so may one whose plain frame was seen
  pub sighting_aged : (worker at : ℕ) (seen : PlainSighting) (old new : Share A B K L ga gb)
      → MayJudgeSighting ga gb batch worker at seen old → HasWorkedOn ga gb batch worker at at old new
      → MayJudgeSighting ga gb batch worker at seen new
  sighting_aged worker at seen old new may aged = record {
    packet = may.packet;
    is = may.is;
    may = may_judge_aged worker at may.packet old new may.may aged;
  }

  -- the worker may remove sessions before it
  pub may_age : (worker at moment : ℕ) (packet : PacketFacts) (share : Share A B K L ga gb)
      → MayJudgePacket ga gb batch worker at packet share → packet.moment ≡ moment
      → MayAge ga gb batch worker at moment share
  may_age worker at moment packet share may timed = record {
    shapes = may.shapes;
    few = may.few;
    idle = may.idle;
    packet = packet;
    there = may.there;
    timed = timed;
  }

  -- it is that packet among all, by what the policy says of its interface
  pub viewed_among : (all : List PacketFacts) → StandAmong batch all → (at : ℕ) (filter : InterfaceFilter)
      (viewed : ViewedPacket) (stands : IsViewedAt batch at filter viewed)
      → IsAt (run_facts ga gb batch.setup all) (batch.first + at) stands.packet (frame_facts viewed.frame.now)
  viewed_among all among at filter viewed stands = record {
    stands = stands_among all among at stands.packet stands.there;
    shown = subst (λ (section : SectionFacts). IsSeenAt section.own stands.packet (frame_facts viewed.frame.now))
        stands.ready.section stands.seen.1;
    only = subst (λ (section : SectionFacts). (other : FrameFacts) → IsSeenAt section.own stands.packet other
        → other ≡ frame_facts viewed.frame.now) stands.ready.section stands.only;
  }

  -- and is judged by the policy
  pub judged_among : (at : ℕ) (filter : InterfaceFilter) (viewed : ViewedPacket)
      (stands : IsViewedAt batch at filter viewed) (old new : Callers A B K L ga gb) (verdict : Verdict)
      → TellsViewed {E = Infallible} TookByTries filter viewed batch.setup.tables.now old new (Ok verdict)
      → HasVerdict ga gb TookByTries batch.setup.filter.now.times (policy_of batch.setup) stands.packet old new verdict
  judged_among at filter viewed stands old new verdict tells =
      subst (λ times. HasVerdict ga gb TookByTries times (policy_of batch.setup) stands.packet old new verdict)
      stands.ready.lives (tells.judged (policy_of batch.setup) stands.packet
      (record { section = stands.ready.section; seen = stands.seen }))

  pub worked_none : (w at : ℕ) (share : Share A B K L ga gb) → AreIdle ga gb batch.setup.tables.now share.callers
      → HasWorkedOn ga gb batch w at at share share
  worked_none w at share idle = record { idle = idle; work = λ all among v said done. done }

  pub worked_on : (w first mid last : ℕ) (old between new : Share A B K L ga gb)
      → HasWorkedOn ga gb batch w first mid old between → HasWorkedOn ga gb batch w mid last between new
      → HasWorkedOn ga gb batch w first last old new
  worked_on w first mid last old between new before behind = record {
    idle = behind.idle;
    work = λ all among v said done. behind.work all among v said (before.work all among v said done);
  }

  pub worked_to : (w first last other : ℕ) (old new : Share A B K L ga gb) → last ≡ other
      → HasWorkedOn ga gb batch w first last old new → HasWorkedOn ga gb batch w first other old new
  worked_to w first last other old new same = subst (λ n. HasWorkedOn ga gb batch w first n old new) same

  -- the worker passes by a packet of another
  pub passed_by : (w at other : ℕ) (packet : PacketFacts) (share : Share A B K L ga gb)
      → slice_get (remaining batch.packets) at ≡ Some packet
      → IsDealtTo ga gb (dealer_of batch.setup) (batch.first + at) packet other → other ≢ w
      → AreIdle ga gb batch.setup.tables.now share.callers → HasWorkedOn ga gb batch w at (at + 1) share share
  passed_by w at other packet share there dealt differ idle =
      let own = (section_of packet.interface (policy_of batch.setup)).own in
      let at_own : Interface = record { number = packet.interface; own = own } in
      record {
        idle = idle;
        work = λ all among v said done. one_more _ w batch.first at v _ _
            (work_passed _ _ _ _ _ _ packet (view_of packet.frame at_own)
            (record {
              stands = stands_among all among at packet there;
              shown = view_shown packet.frame at_own;
              only = view_only packet.frame at_own;
            })
            (λ same. differ (dealt own _ (view_shown packet.frame at_own) ∙ same))
            done);
      }

  -- the same in a chunk
  pub worked_past : (w first k : ℕ) (chunk : DealtChunk) (packet : PacketFacts) (behind : List PacketFacts)
      (share : Share A B K L ga gb) → IsChunkAt ga gb batch first chunk → k < length chunk.workers.items
      → drop (first + k) (remaining batch.packets) ≡ packet ∷ behind → slice_index chunk.workers.items k ≢ w
      → AreIdle ga gb batch.setup.tables.now share.callers
      → HasWorkedOn ga gb batch w (first + k) (first + k + 1) share share
  worked_past w first k chunk packet behind share is below here other idle =
      passed_by w (first + k) (slice_index chunk.workers.items k) packet share
      (stands_at (remaining batch.packets) behind (first + k) packet here)
      (chunk_mine first k chunk packet behind is below here) other idle

  -- ---- All chunks

  pub chunk_first : (first i : ℕ) (chunks : List DealtChunk) (d : DealtChunk) → i < length chunks
      → AreDealtFrom ga gb batch first (drop i chunks) → IsChunkAt ga gb batch first (get_or chunks i d)
  chunk_first first i chunks d inside dealt =
      (subst (λ ps. AreDealtFrom ga gb batch first ps) (drop_more chunks i d inside) dealt).0

  pub chunks_behind : (first i : ℕ) (chunks : List DealtChunk) (d : DealtChunk) → i < length chunks
      → AreDealtFrom ga gb batch first (drop i chunks)
      → AreDealtFrom ga gb batch (first + length (get_or chunks i d).workers.items) (drop (i + 1) chunks)
  chunks_behind first i chunks d inside dealt =
      let n = length (get_or chunks i d).workers.items in
      subst (λ m. AreDealt ga gb (dealer_of batch.setup) m (drop (i + 1) chunks) (drop (first + n) (remaining batch.packets)))
      (let e : batch.first + first + n ≡ batch.first + (first + n) = omega arith in e)
      (subst (λ ps. AreDealt ga gb (dealer_of batch.setup) (batch.first + first + n) (drop (i + 1) chunks) ps)
      (drop-drop n first (remaining batch.packets))
      (subst (λ ps. AreDealtFrom ga gb batch first ps) (drop_more chunks i d inside) dealt).1)

  pub all_taken : (first i : ℕ) (chunks : List DealtChunk) → length chunks ≤ i
      → AreDealtFrom ga gb batch first (drop i chunks) → drop first (remaining batch.packets) ≡ []
  all_taken first i chunks past dealt =
      subst (λ ps. AreDealtFrom ga gb batch first ps) (drop_all i chunks past) dealt
