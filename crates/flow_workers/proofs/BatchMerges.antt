-- All workers between batches of packets: what several said of a batch is merged, and their shares keep it no longer.
use Rattle.std.proofs.Common.{◌≡◌, ◌∙◌, ◌+◌, ◌<◌, ◌++◌, ℕ, List, [], ◌∷◌, ap, append-nil, arith, false, get_or, get_or-set_same, length, ◌==◌, ◌≤◌, length-append, map, refl, set, subst, sym, true≢false}
use Rattle.std.specs.Global.{Vec}
use lib.ListN.{get_elem?}
use Rattle.packet_view.specs.Captures.{PacketFacts}
use Rattle.packet_view.specs.Frames as frames
use Rattle.packet_view.specs.CheckedCaptures.{remaining}
use Rattle.packet_view.specs.declared.packets.Packets.{Packets}
use Rattle.bihash_words.specs.declared.shape.Shape.{Ghosts}
use Rattle.session_state.specs.declared.verdict.Verdict.{Verdict}
use Rattle.flow_dealing.specs.Traces.{AreFrames, Item, numbers_from}
use Rattle.flow_dealing.proofs.Places.{after_map, before_map}
use Rattle.flow_dealing.specs.Dealt.{AreWorkers}
use Rattle.flow_dealing.specs.declared.dealt_chunk.DealtRoom.{DealtRoom}
use Rattle.flow_workers.specs.declared.worker_setup.Setup.{Setup}
use Rattle.flow_workers.specs.declared.worker_share.Batch.{Batch}
use Rattle.flow_workers.specs.declared.worker_share.Share.{Share}
use Rattle.flow_workers.specs.declared.workers.Workers.{Workers}
use Rattle.flow_workers.specs.Progress.{AreAtRest, AreRestingBehind, HaveAllSaid, HaveHandedOver, HaveJudged, HaveJudgedOn, IsAtRestAfter, IsSoundSetup}
use Rattle.flow_workers.specs.inner.Jobs.{dealer_of, run_facts}
use Rattle.flow_workers.specs.inner.LettingGo.{HasLetGo}
use Rattle.flow_workers.specs.inner.Merges.{AreAllVerdicts, AreInPlace, AreJudges, AreMerged, AreTold, HaveLetGo, LetGo, MayMerge, said_in_shares}
use Rattle.flow_workers.specs.inner.Shares.{AreSplit}
use Rattle.flow_workers.specs.inner.Work.{RunFacts}
use Rattle.acl_policy.specs.Policies.{PolicyFacts}
use Rattle.std.proofs.lemmas.List.{get_or-map, length-map, length-set}
use Rattle.flow_workers.specs.inner.Together.{HaveNoted}
use Rattle.flow_workers.specs.inner.Turns.{HaveWorked}
use Rattle.flow_workers.proofs.MergeLemmas.{all_verdicts_placed, batch_judges, in_place, in_place_before, more_than_one, said_of}
use Rattle.flow_workers.proofs.RestLemmas.{rest_begun, rest_judged, rest_silent}
use Rattle.flow_workers.proofs.HandedOver.{judged_let_go, rest_let_go}
use Rattle.flow_workers.proofs.WorkSteps.{no_numbers}
use Rattle.flow_workers.proofs.WorkerResultLemmas.{get_or_at, shares_told}

-- ---- Workers that judged no packet

no_frames : (policy : PolicyFacts) (views : List frames.FrameFacts) → AreFrames policy [] views → views ≡ []
no_frames policy [] these = refl
no_frames policy (v ∷ vs) these = absurd these

nothing_in_place : (run : RunFacts) (verdicts : List Verdict) → run.packets ≡ [] → verdicts ≡ []
    → AreInPlace run (λ w. []) verdicts
nothing_in_place run verdicts none said = record {
  count = ap length said ∙ sym (ap length none);
  each = λ w views few these.
      ap (λ vs. map (λ n. get_elem? verdicts n) (numbers_from run.deal w 0 vs))
      (no_frames run.policy views (subst (λ ps. AreFrames run.policy ps views) none these))
      ∙ ap (map (λ n. get_elem? verdicts n)) (no_numbers run.deal w 0);
}

pub all_begun : {A B R G K L : Type 0} (ga : Ghosts A K) (gb : Ghosts B L) (all : Workers A B R G K L ga gb)
    → IsSoundSetup ga gb all.setup → AreSplit all.setup.tables.now all.setup.workers all.setup.ages all.shares.items
    → all.verdicts.items ≡ [] → all.count ≡ 0 → AreAtRest [] all
all_begun ga gb all sound split none count = record {
  sound = sound;
  count = count;
  shares = split.count;
  gone = λ w. [];
  each = λ i d inside. rest_begun ga gb all.setup i _ (split.each i d inside);
  merged = λ several. nothing_in_place _ all.verdicts.items refl none;
  kept = λ one. refl;
}

-- ---- After a batch

pub several_by : (n : ℕ) → 1 ≤ n → false ≡ (n == 1) → 1 < n
several_by n some_worker other =
    more_than_one n (omega arith) (λ one. true≢false (sym (other ∙ ap (λ k. k == 1) one)))

-- what is in a worker's share, besides what it let go
abbrev with_shares : {A B K L : Type 0} {ga : Ghosts A K} {gb : Ghosts B L} → LetGo → List (Share A B K L ga gb) → LetGo
with_shares {A} {B} {K} {L} {ga} {gb} gone shares w =
    gone w ++ get_or (map (λ (s : Share A B K L ga gb). s.said.items) shares) w []

module _ {A B R G K L : Type 0} (ga : Ghosts A K) (gb : Ghosts B L) (old : Workers A B R G K L ga gb)
    (batch : Batch A B R G K L) (same : batch.setup ≡ old.setup) (first : batch.first ≡ old.count)
    (shares : List (Share A B K L ga gb)) (worked : HaveWorked batch old.shares.items shares) where
  module _ {said : List Verdict} (packets : List PacketFacts) (rest : AreRestingBehind said packets old) where
    each_after : (i : ℕ) (d : Share A B K L ga gb) → i < old.setup.workers
        → IsAtRestAfter ga gb (rest.gone i) old.setup (packets ++ remaining batch.packets) i (get_or shares i d)
    each_after i d inside = rest_judged ga gb old.setup (rest.gone i) packets batch i (get_or old.shares.items i d)
        (get_or shares i d) same (first ∙ rest.count) (rest.each i d inside)
        (worked.each i d d (subst (λ n. i < n) (sym rest.shares) inside))

    longer : (count : ℕ) → count ≡ old.count + length (remaining batch.packets)
        → count ≡ length (packets ++ remaining batch.packets)
    longer count counted = let e = rest.count in let n = length-append packets (remaining batch.packets) in omega arith

    -- the only worker has in its share what it said
    pub rest_of_one : old.setup.workers ≡ 1 → (kept : Vec (Share A B K L ga gb)) → kept.items ≡ shares
        → (count : ℕ) (rooms : Vec DealtRoom) → count ≡ old.count + length (remaining batch.packets)
        → AreRestingBehind said (packets ++ remaining batch.packets)
        (record { setup = old.setup; shares = kept; verdicts = old.verdicts; count = count; rooms = rooms })
    rest_of_one one kept is count rooms counted = record {
      sound = rest.sound;
      count = longer count counted;
      shares = ap length is ∙ (worked.count ∙ rest.shares);
      gone = rest.gone;
      each = λ i d inside. subst (λ ss. IsAtRestAfter ga gb (rest.gone i) old.setup (packets ++ remaining batch.packets) i
          (get_or ss i d)) (sym is) (each_after i d inside);
      merged = λ several. absurd (omega arith);
      kept = λ alone. rest.kept alone;
    }

    told : (traces : List (List Item))
        × AreTold (run_facts ga gb old.setup (packets ++ remaining batch.packets)) traces rest.gone (said_in_shares shares)
    told = shares_told ga gb old.setup (packets ++ remaining batch.packets) rest.gone rest.sound shares
        (worked.count ∙ rest.shares) each_after

    -- what several said may be merged
    pub may_merge : (judges : List ℕ)
        → HaveNoted ga gb (dealer_of batch.setup) batch.first (remaining batch.packets) [] judges
        → 1 < old.setup.workers
        → (run : RunFacts) × (traces : List (List Item)) × (gone : LetGo) × (before : List Verdict)
        × MayMerge run traces gone (said_in_shares shares) judges (before ++ old.verdicts.items)
    may_merge judges noted several =
        let place = rest.merged several in
        let many = place.count in
        let long = noted.many in
        let joined = length-append packets (remaining batch.packets) in (
          run_facts ga gb old.setup (packets ++ remaining batch.packets),
          told.0,
          rest.gone,
          said,
          record {
            may = record {
              told = told.1;
              judges = subst (λ ws. AreJudges (run_facts ga gb old.setup (packets ++ remaining batch.packets))
                  (length (said ++ old.verdicts.items)) ws) (sym noted.noted)
                  (subst (λ n. AreJudges (run_facts ga gb old.setup (packets ++ remaining batch.packets)) n noted.workers) (sym many)
                  (batch_judges ga gb (run_facts ga gb old.setup (packets ++ remaining batch.packets)) refl packets
                  (remaining batch.packets) refl noted.workers noted.many
                  (subst (λ n. AreWorkers ga gb (dealer_of old.setup) n noted.workers (remaining batch.packets))
                  (first ∙ rest.count)
                  (subst (λ (s : Setup A B R G K L). AreWorkers ga gb (dealer_of s) batch.first noted.workers (remaining batch.packets))
                  same noted.are))));
              before = in_place_before (run_facts ga gb old.setup packets) (remaining batch.packets) told.0 rest.gone
                  (said_in_shares shares) (said ++ old.verdicts.items) told.1 place;
            };
            last = let ws = ap length noted.noted in omega arith;
          },
        )

    -- what several said is merged, and their shares keep it no longer
    pub rest_of_several : (judges : List ℕ)
        → HaveNoted ga gb (dealer_of batch.setup) batch.first (remaining batch.packets) [] judges
        → 1 < old.setup.workers → (merged : Vec Verdict) → AreMerged (said_in_shares shares) judges old.verdicts merged.items
        → (kept : Vec (Share A B K L ga gb)) → HaveLetGo shares kept.items
        → (count : ℕ) (rooms : Vec DealtRoom) → count ≡ old.count + length (remaining batch.packets)
        → AreRestingBehind said (packets ++ remaining batch.packets)
        (record { setup = old.setup; shares = kept; verdicts = merged; count = count; rooms = rooms })
    unfolding may_merge told
    rest_of_several judges noted several merged are kept let_go count rooms counted =
        let may = may_merge judges noted several in
        let placed = are may.0 may.1 may.2 may.3 may.4 in
        record {
          sound = rest.sound;
          count = longer count counted;
          shares = let_go.count ∙ (worked.count ∙ rest.shares);
          gone = with_shares rest.gone shares;
          each = λ i d inside.
              let there : i < length shares = let n = worked.count in let m = rest.shares in omega arith in
              subst (λ vs. IsAtRestAfter ga gb (rest.gone i ++ vs) old.setup (packets ++ remaining batch.packets) i
              (get_or kept.items i d))
              (sym (get_or-map (λ (s : Share A B K L ga gb). s.said.items) shares i d [] there))
              (rest_silent ga gb old.setup (rest.gone i) (packets ++ remaining batch.packets) i (get_or shares i d)
              (get_or kept.items i d) (let_go.callers i d d there) (let_go.silent i d there) (each_after i d inside));
          merged = λ _. in_place (run_facts ga gb old.setup (packets ++ remaining batch.packets)) told.0 rest.gone (said_in_shares shares) told.1
              (with_shares rest.gone shares)
              (λ w said at.
              let s = before_map (λ (s : Share A B K L ga gb). s.said) shares w said at in
              ap (λ vs. rest.gone w ++ vs)
              (get_or_at (map (λ (x : Share A B K L ga gb). x.said.items) shares) w s.0.said.items []
              (after_map (λ (x : Share A B K L ga gb). x.said.items) shares w s.0 s.1)
              ∙ ap (λ (v : Vec Verdict). v.items) s.2))
              (said ++ merged.items) placed;
          kept = λ one. absurd (omega arith);
        }

-- ---- What was handed over

module _ {A B R G K L : Type 0} (ga : Ghosts A K) (gb : Ghosts B L) (old : Workers A B R G K L ga gb) where
  -- as many as there are packets
  said_count : {said : List Verdict} (packets : List PacketFacts) → AreRestingBehind said packets old → (verdicts : List Verdict)
      → AreAllVerdicts old.verdicts.items (said_in_shares old.shares.items) verdicts → length (said ++ verdicts) ≡ length packets
  said_count {said} packets rest verdicts are =
      let told = shares_told ga gb old.setup packets rest.gone rest.sound old.shares.items rest.shares rest.each in
      (all_verdicts_placed (run_facts ga gb old.setup packets) told.0 rest.gone (said_in_shares old.shares.items) said old.verdicts told.1 rest.merged
      rest.kept verdicts are).count

  said_by_one : {said : List Verdict} (packets : List PacketFacts) → AreRestingBehind said packets old → old.setup.workers ≡ 1
      → (share : Share A B K L ga gb) → share ≡ get_or old.shares.items 0 share
      → AreAllVerdicts old.verdicts.items (said_in_shares old.shares.items) share.said.items
  said_by_one packets rest one share is =
      let many = length-map old.shares.items (λ (s : Share A B K L ga gb). s.said) in
      let all = rest.shares in
      record {
        several = λ more. absurd (omega arith);
        one = λ only alone. ap (λ (v : Vec Verdict). v.items)
            (ap (λ (s : Share A B K L ga gb). s.said) is ∙ said_of old.shares.items 0 share (omega arith)
            ∙ ap (λ vs. get_or vs 0 (get_or old.shares.items 0 share).said) alone);
      }

  said_by_several : {said : List Verdict} (packets : List PacketFacts) → AreRestingBehind said packets old → 1 < old.setup.workers
      → AreAllVerdicts old.verdicts.items (said_in_shares old.shares.items) old.verdicts.items
  said_by_several packets rest several =
      let many = length-map old.shares.items (λ (s : Share A B K L ga gb). s.said) in
      let all = rest.shares in
      record { several = λ more. refl; one = λ only alone. absurd (let n = ap length alone in omega arith) }

module _ {A B R G K L : Type 0} (ga : Ghosts A K) (gb : Ghosts B L) (old : Workers A B R G K L ga gb) where
  -- the share of the only worker
  only_rest : {before : List Verdict} (packets : List PacketFacts) → (rest : AreRestingBehind before packets old) → old.setup.workers ≡ 1
      → (share : Share A B K L ga gb) → share ≡ get_or old.shares.items 0 share → IsAtRestAfter ga gb (rest.gone 0) old.setup packets 0 share
  only_rest packets rest one share is = subst (λ (s : Share A B K L ga gb). IsAtRestAfter ga gb (rest.gone 0) old.setup packets 0 s) (sym is)
      (rest.each 0 share (omega arith))

  -- the only worker handed over what was in its share
  pub handed_by_one : old.setup.workers ≡ 1 → (share kept : Share A B K L ga gb) → share ≡ get_or old.shares.items 0 share
      → (said : List Verdict) → HasLetGo ga gb old.setup.tables.now share kept said
      → (shares : Vec (Share A B K L ga gb)) → shares.items ≡ set old.shares.items 0 kept
      → HaveHandedOver old (record { setup = old.setup; shares = shares; verdicts = old.verdicts; count = old.count; rooms = old.rooms }) said
  handed_by_one one share kept is said gone shares placed =
      record {
        by = refl;
        rest = λ {said = before} packets rest. record {
          sound = rest.sound;
          count = rest.count;
          shares = ap length placed ∙ (length-set old.shares.items 0 kept ∙ rest.shares);
          gone = λ w. rest.gone w ++ said;
          each = λ i d inside.
              let first : 0 ≡ i = omega arith in
              let there : 0 < length old.shares.items = let n = rest.shares in omega arith in
              subst (λ n. IsAtRestAfter ga gb (rest.gone n ++ said) old.setup packets n (get_or shares.items n d)) first
              (subst (λ (s : Share A B K L ga gb). IsAtRestAfter ga gb (rest.gone 0 ++ said) old.setup packets 0 s)
              (sym (ap (λ ss. get_or ss 0 d) placed ∙ get_or-set_same old.shares.items 0 kept d there))
              (rest_let_go ga gb old.setup packets (rest.gone 0) share kept said (only_rest packets rest one share is) gone));
          merged = λ several. absurd (omega arith);
          kept = λ alone. ap (λ vs. vs ++ said) (rest.kept alone);
        };
        count = λ packets rest. said_count ga gb old packets rest said
            (subst (AreAllVerdicts old.verdicts.items (said_in_shares old.shares.items)) (sym gone.said)
            (said_by_one ga gb old packets rest one share is));
        judged = λ packets rest alone. subst (λ vs. HaveAllSaid ga gb old.setup packets (vs ++ said)) (rest.kept one)
            (judged_let_go ga gb old.setup packets (rest.gone 0) share kept said (only_rest packets rest one share is) gone one);
      }

  -- several handed over what was merged
  pub handed_by_several : 1 < old.setup.workers → (none : Vec Verdict) → none.items ≡ [] → (said : List Verdict) → said ≡ old.verdicts.items
      → HaveHandedOver old (record { setup = old.setup; shares = old.shares; verdicts = none; count = old.count; rooms = old.rooms }) said
  handed_by_several several none empty said are = record {
    by = refl;
    rest = λ {said = before} packets rest. record {
      sound = rest.sound;
      count = rest.count;
      shares = rest.shares;
      gone = rest.gone;
      each = rest.each;
      merged = λ more. subst (AreInPlace (run_facts ga gb old.setup packets) rest.gone)
          (sym (ap (λ vs. (before ++ said) ++ vs) empty ∙ append-nil (before ++ said) ∙ ap (λ vs. before ++ vs) are)) (rest.merged more);
      kept = λ one. absurd (omega arith);
    };
    count = λ {said = before} packets rest. ap (λ vs. length (before ++ vs)) are
        ∙ said_count ga gb old packets rest old.verdicts.items (said_by_several ga gb old packets rest several);
    judged = λ packets rest one. absurd (omega arith);
  }

-- ---- Judged and handed over

module _ {A B R G K L : Type 0} (ga : Ghosts A K) (gb : Ghosts B L) where
  pub judged_on : (old mid new : Workers A B R G K L ga gb) (more : Packets) (verdicts : List Verdict) → HaveJudged old more mid
      → HaveHandedOver mid new verdicts → HaveJudgedOn old more new verdicts
  judged_on old mid new more verdicts judged handed = record {
    by = handed.by ∙ judged.by;
    rest = λ packets rest. handed.rest (packets ++ remaining more) (judged.rest packets rest);
    count = λ packets rest. handed.count (packets ++ remaining more) (judged.rest packets rest);
    judged = λ {said} packets rest one. subst (λ (s : Setup A B R G K L). HaveAllSaid ga gb s (packets ++ remaining more) (said ++ verdicts)) judged.by
        (handed.judged (packets ++ remaining more) (judged.rest packets rest) (ap (λ (s : Setup A B R G K L). s.workers) judged.by ∙ one));
  }
