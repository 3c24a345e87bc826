-- A worker between batches of packets, and the workers that are noted.
use Rattle.std.proofs.Common.{◌≡◌, ◌⊎◌, ◌∙◌, ◌+◌, ◌-◌, ◌<◌, ◌≤◌, ℕ, zero, suc, List, [], ◌∷◌, ◌++◌, ap, append-nil, append_assoc, drop, length, slice_get, refl, subst, sym, arith, inl, inr}
use Rattle.std.specs.Prelude.{slice_index}
use Rattle.std.proofs.lemmas.List.{get_or_append_left, get_or-append_right, length-append, length-drop}
use Rattle.std.proofs.Math.Seq.{drop-append_seam}
use Rattle.packet_view.specs.Captures.{PacketFacts}
use Rattle.packet_view.specs.CheckedCaptures.{remaining}
use Rattle.bihash_words.specs.declared.shape.Shape.{Ghosts}
use Rattle.acl_policy.specs.Policies.{PolicyFacts}
use Rattle.session_state.specs.declared.timeouts.Timeouts.{Timeouts}
use Rattle.session_state.specs.declared.verdict.Verdict.{Verdict}
use Rattle.flow_dealing.specs.Dealings.{Deal}
use Rattle.flow_dealing.specs.WorkerRecords.{AreJudged}
use Rattle.flow_dealing.proofs.DealtLists.{there_behind}
use Rattle.flow_dealing.specs.Dealt.{AreDealt, AreWorkers, IsDealtTo}
use Rattle.flow_dealing.specs.declared.dealer.Dealer.{Dealer}
use Rattle.flow_dealing.specs.declared.dealt_chunk.DealtChunk.{DealtChunk}
use Rattle.flow_workers.specs.declared.worker_setup.Setup.{Setup}
use Rattle.flow_workers.specs.declared.worker_share.Batch.{Batch}
use Rattle.flow_workers.specs.declared.worker_share.Share.{Share}
use Rattle.flow_workers.specs.declared.session_tables.Callers.{Callers}
use Rattle.flow_workers.specs.Callers.{AreIdle, views_of}
use Rattle.flow_workers.specs.declared.workers.Workers.{Workers}
use Rattle.flow_workers.specs.Progress.{AreAtRest, HaveAllSaid, HaveEnded, IsAtRestAfter}
use Rattle.flow_workers.specs.inner.Jobs.{HasDoneAfter, HasWorked, StandAmong, run_facts}
use Rattle.flow_workers.specs.inner.Shares.{IsUnused, workers_in}
use Rattle.flow_workers.specs.inner.Together.{HaveNoted}
use Rattle.flow_workers.specs.inner.Work.{IsWorkUntil}
use Rattle.flow_workers.proofs.WorkSteps.{work_none}

-- ---- The workers of packets

split : (k n : ℕ) → (k < n) ⊎ (n ≤ k)
split k zero = inr (omega arith)
split zero (suc n) = inl (omega arith)
split (suc k) (suc n) = elim (split k n) [
  | inl less ↦ inl (omega arith)
  | inr more ↦ inr (omega arith)
]

module _ {A B K L : Type 0} (ga : Ghosts A K) (gb : Ghosts B L) (dealer : Dealer) where
  -- the workers of packets that follow each other
  workers_joined : (first : ℕ) (workers more : List ℕ) (packets : List PacketFacts)
      → AreWorkers ga gb dealer first workers packets
      → AreWorkers ga gb dealer (first + length workers) more (drop (length workers) packets)
      → AreWorkers ga gb dealer first (workers ++ more) packets
  workers_joined first workers more packets front behind = record {
    inside =
        let i = front.inside in let j = behind.inside in let n = length-append workers more in
        let m = length-drop (length workers) packets in omega arith;
    each = λ k packet below there. elim (split k (length workers)) [
      | inl before ↦ subst (IsDealtTo ga gb dealer (first + k) packet)
          (sym (get_or_append_left workers more 0 k before)) (front.each k packet before there)
      | inr after ↦
          let n = length-append workers more in
          let other = k - length workers in
          let same : length workers + other ≡ k = omega arith in
          subst (λ m. IsDealtTo ga gb dealer m packet (slice_index (workers ++ more) k))
          (let e : first + length workers + other ≡ first + k = omega arith in e)
          (subst (IsDealtTo ga gb dealer (first + length workers + other) packet)
          (sym (get_or-append_right workers more (length workers) k 0 refl after))
          (behind.each other packet (omega arith)
          (there_behind packets (length workers) other ∙ (ap (slice_get packets) same ∙ there))))
    ];
  }

  pub workers_dealt : (first : ℕ) (chunks : List DealtChunk) (packets : List PacketFacts)
      → AreDealt ga gb dealer first chunks packets
      → AreWorkers ga gb dealer first (workers_in chunks) packets × (length (workers_in chunks) ≡ length packets)
  workers_dealt first [] packets none = (
    record { inside = omega arith; each = λ k packet below there. absurd (omega arith) },
    sym (ap length none),
  )
  workers_dealt first (chunk ∷ chunks) packets (one, more) =
      let rest = workers_dealt (first + length chunk.workers.items) chunks (drop (length chunk.workers.items) packets) more
      in (
        workers_joined first chunk.workers.items (workers_in chunks) packets one.workers rest.0,
        let n = length-append chunk.workers.items (workers_in chunks) in
            let m = length-drop (length chunk.workers.items) packets in let i = one.workers.inside in let e = rest.1 in
            omega arith,
      )

  -- packets that were dealt are noted with their workers
  pub dealt_noted : (first : ℕ) (chunks : List DealtChunk) (packets : List PacketFacts) (old new : List ℕ)
      → AreDealt ga gb dealer first chunks packets → new ≡ old ++ workers_in chunks
      → HaveNoted ga gb dealer first packets old new
  dealt_noted first chunks packets old new dealt is = let d = workers_dealt first chunks packets dealt in record {
    workers = workers_in chunks;
    noted = is;
    are = d.0;
    many = d.1;
  }

-- ---- One worker

module _ {A B R G K L : Type 0} (ga : Ghosts A K) (gb : Ghosts B L) (setup : Setup A B R G K L) where
  pub rest_begun : (w : ℕ) (share : Share A B K L ga gb) → IsUnused setup.tables.now setup.ages share
      → IsAtRestAfter ga gb [] setup [] w share
  rest_begun w share unused = record {
    idle = unused.callers.idle;
    began = views_of ga gb share.callers;
    fresh = unused.callers.fresh;
    work = λ more. subst (IsWorkUntil (run_facts ga gb setup more) w 0 (views_of ga gb share.callers)
        (views_of ga gb share.callers)) (sym unused.silent)
        (work_none (run_facts ga gb setup more) w (views_of ga gb share.callers));
  }

  pub rest_judged : (said : List Verdict) (packets : List PacketFacts) (batch : Batch A B R G K L) (w : ℕ)
      (old new : Share A B K L ga gb) → batch.setup ≡ setup → batch.first ≡ length packets
      → IsAtRestAfter ga gb said setup packets w old → HasWorked ga gb batch w old new
      → IsAtRestAfter ga gb said setup (packets ++ remaining batch.packets) w new
  rest_judged said packets batch w old new same first rest worked = record {
    idle = subst (λ s. AreIdle ga gb s.tables.now new.callers) same worked.idle;
    began = rest.began;
    fresh = rest.fresh;
    work = λ more.
        let all = packets ++ (remaining batch.packets ++ more) in
        let among : StandAmong batch all = record {
          behind = more;
          stand = ap (λ n. drop n all) first ∙ drop-append_seam packets (remaining batch.packets ++ more);
        } in
        let before : HasDoneAfter ga gb said batch.setup all w (batch.first + 0) rest.began old =
        subst (λ s. HasDoneAfter ga gb said s all w (batch.first + 0) rest.began old) (sym same)
        (subst (λ n. HasDoneAfter ga gb said setup all w n rest.began old)
        (let e : length packets ≡ batch.first + 0 = omega arith in e) (rest.work (remaining batch.packets ++ more))) in
        subst (λ xs. HasDoneAfter ga gb said setup xs w (length (packets ++ remaining batch.packets)) rest.began new)
        (sym (append_assoc packets (remaining batch.packets) more))
        (subst (λ n. HasDoneAfter ga gb said setup all w n rest.began new)
        (let e = length-append packets (remaining batch.packets) in
        let f : batch.first + length (remaining batch.packets) ≡ length (packets ++ remaining batch.packets) = omega arith in f)
        (subst (λ s. HasDoneAfter ga gb said s all w (batch.first + length (remaining batch.packets)) rest.began new) same
        (worked.work all among rest.began said before)));
  }

  -- its share keeps what it said no longer
  pub rest_silent : (said : List Verdict) (packets : List PacketFacts) (w : ℕ) (old new : Share A B K L ga gb)
      → new.callers ≡ old.callers → new.said.items ≡ [] → IsAtRestAfter ga gb said setup packets w old
      → IsAtRestAfter ga gb (said ++ old.said.items) setup packets w new
  rest_silent said packets w old new callers silent rest = record {
    idle = subst (AreIdle ga gb setup.tables.now) (sym callers) rest.idle;
    began = rest.began;
    fresh = rest.fresh;
    work = λ more.
        let run = run_facts ga gb setup (packets ++ more) in
        subst (IsWorkUntil run w (length packets) rest.began (views_of ga gb new.callers))
        (sym (ap (λ vs. (said ++ old.said.items) ++ vs) silent ∙ append-nil (said ++ old.said.items)))
        (subst (λ c. IsWorkUntil run w (length packets) rest.began (views_of ga gb c) (said ++ old.said.items)) (sym callers)
        (rest.work more));
  }

-- by equal timeouts and policies packets are judged alike
pub judged_alike : (d : Deal) (packets : List PacketFacts) (verdicts : List Verdict) (times times' : Timeouts) (policy policy' : PolicyFacts)
    → times ≡ times' → policy ≡ policy' → AreJudged d times policy packets verdicts → AreJudged d times' policy' packets verdicts
judged_alike d packets verdicts times times' policy policy' timed ruled said =
    subst (λ p. AreJudged d times' p packets verdicts) ruled (subst (λ t. AreJudged d t policy packets verdicts) timed said)

-- what workers of a setup said
pub said_by : {A B R G K L : Type 0} (ga : Ghosts A K) (gb : Ghosts B L) (all : Workers A B R G K L ga gb)
    (setup : Setup A B R G K L) (packets : List PacketFacts) (verdicts : List Verdict) (callers : Callers A B K L ga gb)
    → all.setup ≡ setup → AreAtRest packets all → HaveEnded all verdicts callers → HaveAllSaid ga gb setup packets verdicts
said_by ga gb all setup packets verdicts callers by rest ended =
    subst (λ s. HaveAllSaid ga gb s packets verdicts) by (views_of ga gb callers, ended.said packets rest)
