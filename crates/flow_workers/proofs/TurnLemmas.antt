-- Turns of a batch, ahead and over.
use Rattle.std.proofs.Common.{◌≡◌, ◌∙◌, ◌+◌, ◌<◌, ℕ, zero, suc, List, [], ◌∷◌, ◌++◌, length, get_or, map, IfOk, Result, Ok, Err, ap, refl, sym, subst, arith, length-append}
use Rattle.std.specs.List.{All, AllZip}
use Rattle.std.proofs.lemmas.List.{get_or-map, get_or_append_left, length-map}
use Rattle.std.proofs.lemmas.List.Elements.{All-from_get_or}
use Rattle.std.proofs.Math.Seq.{get_or-append_seam}
use Rattle.packet_view.specs.declared.tuple.Family.{Family}
use Rattle.bihash_words.specs.Sizes.{Sizes}
use Rattle.bihash_words.specs.declared.shape.Shape.{Ghosts}
use Rattle.bihash_rule.specs.Views.{empty_record}
use Rattle.bihash_rule.specs.declared.view.View.{View}
use Rattle.bihash_steps.proofs.Lists.{there}
use Rattle.flow_dealing.specs.AgeingTraces.{Deed, HaveDeeds, calls_by}
use Rattle.flow_dealing.proofs.TraceMerges.{HasCalls}
use Rattle.flow_dealing.specs.Wanted.{HaveWanted}
use Rattle.flow_workers.specs.declared.worker_share.Dealt.{Dealt}
use Rattle.flow_workers.specs.declared.worker_share.WorkerJob.{WorkerJob}
use Rattle.flow_workers.specs.declared.worker_share.Batch.{Batch}
use Rattle.flow_workers.specs.declared.worker_share.Share.{Share}
use Rattle.flow_workers.specs.declared.worker_turn.Turn.{Turn}
use Rattle.flow_workers.specs.declared.worker_turn.Turn.TheVariants.{Ahead, Over}
use Rattle.flow_workers.specs.inner.Fresh.{IsFreshView}
use Rattle.flow_workers.specs.inner.Work.{RecordContinues}
use Rattle.flow_workers.specs.inner.Jobs.{AreDealtFrom, CanWork}
use Rattle.flow_workers.specs.inner.Turns.{AreTurnsAhead, AreTurns, BecomesWorked, CanTakeTurn, HaveWorked, IsTurnPast, MayJudgeBatch}
use Rattle.flow_workers.proofs.WantedLemmas.{fresh_wanted}

-- a fact of each element, when one more comes
pub below_push : {X : Type 0} (P : ℕ → X → Type 0) (xs : List X) (x : X)
    → ((i : ℕ) (d : X) → i < length xs → P i (get_or xs i d)) → P (length xs) x
    → (i : ℕ) (d : X) → i < length xs + 1 → P i (get_or (xs ++ x ∷ []) i d)
below_push P [] x each here zero d h = here
below_push P [] x each here (suc i) d h = absurd (omega arith)
below_push P (y ∷ ys) x each here zero d h = each zero d (omega arith)
below_push P (y ∷ ys) x each here (suc i) d h =
    below_push (λ k. P (suc k)) ys x (λ k e b. each (suc k) e (omega arith)) here i d (omega arith)

pub push_count : {X : Type 0} (xs ys : List X) (x : X) (n : ℕ) → ys ≡ xs ++ x ∷ [] → length xs ≡ n → length ys ≡ n + 1
push_count xs ys x n is count = ap length is ∙ (let e = length-append xs (x ∷ []) in omega arith)

pub all_each : {X : Type 0} (P : X → Type 0) (xs : List X) → ((i : ℕ) (d : X) → i < length xs → P (get_or xs i d))
    → All P xs
all_each P [] each = λ k d inside. absurd (omega arith)
all_each P (x ∷ xs) each = All-from_get_or P (x ∷ xs) x (λ i inside. each i x inside)

-- ---- What a worker leaves

pub if_ok : {X E : Type 0} (P Q : X → Type 0) (r : Result X E) → ((x : X) → P x → Q x) → IfOk r P → IfOk r Q
if_ok P Q (Ok x) f h = f x h
if_ok P Q (Err e) f h = tt

pub fresh_deeds : (z : Sizes) (family : Family) (v w : View) (t : List Deed) → IsFreshView v
    → RecordContinues v w (calls_by family t) → (HaveWanted z v → HaveWanted z w) → HaveDeeds z family (t ∷ []) w
fresh_deeds z family v w t fresh goes wanted =
    let r = goes.calls (empty_record fresh.number) fresh.records in
    record {
      records = subst (AllZip (HasCalls family) (t ∷ [])) (sym r.1) (refl, tt);
      openings = goes.openings ∙ fresh.openings;
      wanted = wanted (fresh_wanted z v fresh);
    }

-- ---- Turns, ahead and over

module _ {A B R G K L : Type 0} (ga : Ghosts A K) (gb : Ghosts B L) (batch : Batch A B R G K L) (dealt : Dealt) where
  -- what this worker does
  abbrev job_of : ℕ → Share A B K L ga gb → WorkerJob A B R G K L ga gb
  job_of i share = record { batch = batch; dealt = dealt; worker = i; share = share }

  abbrev turn_of : ℕ → Share A B K L ga gb → Turn A B R G K L ga gb
  turn_of i share = Ahead (job_of i share)

  pub no_turns : AreTurns {ga = ga} {gb = gb} batch dealt [] []
  no_turns = record { count = refl; each = λ i d e inside. absurd (omega arith) }

  pub turns_push : (shares : List (Share A B K L ga gb)) (share : Share A B K L ga gb)
      (turns longer : List (Turn A B R G K L ga gb)) (again : Batch A B R G K L) (worker : ℕ)
      → AreTurns batch dealt shares turns
      → longer ≡ turns ++ Ahead (record { batch = again; dealt = dealt; worker = worker; share = share }) ∷ [] → again ≡ batch
      → worker ≡ length shares → AreTurns batch dealt (shares ++ share ∷ []) longer
  turns_push shares share turns longer again worker old is same last = record {
    count = let counted = old.count in let n = ap length is ∙ length-append turns (t ∷ []) in
        let m = length-append shares (share ∷ []) in omega arith;
    each = λ i d e below. subst (λ ts. get_or ts i d ≡ turn_of i (get_or (shares ++ share ∷ []) i e)) (sym is)
        (below_push (λ k u. u ≡ turn_of k (get_or (shares ++ share ∷ []) k e)) turns t
        (λ k f inside. let few = subst (λ n. k < n) old.count inside in
        old.each k f e few ∙ ap (turn_of k) (sym (get_or_append_left shares (share ∷ []) e k few)))
        (here e) i d (let counted = old.count in let m = length-append shares (share ∷ []) in omega arith));
  }
    where
      t : Turn A B R G K L ga gb
      t = Ahead (record { batch = again; dealt = dealt; worker = worker; share = share })

      here : (e : Share A B K L ga gb) → t ≡ turn_of (length turns) (get_or (shares ++ share ∷ []) (length turns) e)
      here e =
          ap (λ r. Ahead (record { batch = r; dealt = dealt; worker = worker; share = share })) same
          ∙ (ap (λ n. turn_of n share) (last ∙ sym old.count)
          ∙ ap (turn_of (length turns)) (sym (ap (λ n. get_or (shares ++ share ∷ []) n e) old.count
          ∙ get_or-append_seam shares share [] e)))

module _ {A B R G K L : Type 0} (ga : Ghosts A K) (gb : Ghosts B L) (batch : Batch A B R G K L) (dealt : Dealt)
    (shares : List (Share A B K L ga gb)) (may : MayJudgeBatch batch shares) where
  can_work : AreDealtFrom ga gb batch 0 dealt.chunks.now.items → (i : ℕ) (d : Share A B K L ga gb) → i < length shares
      → CanWork ga gb (job_of ga gb batch dealt i (get_or shares i d))
  can_work are i d inside = record {
    shapes = may.shapes;
    few = subst (λ n. i < n) may.count inside;
    fits = may.fits;
    idle = may.idle i d inside;
    dealt = are;
  }

  pub all_ahead : AreDealtFrom ga gb batch 0 dealt.chunks.now.items → (turns : List (Turn A B R G K L ga gb))
      → AreTurns batch dealt shares turns → AreTurnsAhead batch dealt shares turns
  all_ahead chunks turns are = record {
    ready = all_each (CanTakeTurn ga gb) turns (λ i d inside.
        let few = subst (λ n. i < n) are.count inside in
        let s = there shares i few in
        subst (CanTakeTurn ga gb) (sym (are.each i d s.0 few)) (can_work chunks i s.0 few));
    are = are;
  }

  past : (t u : Turn A B R G K L ga gb) (job : WorkerJob A B R G K L ga gb) → t ≡ Ahead job → BecomesWorked ga gb t u → IsTurnPast ga gb u
  past t u job is did = past_of u (subst (λ x. BecomesWorked ga gb x u) is did)
    where
      past_of : (v : Turn A B R G K L ga gb) → BecomesWorked ga gb (Ahead job) v → IsTurnPast ga gb v
      past_of (Ahead other) became = became
      past_of (Over done) became = tt

  pub all_past : (turns over : List (Turn A B R G K L ga gb)) → AreTurns batch dealt shares turns → length over ≡ length turns
      → ((i : ℕ) (d e : Turn A B R G K L ga gb) → i < length turns → BecomesWorked ga gb (get_or turns i e) (get_or over i d))
      → All (IsTurnPast ga gb) over
  all_past turns over ahead count did = all_each (IsTurnPast ga gb) over (λ i d inside.
      let some = subst (λ n. i < n) count inside in
      let few = subst (λ n. i < n) ahead.count some in
      let s = there shares i few in
      past (get_or turns i d) (get_or over i d) (job_of ga gb batch dealt i (get_or shares i s.0)) (ahead.each i d s.0 few)
      (did i d d some))

  pub have_worked : (turns over : List (Turn A B R G K L ga gb)) (news : List (Share A B K L ga gb))
      → AreTurns batch dealt shares turns → length over ≡ length turns
      → ((i : ℕ) (d e : Turn A B R G K L ga gb) → i < length turns → BecomesWorked ga gb (get_or turns i e) (get_or over i d))
      → over ≡ map (λ share. Over (Ok share)) news → HaveWorked batch shares news
  have_worked turns over news ahead count did are = record {
    count = many;
    each = λ i d e inside.
        let ended : Turn A B R G K L ga gb = Over (Ok e) in
        let some = subst (λ n. i < n) (sym ahead.count) inside in
        let few = subst (λ n. i < n) (sym many) inside in
        let last : get_or over i ended ≡ Over (Ok (get_or news i e)) =
        ap (λ ts. get_or ts i ended) are ∙ get_or-map (λ share. Over (Ok share)) news i e ended few in
        subst (BecomesWorked ga gb (turn_of ga gb batch dealt i (get_or shares i d))) last
        (subst (λ t. BecomesWorked ga gb t (get_or over i ended)) (ahead.each i ended d inside) (did i ended ended some));
  }
    where
      many : length news ≡ length shares
      many = sym (ap length are ∙ length-map news (λ share. Over (Ok share))) ∙ (count ∙ ahead.count)
