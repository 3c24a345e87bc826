-- All workers at packets that are judged one after the other.
use Rattle.std.proofs.Common.{◌≡◌, ◌∙◌, ◌+◌, ◌<◌, ℕ, zero, suc, List, [], ◌∷◌, ◌++◌, None, Option, Some, ap, append_assoc, append-nil, arith, get_or, inl, inr, length, refl, set, slice_get, subst, sym}
use Rattle.std.proofs.lemmas.Bool.Decides.{eqb_tells}
use Rattle.std.proofs.lemmas.List.{get_or-set_other, get_or-set_same, length-set, length_push}
use Rattle.packet_view.specs.Captures.{PacketFacts}
use Rattle.packet_view.specs.CheckedCaptures.{remaining}
use Rattle.bihash_words.specs.declared.shape.Shape.{Ghosts}
use Rattle.session_state.specs.declared.flow.Flow.{Flow}
use Rattle.flow_filter.specs.OneThread.{Layout, layout_of}
use Rattle.flow_dealing.specs.Dealings.{flow_of_frame, worker_by_dealing}
use Rattle.flow_dealing.specs.declared.worker_of_flow.Dealing.{Dealing}
use Rattle.flow_dealing.specs.declared.worker_of_flow.Dealing.TheVariants.{Bucket, Round}
use Rattle.flow_dealing.proofs.DealtLists.{workers_push}
use Rattle.flow_dealing.specs.Dealt.{IsDealtTo}
use Rattle.flow_dealing.specs.declared.dealer.Dealer.{Dealer}
use Rattle.flow_workers.specs.declared.worker_share.Batch.{Batch}
use Rattle.flow_workers.specs.declared.worker_share.Share.{Share}
use Rattle.flow_workers.specs.Callers.{AreIdle}
use Rattle.flow_workers.specs.inner.Jobs.{HasWorkedOn, dealer_of}
use Rattle.flow_workers.specs.inner.Together.{HaveNotedSome}
use Rattle.flow_workers.specs.inner.Turns.{HaveWorkedOn}
use Rattle.flow_workers.proofs.DealtLemmas.{passed_by, worked_on}

-- what is there is there by any default
same_there : {X : Type 0} (xs : List X) (i : ℕ) (d e : X) → i < length xs → get_or xs i d ≡ get_or xs i e
same_there [] i d e inside = absurd (omega arith)
same_there (x ∷ xs) zero d e inside = refl
same_there (x ∷ xs) (suc i) d e inside = same_there xs i d e (omega arith)

module _ {A B R G K L : Type 0} (ga : Ghosts A K) (gb : Ghosts B L) (batch : Batch A B R G K L) where
  abbrev all_idle : List (Share A B K L ga gb) → Type 0
  all_idle shares = (i : ℕ) (d : Share A B K L ga gb) → i < length shares
      → AreIdle ga gb batch.setup.tables.now (get_or shares i d).callers

  -- no packet was looked at
  pub none_worked : (shares : List (Share A B K L ga gb)) → all_idle shares → HaveWorkedOn batch 0 0 shares shares
  none_worked shares idle = record {
    count = refl;
    each = λ i d e inside. subst (HasWorkedOn ga gb batch i 0 0 (get_or shares i d)) (same_there shares i d e inside)
        (record { idle = idle i d inside; work = λ all among v said done. done });
  }

  -- the only worker judged
  pub only_worked : (last : ℕ) (old : List (Share A B K L ga gb)) (before share : Share A B K L ga gb) → length old ≡ 1
      → get_or old 0 before ≡ before → HasWorkedOn ga gb batch 0 0 last before share → HaveWorkedOn batch 0 last old (set old 0 share)
  only_worked last old before share one is worked = record {
    count = length-set old 0 share;
    each = λ i d e inside.
        let first : 0 ≡ i = omega arith in
        subst (λ w. HasWorkedOn ga gb batch w 0 last (get_or old w d) (get_or (set old 0 share) w e)) first
        (subst (HasWorkedOn ga gb batch 0 0 last (get_or old 0 d)) (sym (get_or-set_same old 0 share e (omega arith)))
        (subst (λ s. HasWorkedOn ga gb batch 0 0 last s share) (sym (same_there old 0 d before (omega arith) ∙ is)) worked));
  }

  pub all_worked_on : (first mid last : ℕ) (old between new : List (Share A B K L ga gb))
      → HaveWorkedOn batch first mid old between → HaveWorkedOn batch mid last between new
      → HaveWorkedOn batch first last old new
  all_worked_on first mid last old between new before behind = record {
    count = behind.count ∙ before.count;
    each = λ i d e inside. worked_on ga gb batch i first mid last (get_or old i d) (get_or between i d) (get_or new i e)
        (before.each i d d inside) (behind.each i d e (subst (λ n. i < n) (sym before.count) inside));
  }

  pub all_worked_to : (first last other : ℕ) (old new : List (Share A B K L ga gb)) → last ≡ other
      → HaveWorkedOn batch first last old new → HaveWorkedOn batch first other old new
  all_worked_to first last other old new same = subst (λ n. HaveWorkedOn batch first n old new) same

  -- all hold nothing after they judged
  pub idle_after : (first last : ℕ) (old new : List (Share A B K L ga gb)) → HaveWorkedOn batch first last old new
      → all_idle new
  idle_after first last old new worked i d inside = (worked.each i d d (subst (λ n. i < n) worked.count inside)).idle

  -- a packet's worker judges it, and the others pass by it
  pub next_worked : (at worker : ℕ) (packet : PacketFacts) (old : List (Share A B K L ga gb))
      (before share : Share A B K L ga gb) → all_idle old → slice_get (remaining batch.packets) at ≡ Some packet
      → IsDealtTo ga gb (dealer_of batch.setup) (batch.first + at) packet worker → worker < length old
      → get_or old worker before ≡ before → HasWorkedOn ga gb batch worker at (at + 1) before share
      → HaveWorkedOn batch at (at + 1) old (set old worker share)
  next_worked at worker packet old before share idle there dealt one is worked = record {
    count = length-set old worker share;
    each = λ i d e inside. elim (eqb_tells i worker) [
      | inl (test, same) ↦
          subst (λ w. HasWorkedOn ga gb batch w at (at + 1) (get_or old w d) (get_or (set old worker share) w e)) (sym same)
          (subst (HasWorkedOn ga gb batch worker at (at + 1) (get_or old worker d))
          (sym (get_or-set_same old worker share e one))
          (subst (λ s. HasWorkedOn ga gb batch worker at (at + 1) s share)
          (sym (same_there old worker d before one ∙ is)) worked))
      | inr (test, differ) ↦
          subst (HasWorkedOn ga gb batch i at (at + 1) (get_or old i d))
          (same_there old i d e inside ∙ sym (get_or-set_other old worker i share e differ))
          (passed_by ga gb batch i at worker packet (get_or old i d) there dealt (λ same. differ (sym same)) (idle i d inside))
    ];
  }

module _ {A B K L : Type 0} (ga : Ghosts A K) (gb : Ghosts B L) (dealer : Dealer) (first : ℕ)
    (packets : List PacketFacts) where
  pub none_noted : (judges : List ℕ) → HaveNotedSome ga gb dealer first packets 0 judges judges
  none_noted judges = record {
    workers = [];
    noted = sym (append-nil judges);
    are = record { inside = omega arith; each = λ k packet below there. absurd (omega arith) };
    many = refl;
  }

  pub noted_push : (taken worker : ℕ) (packet : PacketFacts) (old new longer : List ℕ)
      → HaveNotedSome ga gb dealer first packets taken old new → slice_get packets taken ≡ Some packet
      → IsDealtTo ga gb dealer (first + taken) packet worker → longer ≡ new ++ worker ∷ []
      → HaveNotedSome ga gb dealer first packets (taken + 1) old longer
  noted_push taken worker packet old new longer before there dealt is = record {
    workers = before.workers ++ worker ∷ [];
    noted = is ∙ (ap (λ ws. ws ++ worker ∷ []) before.noted ∙ append_assoc old before.workers (worker ∷ []));
    are = workers_push ga gb dealer first packets before.workers worker packet before.are
        (ap (slice_get packets) before.many ∙ there)
        (subst (λ n. IsDealtTo ga gb dealer (first + n) packet worker) (sym before.many) dealt);
    many = length_push before.workers worker ∙ ap (λ n. n + 1) before.many;
  }

-- ---- the only worker

module _ {A B K L : Type 0} (ga : Ghosts A K) (gb : Ghosts B L) where
  only_by_dealing : (dealing : Dealing) (l : Layout) (number : ℕ) (flow : Option Flow) → 0 ≡ worker_by_dealing dealing l 1 number flow
  only_by_dealing Round l number flow = omega arith
  only_by_dealing Bucket l number None = refl
  only_by_dealing Bucket l number (Some flow) = omega arith

  -- each packet is dealt to it
  pub only_dealt : (dealer : Dealer) (number : ℕ) (packet : PacketFacts) → dealer.workers ≡ 1 → IsDealtTo ga gb dealer number packet 0
  only_dealt dealer number packet alone = λ own seen is.
      subst (λ n. 0 ≡ worker_by_dealing dealer.dealing (layout_of ga gb) n number (flow_of_frame seen)) (sym alone)
      (only_by_dealing dealer.dealing (layout_of ga gb) number (flow_of_frame seen))
