use Rattle.std.proofs.Common.{◌≡◌, ◌∙◌, ap, subst, sym}
use Rattle.bihash_words.specs.Sizes.{Sizes, sizes_of}
use Rattle.bihash_steps.specs.Seats.{CallerState}
use Rattle.bihash_steps.specs.Steps.{IsRefused}
use Rattle.bihash_rule.specs.declared.view.View.{View}
use Rattle.bihash_steps.specs.declared.split_fault.SplitFault.{SplitFault}
use Rattle.bihash_steps.specs.declared.split_fault.SplitFault.TheVariants.{Memory, Numbers, Contended}
use Rattle.flow_workers.specs.inner.Fresh.{IsFreshView}
use Rattle.flow_workers.proofs.worker_callers.split_one.Goals as goal

-- a refusal leaves what is held and what was done
record Stays (v w : View) : Type 0 where
  holds : w.holds ≡ v.holds
  fresh : IsFreshView v → IsFreshView w

stays : (z : Sizes) (v : View) (fault : SplitFault) (w : View) → IsRefused z v fault w → Stays v w
stays z v Memory w is = record { holds = ap (λ (u : View). u.holds) is; fresh = subst IsFreshView (sym is) }
stays z v Numbers w is = record {
  holds = ap (λ (u : View). u.holds) is;
  fresh = λ h. subst IsFreshView (sym is) (record { number = h.number; records = h.records; openings = h.openings });
}
stays z v Contended w is = let same = is.5 in record {
  holds = ap (λ (u : View). u.holds) same;
  fresh = λ h. subst IsFreshView (sym same) (record { number = h.number; records = h.records; openings = h.openings });
}

pub loop-preserved : goal.loop-preserved
loop-preserved g c =
    let told = c.in-Err.ensures.refused in
    let kept = stays (sizes_of g.S.Shape) c.loop.caller.seat.view _ c.in-Err.back.seat.view told.1 in record {
      own = ap (λ (s : CallerState). s.row) told.0 ∙ c.loop.invariant.own;
      free = kept.holds ∙ c.loop.invariant.free;
      fresh = kept.fresh c.loop.invariant.fresh;
    }
