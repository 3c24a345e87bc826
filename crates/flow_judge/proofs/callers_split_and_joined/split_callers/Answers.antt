-- A split that was refused leaves what the caller holds: nothing.
use Rattle.std.proofs.Common.{◌≡◌, ◌∙◌, ap}
use Rattle.bihash_words.specs.Sizes.{Sizes, sizes_of}
use Rattle.bihash_rule.specs.declared.view.View.{View}
use Rattle.bihash_steps.specs.Seats.{CallerState}
use Rattle.bihash_steps.specs.Steps.{IsRefused}
use Rattle.bihash_steps.specs.declared.split_fault.SplitFault.{SplitFault}
use Rattle.bihash_steps.specs.declared.split_fault.SplitFault.TheVariants.{Memory, Numbers, Contended}
use Rattle.flow_judge.proofs.callers_split_and_joined.split_callers.Goals as goal

holds_stay : (z : Sizes) (v : View) (fault : SplitFault) (w : View) → IsRefused z v fault w → w.holds ≡ v.holds
holds_stay z v Memory w is = ap (λ (u : View). u.holds) is
holds_stay z v Numbers w is = ap (λ (u : View). u.holds) is
holds_stay z v Contended w is = ap (λ (u : View). u.holds) is.5

pub returns-in-Err-split-clause-back : goal.returns-in-Err-split-clause-back
returns-in-Err-split-clause-back g c =
    let left = c.in-Ok.ensures.split.3 in
    let joined = c.join-four.ensures.view in
    let refused = c.in-Err-split.ensures.refused in
    record {
      own = (
        ap (λ (s : CallerState). s.row) joined ∙ (ap (λ (s : CallerState). s.row) left ∙ c.requires.own.0),
        ap (λ (s : CallerState). s.row) refused.0 ∙ c.requires.own.1,
      );
      free = (
        ap (λ (s : CallerState). s.view.holds) joined
            ∙ (ap (λ (s : CallerState). s.view.holds) left ∙ c.requires.free.0),
        holds_stay (sizes_of g.B.Shape) _ _ _ refused.1 ∙ c.requires.free.1,
      );
      lawful = (c.join-four.ensures.lawful, c.in-Err-split.ensures.back c.requires.lawful.1);
    }
