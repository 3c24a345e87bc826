use Rattle.std.proofs.Common.{rules, ap, arith, length, sym, subst, ◌∙◌}
use Rattle.bihash_rule.specs.Callers.{IsLawfulCaller}
use Rattle.bihash_steps.specs.Seats.{CallerState}
use Rattle.bihash_steps.specs.Steps.{ViewOfSeat}
use Rattle.bihash_rule.specs.declared.view.View.{View}
use Rattle.bihash_steps.proofs.CountWord.{some_words}
use Rattle.bihash_steps.proofs.caller_steps.CutAndJoin.{cut_lawful, splits_numbers}
use Rattle.bihash_steps.proofs.row_and_callers.Row.cut.Goals as goal

pub split_seat-seat-requires : goal.split_seat-seat-requires
split_seat-seat-requires g c = (
  search rules,
  rw c.self.invariant.wide (some_words _),
  splits_numbers _ _ _ _
      (ap (λ (k : CallerState). k.view.holds) c.caller.view_is ∙ c.requires.may.free),
)

pub returns : goal.returns
returns g c = let first = λ (m : ViewOfSeat). m.0 in let same = ap (λ (k : CallerState). k.view) c.caller.view_is in record {
  left = search rules;
  right = search rules;
  lawful = λ law. cut_lawful _ _ c.caller.inside.seat.me.0 _ _ (ap first c.split_seat-seat.ensures.2) (ap first c.split_seat-seat.ensures.4)
      (let kept = c.requires.kept in let one = c.requires.may.some in omega arith)
      (let kept = c.requires.kept in let less = c.requires.may.less in let long = ap (λ (v : View). length v.records) same in omega arith)
      (subst (IsLawfulCaller _) (sym same) law);
}
