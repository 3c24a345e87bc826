use Rattle.std.proofs.Common.{rules, ap, ◌∙◌, arith, length, length-append}
use Rattle.bihash_steps.specs.Seats.{CallerState}
use Rattle.bihash_steps.specs.Steps.{ViewOfSeat}
use Rattle.bihash_steps.proofs.CountWord.{some_words}
use Rattle.bihash_steps.proofs.caller_steps.LoadCount.{agrees_known, met_agree}
use Rattle.bihash_steps.proofs.SeatCounts.{can_act}
use Rattle.bihash_steps.proofs.caller_steps.CutAndJoin.{joins_numbers}
use Rattle.bihash_steps.proofs.row_and_callers.Row.take_in.Goals as goal

pub join_seat-requires : goal.join_seat-requires
join_seat-requires g c = (
  search rules,
  search rules,
  search rules,
  rw c.self.invariant.wide (some_words _),
  joins_numbers _ _ _ _ _ (let a = c.caller.invariant.1.count in let b = c.caller.invariant.1.some in omega arith)
      (let a = c.other.invariant.1.count in let b = c.other.invariant.1.some in omega arith)
      (ap (λ (k : CallerState). k.view.holds) c.caller.view_is ∙ c.requires.idle.free.0)
      (ap (λ (k : CallerState). k.view.holds) c.other.view_is ∙ c.requires.idle.free.1),
)

pub load-requires : goal.load-requires
load-requires g c =
    let joined = ap (λ (m : ViewOfSeat). length m.0.records) c.join_seat.ensures.2 in
    let both = length-append c.caller.inside.seat.me.0.records c.other.inside.seat.me.0.records in
    let acts = can_act _ _ c.caller.invariant.1 in
    (search rules, rw c.self.invariant.wide (some_words _), agrees_known _ _ _ _ (omega arith))

pub returns-clause-joined : goal.returns-clause-joined
returns-clause-joined g c =
    let mine = ap (λ (k : CallerState). k.view) c.caller.view_is in
    let theirs = ap (λ (k : CallerState). k.view) c.other.view_is in record {
      view = search rules;
      lawful = search rules;
      agree = met_agree _ _ _ _ _ _ _ _ c.join_seat.ensures.2 mine theirs c.load.ensures.2;
    }
