use Rattle.std.proofs.Common.{rules, refl}
use Rattle.bihash_words.specs.Sizes.{sizes_of}
use Rattle.bihash_steps.specs.Renewals.{IsNextWord, view_after_load}
use Rattle.bihash_steps.proofs.SeatCounts.{can_act, counted_next, of_seat, state_next}
use Rattle.bihash_steps.proofs.caller_steps.LoadLone.{loads_row_word}
use Rattle.bihash_steps.proofs.row_and_callers.Row.load_lone.Goals as goal

pub load-requires : goal.load-requires
load-requires g c = (
  search rules,
  rw c.self.invariant.wide c.requires.next.inside,
  loads_row_word _ _ _ _ _ (of_seat (λ v. IsNextWord (sizes_of g.S.Shape) v c.args.at) c.caller.view_is c.requires.next)
      (can_act _ _ c.caller.invariant.1),
)

pub invariant_of-caller : goal.invariant_of-caller
invariant_of-caller g c =
    counted_next (λ v. view_after_load v c.load.result) c.caller.inside.seat.me _ _ _ c.load.ensures.2.seat refl c.caller.invariant

pub returns : goal.returns
returns g c = record {
  view = state_next (λ v. view_after_load v c.load.result) _ _ _ _ c.caller.inside.seat.me _ c.args.caller.now c.load.ensures.0
      c.load.ensures.1 c.load.ensures.2.seat c.caller.view_is;
  lawful = c.load.ensures.2.lawful;
  row = c.load.ensures.2.row;
}
