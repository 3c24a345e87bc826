use Rattle.std.proofs.Common.{rules, ◌∙◌}
use Rattle.bihash_words.specs.Sizes.{sizes_of}
use Rattle.bihash_steps.specs.BucketSteps.{MayValidate}
use Rattle.bihash_steps.proofs.Addresses.{validates_at}
use Rattle.bihash_steps.proofs.bucket_steps.NextWords.{counted_valid}
use Rattle.bihash_steps.proofs.SeatCounts.{can_act, of_seat}
use Rattle.bihash_steps.proofs.row_and_callers.Row.validate.Goals as goal

pub load-here-requires : goal.load-here-requires
load-here-requires g c = (
  search rules,
  search rules,
  validates_at _ _ _ _ _ _ _ _ c.bucket_at.ensures.place c.requires.at.inside (can_act _ _ c.caller.invariant.1)
      (of_seat (λ v. MayValidate (sizes_of g.S.Shape) v c.args.bucket c.args.word g.E.Calling.call) c.caller.view_is c.requires.may),
)

pub invariant_of-caller-2 : goal.invariant_of-caller-2
invariant_of-caller-2 g c =
    let may = of_seat (λ v. MayValidate (sizes_of g.S.Shape) v c.args.bucket c.args.word g.E.Calling.call) c.caller.view_is c.requires.may in
    counted_valid (sizes_of g.S.Shape) c.caller.inside.seat.me _ _ _ _ _ _ _ _ may c.version-stamp.ensures c.load-here.ensures.2
    (c.if-here-to_word.false ∙ c.to_word.ensures) c.caller.invariant
