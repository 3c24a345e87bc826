use Rattle.std.proofs.Common.{rules, ap, arith, sym, ◌∙◌, ◌≡◌, ◌+◌, ◌<◌, length, length-append}
use Rattle.bihash_steps.specs.Seats.{CallerState}
use Rattle.bihash_rule.specs.declared.view.View.{View}
use Rattle.bihash_steps.proofs.caller_steps.Split.{old_caller, new_caller, new_stamp}
use Rattle.bihash_steps.proofs.row_and_callers.Row.split.Goals as goal

pub returns-clause-split : goal.returns-clause-split
returns-clause-split g c =
    let load = c.load_count-count.ensures in
    let take = c.take_number.ensures in
    let cut = c.cut-seat.ensures in
    let number = take.taken c.if-not-take_number.false in
    let all : length c.args.caller.seat.view.records ≡ c.seat.inside.numbers
    = ap (λ (k : CallerState). length k.view.records) (sym (c.seat.view_is ∙ load.view)) ∙ c.seat.invariant.1.count in (
      c.load_count-count.result,
      load.rises,
      search rules,
      old_caller c.args.caller.seat _ _ _ _ load.view take.row.0 take.row.1 number all _ cut.left,
      cut.right.0 ∙ (take.row.0 ∙ ap (λ (k : CallerState). k.row) load.view),
      new_caller c.args.caller.seat _ _ _ _ load.view take.row.0 take.row.1 number all _ cut.right.1,
    )

pub cut-seat-requires-clause-may : goal.cut-seat-requires-clause-may
cut-seat-requires-clause-may g c =
    let load = c.load_count-count.ensures in
    let take = c.take_number.ensures in
    let number = take.taken c.if-not-take_number.false in
    let all : length c.args.caller.seat.view.records ≡ c.seat.inside.numbers
    = ap (λ (k : CallerState). length k.view.records) (sym (c.seat.view_is ∙ load.view)) ∙ c.seat.invariant.1.count in
    let long = ap (λ (v : View). length v.records) number
    ∙ (length-append _ _ ∙ (ap (λ (k : CallerState). length k.view.records + 1) load.view ∙ ap (λ n. n + 1) all)) in
    let less : c.seat.inside.numbers < length c.take_number.new.caller.view.records = omega arith in record {
      free = search rules;
      some = search rules;
      less = less;
      stamped = sym (new_stamp c.args.caller.seat _ _ _ _ load.view take.row.0 take.row.1 number all);
    }
