use Rattle.std.proofs.Common.{refl, subst}
use Rattle.capture_stream.specs.Arrivals.{HasGiven}
use Rattle.filter_run.proofs.TakeLemmas.{after_same, given_few, given_more, given_untaken}
use Rattle.filter_run.proofs.coming_captures.ComingCapturesCaptureSource.next.Goals as goal

pub take-requires-clause-few : goal.take-requires-clause-few
take-requires-clause-few g c =
    let is = c.requires.stand in
    let some = subst (HasGiven (g.A.Arrivals.parts c.args.self.now.arrivals.now) (g.A.Arrivals.parts c.next.new.self)) c.in-Ok-Some.field-0-is c.in-Ok-Some.ensures.parts in
    (given_few g.A.Arrivals.parts g.A.Arrivals.failures g.A.Arrivals.left g.A.Arrivals.unread c.requires.begun c.requires.batches c.args.self.now is c.requires.few, some.1)

pub returns-in-Ok : goal.returns-in-Ok
returns-in-Ok g c =
    let old = c.args.self.now in
    let new = record old { arrivals = record old.arrivals { now = c.next.new.self } } in
    let arrival = c.in-Ok-Some.arrival in
    let some = subst (HasGiven (g.A.Arrivals.parts old.arrivals.now) (g.A.Arrivals.parts c.next.new.self)) c.in-Ok-Some.field-0-is c.in-Ok-Some.ensures.parts in
    let now = c.requires.stand in (
      (c.in-Ok.ensures.taken now.turns (after_same now.turns old new refl refl refl refl now.after)).whole,
      λ begun batches is. given_more g.A.Arrivals.parts g.A.Arrivals.failures g.A.Arrivals.left g.A.Arrivals.unread begun batches old is c.in_default.is new refl arrival some.0
          c.in-Ok-Some.ensures.failures c.take.new.self c.in-Ok.ensures.same c.in-Ok.batch (c.in-Ok.ensures.taken is.turns (after_same is.turns old new refl refl refl refl is.after)),
    )

pub returns : goal.returns
returns g c = λ begun batches is.
    let old = c.args.self.now in
    let new = record old { arrivals = record old.arrivals { now = c.next.new.self } } in
    let arrival = c.in-Ok-Some.arrival in
    let some = subst (HasGiven (g.A.Arrivals.parts old.arrivals.now) (g.A.Arrivals.parts c.next.new.self)) c.in-Ok-Some.field-0-is c.in-Ok-Some.ensures.parts in
    given_untaken g.A.Arrivals.parts g.A.Arrivals.failures g.A.Arrivals.left g.A.Arrivals.unread begun batches old is c.in_default.is new refl arrival some.0
    c.in-Ok-Some.ensures.failures c.take.new.self c.in-Err-take.ensures.same c.in-Err-take.fault
    (c.in-Err-take.ensures.taken is.turns (after_same is.turns old new refl refl refl refl is.after))
