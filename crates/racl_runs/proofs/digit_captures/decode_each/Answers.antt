use Rattle.std.proofs.Common.{Some, [], inl, inr, subst}
use Rattle.racl_io.specs.Inputs.{numbered_facts}
use Rattle.racl_report.specs.inner.NumberedCaptures.{IsFaultFrom, facts_of}
use Rattle.racl_runs.proofs.DigitCaptureLemmas.{all_decoded, amid_next}
use Rattle.racl_runs.proofs.digit_captures.decode_each.Goals as goal

pub returns-in-Err-clause-fault : goal.returns-in-Err-clause-fault
returns-in-Err-clause-fault c =
    let amid = c.captures-2.invariant in
    let seen = c.captures-2.walk.seen.items in
    let begun = Some (facts_of c.args.first) in
    elim c.in-Err.ensures.fault [
      | inl memory ↦ inl memory
      | inr of ↦
          inr (subst (λ next. IsFaultFrom seen (numbered_facts next) c.in-Err.fault → IsFaultFrom [] begun c.in-Err.fault) c.in-Some.is (amid.fault c.in-Err.fault) of)
    ]

pub captures-preserved : goal.captures-preserved
captures-preserved c =
    amid_next (Some (facts_of c.args.first)) c.captures-2.walk c.in-Some.capture c.in-Ok.walk c.captures-2.invariant c.in-Some.is c.in-Ok.ensures.ok

pub returns-clause-ok : goal.returns-clause-ok
returns-clause-ok c = all_decoded c.args.first.interface c.args.first.content.now c.captures-2.walk c.captures-2.invariant c.in_default.is
