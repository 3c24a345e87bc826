use Rattle.std.proofs.Common.{◌∙◌, ◌++◌, [], ◌∷◌, List, ℕ, ap, refl, subst}
use Rattle.packet_view.specs.Captures.{IsCapture, end_of, packets_at}
use Rattle.packet_view.specs.CheckedCaptures.{packets_of, records_of}
use Rattle.racl_runs.proofs.digit_captures.decode_behind.Goals as goal

pub returns-clause-ok : goal.returns-clause-ok
returns-clause-ok c =
    let checked = c.in_ok-checked.checked in
    let records = records_of checked.records in
    record {
      capture = record { interface = c.args.interface; bytes = c.in-Ok.bytes };
      at = refl;
      spelt = c.in-Ok.ensures.ok;
      packets = packets_of checked.records;
      truncated = checked.truncated;
      records = (
        records,
        subst (λ (b : List ℕ). IsCapture b records (end_of checked.truncated)) c.deref.ensures.value c.in_ok-checked.ensures.ok,
        ap (λ n. packets_at n records) c.in_ok-checked.ensures.at,
      );
      captures = c.in_ok-push-2.ensures.items;
      told = c.in_ok-push.ensures.items ∙ ap (λ n. c.args.decoded.told.items ++ record { named = c.args.named; packets = n; truncated = checked.truncated } ∷ []) c.count.ensures;
    }
