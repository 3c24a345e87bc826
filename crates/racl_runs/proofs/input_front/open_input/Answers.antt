use Rattle.std.proofs.Common.{arith, inl, inr, refl, sym, subst}
use Rattle.std.proofs.lemmas.Result.{err_from_is_err_and}
use Rattle.racl_io.specs.declared.marker_line.Form.{Form}
use Rattle.racl_io.specs.declared.marker_line.Form.TheVariants.{Binary}
use Rattle.racl_io.specs.Inputs.{InputFacts, IsContent, IsInput, input_facts}
use Rattle.racl_report.proofs.CaptureLaws.{IsUnnumbered}
use Rattle.racl_runs.proofs.OpenedLemmas.{capture_stands, content_behind, header_answers, records_behind_header, records_within_input, text_before, text_within}
use Rattle.racl_runs.proofs.OutcomeLemmas.{no_marker_answers, policy_answers}
use Rattle.racl_runs.proofs.input_front.open_input.Goals as goal

pub returns-in_default-clause-fault : goal.returns-in_default-clause-fault
returns-in_default-clause-fault c = no_marker_answers _ _ c.in_default.ensures.none

pub returns-in_err-policy-clause-fault : goal.returns-in_err-policy-clause-fault
returns-in_err-policy-clause-fault c =
    let p = err_from_is_err_and c.from_residual.result c.from_residual.ensures.1 in
    rw (p.1, p.2) (policy_answers _ _ _ _ c.in-Some.ensures.some c.in_err-policy.ensures.accepts c.in_err-policy.ensures.fault c.in_err-policy.ensures.refuses)

pub returns-in_err-order-in-Binary-clause-fault : goal.returns-in_err-order-in-Binary-clause-fault
returns-in_err-order-in-Binary-clause-fault c =
    let p = err_from_is_err_and c.from_residual-in_err-order-in-Binary.result c.from_residual-in_err-order-in-Binary.ensures.1 in
    let header = c.in_err-order-in-Binary.ensures in
    rw (p.1, p.2)
    (header_answers _ _ _ _ c.in-Some.ensures.some
    (record { says = c.in_ok-policy.ensures.ok; one = c.in_ok-policy.ensures.accepts; right = c.in_ok-policy.ensures.refuses })
    (subst IsUnnumbered (sym c.in-Binary.is) tt)
    c.in-Some.input.content.now (subst (λ form. IsContent form c.in-Some.input.content.now c.in-Some.input.content.now) (sym c.in-Binary.is) refl)
    _ header.fault (λ order is. let e = header.accepts order is in cc) (λ cause is. let e = header.refuses cause is in cc))

pub returns-in_ok-order-in-Binary-clause-ok : goal.returns-in_ok-order-in-Binary-clause-ok
returns-in_ok-order-in-Binary-clause-ok c =
    let input = c.in-Some.input in
    let bytes = c.args.bytes.now in
    let header = c.in_ok-order-in-Binary.ensures in
    let parted : IsInput bytes (record { policy = input.policy.now; form = Binary; content = input.content.now }) =
    subst (λ (form : Form). IsInput bytes (record { policy = input.policy.now; form = form; content = input.content.now })) c.in-Binary.is c.in-Some.ensures.some in
    let last = capture_stands input.policy.now input.content.now bytes header.ok.whole parted in
    let parts : InputFacts = record { policy = input.policy.now; form = Binary; content = input.content.now } in
    record {
      parts = parts;
      parted = parted;
      policy = record { says = c.in_ok-policy.ensures.ok; one = c.in_ok-policy.ensures.accepts; right = c.in_ok-policy.ensures.refuses };
      times = refl;
      form = refl;
      header = record {
        right = header.ok;
        one = λ other right. let e = header.accepts other right in cc;
        none = λ cause is. let e = header.refuses cause is in cc;
      };
      text = text_before bytes parts parted;
      within = (text_within bytes parts parted, records_within_input bytes input.content.now last header.ok.whole);
      behind = records_behind_header bytes input.content.now last;
    }

pub returns-in-Hexadecimal : goal.returns-in-Hexadecimal
returns-in-Hexadecimal c =
    let input = c.in-Some.input in
    let bytes = c.args.bytes.now in
    let parts = input_facts input in
    record {
      ok = (
        record {
          parts = parts;
          parted = c.in-Some.ensures.some;
          policy = record { says = c.in_ok-policy.ensures.ok; one = c.in_ok-policy.ensures.accepts; right = c.in_ok-policy.ensures.refuses };
          times = refl;
          form = refl;
          text = text_before bytes parts c.in-Some.ensures.some;
          within = (text_within bytes parts c.in-Some.ensures.some, omega arith);
          content = content_behind bytes parts c.in-Some.ensures.some;
          fit = λ place. omega (arith, c.type_inv.bytes place);
        },
        λ binary. elim c.in-Hexadecimal.is [ inl same ↦ (let f : ⊥ = cc in f) | inr numbered ↦ (let same = numbered.1 in let f : ⊥ = cc in f) ],
      );
      fault = tt;
    }
