use Rattle.std.proofs.Common.{◌∙◌, arith, sym}
use Rattle.racl_options.proofs.NameLemmas.{is_named, named_has_name, named_has_number, named_has_sign, no_bytes, some_bytes}
use Rattle.racl_options.proofs.named_files.capture_named.Goals as goal

pub returns-in_default-clause-none : goal.returns-in_default-clause-none
returns-in_default-clause-none c capture is = named_has_sign c.args.value.now capture is (c.in_default.ensures.byte (omega arith) (λ w o h. h))

pub returns-in_default-octet_of-clause-none : goal.returns-in_default-octet_of-clause-none
returns-in_default-octet_of-clause-none c capture is =
    let split = c.in-Some.ensures.byte (omega arith) (λ w o h. h) in
    named_has_number c.args.value.now c.as_bytes.result.now capture is (c.as_bytes.ensures.value ∙ split.0) (sym c.in_default-octet_of.ensures)

pub returns-then-is_empty-clause-none : goal.returns-then-is_empty-clause-none
returns-then-is_empty-clause-none c capture is =
    let split = c.in-Some.ensures.byte (omega arith) (λ w o h. h) in
    named_has_name c.args.value.now c.in-Some.name.now capture is split.1 (no_bytes c.in-Some.name.now c.if-is_empty.ensures)

pub returns-clause-some : goal.returns-clause-some
returns-clause-some c =
    let split = c.in-Some.ensures.byte (omega arith) (λ w o h. h) in
    is_named c.args.value.now c.as_bytes.result.now c.in-Some.name.now _ (c.as_bytes.ensures.value ∙ split.0, split.1, split.2) c.in-Some-octet_of.ensures (some_bytes c.in-Some.name.now c.if-is_empty.ensures)
