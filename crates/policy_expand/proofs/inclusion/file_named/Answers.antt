use Rattle.std.proofs.Common.{◌≡◌, ◌≢◌, ◌∙◌, ◌<◌, arith, length, sym, true}
use Rattle.std.proofs.lemmas.Bool.{eq-eqb}
use Rattle.policy_expand.proofs.InclusionLemmas.{found_first}
use Rattle.policy_expand.proofs.inclusion.file_named.Goals as goal

pub returns-then-is_named-clause-found : goal.returns-then-is_named-clause-found
returns-then-is_named-clause-found c =
    let some : length c.files.rest.now ≢ 0 = λ none.
    let empty : c.is_empty.result ≡ true = c.is_empty.ensures ∙ eq-eqb (length c.files.rest.now) 0 none in
    let more = c.files-test.true in
    cc in
    let small : 0 < length c.files.rest.now = omega (arith, some) in
    let found = found_first c.files.rest.now c.args.name.now c.index-rest-0.result c.index-rest-0-then-is_named.result small c.index-rest-0.is
    c.index-rest-0-then-is_named.is (sym c.is_named.ensures ∙ c.if-is_named.true) in
    (found.0, sym c.files.invariant ∙ found.1)
