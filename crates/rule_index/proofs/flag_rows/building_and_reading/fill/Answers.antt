use Rattle.std.proofs.Common.{arith, ◌≤◌, ◌<◌, ◌/◌, length, map}
use Rattle.std.proofs.lemmas.List.{length-map}
use Rattle.std.proofs.lemmas.Option.{slice_get_within}
use Rattle.acl_policy.specs.Rules.{rule_facts}
use Rattle.rule_index.specs.Rows.{TurnsAt}
use Rattle.rule_index.proofs.TurnLemmas.{between, Sums}
use Rattle.rule_index.proofs.flag_rows.building_and_reading.fill.Goals as goal

pub mark_asking-requires-clause-free : goal.mark_asking-requires-clause-free
mark_asking-requires-clause-free c = λ k x rule read none within.
    let below : k < length (map rule_facts c.args.rules.now) = slice_get_within (map rule_facts c.args.rules.now) k rule read in
    let short : k / 64 < c.args.width = omega (arith, below, length-map c.args.rules.now rule_facts) in
    let sums : Sums 256 c.args.width c.mark_free.new.rows c.accumulate.new.rows =
    record { len = omega arith; first = c.accumulate.ensures.first; rest = c.accumulate.ensures.rest } in
    let turns : TurnsAt 256 c.args.width c.mark_free.new.rows k 0 255 =
    record { begins = c.mark_free.ensures.first k rule read none; still = λ row inside apart behind. c.mark_free.ensures.still row k short apart } in
    let rising : 0 ≤ 255 = omega arith in
    let both = between 256 c.args.width c.mark_free.new.rows c.accumulate.new.rows k 0 255 sums short turns rising x within (omega arith) in
    both.1 (omega arith)
