use Rattle.std.proofs.Common.{arith, length, refl}
use Rattle.std.proofs.lemmas.List.{length-map}
use Rattle.std.proofs.lemmas.Option.{slice_get_read}
use Rattle.acl_policy.specs.Rules.{rule_facts}
use Rattle.acl_policy.proofs.RulingLemmas.{slice_get-rule_facts}
use Rattle.rule_cover.proofs.PieceLemmas.{beside_next, parting_at}
use Rattle.rule_cover.proofs.piece_meeting.first_meeting.Goals as goal

pub returns-in_default-clause-meets : goal.returns-in_default-clause-meets
returns-in_default-clause-meets c =
    let rules = c.args.rules.now in
    let rule = c.index-rules-place.result in
    let at = slice_get-rule_facts rules c.loop-place.place rule (slice_get_read rules (length rules) c.loop-place.place rule refl (omega arith) c.index-rules-place.is) in
    record {
      low = omega arith;
      high = omega (arith, length-map rules rule_facts);
      beside = c.loop-place.invariant.0;
      parts = parting_at _ c.args.piece.now.region c.loop-place.place (rule_facts rule) c.part_by.result at c.part_by.ensures c.in_default.not-Apart;
    }

pub loop-place-preserved : goal.loop-place-preserved
loop-place-preserved c =
    let rules = c.args.rules.now in
    let rule = c.index-rules-place.result in
    let at = slice_get-rule_facts rules c.loop-place.place rule (slice_get_read rules (length rules) c.loop-place.place rule refl (omega arith) c.index-rules-place.is) in (
      beside_next _ c.args.piece.now.region c.args.piece.now.place c.loop-place.place (rule_facts rule) c.loop-place.invariant.0 at c.in-Apart.ensures,
      omega (arith, c.loop-place.invariant.1),
    )
