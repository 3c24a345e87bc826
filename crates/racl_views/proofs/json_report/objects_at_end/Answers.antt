use Rattle.std.proofs.Common.{◌∙◌, ◌++◌, List, ap, append-nil, flat_map, sym}
use Rattle.std.proofs.Math.ListN.{drop_of_length-le}
use Rattle.racl_io.specs.declared.totals_and_truncation.Captured.{Captured}
use Rattle.racl_views.specs.Objects.{object_line}
use Rattle.racl_views.specs.PacketObjects.{totals_object}
use Rattle.racl_views.specs.inner.Tellings.{truncation_by}
use Rattle.racl_views.proofs.ObjectLemmas.{cuts_next, made_behind}
use Rattle.racl_views.proofs.json_report.objects_at_end.Goals as goal

pub each-preserved : goal.each-preserved
each-preserved c = cuts_next c.each.text.items _ _ c.args.captures.now c.each.captured-index _ c.each-test.true c.in_ok-text.ensures c.each.invariant

pub returns : goal.returns
returns c =
    let none = drop_of_length-le c.args.captures.now c.each-test.false in
    let all = sym (append-nil c.each.text.items) ∙ ap (λ (cs : List Captured). c.each.text.items ++ flat_map truncation_by cs) (sym none) ∙ c.each.invariant in
    made_behind (λ v. v.items) c.push_totals.result c.each.text.items _ (object_line (totals_object c.args.totals.now)) all c.push_totals.ensures
