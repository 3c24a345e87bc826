use Rattle.std.proofs.Common.{◌∷◌, [], codes}
use Rattle.racl_views.specs.Objects.{number}
use Rattle.racl_views.proofs.FieldLemmas.{added_both, line_done}
use Rattle.racl_views.proofs.shard_lines.shard_object_text.Goals as goal

pub returns : goal.returns
returns c =
    let it = c.args.shard in
    let first = number (codes "shard") it.number ∷ [] in
    let second = number (codes "shards") it.count ∷ [] in
    let third = number (codes "capture_packets") it.packets ∷ [] in
    let fourth = number (codes "capture_until") it.latest ∷ [] in
    let two = added_both _ _ _ third fourth c.in_ok-add_number-3.ensures (rw c.from.ensures at c.in_ok-add_number-4.ensures) in
    let three = added_both _ _ _ second _ c.in_ok-add_number-2.ensures two in
    line_done (λ v. v.items) _ _ _ _ _ c.in_ok-object.ensures (added_both _ _ _ first _ c.in_ok-add_number.ensures three) c.end_json_object.ensures
