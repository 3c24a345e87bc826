use Rattle.std.proofs.Common.{◌∷◌, [], codes}
use Rattle.session_state.specs.Sessions.{live_until}
use Rattle.racl_views.specs.Objects.{number}
use Rattle.racl_views.specs.SessionLines.{ends_field, flow_facts}
use Rattle.racl_views.proofs.FieldLemmas.{added_both, line_done}
use Rattle.racl_views.proofs.sessions_as_text_and_json.session_object.Goals as goal

pub returns : goal.returns
returns c =
    let flow = flow_facts c.args.flow.now in
    let session = c.args.session.now in
    let interface = number (codes "interface") flow.interface ∷ [] in
    let protocol = number (codes "protocol") flow.proto ∷ [] in
    let last = number (codes "last") session.last ∷ [] in
    let until = number (codes "until") (live_until session c.args.times.now) ∷ [] in
    let seconds = added_both _ _ _ last until (rw (c.from-3.ensures, c.last.ensures) at c.in_ok-add_number-3.ensures) (rw c.session_live_until.ensures at c.in_ok-add_number-4.ensures) in
    let ends = added_both _ _ _ (ends_field flow session ∷ []) _ c.in_ok-add_ends.ensures seconds in
    let behind = added_both _ _ _ protocol _ (rw c.from-2.ensures at c.in_ok-add_number-2.ensures) ends in
    line_done (λ v. v.items) _ _ _ _ _ c.in_ok-object.ensures (added_both _ _ _ interface _ (rw c.from.ensures at c.in_ok-add_number.ensures) behind) c.end_json_object.ensures
