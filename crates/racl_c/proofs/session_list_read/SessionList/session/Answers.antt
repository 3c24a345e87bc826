-- The pair at the place is that of the list's pairs.
use Rattle.std.proofs.Common.{◌∙◌, ℕ, List, ap, slice_get, sym}
use Rattle.racl_views.specs.SessionLines.{four_flow}
use Rattle.racl_c.specs.Sessions.{session_at, told_of_pair}
use Rattle.racl_c.specs.declared.session_list_read.ClosedPairs.{ClosedPairs}
use Rattle.racl_c.proofs.session_list_read.SessionList.session.Goals as goal

pub returns-in-Four : goal.returns-in-Four
returns-in-Four c =
    let times = c.args.self.now.times in
    let pair = c.pair_at.ensures ∙ ap (λ (ps : List (List ℕ × ℕ)). slice_get ps c.args.at) c.deref.ensures.value in
    c.four_told.ensures ∙ (ap (told_of_pair times four_flow) pair
    ∙ sym (ap (λ (x : ClosedPairs). session_at times x c.args.at) c.in-Four.is))
