use Rattle.std.proofs.Common.{◌∙◌, ◌≤◌, ◌++◌, ◌+◌, ap, arith, length, take}
use Rattle.std.proofs.lemmas.List.{length-take-le}
use Rattle.racl_io.proofs.PieceLemmas.{counted_more}
use Rattle.racl_io.proofs.report_piece.Piece.push_first.Goals as goal

pub returns : goal.returns
returns c =
    let len = c.self.inside.len in
    let all = c.self.inside.room.len in
    let room = c.deref_mut.result.now in
    let count = c.args.count in
    let bytes = c.args.bytes.now in
    let within : len ≤ length room = omega (arith, c.self.invariant, ap length c.deref_mut.ensures.value) in
    let old = length-take-le len c.self.inside.room.items (omega (arith, c.self.invariant)) in
    let fits : len + count ≤ all = omega (arith, c.self.invariant, c.self.inside.room.ok.0, c.requires, old, ap length c.self.view_is) in
    counted_more room _ bytes _ _ all len count c.copy_from_slice.ensures.after within c.requires.within fits
    ∙ ap (λ bs. bs ++ take count bytes) (ap (take len) c.deref_mut.ensures.value ∙ c.self.view_is)
