use Rattle.racl_system.proofs.MergeLemmas.{all_looked, at_place, looked_at, passed_over, place_differs, place_is}
use Rattle.racl_system.proofs.merged_files.first_turn.Goals as goal

pub files-preserved-then-eq : goal.files-preserved-then-eq
files-preserved-then-eq g c = passed_over c.args.files.now c.args.but c.files.place c.files.first (place_is c.args.but c.files.place c.if-eq.ensures) c.files.invariant

pub files-preserved : goal.files-preserved
files-preserved g c =
    let file = c.index-files-place.result in
    looked_at c.args.files.now c.args.but c.files.place file c.files.first c.turn.result c.first_of-first.result c.first_of-first.ensures
    (place_differs c.args.but c.files.place c.if-eq.ensures)
    (at_place c.args.files.now c.files.place file c.files-test.true c.index-files-place.is) c.turn.ensures.some c.turn.ensures.none c.files.invariant

pub returns : goal.returns
returns g c = all_looked c.args.files.now c.args.but c.files.place c.files.first c.files-test.false c.files.invariant
