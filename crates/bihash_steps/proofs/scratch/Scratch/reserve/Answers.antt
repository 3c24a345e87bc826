use Rattle.std.proofs.Common.{◌∙◌, sym}
use Rattle.bihash_steps.proofs.Bounds.{places_are}
use Rattle.bihash_steps.proofs.scratch.Scratch.reserve.Goals as goal

pub invariant_of-result-clause-old_room : goal.invariant_of-result-clause-old_room
invariant_of-result-clause-old_room g c = sym c.in_ok-old_places.old_places.ok.0
    ∙ places_are _ _ _ c.requires.few c.MAX_LOG2.ensures c.in_ok-old_places.ensures.len

pub invariant_of-result-clause-new_room : goal.invariant_of-result-clause-new_room
invariant_of-result-clause-new_room g c = sym c.in_ok-new_places.new_places.ok.0
    ∙ places_are _ _ _ c.requires.few c.MAX_LOG2.ensures c.in_ok-new_places.ensures.len
