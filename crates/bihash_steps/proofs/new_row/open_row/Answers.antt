use Rattle.std.proofs.Common.{◌≡◌, ℕ, [], ap, sym, subst, refl, le_refl, Option, None}
use Rattle.bihash_rule.specs.Callers.{IsLawfulCaller}
use Rattle.bihash_steps.specs.Seats.{CanAct, stamp_of}
use Rattle.bihash_rule.specs.Words.{IsFresh}
use Rattle.bihash_steps.specs.Steps.{ViewOfSeat}
use Rattle.bihash_steps.proofs.Fresh.{starts, first_lawful}
use Rattle.bihash_steps.proofs.new_row.open_row.Goals as goal

pub of_words-requires : goal.of_words-requires
of_words-requires g c = starts _ _ c.requires.sound (subst (IsFresh _) (sym c.as_slice.ensures.value) c.in_ok-words.ensures)

pub returns-clause-lawful : goal.returns-clause-lawful
returns-clause-lawful g c = subst (IsLawfulCaller _) (sym (ap (λ (m : ViewOfSeat). m.0) c.in_ok-table.ensures.4)) (first_lawful _)

pub invariant_of-seat : goal.invariant_of-seat
invariant_of-seat g c = subst (λ (m : ViewOfSeat). (m.1 ≡ []) × CanAct m.0 1 × ◌≡◌ {A = Option (ℕ × ℕ)} None (stamp_of m.0.records))
    (sym c.in_ok-table.ensures.4)
    (refl, record { count = refl; some = le_refl 1 }, refl)
