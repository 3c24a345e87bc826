use Rattle.std.proofs.Common.{◌≡◌, ◌∙◌, ℕ, List, [], length, ap, sym, subst, refl, le_refl, Option, None}
use Rattle.atomic_table.specs.Table.{opening}
use Rattle.bihash_words.specs.Sizes.{sizes_of}
use Rattle.bihash_rule.specs.Callers.{IsLawfulCaller}
use Rattle.bihash_steps.specs.Seats.{CanAct, stamp_of}
use Rattle.bihash_rule.specs.Views.{opening_view}
use Rattle.bihash_rule.specs.WordRule.{WordRule}
use Rattle.bihash_steps.specs.Renewals.{AreRenewed, IsRenewed}
use Rattle.bihash_steps.specs.Steps.{ViewOfSeat}
use Rattle.bihash_rule.specs.declared.view.Openings.{Openings}
use Rattle.bihash_steps.proofs.RenewedRows.{reopens, renewed_lawful, is_renewed, has_fields}
use Rattle.bihash_steps.proofs.renewed_row.reopen_row.Goals as goal

pub renewed_words-requires-clause-wide : goal.renewed_words-requires-clause-wide
renewed_words-requires-clause-wide g c = let row = c.requires.words in ap (λ (ws : List ℕ). length ws) (sym row.are) ∙ row.rule.wide

pub renewed_words-requires-clause-fields : goal.renewed_words-requires-clause-fields
renewed_words-requires-clause-fields g c = has_fields (sizes_of g.S.Shape) _ _ c.requires.words c.requires.free

pub of_words-requires : goal.of_words-requires
of_words-requires g c =
    let z = sizes_of g.S.Shape in
    subst (λ (o : Openings). WordRule z (opening c.as_slice.result.now [] (opening_view z o)))
    (sym c.renewed_mark.ensures) (reopens z _ _ c.requires.words c.requires.free c.as_slice.result.now
    (subst (AreRenewed z _) (sym c.as_slice.ensures.value) c.in_ok-renewed.ensures))

pub returns-clause-renewed : goal.returns-clause-renewed
returns-clause-renewed g c =
    let z = sizes_of g.S.Shape in
    subst (IsRenewed z _) (sym (ap (λ (m : ViewOfSeat). m.0) c.in_ok-table.ensures.4 ∙ ap (opening_view z) c.renewed_mark.ensures))
    (is_renewed z _ _ c.requires.words c.requires.free)

pub returns-clause-mark : goal.returns-clause-mark
returns-clause-mark g c = ap (λ (m : ViewOfSeat). m.0.known.openings.used) c.in_ok-table.ensures.4
    ∙ ap (λ (o : Openings). o.used) c.renewed_mark.ensures

pub returns-clause-lawful : goal.returns-clause-lawful
returns-clause-lawful g c =
    let z = sizes_of g.S.Shape in
    subst (IsLawfulCaller z) (sym (ap (λ (m : ViewOfSeat). m.0) c.in_ok-table.ensures.4 ∙ ap (opening_view z) c.renewed_mark.ensures))
    (renewed_lawful z _ _ c.requires.words c.requires.free)

pub invariant_of-seat : goal.invariant_of-seat
invariant_of-seat g c = subst (λ (m : ViewOfSeat). (m.1 ≡ []) × CanAct m.0 1 × ◌≡◌ {A = Option (ℕ × ℕ)} None (stamp_of m.0.records))
    (sym c.in_ok-table.ensures.4)
    (refl, record { count = refl; some = le_refl 1 }, refl)
