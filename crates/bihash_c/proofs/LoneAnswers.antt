-- What a caller that asks whether it is alone then knows of why its table does not end.
use Rattle.std.proofs.Common.{◌≡◌, ◌∙◌, ◌<◌, ◌≢◌, ℕ, Bool, true, false, length, arith, ap, subst, sym}
use Rattle.std.proofs.lemmas.Bool.{eqb-false, eqb-true}
use Rattle.bihash_words.specs.Sizes.{Sizes}
use Rattle.bihash_rule.specs.Callers.{HasNumbers}
use Rattle.bihash_rule.specs.declared.view.View.{View}
use Rattle.bihash_steps.specs.Seats.{CallerState, with_view}
use Rattle.bihash_steps.specs.Steps.{view_after_count}
use Rattle.bihash_steps.proofs.Numbers.{few_numbers}
use Rattle.bihash_table.specs.Calls.{TellsLone}
use Rattle.bihash_table.specs.Closing.{LeavesStrangers, StaysWhole}
use Rattle.bihash_c.specs.CallersWithTable.{IsEndTold}
use Rattle.bihash_c.specs.declared.end_of_table.EndFault.TheVariants.{Strangers, Contended}

module _ (z : Sizes) (s t : CallerState) (answer : Bool) (h : TellsLone z s t answer) where
  abbrev count : ℕ
  count = h.counted.0

  is : t.view ≡ view_after_count s.view count
  is = ap (λ (c : CallerState). c.view) h.counted.2

  same : t ≡ with_view s t.view
  same = h.counted.2 ∙ ap (with_view s) (sym is)

  strangers_left : answer ≡ false → LeavesStrangers z s.view t.view
  strangers_left differs =
      let few = few_numbers count s.view.records (subst (λ (u : View). HasNumbers u.seen u.records) is h.lawful.numbers) in
      let other : count ≢ length s.view.records = eqb-false count (length s.view.records) (sym h.counted.3 ∙ differs) in
      let less : length s.view.records < count = omega arith in
      (count, h.counted.1, less, is, h.bearers)

  stays_whole : answer ≡ true → StaysWhole z s.view t.view
  stays_whole all = (
    count,
    h.counted.1,
    eqb-true count (length s.view.records) (sym h.counted.3 ∙ all),
    is ∙ ap (λ (u : View). record (view_after_count s.view count) { notes = u.notes }) (sym is),
    h.whole all,
    h.bearers,
  )

  pub told_strangers : answer ≡ false → IsEndTold z s Strangers t
  told_strangers differs = record { same = same; refused = strangers_left differs; lawful = h.lawful }

  pub told_contended : answer ≡ true → IsEndTold z s Contended t
  told_contended all = record { same = same; refused = stays_whole all; lawful = h.lawful }
