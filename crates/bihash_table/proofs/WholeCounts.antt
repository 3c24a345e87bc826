-- What a caller that counts the callers before a table ends knows of it, whether the table ends or not.
use Rattle.std.proofs.Common.{◌≡◌, ◌≢◌, ◌∙◌, ◌<◌, ℕ, true, length, arith, eq-eqb, sym, ap, subst}
use Rattle.bihash_words.specs.Sizes.{Sizes}
use Rattle.bihash_steps.specs.CallerCalls.{HasCounted, IsIdle}
use Rattle.bihash_rule.specs.Callers.{HasNumbers}
use Rattle.bihash_steps.specs.Seats.{CallerState, with_view}
use Rattle.bihash_steps.specs.Steps.{HaveBearers, IsToldWhole, view_after_count}
use Rattle.bihash_rule.specs.declared.view.Notes.{Notes}
use Rattle.bihash_rule.specs.declared.view.View.{View}
use Rattle.bihash_steps.proofs.Numbers.{few_numbers}
use Rattle.bihash_table.specs.Closing.{LeavesStrangers, StaysWhole, WasWhole}
use Rattle.bihash_table.specs.inner.PairLists.{IsIdleAndLone}
use Rattle.bihash_table.specs.inner.RowWords.{HasNoted}

-- what a caller is told that has all numbers does not rest on its notes
told_noted : (z : Sizes) (v : View) (n : Notes) → IsToldWhole z v → IsToldWhole z (record v { notes = n })
told_noted z v n told = record { whole = told.whole; made = told.made; short = told.short }

module _ (z : Sizes) (s t : CallerState) (count numbers : ℕ) (h : HasCounted z s t count) (counted : numbers ≡ length t.view.records) where
  is : t.view ≡ view_after_count s.view count
  is = ap (λ (c : CallerState). c.view) h.view

  own : numbers ≡ length s.view.records
  own = counted ∙ ap (λ (u : View). length u.records) is

  pub strangers_left : count ≢ numbers → (t ≡ with_view s t.view) × LeavesStrangers z s.view t.view
  strangers_left other =
      let few = few_numbers count s.view.records (subst (λ (u : View). HasNumbers u.seen u.records) is h.lawful.numbers) in
      let mine = own in
      let less : length s.view.records < count = omega arith in
      (h.view ∙ ap (with_view s) (sym is), (count, h.rises, less, is, h.bearers))

  module _ (same : count ≡ numbers) where
    all : count ≡ length s.view.records
    all = same ∙ own

    lone_then : t.view.lone ≡ true
    lone_then = ap (λ (u : View). u.lone) is ∙ eq-eqb count (length s.view.records) all

    -- it is idle then, as it was
    pub idle_then : {row : _} → IsIdle row s → IsIdleAndLone z row t
    idle_then idle = record {
      own = ap (λ (c : CallerState). c.row) h.view ∙ idle.own;
      free = ap (λ (u : View). u.holds) is ∙ idle.free;
      lone = lone_then;
      lawful = h.lawful;
      bare = ap (λ (u : View). u.notes) is;
    }

    pub was_whole : WasWhole z s.view
    was_whole = record {
      count = count;
      rises = h.rises;
      all = all;
      told = subst (IsToldWhole z) is (h.whole lone_then);
      bearers = subst (HaveBearers z) is h.bearers;
    }

    pub stays_whole : (u : CallerState) → HasNoted z t u → (u ≡ with_view s u.view) × StaysWhole z s.view u.view
    stays_whole u noted =
        let w : View = u.view in
        let then : w ≡ record t.view { notes = w.notes } = ap (λ (c : CallerState). c.view) noted.same in
        let here : w ≡ record (view_after_count s.view count) { notes = w.notes } = then ∙ ap (λ (x : View). record x { notes = w.notes }) is in (
          noted.same ∙ (ap (λ (c : CallerState). with_view c (record c.view { notes = w.notes })) h.view ∙ ap (with_view s) (sym here)),
          (
            count,
            h.rises,
            all,
            here,
            subst (IsToldWhole z) (sym then) (told_noted z t.view w.notes (h.whole lone_then)),
            subst (HaveBearers z) (sym then) h.bearers,
          ),
        )
