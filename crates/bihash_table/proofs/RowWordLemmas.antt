-- A lone caller loads the words of its row, one after the other.
use Rattle.std.proofs.Common.{◌≡◌, ℕ, ◌+◌, ◌<◌, true, List, [], ◌∷◌, ◌++◌, length, refl, sym, ap, ◌∙◌, subst, arith, length-append}
use Rattle.std.specs.Prelude.{IfOk}
use Rattle.std.specs.declared.result.Result.{Result}
use Rattle.std.specs.declared.result.Result.TheVariants.{Ok, Err}
use Rattle.bihash_words.specs.Sizes.{Sizes}
use Rattle.bihash_rule.specs.Words.{all_words}
use Rattle.bihash_rule.specs.Callers.{IsLawfulCaller}
use Rattle.bihash_steps.specs.Renewals.{AreRowWords, IsNextWord, IsRenewed, LoadsRowWord, view_after_load}
use Rattle.bihash_steps.specs.Seats.{CallerState, with_view}
use Rattle.bihash_rule.specs.Views.{no_notes}
use Rattle.bihash_steps.specs.Steps.{view_after_count}
use Rattle.bihash_rule.specs.declared.view.Known.{Known}
use Rattle.bihash_rule.specs.declared.view.Notes.{Notes}
use Rattle.bihash_rule.specs.declared.view.View.{View}
use Rattle.bihash_steps.proofs.CountWord.{some_words}
use Rattle.bihash_table.specs.inner.RowWords.{HasNoted, HasLoaded}

noted_as : (s u : CallerState) (n : Notes) → u ≡ with_view s (record s.view { notes = n })
    → u ≡ with_view s (record s.view { notes = u.view.notes })
noted_as s u n e = e ∙ ap (λ (m : Notes). with_view s (record s.view { notes = m })) (sym (ap (λ (k : CallerState). k.view.notes) e))

-- what a row began with that was made of the words of a caller's row rests on what the caller knows of the buckets
renewed_known : (z : Sizes) (v v' w : View) → v'.known ≡ v.known → IsRenewed z v' w → IsRenewed z v w
renewed_known z v v' w same h = subst (λ (k : Known). IsRenewed z (record v { known = k }) w) same record {
  first = h.first;
  maps = h.maps;
  used = h.used;
  few = h.few;
}

module _ (z : Sizes) (s : CallerState) where
  pub renewed_noted : (t : CallerState) (w : View) → HasNoted z s t → IsRenewed z t.view w → IsRenewed z s.view w
  renewed_noted t w h = renewed_known z s.view t.view w (ap (λ (k : CallerState). k.view.known) h.same)

  pub renewed_counted : (t : CallerState) (count : ℕ) (w : View) → t ≡ with_view s (view_after_count s.view count) → IsRenewed z t.view w
      → IsRenewed z s.view w
  renewed_counted t count w is = renewed_known z s.view t.view w (ap (λ (k : CallerState). k.view.known) is)

  -- before the first word
  pub loaded_none : s.view.notes ≡ no_notes → IsLawfulCaller z s.view → HasLoaded z s s 0 []
  loaded_none bare lawful = record {
    noted = record { same = refl; lawful = lawful };
    row = ap (λ (n : Notes). n.row) bare;
    counted = refl;
    all = λ e. let some = some_words z in absurd (omega arith);
  }

  module _ (t : CallerState) (at : ℕ) (words : List ℕ) (h : HasLoaded z s t at words) where
    -- the next word may be loaded
    pub next_word : s.view.lone ≡ true → at < all_words z → IsNextWord z t.view at
    next_word lone inside = record {
      lone = ap (λ (k : CallerState). k.view.lone) h.noted.same ∙ lone;
      next = h.counted ∙ sym (ap length h.row);
      inside = inside;
    }

    -- it was noted
    pub noted_next : (u : CallerState) (word : ℕ) → LoadsRowWord z t u word → HasNoted z s u
    noted_next u word load = record {
      same = noted_as s u (record no_notes { row = t.view.notes.row ++ word ∷ [] })
          (load.view ∙ ap (λ (k : CallerState). with_view k (view_after_load k.view word)) h.noted.same);
      lawful = load.lawful;
    }

    pub loaded_next : (u : CallerState) (word : ℕ) → LoadsRowWord z t u word → HasLoaded z s u (at + 1) (words ++ word ∷ [])
    loaded_next u word load = record {
      noted = noted_next u word load;
      row = now;
      counted = long;
      all = λ e. subst (AreRowWords z u.view) now (load.row (ap length now ∙ (sym long ∙ e)));
    }
      where
        now : u.view.notes.row ≡ words ++ word ∷ []
        now = ap (λ (k : CallerState). k.view.notes.row) load.view ∙ ap (λ (ws : List ℕ). ws ++ word ∷ []) h.row

        long : at + 1 ≡ length (words ++ word ∷ [])
        long = let a = length-append words (word ∷ []) in let c = h.counted in omega arith

-- what follows from an answer follows where there is one
pub if_ok : {A E : Type 0} (P Q : A → Type 0) (r : Result A E) → ((a : A) → P a → Q a) → IfOk r P → IfOk r Q
if_ok P Q (Ok a) follows h = follows a h
if_ok P Q (Err e) follows h = tt
