-- Lines of objects, one behind the other.
use Rattle.std.proofs.Common.{◌≡◌, ◌∙◌, ◌++◌, ◌+◌, ◌<◌, ℕ, List, [], ◌∷◌, append_assoc, ap, ap₂, drop, flat_map, get_or, length, refl, sym, take, Result, Ok, Err, IfOk}
use Rattle.json.specs.Json.{Json}
use Rattle.racl_io.specs.declared.totals_and_truncation.Captured.{Captured}
use Rattle.racl_io.proofs.LeftLemmas.{drop_one}
use Rattle.racl_views.specs.Entries.{EntryFacts}
use Rattle.racl_views.specs.Objects.{object_line, object_lines}
use Rattle.racl_views.specs.RunEntries.{captures_told, told_from}
use Rattle.racl_views.specs.inner.Tellings.{truncation_by}

pub object_lines-append : (a b : List Json) → object_lines (a ++ b) ≡ object_lines a ++ object_lines b
object_lines-append [] b = refl
object_lines-append (value ∷ a) b =
    ap (λ (t : List ℕ). object_line value ++ t) (object_lines-append a b) ∙ sym (append_assoc (object_line value) (object_lines a) (object_lines b))

pub lines_from : (tell : ℕ → EntryFacts → List Json) (n : ℕ) (entries : List EntryFacts)
    → object_lines (told_from tell n entries) ≡ told_from (λ m entry. object_lines (tell m entry)) n entries
lines_from tell n [] = refl
lines_from tell n (entry ∷ entries) =
    object_lines-append (tell n entry) (told_from tell (n + 1) entries) ∙ ap (λ (t : List ℕ). object_lines (tell n entry) ++ t) (lines_from tell (n + 1) entries)

-- the lines of all that is told of captures are those that are told of each
pub lines_of_captures : (tell : Captured → ℕ → EntryFacts → List Json) (end : Captured → List Json) (n : ℕ) (entries : List EntryFacts) (captures : List Captured)
    → object_lines (captures_told tell end n entries captures)
    ≡ captures_told (λ captured m entry. object_lines (tell captured m entry)) (λ captured. object_lines (end captured)) n entries captures
lines_of_captures tell end n entries [] = refl
lines_of_captures tell end n entries (captured ∷ captures) =
    let first = told_from (tell captured) n (take captured.packets entries) in
    let others = captures_told tell end (n + captured.packets) (drop captured.packets entries) captures in
    object_lines-append first (end captured ++ others)
    ∙ ap₂ (λ (a b : List ℕ). a ++ b) (lines_from (tell captured) n (take captured.packets entries))
    (object_lines-append (end captured) others
    ∙ ap (λ (t : List ℕ). object_lines (end captured) ++ t) (lines_of_captures tell end (n + captured.packets) (drop captured.packets entries) captures))

-- the objects of the captures that are left, after one more
pub cuts_next : (so_far now all : List ℕ) (captures : List Captured) (k : ℕ) (d : Captured) → k < length captures
    → now ≡ so_far ++ truncation_by (get_or captures k d) → so_far ++ flat_map truncation_by (drop k captures) ≡ all
    → now ++ flat_map truncation_by (drop (k + 1) captures) ≡ all
cuts_next so_far now all captures k d within more told =
    let cut = truncation_by (get_or captures k d) in
    let behind = flat_map truncation_by (drop (k + 1) captures) in
    ap (λ (t : List ℕ). t ++ behind) more ∙ append_assoc so_far cut behind
    ∙ ap (λ (cs : List Captured). so_far ++ flat_map truncation_by cs) (sym (drop_one captures k d within)) ∙ told

-- a text that was made behind one is made behind what it is
pub made_behind : {V E : Type 0} (items : V → List ℕ) (result : Result V E) (text front last : List ℕ) → text ≡ front
    → IfOk result (λ v. items v ≡ text ++ last) → IfOk result (λ v. items v ≡ front ++ last)
made_behind items (Ok v) text front last same is = is ∙ ap (λ (t : List ℕ). t ++ last) same
made_behind items (Err e) text front last same is = tt
