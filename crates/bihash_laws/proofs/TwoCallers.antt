-- A state in which two callers are at rest.
use Rattle.std.proofs.Common.{◌≡◌, ℕ, zero, suc, ◌-◌, ◌*◌, ◌^◌, ◌<◌, ◌≤◌, List, [], ◌∷◌, replicate, refl, ap, ◌∙◌, arith}
use mathlib.Core.Option.{some}
use lib.ListN.{get_elem?, get_or-replicate}
use Rattle.std.specs.Prelude.{slice_index}
use Rattle.std.proofs.lemmas.List.{length-replicate}
use Rattle.atomic_table.specs.Table.{opening}
use Rattle.bihash_words.specs.Sizes.{IsSound, Sizes}
use Rattle.bihash_rule.specs.Words.{IsFresh, all_words, page_words}
use Rattle.bihash_rule.specs.Views.{first_view}
use Rattle.bihash_rule.specs.WordRule.{WordRule}
use Rattle.bihash_steps.specs.Steps.{newcomer, parent, view_after_number}
use Rattle.bihash_steps.proofs.CountWord.{front}
use Rattle.bihash_steps.proofs.Fresh.{starts}
use Rattle.bihash_steps.proofs.LogLemmas.{begins_refl}
use Rattle.bihash_steps.proofs.caller_steps.CutAndJoin.{splits_numbers}
use Rattle.bihash_steps.proofs.caller_steps.LoadCount.{takes_number}
use Rattle.bihash_laws.specs.LogLaws.{RowState}
use Rattle.bihash_laws.specs.RealTime.{IsKnownIn, IsYetToCall}
use Rattle.bihash_laws.proofs.RealTime.{yet_begins}
use Rattle.bihash_rule.specs.declared.view.View.{View}

-- the words of a new row
abbrev fresh_words : ℕ → List ℕ
fresh_words n = 1 ∷ replicate n 0

fresh : (z : Sizes) (n : ℕ) → suc n ≡ all_words z → IsFresh z (fresh_words n)
fresh z n is = record { wide = ap suc (length-replicate n 0) ∙ is; one = refl; empty = no_word }
  where
    no_word : (i : ℕ) → 1 ≤ i → i < all_words z → slice_index (fresh_words n) i ≡ 0
    no_word zero l h = absurd (omega arith)
    no_word (suc i) l h = let all : ℕ = all_words z in let less : suc i < all = h in let same : suc n ≡ all = is in
        get_or-replicate n i 0 0 (omega (arith, less, same))

some_words : (z : Sizes) → suc (all_words z - 1) ≡ all_words z
some_words z = let top = front z in let pages : ℕ = z.pages * page_words z in omega arith

one_word : 1 < 2 ^ 64
one_word = omega arith

pub at_rest : (z : Sizes) → IsSound z → (s : RowState) × WordRule z s
    × (get_elem? s.views 0 ≡ some (parent (first_view z) 1)) × (get_elem? s.views 1 ≡ some (newcomer (first_view z) 1))
    × IsYetToCall s (parent (first_view z) 1) × IsYetToCall s (newcomer (first_view z) 1)
    × IsKnownIn s (parent (first_view z) 1).log × IsKnownIn s (newcomer (first_view z) 1).log
at_rest z sound =
    let words : List ℕ = fresh_words (all_words z - 1) in
    let begun : RowState = opening words [] (first_view z) in
    let numbered = takes_number z 0 0 1 (first_view z, []) (let many = sound.some_callers in omega arith) (omega arith) begun
    (starts z words sound (fresh z (all_words z - 1) (some_words z))) refl refl one_word in
    let both : View = view_after_number (first_view z) 1 in
    let r = splits_numbers z 0 1 both refl _ numbered.3 (ap some (numbered.4.taken refl)) in (
      _,
      r,
      refl,
      refl,
      yet_begins z _ r 0 (parent (first_view z) 1) refl (omega arith),
      yet_begins z _ r 1 (newcomer (first_view z) 1) refl (omega arith),
      (0, parent (first_view z) 1, refl, begins_refl []),
      (1, newcomer (first_view z) 1, refl, begins_refl []),
    )
