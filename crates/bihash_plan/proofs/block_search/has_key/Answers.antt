use Rattle.std.proofs.Common.{ap, sym, not, true, ◌==◌, ◌∙◌, ◌≡◌, ℕ}
use Rattle.std.proofs.lemmas.Bool.{eq-eqb}
use Rattle.bihash_words.specs.Patches.{free_mark}
use Rattle.bihash_plan.proofs.Places.{has_key_read, pair_read}
use Rattle.bihash_plan.proofs.block_search.has_key.Goals as goal

not_both : (value : ℕ) → value ≡ free_mark → not (value == free_mark) ≡ true → ⊥
not_both value is taken = let e = eq-eqb value free_mark is in cc

pub returns-then-value : goal.returns-then-value
returns-then-value g c =
    let law = g.met.S.Shape.key_of_words in (
      λ yes. has_key_read _ _ _ _ c.requires.place.inside c.index-places-i.is c.if-value.true (sym (law _)
          ∙ ap g.S.Shape.key_of (c.is_same.ensures.0 yes) ∙ law _),
      λ h. c.is_same.ensures.1 (ap (λ place. g.S.Shape.words_of place.0) (pair_read _ c.index-places-i.is h)),
    )

pub returns-else-value : goal.returns-else-value
returns-else-value g c = (
  λ yes. absurd (not_both _ c.if-value.false yes),
  λ h. absurd (h.pair.taken (sym (ap (λ place. place.1) (pair_read _ c.index-places-i.is h))
      ∙ c.if-value.false)),
)
