use Rattle.std.proofs.Common.{◌≡◌, ◌≢◌, ◌∙◌, ◌<◌, ◌+◌, ◌==◌, ℕ, Bool, true, false, true≢false, ap, arith, sym, subst, List, length, get_or, Option, Some, refl}
use Rattle.std.proofs.lemmas.Option.{slice_get_read}
use Rattle.std.specs.Prelude.{not}
use Rattle.std.specs.Cmp.Lexicographic.{slice_cmp}
use Rattle.std.specs.Ordering.{nat_cmp, ordering_index}
use Rattle.std.specs.declared.cmp.Ordering.{Ordering}
use Rattle.std.specs.declared.cmp.Ordering.TheVariants.{Less, Equal, Greater}
use Rattle.bihash_words.specs.Patches.{free_mark}
use Rattle.bihash_plan.specs.Blocks.{HasPairAt}
use Rattle.bihash_plan.specs.inner.LeastPairs.{IsLeastAmong, IsLeastTo}
use Rattle.bihash_plan.proofs.LeastPairLemmas.{first_least, lesser_least, same_least}
use Rattle.bihash_plan.proofs.Places.{pair_inside, pair_read}
use Rattle.bihash_plan.proofs.least_expired_pair.lesser.Goals as goal
use Rattle.bihash_plan.proofs.least_expired_pair.lesser.Goals.{in-Some+else-ne, in_default}

-- a place that was read and isn't free has this pair
pair_here : {K : Type 0} (places : List (K × ℕ)) (i : ℕ) (place : K × ℕ) → i < length places → place ≡ get_or places i place
    → place.1 ≢ free_mark → HasPairAt places place.0 place.1 i
pair_here places i place inside is taken = record { at = slice_get_read places (length places) i place refl inside is; taken = taken }

greater_of : (r : Ordering) → not (ordering_index r == 2) ≡ false → r ≡ Greater
greater_of Less h = absurd (true≢false h)
greater_of Equal h = absurd (true≢false h)
greater_of Greater h = refl

not_greater : (r : Ordering) → not (ordering_index r == 2) ≡ true → r ≢ Greater
not_greater r h e = true≢false (sym h ∙ ap (λ (o : Ordering). not (ordering_index o == 2)) e)

-- the least among the places before, where there is one
abbrev before : {K : Type 0} (words_of : K → List ℕ) (is_expired : ℕ → Bool) (places : List (K × ℕ)) (i other : ℕ) (least : Option ℕ)
    → least ≡ Some other → IsLeastAmong words_of is_expired places i least → IsLeastTo words_of is_expired places i other
before words_of is_expired places i other least is h = (subst (IsLeastAmong words_of is_expired places i) is h).found

-- the key that was read there is the least one
its_key : {K : Type 0} (words_of : K → List ℕ) (is_expired : ℕ → Bool) (places : List (K × ℕ)) (i other : ℕ)
    (h : IsLeastTo words_of is_expired places i other) (place : K × ℕ) → place ≡ get_or places other place
    → (get_or places other place).0 ≡ h.key
its_key words_of is_expired places i other h place is =
    sym (ap (λ p. p.0) is) ∙ ap (λ p. p.0) (pair_read place is (record { value = h.value; pair = h.pair }))

pub offset_bounds-places-other : goal.offset_bounds-places-other
offset_bounds-places-other g c =
    let h = before g.S.Shape.words_of _ c.args.places.now c.args.i c.in-Some.other _ c.in-Some.is c.requires.least in
    let inside = pair_inside h.pair in omega arith

pub bounds-places-other : goal.bounds-places-other
bounds-places-other g c =
    let h = before g.S.Shape.words_of _ c.args.places.now c.args.i c.in-Some.other _ c.in-Some.is c.requires.least in
    pair_inside h.pair

pub returns-then-ne-clause-least : goal.returns-then-ne-clause-least
returns-then-ne-clause-least g c =
    let words_of = g.S.Shape.words_of in
    let h = before words_of _ c.args.places.now c.args.i c.in-Some.other _ c.in-Some.is c.requires.least in
    subst (IsLeastAmong words_of _ c.args.places.now (c.args.i + 1)) (sym c.in-Some.is)
    (same_least words_of _ c.args.places.now c.args.i _ _
    (slice_get_read c.args.places.now (length c.args.places.now) c.args.i c.index-places-i.result refl c.requires.place.inside
    c.index-places-i.is) c.in-Some.other h
    (λ more. not_greater c.compare.result (sym c.ne.ensures ∙ c.if-ne.true)
    (c.compare.ensures c.requires.shape.some_word
    ∙ ap (λ key. slice_cmp nat_cmp (words_of key) (words_of c.index-places-i.result.0))
    (its_key words_of _ c.args.places.now c.args.i c.in-Some.other h c.index-places-other.result c.index-places-other.is) ∙ more)))

pub returns-clause-least : goal.returns-clause-least
returns-clause-least g c =
    let words_of = g.S.Shape.words_of in
    let pair = pair_here c.args.places.now c.args.i c.index-places-i.result c.requires.place.inside c.index-places-i.is
    c.if-value.false in
    let expired = sym c.expired.ensures.told ∙ c.if-not-expired.false in
    elim c.match-least.branch [
      | in-Some+else-ne w ↦
          let h = before words_of _ c.args.places.now c.args.i w.in-Some.other _ w.in-Some.is c.requires.least in
          lesser_least words_of _ c.args.places.now c.args.i _ _ pair c.expired.ensures.word expired w.in-Some.other h
          (ap (λ key. slice_cmp nat_cmp (words_of key) (words_of c.index-places-i.result.0))
          (sym (its_key words_of _ c.args.places.now c.args.i w.in-Some.other h w.index-places-other.result w.index-places-other.is))
          ∙ sym (w.compare.ensures c.requires.shape.some_word) ∙ greater_of w.compare.result (sym w.ne.ensures ∙ w.if-ne.false))
      | in_default w ↦
          first_least words_of _ c.args.places.now c.args.i _ _ pair c.expired.ensures.word expired
          (subst (IsLeastAmong words_of _ c.args.places.now c.args.i) w.in_default.is c.requires.least)
    ]
