-- The parts of a rule are read as the grammar says.
use Rattle.std.proofs.Common.{◌≡◌, ℕ, false, List, [], ◌∷◌, ◌++◌, Option, Some, None, refl, sym, ap, ◌∙◌, subst, append_assoc}
use Rattle.std.specs.Prelude.{option_map}
use Rattle.std.specs.Str.{bytes_eq}
use Rattle.acl_policy.specs.inner.WordReading.{next_in}
use Rattle.acl_policy.specs.inner.WordReading.Traffic.{after_in, flags_in, part_in, range_in, ranges_in, value_in}
use Rattle.acl_policy.specs.Traffic.{IsFlags, IsPart, IsRange, every}
use Rattle.acl_policy.proofs.OptionLemmas.{bind_some, bytes_eq-same, bytes_eq-true, guarded, map_some, next_in-some, same_some}
use Rattle.acl_policy.proofs.RangeLaws.{flags_in-complete, flags_in-sound, range_in-complete, range_in-sound}

after_in-sound : (name : List ℕ) (words rest : List (List ℕ)) → after_in name words ≡ Some rest → words ≡ name ∷ rest
unfolding after_in
after_in-sound name words rest found =
    let next = bind_some (next_in words) _ rest found in
    let named = guarded (bytes_eq next.0.0 name) next.0.1 rest next.2 in
    next_in-some words next.0.0 next.0.1 next.1 ∙ ap (λ (w : List ℕ). w ∷ next.0.1) (bytes_eq-true next.0.0 name named.0) ∙ ap (λ (ws : List (List ℕ)). name ∷ ws) named.1

-- the words begin with another word, or there is none
abbrev pub StartsOtherwise : List ℕ → List (List ℕ) → Type 0
StartsOtherwise name [] = Unit {0}
StartsOtherwise name (word ∷ words) = bytes_eq word name ≡ false

after_in-none : (name : List ℕ) (words : List (List ℕ)) → StartsOtherwise name words → after_in name words ≡ None
unfolding after_in
after_in-none name [] other = refl
after_in-none name (word ∷ words) other = rw other refl

after_in-complete : (name word : List ℕ) (words : List (List ℕ)) → word ≡ name → after_in name (word ∷ words) ≡ Some words
unfolding after_in
after_in-complete name word words same = rw (bytes_eq-same word name same) refl

-- what a reader of the value of a part is to do
pub record ReadsValue (read : List ℕ → Option (ℕ × ℕ)) (IsValue : List ℕ → ℕ × ℕ → Type 0) : Type 0 where
  pub sound : (word : List ℕ) (value : ℕ × ℕ) → read word ≡ Some value → IsValue word value
  pub complete : (word : List ℕ) (value : ℕ × ℕ) → IsValue word value → read word ≡ Some value

ranges_read : (most : ℕ) → ReadsValue (range_in most) (IsRange most)
ranges_read most = record { sound = range_in-sound most; complete = range_in-complete most }

pub flags_read : ReadsValue flags_in IsFlags
flags_read = record { sound = flags_in-sound; complete = flags_in-complete }

-- a part in front of words
pub record HasPart (name : List ℕ) (IsValue : List ℕ → ℕ × ℕ → Type 0) (usual : ℕ × ℕ) (words : List (List ℕ)) (found : (ℕ × ℕ) × List (List ℕ)) : Type 0 where
  pub part : List (List ℕ)
  pub split : words ≡ part ++ found.1
  pub is : IsPart name IsValue usual part found.0

value_in-sound : (name : List ℕ) (read : List ℕ → Option (ℕ × ℕ)) (IsValue : List ℕ → ℕ × ℕ → Type 0) (usual : ℕ × ℕ) (words : List (List ℕ))
    (behind : Option (List (List ℕ))) (found : (ℕ × ℕ) × List (List ℕ)) → ReadsValue read IsValue → after_in name words ≡ behind
    → value_in read usual words behind ≡ Some found → HasPart name IsValue usual words found
value_in-sound name read IsValue usual words None found reads named given =
    let same = same_some {A = (ℕ × ℕ) × List (List ℕ)} (usual, words) found given in
    record {
      part = [];
      split = ap (λ (f : (ℕ × ℕ) × List (List ℕ)). f.1) same;
      is = ap (λ (f : (ℕ × ℕ) × List (List ℕ)). f.0) (sym same);
    }
value_in-sound name read IsValue usual words (Some rest) found reads named given =
    let next = bind_some (next_in rest) _ found given in
    let value = map_some {B = (ℕ × ℕ) × List (List ℕ)} (λ value. (value, next.0.1)) (read next.0.0) found next.2 in
    record {
      part = name ∷ next.0.0 ∷ [];
      split = after_in-sound name words rest named ∙ ap (λ (ws : List (List ℕ)). name ∷ ws) (next_in-some rest next.0.0 next.0.1 next.1)
          ∙ ap (λ (f : (ℕ × ℕ) × List (List ℕ)). name ∷ next.0.0 ∷ f.1) (sym value.2);
      is = (refl, subst (λ (f : (ℕ × ℕ) × List (List ℕ)). IsValue next.0.0 f.0) (sym value.2) (reads.sound next.0.0 value.0 value.1));
    }

pub part_in-sound : (name : List ℕ) (read : List ℕ → Option (ℕ × ℕ)) (IsValue : List ℕ → ℕ × ℕ → Type 0) (usual : ℕ × ℕ) (words : List (List ℕ))
    (found : (ℕ × ℕ) × List (List ℕ)) → ReadsValue read IsValue → part_in name read usual words ≡ Some found → HasPart name IsValue usual words found
unfolding part_in
part_in-sound name read IsValue usual words found reads given = value_in-sound name read IsValue usual words (after_in name words) found reads refl given

pub part_in-complete : (name : List ℕ) (read : List ℕ → Option (ℕ × ℕ)) (IsValue : List ℕ → ℕ × ℕ → Type 0) (usual : ℕ × ℕ) (part rest : List (List ℕ))
    (value : ℕ × ℕ) → ReadsValue read IsValue → IsPart name IsValue usual part value → StartsOtherwise name rest → part_in name read usual (part ++ rest) ≡ Some (value, rest)
unfolding part_in
part_in-complete name read IsValue usual [] rest value reads is other =
    ap (value_in read usual rest) (after_in-none name rest other) ∙ ap (λ (v : ℕ × ℕ). Some (v, rest)) (sym is)
part_in-complete name read IsValue usual (word ∷ []) rest value reads is other = absurd is
part_in-complete name read IsValue usual (word ∷ text ∷ []) rest value reads is other =
    ap (value_in read usual (word ∷ text ∷ rest)) (after_in-complete name word (text ∷ rest) is.0)
    ∙ ap (option_map {U = (ℕ × ℕ) × List (List ℕ)} (λ value. (value, rest))) (reads.complete text value is.1)
part_in-complete name read IsValue usual (word ∷ text ∷ third ∷ more) rest value reads is other = absurd is

-- a part of another name in front leaves how the words begin
pub StartsOtherwise-append : (name other : List ℕ) (IsValue : List ℕ → ℕ × ℕ → Type 0) (usual : ℕ × ℕ) (part rest : List (List ℕ)) (value : ℕ × ℕ)
    → IsPart other IsValue usual part value → bytes_eq other name ≡ false → StartsOtherwise name rest → StartsOtherwise name (part ++ rest)
StartsOtherwise-append name other IsValue usual [] rest value is apart starts = starts
StartsOtherwise-append name other IsValue usual (word ∷ []) rest value is apart starts = absurd is
StartsOtherwise-append name other IsValue usual (word ∷ text ∷ []) rest value is apart starts = subst (λ (w : List ℕ). bytes_eq w name ≡ false) (sym is.0) apart
StartsOtherwise-append name other IsValue usual (word ∷ text ∷ third ∷ more) rest value is apart starts = absurd is

-- two parts with ranges in front of words
pub record HasRanges (most : ℕ) (one two : List ℕ) (words : List (List ℕ)) (found : (ℕ × ℕ) × (ℕ × ℕ) × List (List ℕ)) : Type 0 where
  pub first : List (List ℕ)
  pub second : List (List ℕ)
  pub split : words ≡ (first ++ second) ++ found.2
  pub is_first : IsPart one (IsRange most) every first found.0
  pub is_second : IsPart two (IsRange most) every second found.1

pub ranges_in-sound : (most : ℕ) (one two : List ℕ) (words : List (List ℕ)) (found : (ℕ × ℕ) × (ℕ × ℕ) × List (List ℕ)) → ranges_in most one two words ≡ Some found
    → HasRanges most one two words found
unfolding ranges_in
ranges_in-sound most one two words found given =
    let first = bind_some (part_in one (range_in most) every words) _ found given in
    let second = bind_some (part_in two (range_in most) every first.0.1) _ found first.2 in
    let same = same_some _ found second.2 in
    let a = part_in-sound one (range_in most) (IsRange most) every words first.0 (ranges_read most) first.1 in
    let b = part_in-sound two (range_in most) (IsRange most) every first.0.1 second.0 (ranges_read most) second.1 in
    subst (HasRanges most one two words) same (record {
      first = a.part;
      second = b.part;
      split = a.split ∙ ap (λ (ws : List (List ℕ)). a.part ++ ws) b.split ∙ sym (append_assoc a.part b.part second.0.1);
      is_first = a.is;
      is_second = b.is;
    })

pub ranges_in-complete : (most : ℕ) (one two : List ℕ) (first second rest : List (List ℕ)) (low high : ℕ × ℕ)
    → IsPart one (IsRange most) every first low → IsPart two (IsRange most) every second high → bytes_eq two one ≡ false
    → StartsOtherwise one rest → StartsOtherwise two rest → ranges_in most one two ((first ++ second) ++ rest) ≡ Some (low, high, rest)
unfolding ranges_in
ranges_in-complete most one two first second rest low high is_first is_second apart starts_one starts_two =
    ap (ranges_in most one two) (append_assoc first second rest)
    ∙ rw (
      part_in-complete one (range_in most) (IsRange most) every first (second ++ rest) low (ranges_read most) is_first
          (StartsOtherwise-append one two (IsRange most) every second rest high is_second apart starts_one),
      part_in-complete two (range_in most) (IsRange most) every second rest high (ranges_read most) is_second starts_two,
    ) refl
