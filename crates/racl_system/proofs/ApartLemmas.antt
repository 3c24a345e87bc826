-- Captures of which two are of one interface, or none.
use Rattle.std.proofs.Common.{◌≡◌, ◌≢◌, ◌∙◌, ◌<◌, ◌+◌, ◌++◌, ◌∷◌, ◌==◌, [], ap, arith, inl, inr, refl, subst, sym, ℕ, zero, suc, Bool, true, false, List, drop, get_or, length, take}
use Rattle.std.specs.List.{AllPairs, Contains, list_any}
use Rattle.std.proofs.lemmas.Bool.{cases_Bool, eqb-true, false≢true}
use Rattle.std.proofs.lemmas.Bool.Decides.{nat_tests}
use Rattle.std.proofs.Math.Seq.{get_or-append_seam}
use Rattle.std.proofs.lemmas.List.{drop_more, get_or_append_left, length-append, map-append, take-append-drop, take_more}
use Rattle.std.proofs.lemmas.List.Quantifiers.{all_pairs_push}
use Rattle.racl_system.specs.LiveInterfaces.{AreApart, IsComingStatus, IsFirstTwice, interfaces_of}
use Rattle.racl_options.specs.declared.settings.CaptureFile.{CaptureFile}

-- the code's test of one number among captures
abbrev named : ℕ → List CaptureFile → Bool
named number captures = list_any (λ (capture : CaptureFile). capture.interface == number) captures

among : (captures : List CaptureFile) (number : ℕ) → named number captures ≡ true → Contains (interfaces_of captures) number
among [] number any = absurd (false≢true any)
among (first ∷ captures) number any =
    elim (cases_Bool (first.interface == number)) [
      | inl here ↦ (zero, omega arith, eqb-true first.interface number here)
      | inr other ↦
          let more = among captures number (let e : named number captures ≡ true = rw other at any in e) in
          (suc more.0, omega (arith, more.1), more.2)
    ]

not_among : (captures : List CaptureFile) (number : ℕ) → named number captures ≡ false → (k d : ℕ) → k < length (interfaces_of captures)
    → get_or (interfaces_of captures) k d ≢ number
not_among [] number none k d within = absurd (omega (arith, within))
not_among (first ∷ captures) number none zero d within = λ same. grind (arith, nat_tests)
not_among (first ∷ captures) number none (suc k) d within =
    elim (cases_Bool (first.interface == number)) [
      | inl here ↦ absurd (false≢true (sym none ∙ (let e : named number (first ∷ captures) ≡ true = rw here refl in e)))
      | inr other ↦ not_among captures number (let e : named number captures ≡ false = rw other at none in e) k d (omega (arith, within))
    ]

module _ (captures : List CaptureFile) (place : ℕ) (d : CaptureFile) (within : place < length captures) where
  -- one that is named again
  pub named_again : AreApart (take place captures) → named (get_or captures place d).interface (take place captures) ≡ true
      → IsFirstTwice (interfaces_of captures) (get_or captures place d).interface
  named_again apart any = record {
    before = interfaces_of (take place captures);
    behind = interfaces_of (drop (place + 1) captures);
    parted = ap interfaces_of (sym (take-append-drop place captures) ∙ ap (λ rest. take place captures ++ rest) (drop_more captures place d within))
        ∙ map-append (λ (c : CaptureFile). c.interface) (take place captures) (get_or captures place d ∷ drop (place + 1) captures);
    again = among (take place captures) (get_or captures place d).interface any;
    first = apart;
  }

  -- one that is not
  pub named_first : AreApart (take place captures) → named (get_or captures place d).interface (take place captures) ≡ false → AreApart (take (place + 1) captures)
  named_first apart none =
      let number : ℕ = (get_or captures place d).interface in
      let pushed = all_pairs_push (λ one other. one ≢ other) (interfaces_of (take place captures)) number apart (not_among (take place captures) number none) in
      let longer : interfaces_of (take (place + 1) captures) ≡ interfaces_of (take place captures) ++ number ∷ [] =
      ap interfaces_of (take_more captures place d within) ∙ map-append (λ (c : CaptureFile). c.interface) (take place captures) (get_or captures place d ∷ []) in
      subst (AllPairs (λ one other. one ≢ other)) (sym longer) pushed

-- where a number stands there again, two are of one interface, and 1 is the status
twice_differ : (numbers : List ℕ) (number : ℕ) → IsFirstTwice numbers number → AllPairs (λ one other. one ≢ other) numbers → ⊥
twice_differ numbers number twice apart =
    let sizes = length-append twice.before (number ∷ twice.behind) in
    let all : List ℕ = twice.before ++ number ∷ twice.behind in
    let pairs : AllPairs (λ one other. one ≢ other) all = subst (AllPairs (λ one other. one ≢ other)) twice.parted apart in
    let early = get_or_append_left twice.before (number ∷ twice.behind) number twice.again.0 twice.again.1 ∙ twice.again.2 in
    let late = get_or-append_seam twice.before number twice.behind number in
    pairs twice.again.0 (length twice.before) number twice.again.1 (omega (arith, sizes)) (early ∙ sym late)

pub status_of_twice : (captures : List CaptureFile) (number status : ℕ) → status ≡ 1 → IsFirstTwice (interfaces_of captures) number → IsComingStatus captures status
status_of_twice captures number status one twice = subst (IsComingStatus captures) (sym one) (λ apart. twice_differ (interfaces_of captures) number twice apart)
