-- All bytes have a first marker line that counts, or they have none; and what follows one with a number is the digits of
-- captures.
use Rattle.std.proofs.Common.{◌≡◌, ◌∙◌, ◌<◌, ◌⊎◌, ℕ, zero, suc, codes, List, [], ◌∷◌, ◌++◌, Option, None, Some, drop, take, take-append-drop, length, length-append, refl, sym, ap, ap₂, subst, inl, inr, arith}
use Rattle.std.proofs.lemmas.Bool.{cases_eq}
use Rattle.acl_policy.specs.inner.WordReading.Numerals.{octet_in}
use Rattle.racl_io.specs.declared.marker_line.Form.{Form}
use Rattle.racl_io.specs.declared.marker_line.Form.TheVariants.{Binary, Hexadecimal, Numbered}
use Rattle.racl_io.specs.declared.marker_line.Marks.{Marks}
use Rattle.racl_io.specs.declared.marker_line.Marks.TheVariants.{Every, Numbers}
use Rattle.racl_io.specs.Inputs.{IsInput, AreCaptures, Counts, DigitsFacts, HasNoFeed, InputFacts, IsFirstLine, IsMarked, IsMarker, IsParted, IsWord, NumberedFacts, joined}
use Rattle.racl_io.proofs.InputLemmas.{IsFront, front_grows, front_of_all, interface_read, no_form, no_input, no_interface, no_number, same_front_of, shorter_behind}

-- ---- words and markers

same_text : (a b : List ℕ) → (a ≡ b) ⊎ (a ≡ b → ⊥)
same_text [] [] = inl refl
same_text [] (d ∷ b) = inr (λ same. cc)
same_text (c ∷ a) [] = inr (λ same. cc)
same_text (c ∷ a) (d ∷ b) =
    elim (cases_eq c d) [
      | inl head ↦ elim (same_text a b) [
        | inl tail ↦ inl (ap₂ (λ h t. h ∷ t) head tail)
        | inr other ↦ inr (λ same. let tails : a ≡ b = cc in other tails)
      ]
      | inr other ↦ inr (λ same. let heads : c ≡ d = cc in other heads)
    ]

number_or_none : (word : List ℕ) → ((n : ℕ) × IsWord (Numbered n) word) ⊎ ((n : ℕ) → IsWord (Numbered n) word → ⊥)
number_or_none word =
    elim (same_text (take 4 word) (104 ∷ 101 ∷ 120 ∷ 32 ∷ [])) [
      | inl same ↦ behind (octet_in (drop 4 word)) (sym (take-append-drop 4 word) ∙ ap (λ front. front ++ drop 4 word) same) refl
      | inr other ↦ inr (λ n is. other (ap (take 4) is.1))
    ]
  where
    behind : (read : Option ℕ) → word ≡ 104 ∷ 101 ∷ 120 ∷ 32 ∷ drop 4 word → read ≡ octet_in (drop 4 word)
        → ((n : ℕ) × IsWord (Numbered n) word) ⊎ ((n : ℕ) → IsWord (Numbered n) word → ⊥)
    behind None same is = inr (no_interface word (drop 4 word) None same is)
    behind (Some n) same is = inl (n, interface_read word (drop 4 word) (Some n) same is)

numbers_count : (marks : Marks) (n : ℕ) → Counts marks (Numbered n)
numbers_count Every n = tt
numbers_count Numbers n = tt

word_or_none : (marks : Marks) (word : List ℕ) → ((form : Form) × Counts marks form × IsWord form word) ⊎ ((form : Form) → Counts marks form → IsWord form word → ⊥)
word_or_none marks word =
    elim (number_or_none word) [
      | inl is ↦ inl (Numbered is.0, numbers_count marks is.0, is.1)
      | inr none ↦ plain marks none
    ]
  where
    plain : (marks : Marks) → ((n : ℕ) → IsWord (Numbered n) word → ⊥)
        → ((form : Form) × Counts marks form × IsWord form word) ⊎ ((form : Form) → Counts marks form → IsWord form word → ⊥)
    plain Numbers none = inr (no_number Numbers word refl none)
    plain Every none =
        elim (same_text word (codes "pcap")) [
          | inl pcap ↦ inl (Binary, tt, pcap)
          | inr not_pcap ↦ elim (same_text word (codes "hex")) [
            | inl hex ↦ inl (Hexadecimal, tt, hex)
            | inr not_hex ↦ inr (no_form Every word None none (not_pcap, not_hex))
          ]
        ]

-- a carriage return ends the line, or none does
return_or_none : (line : List ℕ) → ((word : List ℕ) × (line ≡ word ++ 13 ∷ [])) ⊎ ((word : List ℕ) → line ≡ word ++ 13 ∷ [] → ⊥)
return_or_none [] = inr (λ word same. omega (arith, ap length same, length-append word (13 ∷ [])))
return_or_none (b ∷ []) =
    elim (cases_eq b 13) [
      | inl same ↦ inl ([], ap (λ c. c ∷ []) same)
      | inr other ↦ inr (λ word same. go word other same)
    ]
  where
    go : (word : List ℕ) → (b ≡ 13 → ⊥) → b ∷ [] ≡ word ++ 13 ∷ [] → ⊥
    go [] other same = let head : b ≡ 13 = cc in other head
    go (c ∷ word) other same = omega (arith, ap length same, length-append word (13 ∷ []))
return_or_none (b ∷ c ∷ line) =
    elim (return_or_none (c ∷ line)) [
      | inl is ↦ inl (b ∷ is.0, ap (λ l. b ∷ l) is.1)
      | inr none ↦ inr (λ word same. go word none same)
    ]
  where
    go : (word : List ℕ) → ((front : List ℕ) → c ∷ line ≡ front ++ 13 ∷ [] → ⊥) → b ∷ c ∷ line ≡ word ++ 13 ∷ [] → ⊥
    go [] none same = omega (arith, ap length same)
    go (d ∷ word) none same = none word (ap (drop 1) same)

marker_or_none : (marks : Marks) (line : List ℕ) → ((form : Form) × Counts marks form × IsMarker form line) ⊎ ((form : Form) → Counts marks form → IsMarker form line → ⊥)
marker_or_none marks line =
    elim (word_or_none marks line) [
      | inl is ↦ inl (is.0, is.1, inl is.2)
      | inr none ↦ elim (return_or_none line) [
        | inl ends ↦ elim (word_or_none marks ends.0) [
          | inl is ↦ inl (is.0, is.1, inr (ends.0, is.2, ends.1))
          | inr other ↦ inr (λ form counts marker. ended form counts none ends.0 ends.1 other marker)
        ]
        | inr endless ↦ inr (λ form counts marker. elim marker [ inl is ↦ none form counts is | inr is ↦ endless is.0 is.2 ])
      ]
    ]
  where
    ended : (form : Form) → Counts marks form → ((f : Form) → Counts marks f → IsWord f line → ⊥) → (word : List ℕ) → line ≡ word ++ 13 ∷ []
        → ((f : Form) → Counts marks f → IsWord f word → ⊥) → IsMarker form line → ⊥
    ended form counts none word same other (inl is) = none form counts is
    ended form counts none word same other (inr (word', is, same')) =
        let words : word' ≡ word = same_front_of word' word (sym same' ∙ same) in
        other form counts (rw (sym words) is)

-- ---- lines

-- the first line, or there is no line feed
record FirstLine (bytes : List ℕ) : Type 0 where
  pub line : List ℕ
  pub after : List ℕ
  pub is : IsFirstLine bytes line after

first_line : (bytes : List ℕ) → FirstLine bytes ⊎ HasNoFeed bytes
first_line [] = inr tt
first_line (b ∷ bytes) =
    elim (cases_eq b 10) [
      | inl feed ↦ inl (record { line = []; after = bytes; is = record { whole = tt; parted = ap (λ c. c ∷ bytes) feed } })
      | inr other ↦ elim (first_line bytes) [
        | inl first ↦ inl (record { line = b ∷ first.line; after = first.after; is = record { whole = (other, first.is.whole); parted = ap (λ r. b ∷ r) first.is.parted } })
        | inr none ↦ inr (other, none)
      ]
    ]

parts_of_front : (marks : Marks) (bytes rest content : List ℕ) (form : Form) → IsFront marks bytes rest → Counts marks form → IsMarked form content rest
    → (parts : InputFacts) × IsParted marks bytes parts
parts_of_front marks bytes rest content form front counts marked =
    let parts : InputFacts = record { policy = joined front.lines; form = form; content = content } in
    (parts, record { lines = front.lines; plain = front.plain; policy = refl; marked = rest; parted = front.parted; counts = counts; content = marked })

-- the parts, or none are there, where what stands before the rest are lines that are no markers
parts_after : (fuel : ℕ) (marks : Marks) (bytes rest : List ℕ) → length rest < fuel → IsFront marks bytes rest
    → ((parts : InputFacts) × IsParted marks bytes parts) ⊎ ((parts : InputFacts) → IsParted marks bytes parts → ⊥)
parts_after zero marks bytes rest short front = absurd (omega (arith, short))
parts_after (suc fuel) marks bytes rest short front =
    elim (first_line rest) [
      | inl first ↦ elim (marker_or_none marks first.line) [
        | inl marker ↦ inl (parts_of_front marks bytes rest first.after marker.0 front marker.1 (inl (first.line, marker.2, first.is.parted)))
        | inr unmarked ↦
            let shorter : length first.after < fuel = omega (arith, short, ap length first.is.parted, length-append first.line (10 ∷ first.after)) in
            parts_after fuel marks bytes first.after shorter (front_grows marks bytes rest first.line first.after front first.is unmarked)
      ]
      | inr none ↦ elim (word_or_none marks rest) [
        | inl word ↦ inl (parts_of_front marks bytes rest [] word.0 front word.1 (inr (word.2, refl)))
        | inr unmarked ↦ inr (no_input marks bytes rest front none unmarked)
      ]
    ]

pub some_parting : (marks : Marks) (bytes : List ℕ) → ((parts : InputFacts) × IsParted marks bytes parts) ⊎ ((parts : InputFacts) → IsParted marks bytes parts → ⊥)
some_parting marks bytes = parts_after (suc (length bytes)) marks bytes bytes (omega arith) (front_of_all marks bytes)

-- all bytes are parted by a marker line, or have none
pub some_input : (bytes : List ℕ) → ((parts : InputFacts) × IsInput bytes parts) ⊎ ((parts : InputFacts) → IsInput bytes parts → ⊥)
some_input bytes = some_parting Every bytes

-- ---- captures

captures_within : (fuel number : ℕ) (content : List ℕ) → length content < fuel → (captures : List DigitsFacts) × AreCaptures number content captures
captures_within zero number content short = absurd (omega (arith, short))
captures_within (suc fuel) number content short =
    elim (some_parting Numbers content) [
      | inl cut ↦
          let shorter : length cut.0.content < fuel = omega (arith, short, shorter_behind Numbers content cut.0 cut.1) in
          behind cut.0.form cut.0 refl cut.1 (λ n. captures_within fuel n cut.0.content shorter)
      | inr none ↦ (record { interface = number; digits = content } ∷ [], (refl, None, (refl, none), refl))
    ]
  where
    behind : (form : Form) (parts : InputFacts) → form ≡ parts.form → IsParted Numbers content parts
        → ((n : ℕ) → (captures : List DigitsFacts) × AreCaptures n parts.content captures) → (captures : List DigitsFacts) × AreCaptures number content captures
    behind Binary parts same is others = absurd (subst (Counts Numbers) (sym same) is.counts)
    behind Hexadecimal parts same is others = absurd (subst (Counts Numbers) (sym same) is.counts)
    behind (Numbered n) parts same is others =
        let next : NumberedFacts = record { interface = n; content = parts.content } in
        let whole = subst (λ (f : Form). let cut : InputFacts = record { policy = parts.policy; form = f; content = parts.content } in IsParted Numbers content cut) (sym same) is in
        (record { interface = number; digits = parts.policy } ∷ (others n).0, (refl, Some next, whole, (others n).1))

-- what follows a marker line with a number is the digits of captures
pub some_captures : (number : ℕ) (content : List ℕ) → (captures : List DigitsFacts) × AreCaptures number content captures
some_captures number content = captures_within (suc (length content)) number content (omega arith)
