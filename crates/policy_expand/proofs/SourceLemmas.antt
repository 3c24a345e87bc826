-- One more line of a file.
use Rattle.std.proofs.Common.{◌≡◌, ◌+◌, ◌<◌, ℕ, List, [], ◌∷◌, ◌++◌, length, map, take, get_or, sym, ap, ◌∙◌, arith}
use Rattle.std.specs.List.{enumerate_from}
use Rattle.std.proofs.lemmas.List.{length-map, map_push, take_more}
use Rattle.std.proofs.lemmas.List.FromFn.{length-enumerate_from}
use Rattle.policy_expand.specs.Sources.{SourceFacts, numbered, source_facts}
use Rattle.policy_expand.specs.declared.file_lines.SourceLine.{SourceLine}

enumerate_more : {X : Type 0} (n : ℕ) (xs : List X) (y : X) → enumerate_from n (xs ++ y ∷ []) ≡ enumerate_from n xs ++ (n + length xs, y) ∷ []
enumerate_more {X} n [] y = let e : n ≡ n + 0 = omega arith in ap (λ (k : ℕ). (k, y) ∷ []) e
enumerate_more {X} n (x ∷ xs) y =
    let e : n + 1 + length xs ≡ n + length (x ∷ xs) = omega arith in
    ap (λ (rest : List (ℕ × X)). (n, x) ∷ rest) (enumerate_more (n + 1) xs y ∙ ap (λ (k : ℕ). enumerate_from (n + 1) xs ++ (k, y) ∷ []) e)

-- a line as a value
abbrev line_at : List ℕ → ℕ × List ℕ → SourceFacts
line_at file line = record { file = file; number = line.0; text = line.1 }

numbered_more : (file : List ℕ) (texts : List (List ℕ)) (text : List ℕ)
    → numbered file (texts ++ text ∷ []) ≡ numbered file texts ++ line_at file (1 + length texts, text) ∷ []
numbered_more file texts text = ap (map (line_at file)) (enumerate_more 1 texts text) ∙ map_push (line_at file) (enumerate_from 1 texts) (1 + length texts, text)

length-numbered : (file : List ℕ) (texts : List (List ℕ)) → length (numbered file texts) ≡ length texts
length-numbered file texts = length-map (enumerate_from 1 texts) (line_at file) ∙ length-enumerate_from 1 texts

-- the line at the next place
pub numbered_next : (file : List ℕ) (all : List (List ℕ)) (n : ℕ) (found : List SourceLine) (line : SourceLine) (text : List ℕ) → n < length all
    → map source_facts found ≡ numbered file (take n all) → line.file.now ≡ file → line.number ≡ length found + 1 → line.text.now ≡ get_or all n text
    → map source_facts (found ++ line ∷ []) ≡ numbered file (take (n + 1) all)
numbered_next file all n found line text small before file_is number_is text_is =
    let many : length found ≡ length (take n all) =
    sym (length-map found source_facts) ∙ ap length before ∙ length-numbered file (take n all) in
    let number : line.number ≡ 1 + length (take n all) = omega (arith, number_is, many) in
    let one : source_facts line ≡ line_at file (1 + length (take n all), get_or all n text) = cc in
    map_push source_facts found line ∙ ap (λ (ls : List SourceFacts). ls ++ source_facts line ∷ []) before
    ∙ ap (λ (l : SourceFacts). numbered file (take n all) ++ l ∷ []) one
    ∙ sym (numbered_more file (take n all) (get_or all n text)) ∙ ap (numbered file) (sym (take_more all n text small))
