-- One more line, and what it stands for.
use Rattle.std.proofs.Common.{◌≡◌, ℕ, ◌+◌, ◌<◌, List, [], ◌∷◌, ◌++◌, length, map, refl, sym, ap, ◌∙◌, subst, take, drop, get_or}
use Rattle.std.proofs.lemmas.List.{append-nil, append_assoc, map_more, take-append-drop, take-map}
use Rattle.policy_expand.specs.Expansions.{AreExpanded, IsBehindExpanded, IsLineExpanded}
use Rattle.policy_expand.specs.Sources.{SourceFacts, source_facts}
use Rattle.policy_expand.specs.declared.file_lines.SourceLine.{SourceLine}
use Rattle.policy_expand.specs.Written.{LineWritten}
use Rattle.policy_expand.specs.declared.set_lists.NamedSet.{NamedSet}
use Rattle.policy_expand.specs.declared.visible_word.Word.{Word}

pub expanded_more : (sets : List NamedSet) (lines : List SourceFacts) (mid : List NamedSet) (written : List LineWritten) (plain : List (List (List Word)))
    (text : List ℕ) (line : SourceFacts) (news : List NamedSet) (said : LineWritten) (rows : List (List Word)) (added : List ℕ)
    → AreExpanded sets lines mid written plain text → IsLineExpanded mid line news said rows added
    → AreExpanded sets (lines ++ line ∷ []) news (written ++ said ∷ []) (plain ++ rows ∷ []) (text ++ added)
expanded_more sets [] mid written plain text line news said rows added (same, no_written, no_plain, no_text) is = (
  news,
  said,
  [],
  rows,
  [],
  added,
  [],
  ap (λ (ws : List LineWritten). ws ++ said ∷ []) no_written,
  ap (λ (ps : List (List (List Word))). ps ++ rows ∷ []) no_plain,
  ap (λ (t : List ℕ). t ++ added) no_text ∙ sym (append-nil added),
  subst (λ (ss : List NamedSet). IsLineExpanded ss line news said rows added) same is,
  (refl, refl, refl, refl),
)
expanded_more sets (l ∷ lines) mid written plain text line news said rows added
    (next, first, others, here, more, begun, rest, written_split, plain_split, split, one, later) is = (
      next,
      first,
      others ++ said ∷ [],
      here,
      more ++ rows ∷ [],
      begun,
      rest ++ added,
      ap (λ (ws : List LineWritten). ws ++ said ∷ []) written_split,
      ap (λ (ps : List (List (List Word))). ps ++ rows ∷ []) plain_split,
      ap (λ (t : List ℕ). t ++ added) split ∙ append_assoc begun rest added,
      one,
      expanded_more next lines mid others more rest line news said rows added later is,
    )

front_of : (lines : List SourceLine) (i : ℕ) (e : SourceLine) → i < length lines
    → take (i + 1) (map source_facts lines) ≡ take i (map source_facts lines) ++ source_facts (get_or lines i e) ∷ []
front_of lines i e small =
    take-map source_facts (i + 1) lines ∙ map_more source_facts lines i e small
    ∙ ap (λ (ls : List SourceFacts). ls ++ source_facts (get_or lines i e) ∷ []) (sym (take-map source_facts i lines))

-- the line at the next place is behind right ones
pub behind_next : (lines : List SourceLine) (i : ℕ) (e : SourceLine) (news : List NamedSet) (written : List LineWritten) (plain : List (List (List Word)))
    (text : List ℕ) → i < length lines → AreExpanded [] (take i (map source_facts lines)) news written plain text
    → IsBehindExpanded (map source_facts lines) (source_facts (get_or lines i e))
behind_next lines i e news written plain text small before =
    let all : List SourceFacts = map source_facts lines in
    let rest : List SourceFacts = drop (i + 1) all in
    let here : SourceFacts = source_facts (get_or lines i e) in
    let split : all ≡ take i all ++ here ∷ rest =
    sym (take-append-drop (i + 1) all) ∙ ap (λ (ls : List SourceFacts). ls ++ rest) (front_of lines i e small) ∙ append_assoc (take i all) (here ∷ []) rest in
    (take i all, rest, news, written, plain, text, split, before)

-- the line at the next place
pub expanded_next : (lines : List SourceLine) (i : ℕ) (e : SourceLine) (mid news : List NamedSet) (written : List LineWritten) (plain : List (List (List Word)))
    (text longer : List ℕ) (said : LineWritten) (rows : List (List Word)) (added : List ℕ) → i < length lines
    → AreExpanded [] (take i (map source_facts lines)) mid written plain text → IsLineExpanded mid (source_facts (get_or lines i e)) news said rows added
    → longer ≡ text ++ added
    → AreExpanded [] (take (i + 1) (map source_facts lines)) news (written ++ said ∷ []) (plain ++ rows ∷ []) longer
expanded_next lines i e mid news written plain text longer said rows added small before is more =
    let all : List SourceFacts = map source_facts lines in
    let front : take (i + 1) all ≡ take i all ++ source_facts (get_or lines i e) ∷ [] = front_of lines i e small in
    subst (λ (ls : List SourceFacts). AreExpanded [] ls news (written ++ said ∷ []) (plain ++ rows ∷ []) longer) (sym front)
    (subst (λ (t : List ℕ). AreExpanded [] (take i all ++ source_facts (get_or lines i e) ∷ []) news (written ++ said ∷ []) (plain ++ rows ∷ []) t) (sym more)
    (expanded_more [] (take i all) mid written plain text (source_facts (get_or lines i e)) news said rows added before is))
