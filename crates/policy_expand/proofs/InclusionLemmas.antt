-- The whole text of lines, one level of included files after another.
use Rattle.std.proofs.Common.{◌≡◌, ◌<◌, ◌+◌, ℕ, zero, suc, List, [], ◌∷◌, ◌++◌, length, map, take, drop, get_or, true, Some, string_bytes, arith, refl, sym, ap, ap₂, ◌∙◌, subst, inl, inr}
use Rattle.std.proofs.lemmas.List.{append-nil, append_assoc, map_more, take-map}
use Rattle.std.specs.Str.{bytes_eq}
use Rattle.std.proofs.lemmas.Slice.Eq.{bytes_eq-Decides}
use Rattle.policy_expand.specs.Inclusions.{AllStand, AreOrdinary, FileFacts, IsOrdinary, IsWhole, StandsFor, StandsOnce, file_facts, text_of}
use Rattle.policy_expand.specs.Meaning.{IsOneOf}
use Rattle.policy_expand.specs.Missing.{IsMissing}
use Rattle.policy_expand.specs.Sources.{SourceFacts, source_facts}
use Rattle.policy_expand.specs.declared.missing_files.MissingFile.{MissingFile}
use Rattle.policy_expand.specs.declared.file_lines.PolicyFile.{PolicyFile}
use Rattle.policy_expand.specs.declared.file_lines.SourceLine.{SourceLine}

-- lines stand for what two fronts of them stand for
stand_split : (P : SourceFacts → List SourceFacts → Type 0) (front back whole : List SourceFacts) → AllStand P (front ++ back) whole
    → (first rest : List SourceFacts) × (whole ≡ first ++ rest) × AllStand P front first × AllStand P back rest
stand_split P [] back whole all = ([], whole, refl, refl, all)
stand_split P (line ∷ front) back whole (here, later, split, one, all) =
    let parts = stand_split P front back later all in (
      here ++ parts.0,
      parts.1,
      split ∙ ap (λ (ls : List SourceFacts). here ++ ls) parts.2 ∙ sym (append_assoc here parts.0 parts.1),
      (here, parts.0, refl, one, parts.3),
      parts.4,
    )

pub stand_more : (P : SourceFacts → List SourceFacts → Type 0) (lines whole : List SourceFacts) (line : SourceFacts) (more : List SourceFacts)
    → AllStand P lines whole → P line more → AllStand P (lines ++ line ∷ []) (whole ++ more)
stand_more P [] whole line more none one = (more, [], ap (λ (ls : List SourceFacts). ls ++ more) none ∙ sym (append-nil more), one, refl)
stand_more P (l ∷ lines) whole line more (here, later, split, first, all) one = (
  here,
  later ++ more,
  ap (λ (ls : List SourceFacts). ls ++ more) split ∙ append_assoc here later more,
  first,
  stand_more P lines later line more all one,
)

-- the line at the next place
pub stand_next : (P : SourceFacts → List SourceFacts → Type 0) (lines : List SourceLine) (i : ℕ) (e : SourceLine) (whole longer more : List SourceFacts)
    → i < length lines → AllStand P (take i (map source_facts lines)) whole → P (source_facts (get_or lines i e)) more → longer ≡ whole ++ more
    → AllStand P (take (i + 1) (map source_facts lines)) longer
stand_next P lines i e whole longer more small before one is =
    let all : List SourceFacts = map source_facts lines in
    let front : take (i + 1) all ≡ take i all ++ source_facts (get_or lines i e) ∷ [] =
    take-map source_facts (i + 1) lines ∙ map_more source_facts lines i e small
    ∙ ap (λ (ls : List SourceFacts). ls ++ source_facts (get_or lines i e) ∷ []) (sym (take-map source_facts i lines)) in
    subst (λ (ls : List SourceFacts). AllStand P ls longer) (sym front)
    (subst (λ (ls : List SourceFacts). AllStand P (take i all ++ source_facts (get_or lines i e) ∷ []) ls) (sym is)
    (stand_more P (take i all) whole (source_facts (get_or lines i e)) more before one))

-- a line that includes no file stands for itself
itself : (files : List FileFacts) (depth : ℕ) (line : SourceFacts) (whole : List SourceFacts) → IsOrdinary line → StandsFor files depth line whole
    → whole ≡ line ∷ []
itself files zero line whole ordinary stands = stands.1
itself files (suc depth) line whole ordinary (inl stands) = stands.1
itself files (suc depth) line whole ordinary (inr (name, text, includes, found, all)) = absurd (ordinary (includes.0 ∷ []) includes.1)

-- one level more
one_deeper : (files : List FileFacts) (depth : ℕ) (line : SourceFacts) (lines whole : List SourceFacts) → StandsOnce files line lines
    → AllStand (StandsFor files depth) lines whole → StandsFor files (suc depth) line whole
one_deeper files depth line lines whole (inl (ordinary, alone)) all =
    let (here, later, split, stands, none) = subst (λ (ls : List SourceFacts). AllStand (StandsFor files depth) ls whole) alone all in
    inl (ordinary, split ∙ ap₂ (λ (xs ys : List SourceFacts). xs ++ ys) (itself files depth line here ordinary stands) none)
one_deeper files depth line lines whole (inr (name, text, includes, found, are)) all =
    inr (name, text, includes, found, subst (λ (ls : List SourceFacts). AllStand (StandsFor files depth) ls whole) are all)

deeper : (files : List FileFacts) (depth : ℕ) (lines next whole : List SourceFacts) → AllStand (StandsOnce files) lines next
    → AllStand (StandsFor files depth) next whole → AllStand (StandsFor files (suc depth)) lines whole
deeper files depth [] next whole none all = subst (λ (ls : List SourceFacts). AllStand (StandsFor files depth) ls whole) none all
deeper files depth (line ∷ lines) next whole (first, rest, split, once, others) all =
    let parts = stand_split (StandsFor files depth) first rest whole (subst (λ (ls : List SourceFacts). AllStand (StandsFor files depth) ls whole) split all) in
    (parts.0, parts.1, parts.2, one_deeper files depth line first parts.0 once parts.3, deeper files depth lines rest parts.1 others parts.4)

pub whole_deeper : (files : List FileFacts) (lines next whole : List SourceFacts) → AllStand (StandsOnce files) lines next → IsWhole files next whole
    → IsWhole files lines whole
whole_deeper files lines next whole once (depth, all) = (suc depth, deeper files depth lines next whole once all)

all_themselves : (files : List FileFacts) (lines : List SourceFacts) → AreOrdinary lines → AllStand (StandsFor files 0) lines lines
all_themselves files [] ordinary = refl
all_themselves files (line ∷ lines) ordinary = (line ∷ [], lines, refl, (ordinary.0, refl), all_themselves files lines ordinary.1)

-- lines that include no file are whole
pub whole_ordinary : (files : List FileFacts) (lines : List SourceFacts) → AreOrdinary lines → IsWhole files lines lines
whole_ordinary files lines ordinary = (0, all_themselves files lines ordinary)

-- ---- files
-- the first file has the name
pub found_first : (files : List PolicyFile) (name : List ℕ) (asked given : PolicyFile) → 0 < length files → asked ≡ get_or files 0 asked
    → given ≡ get_or files 0 given → bytes_eq (string_bytes asked.name) name ≡ true
    → (string_bytes given.name ≡ name) × (text_of name (map file_facts files) ≡ Some given.text.items)
found_first [] name asked given small asked_is given_is same = absurd (omega (arith, small))
found_first (f ∷ files) name asked given small asked_is given_is same =
    let named : bytes_eq (string_bytes f.name) name ≡ true = ap (λ (g : PolicyFile). bytes_eq (string_bytes g.name) name) (sym asked_is) ∙ same in
    let here : text_of name (map file_facts (f ∷ files)) ≡ Some f.text.items = rw named refl in (
      ap (λ (g : PolicyFile). string_bytes g.name) given_is ∙ (bytes_eq-Decides (string_bytes f.name) name).0 named,
      here ∙ ap (λ (g : PolicyFile). Some g.text.items) (sym given_is),
    )

pub first_file : (files : List PolicyFile) (file : PolicyFile) → 0 < length files → file ≡ get_or files 0 file
    → map file_facts files ≡ file_facts file ∷ map file_facts (drop 1 files)
first_file [] file small is = absurd (omega (arith, small))
first_file (f ∷ files) file small is = ap (λ (g : PolicyFile). file_facts g ∷ map file_facts files) (sym is)

-- what stands at a place is one of all
one_at : (lines : List SourceLine) (i : ℕ) (d : SourceLine) → i < length lines → IsOneOf (source_facts (get_or lines i d)) (map source_facts lines)
one_at [] i d small = absurd (omega (arith, small))
one_at (l ∷ lines) zero d small = inl refl
one_at (l ∷ lines) (suc i) d small = inr (one_at lines i d (omega (arith, small)))

-- the file that the line at a place includes
pub missing_at : (files : List FileFacts) (lines : List SourceLine) (i : ℕ) (d : SourceLine) (missing : MissingFile) → i < length lines
    → IsMissing files (source_facts (get_or lines i d)) missing → (line : SourceFacts) × IsOneOf line (map source_facts lines) × IsMissing files line missing
missing_at files lines i d missing small is = (source_facts (get_or lines i d), one_at lines i d small, is)
