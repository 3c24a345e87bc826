-- One more word or piece, and what it stands for.
use Rattle.std.proofs.Common.{◌≡◌, ℕ, ◌+◌, ◌<◌, ◌≤◌, arith, drop, Option, Some, None, false, List, [], ◌∷◌, ◌++◌, length, map, refl, sym, ap, ◌∙◌, subst, take, get_or}
use Rattle.std.proofs.lemmas.List.{append-nil, append_assoc, take_more, map_push}
use Rattle.std.specs.Prelude.{is_some, option_map, slice_get, codes, ◌⊎◌, ◌≢◌}
use Rattle.policy_expand.specs.Lists.{AreListsOf, AreStoodFor, IsListOf, IsStoodFor, IsUnionOf}
use Rattle.policy_expand.specs.Written.{list_words, word_text}
use Rattle.policy_expand.specs.WrittenLines.{IsPlain}
use Rattle.policy_expand.specs.declared.set_lists.NamedSet.{NamedSet}
use Rattle.policy_expand.specs.declared.visible_word.Word.{Word}
use Rattle.policy_expand.specs.declared.visible_word.WordList.{WordList}

lists_more : (sets : List NamedSet) (words : List Word) (lists : List (List Word)) (word : Word) (list : List Word) → AreListsOf sets words lists
    → IsListOf sets word list → AreListsOf sets (words ++ word ∷ []) (lists ++ list ∷ [])
lists_more sets [] lists word list none is = (list, [], ap (λ (ls : List (List Word)). ls ++ list ∷ []) none, is, refl)
lists_more sets (w ∷ words) lists word list (first, more, split, one, others) is = (
  first,
  more ++ list ∷ [],
  ap (λ (ls : List (List Word)). ls ++ list ∷ []) split,
  one,
  lists_more sets words more word list others is,
)

union_more : (sets : List NamedSet) (words : List Word) (union : List Word) (word : Word) (list : List Word) → IsUnionOf sets words union
    → IsListOf sets word list → IsUnionOf sets (words ++ word ∷ []) (union ++ list)
union_more sets [] union word list none is = (list, [], ap (λ (ws : List Word). ws ++ list) none ∙ sym (append-nil list), is, refl)
union_more sets (w ∷ words) union word list (first, more, split, one, others) is = (
  first,
  more ++ list,
  ap (λ (ws : List Word). ws ++ list) split ∙ append_assoc first more list,
  one,
  union_more sets words more word list others is,
)

pieces_more : (sets : List NamedSet) (pieces : List (List ℕ)) (words : List Word) (piece : List ℕ) (list : List Word) → AreStoodFor sets pieces words
    → IsStoodFor sets piece list → AreStoodFor sets (pieces ++ piece ∷ []) (words ++ list)
pieces_more sets [] words piece list none is = (list, [], ap (λ (ws : List Word). ws ++ list) none ∙ sym (append-nil list), is, refl)
pieces_more sets (p ∷ pieces) words piece list (first, more, split, one, others) is = (
  first,
  more ++ list,
  ap (λ (ws : List Word). ws ++ list) split ∙ append_assoc first more list,
  one,
  pieces_more sets pieces more piece list others is,
)

-- the same at the next place of the words
pub lists_next : (sets : List NamedSet) (words : List Word) (i : ℕ) (lists : List WordList) (d : Word) (list : WordList) → i < length words
    → AreListsOf sets (take i words) (map list_words lists) → IsListOf sets (get_or words i d) (list_words list)
    → AreListsOf sets (take (i + 1) words) (map list_words (lists ++ list ∷ []))
lists_next sets words i lists d list small so_far is =
    subst (λ (ws : List Word). AreListsOf sets ws (map list_words (lists ++ list ∷ []))) (sym (take_more words i d small))
    (subst (λ (ls : List (List Word)). AreListsOf sets (take i words ++ get_or words i d ∷ []) ls) (sym (map_push list_words lists list))
    (lists_more sets (take i words) (map list_words lists) (get_or words i d) (list_words list) so_far is))

pub union_next : (sets : List NamedSet) (words : List Word) (i : ℕ) (union : List Word) (d : Word) (list : List Word) → i < length words
    → IsUnionOf sets (take i words) union → IsListOf sets (get_or words i d) list → IsUnionOf sets (take (i + 1) words) (union ++ list)
union_next sets words i union d list small so_far is =
    subst (λ (ws : List Word). IsUnionOf sets ws (union ++ list)) (sym (take_more words i d small))
    (union_more sets (take i words) union (get_or words i d) list so_far is)

pub pieces_next : (sets : List NamedSet) (pieces : List (List ℕ)) (i : ℕ) (words : List Word) (piece : List ℕ) (list : List Word) → i < length pieces
    → piece ≡ get_or pieces i piece → AreStoodFor sets (take i pieces) words → IsStoodFor sets piece list
    → AreStoodFor sets (take (i + 1) pieces) (words ++ list)
pieces_next sets pieces i words piece list small here so_far is =
    subst (λ (ps : List (List ℕ)). AreStoodFor sets ps (words ++ list)) (sym (take_more pieces i piece small))
    (subst (λ (p : List ℕ). AreStoodFor sets (take i pieces ++ p ∷ []) (words ++ list)) here
    (pieces_more sets (take i pieces) words piece list so_far is))

-- the first five words of a list
pub first_five : (words : List Word) (a b c d e : Word) → 5 ≤ length words → a ≡ get_or words 0 a → b ≡ get_or words 1 b → c ≡ get_or words 2 c
    → d ≡ get_or words 3 d → e ≡ get_or words 4 e → words ≡ a ∷ b ∷ c ∷ d ∷ e ∷ drop 5 words
first_five [] a b c d e long p q r s t = absurd (omega (arith, long))
first_five (x ∷ []) a b c d e long p q r s t = absurd (omega (arith, long))
first_five (x ∷ y ∷ []) a b c d e long p q r s t = absurd (omega (arith, long))
first_five (x ∷ y ∷ z ∷ []) a b c d e long p q r s t = absurd (omega (arith, long))
first_five (x ∷ y ∷ z ∷ u ∷ []) a b c d e long p q r s t = absurd (omega (arith, long))
first_five (x ∷ y ∷ z ∷ u ∷ v ∷ more) a b c d e long p q r s t = cc

-- nothing comes of nothing
pub none_mapped : {X Y : Type 0} (f : X → Y) (o : Option X) → is_some o ≡ false → option_map f o ≡ None
none_mapped f None h = refl
none_mapped f (Some x) h = absurd (cc)

-- the first two words, of which the second is known
pub first_two : (words : List Word) (second : Word) → 2 ≤ length words → second ≡ get_or words 1 second
    → words ≡ get_or words 0 second ∷ second ∷ drop 2 words
first_two [] second long is = absurd (omega (arith, long))
first_two (x ∷ []) second long is = absurd (omega (arith, long))
first_two (x ∷ y ∷ words) second long is = cc

-- a list begins with one word
pub same_first : (words : List Word) (a b : Word) (rest : List Word) → slice_get words 0 ≡ Some a → words ≡ b ∷ rest → a ≡ b
same_first words a b rest first split =
    let other : Some b ≡ Some a = sym (ap (λ (ws : List Word). slice_get ws 0) split) ∙ first in
    cc

pub plain_words : (words : List Word) (first : Word) → slice_get words 0 ≡ Some first → word_text first ≢ codes "set"
    → (length words < 5) ⊎ ((word_text first ≡ codes "mac") ⊎ (word_text first ≡ codes "interface")) → IsPlain words
plain_words [] first is other plain = let bad : None ≡ Some first = is in absurd (cc)
plain_words (w ∷ words) first is other plain =
    let same : w ≡ first = cc in
    subst (λ (x : Word). IsPlain (x ∷ words)) (sym same) (other, plain)
