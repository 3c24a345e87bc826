-- The rows that have a word of each list are those that are chosen.
use Rattle.std.proofs.Common.{◌≡◌, ◌<◌, ◌+◌, ℕ, length, take, get_or, List, [], ◌∷◌, ◌++◌, map, refl, sym, ap, ◌∙◌, subst, ◌⊎◌, inl, inr, Bool, true, false, cond, fold}
use Rattle.std.proofs.lemmas.Bool.{cases_Bool}
use Rattle.std.proofs.lemmas.List.{append-nil, append_assoc, map_more}
use Rattle.std.proofs.lemmas.List.Concat.{flat_map-append}
use Rattle.std.specs.Prelude.{filter}
use Rattle.policy_expand.specs.Meaning.{AreChosen, IsOneOf}
use Rattle.policy_expand.specs.Written.{list_words}
use Rattle.policy_expand.specs.declared.visible_word.WordList.{WordList}
use Rattle.policy_expand.specs.Rows.{grown}
use Rattle.policy_expand.specs.declared.visible_word.Word.{Word}

pub one_of-left : {X : Type 0} (x : X) (xs ys : List X) → IsOneOf x xs → IsOneOf x (xs ++ ys)
one_of-left x [] ys h = absurd h
one_of-left x (y ∷ xs) ys (inl e) = inl e
one_of-left x (y ∷ xs) ys (inr h) = inr (one_of-left x xs ys h)

pub one_of-right : {X : Type 0} (x : X) (xs ys : List X) → IsOneOf x ys → IsOneOf x (xs ++ ys)
one_of-right x [] ys h = h
one_of-right x (y ∷ xs) ys h = inr (one_of-right x xs ys h)

pub one_of-append : {X : Type 0} (x : X) (xs ys : List X) → IsOneOf x (xs ++ ys) → IsOneOf x xs ⊎ IsOneOf x ys
one_of-append x [] ys h = inr h
one_of-append x (y ∷ xs) ys (inl e) = inl (inl e)
one_of-append x (y ∷ xs) ys (inr h) = elim (one_of-append x xs ys h) [ inl here ↦ inl (inr here) | inr later ↦ inr later ]

pub one_of-map : {X Y : Type 0} (f : X → Y) (x : X) (xs : List X) → IsOneOf x xs → IsOneOf (f x) (map f xs)
one_of-map f x [] h = absurd h
one_of-map f x (y ∷ xs) (inl e) = inl (ap f e)
one_of-map f x (y ∷ xs) (inr h) = inr (one_of-map f x xs h)

pub one_of-unmap : {X Y : Type 0} (f : X → Y) (y : Y) (xs : List X) → IsOneOf y (map f xs) → (x : X) × IsOneOf x xs × (y ≡ f x)
one_of-unmap f y [] h = absurd h
one_of-unmap f y (x ∷ xs) (inl e) = (x, inl refl, e)
one_of-unmap f y (x ∷ xs) (inr h) = let found = one_of-unmap f y xs h in (found.0, inr found.1, found.2)

-- what a filter keeps is one of the list, and keeps each that passes
pub one_of-kept : {X : Type 0} (p : X → Bool) (x : X) (xs : List X) → IsOneOf x (filter p xs) → IsOneOf x xs
one_of-kept p x [] h = absurd h
one_of-kept {X = X} p x (y ∷ xs) h = go (p y) (one_of-kept p x xs) h
  where
    go : (b : Bool) → (IsOneOf x (filter p xs) → IsOneOf x xs) → IsOneOf x (cond b (y ∷ filter p xs) (filter p xs)) → IsOneOf x (y ∷ xs)
    go true others (inl e) = inl e
    go true others (inr later) = inr (others later)
    go false others later = inr (others later)

pub one_of-filter : {X : Type 0} (p : X → Bool) (x : X) (xs : List X) → p x ≡ true → IsOneOf x xs → IsOneOf x (filter p xs)
one_of-filter p x [] passes h = absurd h
one_of-filter p x (y ∷ xs) passes (inl e) =
    let here : p y ≡ true = ap p (sym e) ∙ passes in
    rw here (inl e)
one_of-filter p x (y ∷ xs) passes (inr h) = elim (cases_Bool (p y)) [
  | inl here ↦ rw here (inr (one_of-filter p x xs passes h))
  | inr not_here ↦ rw not_here (one_of-filter p x xs passes h)
]

pub in_grown : (rows : List (List Word)) (list : List Word) (row : List Word) → IsOneOf row (grown rows list)
    → (front : List Word) × (word : Word) × IsOneOf front rows × IsOneOf word list × (row ≡ front ++ word ∷ [])
in_grown [] list row h = absurd h
in_grown (front ∷ rows) list row h =
    elim (one_of-append row (map (λ (word : Word). front ++ word ∷ []) list) (grown rows list) h) [
      | inl here ↦
          let found = one_of-unmap (λ (word : Word). front ++ word ∷ []) row list here in
          (front, found.0, inl refl, found.1, found.2)
      | inr later ↦
          let found = in_grown rows list row later in
          (found.0, found.1, inr found.2, found.3, found.4)
    ]

pub to_grown : (rows : List (List Word)) (list : List Word) (front : List Word) (word : Word) → IsOneOf front rows → IsOneOf word list
    → IsOneOf (front ++ word ∷ []) (grown rows list)
to_grown [] list front word is one = absurd is
to_grown (row ∷ rows) list front word (inl e) one =
    one_of-left (front ++ word ∷ []) (map (λ (w : Word). row ++ w ∷ []) list) (grown rows list)
    (subst (λ (r : List Word). IsOneOf (r ++ word ∷ []) (map (λ (w : Word). row ++ w ∷ []) list)) (sym e)
    (one_of-map (λ (w : Word). row ++ w ∷ []) word list one))
to_grown (row ∷ rows) list front word (inr is) one =
    one_of-right (front ++ word ∷ []) (map (λ (w : Word). row ++ w ∷ []) list) (grown rows list) (to_grown rows list front word is one)

-- a row of all lists is one of those that there were, and behind it a word of each list
pub in_rows : (rows lists : List (List Word)) (row : List Word) → IsOneOf row (fold grown rows lists)
    → (front : List Word) × (rest : List Word) × IsOneOf front rows × AreChosen lists rest × (row ≡ front ++ rest)
in_rows rows [] row h = (row, [], h, refl, sym (append-nil row))
in_rows rows (list ∷ lists) row h =
    let (front, rest, is, chosen, split) = in_rows (grown rows list) lists row h in
    let (first, word, there, one, cut) = in_grown rows list front is in
    (first, word ∷ rest, there, (word, rest, refl, one, chosen), split ∙ ap (λ (f : List Word). f ++ rest) cut ∙ append_assoc first (word ∷ []) rest)

pub to_rows : (rows lists : List (List Word)) (front rest : List Word) → IsOneOf front rows → AreChosen lists rest
    → IsOneOf (front ++ rest) (fold grown rows lists)
to_rows rows [] front rest is none =
    subst (λ (row : List Word). IsOneOf row rows) (sym (ap (λ (ws : List Word). front ++ ws) none ∙ append-nil front)) is
to_rows rows (list ∷ lists) front rest is (word, more, cut, one, chosen) =
    subst (λ (row : List Word). IsOneOf row (fold grown (grown rows list) lists))
    (append_assoc front (word ∷ []) more ∙ ap (λ (ws : List Word). front ++ ws) (sym cut))
    (to_rows (grown rows list) lists (front ++ word ∷ []) more (to_grown rows list front word is one) chosen)

-- one more row, with each word
grown_more : (rows : List (List Word)) (list row : List Word) → grown (rows ++ row ∷ []) list ≡ grown rows list ++ map (λ (word : Word). row ++ word ∷ []) list
grown_more rows list row =
    let f : List Word → List (List Word) = λ (r : List Word). map (λ (word : Word). r ++ word ∷ []) list in
    flat_map-append f rows (row ∷ []) ∙ ap (λ (t : List (List Word)). grown rows list ++ t) (append-nil (f row))

pub grown_next : (rows : List WordList) (i : ℕ) (row : WordList) (list : List Word) (old new : List (List Word)) → i < length rows → row ≡ get_or rows i row
    → old ≡ grown (map list_words (take i rows)) list → new ≡ old ++ map (λ (word : Word). list_words row ++ word ∷ []) list
    → new ≡ grown (map list_words (take (i + 1) rows)) list
grown_next rows i row list old new small here so_far added =
    let f : List Word → List (List Word) = λ (r : List Word). map (λ (word : Word). r ++ word ∷ []) list in
    added ∙ ap (λ (o : List (List Word)). o ++ f (list_words row)) so_far ∙ sym (grown_more (map list_words (take i rows)) list (list_words row))
    ∙ ap (λ (r : WordList). grown (map list_words (take i rows) ++ list_words r ∷ []) list) here
    ∙ ap (λ (rs : List (List Word)). grown rs list) (sym (map_more list_words rows i row small))
