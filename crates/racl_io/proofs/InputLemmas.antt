-- The first marker line parts an input in one way at most.
use Rattle.std.proofs.Common.{◌≡◌, ◌≢◌, codes, IfSome, IfNone, ◌∙◌, ℕ, ◌==◌, ◌<◌, ◌+◌, List, [], ◌∷◌, ◌++◌, Option, None, Some, MatchOption, drop, length, length-append, refl, sym, ap, ap₂, subst, inl, inr, append_assoc, arith, lit≤}
use Rattle.std.proofs.lemmas.Bool.{both_ways, eq-eqb}
use Rattle.std.specs.List.{AllByRecursion}
use Rattle.racl_io.specs.declared.marker_line.Form.{Form}
use Rattle.racl_io.specs.declared.marker_line.Form.TheVariants.{Binary, Hexadecimal, Numbered}
use Rattle.racl_io.specs.declared.marker_line.Marks.{Marks}
use Rattle.racl_io.specs.declared.marker_line.Marks.TheVariants.{Every, Numbers}
use Rattle.racl_io.specs.Inputs.{AreCaptures, Counts, DigitsFacts, InputFacts, AreCutDigits, IsFirstLine, IsInput, IsMarked, IsMarker, IsParted, IsPlainLine, IsWord, HasNoFeed, NumberedFacts, joined}
use Rattle.acl_policy.specs.inner.WordReading.Numerals.{octet_in}
use Rattle.acl_policy.proofs.NumeralLaws.{Lacks, octet_in-complete, octet_in-sound}
use Rattle.acl_policy.proofs.PieceLaws.{Lacks-IsOctet}

-- what stands before the rest are lines that are no markers
pub record IsFront (marks : Marks) (bytes rest : List ℕ) : Type 0 where
  pub lines : List (List ℕ)
  pub plain : AllByRecursion (IsPlainLine marks) lines
  pub parted : bytes ≡ joined lines ++ rest

pub front_of_all : (marks : Marks) (bytes : List ℕ) → IsFront marks bytes bytes
front_of_all marks bytes = record { lines = []; plain = tt; parted = refl }

joined-push : (lines : List (List ℕ)) (line rest : List ℕ) → joined (lines ++ line ∷ []) ++ rest ≡ joined lines ++ (line ++ 10 ∷ rest)
joined-push [] line rest = append_assoc line (10 ∷ []) rest
joined-push (first ∷ lines) line rest =
    append_assoc first (10 ∷ joined (lines ++ line ∷ [])) rest
    ∙ ap (λ more. first ++ 10 ∷ more) (joined-push lines line rest)
    ∙ sym (append_assoc first (10 ∷ joined lines) (line ++ 10 ∷ rest))

plain-push : (marks : Marks) (lines : List (List ℕ)) (line : List ℕ) → AllByRecursion (IsPlainLine marks) lines → IsPlainLine marks line → AllByRecursion (IsPlainLine marks) (lines ++ line ∷ [])
plain-push marks [] line all one = (one, tt)
plain-push marks (first ∷ lines) line all one = (all.0, plain-push marks lines line all.1 one)

-- a line that is no marker goes to the front
pub front_grows : (marks : Marks) (bytes rest line after : List ℕ) → IsFront marks bytes rest → IsFirstLine rest line after
    → ((form : Form) → Counts marks form → IsMarker form line → ⊥) → IsFront marks bytes after
front_grows marks bytes rest line after front first unmarked = record {
  lines = front.lines ++ line ∷ [];
  plain = plain-push marks front.lines line front.plain (record { whole = first.whole; unmarked = unmarked });
  parted = front.parted ∙ ap (λ more. joined front.lines ++ more) first.parted ∙ sym (joined-push front.lines line after);
}

-- where both lines end first, they are one line
pub one_first_line : (a b x y : List ℕ) → HasNoFeed a → HasNoFeed b → a ++ 10 ∷ x ≡ b ++ 10 ∷ y → (a ≡ b) × (x ≡ y)
one_first_line [] [] x y p q same = (refl, cc)
one_first_line [] (c ∷ b) x y p q same = let head : c ≡ 10 = cc in absurd (q.0 head)
one_first_line (c ∷ a) [] x y p q same = let head : c ≡ 10 = cc in absurd (p.0 head)
one_first_line (c ∷ a) (d ∷ b) x y p q same =
    let heads : c ≡ d = cc in
    let tails : a ++ 10 ∷ x ≡ b ++ 10 ∷ y = cc in
    let more = one_first_line a b x y p.1 q.1 tails in
    (ap₂ (λ h t. h ∷ t) heads more.0, more.1)

-- where no line ends, there is no line feed
pub no_feed : (a x bytes : List ℕ) → HasNoFeed bytes → bytes ≡ a ++ 10 ∷ x → ⊥
no_feed [] x [] none same = cc
no_feed [] x (c ∷ bytes) none same = let head : c ≡ 10 = cc in none.0 head
no_feed (d ∷ a) x [] none same = cc
no_feed (d ∷ a) x (c ∷ bytes) none same = let tails : bytes ≡ a ++ 10 ∷ x = cc in no_feed a x bytes none.1 tails

-- digits are no line feed
no_feed_lacking : (word : List ℕ) → Lacks 10 word → HasNoFeed word
no_feed_lacking [] lacks = tt
no_feed_lacking (b ∷ bs) lacks = ((λ same. both_ways (b == 10) lacks.0 (eq-eqb b 10 same)), no_feed_lacking bs lacks.1)

no_feed_append : (xs ys : List ℕ) → HasNoFeed xs → HasNoFeed ys → HasNoFeed (xs ++ ys)
no_feed_append [] ys one other = other
no_feed_append (x ∷ xs) ys one other = (one.0, no_feed_append xs ys one.1 other)

word_has_no_feed : (form : Form) (word : List ℕ) → IsWord form word → HasNoFeed word
word_has_no_feed Binary word is = subst HasNoFeed (sym is) ((λ e. omega (arith, e)), ((λ e. omega (arith, e)), ((λ e. omega (arith, e)), ((λ e. omega (arith, e)), tt))))
word_has_no_feed Hexadecimal word is = subst HasNoFeed (sym is) ((λ e. omega (arith, e)), ((λ e. omega (arith, e)), ((λ e. omega (arith, e)), tt)))
word_has_no_feed (Numbered number) word (digits, is, octet) =
    subst HasNoFeed (sym is) (
      (λ e. omega (arith, e)),
      (
        (λ e. omega (arith, e)),
        (
          (λ e. omega (arith, e)),
          (
            (λ e. omega (arith, e)),
            no_feed_lacking digits (Lacks-IsOctet 10 digits number (lit≤ tt) octet),
          ),
        ),
      ),
    )

marker_has_no_feed : (form : Form) (line : List ℕ) → IsMarker form line → HasNoFeed line
marker_has_no_feed form line (inl is) = word_has_no_feed form line is
marker_has_no_feed form line (inr (word, is, same)) =
    subst HasNoFeed (sym same) (no_feed_append word (13 ∷ []) (word_has_no_feed form word is) ((λ e. omega (arith, e)), tt))

-- after a plain line no marker is at the front
plain_is_not_marked : (marks : Marks) (form : Form) (content line rest : List ℕ) → Counts marks form → IsPlainLine marks line → IsMarked form content (line ++ 10 ∷ rest) → ⊥
plain_is_not_marked marks form content line rest counts plain (inl (other, marker, same)) =
    let heads = one_first_line line other rest content plain.whole (marker_has_no_feed form other marker) same in
    plain.unmarked form counts (subst (IsMarker form) (sym heads.0) marker)
plain_is_not_marked marks form content line rest counts plain (inr (is, none)) = no_feed line rest (line ++ 10 ∷ rest) (word_has_no_feed form (line ++ 10 ∷ rest) is) refl

-- where no line ends and no marker word stands, nothing is marked
unmarked_end : (marks : Marks) (form : Form) (content rest : List ℕ) → Counts marks form → HasNoFeed rest → ((f : Form) → Counts marks f → IsWord f rest → ⊥)
    → IsMarked form content rest → ⊥
unmarked_end marks form content rest counts none unmarked (inl (line, marker, same)) = no_feed line content rest none same
unmarked_end marks form content rest counts none unmarked (inr (is, empty)) = unmarked form counts is

ended : (line : List ℕ) (lines : List (List ℕ)) (rest : List ℕ) → joined (line ∷ lines) ++ rest ≡ line ++ 10 ∷ (joined lines ++ rest)
ended line lines rest = append_assoc line (10 ∷ joined lines) rest

no_marker : (marks : Marks) (form : Form) (content : List ℕ) (lines others : List (List ℕ)) (rest marked : List ℕ) → Counts marks form
    → AllByRecursion (IsPlainLine marks) lines → AllByRecursion (IsPlainLine marks) others
    → HasNoFeed rest → ((f : Form) → Counts marks f → IsWord f rest → ⊥) → joined lines ++ rest ≡ joined others ++ marked → IsMarked form content marked → ⊥
no_marker marks form content [] [] rest marked counts plain plains none unmarked same is =
    unmarked_end marks form content rest counts none unmarked (subst (IsMarked form content) (sym same) is)
no_marker marks form content [] (line ∷ others) rest marked counts plain plains none unmarked same is = no_feed line (joined others ++ marked) rest none (same ∙ ended line others marked)
no_marker marks form content (line ∷ lines) [] rest marked counts plain plains none unmarked same is =
    plain_is_not_marked marks form content line (joined lines ++ rest) counts plain.0 (subst (IsMarked form content) (sym same ∙ ended line lines rest) is)
no_marker marks form content (line ∷ lines) (other ∷ others) rest marked counts plain plains none unmarked same is =
    let heads = one_first_line line other (joined lines ++ rest) (joined others ++ marked) plain.0.whole plains.0.whole (sym (ended line lines rest) ∙ same ∙ ended other others marked) in
    no_marker marks form content lines others rest marked counts plain.1 plains.1 none unmarked heads.1 is

-- bytes whose lines are no markers that count have no parts
pub no_input : (marks : Marks) (bytes rest : List ℕ) → IsFront marks bytes rest → HasNoFeed rest → ((f : Form) → Counts marks f → IsWord f rest → ⊥)
    → (parts : InputFacts) → IsParted marks bytes parts → ⊥
no_input marks bytes rest front none unmarked parts is =
    no_marker marks parts.form parts.content front.lines is.lines rest is.marked is.counts front.plain is.plain none unmarked
    (sym front.parted ∙ is.parted ∙ ap (λ p. p ++ is.marked) is.policy) is.content

-- the words begin with different letters
unlike : (x y : List ℕ) → 112 ∷ x ≡ 104 ∷ y → ⊥
unlike x y same = let p : ℕ = 112 in let h : ℕ = 104 in let heads : p ≡ h = cc in omega (arith, heads)

-- a word with digits is longer than `hex`
longer : (digits : List ℕ) → 104 ∷ 101 ∷ 120 ∷ [] ≡ 104 ∷ 101 ∷ 120 ∷ 32 ∷ digits → ⊥
longer digits same = omega (arith, ap length same)

-- words spell one form
one_word : (one other : Form) (word : List ℕ) → IsWord one word → IsWord other word → one ≡ other
one_word Binary Binary word p q = refl
one_word Hexadecimal Hexadecimal word p q = refl
one_word Binary Hexadecimal word p q = absurd (unlike _ _ (sym p ∙ q))
one_word Hexadecimal Binary word p q = absurd (unlike _ _ (sym q ∙ p))
one_word Binary (Numbered n) word p (digits, q, octet) = absurd (unlike _ _ (sym p ∙ q))
one_word (Numbered n) Binary word (digits, p, octet) q = absurd (unlike _ _ (sym q ∙ p))
one_word Hexadecimal (Numbered n) word p (digits, q, octet) = absurd (longer digits (sym p ∙ q))
one_word (Numbered n) Hexadecimal word (digits, p, octet) q = absurd (longer digits (sym q ∙ p))
one_word (Numbered n) (Numbered m) word (digits, p, octet) (others, q, octet') =
    let same : digits ≡ others = ap (drop 4) (sym p ∙ q) in
    let read = octet_in-complete digits n octet in
    let read' = octet_in-complete others m octet' in
    let number : n ≡ m = cc in
    ap Numbered number

-- a number that is read behind `hex` and a space makes a word
pub interface_read : (word digits : List ℕ) (read : Option ℕ) → word ≡ 104 ∷ 101 ∷ 120 ∷ 32 ∷ digits → read ≡ octet_in digits → IfSome read (λ n. IsWord (Numbered n) word)
interface_read word digits None same is = tt
interface_read word digits (Some n) same is = (digits, same, octet_in-sound digits n (sym is))

-- and where none is read, there is no such word
pub no_interface : (word digits : List ℕ) (read : Option ℕ) → word ≡ 104 ∷ 101 ∷ 120 ∷ 32 ∷ digits → read ≡ octet_in digits
    → IfNone read ((n : ℕ) → IsWord (Numbered n) word → ⊥)
no_interface word digits (Some n) same is = tt
no_interface word digits None same is = λ n word.
    let others : word.0 ≡ digits = ap (drop 4) (sym word.1 ∙ same) in
    let complete = octet_in-complete word.0 n word.2 in
    let f : ⊥ = cc in f

-- a word that has no number and is none of the others
pub no_form : (marks : Marks) (word : List ℕ) (found : Option Form) → ((n : ℕ) → IsWord (Numbered n) word → ⊥)
    → IfNone found ((word ≢ codes "pcap") × (word ≢ codes "hex")) → IfNone found ((form : Form) → Counts marks form → IsWord form word → ⊥)
no_form marks word (Some form) none plain = tt
no_form marks word None none plain = go
  where
    go : (form : Form) → Counts marks form → IsWord form word → ⊥
    go Binary counts is = plain.0 is
    go Hexadecimal counts is = plain.1 is
    go (Numbered n) counts is = none n is

-- a word that has no number, where only those count
pub no_number : (marks : Marks) (word : List ℕ) → marks ≡ Numbers → ((n : ℕ) → IsWord (Numbered n) word → ⊥)
    → (form : Form) → Counts marks form → IsWord form word → ⊥
no_number marks word same none Binary counts is = subst (λ m. Counts m Binary) same counts
no_number marks word same none Hexadecimal counts is = subst (λ m. Counts m Hexadecimal) same counts
no_number marks word same none (Numbered n) counts is = none n is

-- a word doesn't end with a carriage return
ends_without : (form : Form) (word line : List ℕ) → IsWord form line → line ≡ word ++ 13 ∷ [] → ⊥
ends_without form word line is same = no_return word (lacks_return form line is) same
  where
    no_return : (word : List ℕ) {line : List ℕ} → Lacks 13 line → line ≡ word ++ 13 ∷ [] → ⊥
    no_return word lacks same = lacking word (subst (Lacks 13) same lacks)
      where
        lacking : (word : List ℕ) → Lacks 13 (word ++ 13 ∷ []) → ⊥
        lacking [] lacks = both_ways (13 == 13) lacks.0 refl
        lacking (b ∷ bs) lacks = lacking bs lacks.1

    lacks_return : (form : Form) (line : List ℕ) → IsWord form line → Lacks 13 line
    lacks_return Binary line is = subst (Lacks 13) (sym is) (refl, (refl, (refl, (refl, tt))))
    lacks_return Hexadecimal line is = subst (Lacks 13) (sym is) (refl, (refl, (refl, tt)))
    lacks_return (Numbered n) line (digits, is, octet) =
        subst (Lacks 13) (sym is) (refl, (refl, (refl, (refl, Lacks-IsOctet 13 digits n (lit≤ tt) octet))))

pub same_front_of : (a b : List ℕ) → a ++ 13 ∷ [] ≡ b ++ 13 ∷ [] → a ≡ b
same_front_of [] [] same = refl
same_front_of [] (y ∷ []) same = let f : ⊥ = cc in absurd f
same_front_of [] (y ∷ z ∷ ys) same = let f : ⊥ = cc in absurd f
same_front_of (x ∷ []) [] same = let f : ⊥ = cc in absurd f
same_front_of (x ∷ z ∷ xs) [] same = let f : ⊥ = cc in absurd f
same_front_of (x ∷ xs) (y ∷ ys) same =
    let head : x ≡ y = cc in
    let tail : xs ++ 13 ∷ [] ≡ ys ++ 13 ∷ [] = cc in
    ap₂ (λ h t. h ∷ t) head (same_front_of xs ys tail)

-- a line marks one form
pub one_form : (one other : Form) (line : List ℕ) → IsMarker one line → IsMarker other line → one ≡ other
one_form one other line (inl p) (inl q) = one_word one other line p q
one_form one other line (inl p) (inr (word, q, same)) = absurd (ends_without one word line p same)
one_form one other line (inr (word, p, same)) (inl q) = absurd (ends_without other word line q same)
one_form one other line (inr (word, p, same)) (inr (word', q, same')) =
    let words : word ≡ word' = same_front_of word word' (sym same ∙ same') in
    one_word one other word p (subst (IsWord other) (sym words) q)

one_marked : (one other : Form) (x y bytes : List ℕ) → IsMarked one x bytes → IsMarked other y bytes → (one ≡ other) × (x ≡ y)
one_marked one other x y bytes (inl (line, marker, same)) (inl (line', marker', same')) =
    let heads = one_first_line line line' x y (marker_has_no_feed one line marker) (marker_has_no_feed other line' marker') (sym same ∙ same') in
    (one_form one other line marker (subst (IsMarker other) (sym heads.0) marker'), heads.1)
one_marked one other x y bytes (inl (line, marker, same)) (inr (word, empty)) = absurd (no_feed line x bytes (word_has_no_feed other bytes word) same)
one_marked one other x y bytes (inr (word, empty)) (inl (line, marker, same)) = absurd (no_feed line y bytes (word_has_no_feed one bytes word) same)
one_marked one other x y bytes (inr (word, empty)) (inr (word', empty')) =
    (one_word one other bytes word word', empty ∙ sym empty')

one_front : (marks : Marks) (one other : Form) (x y : List ℕ) (lines others : List (List ℕ)) (marked marked' : List ℕ) → Counts marks one → Counts marks other
    → AllByRecursion (IsPlainLine marks) lines → AllByRecursion (IsPlainLine marks) others
    → joined lines ++ marked ≡ joined others ++ marked' → IsMarked one x marked → IsMarked other y marked' → (lines ≡ others) × (one ≡ other) × (x ≡ y)
one_front marks one other x y [] [] marked marked' counts counts' plain plains same is is' =
    let both = one_marked one other x y marked is (subst (IsMarked other y) (sym same) is') in (refl, both.0, both.1)
one_front marks one other x y [] (line ∷ others) marked marked' counts counts' plain plains same is is' =
    absurd (plain_is_not_marked marks one x line (joined others ++ marked') counts plains.0 (subst (IsMarked one x) (same ∙ ended line others marked') is))
one_front marks one other x y (line ∷ lines) [] marked marked' counts counts' plain plains same is is' =
    absurd (plain_is_not_marked marks other y line (joined lines ++ marked) counts' plain.0 (subst (IsMarked other y) (sym same ∙ ended line lines marked) is'))
one_front marks one other x y (line ∷ lines) (line' ∷ others) marked marked' counts counts' plain plains same is is' =
    let heads = one_first_line line line' (joined lines ++ marked) (joined others ++ marked') plain.0.whole plains.0.whole (sym (ended line lines marked) ∙ same ∙ ended line' others marked') in
    let more = one_front marks one other x y lines others marked marked' counts counts' plain.1 plains.1 heads.1 is is' in
    (ap₂ (λ h t. h ∷ t) heads.0 more.0, more.1, more.2)

same_parts : (a b : InputFacts) → a.policy ≡ b.policy → a.form ≡ b.form → a.content ≡ b.content → a ≡ b
same_parts a b policy form content =
    ap₂ (λ p f. let made : InputFacts = record { policy = p; form = f; content = a.content } in made) policy form
    ∙ ap (λ c. let made : InputFacts = record { policy = b.policy; form = b.form; content = c } in made) content

-- bytes are parted in one way
pub one_parting : (marks : Marks) (bytes : List ℕ) (a b : InputFacts) → IsParted marks bytes a → IsParted marks bytes b → a ≡ b
one_parting marks bytes a b is other =
    let all = one_front marks a.form b.form a.content b.content is.lines other.lines is.marked other.marked is.counts other.counts is.plain other.plain
    (ap (λ p. p ++ is.marked) (sym is.policy) ∙ sym is.parted ∙ other.parted ∙ ap (λ p. p ++ other.marked) other.policy) is.content other.content in
    same_parts a b (is.policy ∙ ap joined all.0 ∙ sym other.policy) all.1 all.2

-- an input has one policy, one form and one content
pub one_input : (bytes : List ℕ) (a b : InputFacts) → IsInput bytes a → IsInput bytes b → a ≡ b
one_input bytes a b is other = one_parting Every bytes a b is other

-- content is cut in one way
one_cut : (content digits others : List ℕ) (a b : Option NumberedFacts) → AreCutDigits content digits a → AreCutDigits content others b → (digits ≡ others) × (a ≡ b)
one_cut content digits others None None (is, none) (are, nor) = (is ∙ sym are, refl)
one_cut content digits others None (Some b) (is, none) cut = absurd (none _ cut)
one_cut content digits others (Some a) None cut (is, none) = absurd (none _ cut)
one_cut content digits others (Some a) (Some b) cut other =
    let same = one_parting Numbers content _ _ cut other in
    let front : digits ≡ others = ap (λ (i : InputFacts). i.policy) same in
    let forms = ap (λ (i : InputFacts). i.form) same in
    let number : a.interface ≡ b.interface = cc in
    let behind : a.content ≡ b.content = ap (λ (i : InputFacts). i.content) same in
    (front, ap₂ (λ n c. let next : NumberedFacts = record { interface = n; content = c } in Some next) number behind)

-- what follows a marker line with a number is the digits of captures in one way
pub one_captures : (number : ℕ) (content : List ℕ) (a b : List DigitsFacts) → AreCaptures number content a → AreCaptures number content b → a ≡ b
one_captures number content [] b none other = absurd none
one_captures number content (a ∷ xs) [] is none = absurd none
one_captures number content (a ∷ xs) (b ∷ ys) (same, next, cut, behind) (same', next', cut', behind') =
    let both = one_cut content a.digits b.digits next next' cut cut' in
    let moved = subst (λ (n : Option NumberedFacts). MatchOption n (ys ≡ []) (λ k. AreCaptures k.interface k.content ys)) (sym both.1) behind' in
    ap₂ (λ (first : DigitsFacts) (others : List DigitsFacts). first ∷ others)
    (ap₂ (λ n d. let made : DigitsFacts = record { interface = n; digits = d } in made) (same ∙ sym same') both.0)
    (go (λ k. one_captures k.interface k.content xs ys) next behind moved)
  where
    go : ((k : NumberedFacts) → AreCaptures k.interface k.content xs → AreCaptures k.interface k.content ys → xs ≡ ys)
        → (next : Option NumberedFacts) → MatchOption next (xs ≡ []) (λ k. AreCaptures k.interface k.content xs)
        → MatchOption next (ys ≡ []) (λ k. AreCaptures k.interface k.content ys) → xs ≡ ys
    go same None none none' = none ∙ sym none'
    go same (Some k) are are' = same k are are'

some_word : (form : Form) (word : List ℕ) → IsWord form word → 0 < length word
some_word Binary word is = omega (arith, ap length is)
some_word Hexadecimal word is = omega (arith, ap length is)
some_word (Numbered n) word (digits, is, octet) = omega (arith, ap length is)

-- a marker line isn't part of what follows it
pub shorter_behind : (marks : Marks) (bytes : List ℕ) (parts : InputFacts) → IsParted marks bytes parts → length parts.content < length bytes
shorter_behind marks bytes parts is = go is.content
  where
    all : length bytes ≡ length parts.policy + length is.marked
    all = ap length is.parted ∙ length-append parts.policy is.marked

    go : IsMarked parts.form parts.content is.marked → length parts.content < length bytes
    go (inl (line, marker, same)) = omega (arith, all, ap length same, length-append line (10 ∷ parts.content))
    go (inr (word, none)) = omega (arith, all, ap length none, some_word parts.form is.marked word)
