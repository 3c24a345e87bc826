-- Names are of one input, and what names captures of interfaces begins with a digit.
use Rattle.std.proofs.Common.{◌≡◌, ◌∙◌, ◌++◌, ◌==◌, ◌≢◌, ◌<◌, ◌≤◌, ◌+◌, ap, ap₂, arith, append-nil, length-append, refl, zero, suc, subst, sym, take, true, false, true≢false, ℕ, Bool, cond, not, ◌+◌, List, [], ◌∷◌, length, map, Option, Some, None, get_or}
use Rattle.std.specs.Prelude.{count_by}
use Rattle.std.specs.Char.{digit_value}
use Rattle.std.specs.List.{AllZip, after_first, before_first, position_or_len}
use Rattle.std.specs.Str.Parse.{AllDigits, IsNumeral, digits_value}
use Rattle.std.proofs.lemmas.Bool.{eqb-true, ne_eqb}
use Rattle.std.proofs.lemmas.List.{take_all}
use Rattle.std.proofs.lemmas.List.Sums.{passes_at_first, split_at_first, sum_by-cons}
use Rattle.std.proofs.lemmas.Str.Parse.{digit_from_value}
use Rattle.std.specs.Borrow.{Bor}
use Rattle.clap.specs.Walk.{texts}
use Rattle.clap.specs.Words.{Text}
use Rattle.clap.proofs.CutLemmas.{Lacks, after_first-at, before_first-at}
use Rattle.acl_policy.specs.inner.WordReading.Numerals.{octet_in}
use Rattle.acl_policy.proofs.NumeralLaws.{octet_in-complete, octet_in-sound}
use Rattle.racl_options.specs.declared.settings.CaptureFile.{CaptureFile}
use Rattle.racl_options.specs.Options.{Use, values_of}
use Rattle.racl_options.specs.Origins.{CaptureFacts, IsNamed, Name, OriginFacts, capture_facts, is_standard, FromStandard, FromFiles, FromInterfaces}
use Rattle.racl_options.proofs.NameWalks.{ArePlain, IsPlainValue}

-- the values name these captures, in their order
abbrev pub AreNamed : List Text → List CaptureFacts → Type 0
AreNamed values captures = AllZip IsNamed values captures

-- one of the files at most is standard input
abbrev pub AreApart : List Text → Type 0
AreApart names = count_by is_standard names ≤ 1

-- digits have no equals sign (61)
digits_lack : (word : Text) → AllDigits 10 word → Lacks 61 word
digits_lack [] all i lt = absurd (omega arith)
digits_lack (d ∷ ds) all zero lt = λ same. let value : digit_value d ≡ digit_value 61 = ap digit_value same in absurd (omega (arith, all.0))
digits_lack (d ∷ ds) all (suc i) lt = digits_lack ds all.1 i (omega arith)

-- what stands before the first equals sign is the digits, and what stands behind it the name
pub digits_before : (value : Text) (c : CaptureFacts) (is : IsNamed value c) → before_first (λ b. b == 61) value ≡ is.0
digits_before value c is = ap (before_first (λ b. b == 61)) is.1 ∙ before_first-at 61 is.0 c.name (digits_lack is.0 is.2.0.0.1)

pub name_behind : (value : Text) (c : CaptureFacts) → IsNamed value c → after_first (λ b. b == 61) value ≡ c.name
name_behind value c is = ap (after_first (λ b. b == 61)) is.1 ∙ after_first-at 61 is.0 c.name (digits_lack is.0 is.2.0.0.1)

one_capture : (value : Text) (a b : CaptureFacts) → IsNamed value a → IsNamed value b → a ≡ b
one_capture value a b p q =
    let digits = sym (digits_before value a p) ∙ digits_before value b q in
    let name = sym (name_behind value a p) ∙ name_behind value b q in
    let interface = p.2.0.2 ∙ ap (digits_value 10) digits ∙ sym q.2.0.2 in
    λ i. record { interface = interface i; name = name i }

pub one_list : (values : List Text) (a b : List CaptureFacts) → AreNamed values a → AreNamed values b → a ≡ b
one_list [] [] [] p q = refl
one_list [] [] (b ∷ bs) p q = absurd q
one_list [] (a ∷ others) bs p q = absurd p
one_list (value ∷ values) [] bs p q = absurd p
one_list (value ∷ values) (a ∷ others) [] p q = absurd q
one_list (value ∷ values) (a ∷ others) (b ∷ bs) p q =
    let first = one_capture value a b p.0 q.0 in
    let rest = one_list values others bs p.1 q.1 in
    λ i. first i ∷ rest i

pub one_origin : (policy capture : Option Text) (values : Option (List Text)) (a b : OriginFacts) → Name policy capture values a → Name policy capture values b → a ≡ b
one_origin one other values FromStandard FromStandard p q = refl
one_origin one other values FromStandard (FromFiles policy capture) p q = absurd (cc)
one_origin one other values FromStandard (FromInterfaces policy captures) p q = absurd (cc)
one_origin one other values (FromFiles policy capture) FromStandard p q = absurd (cc)
one_origin one other values (FromFiles policy capture) (FromFiles policy' capture') p q =
    let same : Some policy ≡ Some policy' = sym p.0 ∙ q.0 in
    let also : Some capture ≡ Some capture' = sym p.1 ∙ q.1 in
    cc
one_origin one other values (FromFiles policy capture) (FromInterfaces policy' captures) p q = absurd (cc)
one_origin one other values (FromInterfaces policy captures) FromStandard p q = absurd (cc)
one_origin one other values (FromInterfaces policy captures) (FromFiles policy' capture) p q = absurd (cc)
one_origin one other values (FromInterfaces policy captures) (FromInterfaces policy' captures') p q =
    let same : Some policy ≡ Some policy' = sym p.0 ∙ q.0 in
    let values : Some p.2.0 ≡ Some q.2.0 = sym p.2.1 ∙ q.2.1 in
    let all : captures ≡ captures' = one_list p.2.0 captures captures' p.2.2 (subst (λ vs. AreNamed vs captures') (cc) q.2.2) in
    cc

-- ---- values that name captures begin with a digit

plain_value : (value : Text) (capture : CaptureFacts) → IsNamed value capture → IsPlainValue value
plain_value value capture is = go is.0 is.1 is.2.0.0
  where
    go : (digits : Text) → value ≡ digits ++ 61 ∷ capture.name → IsNumeral 10 digits → IsPlainValue value
    go [] e numeral = absurd (omega (arith, numeral.0))
    go (d ∷ ds) e numeral = (d, ds ++ 61 ∷ capture.name, e, ne_eqb d 45 (λ same. omega (arith, same, digit_from_value d numeral.1.0)))

plain_list : (us : List Use) (captures : List CaptureFacts) → AreNamed (map (λ u. u.value) us) captures → ArePlain us
plain_list [] captures are = tt
plain_list (u ∷ us) [] are = absurd are
plain_list (u ∷ us) (capture ∷ captures) are = (plain_value u.value capture are.0, plain_list us captures are.1)

pub plain_uses : (us : List Use) (policy capture : Option Text) (origin : OriginFacts) → Name policy capture (values_of us) origin → ArePlain us
plain_uses [] policy capture origin says = tt
plain_uses (u ∷ us) policy capture FromStandard says = let none = says.2 in absurd (cc)
plain_uses (u ∷ us) policy capture (FromFiles one other) says = let none = says.2 in absurd (cc)
plain_uses (u ∷ us) policy capture (FromInterfaces one captures) says =
    let same : Some (map (λ v. v.value) (u ∷ us)) ≡ Some says.2.0 = says.2.1 in
    let values : says.2.0 ≡ map (λ v. v.value) (u ∷ us) = cc in
    plain_list (u ∷ us) captures (subst (λ vs. AreNamed vs captures) values says.2.2)

-- ---- one value

pub no_bytes : (xs : Text) → true ≡ (length xs == 0) → xs ≡ []
no_bytes xs none = go xs (eqb-true (length xs) 0 (sym none))
  where
    go : (xs : Text) → length xs ≡ 0 → xs ≡ []
    go [] e = refl
    go (x ∷ xs) e = absurd (omega (arith, e))

pub some_bytes : (xs : Text) → false ≡ (length xs == 0) → xs ≢ []
some_bytes xs some e = true≢false (sym (some ∙ ap (λ ys. length ys == 0) e))

-- a list is what stands before the first element that passes, that element, and what stands behind it
cut_at_sign : (value : Text) → position_or_len (λ b. b == 61) value < length value → value ≡ before_first (λ b. b == 61) value ++ 61 ∷ after_first (λ b. b == 61) value
cut_at_sign value within = split_at_first (λ b. b == 61) value 0 within
    ∙ ap (λ b. before_first (λ b. b == 61) value ++ b ∷ after_first (λ b. b == 61) value) (eqb-true _ 61 (passes_at_first (λ b. b == 61) value 0 within))

pub is_named : (value number name : Text) (interface : ℕ) → (number ≡ before_first (λ b. b == 61) value) × (name ≡ after_first (λ b. b == 61) value) × (position_or_len (λ b. b == 61) value < length value)
    → Some interface ≡ octet_in number → name ≢ [] → IsNamed value (record { interface = interface; name = name })
is_named value number name interface (before, behind, within) octet some = (
  number,
  cut_at_sign value within ∙ ap₂ (λ ds n. ds ++ 61 ∷ n) (sym before) (sym behind),
  octet_in-sound number interface (sym octet),
  some,
)

-- a value that names a capture has an equals sign
pub named_has_sign : (value : Text) (c : CaptureFacts) → IsNamed value c → position_or_len (λ b. b == 61) value ≡ length value → ⊥
named_has_sign value c is none =
    let all : value ≡ is.0 = sym (take_all (length value) value (omega arith)) ∙ ap (λ n. take n value) (sym none) ∙ digits_before value c is in
    let long : length value ≡ length (is.0 ++ 61 ∷ c.name) = ap length is.1 in
    let same : length value ≡ length is.0 = ap length all in
    absurd (omega (arith, length-append is.0 (61 ∷ c.name)))

-- and a number before it
pub named_has_number : (value number : Text) (c : CaptureFacts) → IsNamed value c → number ≡ before_first (λ b. b == 61) value → octet_in number ≡ None → ⊥
named_has_number value number c is before none =
    let found : octet_in number ≡ Some c.interface = ap octet_in (before ∙ digits_before value c is) ∙ octet_in-complete is.0 c.interface is.2 in
    absurd (cc)

-- and a name behind it
pub named_has_name : (value name : Text) (c : CaptureFacts) → IsNamed value c → name ≡ after_first (λ b. b == 61) value → name ≢ []
named_has_name value name c is behind none = is.3 (sym (name_behind value c is) ∙ sym behind ∙ none)

-- ---- several values

-- where values name captures, the first of those names one
pub none_named : (rest : List (Bor Text)) (d : Bor Text) (captures : List CaptureFacts) → AreNamed (texts rest) captures → false ≡ (length rest == 0)
    → ((c : CaptureFacts) → IsNamed (get_or rest 0 d).now c → ⊥) → ⊥
none_named [] d captures are some none = true≢false (sym some)
none_named (value ∷ rest) d [] are some none = are
none_named (value ∷ rest) d (c ∷ captures) are some none = none c are.0

-- where no value is left, all were named
pub all_named : (values : List Text) (rest : List (Bor Text)) (captures : List CaptureFacts) → ((others : List CaptureFacts) → AreNamed (texts rest) others → AreNamed values (captures ++ others))
    → true ≡ (length rest == 0) → AreNamed values captures
all_named values [] captures sound none = subst (AreNamed values) (append-nil captures) (sound [] tt)
all_named values (value ∷ rest) captures sound none = let bad : length (value ∷ rest) ≡ 0 = eqb-true (length (value ∷ rest)) 0 (sym none) in absurd (omega (arith, bad))

-- the files' names are of the captures
count_captures : (captures : List CaptureFile) → count_by is_standard (map (λ c. c.name) (map capture_facts captures)) ≡ count_by (λ (c : CaptureFile). is_standard c.name.now) captures
count_captures [] = refl
count_captures (c ∷ captures) =
    sum_by-cons (λ (n : Text). cond (is_standard n) 1 0) c.name.now (map (λ c. c.name) (map capture_facts captures)) ∙ ap (λ n. cond (is_standard c.name.now) 1 0 + n) (count_captures captures)
    ∙ sym (sum_by-cons (λ (c : CaptureFile). cond (is_standard c.name.now) 1 0) c captures)

-- more streams than one
pub too_many_streams : (policy : Text) (captures : List CaptureFile) (streams others : ℕ) → streams ≡ count_by (λ (c : CaptureFile). is_standard c.name.now) captures
    → others ≡ cond (not (is_standard policy)) 1 0 → others < streams → AreApart (policy ∷ map (λ c. c.name) (map capture_facts captures)) → ⊥
too_many_streams policy captures streams others counted is more apart =
    let all : count_by is_standard (policy ∷ map (λ c. c.name) (map capture_facts captures)) ≡ cond (is_standard policy) 1 0 + streams =
    sum_by-cons (λ (n : Text). cond (is_standard n) 1 0) policy (map (λ c. c.name) (map capture_facts captures))
    ∙ ap (λ n. cond (is_standard policy) 1 0 + n) (count_captures captures ∙ sym counted) in
    absurd (omega (arith, all, one_of_both (is_standard policy)))
  where
    one_of_both : (b : Bool) → cond b 1 0 + cond (not b) 1 0 ≡ 1
    one_of_both true = refl
    one_of_both false = refl

-- beside `--interface` a policy and the captures are named, and one of their files at most is standard input
pub apart_by_name : (policy : Option Text) (capture : Option Text) (values : List Text) (captures : List CaptureFacts) (origin : OriginFacts)
    → Name policy capture (Some values) origin → AreNamed values captures
    → (name : Text) × (policy ≡ Some name) × AreApart (name ∷ map (λ c. c.name) captures)
apart_by_name policy capture values captures FromStandard says are = let none = says.2 in absurd (cc)
apart_by_name policy capture values captures (FromFiles p c) says are = let none = says.2 in absurd (cc)
apart_by_name policy capture values captures (FromInterfaces p others) says are =
    let same : Some values ≡ Some says.2.0 = says.2.1 in
    let listed : AreNamed values others = subst (λ vs. AreNamed vs others) (sym (let e : values ≡ says.2.0 = cc in e)) says.2.2 in
    (p, says.0, subst (λ cs. AreApart (p ∷ map (λ c. c.name) cs)) (one_list values others captures listed are) says.3)
