-- A text says one policy at most, or has one fault.
use Rattle.std.proofs.Common.{◌≡◌, ℕ, List, [], ◌∷◌, ◌++◌, length, Result, Ok, Err, refl, sym, ap, ◌∙◌, subst, arith, ◌⊎◌, inl, inr, IsSome, IfOk, IfErr, MatchResult}
use Rattle.std.specs.Str.{IsUtf8}
use Rattle.std.specs.Str.Lines.{lines}
use Rattle.packet_view.specs.declared.tuple.Direction.{Direction}
use Rattle.packet_view.specs.declared.tuple.Mac.{Mac}
use Rattle.acl_policy.specs.declared.policy.PolicyFault.{PolicyFault}
use Rattle.acl_policy.specs.declared.policy.PolicyFault.TheVariants.{Memory, NotUtf8, BadLine, TooMany}
use Rattle.acl_policy.specs.Lines.{Begins, IsLine, LineFacts, Own, Ruled}
use Rattle.acl_policy.specs.Policies.{AreDistinct, IsAmong, IsFirstFault, IsLast, IsPolicyFault, IsPolicyText, IsSurplus, IsWrong, PolicyFacts, SayPolicy, SectionFacts, numbers_of, rules_of}
use Rattle.acl_policy.specs.inner.Reading.Policies.{LinesFail}
use Rattle.acl_policy.specs.Rules.{RuleFacts, most_rules}
use Rattle.acl_policy.proofs.SectionLaws.{Stands, has_reading, no_heading, no_second_own, no_surplus, one_all, one_reading, stands}
use Rattle.acl_policy.proofs.SectionLemmas.{among_behind}

-- a text says one policy
pub one_policy : (texts : List (List ℕ)) (a b : PolicyFacts) → SayPolicy texts a → SayPolicy texts b → a ≡ b
one_policy texts a b first second =
    ap (λ (ss : List SectionFacts). record { sections = ss }) (one_all a.sections b.sections texts first.sections second.sections)

-- what two kinds of fault are refuted by
abbrev pub IsRefuted : (PolicyFacts → List ℕ → Type 0) → Type 0
IsRefuted IsAtFault = (before : List (List ℕ)) (line : List ℕ) (after : List (List ℕ)) (whole policy : PolicyFacts)
    → SayPolicy (before ++ line ∷ after) whole → SayPolicy before policy → IsAtFault policy line → ⊥

last_once : (a b : List SectionFacts) (s t : SectionFacts) → a ++ s ∷ [] ≡ b ++ t ∷ [] → s ≡ t
last_once [] [] s t same = cc
last_once [] (y ∷ []) s t same = let f : ⊥ = cc in absurd f
last_once [] (y ∷ z ∷ ys) s t same = let f : ⊥ = cc in absurd f
last_once (x ∷ []) [] s t same = let f : ⊥ = cc in absurd f
last_once (x ∷ z ∷ xs) [] s t same = let f : ⊥ = cc in absurd f
last_once (x ∷ xs) (y ∷ ys) s t same = last_once xs ys s t (let tail : xs ++ s ∷ [] ≡ ys ++ t ∷ [] = cc in tail)

no_reading : (line : List ℕ) (front whole : List SectionFacts) → Stands line front whole → ((reading : LineFacts) → IsLine line reading → ⊥) → ⊥
no_reading line front whole (inl h) none =
    let (reading, is) = has_reading h.lines line h.more h.grown h.all in
    none reading is
no_reading line front whole (inr h) none = none (Begins h.next.interface) h.begins

second_own : (line : List ℕ) (front whole : List SectionFacts) → Stands line front whole → (mac : Mac) (section : SectionFacts)
    → IsLine line (Own mac) → IsLast front section → IsSome section.own → ⊥
second_own line front whole (inl h) mac section is (done, last) some =
    let same : section ≡ h.section = last_once done h.done section h.section (sym last ∙ h.front_is) in
    no_second_own h.lines line h.more h.grown h.section mac h.all h.before is (subst (λ (s : SectionFacts). IsSome s.own) same some)
second_own line front whole (inr h) mac section is last some =
    let e = one_reading line (Own mac) (Begins h.next.interface) is h.begins in
    cc

surplus_rule : (line : List ℕ) (front whole : List SectionFacts) → Stands line front whole → (direction : Direction) (rule : RuleFacts) (section : SectionFacts)
    → IsLine line (Ruled direction rule) → IsLast front section → length (rules_of direction section) ≡ most_rules → ⊥
surplus_rule line front whole (inl h) direction rule section is (done, last) many =
    let same : section ≡ h.section = last_once done h.done section h.section (sym last ∙ h.front_is) in
    no_surplus h.lines line h.more h.grown h.section direction rule h.all h.before is
    (subst (λ (s : SectionFacts). length (rules_of direction s) ≡ most_rules) same many)
surplus_rule line front whole (inr h) direction rule section is last many =
    let e = one_reading line (Ruled direction rule) (Begins h.next.interface) is h.begins in
    cc

-- a number that stands among the front ones doesn't follow them where all differ
not_again : (front : List SectionFacts) (next : SectionFacts) (others : List SectionFacts) (number : ℕ) → number ≡ next.interface
    → IsAmong number (numbers_of front) → AreDistinct (numbers_of (front ++ next ∷ others)) → ⊥
not_again [] next others number same is once = is
not_again (s ∷ ss) next others number same (inl here) once = once.0 (among_behind ss next others s.interface (sym here ∙ same))
not_again (s ∷ ss) next others number same (inr there) once = not_again ss next others number same there once.1

second_section : (line : List ℕ) (front whole : List SectionFacts) → Stands line front whole → (number : ℕ) → IsLine line (Begins number)
    → IsAmong number (numbers_of front) → AreDistinct (numbers_of whole) → ⊥
second_section line front whole (inl h) number is there once = no_heading h.lines line h.more h.grown number h.all is
second_section line front whole (inr h) number is there once =
    let e = one_reading line (Begins number) (Begins h.next.interface) is h.begins in
    let same : number ≡ h.next.interface = cc in
    not_again front h.next h.others number same there (subst (λ (ss : List SectionFacts). AreDistinct (numbers_of ss)) h.whole_is once)

pub IsWrong-refuted : IsRefuted IsWrong
IsWrong-refuted before line after whole policy all front (inl none) =
    no_reading line policy.sections whole.sections (stands policy.sections whole.sections before line after front.sections all.sections) none
IsWrong-refuted before line after whole policy all front (inr (inl (mac, section, is, last, some))) =
    second_own line policy.sections whole.sections (stands policy.sections whole.sections before line after front.sections all.sections) mac section is last some
IsWrong-refuted before line after whole policy all front (inr (inr (number, is, there))) =
    second_section line policy.sections whole.sections (stands policy.sections whole.sections before line after front.sections all.sections) number is there all.once

pub IsSurplus-refuted : IsRefuted IsSurplus
IsSurplus-refuted before line after whole policy all front (direction, rule, section, is, last, many) =
    surplus_rule line policy.sections whole.sections (stands policy.sections whole.sections before line after front.sections all.sections) direction rule section is last many

-- Two places in one list are the same, or one is after the other.
abbrev pub Compares : List (List ℕ) → List ℕ → List (List ℕ) → List ℕ → Type 0
Compares before line others other =
    ((before ≡ others) × (line ≡ other))
    ⊎ (((middle : List (List ℕ)) × (others ≡ before ++ line ∷ middle))
    ⊎ ((middle : List (List ℕ)) × (before ≡ others ++ other ∷ middle)))

longer : (text : List ℕ) (before others : List (List ℕ)) (line other : List ℕ) → Compares before line others other → Compares (text ∷ before) line (text ∷ others) other
longer text before others line other (inl same) = inl (ap (λ (ls : List (List ℕ)). text ∷ ls) same.0, same.1)
longer text before others line other (inr (inl front)) = inr (inl (front.0, ap (λ (ls : List (List ℕ)). text ∷ ls) front.1))
longer text before others line other (inr (inr behind)) = inr (inr (behind.0, ap (λ (ls : List (List ℕ)). text ∷ ls) behind.1))

compared : (before : List (List ℕ)) (line : List ℕ) (after others : List (List ℕ)) (other : List ℕ) (behind : List (List ℕ))
    → before ++ line ∷ after ≡ others ++ other ∷ behind → Compares before line others other
compared [] line after [] other behind same = inl (refl, cc)
compared [] line after (t ∷ others) other behind same = inr (inl (others, cc))
compared (t ∷ before) line after [] other behind same = inr (inr (before, cc))
compared (t ∷ before) line after (u ∷ others) other behind same =
    let head : t ≡ u = cc in
    let tail : before ++ line ∷ after ≡ others ++ other ∷ behind = cc in
    subst (λ (text : List ℕ). Compares (t ∷ before) line (text ∷ others) other) head (longer t before others line other (compared before line after others other behind tail))

-- Two faults of one text are at one line, after one policy.
one_line : (K L : PolicyFacts → List ℕ → Type 0) → IsRefuted K → IsRefuted L → (texts : List (List ℕ)) (n m : ℕ) → IsFirstFault K texts n → IsFirstFault L texts m
    → (n ≡ m) × ((policy : PolicyFacts) × (line : List ℕ) × K policy line × L policy line)
one_line K L k l texts n m (before, line, after, policy, split, counted, reads, fault) (others, other, behind, rest, cut, count, reading, wrong) =
    elim (compared before line after others other behind (sym split ∙ cut)) [
      | inl same ↦
          let here : SayPolicy before rest = subst (λ (ls : List (List ℕ)). SayPolicy ls rest) (sym same.0) reading in
          let facts : rest ≡ policy = one_policy before rest policy here reads in
          let found : L policy other = subst (λ (p : PolicyFacts). L p other) facts wrong in
          (omega (arith, counted, count, ap length same.0), (policy, line, fault, subst (λ (t : List ℕ). L policy t) (sym same.1) found))
      | inr apart ↦ elim apart [
        | inl front ↦ absurd (k before line front.0 rest policy (subst (λ (ls : List (List ℕ)). SayPolicy ls rest) front.1 reading) reads fault)
        | inr later ↦ absurd (l others other later.0 policy rest (subst (λ (ls : List (List ℕ)). SayPolicy ls policy) later.1 reads) reading wrong)
      ]
    ]

-- a surplus rule is not wrong
pub apart : (policy : PolicyFacts) (line : List ℕ) → IsWrong policy line → IsSurplus policy line → ⊥
apart policy line (inl none) (direction, rule, section, is, last, many) = none (Ruled direction rule) is
apart policy line (inr (inl (mac, own, second, last_own, some))) (direction, rule, section, is, last, many) =
    let same = one_reading line (Own mac) (Ruled direction rule) second is in
    absurd (cc)
apart policy line (inr (inr (number, second, more))) (direction, rule, section, is, last, many) =
    let same = one_reading line (Begins number) (Ruled direction rule) second is in
    absurd (cc)

no_fault : (K : PolicyFacts → List ℕ → Type 0) → IsRefuted K → (texts : List (List ℕ)) (n : ℕ) (whole : PolicyFacts) → SayPolicy texts whole → IsFirstFault K texts n → ⊥
no_fault K k texts n whole all (before, line, after, policy, split, counted, reads, fault) =
    k before line after whole policy (subst (λ (ls : List (List ℕ)). SayPolicy ls whole) split all) reads fault

-- A text of a policy has no fault.
pub policy_or_fault : (text : List ℕ) (policy : PolicyFacts) (fault : PolicyFault) → IsPolicyText text policy → IsPolicyFault text fault → ⊥
policy_or_fault text policy Memory is wrong = wrong
policy_or_fault text policy NotUtf8 is wrong = wrong is.0
policy_or_fault text policy (BadLine n) is wrong = no_fault IsWrong IsWrong-refuted (lines text) n policy is.1 wrong.1
policy_or_fault text policy (TooMany n) is wrong = no_fault IsSurplus IsSurplus-refuted (lines text) n policy is.1 wrong.1

-- A text has one fault.
pub one_fault : (text : List ℕ) (a b : PolicyFault) → IsPolicyFault text a → IsPolicyFault text b → a ≡ b
one_fault text Memory b first second = absurd first
one_fault text NotUtf8 Memory first second = absurd second
one_fault text NotUtf8 NotUtf8 first second = refl
one_fault text NotUtf8 (BadLine m) first second = absurd (first second.0)
one_fault text NotUtf8 (TooMany m) first second = absurd (first second.0)
one_fault text (BadLine n) Memory first second = absurd second
one_fault text (BadLine n) NotUtf8 first second = absurd (second first.0)
one_fault text (BadLine n) (BadLine m) first second =
    ap BadLine (one_line IsWrong IsWrong IsWrong-refuted IsWrong-refuted (lines text) n m first.1 second.1).0
one_fault text (BadLine n) (TooMany m) first second =
    let both = (one_line IsWrong IsSurplus IsWrong-refuted IsSurplus-refuted (lines text) n m first.1 second.1).1 in
    absurd (apart both.0 both.1 both.2 both.3)
one_fault text (TooMany n) Memory first second = absurd second
one_fault text (TooMany n) NotUtf8 first second = absurd (second first.0)
one_fault text (TooMany n) (BadLine m) first second =
    let both = (one_line IsSurplus IsWrong IsSurplus-refuted IsWrong-refuted (lines text) n m first.1 second.1).1 in
    absurd (apart both.0 both.1 both.3 both.2)
one_fault text (TooMany n) (TooMany m) first second =
    ap TooMany (one_line IsSurplus IsSurplus IsSurplus-refuted IsSurplus-refuted (lines text) n m first.1 second.1).0

-- What was read is the policy of a text that has one, and the fault of a text that has one, unless memory ran out.
accepted : {A : Type 0} (view : A → PolicyFacts) (text : List ℕ) (result : Result A PolicyFault) → IsUtf8 text
    → IfOk result (λ read. SayPolicy (lines text) (view read)) → IfErr result (LinesFail (lines text)) → (policy : PolicyFacts) → IsPolicyText text policy
    → MatchResult result (λ read. view read ≡ policy) (λ fault. fault ≡ Memory)
accepted view text (Ok read) utf8 ok fault policy is = one_policy (lines text) (view read) policy ok is.1
accepted view text (Err Memory) utf8 ok fault policy is = refl
accepted view text (Err NotUtf8) utf8 ok fault policy is = absurd fault
accepted view text (Err (BadLine n)) utf8 ok fault policy is = absurd (policy_or_fault text policy (BadLine n) is (utf8, fault))
accepted view text (Err (TooMany n)) utf8 ok fault policy is = absurd (policy_or_fault text policy (TooMany n) is (utf8, fault))

refused : {A : Type 0} (view : A → PolicyFacts) (text : List ℕ) (result : Result A PolicyFault) → IsUtf8 text
    → IfOk result (λ read. SayPolicy (lines text) (view read)) → IfErr result (LinesFail (lines text)) → (fault : PolicyFault) → IsPolicyFault text fault
    → MatchResult result (λ _. ⊥) (λ found. (found ≡ fault) ⊎ (found ≡ Memory))
refused view text (Ok read) utf8 ok found fault is = policy_or_fault text (view read) fault (utf8, ok) is
refused view text (Err Memory) utf8 ok found fault is = inr refl
refused view text (Err NotUtf8) utf8 ok found fault is = absurd found
refused view text (Err (BadLine n)) utf8 ok found fault is = inl (one_fault text (BadLine n) fault (utf8, found) is)
refused view text (Err (TooMany n)) utf8 ok found fault is = inl (one_fault text (TooMany n) fault (utf8, found) is)

-- The same of a text as it was decoded.
pub answered : {A : Type 0} (view : A → PolicyFacts) (text decoded : List ℕ) (result : Result A PolicyFault) → (decoded ≡ text) × IsUtf8 text
    → IfOk result (λ read. SayPolicy (lines decoded) (view read)) → IfErr result (LinesFail (lines decoded))
    → ((policy : PolicyFacts) → IsPolicyText text policy → MatchResult result (λ read. view read ≡ policy) (λ fault. fault ≡ Memory))
    × ((fault : PolicyFault) → IsPolicyFault text fault → MatchResult result (λ _. ⊥) (λ found. (found ≡ fault) ⊎ (found ≡ Memory)))
answered view text decoded result same ok fault =
    let here = rw same.0 at ok in
    let there = rw same.0 at fault in
    (accepted view text result same.1 here there, refused view text result same.1 here there)

-- Memory runs out where the text is UTF-8.
pub wanting : {A : Type 0} (text : List ℕ) (result : Result A PolicyFault) → IsUtf8 text → IfErr result (λ fault. fault ≡ Memory → IsUtf8 text)
wanting text (Ok read) utf8 = tt
wanting text (Err fault) utf8 = λ same. utf8
