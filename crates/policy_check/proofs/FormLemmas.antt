-- What is said of a word in one part of a line is said of it in the whole line.
use Rattle.std.proofs.Common.{◌≡◌, ℕ, List, ◌∷◌, ◌++◌, refl, sym, ap, ◌∙◌, subst, ◌⊎◌, Result, Ok, Err, IfOk, IfErr}
use Rattle.std.specs.Prelude.{codes}
use Rattle.std.proofs.lemmas.List.{append_assoc}
use Rattle.packet_view.specs.declared.tuple.Family.{Family}
use Rattle.acl_policy.specs.Traffic.{IsFlags, IsProtocol, OfTcp, Parts, parts_of}
use Rattle.policy_check.specs.Reasons.{HasRange, IsEndReason, IsPartReason, IsPrefixReason, IsRangeReason, IsTrafficReason, Stands}
use Rattle.policy_check.specs.declared.reason.Reason.{Reason}
use Rattle.policy_check.specs.declared.reason.Reason.TheVariants.{Missing, NoFlags, NoProtocol, NoRange, TooLarge, UpsideDown}

pub two_words : (words more rest : List (List ℕ)) (name value : List ℕ) → words ≡ name ∷ more → more ≡ value ∷ rest → words ≡ name ∷ value ∷ rest
two_words words more rest name value first second = first ∙ ap (λ (ws : List (List ℕ)). name ∷ ws) second

-- a reason and a word under other names
pub said : (P : Reason → List ℕ → Type 0) (reason other : Reason) (word value : List ℕ) → reason ≡ other → word ≡ value → P other value → P reason word
said P reason other word value same is p = subst (λ (r : Reason). P r word) (sym same) (subst (P other) (sym is) p)

pub end_reason : (family : Family) (words : List (List ℕ)) (word : List ℕ) (reason : Reason) → IsPrefixReason family word reason
    → (((rest : List (List ℕ)) × (words ≡ word ∷ rest)) ⊎ ((source : List ℕ) × (rest : List (List ℕ)) × (words ≡ source ∷ word ∷ rest)))
    → IsEndReason family words reason word
end_reason family words word Missing is at = absurd is
end_reason family words word reason is at = (is, at)

pub value_reason : (parts : Parts) (used words rest : List (List ℕ)) (most : ℕ) (name value : List ℕ) (reason : Reason) → IsRangeReason most value reason
    → HasRange parts name most → words ≡ name ∷ value ∷ rest → IsPartReason parts (used ++ words) reason value
value_reason parts used words rest most name value NoRange is has split = (used, rest, name, most, ap (λ (ws : List (List ℕ)). used ++ ws) split, has, is)
value_reason parts used words rest most name value UpsideDown is has split = (used, rest, name, most, ap (λ (ws : List (List ℕ)). used ++ ws) split, has, is)
value_reason parts used words rest most name value (TooLarge limit) is has split = (used, rest, name, most, ap (λ (ws : List (List ℕ)). used ++ ws) split, has, is)
value_reason parts used words rest most name value reason is has split = absurd is

pub flags_reason : (used words rest : List (List ℕ)) (value : List ℕ) → words ≡ codes "flags" ∷ value ∷ rest → ((flags : ℕ × ℕ) → IsFlags value flags → ⊥)
    → IsPartReason OfTcp (used ++ words) NoFlags value
flags_reason used words rest value split none = (used, rest, ap (λ (ws : List (List ℕ)). used ++ ws) split, refl, none)

pub traffic_reason : (family : Family) (words rest : List (List ℕ)) (protocol word : List ℕ) (proto : ℕ) (reason : Reason) → words ≡ protocol ∷ rest
    → IsProtocol family protocol proto → IsPartReason (parts_of family proto) rest reason word → IsTrafficReason family words reason word
traffic_reason family words rest protocol word proto NoProtocol split is (used, more, name, most, at, has, why) = absurd why
traffic_reason family words rest protocol word proto reason split is why = (protocol, proto, rest, split, is, why)

pub traffic_wrong : {T E : Type 0} (told : E → Reason) (word : E → List ℕ) (family : Family) (words rest : List (List ℕ)) (protocol : List ℕ) (proto : ℕ)
    → words ≡ protocol ∷ rest → IsProtocol family protocol proto → (result : Result T E)
    → IfErr result (λ f. IsPartReason (parts_of family proto) rest (told f) (word f)) → IfErr result (λ f. IsTrafficReason family words (told f) (word f))
traffic_wrong told word family words rest protocol proto split is (Ok r) wrong = tt
traffic_wrong told word family words rest protocol proto split is (Err f) wrong = traffic_reason family words rest protocol (word f) proto (told f) split is wrong

-- what is wrong behind some parts is wrong with all of them
pub part_behind : (parts : Parts) (words used more : List (List ℕ)) (reason : Reason) (word : List ℕ) → words ≡ used ++ more
    → IsPartReason parts (used ++ more) reason word → IsPartReason parts words reason word
part_behind parts words used more reason word split is = subst (λ (ws : List (List ℕ)). IsPartReason parts ws reason word) (sym split) is

pub both_used : (words more last one two : List (List ℕ)) → words ≡ one ++ more → more ≡ two ++ last → words ≡ (one ++ two) ++ last
both_used words more last one two first second =
    first ∙ ap (λ (ws : List (List ℕ)). one ++ ws) second ∙ sym (append_assoc one two last)

-- a word that is left behind some parts stands among all of them
pub left_behind : (words used more rest : List (List ℕ)) (word : List ℕ) → words ≡ used ++ more → more ≡ word ∷ rest → Stands word words
left_behind words used more rest word first second = (used, rest, first ∙ ap (λ (ws : List (List ℕ)). used ++ ws) second)

-- The answer of a second part is that of both.
pub both_right : {T E : Type 0} (view : T → List (List ℕ)) (words more used : List (List ℕ)) (result : Result T E) → words ≡ used ++ more
    → IfOk result (λ r. (x : List (List ℕ)) × (more ≡ x ++ view r)) → IfOk result (λ r. (x : List (List ℕ)) × (words ≡ x ++ view r))
both_right view words more used (Ok r) split next = (used ++ next.0, both_used words more (view r) used next.0 split next.1)
both_right view words more used (Err e) split next = tt

pub both_wrong : {T E : Type 0} (reason : E → Reason) (word : E → List ℕ) (words more used : List (List ℕ)) (one two : List ℕ) (most : ℕ) (result : Result T E)
    → words ≡ used ++ more
    → IfErr result (λ f. (parts : Parts) (us : List (List ℕ)) → HasRange parts two most → IsPartReason parts (us ++ more) (reason f) (word f))
    → IfErr result (λ f. (parts : Parts) → HasRange parts one most → HasRange parts two most → IsPartReason parts words (reason f) (word f))
both_wrong reason word words more used one two most (Ok r) split wrong = tt
both_wrong reason word words more used one two most (Err f) split wrong =
    λ parts first second. part_behind parts words used more (reason f) (word f) split (wrong parts used second)

-- What is said of a word that is left behind some parts.
pub left_wrong : {T E : Type 0} (reason : E → Reason) (word : E → List ℕ) (words used more : List (List ℕ)) (told : Reason) (P : Reason → List ℕ → Type 0)
    → ((w : List ℕ) → Stands w words → P told w) → words ≡ used ++ more → (result : Result T E) → IfErr result (λ f. reason f ≡ told)
    → IfErr result (λ f. (rest : List (List ℕ)) × (more ≡ word f ∷ rest)) → IfErr result (λ f. P (reason f) (word f))
left_wrong reason word words used more told P holds split (Ok r) same next = tt
left_wrong reason word words used more told P holds split (Err f) same next =
    subst (λ (r : Reason). P r (word f)) (sym same) (holds (word f) (left_behind words used more next.0 (word f) split next.1))
