-- Texts that are of no kind that is known.
use Rattle.std.proofs.Common.{◌≡◌, ◌∙◌, ℕ, List, false, sym}
use Rattle.std.proofs.lemmas.Bool.{true≢false}
use Rattle.racl_io.specs.Inputs.{InputFacts, IsInput}
use Rattle.racl_io.specs.Others.{is_capture}
use Rattle.policy_check.specs.ForExpand.{IsForExpandAt}
use Rattle.policy_check.specs.TextKinds.{BeginsAsUtf16, IsMarkedAt, IsOfKind}
use Rattle.policy_check.specs.declared.kinds_of_other_texts.TextKind.{TextKind}
use Rattle.policy_check.specs.declared.kinds_of_other_texts.TextKind.TheVariants.{Capture, ForExpand, Input, Utf16}

pub unmarked : (text : List ℕ) → ((parts : InputFacts) → IsInput text parts → ⊥) → (number : ℕ) → IsMarkedAt text number → ⊥
unmarked text none number (parts, is, same) = none parts is

pub no_kind : (text : List ℕ) → is_capture text ≡ false → (BeginsAsUtf16 text → ⊥) → ((number : ℕ) → IsMarkedAt text number → ⊥)
    → ((number : ℕ) → IsForExpandAt text number → ⊥)
    → (kind : TextKind) → IsOfKind text kind → ⊥
no_kind text other single unmarked plain Capture is = true≢false (sym is ∙ other)
no_kind text other single unmarked plain Utf16 is = single is
no_kind text other single unmarked plain (Input number) is = unmarked number is
no_kind text other single unmarked plain (ForExpand number) is = plain number is
