-- What a reader gives says what is so of a word.
use Rattle.std.proofs.Common.{◌≡◌, ◌++◌, ◌∷◌, ℕ, List, Option, Some, None, IfSome, sym}
use Rattle.std.specs.Prelude.{option_map}
use Rattle.acl_policy.specs.inner.WordReading.Numerals.{cut_in}
use Rattle.acl_policy.proofs.NumeralLaws.{cut_in-sound}
use Rattle.policy_check.specs.Reasons.{Reads}

pub read_as : {A : Type 0} (read result : Option A) (Is : A → Type 0) → result ≡ read → ((x : A) → read ≡ Some x → Is x) → ((x : A) → Is x → read ≡ Some x)
    → Reads result Is
read_as read None Is same sound complete = λ x is. let found = complete x is in cc
read_as read (Some x) Is same sound complete = sound x (sym same)

pub cut_as : {B : Type 0} (byte : ℕ) (word : List ℕ) (view : B → List ℕ) (result : Option (B × B))
    → option_map {U = List ℕ × List ℕ} (λ r. (view r.0, view r.1)) result ≡ cut_in byte word → IfSome result (λ r. word ≡ view r.0 ++ byte ∷ view r.1)
cut_as byte word view None same = tt
cut_as byte word view (Some r) same = cut_in-sound byte word (view r.0) (view r.1) (sym same)
