-- What is read of the files of interfaces' captures (this project's profile).
use Rattle.std.specs.Prelude.{◌≡◌, ◌<◌, ◌+◌, ◌⊎◌, ℕ, List, [], ◌∷◌, Option, IfSome, length, map}
use Rattle.clap.specs.Words.{Text}
use Rattle.racl_io.specs.Inputs.{most_bytes}
use Rattle.racl_io.specs.declared.fault.Fault.{Fault}
use Rattle.racl_io.specs.declared.fault.Fault.TheVariants.{Memory, Read, TooLarge}
use Rattle.racl_options.specs.Origins.{CaptureFacts}
use Rattle.racl_io.specs.declared.capture_bytes.CaptureBytes.{CaptureBytes}
use Rattle.racl_system.specs.MarkedPolicies.{IsFileStatus, IsUnheld}
use Rattle.racl_system.specs.declared.interface_capture.InterfaceCapture.{InterfaceCapture}

-- the number of a capture's interface, and the capture's bytes, where they are known
pub record GivenFacts : Type 0 where
  pub interface : ℕ
  pub bytes : Option (List ℕ)

-- what captures have that are read from these readers, and from the files of these names
abbrev pub given_by : {R : Type 0} → (R → Option (List ℕ)) → List (InterfaceCapture R) → List GivenFacts
given_by {R} remaining captures = map (λ (c : InterfaceCapture R). let given : GivenFacts = record { interface = c.interface; bytes = remaining c.reader } in given) captures

abbrev pub given_in : (Text → Option (List ℕ)) → List CaptureFacts → List GivenFacts
given_in named captures = map (λ (c : CaptureFacts). let given : GivenFacts = record { interface = c.interface; bytes = named c.name } in given) captures

-- each of these captures is all of one that is given, in their order
abbrev pub AreAllOf : List GivenFacts → List CaptureBytes → Type 0
AreAllOf [] [] = Unit {0}
AreAllOf (given ∷ others) (capture ∷ captures) =
    (capture.interface ≡ given.interface) × IfSome given.bytes (λ all. capture.bytes.items ≡ all) × AreAllOf others captures
AreAllOf [] (capture ∷ captures) = ⊥
AreAllOf (given ∷ others) [] = ⊥

-- behind so many bytes they have more than an input may, where all are known
abbrev pub AreOver : ℕ → List GivenFacts → Type 0
AreOver before [] = most_bytes < before
AreOver before (given ∷ others) = IfSome given.bytes (λ all. AreOver (before + length all) others)

-- why captures can't be had behind so many bytes: memory ran out, a read failed, or they have too many
abbrev pub AreUnread : ℕ → List GivenFacts → Fault → Type 0
AreUnread before captures fault = (fault ≡ Memory) ⊎ ((fault ≡ Read) ⊎ ((fault ≡ TooLarge) × AreOver before captures))

-- why a policy's text, as far as it is known, or captures behind it and a line feed can't be had
abbrev pub IsUnreadInput : Option (List ℕ) → List GivenFacts → Fault → Type 0
IsUnreadInput text captures fault = IsUnheld text fault ⊎ IfSome text (λ all. AreUnread (length all + 1) captures fault)

-- the status then: 1 where the text is refused, or they have too many bytes, and else 4
abbrev pub IsInterfacesStatus : Option (List ℕ) → List GivenFacts → ℕ → Type 0
IsInterfacesStatus text captures status =
    IsFileStatus text status ⊎ ((status ≡ 1) × IfSome text (λ all. AreOver (length all + 1) captures))
