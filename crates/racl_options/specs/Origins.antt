-- Where an input comes from, as the words name it (this project's profile).
use Rattle.std.specs.Prelude.{◌≡◌, ◌≢◌, ◌≤◌, ℕ, Bool, List, [], ◌∷◌, ◌++◌, map, Option, None, Some, codes, count_by}
use Rattle.std.specs.List.{AllZip}
use Rattle.std.specs.Str.{bytes_eq}
use Rattle.acl_policy.specs.Numerals.{IsOctet}
use Rattle.clap.specs.Words.{Text}
use Rattle.racl_options.specs.declared.settings.CaptureFile.{CaptureFile}
use Rattle.racl_options.specs.declared.settings.Origin.{Origin}
use Rattle.racl_options.specs.declared.settings.Origin.TheVariants.{Standard, Files, Interfaces}

-- the number of an interface, and the name of the file with its capture
pub record CaptureFacts : Type 0 where
  pub interface : ℕ
  pub name : Text

abbrev pub capture_facts : CaptureFile → CaptureFacts
capture_facts c = record { interface = c.interface; name = c.name.now }

-- where an input comes from as a value: from standard input, from the files of a policy and a capture, or from those of a
-- policy and of the captures of interfaces
pub data OriginFacts : Type 0 where
  FromStandard : OriginFacts
  FromFiles : Text → Text → OriginFacts
  FromInterfaces : Text → List CaptureFacts → OriginFacts

abbrev pub origin_facts : Origin → OriginFacts
origin_facts Standard = FromStandard
origin_facts (Files files) = FromFiles files.policy.now files.capture.now
origin_facts (Interfaces i) = FromInterfaces i.policy.now (map capture_facts i.captures.items)

-- `N=CAPTURE`: the interface's number in one to three digits, at most 255, an equals sign, and a name that isn't empty
abbrev pub IsNamed : Text → CaptureFacts → Type 0
IsNamed value capture = (digits : Text) × (value ≡ digits ++ 61 ∷ capture.name) × IsOctet digits capture.interface × (capture.name ≢ [])

-- the file is standard input
abbrev pub is_standard : Text → Bool
is_standard name = bytes_eq name (codes "-")

-- The names of a policy's file and of a capture's, where words have them, and the values of `--interface` name nothing, two
-- files, or a policy and captures of interfaces in their order. One of the files at most is standard input.
abbrev pub Name : Option Text → Option Text → Option (List Text) → OriginFacts → Type 0
Name policy capture values FromStandard = (policy ≡ None) × (capture ≡ None) × (values ≡ None)
Name policy capture values (FromFiles one other) = (policy ≡ Some one) × (capture ≡ Some other) × (values ≡ None)
    × (count_by is_standard (one ∷ other ∷ []) ≤ 1)
Name policy capture values (FromInterfaces one captures) = (policy ≡ Some one) × (capture ≡ None)
    × ((each : List Text) × (values ≡ Some each) × AllZip IsNamed each captures)
    × (count_by is_standard (one ∷ map (λ c. c.name) captures) ≤ 1)
