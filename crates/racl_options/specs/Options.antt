-- Words that set options, and name captures of interfaces and files, as a user writes them.
use Rattle.std.specs.Prelude.{◌≡◌, ◌≢◌, ◌⊎◌, ◌≤◌, ℕ, Bool, true, false, List, [], ◌∷◌, ◌++◌, codes}
use Rattle.std.specs.Prelude.{Option, None, Some, if◌then◌else◌, count_by, map}
use Rattle.std.specs.List.{All, flat_map}
use Rattle.std.specs.Str.{bytes_eq}
use Rattle.clap.specs.Words.{Text}
use Rattle.racl_options.specs.CommandLine.{IsInRange}
use Rattle.racl_options.specs.CommandLine.{OptionName, Workers, Established, Transient, Udp}
use Rattle.racl_options.specs.CommandLine.{default_of, name_of, number_of}
use Rattle.session_state.specs.declared.shown_verdicts.Shown.TheVariants.{Every}
use Rattle.racl_options.specs.declared.settings.Lines.TheVariants.{Plain}
use Rattle.racl_options.specs.declared.settings.TableSize.TheVariants.{Standard}
use Rattle.racl_options.specs.Asking.{AskedFacts}
use Rattle.racl_options.specs.Origins.{OriginFacts}

-- an option set to a value, in one word or in two
pub record Setting : Type 0 where
  pub option : OptionName
  pub value : Text
  pub in_one : Bool

-- `--ID=VALUE`, or `--ID` and `VALUE`
abbrev pub words_with : Text → Text → Bool → List Text
words_with id value true = (codes "--" ++ (id ++ (codes "=" ++ value))) ∷ []
words_with id value false = (codes "--" ++ id) ∷ value ∷ []

abbrev pub sets : OptionName → Setting → Bool
sets option s = bytes_eq (name_of s.option) (name_of option)

-- the value that the settings give an option, or else its default
abbrev pub value_at : OptionName → List Setting → Text
value_at option [] = default_of option
value_at option (s ∷ rest) = if sets option s then s.value else value_at option rest

-- no option is set twice, and each value is in its option's range
pub record AreSettings (settings : List Setting) : Type 0 where
  pub once : (option : OptionName) → count_by (sets option) settings ≤ 1
  pub in_range : All (λ s. IsInRange s.option s.value) settings

-- ---- captures of interfaces, and files

-- one use of `--interface`, in one word or in two
pub record Use : Type 0 where
  pub value : Text
  pub in_one : Bool

-- the file's name is `-`, or a word that doesn't begin with a minus (45)
abbrev pub IsName : Text → Type 0
IsName name = (name ≡ codes "-")
    ⊎ ((first : ℕ) × (rest : Text) × (name ≡ first ∷ rest) × (first ≢ 45))

-- the names of two files at most
abbrev pub AreNames : List Text → Type 0
AreNames [] = Unit {0}
AreNames (policy ∷ []) = IsName policy
AreNames (policy ∷ capture ∷ []) = IsName policy × IsName capture
AreNames _ = ⊥

abbrev pub values_of : List Use → Option (List Text)
values_of [] = None
values_of (u ∷ rest) = Some (map (λ v. v.value) (u ∷ rest))

-- What settings, uses and names ask for, where they name this input: the options are the numbers to which they are set, the
-- tables are standard, every packet has a plain line, no flag is given, nothing is saved or expected, and no shard is chosen.
abbrev pub asked_as : List Setting → OriginFacts → AskedFacts
asked_as settings origin = record {
  options = record {
    workers = number_of (value_at Workers settings);
    established = number_of (value_at Established settings);
    transient = number_of (value_at Transient settings);
    udp = number_of (value_at Udp settings);
    tables = Standard;
    shown = Every;
    lines = Plain;
    hits = false;
    sessions = false;
    live = false;
    ages = false;
  };
  origin = origin;
  drops = None;
  passes = None;
  expected = None;
  shard = None;
}

-- the settings, then the captures of interfaces, and then the names of files
abbrev pub words_as : List Setting → List Use → List Text → List Text
words_as settings uses names = flat_map (λ s. words_with (name_of s.option) s.value s.in_one) settings
    ++ (flat_map (λ u. words_with (codes "interface") u.value u.in_one) uses ++ names)
