-- The command line: the command's options and arguments, and what the words say of the options.
use Rattle.std.specs.Prelude.{◌≡◌, ◌≤◌, ◌⊎◌, ℕ, Bool, true, List, [], ◌∷◌, Option, Some, codes, pos}
use Rattle.std.specs.List.{fold}
use Rattle.std.specs.Str.Parse.{IsNumeral, digits_value, without_leading_plus}
use Rattle.clap.specs.Simple.{on_top}
use Rattle.clap.specs.Words.{App, IsSignedIn, Row, Rule, Text, all_of, first_of, matches_of, new_app}
use Rattle.clap.specs.Words.{new_rule, one_of, with_rule, without_minus}
use Rattle.clap.specs.declared.builder.action.ArgAction.{ArgAction}
use Rattle.clap.specs.declared.builder.action.ArgAction.TheVariants.{Append, Set, SetTrue}
use Rattle.clap.specs.declared.builder.value_parser.ValueParser.TheVariants.{Signed}
use Rattle.clap.specs.declared.error.kind.ErrorKind.{ErrorKind}
use Rattle.clap.specs.declared.error.kind.ErrorKind.TheVariants.{DisplayHelp, DisplayVersion}
use Rattle.session_state.specs.declared.shown_verdicts.Shown.{Shown}
use Rattle.racl_options.specs.declared.settings.Options.{Options}
use Rattle.racl_options.specs.declared.settings.TableSize.{TableSize}
use Rattle.racl_options.specs.declared.settings.Lines.{Lines}
use Rattle.racl_options.specs.Selections.{FlagName, Summary, Hits, Sessions, Explain, JsonLines, Live, Age, flag_id, is_given, lines_by, shown_by}
use Rattle.racl_options.specs.Sizes.{size_by}

-- ---- the command

pub data OptionName : Type 0 where
  Workers : OptionName
  Established : OptionName
  Transient : OptionName
  Udp : OptionName

abbrev pub name_of : OptionName → Text
name_of Workers = codes "workers"
name_of Established = codes "tcp-established"
name_of Transient = codes "tcp-transient"
name_of Udp = codes "udp"

abbrev pub default_of : OptionName → Text
default_of Workers = codes "1"
default_of Established = codes "86400"
default_of Transient = codes "120"
default_of Udp = codes "600"

abbrev pub most_of : OptionName → ℕ
most_of Workers = 16
most_of _ = 4294967295

-- the option `--ID`, with so many values
abbrev pub long_rule : Text → ArgAction → ℕ → Rule
long_rule id action values = record (new_rule id) { long = Some id; action = Some action; value_names = values }

-- one whose value is a number from 1 to `most`
abbrev pub range_rule : Text → Text → ℕ → Rule
range_rule id default most = record (long_rule id Set 1) {
  parser = Some (Signed (pos 1) (pos most));
  defaults = default ∷ [];
}

abbrev pub number_rule : OptionName → Rule
number_rule option = range_rule (name_of option) (default_of option) (most_of option)

abbrev pub flag_rule : FlagName → Rule
flag_rule flag = long_rule (flag_id flag) SetTrue 0

-- a word that names a file
abbrev pub file_rule : Text → Rule
file_rule id = record (new_rule id) { action = Some Set }

-- the command; as it has a version, a parse also reads `--version`
abbrev pub racl : App
racl = fold with_rule (on_top (λ s. record s { has_version = true }) (new_app (codes "racl")))
    (number_rule Workers ∷ number_rule Established ∷ number_rule Transient ∷ number_rule Udp
    ∷ long_rule (codes "tables") Set 1 ∷ long_rule (codes "interface") Append 1 ∷ long_rule (codes "only") Set 1
    ∷ long_rule (codes "drops") Set 1 ∷ long_rule (codes "passes") Set 1 ∷ long_rule (codes "expect") Set 1 ∷ long_rule (codes "shard") Set 1
    ∷ flag_rule Summary ∷ flag_rule Hits ∷ flag_rule Sessions ∷ flag_rule Explain ∷ flag_rule JsonLines ∷ flag_rule Live ∷ flag_rule Age
    ∷ file_rule (codes "POLICY") ∷ file_rule (codes "CAPTURE") ∷ [])

-- ---- what the words ask for

-- the options as a value without ghost fields
pub record OptionFacts : Type 0 where
  pub workers : ℕ
  pub established : ℕ
  pub transient : ℕ
  pub udp : ℕ
  pub tables : TableSize
  pub shown : Shown
  pub lines : Lines
  pub hits : Bool
  pub sessions : Bool
  pub live : Bool
  pub ages : Bool

abbrev pub option_facts : Options → OptionFacts
option_facts o = record {
  workers = o.workers;
  established = o.times.established;
  transient = o.times.transient;
  udp = o.times.udp;
  tables = o.tables;
  shown = o.shown;
  lines = o.lines;
  hits = o.hits;
  sessions = o.sessions;
  live = o.live;
  ages = o.ages;
}

abbrev pub number_of : Text → ℕ
number_of text = digits_value 10 (without_leading_plus text)

-- the text spells a number in the option's range
abbrev pub IsInRange : OptionName → Text → Type 0
IsInRange option text = IsNumeral 10 (without_leading_plus text) × (1 ≤ number_of text)
    × (number_of text ≤ most_of option)

-- there is a text, which spells the number, in the option's range
abbrev pub Spells : OptionName → Option Text → ℕ → Type 0
Spells option text n = (t : Text) × (text ≡ Some t) × IsInRange option t × (n ≡ number_of t)

-- what a parse holds of an id: the text of a number, the first value, and all values
pub record Values : Type 0 where
  pub number : Text → Option Text
  pub first : Text → Option Text
  pub all : Text → Option (List Text)

-- what the rows of a parse hold
abbrev pub values_of : List Row → Values
values_of rows = record {
  number = λ id. one_of id rows;
  first = λ id. first_of id rows;
  all = λ id. all_of id rows;
}

-- what the command's matches of the words hold
abbrev pub values_at : List Text → Values
values_at words = values_of (matches_of racl words)

-- whether the flag was given
abbrev pub has_flag : Values → FlagName → Bool
has_flag values flag = is_given (values.first (flag_id flag))

-- the options are the numbers that are spelt, and the size, the packets, the lines and the flags that are asked for
pub record SetOptions (values : Values) (facts : OptionFacts) : Type 0 where
  pub workers : Spells Workers (values.number (name_of Workers)) facts.workers
  pub established : Spells Established (values.number (name_of Established)) facts.established
  pub transient : Spells Transient (values.number (name_of Transient)) facts.transient
  pub udp : Spells Udp (values.number (name_of Udp)) facts.udp
  pub tables : size_by (values.first (codes "tables")) ≡ Some facts.tables
  pub shown : shown_by (has_flag values Summary) (values.first (codes "only")) ≡ Some facts.shown
  pub lines : lines_by (has_flag values JsonLines) (has_flag values Explain) ≡ facts.lines
  pub hits : has_flag values Hits ≡ facts.hits
  pub sessions : has_flag values Sessions ≡ facts.sessions
  pub live : has_flag values Live ≡ facts.live
  pub ages : has_flag values Age ≡ facts.ages

-- an error of this kind is a request for the help or for the version
abbrev pub IsRequest : ErrorKind → Type 0
IsRequest kind = (kind ≡ DisplayHelp) ⊎ (kind ≡ DisplayVersion)

-- ---- what a parse leaves to be read

-- the text is one that an option's parser takes, as a getter reads it
abbrev pub HoldsNumber : ℕ → Option Text → Type 0
HoldsNumber most text =
    (t : Text) × (text ≡ Some (without_minus t)) × IsSignedIn (pos 1) (pos most) t

pub record HoldsNumbers (text : Text → Option Text) : Type 0 where
  pub workers : HoldsNumber (most_of Workers) (text (name_of Workers))
  pub established : HoldsNumber (most_of Established) (text (name_of Established))
  pub transient : HoldsNumber (most_of Transient) (text (name_of Transient))
  pub udp : HoldsNumber (most_of Udp) (text (name_of Udp))
