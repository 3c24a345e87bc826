-- What the words ask for in all, and what of it doesn't go together (this project's profile).
use Rattle.std.specs.Prelude.{◌≡◌, ◌==◌, ◌&&◌, ◌||◌, Bool, true, false, not, is_none, is_some, List, [], Option, None, Some, option_map, codes}
use Rattle.std.specs.Str.{bytes_eq}
use Rattle.clap.specs.Words.{Text, fault_of}
use Rattle.racl_options.specs.CommandLine.{OptionFacts, SetOptions, Values, option_facts, racl, values_at}
use Rattle.racl_options.specs.Origins.{Name, OriginFacts, FromStandard, FromFiles, FromInterfaces, is_standard, origin_facts}
use Rattle.session_state.specs.declared.shown_verdicts.Shown.{Shown}
use Rattle.session_state.specs.declared.shown_verdicts.Shown.TheVariants.{Every, Passing, Dropped, Nothing}
use Rattle.racl_options.specs.declared.settings.Asked.{Asked}
use Rattle.racl_options.specs.declared.settings.Lines.{Lines}
use Rattle.racl_options.specs.declared.settings.Lines.TheVariants.{Plain, Explained, Json}
use Rattle.racl_options.specs.ShardWords.{AskForShard, ShardFacts, shard_facts}

-- all that is asked for, as a value: with the names of the files that get the packets that were dropped, and those that passed,
-- and of the one that says what is expected, and the shard whose packets alone are judged
pub record AskedFacts : Type 0 where
  pub options : OptionFacts
  pub origin : OriginFacts
  pub drops : Option Text
  pub passes : Option Text
  pub expected : Option Text
  pub shard : Option ShardFacts

abbrev pub asked_facts : Asked → AskedFacts
asked_facts a = record {
  options = option_facts a.options;
  origin = origin_facts a.origin;
  drops = option_map (λ t. t.now) a.saved.drops;
  passes = option_map (λ t. t.now) a.saved.passes;
  expected = option_map (λ t. t.now) a.expected;
  shard = option_map shard_facts a.shard;
}

-- ---- what goes together

abbrev pub are_files : OriginFacts → Bool
are_files FromStandard = false
are_files (FromFiles policy capture) = true
are_files (FromInterfaces policy captures) = false

abbrev pub is_saved : AskedFacts → Bool
is_saved asked = is_some asked.drops || is_some asked.passes

-- whether one file is to get both
abbrev pub is_shared : Option Text → Option Text → Bool
is_shared (Some drops) (Some passes) = bytes_eq drops passes
is_shared (Some drops) None = false
is_shared None passes = false

abbrev pub is_plain : Lines → Bool
is_plain Plain = true
is_plain Explained = false
is_plain Json = false

abbrev pub are_named : OriginFacts → Bool
are_named FromStandard = false
are_named (FromFiles policy capture) = true
are_named (FromInterfaces policy captures) = true

-- lines can be written as packets come: of captures in files
unfoldable pub can_be_live : OptionFacts → OriginFacts → Bool
can_be_live options origin = not options.live || are_named origin

-- each packet has its plain line, and nothing is told behind the totals
abbrev pub is_each : Shown → Bool
is_each Every = true
is_each Passing = false
is_each Dropped = false
is_each Nothing = false

abbrev pub are_verdicts_told : OptionFacts → Bool
are_verdicts_told options = is_each options.shown && (is_plain options.lines && (not options.hits && (not options.sessions && not options.live)))

-- a file can be read beside those of a policy and a capture: one of the three at most is standard input
abbrev pub is_beside : Text → OriginFacts → Bool
is_beside name FromStandard = false
is_beside name (FromFiles policy capture) = not (is_standard name && (is_standard policy || is_standard capture))
is_beside name (FromInterfaces policy captures) = false

-- what is expected can be compared: of the capture in a file, where one worker judges, and nothing else is to be written
abbrev pub can_be_expected : Option Text → AskedFacts → Bool
can_be_expected None asked = true
can_be_expected (Some name) asked = is_beside name asked.origin
    && ((asked.options.workers == 1) && (are_verdicts_told asked.options && not (is_saved asked)))

-- a shard's packets can be judged: those of the capture in a file, at whose end it is known, and of which nothing is expected
abbrev pub can_be_shared : Option ShardFacts → AskedFacts → Bool
can_be_shared None asked = true
can_be_shared (Some shard) asked = are_files asked.origin && (not asked.options.live && is_none asked.expected)

-- Packets are saved of the capture in a file, and in two files. Lines are written as packets come only where they can be, a
-- shard is asked for only where its packets can be judged, and `--expect` only where what is expected can be compared.
abbrev pub fit_together : AskedFacts → Bool
fit_together asked = (not (is_saved asked) || are_files asked.origin)
    && (not (is_shared asked.drops asked.passes) && (can_be_live asked.options asked.origin
    && (can_be_shared asked.shard asked && can_be_expected asked.expected asked)))

-- what a parse holds asks for this
pub record AskBy (values : Values) (asked : AskedFacts) : Type 0 where
  pub options : SetOptions values asked.options
  pub names : Name (values.first (codes "POLICY")) (values.first (codes "CAPTURE")) (values.all (codes "interface")) asked.origin
  pub drops : values.first (codes "drops") ≡ asked.drops
  pub passes : values.first (codes "passes") ≡ asked.passes
  pub expected : values.first (codes "expect") ≡ asked.expected
  pub shard : AskForShard (values.first (codes "shard")) asked.shard
  pub fit : fit_together asked ≡ true

-- ---- words

-- the command finds no fault in the words, and they ask for this
pub record AskForRun (words : List Text) (asked : AskedFacts) : Type 0 where
  pub faultless : fault_of racl words ≡ []
  pub asks : AskBy (values_at words) asked

-- the command finds no fault in the words, and yet there is nothing that they ask for: no size of tables, no packets to be
-- shown, no shard, no input, or these don't go together
pub record AskForNothing (words : List Text) : Type 0 where
  pub faultless : fault_of racl words ≡ []
  pub nothing : (asked : AskedFacts) → AskBy (values_at words) asked → ⊥
