-- What the words ask for that begin with the name of a command, the first behind the program's (this project's profile).
use Rattle.std.specs.Prelude.{◌≡◌, ◌⊎◌, ◌+◌, ◌&&◌, ◌||◌, ℕ, Bool, true, false, List, [], ◌∷◌, map}
use Rattle.std.specs.Prelude.{Option, None, Some, codes, if◌then◌else◌, is_some, length, nat_eq, nat_lt, option_and_then, option_map, slice_get}
use Rattle.std.specs.List.{fold, starts_with}
use Rattle.std.specs.Option.{option_map_or}
use Rattle.std.specs.Str.{bytes_eq, chars}
use Rattle.clap.specs.Lexer.{usize_max}
use Rattle.clap.specs.Words.{App, HasKind, Rule, Text, fault_of, kind_of, new_app, new_rule, subcommand_of, with_rule, with_subcommand}
use Rattle.clap.specs.declared.builder.action.ArgAction.TheVariants.{Append, Set, SetTrue}
use Rattle.clap.specs.declared.error.Error.{Error}
use Rattle.clap.specs.declared.error.kind.ErrorKind.{ErrorKind}
use Rattle.clap.specs.declared.error.kind.ErrorKind.TheVariants.{DisplayVersion, ValueValidation}
use Rattle.strsim.specs.Edits.{osa_table}
use Rattle.racl_options.specs.Behind.{text_behind}
use Rattle.racl_options.specs.CommandLine.{Values, long_rule, racl, values_of}
use Rattle.racl_options.specs.Origins.{is_standard}
use Rattle.racl_options.specs.Selections.{is_given}
use Rattle.racl_options.specs.declared.tasks.AskedPackets.{AskedPackets}
use Rattle.racl_options.specs.declared.tasks.CompareFiles.{CompareFiles}
use Rattle.racl_options.specs.declared.tasks.DiffFiles.{DiffFiles}
use Rattle.racl_options.specs.declared.tasks.Task.{Task}
use Rattle.racl_options.specs.declared.tasks.Task.TheVariants as task

-- ---- the commands

-- a word that has to be there
abbrev pub word_rule : Text → Rule
word_rule id = record (new_rule id) { action = Some Set; required = true }

-- words of which one at least has to be there
abbrev pub words_rule : Text → Rule
words_rule id = record (new_rule id) {
  action = Some Append;
  range = Some (record { start_inclusive = 1; end_inclusive = usize_max });
  required = true;
}

-- the command of this name, whose words are of these rules
abbrev pub command_of : Text → List Rule → App
command_of name rules = fold with_rule (new_app name) rules

abbrev pub check : App
check = command_of (codes "check") (word_rule (codes "POLICY") ∷ [])

abbrev pub expand : App
expand = command_of (codes "expand") (word_rule (codes "FILE") ∷ [])

abbrev pub ask : App
ask = command_of (codes "ask") (long_rule (codes "explain") SetTrue 0 ∷ long_rule (codes "expect") Set 1
    ∷ word_rule (codes "POLICY") ∷ words_rule (codes "PACKET") ∷ [])

abbrev pub diff : App
diff = command_of (codes "diff") (long_rule (codes "age") SetTrue 0
    ∷ word_rule (codes "OLD") ∷ word_rule (codes "NEW") ∷ word_rule (codes "CAPTURE") ∷ [])

abbrev pub compare : App
compare = command_of (codes "compare") (word_rule (codes "OLD") ∷ word_rule (codes "NEW") ∷ [])

-- one that is a script beside the program
abbrev pub import_script : App
import_script = command_of (codes "import") []

abbrev pub version : App
version = command_of (codes "version") []

-- a command with all of them
abbrev pub with_commands : App → App
with_commands base = fold with_subcommand base
    (check.top ∷ expand.top ∷ ask.top ∷ diff.top ∷ compare.top ∷ import_script.top ∷ version.top ∷ [])

-- the command line with all of them
abbrev pub racl_commands : App
racl_commands = with_commands racl

-- the word is the name of one of them, or asks for help
abbrev pub is_command : Text → Bool
is_command word = bytes_eq word (codes "check") || (bytes_eq word (codes "expand") || (bytes_eq word (codes "ask")
    || (bytes_eq word (codes "diff") || (bytes_eq word (codes "compare") || (bytes_eq word (codes "import")
    || (bytes_eq word (codes "version") || bytes_eq word (codes "help")))))))

-- the first word after the program's is one
abbrev pub begins_with_command : List Text → Bool
begins_with_command words = option_map_or is_command (slice_get words 1) false

-- ---- mistyped words

-- from one word to the other it is one letter at most: one that is left out, one too many, another one, or two neighbours that
-- change places (the distance of optimal string alignment)
abbrev pub is_a_letter_off : Text → Text → Bool
is_a_letter_off word name = nat_lt ((osa_table (chars word) (chars name)).last_row (length (chars name))) 2

-- so of a command's name
abbrev pub is_close : Text → Bool
is_close word = is_a_letter_off word (codes "check") || (is_a_letter_off word (codes "expand") || (is_a_letter_off word (codes "ask")
    || (is_a_letter_off word (codes "diff") || (is_a_letter_off word (codes "compare") || (is_a_letter_off word (codes "import")
    || (is_a_letter_off word (codes "version") || is_a_letter_off word (codes "help")))))))

-- the word is a command's name, or one of options
abbrev pub is_understood : Text → Bool
is_understood word = is_command word || starts_with nat_eq word (codes "-")

-- the first word after the program's, where it may be a command that was mistyped: it isn't understood, and stands there alone or is close to one
abbrev pub doubtful_word : List Text → Option Text
doubtful_word words = option_and_then
    (λ word. if is_understood word then None else if nat_eq (length words) 2 || is_close word then Some word else None) (slice_get words 1)

-- ---- what is asked for, as values

-- packets in words: whether their verdicts are explained, the name of the file that says what is expected of them, that of the
-- policy's, and the packets
pub record AskFacts : Type 0 where
  pub explained : Bool
  pub expected : Option Text
  pub policy : Text
  pub packets : List Text

abbrev pub ask_facts : AskedPackets → AskFacts
ask_facts a = record {
  explained = a.explained;
  expected = text_behind a.expected;
  policy = a.policy.now;
  packets = map (λ p. p.now) a.packets.items;
}

-- the names of two policies' files and of a capture's, and whether sessions that have ended are removed
pub record DiffFacts : Type 0 where
  pub before : Text
  pub after : Text
  pub capture : Text
  pub ages : Bool

abbrev pub diff_facts : DiffFiles → DiffFacts
diff_facts f = record { before = f.before.now; after = f.after.now; capture = f.capture.now; ages = f.ages }

pub record CompareFacts : Type 0 where
  pub before : Text
  pub after : Text

abbrev pub compare_facts : CompareFiles → CompareFacts
compare_facts f = record { before = f.before.now; after = f.after.now }

pub data TaskFacts : Type 0 where
  CheckTask : Text → TaskFacts
  ExpandTask : Text → TaskFacts
  AskTask : AskFacts → TaskFacts
  DiffTask : DiffFacts → TaskFacts
  CompareTask : CompareFacts → TaskFacts

abbrev pub task_facts : Task → TaskFacts
task_facts (task.Check name) = CheckTask name.now
task_facts (task.Expand name) = ExpandTask name.now
task_facts (task.Ask a) = AskTask (ask_facts a)
task_facts (task.Diff f) = DiffTask (diff_facts f)
task_facts (task.Compare f) = CompareTask (compare_facts f)

-- ---- what a command's words ask for

-- verdicts are explained, or compared with what is expected
abbrev pub ask_with : Bool → Option Text → Option Text → Option (List Text) → Option AskFacts
ask_with explained expected None packets = None
ask_with explained expected (Some policy) None = None
ask_with explained expected (Some policy) (Some packets) = if explained && is_some expected then None
    else Some (record { explained = explained; expected = expected; policy = policy; packets = packets })

abbrev pub ask_by : Values → Option AskFacts
ask_by values = ask_with (is_given (values.first (codes "explain"))) (values.first (codes "expect"))
    (values.first (codes "POLICY")) (values.all (codes "PACKET"))

abbrev pub stream_in : Text → ℕ
stream_in name = if is_standard name then 1 else 0

-- one of the files at most is standard input
abbrev pub diff_with : Bool → Option Text → Option Text → Option Text → Option DiffFacts
diff_with ages None after capture = None
diff_with ages (Some before) None capture = None
diff_with ages (Some before) (Some after) None = None
diff_with ages (Some before) (Some after) (Some capture) =
    if nat_lt 1 (stream_in before + (stream_in after + stream_in capture)) then None
    else Some (record { before = before; after = after; capture = capture; ages = ages })

abbrev pub diff_by : Values → Option DiffFacts
diff_by values = diff_with (is_given (values.first (codes "age")))
    (values.first (codes "OLD")) (values.first (codes "NEW")) (values.first (codes "CAPTURE"))

abbrev pub compare_with : Option Text → Option Text → Option CompareFacts
compare_with None after = None
compare_with (Some before) None = None
compare_with (Some before) (Some after) = if is_standard before && is_standard after then None
    else Some (record { before = before; after = after })

abbrev pub compare_by : Values → Option CompareFacts
compare_by values = compare_with (values.first (codes "OLD")) (values.first (codes "NEW"))

-- what the values of the command of this name ask for
abbrev pub task_in : Text → Values → Option TaskFacts
task_in name values = if bytes_eq name (codes "check") then option_map CheckTask (values.first (codes "POLICY"))
    else if bytes_eq name (codes "expand") then option_map ExpandTask (values.first (codes "FILE"))
    else if bytes_eq name (codes "ask") then option_map AskTask (ask_by values)
    else if bytes_eq name (codes "diff") then option_map DiffTask (diff_by values)
    else if bytes_eq name (codes "compare") then option_map CompareTask (compare_by values)
    else None

-- what the command asks for that the words name
abbrev pub named_task : List Text → Option TaskFacts
named_task words = option_and_then (λ p. task_in p.0 (values_of p.1)) (subcommand_of racl_commands words)

-- its name
abbrev pub named_command : List Text → Option Text
named_command words = option_map (λ p. p.0) (subcommand_of racl_commands words)

-- ---- words

-- the words ask for this, or begin with no command
abbrev pub AskForTask : List Text → Option TaskFacts → Type 0
AskForTask words None = begins_with_command words ≡ false
AskForTask words (Some task) = (begins_with_command words ≡ true) × (fault_of racl_commands words ≡ []) × (named_task words ≡ Some task)

-- the kind of the error where a command's words have no fault and yet ask for nothing that it does
abbrev pub kind_for : Option Text → ErrorKind
kind_for name = if option_map_or (λ n. bytes_eq n (codes "version")) name false then DisplayVersion else ValueValidation

-- the error has a kind of the words' fault, or they have none and yet ask for nothing, or memory ran out
abbrev pub RefusesCommand : List Text → Error → Type 0
RefusesCommand words e = HasKind (fault_of racl_commands words) e
    ⊎ ((fault_of racl_commands words ≡ []) × (named_task words ≡ None) × (kind_of e ≡ kind_for (named_command words)))

-- so of words that begin with a command
abbrev pub RefusesTask : List Text → Error → Type 0
RefusesTask words e = (begins_with_command words ≡ true) × RefusesCommand words e
