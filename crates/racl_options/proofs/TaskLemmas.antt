-- What a parse by the command line with its subcommands leaves, and that words ask for one thing.
use Rattle.std.proofs.Common.{◌≡◌, ◌∙◌, ◌<◌, ◌≤◌, ap, refl, subst, sym, inl, inr, true, Bool, List, [], ◌∷◌, length, Option, Some, None, codes}
use Rattle.std.specs.Borrow.{Bor}
use Rattle.std.specs.Prelude.{Box, Result, if◌then◌else◌, option_and_then, option_map, slice_get, slice_index_or}
use Rattle.std.specs.Box.{box_value}
use Rattle.std.specs.Str.{bytes_eq}
use Rattle.std.proofs.lemmas.Option.{slice_get-get_or, slice_get-map, slice_get_past}
use Rattle.clap.specs.Walk.{texts}
use Rattle.clap.specs.Kinds.{Kinds}
use Rattle.clap.specs.Words.{FailsBy, HasKind, HasMatchesOf, IsAmong, Row, Text, app_of, fault_of, found_of, is_simple, is_simple_and_free, kind_of, rows_of, subcommand_name_of, subcommand_of, subcommand_rows, subcommand_rows_of}
use Rattle.clap.specs.declared.builder.command.Command.{Command}
use Rattle.clap.specs.declared.error.Error.{Error}
use Rattle.clap.specs.declared.error.kind.ErrorKind.TheVariants.{DisplayHelp, DisplayVersion, ValueValidation}
use Rattle.clap.specs.declared.parser.matches.ArgMatches.{ArgMatches}
use Rattle.clap.specs.declared.parser.matches.ArgMatches.TheViews.{out-ArgMatches, out-SubCommand}
use Rattle.clap.specs.declared.parser.matches.SubCommand.{SubCommand}
use Rattle.clap.proofs.OnLiterals.{clap_on_literals}
use Rattle.clap.proofs.WalkLemmas.{first_value-rows, one_text-rows, raw_values-rows}
use Rattle.racl_options.specs.CommandLine.{racl, values_of}
use Rattle.racl_options.specs.Tasks.{RefusesCommand, kind_for, named_command, named_task, racl_commands, task_in, with_commands}
use Rattle.racl_options.specs.inner.Commands.{without_options}
use Rattle.racl_options.specs.inner.Naming.{values_in}

-- ---- the first word after the program's

pub second_word : (words : List (Bor Text)) (d : Bor Text) → 1 < length words → slice_get (texts words) 1 ≡ Some (slice_index_or words 1 d).now
second_word words d long = slice_get-map (λ w. w.now) words 1 ∙ ap (option_map (λ w. w.now)) (slice_get-get_or words 1 d long)

pub no_second_word : (words : List (Bor Text)) → length words ≤ 1 → slice_get (texts words) 1 ≡ None
no_second_word words short = slice_get-map (λ w. w.now) words 1 ∙ ap (option_map (λ w. w.now)) (slice_get_past words 1 short)

-- ---- the command line with its subcommands

commands_are_simple : is_simple racl_commands ≡ true
unfolding clap_on_literals
commands_are_simple = refl

commands_are_free : is_simple_and_free racl_commands ≡ true
unfolding clap_on_literals
commands_are_free = refl

names_are_free : is_simple_and_free (with_commands without_options) ≡ true
unfolding clap_on_literals
names_are_free = refl

-- no kind of error comes but those of the words' fault
pub fails_by_commands : {T : Type 0} (c : Command) (words : List Text) (r : Result T Error) → app_of c ≡ racl_commands
    → (is_simple_and_free (app_of c) ≡ true → FailsBy (fault_of (app_of c) words) r) → FailsBy (fault_of racl_commands words) r
fails_by_commands c words r is kinds = subst (λ a. FailsBy (fault_of a words) r) is (kinds (ap is_simple_and_free is ∙ commands_are_free))

pub fails_by_names : {T : Type 0} (c : Command) (words : List Text) (r : Result T Error) → app_of c ≡ with_commands without_options
    → (is_simple_and_free (app_of c) ≡ true → FailsBy (fault_of (app_of c) words) r) → FailsBy (fault_of (with_commands without_options) words) r
fails_by_names c words r is kinds = subst (λ a. FailsBy (fault_of a words) r) is (kinds (ap is_simple_and_free is ∙ names_are_free))

-- the requests that the program writes out
pub help_is_asked : fault_of racl_commands (codes "racl" ∷ codes "--help" ∷ []) ≡ DisplayHelp ∷ []
unfolding clap_on_literals
help_is_asked = refl

pub version_is_asked : fault_of racl (codes "racl" ∷ codes "--version" ∷ []) ≡ DisplayVersion ∷ []
unfolding clap_on_literals
version_is_asked = refl

-- ---- what its matches hold

pub values_by_rows : (m : ArgMatches) → values_in (found_of m) ≡ values_of (rows_of (found_of m))
values_by_rows m =
    let number : (id : Text) → _ = λ id. one_text-rows (found_of m) id in
    let first : (id : Text) → _ = λ id. first_value-rows (found_of m) id in
    let all = λ (id : Text). raw_values-rows (found_of m) id in
    λ i. record { number = λ id. number id i; first = λ id. first id i; all = λ id. all id i }

module _ {Z : Type 0} where
  same_entry : (sub : Option (Box SubCommand Z)) (name : Text) (rows : List Row)
      → option_map (λ b. (out-SubCommand (box_value b)).name.now) sub ≡ Some name → option_map (λ p. p.1) (subcommand_rows sub) ≡ Some rows
      → subcommand_rows sub ≡ Some (name, rows)
  same_entry None name rows named held = cc
  same_entry (Some b) name rows named held =
      let first : (out-SubCommand (box_value b)).name.now ≡ name = cc in
      let second : rows_of (found_of (out-SubCommand (box_value b)).matches) ≡ rows = cc in
      rw (first, second) refl

  no_entry : (sub : Option (Box SubCommand Z)) → option_map (λ b. (out-SubCommand (box_value b)).name.now) sub ≡ None → subcommand_rows sub ≡ None
  no_entry None none = refl
  no_entry (Some b) none = cc

-- the command that a parse met is the one that the words name
module _ (c : Command) (words : List Text) (m : ArgMatches) (is : app_of c ≡ racl_commands) (has : HasMatchesOf (app_of c) words m) where
  entered_is : subcommand_rows_of m ≡ subcommand_of racl_commands words
  entered_is = (has (ap is_simple is ∙ commands_are_simple)).1 ∙ ap (λ a. subcommand_of a words) is

  pub met : (name : Text) (found : ArgMatches) → subcommand_name_of m ≡ Some name
      → option_map (λ p. p.1) (subcommand_rows_of m) ≡ Some (rows_of (found_of found))
      → (named_task words ≡ task_in name (values_in (found_of found))) × (named_command words ≡ Some name)
  met name found named held =
      let entry = sym entered_is ∙ same_entry (out-ArgMatches m).subcommand name (rows_of (found_of found)) named held in (
        ap (option_and_then (λ (p : Text × List Row). task_in p.0 (values_of p.1))) entry ∙ ap (task_in name) (sym (values_by_rows found)),
        ap (option_map (λ (p : Text × List Row). p.0)) entry,
      )

  pub met_none : subcommand_name_of m ≡ None → (named_task words ≡ None) × (named_command words ≡ None)
  met_none named =
      let entry = sym entered_is ∙ no_entry (out-ArgMatches m).subcommand named in
      (ap (option_and_then (λ (p : Text × List Row). task_in p.0 (values_of p.1))) entry, ap (option_map (λ (p : Text × List Row). p.0)) entry)

-- ---- kinds of errors

pub named_kind : (words : List Text) (name : Text) (is_version : Bool) → named_command words ≡ Some name → bytes_eq name (codes "version") ≡ is_version
    → kind_for (named_command words) ≡ (if is_version then DisplayVersion else ValueValidation)
named_kind words name is_version named is = ap kind_for named ∙ ap (λ b. if b then DisplayVersion else ValueValidation) is

pub version_unasked : (words : List Text) (e : Error) → fault_of racl_commands words ≡ [] → named_task words ≡ None
    → kind_for (named_command words) ≡ DisplayVersion → HasKind (DisplayVersion ∷ []) e → RefusesCommand words e
version_unasked words e faultless none kind (inl memory) = inl (inl memory)
version_unasked words e faultless none kind (inr (inl version)) = inr (faultless, none, version ∙ sym kind)
version_unasked words e faultless none kind (inr (inr nothing)) = absurd nothing

-- an error of the help is of the kinds of another
pub help_too : (kinds : Kinds) (e f : Error) → kind_of e ≡ DisplayHelp → HasKind kinds e → HasKind (DisplayHelp ∷ []) f → HasKind kinds f
help_too kinds e f is p (inl memory) = inl memory
help_too kinds e f is (inl memory) (inr help) = cc
help_too kinds e f is (inr among) (inr (inl help)) = inr (subst (λ k. IsAmong k kinds) (is ∙ sym help) among)
help_too kinds e f is (inr among) (inr (inr nothing)) = absurd nothing
