-- After a parse, the matches hold for a number option a text that its parser takes.
use Rattle.std.proofs.Common.{◌≡◌, ◌∙◌, ◌<◌, ◌≤◌, ap, arith, refl, subst, sym, inl, inr, ℕ, Bool, true, false, List, [], ◌∷◌, length, zero, suc, Option, Some, None, is_some}
use Rattle.std.specs.Borrow.{Bor}
use Rattle.std.specs.List.{All, slice_index_or}
use Rattle.std.specs.Prelude.{find, option_map, pos, slice_get}
use Rattle.std.specs.Str.{bytes_eq}
use Rattle.std.proofs.lemmas.Int.{ints}
use Rattle.std.proofs.lemmas.List.{length-map}
use Rattle.std.proofs.lemmas.List.Elements.{All-get_or}
use Rattle.std.proofs.lemmas.Slice.Eq.{bytes_eq-Decides}
use Rattle.clap.specs.Built.{IsAuto, NamesNoGroup}
use Rattle.clap.specs.Facts.{Entry, EntryPasses, HasIn, HasReading, PassesArg, WantsDefault, least_values, parser_of_value, unwrap_or_range}
use Rattle.clap.specs.Words.{Accepts, IsParsedFrom, IsSignedIn, Rule, SameRules, Text, args_of, found_of, groups_of, items_of, matched_of, one_text, parser_of, reading_of, rule_of, without_minus}
use Rattle.clap.specs.declared.builder.action.ArgAction.TheVariants.{Count, Set}
use Rattle.clap.specs.declared.builder.arg.Arg.{Arg}
use Rattle.clap.specs.declared.builder.command.Command.{Command}
use Rattle.clap.specs.declared.builder.command.Command.TheViews.{out-Command}
use Rattle.clap.specs.declared.builder.value_parser.Reading.{Reading}
use Rattle.clap.specs.declared.builder.value_parser.Reading.TheVariants.{WithoutMinus}
use Rattle.clap.specs.declared.builder.value_parser.ValueParser.{ValueParser}
use Rattle.clap.specs.declared.builder.value_parser.ValueParser.TheVariants.{Signed}
use Rattle.clap.specs.declared.parser.matches.ArgMatches.{ArgMatches}
use Rattle.clap.specs.declared.parser.matches.Found.{Found}
use Rattle.clap.specs.declared.parser.matches.MatchedArg.{MatchedArg}
use Rattle.clap.proofs.CallerLemmas.{default_present, entry_by_id, same_rules_by_id}
use Rattle.clap.proofs.SimpleLemmas.{is_false, is_nil}
use Rattle.clap.proofs.WalkLemmas.{both}
use Rattle.racl_options.specs.CommandLine.{HoldsNumber, OptionName, most_of, name_of, number_rule}

-- a text that a parser takes is taken by one with a higher most
pub held_below : (most higher : ℕ) (text : Option Text) → most ≤ higher → HoldsNumber most text → HoldsNumber higher text
held_below most higher text le h =
    let at_most = h.2.3 in
    (h.0, h.1, (h.2.0, h.2.1, h.2.2, omega (arith, ints)))

-- an entry with the id is found
found_entry : (xs : List Entry) (id : Text) → HasIn xs id → is_some (option_map (λ e. e.1) (find (λ e. bytes_eq e.0.now id) xs)) ≡ true
found_entry [] id h =
    let none : h.0 < 0 = h.1 in
    absurd (omega arith)
found_entry (x ∷ xs) id h = go (bytes_eq x.0.now id) refl h.0 h.1 h.2 (found_entry xs id)
  where
    go : (b : Bool) → bytes_eq x.0.now id ≡ b → (i : ℕ) → i < length (x ∷ xs) → ((d : Entry) → bytes_eq (slice_index_or (x ∷ xs) i d).0.now id ≡ true)
        → (HasIn xs id → is_some (option_map (λ e. e.1) (find (λ e. bytes_eq e.0.now id) xs)) ≡ true)
        → is_some (option_map (λ e. e.1) (find (λ e. bytes_eq e.0.now id) (x ∷ xs))) ≡ true
    go true here i lt at rest = rw here refl
    go false here zero lt at rest =
        let bad : false ≡ true = rw here at (at x) in
        cc
    go false here (suc i) lt at rest = rw here (rest (i, omega arith, at))

-- what is known of the argument of an option
pub record IsOption (o : OptionName) (a : Arg) : Type 0 where
  pub name : a.id.now ≡ name_of o
  pub action : a.action ≡ Some Set
  pub parser : a.value_parser ≡ Some (Signed (pos 1) (pos (most_of o)))
  pub least : 1 ≤ least_values a
  pub delimiter : is_some a.val_delim ≡ false
  pub wants : WantsDefault a

pub option_by_rule : (o : OptionName) (a : Arg) → rule_of a ≡ number_rule o → IsOption o a
option_by_rule o a e =
    let range : least_values a ≡ 1 = ap (λ (r : Rule). (unwrap_or_range r.range).start_inclusive) e in
    let one : length (items_of a.default_vals) ≡ 1 = sym (length-map (items_of a.default_vals) (λ s. s.now)) ∙ ap (λ (r : Rule). length r.defaults) e in
    let has_default : 0 < length (items_of a.default_vals) = omega arith in
    let least : 1 ≤ least_values a = omega arith in
    let simple = both _ _ (ap (λ (r : Rule). r.is_simple) e) in
    let no_ifs = both _ _ simple.1 in
    let no_groups = both _ _ no_ifs.1 in
    let no_delimiter = both _ _ no_groups.1 in
    record {
      name = ap (λ (r : Rule). r.id) e;
      action = ap (λ (r : Rule). r.action) e;
      parser = ap (λ (r : Rule). r.parser) e;
      least = least;
      delimiter = is_false _ no_delimiter.0;
      wants = (is_nil _ no_ifs.0, has_default);
    }

-- the first of some texts that all pass, as a getter reads it
first_read : (P : Text → Type 0) (vs : List (Bor Text)) → 0 < length vs → All (λ v. P v.now) vs
    → (t : Text) × (option_map (λ s. without_minus s.now) (slice_get vs 0) ≡ Some (without_minus t)) × P t
first_read P [] some all = absurd (omega arith)
first_read P (v ∷ vs) some all = (v.now, refl, All-get_or (λ (w : Bor Text). P w.now) (v ∷ vs) 0 v (omega arith) all)

-- the text that a getter reads of an entry whose values are read without a minus
text_of_entry : (f : Found) (id : Text) (x : MatchedArg) (t : Text) → matched_of f id ≡ Some x → x.reading ≡ WithoutMinus
    → option_map (λ s. without_minus s.now) (slice_get x.vals.items 0) ≡ Some t → one_text f id ≡ Some t
text_of_entry f id x t found reading first = rw (found, reading) first

module _ (c : Command) (m : ArgMatches) (p : IsParsedFrom c m) (globals : (out-Command c).has_globals ≡ false) (ungrouped : NamesNoGroup c)
    (groups : groups_of c ≡ []) (k : ℕ) (d : Arg) (o : OptionName) where
  abbrev arg : Arg
  arg = slice_index_or (args_of c) k d

  -- each argument of the built command with the name keeps the option's rules
  abbrev KeepsRules : Type 0
  KeepsRules = (j : ℕ) (x : Arg) → j < length (args_of p.built) → slice_index_or (args_of p.built) j x ≡ x → bytes_eq x.id.now (name_of o) ≡ true → SameRules arg x

  no_groups : groups_of p.built ≡ []
  no_groups = (p.from.same_groups ungrouped).1 ∙ groups

  takes_value : KeepsRules → IsOption o arg → (t : Text) → PassesArg p.built (name_of o) t → IsSignedIn (pos 1) (pos (most_of o)) t
  takes_value same is t pass =
      let s = same pass.0 pass.1 pass.2 pass.3 pass.4.0 in
      let parser : parser_of pass.1 ≡ Signed (pos 1) (pos (most_of o)) = ap parser_of_value (s.parser _ is.parser) in
      subst (λ (q : ValueParser). Accepts pass.1.ignore_case q t) parser pass.4.1

  reads_number : KeepsRules → IsOption o arg → (r : Reading) → HasReading p.built (name_of o) r → r ≡ WithoutMinus
  reads_number same is r any =
      let s = same any.0 any.1 any.2 any.3 any.4.0 in
      let parser : parser_of any.1 ≡ Signed (pos 1) (pos (most_of o)) = ap parser_of_value (s.parser _ is.parser) in
      sym any.4.1 ∙ ap reading_of parser

  -- an entry of the option has a value
  has_value : KeepsRules → IsOption o arg → (name_of o ≡ [] → ⊥) → (e : Entry) → e.0.now ≡ name_of o → EntryPasses p.built e → 0 < length e.1.vals.items
  has_value same is named e key pass = elim pass.1 [
    | inl group ↦ elim group.1 [
      | inl empty ↦ absurd (named (sym key ∙ empty))
      | inr some ↦
          let bad : 0 < 0 = rw no_groups at some in
          absurd (omega arith)
    ]
    | inr (inl some) ↦ some
    | inr (inr (inl counted)) ↦
        let any = counted.1 in
        let s = same any.0 any.1 any.2 any.3 (rw key at any.4.0) in
        let is_set : any.1.action ≡ Some Set = s.action Set is.action in
        let bad : Set ≡ Count = rw is_set at any.4.1 in
        cc
    | inr (inr (inr any)) ↦
        let s = same any.0 any.1 any.2 any.3 (rw key at any.4.0) in
        elim any.4.1 [
          | inl none ↦
              let one = s.least is.action is.least in
              absurd (omega arith)
          | inr delimiter ↦
              let bad : false ≡ true = rw (s.val_delim, is.delimiter) at delimiter in
              cc
        ]
  ]

  held_in_entry : KeepsRules → IsOption o arg → (name_of o ≡ [] → ⊥) → (e : Entry) → e.0.now ≡ name_of o → EntryPasses p.built e
      → matched_of (found_of m) (name_of o) ≡ Some e.1 → HoldsNumber (most_of o) (one_text (found_of m) (name_of o))
  held_in_entry same is named e key pass found =
      let no_group : e.1.is_group ≡ true → ⊥ = λ g. elim (pass.3 g) [
        | inl empty ↦ named (sym key ∙ empty)
        | inr some ↦
            let bad : 0 < 0 = rw no_groups at some in
            absurd (omega arith)
      ] in
      let passes : All (λ v. PassesArg p.built (name_of o) v.now) e.1.vals.items = elim pass.0 [
        | inl g ↦ absurd (no_group g)
        | inr all ↦ subst (λ (w : Text). All (λ v. PassesArg p.built w v.now) e.1.vals.items) key all
      ] in
      let reading : e.1.reading ≡ WithoutMinus = elim pass.4 [
        | inl g ↦ absurd (no_group g)
        | inr h ↦ reads_number same is e.1.reading (subst (λ (w : Text). HasReading p.built w e.1.reading) key h)
      ] in
      let first = first_read (PassesArg p.built (name_of o)) e.1.vals.items (has_value same is named e key pass) passes in
      (first.0, text_of_entry (found_of m) (name_of o) e.1 _ found reading first.1, takes_value same is first.0 first.2)

  -- the matches hold a text that the option's parser takes
  pub number_held : IsOption o arg → k < length (args_of c)
      → ((j : ℕ) (e : Arg) → j < length (args_of c) → bytes_eq (slice_index_or (args_of c) j e).id.now (name_of o) ≡ true → j ≡ k)
      → (name_of o ≡ [] → ⊥) → (IsAuto arg → ⊥) → HoldsNumber (most_of o) (one_text (found_of m) (name_of o))
  number_held is lt unique named own = go (matched_of (found_of m) (name_of o)) refl
    where
      same : KeepsRules
      same j x below at key = same_rules_by_id c m p k d lt (λ i e low eq. unique i e low (rw is.name at eq)) own j x below at (rw is.name key)

      present : is_some (matched_of (found_of m) (name_of o)) ≡ true
      present = found_entry _ (name_of o) (subst (λ (w : Text). HasIn (found_of m).entries.items w) is.name (default_present c m p globals k d lt is.wants))

      go : (x : Option MatchedArg) → matched_of (found_of m) (name_of o) ≡ x → HoldsNumber (most_of o) (one_text (found_of m) (name_of o))
      go None e =
          let bad : false ≡ true = rw e at present in
          cc
      go (Some x) e =
          let got = entry_by_id (EntryPasses p.built) (found_of m).entries.items (name_of o) x (p.parsed (p.from.globals ∙ globals)).values e in
          held_in_entry same is named got.0 ((bytes_eq-Decides _ _).0 got.2) got.3 (e ∙ ap Some (sym got.1))
