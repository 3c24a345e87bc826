-- What the end of a parse makes of the options that the words left out.
use Rattle.std.proofs.Common.{◌≡◌, ◌∙◌, ◌++◌, ◌||◌, ap, append-nil, append_assoc, cond, map, refl, sym, Bool, true, false, List, [], ◌∷◌, Option, Some, None, codes, is_some}
use Rattle.std.specs.List.{find, fold}
use Rattle.std.specs.Option.{option_or}
use Rattle.std.specs.Str.{bytes_eq}
use Rattle.std.proofs.lemmas.List.Folds.{find-append}
use Rattle.clap.specs.Faults.{check_fault, default_fault, defaults_fault, entered_fault, settle_fault, walk_fault}
use Rattle.clap.specs.Kinds.{or_else}
use Rattle.clap.specs.Simple.{entered, filled, help_rule, version_rule}
use Rattle.clap.specs.Walk.{Walk, default_rows, finished, has_row, more_values, nothing_held, reading_by, settled, walked, with_default, with_values}
use Rattle.clap.specs.Words.{Row, Rule, Text, built, fault_of}
use Rattle.clap.specs.declared.builder.value_parser.Reading.{Reading}
use Rattle.clap.specs.declared.builder.value_parser.Reading.TheVariants.{AsWritten, WithoutMinus}
use Rattle.clap.specs.declared.error.kind.ErrorKind.{ErrorKind}
use Rattle.clap.specs.declared.parser.matches.ValueSource.TheVariants.{DefaultValue}
use Rattle.clap.proofs.OnLiterals.{clap_on_literals}
use Rattle.racl_options.specs.CommandLine.{OptionName, Workers, Established, Transient, Udp, default_of, name_of, racl}
use Rattle.racl_options.specs.Selections.{FlagName, Summary, Hits, Sessions, Explain, JsonLines, Live, Age, flag_id}
use Rattle.racl_options.specs.inner.Commands.{drops_id, expect_id, only_id, passes_id, shard_id, tables_id}
use Rattle.racl_options.proofs.NameWalks.{has_row_behind}
use Rattle.racl_options.proofs.SettingWalks.{at_row_missing, between, capture_filled, default_row, filled_rule, flag_filled, interface_filled, policy_filled, top, value_filled}

or_right : (b : Bool) → (b || true) ≡ true
or_right true = refl
or_right false = refl

both_pass : {xs ys : List ErrorKind} → xs ≡ [] → ys ≡ [] → or_else xs ys ≡ []
both_pass first second = rw (first, second) refl

pass_either : (b : Bool) (xs : List ErrorKind) → xs ≡ [] → cond b [] xs ≡ []
pass_either true xs none = refl
pass_either false xs none = none

-- a default passes, whether or not it is wanted
default_passes : (o : OptionName) (rows : List Row) → default_fault rows (filled_rule o) ≡ []
default_passes Workers rows = pass_either _ _ refl
default_passes Established rows = pass_either _ _ refl
default_passes Transient rows = pass_either _ _ refl
default_passes Udp rows = pass_either _ _ refl

flag_passes : (f : FlagName) (rows : List Row) → default_fault rows (flag_filled f) ≡ []
flag_passes Summary rows = pass_either _ _ refl
flag_passes Hits rows = pass_either _ _ refl
flag_passes Sessions rows = pass_either _ _ refl
flag_passes Explain rows = pass_either _ _ refl
flag_passes JsonLines rows = pass_either _ _ refl
flag_passes Live rows = pass_either _ _ refl
flag_passes Age rows = pass_either _ _ refl

-- nor does an argument that has none
none_passes : (r : Rule) → r.defaults ≡ [] → (rows : List Row) → default_fault rows r ≡ []
none_passes r none rows = rw (none, or_right (has_row r.id rows)) refl

-- no default of these makes a fault
abbrev PassEach : List Rule → Type 0
PassEach [] = Unit {0}
PassEach (r ∷ rs) = ((rows : List Row) → default_fault rows r ≡ []) × PassEach rs

each_passes : (rs : List Rule) (rows : List Row) → PassEach rs → defaults_fault rows rs ≡ []
unfolding defaults_fault
each_passes [] rows pass = refl
each_passes (r ∷ rs) rows pass = both_pass (pass.0 rows) (each_passes rs (with_default rows r) pass.1)

-- the rows with the default of one option after another
abbrev workers_filled : List Row → List Row
workers_filled rows = with_default rows (filled_rule Workers)

abbrev established_filled : List Row → List Row
established_filled rows = with_default (workers_filled rows) (filled_rule Established)

abbrev transient_filled : List Row → List Row
transient_filled rows = with_default (established_filled rows) (filled_rule Transient)

abbrev pub udp_filled : List Row → List Row
udp_filled rows = with_default (transient_filled rows) (filled_rule Udp)

abbrev flags : List FlagName
flags = Summary ∷ Hits ∷ Sessions ∷ Explain ∷ JsonLines ∷ Live ∷ Age ∷ []

flags_pass : (fs : List FlagName) (rs : List Rule) → PassEach rs → PassEach (map flag_filled fs ++ rs)
flags_pass [] rs pass = pass
flags_pass (f ∷ fs) rs pass = (flag_passes f, flags_pass fs rs pass)

abbrev files : List Rule
files = policy_filled ∷ capture_filled ∷ filled help_rule ∷ filled version_rule ∷ []

files_pass : PassEach files
files_pass = (none_passes policy_filled refl, (none_passes capture_filled refl, (none_passes (filled help_rule) refl, (none_passes (filled version_rule) refl, tt))))

abbrev others : List Rule
others = value_filled tables_id ∷ interface_filled ∷ value_filled only_id ∷ value_filled drops_id ∷ value_filled passes_id ∷ value_filled expect_id ∷ value_filled shard_id ∷ []

others_pass : (rs : List Rule) → PassEach rs → PassEach (others ++ rs)
others_pass rs pass = (
  none_passes (value_filled tables_id) refl,
  (
    none_passes interface_filled refl,
    (
      none_passes (value_filled only_id) refl,
      (
        none_passes (value_filled drops_id) refl,
        (none_passes (value_filled passes_id) refl, (none_passes (value_filled expect_id) refl, (none_passes (value_filled shard_id) refl, pass))),
      ),
    ),
  ),
)

defaults_pass : (rows : List Row) → defaults_fault rows top.rules ≡ []
unfolding clap_on_literals
defaults_pass rows = each_passes top.rules rows (
  default_passes Workers,
  (default_passes Established, (default_passes Transient, (default_passes Udp, others_pass (map flag_filled flags ++ files) (flags_pass flags files files_pass)))),
)

-- what the words come to in the end, by where the walk stopped
abbrev pub end_fault : List ErrorKind → Walk → List ErrorKind
end_fault walk_kinds w = or_else walk_kinds (or_else (entered_fault (built racl) w.stopped) (or_else (settle_fault top.rules false w.held)
    (or_else (defaults_fault (settled top.rules w.held).rows top.rules) (check_fault top (finished top.rules w.held) (is_some (entered (built racl) w.stopped))))))

pub fault_is : (program : Text) (words : List Text) → fault_of racl (program ∷ words) ≡ end_fault (walk_fault top [] (between nothing_held) words) (fold (walked top.rules []) (between nothing_held) words)
fault_is program words = refl

pub ends_well : (w : Walk) → w.stopped ≡ None → settle_fault top.rules false w.held ≡ [] → end_fault [] w ≡ []
ends_well w runs settles = rw (runs, settles, defaults_pass (settled top.rules w.held).rows) refl

-- what the matches hold of an id, by the rows that the words made
abbrev pub find_row : Text → List Row → Option Row
find_row id = find (λ r. bytes_eq r.id id)

found_has : (id : Text) (rows : List Row) (r : Row) → find_row id rows ≡ Some r → has_row id rows ≡ true
found_has id [] r e = cc
found_has id (x ∷ rest) r e = go (bytes_eq x.id id) e (found_has id rest r)
  where
    go : (b : Bool) → cond b (Some x) (find_row id rest) ≡ Some r → (find_row id rest ≡ Some r → has_row id rest ≡ true) → (b || has_row id rest) ≡ true
    go true found next = refl
    go false found next = next found

has_none : (id : Text) (rows : List Row) → find_row id rows ≡ None → has_row id rows ≡ false
has_none id [] e = refl
has_none id (x ∷ rest) e = go (bytes_eq x.id id) e (has_none id rest)
  where
    go : (b : Bool) → cond b (Some x) (find_row id rest) ≡ None → (find_row id rest ≡ None → has_row id rest ≡ false) → (b || has_row id rest) ≡ false
    go true found next = cc
    go false found next = next found

fill_row : (id v : Text) (how : Reading) (rows : List Row) → bytes_eq id id ≡ true
    → find_row id (cond (has_row id rows) rows (with_values id how DefaultValue (v ∷ []) rows))
    ≡ option_or (find_row id rows) (Some (record { id = id; values = v ∷ []; count = None; source = Some DefaultValue; reading = how }))
fill_row id v how rows same = go (find_row id rows) refl
  where
    go : (found : Option Row) → find_row id rows ≡ found
        → find_row id (cond (has_row id rows) rows (with_values id how DefaultValue (v ∷ []) rows))
        ≡ option_or (find_row id rows) (Some (record { id = id; values = v ∷ []; count = None; source = Some DefaultValue; reading = how }))
    go (Some r) e = rw (found_has id rows r e, e) refl
    go None e =
        let none = has_none id rows e in
        rw (none, at_row_missing id (more_values DefaultValue (v ∷ [])) _ rows none, find-append) (rw (e, same) refl)

or_none : (found : Option Row) → option_or found None ≡ found
or_none None = refl
or_none (Some r) = refl

keep_row : (id other v : Text) (how : Reading) (rows : List Row) → bytes_eq other id ≡ false
    → find_row id (cond (has_row other rows) rows (with_values other how DefaultValue (v ∷ []) rows)) ≡ find_row id rows
keep_row id other v how rows apart = go (has_row other rows) refl
  where
    go : (b : Bool) → has_row other rows ≡ b → find_row id (cond b rows (with_values other how DefaultValue (v ∷ []) rows)) ≡ find_row id rows
    go true e = refl
    go false none = rw (at_row_missing other (more_values DefaultValue (v ∷ [])) _ rows none, find-append, apart) (or_none (find_row id rows))

-- the default of an option fills what the words left out
default_fills : (o : OptionName) (rows : List Row) → find_row (name_of o) (with_default rows (filled_rule o)) ≡ option_or (find_row (name_of o) rows) (Some (default_row o))
default_fills Workers rows = fill_row (name_of Workers) (default_of Workers) WithoutMinus rows refl
default_fills Established rows = fill_row (name_of Established) (default_of Established) WithoutMinus rows refl
default_fills Transient rows = fill_row (name_of Transient) (default_of Transient) WithoutMinus rows refl
default_fills Udp rows = fill_row (name_of Udp) (default_of Udp) WithoutMinus rows refl

-- and leaves what has another id as it is
id_keeps : (id : Text) (other : OptionName) (rows : List Row) → bytes_eq (name_of other) id ≡ false → find_row id (with_default rows (filled_rule other)) ≡ find_row id rows
id_keeps id Workers rows = keep_row id (name_of Workers) (default_of Workers) WithoutMinus rows
id_keeps id Established rows = keep_row id (name_of Established) (default_of Established) WithoutMinus rows
id_keeps id Transient rows = keep_row id (name_of Transient) (default_of Transient) WithoutMinus rows
id_keeps id Udp rows = keep_row id (name_of Udp) (default_of Udp) WithoutMinus rows

default_keeps : (o other : OptionName) (rows : List Row) → bytes_eq (name_of other) (name_of o) ≡ false → find_row (name_of o) (with_default rows (filled_rule other)) ≡ find_row (name_of o) rows
default_keeps o other rows = id_keeps (name_of o) other rows

-- and an argument without a default leaves all rows
none_keeps : (r : Rule) → r.defaults ≡ [] → (rows : List Row) → with_default rows r ≡ rows
none_keeps r none rows = go (has_row r.id rows) r.defaults none
  where
    go : (b : Bool) (defaults : List Text) → defaults ≡ [] → cond b rows (default_rows r.id (reading_by r) defaults rows) ≡ rows
    go true defaults none = refl
    go false [] none = refl
    go false (d ∷ ds) none = cc

-- as several do
abbrev KeepEach : List Rule → Type 0
KeepEach [] = Unit {0}
KeepEach (r ∷ rs) = ((rows : List Row) → with_default rows r ≡ rows) × KeepEach rs

each_keeps : (rs : List Rule) (rows : List Row) → KeepEach rs → fold with_default rows rs ≡ rows
each_keeps [] rows keep = refl
each_keeps (r ∷ rs) rows keep = ap (λ all. fold with_default all rs) (keep.0 rows) ∙ each_keeps rs rows keep.1

or_default : (o : OptionName) (f g : Option Row) → f ≡ g → option_or f (Some (default_row o)) ≡ option_or g (Some (default_row o))
or_default o f g = ap (λ found. option_or found (Some (default_row o)))

filled_by : (o : OptionName) (rows : List Row) → find_row (name_of o) (udp_filled rows) ≡ option_or (find_row (name_of o) rows) (Some (default_row o))
filled_by Workers rows = default_keeps Workers Udp (transient_filled rows) refl ∙ default_keeps Workers Transient (established_filled rows) refl
    ∙ default_keeps Workers Established (workers_filled rows) refl ∙ default_fills Workers rows
filled_by Established rows = default_keeps Established Udp (transient_filled rows) refl ∙ default_keeps Established Transient (established_filled rows) refl
    ∙ default_fills Established (workers_filled rows) ∙ or_default Established _ _ (default_keeps Established Workers rows refl)
filled_by Transient rows = default_keeps Transient Udp (transient_filled rows) refl ∙ default_fills Transient (established_filled rows)
    ∙ or_default Transient _ _ (default_keeps Transient Established (workers_filled rows) refl ∙ default_keeps Transient Workers rows refl)
filled_by Udp rows = default_fills Udp (transient_filled rows)
    ∙ or_default Udp _ _ (default_keeps Udp Transient (established_filled rows) refl ∙ default_keeps Udp Established (workers_filled rows) refl ∙ default_keeps Udp Workers rows refl)

-- ---- flags

-- the row of a flag that was left out
abbrev pub flag_row : FlagName → Row
flag_row flag = record { id = flag_id flag; values = codes "false" ∷ []; count = None; source = Some DefaultValue; reading = AsWritten }

abbrev pub flag_rows : List Row
flag_rows = map flag_row flags

flag_added : (f : FlagName) (rows : List Row) → has_row (flag_id f) rows ≡ false → with_default rows (flag_filled f) ≡ rows ++ flag_row f ∷ []
flag_added Summary rows none = rw none (at_row_missing (flag_id Summary) (more_values DefaultValue (codes "false" ∷ [])) _ rows none)
flag_added Hits rows none = rw none (at_row_missing (flag_id Hits) (more_values DefaultValue (codes "false" ∷ [])) _ rows none)
flag_added Sessions rows none = rw none (at_row_missing (flag_id Sessions) (more_values DefaultValue (codes "false" ∷ [])) _ rows none)
flag_added Explain rows none = rw none (at_row_missing (flag_id Explain) (more_values DefaultValue (codes "false" ∷ [])) _ rows none)
flag_added JsonLines rows none = rw none (at_row_missing (flag_id JsonLines) (more_values DefaultValue (codes "false" ∷ [])) _ rows none)
flag_added Live rows none = rw none (at_row_missing (flag_id Live) (more_values DefaultValue (codes "false" ∷ [])) _ rows none)
flag_added Age rows none = rw none (at_row_missing (flag_id Age) (more_values DefaultValue (codes "false" ∷ [])) _ rows none)

-- none of these was given, one after the other
abbrev AreLeftOut : List FlagName → List Row → Type 0
AreLeftOut [] rows = Unit {0}
AreLeftOut (f ∷ fs) rows = (has_row (flag_id f) rows ≡ false) × AreLeftOut fs (rows ++ flag_row f ∷ [])

flags_added : (fs : List FlagName) (rows : List Row) → AreLeftOut fs rows → fold with_default rows (map flag_filled fs) ≡ rows ++ map flag_row fs
flags_added [] rows out = sym (append-nil rows)
flags_added (f ∷ fs) rows out = ap (λ all. fold with_default all (map flag_filled fs)) (flag_added f rows out.0)
    ∙ flags_added fs (rows ++ flag_row f ∷ []) out.1 ∙ append_assoc rows (flag_row f ∷ []) (map flag_row fs)

all_left_out : (rows : List Row) → ((f : FlagName) → has_row (flag_id f) rows ≡ false) → AreLeftOut flags rows
all_left_out rows out =
    let one : List Row = rows ++ flag_row Summary ∷ [] in
    let two : List Row = one ++ flag_row Hits ∷ [] in
    let three : List Row = two ++ flag_row Sessions ∷ [] in
    let four : List Row = three ++ flag_row Explain ∷ [] in
    let five : List Row = four ++ flag_row JsonLines ∷ [] in
    let hits = has_row_behind (flag_id Hits) rows (flag_row Summary) (out Hits) refl in
    let sessions = has_row_behind (flag_id Sessions) one (flag_row Hits) (has_row_behind (flag_id Sessions) rows (flag_row Summary) (out Sessions) refl) refl in
    let explain = has_row_behind (flag_id Explain) two (flag_row Sessions) (has_row_behind (flag_id Explain) one (flag_row Hits)
    (has_row_behind (flag_id Explain) rows (flag_row Summary) (out Explain) refl) refl) refl in
    let json = has_row_behind (flag_id JsonLines) three (flag_row Explain) (has_row_behind (flag_id JsonLines) two (flag_row Sessions)
    (has_row_behind (flag_id JsonLines) one (flag_row Hits) (has_row_behind (flag_id JsonLines) rows (flag_row Summary) (out JsonLines) refl) refl) refl) refl in
    let live = has_row_behind (flag_id Live) four (flag_row JsonLines) (has_row_behind (flag_id Live) three (flag_row Explain) (has_row_behind (flag_id Live) two (flag_row Sessions)
    (has_row_behind (flag_id Live) one (flag_row Hits) (has_row_behind (flag_id Live) rows (flag_row Summary) (out Live) refl) refl) refl) refl) refl in
    let age = has_row_behind (flag_id Age) five (flag_row Live) (has_row_behind (flag_id Age) four (flag_row JsonLines) (has_row_behind (flag_id Age) three (flag_row Explain)
    (has_row_behind (flag_id Age) two (flag_row Sessions) (has_row_behind (flag_id Age) one (flag_row Hits)
    (has_row_behind (flag_id Age) rows (flag_row Summary) (out Age) refl) refl) refl) refl) refl) refl in
    (out Summary, (hits, (sessions, (explain, (json, (live, (age, tt)))))))

-- ---- all defaults

-- the id is none of an option's
abbrev pub IsOther : Text → Type 0
IsOther id = (o : OptionName) → bytes_eq (name_of o) id ≡ false

-- no option's default has another id
others_stay : (id : Text) (rows : List Row) → IsOther id → find_row id (udp_filled rows) ≡ find_row id rows
others_stay id rows other = id_keeps id Udp (transient_filled rows) (other Udp) ∙ id_keeps id Transient (established_filled rows) (other Transient)
    ∙ id_keeps id Established (workers_filled rows) (other Established) ∙ id_keeps id Workers rows (other Workers)

-- where no flag was given, the options get their defaults, and each flag a row
pub all_filled : (rows : List Row) → ((f : FlagName) → IsOther (flag_id f)) → ((f : FlagName) → find_row (flag_id f) rows ≡ None)
    → fold with_default rows top.rules ≡ udp_filled rows ++ flag_rows
all_filled rows other none = each_keeps files _
    (none_keeps policy_filled refl, (none_keeps capture_filled refl, (none_keeps (filled help_rule) refl, (none_keeps (filled version_rule) refl, tt))))
    ∙ ap (λ all. fold with_default all (map flag_filled flags)) (each_keeps others (udp_filled rows) (
      none_keeps (value_filled tables_id) refl,
      (
        none_keeps interface_filled refl,
        (
          none_keeps (value_filled only_id) refl,
          (
            none_keeps (value_filled drops_id) refl,
            (none_keeps (value_filled passes_id) refl, (none_keeps (value_filled expect_id) refl, (none_keeps (value_filled shard_id) refl, tt))),
          ),
        ),
      ),
    ))
    ∙ flags_added flags (udp_filled rows) (all_left_out (udp_filled rows)
    (λ f. has_none (flag_id f) (udp_filled rows) (others_stay (flag_id f) rows (other f) ∙ none f)))

-- a row is found among the first rows, or else among those behind
pub find_both : (id : Text) (rows others : List Row) → find_row id (rows ++ others) ≡ option_or (find_row id rows) (find_row id others)
find_both id rows others = rw find-append refl

pub or_nothing : (found other : Option Row) → other ≡ None → option_or found other ≡ found
or_nothing found other none = rw none (or_none found)

-- what is found in the end: an option's row or its default, a flag's default, and what else the words gave
no_flag_named : (o : OptionName) → find_row (name_of o) flag_rows ≡ None
no_flag_named Workers = refl
no_flag_named Established = refl
no_flag_named Transient = refl
no_flag_named Udp = refl

pub option_filled : (o : OptionName) (rows : List Row) → find_row (name_of o) (udp_filled rows ++ flag_rows) ≡ option_or (find_row (name_of o) rows) (Some (default_row o))
option_filled o rows = find_both (name_of o) (udp_filled rows) flag_rows ∙ or_nothing _ _ (no_flag_named o) ∙ filled_by o rows

pub flag_filled_in : (f : FlagName) (rows : List Row) → IsOther (flag_id f) → find_row (flag_id f) rows ≡ None → find_row (flag_id f) (udp_filled rows ++ flag_rows) ≡ Some (flag_row f)
flag_filled_in f rows other none = find_both (flag_id f) (udp_filled rows) flag_rows ∙ ap (λ found. option_or found (find_row (flag_id f) flag_rows)) (others_stay (flag_id f) rows other ∙ none) ∙ here f
  where
    here : (f : FlagName) → find_row (flag_id f) flag_rows ≡ Some (flag_row f)
    here Summary = refl
    here Hits = refl
    here Sessions = refl
    here Explain = refl
    here JsonLines = refl
    here Live = refl
    here Age = refl

pub other_left : (id : Text) (rows : List Row) → IsOther id → find_row id flag_rows ≡ None → find_row id (udp_filled rows ++ flag_rows) ≡ find_row id rows
other_left id rows other none = find_both id (udp_filled rows) flag_rows ∙ or_nothing _ _ none ∙ others_stay id rows other
