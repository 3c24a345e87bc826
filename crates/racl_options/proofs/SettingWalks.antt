-- How the command walks over words that set options.
use Rattle.std.proofs.Common.{◌≡◌, ◌∙◌, ◌++◌, ◌==◌, ◌||◌, ap, refl, subst, sym, ℕ, Bool, true, false, List, [], ◌∷◌, map, append-nil, append_assoc, Some, None, codes}
use Rattle.std.specs.List.{flat_map, fold}
use Rattle.std.specs.Prelude.{pos}
use Rattle.std.specs.Str.{bytes_eq}
use Rattle.clap.specs.Faults.{settle_fault, turn_fault, use_fault, walk_fault}
use Rattle.clap.specs.Simple.{Shape, filled, with_index}
use Rattle.clap.specs.ValueTests.{accepts}
use Rattle.clap.specs.Walk.{Held, Walk, at_row, has_row, idle, is_pending, more_values, option, reacted, settled, used, walked, with_values, without}
use Rattle.clap.specs.Words.{Row, Rule, Text, built}
use Rattle.clap.specs.declared.builder.value_parser.Reading.{Reading}
use Rattle.clap.specs.declared.builder.value_parser.Reading.TheVariants.{WithoutMinus}
use Rattle.clap.specs.declared.builder.value_parser.ValueParser.TheVariants.{Signed}
use Rattle.clap.specs.declared.parser.matches.ValueSource.TheVariants.{CommandLine, DefaultValue}
use Rattle.clap.proofs.OnLiterals.{clap_on_literals}
use Rattle.racl_options.specs.CommandLine.{OptionName, Workers, Established, Transient, Udp, default_of, file_rule, flag_rule, most_of, name_of, number_rule, racl}
use Rattle.racl_options.specs.Options.{Setting, words_with}
use Rattle.racl_options.specs.Selections.{FlagName}
use Rattle.racl_options.specs.inner.Commands.{capture_id, interface_rule, policy_id, value_rule}

abbrev pub top : Shape
top = (built racl).top

abbrev pub filled_rule : OptionName → Rule
filled_rule o = filled (number_rule o)

abbrev pub value_filled : Text → Rule
value_filled id = filled (value_rule id)

abbrev pub flag_filled : FlagName → Rule
flag_filled flag = filled (flag_rule flag)

abbrev pub interface_filled : Rule
interface_filled = filled interface_rule

abbrev pub policy_filled : Rule
policy_filled = with_index 1 (filled (file_rule policy_id))

abbrev pub capture_filled : Rule
capture_filled = with_index 2 (filled (file_rule capture_id))

-- ---- words

abbrev pub words_by : OptionName → Text → Bool → List Text
words_by o value in_one = words_with (name_of o) value in_one

abbrev pub words_of : Setting → List Text
words_of s = words_by s.option s.value s.in_one

-- ---- rows

-- the row of an option that was set
abbrev pub row_by : OptionName → Text → Row
row_by o v = record { id = name_of o; values = v ∷ []; count = None; source = Some CommandLine; reading = WithoutMinus }

abbrev pub row_of : Setting → Row
row_of s = row_by s.option s.value

abbrev pub default_row : OptionName → Row
default_row o = record { id = name_of o; values = default_of o ∷ []; count = None; source = Some DefaultValue; reading = WithoutMinus }

pub at_row_missing : (id : Text) (change : Row → List Row) (missing rows : List Row) → has_row id rows ≡ false → at_row id change missing rows ≡ rows ++ missing
at_row_missing id change missing [] none = refl
at_row_missing id change missing (r ∷ rest) none = go (bytes_eq r.id id) refl none (at_row_missing id change missing rest)
  where
    go : (b : Bool) → bytes_eq r.id id ≡ b → (bytes_eq r.id id || has_row id rest) ≡ false → (has_row id rest ≡ false → at_row id change missing rest ≡ rest ++ missing)
        → at_row id change missing (r ∷ rest) ≡ r ∷ rest ++ missing
    go true same absent next =
        let bad : true ≡ false = rw same at absent in
        cc
    go false other absent next = rw other (ap (λ rs. r ∷ rs) (next (rw other at absent)))

-- an id that has no row gets one
pub set_once : (id : Text) (how : Reading) (vs : List Text) (rows : List Row) → has_row id rows ≡ false
    → with_values id how CommandLine vs (without id rows)
    ≡ rows ++ (record { id = id; values = vs; count = None; source = Some CommandLine; reading = how }) ∷ []
set_once id how vs rows none = rw (at_row_missing id (λ _. []) [] rows none, append-nil rows)
    (at_row_missing id (more_values CommandLine vs) _ rows none)

used_once : (o : OptionName) (v : Text) (rows : List Row) → has_row (name_of o) rows ≡ false → used (filled_rule o) (v ∷ []) rows ≡ rows ++ row_by o v ∷ []
used_once Workers v = set_once (name_of Workers) WithoutMinus (v ∷ [])
used_once Established v = set_once (name_of Established) WithoutMinus (v ∷ [])
used_once Transient v = set_once (name_of Transient) WithoutMinus (v ∷ [])
used_once Udp v = set_once (name_of Udp) WithoutMinus (v ∷ [])

-- ---- one setting

-- between two settings
abbrev pub between : Held → Walk
between h = record { held = h; waiting = idle; position = 1; is_trailing = false; stopped = None }

pub one_word_walks : (o : OptionName) (v : Text) (h : Held)
    → walked top.rules [] (between h) (codes "--" ++ (name_of o ++ (codes "=" ++ v))) ≡ between (reacted top.rules (filled_rule o) (v ∷ []) h)
unfolding clap_on_literals
one_word_walks Workers v h = refl
one_word_walks Established v h = refl
one_word_walks Transient v h = refl
one_word_walks Udp v h = refl

abbrev named : OptionName → Held → Walk
named o h = record (between (record (settled top.rules h) { pending = Some (name_of o, []) })) { waiting = option (name_of o) }

abbrev given : OptionName → Text → Held → Held
given o v h = record (settled top.rules h) { pending = Some (name_of o, v ∷ []) }

name_walks : (o : OptionName) (h : Held) → walked top.rules [] (between h) (codes "--" ++ name_of o) ≡ named o h
unfolding clap_on_literals
name_walks Workers h = refl
name_walks Established h = refl
name_walks Transient h = refl
name_walks Udp h = refl

value_walks : (o : OptionName) (d : ℕ) (ds : Text) (h : Held) → (d == 45) ≡ false → walked top.rules [] (named o h) (d ∷ ds) ≡ between (given o (d ∷ ds) h)
unfolding clap_on_literals
value_walks Workers d ds h plain = simp plain refl
value_walks Established d ds h plain = simp plain refl
value_walks Transient d ds h plain = simp plain refl
value_walks Udp d ds h plain = simp plain refl

one_word_passes : (o : OptionName) (v : Text) (h : Held) → settle_fault top.rules false h ≡ [] → use_fault false (filled_rule o) (v ∷ []) (settled top.rules h).rows ≡ []
    → turn_fault top [] (between h) (codes "--" ++ (name_of o ++ (codes "=" ++ v))) ≡ []
unfolding clap_on_literals
one_word_passes Workers v h settles uses = rw (settles, uses) refl
one_word_passes Established v h settles uses = rw (settles, uses) refl
one_word_passes Transient v h settles uses = rw (settles, uses) refl
one_word_passes Udp v h settles uses = rw (settles, uses) refl

name_passes : (o : OptionName) (h : Held) → settle_fault top.rules false h ≡ [] → turn_fault top [] (between h) (codes "--" ++ name_of o) ≡ []
unfolding clap_on_literals
name_passes Workers h settles = rw settles refl
name_passes Established h settles = rw settles refl
name_passes Transient h settles = rw settles refl
name_passes Udp h settles = rw settles refl

value_passes : (o : OptionName) (d : ℕ) (ds : Text) (h : Held) → (d == 45) ≡ false → turn_fault top [] (named o h) (d ∷ ds) ≡ []
unfolding clap_on_literals
value_passes Workers d ds h plain = simp plain refl
value_passes Established d ds h plain = simp plain refl
value_passes Transient d ds h plain = simp plain refl
value_passes Udp d ds h plain = simp plain refl

use_passes : (o : OptionName) (v : Text) (rows : List Row) → has_row (name_of o) rows ≡ false → accepts false (Signed (pos 1) (pos (most_of o))) v ≡ true
    → use_fault false (filled_rule o) (v ∷ []) rows ≡ []
use_passes Workers v rows none accepted = rw (none, accepted) refl
use_passes Established v rows none accepted = rw (none, accepted) refl
use_passes Transient v rows none accepted = rw (none, accepted) refl
use_passes Udp v rows none accepted = rw (none, accepted) refl

given_rows : (o : OptionName) (v : Text) (h : Held) → (settled top.rules (given o v h)).rows ≡ used (filled_rule o) (v ∷ []) (settled top.rules h).rows
given_rows Workers v h = refl
given_rows Established v h = refl
given_rows Transient v h = refl
given_rows Udp v h = refl

given_passes : (o : OptionName) (v : Text) (h : Held) → settle_fault top.rules false (given o v h) ≡ use_fault false (filled_rule o) (v ∷ []) (settled top.rules h).rows
given_passes Workers v h = refl
given_passes Established v h = refl
given_passes Transient v h = refl
given_passes Udp v h = refl

-- the rows that a held state comes to, where what is pending has no fault, and is no file
abbrev pub Holds : List Row → Held → Type 0
Holds rows h = ((settled top.rules h).rows ≡ rows) × (settle_fault top.rules false h ≡ []) × (is_pending policy_filled h.pending ≡ false)

no_file_given : (o : OptionName) (v : Text) (h : Held) → is_pending policy_filled (given o v h).pending ≡ false
no_file_given Workers v h = refl
no_file_given Established v h = refl
no_file_given Transient v h = refl
no_file_given Udp v h = refl

-- the walk goes on from one state as from another after some words, and finds no fault in them
abbrev pub GoesOn : Held → List Text → Held → Type 0
GoesOn h words e = ((rest : List Text) → fold (walked top.rules []) (between h) (words ++ rest) ≡ fold (walked top.rules []) (between e) rest)
    × ((rest : List Text) → walk_fault top [] (between h) (words ++ rest) ≡ walk_fault top [] (between e) rest)

-- the value is taken by the option, and is no flag
abbrev pub IsFit : OptionName → Text → Type 0
IsFit o v = (accepts false (Signed (pos 1) (pos (most_of o))) v ≡ true) × ((d : ℕ) × (ds : Text) × (v ≡ d ∷ ds) × ((d == 45) ≡ false))

one_word_goes_on : (o : OptionName) (v : Text) (h : Held) → settle_fault top.rules false h ≡ [] → use_fault false (filled_rule o) (v ∷ []) (settled top.rules h).rows ≡ []
    → GoesOn h (words_by o v true) (reacted top.rules (filled_rule o) (v ∷ []) h)
unfolding walk_fault
one_word_goes_on o v h settles uses = (
  (λ rest. ap (λ w. fold (walked top.rules []) w rest) (one_word_walks o v h)),
  (λ rest. rw (one_word_passes o v h settles uses, one_word_walks o v h) refl),
)

two_words_go_on : (o : OptionName) (d : ℕ) (ds : Text) (h : Held) → settle_fault top.rules false h ≡ [] → (d == 45) ≡ false
    → GoesOn h (words_by o (d ∷ ds) false) (given o (d ∷ ds) h)
unfolding walk_fault
two_words_go_on o d ds h settles plain = (
  (λ rest. ap (λ w. fold (walked top.rules []) (walked top.rules [] w (d ∷ ds)) rest) (name_walks o h)
      ∙ ap (λ w. fold (walked top.rules []) w rest) (value_walks o d ds h plain)),
  (λ rest. rw (name_passes o h settles, name_walks o h, value_passes o d ds h plain, value_walks o d ds h plain) refl),
)

-- a setting adds its row
setting_goes_on : (o : OptionName) (v : Text) (in_one : Bool) (rows : List Row) (h : Held) → Holds rows h → has_row (name_of o) rows ≡ false → IsFit o v
    → (e : Held) × Holds (rows ++ row_by o v ∷ []) e × GoesOn h (words_by o v in_one) e
setting_goes_on o v true rows h holds none fit =
    let uses : use_fault false (filled_rule o) (v ∷ []) (settled top.rules h).rows ≡ [] = rw holds.0 (use_passes o v rows none fit.0) in (
      reacted top.rules (filled_rule o) (v ∷ []) h,
      (rw holds.0 (used_once o v rows none), refl, refl),
      one_word_goes_on o v h holds.1 uses,
    )
setting_goes_on o v false rows h holds none fit =
    let uses : use_fault false (filled_rule o) (v ∷ []) (settled top.rules h).rows ≡ [] = rw holds.0 (use_passes o v rows none fit.0) in (
      given o v h,
      (given_rows o v h ∙ rw holds.0 (used_once o v rows none), given_passes o v h ∙ uses, no_file_given o v h),
      subst (λ w. GoesOn h (words_by o w false) (given o w h)) (sym fit.1.2) (two_words_go_on o fit.1.0 fit.1.1 h holds.1 fit.1.3),
    )

-- ---- all settings

-- each setting in turn is of an option that has no row yet
abbrev pub AreNew : List Row → List Setting → Type 0
AreNew rows [] = Unit {0}
AreNew rows (s ∷ rest) = (has_row (name_of s.option) rows ≡ false) × IsFit s.option s.value × AreNew (rows ++ row_of s ∷ []) rest

pub settings_go_on : (ss : List Setting) (rows : List Row) (h : Held) → Holds rows h → AreNew rows ss
    → (e : Held) × Holds (rows ++ map row_of ss) e × GoesOn h (flat_map words_of ss) e
settings_go_on [] rows h holds new = (h, subst (λ rs. Holds rs h) (sym (append-nil rows)) holds, ((λ rest. refl), (λ rest. refl)))
settings_go_on (s ∷ rest) rows h holds new =
    let one = setting_goes_on s.option s.value s.in_one rows h holds new.0 new.1 in
    let all = settings_go_on rest (rows ++ row_of s ∷ []) one.0 one.1 new.2 in (
      all.0,
      subst (λ rs. Holds rs all.0) (append_assoc rows (row_of s ∷ []) (map row_of rest)) all.1,
      (
        (λ words. ap (λ ws. fold (walked top.rules []) (between h) ws) (append_assoc (words_of s) (flat_map words_of rest) words)
            ∙ one.2.0 (flat_map words_of rest ++ words) ∙ all.2.0 words),
        (λ words. ap (λ ws. walk_fault top [] (between h) ws) (append_assoc (words_of s) (flat_map words_of rest) words)
            ∙ one.2.1 (flat_map words_of rest ++ words) ∙ all.2.1 words),
      ),
    )
