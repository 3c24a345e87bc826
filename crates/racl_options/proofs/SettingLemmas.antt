-- Words that set options, and name captures of interfaces and files, as a user writes them, ask for what they say.
use Rattle.std.proofs.Common.{◌≡◌, ◌∙◌, ◌++◌, ◌==◌, ◌+◌, ◌||◌, ◌≤◌, ◌<◌, ◌^◌, ap, ap₂, arith, cond, refl, rules as common_rules, subst, suc, sym, ℕ, Bool, true, false, List, [], ◌∷◌, map, append-nil, append_assoc, Option, Some, None, codes}
use Rattle.std.specs.List.{All, flat_map, fold}
use Rattle.std.specs.Option.{option_or}
use Rattle.std.specs.Prelude.{count_by, option_and_then, option_map, pos, slice_get}
use Rattle.std.specs.Str.{bytes_eq}
use Rattle.std.specs.Str.Parse.{IsNumeral, without_leading_plus}
use Rattle.std.proofs.lemmas.Bool.{eqb-true, ne_eqb}
use Rattle.std.proofs.lemmas.Int.{ints}
use Rattle.std.proofs.lemmas.List.Sums.{sum_by-cons}
use Rattle.std.proofs.lemmas.Slice.Eq.{bytes_eq-Decides}
use Rattle.std.proofs.lemmas.Str.Parse.{digit_from_value}
use Rattle.clap.specs.Faults.{walk_fault}
use Rattle.clap.specs.Walk.{Held, has_row, nothing_held, row_text, settled, walked, with_default}
use Rattle.clap.specs.Words.{IsSignedIn, Row, Text, matches_of, without_minus}
use Rattle.clap.specs.declared.builder.value_parser.ValueParser.TheVariants.{Signed}
use Rattle.clap.proofs.ValueTestLemmas.{Accepts-accepts}
use Rattle.racl_options.specs.Asking.{AskForRun, can_be_live}
use Rattle.racl_options.specs.CommandLine.{IsInRange, OptionName, Workers, Established, Transient, Udp, Spells, default_of, has_flag, most_of, name_of, number_of, racl, values_at}
use Rattle.racl_options.specs.Selections.{FlagName, Summary, Hits, Sessions, Explain, JsonLines, Live, Age, flag_id, is_given, lines_by, shown_by}
use Rattle.racl_options.specs.Sizes.{size_by}
use Rattle.racl_options.specs.Options.{AreNames, AreSettings, Setting, Use, asked_as, sets, value_at, values_of, words_as}
use Rattle.racl_options.specs.Origins.{Name, OriginFacts}
use Rattle.racl_options.specs.inner.Commands.{capture_id, drops_id, expect_id, interface_id, only_id, passes_id, policy_id, shard_id, tables_id}
use Rattle.racl_options.proofs.NameLemmas.{plain_uses}
use Rattle.racl_options.proofs.NameWalks.{Ends, has_row_behind, names_end, rows_of_names, rows_of_uses, uses_go_on, words_of_use}
use Rattle.racl_options.proofs.SettingWalks.{AreNew, GoesOn, Holds, IsFit, between, default_row, row_of, settings_go_on, top, words_of}
use Rattle.racl_options.proofs.SettingDefaults.{IsOther, all_filled, end_fault, ends_well, fault_is, find_both, find_row, flag_filled_in, flag_row, flag_rows, option_filled, or_nothing, other_left, udp_filled}

-- ---- settings one by one

-- how often they set an option
abbrev times_set : OptionName → List Setting → ℕ
times_set option [] = 0
times_set option (s ∷ rest) = cond (sets option s) 1 0 + times_set option rest

times_counted : (option : OptionName) (ss : List Setting) → count_by (sets option) ss ≡ times_set option ss
times_counted option [] = refl
times_counted option (s ∷ rest) = sum_by-cons (λ (t : Setting). cond (sets option t) 1 0) s rest
    ∙ ap (λ n. cond (sets option s) 1 0 + n) (times_counted option rest)

abbrev AreInRange : List Setting → Type 0
AreInRange [] = Unit {0}
AreInRange (s ∷ rest) = IsInRange s.option s.value × AreInRange rest

in_range : (ss : List Setting) → All (λ s. IsInRange s.option s.value) ss → AreInRange ss
in_range [] all = tt
in_range (s ∷ rest) all = (all 0 s (omega arith), in_range rest (λ k d inside. all (suc k) d (omega (arith, inside))))

-- ---- values

-- a number's text doesn't begin with a minus
plain_value : (d : ℕ) (ds : Text) → IsNumeral 10 (without_leading_plus (d ∷ ds)) → (d == 45) ≡ false
plain_value d ds numeral = go (d == 43) refl
  where
    go : (b : Bool) → (d == 43) ≡ b → (d == 45) ≡ false
    go true plus =
        let is : d ≡ 43 = eqb-true d 43 plus in
        ne_eqb d 45 (λ e. omega arith)
    go false other =
        let digits : IsNumeral 10 (d ∷ ds) = rw other at numeral in
        ne_eqb d 45 (λ e. omega (arith, digit_from_value d digits.1.0))

most_fits : (o : OptionName) → most_of o < 2 ^ 63
most_fits Workers = omega arith
most_fits Established = omega arith
most_fits Transient = omega arith
most_fits Udp = omega arith

value_in_bounds : (o : OptionName) (d : ℕ) (ds : Text) → IsInRange o (d ∷ ds) → (d == 45) ≡ false → IsSignedIn (pos 1) (pos (most_of o)) (d ∷ ds)
value_in_bounds o d ds range plain =
    let fits = most_fits o in
    rw plain (range.0, record { sfits = omega arith }, omega (arith, ints), omega (arith, ints))

fit_value : (o : OptionName) (v : Text) → IsInRange o v → IsFit o v
fit_value o [] range =
    let none : 0 < 0 = range.0.0 in
    absurd (omega arith)
fit_value o (d ∷ ds) range =
    let plain = plain_value d ds range.0 in
    (Accepts-accepts false (Signed (pos 1) (pos (most_of o))) (d ∷ ds) (value_in_bounds o d ds range plain), (d, ds, refl, plain))

plain_text : (o : OptionName) (v : Text) → IsInRange o v → without_minus v ≡ v
plain_text o [] range = refl
plain_text o (d ∷ ds) range = rw (plain_value d ds range.0) refl

-- the text of an option is its setting's, or its default
text_is : (o : OptionName) (ss : List Setting) → AreInRange ss → option_and_then row_text (option_or (find_row (name_of o) (map row_of ss)) (Some (default_row o))) ≡ Some (value_at o ss)
text_is Workers [] range = refl
text_is Established [] range = refl
text_is Transient [] range = refl
text_is Udp [] range = refl
text_is o (s ∷ rest) range = go (sets o s) (text_is o rest range.1)
  where
    go : (b : Bool) → option_and_then row_text (option_or (find_row (name_of o) (map row_of rest)) (Some (default_row o))) ≡ Some (value_at o rest)
        → option_and_then row_text (option_or (cond b (Some (row_of s)) (find_row (name_of o) (map row_of rest))) (Some (default_row o))) ≡ Some (cond b s.value (value_at o rest))
    go true next = ap Some (plain_text s.option s.value range.0)
    go false next = next

-- options of one name have one range
most_by : Text → ℕ
most_by name = cond (bytes_eq name (codes "workers")) 16 4294967295

most_is : (o : OptionName) → most_of o ≡ most_by (name_of o)
unfolding most_by
most_is Workers = refl
most_is Established = refl
most_is Transient = refl
most_is Udp = refl

same_range : (a b : OptionName) (v : Text) → bytes_eq (name_of a) (name_of b) ≡ true → IsInRange a v → IsInRange b v
same_range a b v same range =
    let most : most_of a ≡ most_of b = most_is a ∙ ap most_by ((bytes_eq-Decides _ _).0 same) ∙ sym (most_is b) in
    (range.0, range.1, omega arith)

default_in_range : (o : OptionName) → IsInRange o (default_of o)
default_in_range Workers = search common_rules
default_in_range Established = search common_rules
default_in_range Transient = search common_rules
default_in_range Udp = search common_rules

value_in_range : (o : OptionName) (ss : List Setting) → AreInRange ss → IsInRange o (value_at o ss)
value_in_range o [] range = default_in_range o
value_in_range o (s ∷ rest) range = go (sets o s) refl (value_in_range o rest range.1)
  where
    go : (b : Bool) → sets o s ≡ b → IsInRange o (value_at o rest) → IsInRange o (cond b s.value (value_at o rest))
    go true same next = same_range s.option o s.value same range.0
    go false other next = next

-- how many rows have the id
abbrev rows_with : Text → List Row → ℕ
rows_with id [] = 0
rows_with id (r ∷ rest) = cond (bytes_eq r.id id) 1 0 + rows_with id rest

rows_with-append : (id : Text) (rows : List Row) (r : Row) → rows_with id (rows ++ r ∷ []) ≡ rows_with id rows + cond (bytes_eq r.id id) 1 0
rows_with-append id [] r = omega arith
rows_with-append id (x ∷ rest) r = omega (arith, rows_with-append id rest r)

no_row : (id : Text) (rows : List Row) → rows_with id rows ≡ 0 → has_row id rows ≡ false
no_row id [] none = refl
no_row id (r ∷ rest) none = go (bytes_eq r.id id) none (no_row id rest)
  where
    go : (b : Bool) → cond b 1 0 + rows_with id rest ≡ 0 → (rows_with id rest ≡ 0 → has_row id rest ≡ false) → (b || has_row id rest) ≡ false
    go true some next = absurd (omega arith)
    go false none next = next (omega arith)

same_name : (o : OptionName) → bytes_eq (name_of o) (name_of o) ≡ true
same_name Workers = refl
same_name Established = refl
same_name Transient = refl
same_name Udp = refl

new_settings : (ss : List Setting) (rows : List Row) → ((o : OptionName) → rows_with (name_of o) rows + times_set o ss ≤ 1) → AreInRange ss → AreNew rows ss
new_settings [] rows once range = tt
new_settings (s ∷ rest) rows once range =
    let here : rows_with (name_of s.option) rows + (1 + times_set s.option rest) ≤ 1 = rw (same_name s.option) at (once s.option) in (
      no_row (name_of s.option) rows (omega arith),
      fit_value s.option s.value range.0,
      new_settings rest (rows ++ row_of s ∷ []) (λ o. omega (arith, once o, rows_with-append (name_of o) rows (row_of s))) range.1,
    )

-- ---- what isn't an option's

no_interface : IsOther interface_id
no_interface Workers = refl
no_interface Established = refl
no_interface Transient = refl
no_interface Udp = refl

no_policy : IsOther policy_id
no_policy Workers = refl
no_policy Established = refl
no_policy Transient = refl
no_policy Udp = refl

no_capture : IsOther capture_id
no_capture Workers = refl
no_capture Established = refl
no_capture Transient = refl
no_capture Udp = refl

no_size : IsOther tables_id
no_size Workers = refl
no_size Established = refl
no_size Transient = refl
no_size Udp = refl

no_only : IsOther only_id
no_only Workers = refl
no_only Established = refl
no_only Transient = refl
no_only Udp = refl

no_drops : IsOther drops_id
no_drops Workers = refl
no_drops Established = refl
no_drops Transient = refl
no_drops Udp = refl

no_passes : IsOther passes_id
no_passes Workers = refl
no_passes Established = refl
no_passes Transient = refl
no_passes Udp = refl

no_expect : IsOther expect_id
no_expect Workers = refl
no_expect Established = refl
no_expect Transient = refl
no_expect Udp = refl

no_shard : IsOther shard_id
no_shard Workers = refl
no_shard Established = refl
no_shard Transient = refl
no_shard Udp = refl

no_flag : (f : FlagName) → IsOther (flag_id f)
no_flag Summary Workers = refl
no_flag Summary Established = refl
no_flag Summary Transient = refl
no_flag Summary Udp = refl
no_flag Hits Workers = refl
no_flag Hits Established = refl
no_flag Hits Transient = refl
no_flag Hits Udp = refl
no_flag Sessions Workers = refl
no_flag Sessions Established = refl
no_flag Sessions Transient = refl
no_flag Sessions Udp = refl
no_flag Explain Workers = refl
no_flag Explain Established = refl
no_flag Explain Transient = refl
no_flag Explain Udp = refl
no_flag JsonLines Workers = refl
no_flag JsonLines Established = refl
no_flag JsonLines Transient = refl
no_flag JsonLines Udp = refl
no_flag Live Workers = refl
no_flag Live Established = refl
no_flag Live Transient = refl
no_flag Live Udp = refl
no_flag Age Workers = refl
no_flag Age Established = refl
no_flag Age Transient = refl
no_flag Age Udp = refl

no_other_row : (id : Text) (ss : List Setting) → IsOther id → has_row id (map row_of ss) ≡ false
no_other_row id [] other = refl
no_other_row id (s ∷ rest) other = rw (other s.option) (no_other_row id rest other)

none_found : (id : Text) (ss : List Setting) → IsOther id → find_row id (map row_of ss) ≡ None
none_found id [] other = refl
none_found id (s ∷ rest) other = rw (other s.option) (none_found id rest other)

abbrev other_rows : List Use → List Text → List Row
other_rows uses names = rows_of_uses uses ++ rows_of_names names

-- rows of uses have neither name's id
no_name_in_uses : (us : List Use) (rows : List Row) → has_row policy_id rows ≡ false → has_row capture_id rows ≡ false
    → (has_row policy_id (rows ++ rows_of_uses us) ≡ false) × (has_row capture_id (rows ++ rows_of_uses us) ≡ false)
no_name_in_uses [] rows policy capture = (rw (append-nil rows) policy, rw (append-nil rows) capture)
no_name_in_uses (u ∷ us) rows policy capture = (has_row_behind policy_id rows _ policy refl, has_row_behind capture_id rows _ capture refl)

-- and none has the id of what is no file's
abbrev IsNoFile : Text → Type 0
IsNoFile id = (bytes_eq interface_id id ≡ false) × (bytes_eq policy_id id ≡ false) × (bytes_eq capture_id id ≡ false)

none_of_files : (id : Text) (uses : List Use) (names : List Text) → IsNoFile id → find_row id (other_rows uses names) ≡ None
none_of_files id [] [] unlike = refl
none_of_files id [] (p ∷ []) unlike = rw unlike.1 refl
none_of_files id [] (p ∷ c ∷ names) unlike = rw (unlike.1, unlike.2) refl
none_of_files id (u ∷ us) [] unlike = rw unlike.0 refl
none_of_files id (u ∷ us) (p ∷ []) unlike = rw (unlike.0, unlike.1) refl
none_of_files id (u ∷ us) (p ∷ c ∷ names) unlike = rw (unlike.0, unlike.1, unlike.2) refl

no_file : (o : OptionName) → IsNoFile (name_of o)
no_file Workers = (refl, refl, refl)
no_file Established = (refl, refl, refl)
no_file Transient = (refl, refl, refl)
no_file Udp = (refl, refl, refl)

flag_is_no_file : (f : FlagName) → IsNoFile (flag_id f)
flag_is_no_file Summary = (refl, refl, refl)
flag_is_no_file Hits = (refl, refl, refl)
flag_is_no_file Sessions = (refl, refl, refl)
flag_is_no_file Explain = (refl, refl, refl)
flag_is_no_file JsonLines = (refl, refl, refl)
flag_is_no_file Live = (refl, refl, refl)
flag_is_no_file Age = (refl, refl, refl)

option_found : (o : OptionName) (rows : List Row) (uses : List Use) (names : List Text) → find_row (name_of o) (rows ++ other_rows uses names) ≡ find_row (name_of o) rows
option_found o rows uses names = find_both (name_of o) rows (other_rows uses names) ∙ or_nothing (find_row (name_of o) rows) _ (none_of_files (name_of o) uses names (no_file o))

other_found : (id : Text) (ss : List Setting) (uses : List Use) (names : List Text) → IsOther id
    → find_row id (map row_of ss ++ other_rows uses names) ≡ find_row id (other_rows uses names)
other_found id ss uses names other = find_both id (map row_of ss) (other_rows uses names)
    ∙ ap (λ found. option_or found (find_row id (other_rows uses names))) (none_found id ss other)

policy_is : (uses : List Use) (names : List Text) → option_and_then (λ r. slice_get r.values 0) (find_row policy_id (other_rows uses names)) ≡ slice_get names 0
policy_is [] [] = refl
policy_is [] (p ∷ []) = refl
policy_is [] (p ∷ c ∷ names) = refl
policy_is (u ∷ us) [] = refl
policy_is (u ∷ us) (p ∷ []) = refl
policy_is (u ∷ us) (p ∷ c ∷ names) = refl

capture_is : (uses : List Use) (names : List Text) → option_and_then (λ r. slice_get r.values 0) (find_row capture_id (other_rows uses names)) ≡ slice_get names 1
capture_is [] [] = refl
capture_is [] (p ∷ []) = refl
capture_is [] (p ∷ c ∷ names) = refl
capture_is (u ∷ us) [] = refl
capture_is (u ∷ us) (p ∷ []) = refl
capture_is (u ∷ us) (p ∷ c ∷ names) = refl

captures_are : (uses : List Use) (names : List Text) → option_map (λ r. r.values) (find_row interface_id (other_rows uses names)) ≡ values_of uses
captures_are [] [] = refl
captures_are [] (p ∷ []) = refl
captures_are [] (p ∷ c ∷ names) = refl
captures_are (u ∷ us) [] = refl
captures_are (u ∷ us) (p ∷ []) = refl
captures_are (u ∷ us) (p ∷ c ∷ names) = refl

-- ---- all words

-- words that set options and name files as a user writes them ask for what they say
words_ask : (program : Text) (ss : List Setting) (uses : List Use) (names : List Text) (origin : OriginFacts) → AreSettings ss → AreNames names → Name (slice_get names 0) (slice_get names 1) (values_of uses) origin
    → AskForRun (program ∷ words_as ss uses names) (asked_as ss origin)
unfolding walk_fault can_be_live
words_ask program ss uses names origin are named says = record {
  faultless = fault_is program words ∙ ap₂ end_fault faultless_walk walked_is ∙ ends_well ends.last ends.runs ends.settles;
  asks = record {
    options = record {
      workers = spelt Workers;
      established = spelt Established;
      transient = spelt Transient;
      udp = spelt Udp;
      tables = ap size_by (no_value tables_id no_size refl (refl, refl, refl));
      shown = ap₂ shown_by (no_flag_given Summary) (no_value only_id no_only refl (refl, refl, refl));
      lines = ap₂ lines_by (no_flag_given JsonLines) (no_flag_given Explain);
      hits = no_flag_given Hits;
      sessions = no_flag_given Sessions;
      live = no_flag_given Live;
      ages = no_flag_given Age;
    };
    names = rw (policy_named, capture_named, captures_named) says;
    drops = no_value drops_id no_drops refl (refl, refl, refl);
    passes = no_value passes_id no_passes refl (refl, refl, refl);
    expected = no_value expect_id no_expect refl (refl, refl, refl);
    shard = rw (no_value shard_id no_shard refl (refl, refl, refl)) tt;
    fit = refl;
  };
}
  where
    words : List Text
    words = words_as ss uses names

    within : AreInRange ss
    within = in_range ss are.in_range

    run : (e : Held) × Holds (map row_of ss) e × GoesOn nothing_held (flat_map words_of ss) e
    run = settings_go_on ss [] nothing_held (refl, refl, refl) (new_settings ss [] (λ o. let once = are.once o in let counted = times_counted o ss in omega arith) within)

    used : (e : Held) × Holds (map row_of ss ++ rows_of_uses uses) e × GoesOn run.0 (flat_map words_of_use uses) e
    used = uses_go_on uses (map row_of ss) run.0 (no_other_row interface_id ss no_interface) run.1 (plain_uses uses _ _ origin says)

    apart : (has_row policy_id (map row_of ss ++ rows_of_uses uses) ≡ false) × (has_row capture_id (map row_of ss ++ rows_of_uses uses) ≡ false)
    apart = no_name_in_uses uses (map row_of ss) (no_other_row policy_id ss no_policy) (no_other_row capture_id ss no_capture)

    ends : Ends (map row_of ss ++ rows_of_uses uses) names used.0
    ends = names_end (map row_of ss ++ rows_of_uses uses) names used.0 used.1 apart.0 apart.1 named

    walked_is : fold (walked top.rules []) (between nothing_held) words ≡ ends.last
    walked_is = run.2.0 (flat_map words_of_use uses ++ names) ∙ used.2.0 names ∙ ends.walks

    faultless_walk : walk_fault top [] (between nothing_held) words ≡ []
    faultless_walk = run.2.1 (flat_map words_of_use uses ++ names) ∙ used.2.1 names ∙ ends.passes

    given : List Row
    given = map row_of ss ++ other_rows uses names

    no_flag_row : (f : FlagName) → find_row (flag_id f) given ≡ None
    no_flag_row f = other_found (flag_id f) ss uses names (no_flag f) ∙ none_of_files (flag_id f) uses names (flag_is_no_file f)

    filled_rows : matches_of racl (program ∷ words) ≡ udp_filled given ++ flag_rows
    filled_rows = ap (λ w. fold with_default (settled top.rules w.held).rows top.rules) walked_is
        ∙ ap (λ rows. fold with_default rows top.rules) (ends.settled_to ∙ append_assoc (map row_of ss) (rows_of_uses uses) (rows_of_names names))
        ∙ all_filled given no_flag no_flag_row

    text : (o : OptionName) → (values_at (program ∷ words)).number (name_of o) ≡ Some (value_at o ss)
    text o = ap (λ rows. option_and_then row_text (find_row (name_of o) rows)) filled_rows
        ∙ ap (option_and_then row_text) (option_filled o given
        ∙ ap (λ found. option_or found (Some (default_row o))) (option_found o (map row_of ss) uses names)) ∙ text_is o ss within

    spelt : (o : OptionName) → Spells o ((values_at (program ∷ words)).number (name_of o)) (number_of (value_at o ss))
    spelt o =
        let range = value_in_range o ss within in
        (value_at o ss, text o, range, refl)

    other_row : (id : Text) → IsOther id → find_row id flag_rows ≡ None → find_row id (matches_of racl (program ∷ words)) ≡ find_row id (other_rows uses names)
    other_row id other none = ap (find_row id) filled_rows ∙ other_left id given other none ∙ other_found id ss uses names other

    first_in : (id : Text) (found : Option Row) → find_row id (matches_of racl (program ∷ words)) ≡ found
        → (values_at (program ∷ words)).first id ≡ option_and_then (λ r. slice_get r.values 0) found
    first_in id found = ap (option_and_then (λ (r : Row). slice_get r.values 0))

    no_value : (id : Text) → IsOther id → find_row id flag_rows ≡ None → IsNoFile id → (values_at (program ∷ words)).first id ≡ None
    no_value id other none unlike = first_in id None (other_row id other none ∙ none_of_files id uses names unlike)

    no_flag_given : (f : FlagName) → has_flag (values_at (program ∷ words)) f ≡ false
    no_flag_given f = ap is_given (first_in (flag_id f) (Some (flag_row f)) (ap (find_row (flag_id f)) filled_rows ∙ flag_filled_in f given (no_flag f) (no_flag_row f)))

    policy_named : (values_at (program ∷ words)).first policy_id ≡ slice_get names 0
    policy_named = first_in policy_id _ (other_row policy_id no_policy refl) ∙ policy_is uses names

    capture_named : (values_at (program ∷ words)).first capture_id ≡ slice_get names 1
    capture_named = first_in capture_id _ (other_row capture_id no_capture refl) ∙ capture_is uses names

    captures_named : (values_at (program ∷ words)).all interface_id ≡ values_of uses
    captures_named = ap (option_map (λ (r : Row). r.values)) (other_row interface_id no_interface refl) ∙ captures_are uses names

pub written_asks : (words : List Text) (program : Text) (ss : List Setting) (uses : List Use) (names : List Text) (origin : OriginFacts) → AreSettings ss → AreNames names
    → Name (slice_get names 0) (slice_get names 1) (values_of uses) origin → words ≡ program ∷ words_as ss uses names → AskForRun words (asked_as ss origin)
written_asks words program ss uses names origin are named says is =
    subst (λ ws. AskForRun ws (asked_as ss origin)) (sym is) (words_ask program ss uses names origin are named says)
