-- How the command walks over the captures of interfaces and the names of files, which come last.
use Rattle.std.proofs.Common.{◌≡◌, ◌∙◌, ◌++◌, ◌==◌, ◌||◌, ap, append-nil, append_assoc, refl, subst, sym, inl, inr, ℕ, Bool, true, false, List, [], ◌∷◌, map, Some, None, codes}
use Rattle.std.specs.List.{flat_map, fold}
use Rattle.std.specs.Str.{bytes_eq}
use Rattle.std.proofs.lemmas.Bool.{ne_eqb}
use Rattle.clap.specs.Faults.{settle_fault, turn_fault, use_fault, walk_fault}
use Rattle.clap.specs.Walk.{Held, Walk, at_row, has_row, is_pending, idle, more_values, option, reacted, reading_by, settled, used, walked}
use Rattle.clap.specs.Words.{Row, Text}
use Rattle.clap.specs.declared.parser.matches.ValueSource.TheVariants.{CommandLine}
use Rattle.clap.proofs.OnLiterals.{clap_on_literals}
use Rattle.racl_options.specs.Options.{AreNames, IsName, Use, words_with}
use Rattle.racl_options.specs.inner.Commands.{capture_id, interface_id, policy_id}
use Rattle.racl_options.proofs.SettingWalks.{GoesOn, Holds, at_row_missing, between, capture_filled, interface_filled, policy_filled, set_once, top}

-- ---- words

abbrev pub use_by : Text → Bool → List Text
use_by value in_one = words_with interface_id value in_one

abbrev pub words_of_use : Use → List Text
words_of_use u = use_by u.value u.in_one

-- ---- rows

abbrev pub interface_row : List Text → Row
interface_row values = record {
  id = interface_id;
  values = values;
  count = None;
  source = Some CommandLine;
  reading = reading_by interface_filled;
}

abbrev pub policy_row : Text → Row
policy_row name = record {
  id = policy_id;
  values = name ∷ [];
  count = None;
  source = Some CommandLine;
  reading = reading_by policy_filled;
}

abbrev pub capture_row : Text → Row
capture_row name = record {
  id = capture_id;
  values = name ∷ [];
  count = None;
  source = Some CommandLine;
  reading = reading_by capture_filled;
}

abbrev pub rows_of_uses : List Use → List Row
rows_of_uses [] = []
rows_of_uses (u ∷ rest) = interface_row (map (λ v. v.value) (u ∷ rest)) ∷ []

abbrev pub rows_of_names : List Text → List Row
rows_of_names [] = []
rows_of_names (policy ∷ []) = policy_row policy ∷ []
rows_of_names (policy ∷ capture ∷ rest) = policy_row policy ∷ capture_row capture ∷ []

-- ---- one use of `--interface`

abbrev given : Text → Held → Held
given v h = record (settled top.rules h) { pending = Some (interface_id, v ∷ []) }

abbrev named : Held → Walk
named h = record (between (record (settled top.rules h) { pending = Some (interface_id, []) })) { waiting = option interface_id }

one_word_walks : (v : Text) (h : Held)
    → walked top.rules [] (between h) (codes "--" ++ (interface_id ++ (codes "=" ++ v))) ≡ between (reacted top.rules interface_filled (v ∷ []) h)
unfolding clap_on_literals
one_word_walks v h = refl

name_walks : (h : Held) → walked top.rules [] (between h) (codes "--" ++ interface_id) ≡ named h
unfolding clap_on_literals
name_walks h = refl

value_walks : (d : ℕ) (ds : Text) (h : Held) → (d == 45) ≡ false → walked top.rules [] (named h) (d ∷ ds) ≡ between (given (d ∷ ds) h)
unfolding clap_on_literals
value_walks d ds h plain = simp plain refl

one_word_passes : (v : Text) (h : Held) → settle_fault top.rules false h ≡ []
    → turn_fault top [] (between h) (codes "--" ++ (interface_id ++ (codes "=" ++ v))) ≡ []
unfolding clap_on_literals
one_word_passes v h settles = rw settles refl

name_passes : (h : Held) → settle_fault top.rules false h ≡ [] → turn_fault top [] (between h) (codes "--" ++ interface_id) ≡ []
unfolding clap_on_literals
name_passes h settles = rw settles refl

value_passes : (d : ℕ) (ds : Text) (h : Held) → (d == 45) ≡ false → turn_fault top [] (named h) (d ∷ ds) ≡ []
unfolding clap_on_literals
value_passes d ds h plain = simp plain refl

given_rows : (v : Text) (h : Held) → (settled top.rules (given v h)).rows ≡ used interface_filled (v ∷ []) (settled top.rules h).rows
given_rows v h = refl

given_passes : (v : Text) (h : Held) → settle_fault top.rules false (given v h) ≡ []
given_passes v h = refl

-- the value doesn't begin with a minus
abbrev pub IsPlainValue : Text → Type 0
IsPlainValue v = (d : ℕ) × (ds : Text) × (v ≡ d ∷ ds) × ((d == 45) ≡ false)

-- a use changes the rows
use_goes_on : (v : Text) (in_one : Bool) (rows after : List Row) (h : Held) → Holds rows h → used interface_filled (v ∷ []) rows ≡ after → IsPlainValue v
    → (e : Held) × Holds after e × GoesOn h (use_by v in_one) e
unfolding walk_fault
use_goes_on v true rows after h holds becomes plain = (
  reacted top.rules interface_filled (v ∷ []) h,
  (rw holds.0 becomes, refl, refl),
  (
    (λ rest. ap (λ w. fold (walked top.rules []) w rest) (one_word_walks v h)),
    (λ rest. rw (one_word_passes v h holds.1, one_word_walks v h) refl),
  ),
)
use_goes_on v false rows after h holds becomes plain = (
  given v h,
  (given_rows v h ∙ rw holds.0 becomes, given_passes v h, refl),
  subst (λ w. GoesOn h (use_by w false) (given w h)) (sym plain.2) (
    (λ rest. ap (λ w. fold (walked top.rules []) (walked top.rules [] w (plain.0 ∷ plain.1)) rest) (name_walks h)
        ∙ ap (λ w. fold (walked top.rules []) w rest) (value_walks plain.0 plain.1 h plain.3)),
    (λ rest. rw (name_passes h holds.1, name_walks h, value_passes plain.0 plain.1 h plain.3, value_walks plain.0 plain.1 h plain.3) refl),
  ),
)

-- ---- all uses

-- a row that is the last, and the first with its id, is changed in its place
at_last_row : (id : Text) (change : Row → List Row) (missing rows : List Row) (r : Row) → has_row id rows ≡ false → bytes_eq r.id id ≡ true
    → at_row id change missing (rows ++ r ∷ []) ≡ rows ++ change r
at_last_row id change missing [] r none same = rw same (append-nil (change r))
at_last_row id change missing (x ∷ rest) r none same = go (bytes_eq x.id id) refl none (at_last_row id change missing rest r)
  where
    go : (b : Bool) → bytes_eq x.id id ≡ b → (bytes_eq x.id id || has_row id rest) ≡ false
        → (has_row id rest ≡ false → bytes_eq r.id id ≡ true → at_row id change missing (rest ++ r ∷ []) ≡ rest ++ change r)
        → at_row id change missing (x ∷ rest ++ r ∷ []) ≡ x ∷ rest ++ change r
    go true here absent next =
        let bad : true ≡ false = rw here at absent in
        cc
    go false other absent next = rw other (ap (λ rs. x ∷ rs) (next (rw other at absent) same))

first_used : (v : Text) (rows : List Row) → has_row interface_id rows ≡ false → used interface_filled (v ∷ []) rows ≡ rows ++ interface_row (v ∷ []) ∷ []
first_used v rows none = at_row_missing interface_id (more_values CommandLine (v ∷ [])) _ rows none

used_again : (v : Text) (values : List Text) (rows : List Row) → has_row interface_id rows ≡ false
    → used interface_filled (v ∷ []) (rows ++ interface_row values ∷ []) ≡ rows ++ interface_row (values ++ v ∷ []) ∷ []
used_again v values rows none = at_last_row interface_id (more_values CommandLine (v ∷ [])) _ rows (interface_row values) none refl

abbrev pub ArePlain : List Use → Type 0
ArePlain [] = Unit {0}
ArePlain (u ∷ rest) = IsPlainValue u.value × ArePlain rest

further_uses_go_on : (us : List Use) (values : List Text) (rows : List Row) (h : Held) → has_row interface_id rows ≡ false
    → Holds (rows ++ interface_row values ∷ []) h → ArePlain us
    → (e : Held) × Holds (rows ++ interface_row (values ++ map (λ u. u.value) us) ∷ []) e × GoesOn h (flat_map words_of_use us) e
further_uses_go_on [] values rows h none holds plain =
    (h, subst (λ vs. Holds (rows ++ interface_row vs ∷ []) h) (sym (append-nil values)) holds, ((λ rest. refl), (λ rest. refl)))
further_uses_go_on (u ∷ us) values rows h none holds plain =
    let one = use_goes_on u.value u.in_one (rows ++ interface_row values ∷ []) (rows ++ interface_row (values ++ u.value ∷ []) ∷ []) h holds (used_again u.value values rows none) plain.0 in
    let all = further_uses_go_on us (values ++ u.value ∷ []) rows one.0 none one.1 plain.1 in (
      all.0,
      subst (λ vs. Holds (rows ++ interface_row vs ∷ []) all.0) (append_assoc values (u.value ∷ []) (map (λ v. v.value) us)) all.1,
      joined u us h one.0 all.0 one.2 all.2,
    )
  where
    joined : (u : Use) (us : List Use) (h e f : Held) → GoesOn h (words_of_use u) e → GoesOn e (flat_map words_of_use us) f → GoesOn h (flat_map words_of_use (u ∷ us)) f
    joined u us h e f one all = (
      (λ words. ap (λ ws. fold (walked top.rules []) (between h) ws) (append_assoc (words_of_use u) (flat_map words_of_use us) words)
          ∙ one.0 (flat_map words_of_use us ++ words) ∙ all.0 words),
      (λ words. ap (λ ws. walk_fault top [] (between h) ws) (append_assoc (words_of_use u) (flat_map words_of_use us) words)
          ∙ one.1 (flat_map words_of_use us ++ words) ∙ all.1 words),
    )

-- uses add their row
pub uses_go_on : (us : List Use) (rows : List Row) (h : Held) → has_row interface_id rows ≡ false → Holds rows h → ArePlain us
    → (e : Held) × Holds (rows ++ rows_of_uses us) e × GoesOn h (flat_map words_of_use us) e
uses_go_on [] rows h none holds plain = (h, subst (λ rs. Holds rs h) (sym (append-nil rows)) holds, ((λ rest. refl), (λ rest. refl)))
uses_go_on (u ∷ us) rows h none holds plain =
    let one = use_goes_on u.value u.in_one rows (rows ++ interface_row (u.value ∷ []) ∷ []) h holds (first_used u.value rows none) plain.0 in
    let all = further_uses_go_on us (u.value ∷ []) rows one.0 none one.1 plain.1 in (
      all.0,
      all.1,
      (
        (λ words. ap (λ ws. fold (walked top.rules []) (between h) ws) (append_assoc (words_of_use u) (flat_map words_of_use us) words)
            ∙ one.2.0 (flat_map words_of_use us ++ words) ∙ all.2.0 words),
        (λ words. ap (λ ws. walk_fault top [] (between h) ws) (append_assoc (words_of_use u) (flat_map words_of_use us) words)
            ∙ one.2.1 (flat_map words_of_use us ++ words) ∙ all.2.1 words),
      ),
    )

-- ---- names of files

-- where the walk stands behind the policy's name, and behind the capture's
abbrev behind_policy : Text → Held → Walk
behind_policy name h = record {
  held = record (settled top.rules h) { pending = Some (policy_id, name ∷ []) };
  waiting = idle;
  position = 2;
  is_trailing = false;
  stopped = None;
}

abbrev behind_capture : Text → Held → Walk
behind_capture name h = record {
  held = record (settled top.rules h) { pending = Some (capture_id, name ∷ []) };
  waiting = idle;
  position = 3;
  is_trailing = false;
  stopped = None;
}

-- what the walk makes of one word, and that it finds no fault in it
abbrev Turns : Walk → Text → Walk → Type 0
Turns w word after = (walked top.rules [] w word ≡ after) × (turn_fault top [] w word ≡ [])

policy_plain : (d : ℕ) (ds : Text) (h : Held) → (d == 45) ≡ false → is_pending policy_filled h.pending ≡ false → settle_fault top.rules false h ≡ []
    → Turns (between h) (d ∷ ds) (behind_policy (d ∷ ds) h)
unfolding clap_on_literals
policy_plain d ds h plain apart settles = (simp (plain, apart) refl, simp (plain, apart, settles) refl)

policy_standard : (h : Held) → is_pending policy_filled h.pending ≡ false → settle_fault top.rules false h ≡ []
    → Turns (between h) (codes "-") (behind_policy (codes "-") h)
unfolding clap_on_literals
policy_standard h apart settles = (rw apart refl, rw (apart, settles) refl)

capture_plain : (policy : Text) (d : ℕ) (ds : Text) (h : Held) → (d == 45) ≡ false → use_fault false policy_filled (policy ∷ []) (settled top.rules h).rows ≡ []
    → Turns (behind_policy policy h) (d ∷ ds) (behind_capture (d ∷ ds) (behind_policy policy h).held)
unfolding clap_on_literals
capture_plain policy d ds h plain uses = (simp plain refl, simp (plain, uses) refl)

capture_standard : (policy : Text) (h : Held) → use_fault false policy_filled (policy ∷ []) (settled top.rules h).rows ≡ []
    → Turns (behind_policy policy h) (codes "-") (behind_capture (codes "-") (behind_policy policy h).held)
unfolding clap_on_literals
capture_standard policy h uses = (refl, rw uses refl)

policy_turns : (name : Text) (h : Held) → IsName name → is_pending policy_filled h.pending ≡ false → settle_fault top.rules false h ≡ []
    → Turns (between h) name (behind_policy name h)
policy_turns name h is apart settles = elim is [
  | inl standard ↦ subst (λ n. Turns (between h) n (behind_policy n h)) (sym standard) (policy_standard h apart settles)
  | inr word ↦ subst (λ n. Turns (between h) n (behind_policy n h)) (sym word.2) (policy_plain word.0 word.1 h (ne_eqb word.0 45 word.3) apart settles)
]

capture_turns : (policy name : Text) (h : Held) → IsName name → use_fault false policy_filled (policy ∷ []) (settled top.rules h).rows ≡ []
    → Turns (behind_policy policy h) name (behind_capture name (behind_policy policy h).held)
capture_turns policy name h is uses = elim is [
  | inl standard ↦ subst (λ n. Turns (behind_policy policy h) n (behind_capture n (behind_policy policy h).held)) (sym standard) (capture_standard policy h uses)
  | inr word ↦ subst (λ n. Turns (behind_policy policy h) n (behind_capture n (behind_policy policy h).held)) (sym word.2)
      (capture_plain policy word.0 word.1 h (ne_eqb word.0 45 word.3) uses)
]

-- how the walk ends behind the names of files, from what is held before them
pub record Ends (rows : List Row) (names : List Text) (h : Held) : Type 0 where
  pub last : Walk
  pub runs : last.stopped ≡ None
  pub settles : settle_fault top.rules false last.held ≡ []
  pub settled_to : (settled top.rules last.held).rows ≡ rows ++ rows_of_names names
  pub walks : fold (walked top.rules []) (between h) names ≡ last
  pub passes : walk_fault top [] (between h) names ≡ []

policy_used : (policy : Text) (rows : List Row) → has_row policy_id rows ≡ false → use_fault false policy_filled (policy ∷ []) rows ≡ []
policy_used policy rows none = rw none refl

capture_used : (capture : Text) (rows : List Row) → has_row capture_id rows ≡ false → use_fault false capture_filled (capture ∷ []) rows ≡ []
capture_used capture rows none = rw none refl

policy_settles : (policy : Text) (h : Held) → settle_fault top.rules false (behind_policy policy h).held ≡ use_fault false policy_filled (policy ∷ []) (settled top.rules h).rows
policy_settles policy h = refl

capture_settles : (capture : Text) (h : Held) → settle_fault top.rules false (behind_capture capture h).held ≡ use_fault false capture_filled (capture ∷ []) (settled top.rules h).rows
capture_settles capture h = refl

policy_rows : (policy : Text) (h : Held) → (settled top.rules (behind_policy policy h).held).rows ≡ used policy_filled (policy ∷ []) (settled top.rules h).rows
policy_rows policy h = refl

capture_rows : (capture : Text) (h : Held) → (settled top.rules (behind_capture capture h).held).rows ≡ used capture_filled (capture ∷ []) (settled top.rules h).rows
capture_rows capture h = refl

-- the rows behind the policy's name
policy_to : (policy : Text) (rows : List Row) (h : Held) → Holds rows h → has_row policy_id rows ≡ false → (settled top.rules (behind_policy policy h).held).rows ≡ rows ++ policy_row policy ∷ []
policy_to policy rows h holds none = policy_rows policy h ∙ rw holds.0 (set_once policy_id (reading_by policy_filled) (policy ∷ []) rows none)

pub has_row_behind : (id : Text) (rows : List Row) (r : Row) → has_row id rows ≡ false → bytes_eq r.id id ≡ false → has_row id (rows ++ r ∷ []) ≡ false
has_row_behind id [] r none apart = rw apart refl
has_row_behind id (x ∷ rest) r none apart = go (bytes_eq x.id id) none (has_row_behind id rest r)
  where
    go : (b : Bool) → (b || has_row id rest) ≡ false → (has_row id rest ≡ false → bytes_eq r.id id ≡ false → has_row id (rest ++ r ∷ []) ≡ false) → (b || has_row id (rest ++ r ∷ [])) ≡ false
    go true found next = cc
    go false absent next = next absent apart

pub names_end : (rows : List Row) (names : List Text) (h : Held) → Holds rows h → has_row policy_id rows ≡ false → has_row capture_id rows ≡ false → AreNames names → Ends rows names h
unfolding walk_fault
names_end rows [] h holds no_policy no_capture are = record {
  last = between h;
  runs = refl;
  settles = holds.1;
  settled_to = holds.0 ∙ sym (append-nil rows);
  walks = refl;
  passes = refl;
}
names_end rows (policy ∷ []) h holds no_policy no_capture are =
    let first = policy_turns policy h are holds.2 holds.1 in record {
      last = behind_policy policy h;
      runs = refl;
      settles = policy_settles policy h ∙ rw holds.0 (policy_used policy rows no_policy);
      settled_to = policy_to policy rows h holds no_policy;
      walks = first.0;
      passes = rw first.1 refl;
    }
names_end rows (policy ∷ capture ∷ []) h holds no_policy no_capture are =
    let first = policy_turns policy h are.0 holds.2 holds.1 in
    let uses : use_fault false policy_filled (policy ∷ []) (settled top.rules h).rows ≡ [] = rw holds.0 (policy_used policy rows no_policy) in
    let second = capture_turns policy capture h are.1 uses in
    let to = policy_to policy rows h holds no_policy in
    let none = has_row_behind capture_id rows (policy_row policy) no_capture refl in record {
      last = behind_capture capture (behind_policy policy h).held;
      runs = refl;
      settles = capture_settles capture (behind_policy policy h).held ∙ rw to (capture_used capture (rows ++ policy_row policy ∷ []) none);
      settled_to = capture_rows capture (behind_policy policy h).held
          ∙ rw to (set_once capture_id (reading_by capture_filled) (capture ∷ []) (rows ++ policy_row policy ∷ []) none)
          ∙ append_assoc rows (policy_row policy ∷ []) (capture_row capture ∷ []);
      walks = ap (λ w. walked top.rules [] w capture) first.0 ∙ second.0;
      passes = rw (first.1, first.0, second.1) refl;
    }
names_end rows (policy ∷ capture ∷ other ∷ more) h holds no_policy no_capture are = absurd are
