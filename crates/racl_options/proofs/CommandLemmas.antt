-- What a parse by the command says of its options.
use Rattle.std.proofs.Common.{◌≡◌, ◌∙◌, ◌<◌, ap, arith, map, length, refl, rules, subst, suc, sym, inl, inr, false, true, true≢false, List, [], ◌∷◌, Option, Result, Some, ℕ, codes}
use Rattle.std.specs.List.{IsDistinct, slice_index_or}
use Rattle.std.specs.Prelude.{unwrap_or}
use Rattle.std.specs.Str.{bytes_eq}
use Rattle.std.proofs.lemmas.Bool.{cases_lt}
use Rattle.std.proofs.lemmas.List.{get_or-map, length-map}
use Rattle.std.proofs.lemmas.Map.Keys.{apart_from_distinct}
use Rattle.std.proofs.lemmas.Slice.Eq.{bytes_eq-Decides}
use Rattle.clap.specs.Words.{App, FailsBy, HasKind, HasMatchesOf, IsParsedFrom, Rule, Text, all_of, app_of, args_of, fault_of, first_of, first_value, found_of, is_simple, is_simple_and_free, kind_of, matches_of, one_of, one_text, rows_of, rule_of, shape_of}
use Rattle.clap.specs.declared.builder.arg.Arg.{Arg}
use Rattle.clap.specs.declared.builder.command.Command.{Command}
use Rattle.clap.specs.Kinds.{Kinds}
use Rattle.clap.specs.declared.error.Error.{Error}
use Rattle.clap.specs.declared.error.kind.ErrorKind.TheVariants.{OutOfMemory}
use Rattle.clap.specs.declared.parser.matches.ArgMatches.{ArgMatches}
use Rattle.clap.proofs.OnLiterals.{clap_on_literals}
use Rattle.clap.proofs.SimpleLemmas.{all_simple, plain_fields, simple_groups}
use Rattle.clap.proofs.WalkLemmas.{first_value-rows, one_text-rows, raw_values-rows}
use Rattle.racl_options.specs.Asking.{AskBy, AskForRun, AskedFacts, fit_together}
use Rattle.racl_options.specs.Origins.{Name}
use Rattle.racl_options.specs.ShardWords.{AskForShard}
use Rattle.racl_options.specs.CommandLine.{HoldsNumber, HoldsNumbers, OptionFacts, OptionName, Workers, Established, Transient, Udp, SetOptions, Spells, Values, most_of, name_of, number_of, number_rule, racl, values_at}
use Rattle.racl_options.specs.inner.Naming.{values_in}
use Rattle.racl_options.proofs.NameLemmas.{one_origin}
use Rattle.racl_options.proofs.NumberLemmas.{number_held, option_by_rule}
use Rattle.racl_options.proofs.ShardWordLemmas.{one_shard}

racl_is_simple : is_simple racl ≡ true
unfolding clap_on_literals
racl_is_simple = refl

pub racl_is_free : is_simple_and_free racl ≡ true
unfolding clap_on_literals
racl_is_free = refl

-- the ids that no option may have, and the options' own
abbrev ids : List Text
ids = [] ∷ codes "help" ∷ codes "version" ∷ map (λ (r : Rule). r.id) racl.top.rules

ids_are_distinct : IsDistinct bytes_eq ids
unfolding IsDistinct
ids_are_distinct = search rules

same_place : (j k : ℕ) (d : Text) → j < length ids → k < length ids → slice_index_or ids j d ≡ slice_index_or ids k d → j ≡ k
same_place j k d j_in k_in same =
    let equal = (bytes_eq-Decides (slice_index_or ids j d) (slice_index_or ids k d)).1 same in
    let equal_back = (bytes_eq-Decides (slice_index_or ids k d) (slice_index_or ids j d)).1 (sym same) in
    elim (cases_lt j k) [
      | inl before ↦ absurd (true≢false (sym equal ∙ apart_from_distinct bytes_eq ids j k d ids_are_distinct before k_in))
      | inr after ↦ elim (cases_lt k j) [
        | inl before ↦ absurd (true≢false (sym equal_back ∙ apart_from_distinct bytes_eq ids k j d ids_are_distinct before j_in))
        | inr here ↦ omega arith
      ]
    ]

module _ (c : Command) (is : app_of c ≡ racl) where
  rules_are : map rule_of (args_of c) ≡ racl.top.rules
  rules_are = ap (λ (a : App). a.top.rules) is

  all_args : length (args_of c) ≡ 20
  all_args = sym (length-map (args_of c) rule_of) ∙ ap length rules_are

  rule_at : (k : ℕ) (d : Arg) → k < 20 → rule_of (slice_index_or (args_of c) k d) ≡ slice_index_or racl.top.rules k (rule_of d)
  rule_at k d lt =
      let below : k < length (args_of c) = rw all_args lt in
      sym (get_or-map rule_of (args_of c) k d (rule_of d) below) ∙ ap (λ rs. slice_index_or rs k (rule_of d)) rules_are

  -- where the id of an argument stands among the ids
  id_at : (k : ℕ) (d : Arg) (t : Text) → k < 20 → slice_index_or ids (suc (suc (suc k))) t ≡ (slice_index_or (args_of c) k d).id.now
  id_at k d t lt = get_or-map (λ (r : Rule). r.id) racl.top.rules k (rule_of d) t lt ∙ sym (ap (λ (r : Rule). r.id) (rule_at k d lt))

  -- no argument has the id of one that stands elsewhere
  unique : (j k : ℕ) (d e : Arg) → j < 20 → k < 20 → (slice_index_or (args_of c) j e).id.now ≡ (slice_index_or (args_of c) k d).id.now → j ≡ k
  unique j k d e j_in k_in same =
      let places : suc (suc (suc j)) ≡ suc (suc (suc k)) = same_place _ _ [] (omega arith) (omega arith) (id_at j e [] j_in ∙ same ∙ sym (id_at k d [] k_in)) in
      omega arith

  -- nor one of the ids that stand before the options'
  own : (j k : ℕ) (d : Arg) → j < 3 → k < 20 → (slice_index_or (args_of c) k d).id.now ≡ slice_index_or ids j [] → ⊥
  own j k d j_in k_in same =
      let places : j ≡ suc (suc (suc k)) = same_place _ _ [] (omega arith) (omega arith) (sym same ∙ sym (id_at k d [] k_in)) in
      absurd (omega arith)

  -- the matches hold a number for the option at a place
  held_at : (m : ArgMatches) → IsParsedFrom c m → (k : ℕ) (d : Arg) (o : OptionName) → k < 20 → slice_index_or racl.top.rules k (rule_of d) ≡ number_rule o
      → HoldsNumber (most_of o) (one_text (found_of m) (name_of o))
  held_at m p k d o lt here =
      let plain = plain_fields c (ap (λ (a : App). a.top.is_plain) is) in
      let simple : all_simple (shape_of c).rules ≡ true = ap (λ (a : App). all_simple a.top.rules) is in
      let option = option_by_rule o (slice_index_or (args_of c) k d) (rule_at k d lt ∙ here) in
      number_held c m p plain.globals (simple_groups c simple) plain.groups k d o option (rw all_args lt)
      (λ j e low same. unique j k d e (rw all_args at low) lt ((bytes_eq-Decides _ (name_of o)).0 same ∙ sym option.name))
      (λ empty. own 0 k d (omega arith) lt (option.name ∙ empty))
      (λ auto. elim auto [ inl h ↦ own 1 k d (omega arith) lt h | inr h ↦ own 2 k d (omega arith) lt h ])

-- the matches hold a number for each option
pub numbers_held : (c : Command) (m : ArgMatches) → app_of c ≡ racl → IsParsedFrom c m → HoldsNumbers (one_text (found_of m))
numbers_held c m is p = go (args_of c) refl
  where
    go : (xs : List Arg) → args_of c ≡ xs → HoldsNumbers (one_text (found_of m))
    go [] e =
        let none : length (args_of c) ≡ 0 = ap length e in
        absurd (omega (arith, all_args c is))
    go (d ∷ rest) e = record {
      workers = held_at c is m p 0 d Workers (omega arith) refl;
      established = held_at c is m p 1 d Established (omega arith) refl;
      transient = held_at c is m p 2 d Transient (omega arith) refl;
      udp = held_at c is m p 3 d Udp (omega arith) refl;
    }

-- what the getters read is what the command's matches hold
pub same_values : (c : Command) (words : List Text) (m : ArgMatches) → app_of c ≡ racl → HasMatchesOf (app_of c) words m → values_in (found_of m) ≡ values_at words
same_values c words m is has =
    let rows : rows_of (found_of m) ≡ matches_of racl words = (has (ap is_simple is ∙ racl_is_simple)).0 ∙ ap (λ a. matches_of a words) is in
    let number : (id : Text) → one_text (found_of m) id ≡ one_of id (matches_of racl words) = λ id. one_text-rows (found_of m) id ∙ ap (one_of id) rows in
    let first : (id : Text) → first_value (found_of m) id ≡ first_of id (matches_of racl words) = λ id. first_value-rows (found_of m) id ∙ ap (first_of id) rows in
    let all = λ (id : Text). raw_values-rows (found_of m) id ∙ ap (all_of id) rows in
    λ i. record { number = λ id. number id i; first = λ id. first id i; all = λ id. all id i }

-- no kind of error comes but those of the words' fault
pub fails_by_fault : {T : Type 0} (c : Command) (words : List Text) (r : Result T Error) → app_of c ≡ racl
    → (is_simple_and_free (app_of c) ≡ true → FailsBy (fault_of (app_of c) words) r) → FailsBy (fault_of racl words) r
fails_by_fault c words r is kinds = subst (λ a. FailsBy (fault_of a words) r) is (kinds (ap is_simple_and_free is ∙ racl_is_free))

-- and none but that memory ran out where the words have no fault
pub only_memory : (kinds : Kinds) (e : Error) → kinds ≡ [] → HasKind kinds e → kind_of e ≡ OutOfMemory
only_memory kinds e none has = elim (subst (λ ks. HasKind ks e) none has) [ inl memory ↦ memory | inr among ↦ absurd among ]

-- a text spells one number
one_number : (o : OptionName) (m n : ℕ) (text : Option Text) → Spells o text m → Spells o text n → m ≡ n
one_number o m n text a b =
    let same : Some a.0 ≡ Some b.0 = sym a.1 ∙ b.1 in
    a.3 ∙ ap (λ t. number_of (unwrap_or t a.0)) same ∙ sym b.3

one_setting : (values : Values) (a b : OptionFacts) → SetOptions values a → SetOptions values b → a ≡ b
one_setting values a b p q =
    let workers = one_number Workers a.workers b.workers _ p.workers q.workers in
    let established = one_number Established a.established b.established _ p.established q.established in
    let transient = one_number Transient a.transient b.transient _ p.transient q.transient in
    let udp = one_number Udp a.udp b.udp _ p.udp q.udp in
    let sizes : Some a.tables ≡ Some b.tables = sym p.tables ∙ q.tables in
    let tables : a.tables ≡ b.tables = cc in
    let both : Some a.shown ≡ Some b.shown = sym p.shown ∙ q.shown in
    let shown : a.shown ≡ b.shown = cc in
    let lines : a.lines ≡ b.lines = sym p.lines ∙ q.lines in
    let hits : a.hits ≡ b.hits = sym p.hits ∙ q.hits in
    let sessions : a.sessions ≡ b.sessions = sym p.sessions ∙ q.sessions in
    let live : a.live ≡ b.live = sym p.live ∙ q.live in
    let ages : a.ages ≡ b.ages = sym p.ages ∙ q.ages in
    λ i. record { workers = workers i; established = established i; transient = transient i; udp = udp i; tables = tables i; shown = shown i; lines = lines i; hits = hits i; sessions = sessions i; live = live i; ages = ages i }

-- what a parse holds says one thing
pub one_saying : (values : Values) (a b : AskedFacts) → AskBy values a → AskBy values b → a ≡ b
one_saying values a b p q =
    let options = one_setting values a.options b.options p.options q.options in
    let origin = one_origin _ _ _ a.origin b.origin p.names q.names in
    let drops = sym p.drops ∙ q.drops in
    let passes = sym p.passes ∙ q.passes in
    let expected = sym p.expected ∙ q.expected in
    let shard = one_shard _ a.shard b.shard p.shard q.shard in
    λ i. record { options = options i; origin = origin i; drops = drops i; passes = passes i; expected = expected i; shard = shard i }

-- nothing is asked for where what is read of the words doesn't go together
pub none_asks : (values : Values) (b : AskedFacts) → SetOptions values b.options
    → Name (values.first (codes "POLICY")) (values.first (codes "CAPTURE")) (values.all (codes "interface")) b.origin
    → values.first (codes "drops") ≡ b.drops → values.first (codes "passes") ≡ b.passes → values.first (codes "expect") ≡ b.expected
    → AskForShard (values.first (codes "shard")) b.shard
    → fit_together b ≡ false → (a : AskedFacts) → AskBy values a → ⊥
none_asks values b set names saved_drops saved_passes is_expected is_shared unfit a p =
    let options = one_setting values a.options b.options p.options set in
    let origin = one_origin _ _ _ a.origin b.origin p.names names in
    let drops = sym p.drops ∙ saved_drops in
    let passes = sym p.passes ∙ saved_passes in
    let expected = sym p.expected ∙ is_expected in
    let shard = one_shard _ a.shard b.shard p.shard is_shared in
    let same : a ≡ b = (λ i. record { options = options i; origin = origin i; drops = drops i; passes = passes i; expected = expected i; shard = shard i }) in
    true≢false (sym p.fit ∙ ap fit_together same ∙ unfit)

-- words ask for one run
pub one_run : (words : List Text) (a b : AskedFacts) → AskForRun words a → AskForRun words b → a ≡ b
one_run words a b p q = one_saying (values_at words) a b p.asks q.asks
