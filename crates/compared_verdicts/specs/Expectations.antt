-- What a line of a file of expectations says, by its words (this project's profile). Words are those of a policy's lines.
use Rattle.std.specs.Prelude.{ℕ, ◌+◌, ◌==◌, ◌&&◌, Bool, not, nat_le, List, [], ◌∷◌, codes, drop, if◌then◌else◌, length, position, take, Option, None, Some, Result, Ok, Err, option_map}
use Rattle.std.specs.Char.{is_digit}
use Rattle.std.specs.List.{list_all}
use Rattle.std.specs.Str.{bytes_eq}
use Rattle.std.specs.Str.Parse.{digits_value}
use Rattle.acl_policy.specs.Words.{without_comment, words_of}
use Rattle.session_state.specs.declared.verdict.Verdict.TheVariants.{Session, Reflect, Permit, Deny, ByDefault, Worn, Full, NoPages, NotIp, Malformed, Short}
use Rattle.compared_verdicts.specs.declared.expectation.Expected.TheVariants.{Verdicts, InAll}
use Rattle.compared_verdicts.specs.declared.expectation.Line.{Line}
use Rattle.compared_verdicts.specs.declared.expectation.Line.TheVariants.{Blank, Expects}
use Rattle.compared_verdicts.specs.declared.expectation.Total.{Total}
use Rattle.compared_verdicts.specs.declared.expectation.Total.TheVariants.{Packets, Passed, Dropped}
use Rattle.compared_verdicts.specs.declared.expectation.Wanted.{Wanted}
use Rattle.compared_verdicts.specs.declared.expectation.Wanted.TheVariants.{Pass, Drop, PassByRule, DropByRule, Exactly}
use Rattle.compared_verdicts.specs.declared.expectation_fault.ExpectationReason.{ExpectationReason}
use Rattle.compared_verdicts.specs.declared.expectation_fault.ExpectationReason.TheVariants.{NoNumbers, NoVerdict, NoCount}

-- ---- numbers

-- one to eighteen decimal digits
abbrev pub is_number : List ℕ → Bool
is_number word = not (length word == 0) && nat_le (length word) 18 && list_all (λ b. is_digit b 10) word

-- the number that they spell
unfoldable pub number_in : List ℕ → Option ℕ
number_in word = if is_number word then Some (digits_value 10 word) else None

-- the numbers from a first, which isn't 0, to a last one
abbrev pub span_between : Option ℕ → Option ℕ → Option (ℕ × ℕ)
span_between None last = None
span_between (Some first) None = None
span_between (Some first) (Some last) = if nat_le 1 first && nat_le first last then Some (first, last) else None

abbrev pub span_of_parts : List ℕ → Option (List ℕ × List ℕ) → Option (ℕ × ℕ)
span_of_parts word None = span_between (number_in word) (number_in word)
span_of_parts word (Some parts) = span_between (number_in parts.0) (number_in parts.1)

-- the numbers of packets: one, or a first and a last one with a hyphen (45) between them
unfoldable pub span_in : List ℕ → Option (ℕ × ℕ)
span_in word = span_of_parts word (option_map (λ i. (take i word, drop (i + 1) word)) (position (λ b. b == 45) word))

abbrev pub rule_at_most : Option ℕ → Option ℕ
rule_at_most None = None
rule_at_most (Some number) = if nat_le number 65535 then Some number else None

-- the number of a rule
unfoldable pub rule_in : List ℕ → Option ℕ
rule_in word = rule_at_most (number_in word)

-- ---- verdicts

abbrev pub effect_in : List ℕ → Option Wanted
effect_in word = if bytes_eq word (codes "pass") then Some Pass else (if bytes_eq word (codes "drop") then Some Drop else None)

abbrev pub passing_in : List ℕ → Option Wanted
passing_in kind = if bytes_eq kind (codes "session") then Some (Exactly Session)
    else (if bytes_eq kind (codes "not-ip") then Some (Exactly NotIp) else None)

abbrev pub roomless_in : List ℕ → Option Wanted
roomless_in kind = if bytes_eq kind (codes "worn") then Some (Exactly Worn)
    else (if bytes_eq kind (codes "full") then Some (Exactly Full) else (if bytes_eq kind (codes "no-pages") then Some (Exactly NoPages) else None))

abbrev pub dropping_in : List ℕ → Option Wanted
dropping_in kind = if bytes_eq kind (codes "default") then Some (Exactly ByDefault)
    else (if bytes_eq kind (codes "malformed") then Some (Exactly Malformed) else (if bytes_eq kind (codes "short") then Some (Exactly Short) else roomless_in kind))

-- `pass session`, `pass not-ip`, `drop default` ..
abbrev pub kind_by : Option Wanted → List ℕ → Option Wanted
kind_by (Some Pass) kind = passing_in kind
kind_by (Some Drop) kind = dropping_in kind
kind_by _ kind = None

abbrev pub kind_in : List ℕ → List ℕ → Option Wanted
kind_in effect kind = kind_by (effect_in effect) kind

-- `pass rule`, `drop rule`
abbrev pub any_rule_by : Option Wanted → Option Wanted
any_rule_by (Some Pass) = Some PassByRule
any_rule_by (Some Drop) = Some DropByRule
any_rule_by _ = None

abbrev pub any_rule_in : List ℕ → Option Wanted
any_rule_in effect = any_rule_by (effect_in effect)

-- `pass rule 3`, `drop rule 3`
abbrev pub rule_by : Option Wanted → ℕ → Option Wanted
rule_by (Some Pass) number = Some (Exactly (Permit number))
rule_by (Some Drop) number = Some (Exactly (Deny number))
rule_by _ number = None

abbrev pub rule_wanted : List ℕ → Option ℕ → Option Wanted
rule_wanted effect None = None
rule_wanted effect (Some number) = rule_by (effect_in effect) number

-- `pass rule 3 reflect`
abbrev pub reflecting_in : List ℕ → Option ℕ → List ℕ → Option Wanted
reflecting_in effect None last = None
reflecting_in effect (Some number) last =
    if bytes_eq effect (codes "pass") && bytes_eq last (codes "reflect") then Some (Exactly (Reflect number)) else None

-- by the words behind `rule`
unfoldable pub ruled_in : List ℕ → List (List ℕ) → Option Wanted
ruled_in effect [] = any_rule_in effect
ruled_in effect (digits ∷ []) = rule_wanted effect (rule_in digits)
ruled_in effect (digits ∷ last ∷ []) = reflecting_in effect (rule_in digits) last
ruled_in effect (digits ∷ last ∷ word ∷ words) = None

abbrev pub kind_alone : List ℕ → List ℕ → List (List ℕ) → Option Wanted
kind_alone effect kind [] = kind_in effect kind
kind_alone effect kind (word ∷ words) = None

-- the verdicts that these words want
unfoldable pub wanted_in : List (List ℕ) → Option Wanted
wanted_in [] = None
wanted_in (effect ∷ []) = effect_in effect
wanted_in (effect ∷ kind ∷ words) = if bytes_eq kind (codes "rule") then ruled_in effect words else kind_alone effect kind words

-- ---- lines

abbrev pub total_in : List ℕ → Option Total
total_in word = if bytes_eq word (codes "packets") then Some Packets
    else (if bytes_eq word (codes "pass") then Some Passed else (if bytes_eq word (codes "drop") then Some Dropped else None))

abbrev pub count_as : Total → Option ℕ → Result Line ExpectationReason
count_as total None = Err NoCount
count_as total (Some number) = Ok (Expects (InAll total number))

-- a total, and one number behind it
unfoldable pub count_line : Total → List (List ℕ) → Result Line ExpectationReason
count_line total [] = Err NoCount
count_line total (digits ∷ []) = count_as total (number_in digits)
count_line total (digits ∷ word ∷ words) = Err NoCount

-- numbers of packets, and the words of verdicts behind them
abbrev pub verdict_line : Option (ℕ × ℕ) → Option Wanted → Result Line ExpectationReason
verdict_line None wanted = Err NoNumbers
verdict_line (Some span) None = Err NoVerdict
verdict_line (Some span) (Some wanted) = Ok (Expects (Verdicts span.0 span.1 wanted))

abbrev pub said_by : Option Total → List ℕ → List (List ℕ) → Result Line ExpectationReason
said_by (Some total) word words = count_line total words
said_by None word words = verdict_line (span_in word) (wanted_in words)

-- what these words say, or why they are wrong
unfoldable pub said_in : List (List ℕ) → Result Line ExpectationReason
said_in [] = Ok Blank
said_in (word ∷ words) = said_by (total_in word) word words

-- what a line says up to its comment
unfoldable pub line_in : List ℕ → Result Line ExpectationReason
line_in line = said_in (words_of (without_comment line))
