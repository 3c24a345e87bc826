-- What the words select: which packets have a line in the report and what it tells, whether hits and sessions are told,
-- whether verdicts are written as packets come, whether sessions that have ended are removed, and the files that get packets
-- (this project's profile).
use Rattle.std.specs.Prelude.{Bool, false, Option, None, Some, codes, option_map, if◌then◌else◌}
use Rattle.std.specs.Str.{bytes_eq}
use Rattle.clap.specs.Words.{Text}
use Rattle.session_state.specs.declared.shown_verdicts.Shown.{Shown}
use Rattle.session_state.specs.declared.shown_verdicts.Shown.TheVariants.{Every, Passing, Dropped, Nothing}
use Rattle.racl_options.specs.declared.settings.Lines.{Lines}
use Rattle.racl_options.specs.declared.settings.Lines.TheVariants.{Plain, Explained, Json}

-- what the value of `--only` asks for; without one it is every packet
abbrev pub shown_only : Option Text → Option Shown
shown_only None = Some Every
shown_only (Some value) = if bytes_eq value (codes "pass") then Some Passing
    else if bytes_eq value (codes "drop") then Some Dropped else None

pub data FlagName : Type 0 where
  Summary : FlagName
  Hits : FlagName
  Sessions : FlagName
  Explain : FlagName
  JsonLines : FlagName
  Live : FlagName
  Age : FlagName

abbrev pub flag_id : FlagName → Text
flag_id Summary = codes "summary"
flag_id Hits = codes "hits"
flag_id Sessions = codes "sessions"
flag_id Explain = codes "explain"
flag_id JsonLines = codes "json"
flag_id Live = codes "live"
flag_id Age = codes "age"

-- whether a flag was given, by its value
abbrev pub is_given : Option Text → Bool
is_given None = false
is_given (Some value) = bytes_eq value (codes "true")

-- what `--summary` and the value of `--only` ask for: with the flag no packet, whatever the option asks for
abbrev pub shown_by : Bool → Option Text → Option Shown
shown_by summary only = option_map (λ shown. if summary then Nothing else shown) (shown_only only)

-- what `--json` and `--explain` ask for: the first counts where both are given
abbrev pub lines_by : Bool → Bool → Lines
lines_by json explain = if json then Json else if explain then Explained else Plain
