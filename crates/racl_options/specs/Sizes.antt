-- Which size of the session tables the words ask for (this project's profile).
use Rattle.std.specs.Prelude.{Option, None, Some, codes, if◌then◌else◌}
use Rattle.std.specs.Str.{bytes_eq}
use Rattle.clap.specs.Words.{Text}
use Rattle.racl_options.specs.declared.settings.TableSize.{TableSize}
use Rattle.racl_options.specs.declared.settings.TableSize.TheVariants.{Standard, Large}

-- what the value of `--tables` asks for; without one they are standard
abbrev pub size_by : Option Text → Option TableSize
size_by None = Some Standard
size_by (Some value) = if bytes_eq value (codes "standard") then Some Standard
    else if bytes_eq value (codes "large") then Some Large else None
