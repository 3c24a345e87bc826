-- What stands behind references.
use Rattle.std.specs.Prelude.{Option, option_map}
use Rattle.std.specs.Borrow.{Bor}
use Rattle.clap.specs.Words.{Text}

-- the text behind a reference
abbrev pub text_behind : Option (Bor Text) → Option Text
text_behind = option_map (λ t. t.now)
