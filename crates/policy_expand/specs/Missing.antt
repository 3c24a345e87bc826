-- Which included file is to be read (this project's profile).
use Rattle.std.specs.Prelude.{◌≡◌, List, None, string_bytes}
use Rattle.policy_expand.specs.Inclusions.{FileFacts, Includes, text_of}
use Rattle.policy_expand.specs.Sources.{SourceFacts}
use Rattle.policy_expand.specs.declared.missing_files.MissingFile.{MissingFile}

-- The line, which has this number, includes a file of this name, which is none of these.
abbrev pub IsMissing : List FileFacts → SourceFacts → MissingFile → Type 0
IsMissing files line missing =
    Includes line (string_bytes missing.name) × (missing.number ≡ line.number) × (text_of (string_bytes missing.name) files ≡ None)
