use Rattle.std.specs.Prelude.{◌≡◌, map, string_bytes, take}
use Rattle.clap.specs.Walk.{texts}
use Rattle.racl_system.proofs.command_words.texts_of.Given as goal

-- The texts so far are those of the words before this one.
abbrev pub invariant-loop-word : goal.invariant-loop-word
invariant-loop-word l = texts l.texts.items ≡ map string_bytes (take l.word-index l.words)
