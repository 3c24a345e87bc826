use Rattle.std.proofs.Common.{◌∙◌, ap, false, length, sym}
use Rattle.std.proofs.lemmas.Bool.{le-ltb}
use Rattle.std.specs.Option.{option_map_or}
use Rattle.racl_options.specs.Tasks.{is_command}
use Rattle.racl_options.proofs.TaskLemmas.{no_second_word, second_word}
use Rattle.racl_options.proofs.task_words.names_command.Goals as goal

pub returns-then-words-gt1 : goal.returns-then-words-gt1
returns-then-words-gt1 c = c.is_command.ensures ∙ ap (λ w. option_map_or is_command w false) (sym (second_word c.args.words.now _ c.if-words-gt1.true))

pub returns-else-words-gt1 : goal.returns-else-words-gt1
returns-else-words-gt1 c = le-ltb 1 (length c.args.words.now) c.if-words-gt1.false ∙ ap (λ w. option_map_or is_command w false) (sym (no_second_word c.args.words.now c.if-words-gt1.false))
