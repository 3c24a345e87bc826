use Rattle.std.proofs.Common.{◌≡◌, ◌++◌, ◌∷◌, [], map, take}
use Rattle.policy_expand.specs.Written.{list_words}
use Rattle.policy_expand.specs.declared.visible_word.Word.{Word}
use Rattle.policy_expand.proofs.rows_of_lists.push_rows.Given as goal

-- The row stands with each word so far.
abbrev pub invariant-loop-word : goal.invariant-loop-word
invariant-loop-word l = map list_words l.out.items
    ≡ map list_words l.initial.out.items ++ map (λ (word : Word). l.row ++ word ∷ []) (take l.word-index l.list)
