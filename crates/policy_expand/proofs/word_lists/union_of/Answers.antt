use Rattle.std.proofs.Common.{◌+◌, List, arith, subst, sym, take}
use Rattle.policy_expand.specs.Lists.{IsListOf, IsUnionOf}
use Rattle.policy_expand.specs.declared.visible_word.Word.{Word}
use Rattle.policy_expand.proofs.ListLemmas.{union_next}
use Rattle.policy_expand.proofs.word_lists.union_of.Goals as goal

pub loop-word-preserved : goal.loop-word-preserved
loop-word-preserved c =
    let i = c.loop-word.word-index in
    let found = c.in_ok-push_list.ensures in
    subst (λ (union : List Word). IsUnionOf c.args.sets.now (take (i + 1) c.args.words.now) union) (sym found.1)
    (union_next c.args.sets.now c.args.words.now i c.loop-word.union.items c.word-item.result found.0 (omega arith) c.loop-word.invariant
    (subst (λ (word : Word). IsListOf c.args.sets.now word found.0) c.word-item.is found.2))
