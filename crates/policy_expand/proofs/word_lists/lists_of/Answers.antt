use Rattle.std.proofs.Common.{◌+◌, List, arith, map, subst, sym, take}
use Rattle.policy_expand.specs.Lists.{AreListsOf, IsListOf}
use Rattle.policy_expand.specs.Written.{list_words}
use Rattle.policy_expand.specs.declared.visible_word.Word.{Word}
use Rattle.policy_expand.specs.declared.visible_word.WordList.{WordList}
use Rattle.policy_expand.proofs.ListLemmas.{lists_next}
use Rattle.policy_expand.proofs.word_lists.lists_of.Goals as goal

pub loop-word-preserved : goal.loop-word-preserved
loop-word-preserved c =
    let i = c.loop-word.word-index in
    let list = c.in_ok-list_of.field-0 in
    subst (λ (lists : List WordList). AreListsOf c.args.sets.now (take (i + 1) c.args.words.now) (map list_words lists)) (sym c.in_ok-push.ensures.items)
    (lists_next c.args.sets.now c.args.words.now i c.loop-word.lists.items c.word-item.result list (omega arith) c.loop-word.invariant
    (subst (λ (word : Word). IsListOf c.args.sets.now word (list_words list)) c.word-item.is c.in_ok-list_of.ensures))
