use Rattle.std.proofs.Common.{◌≡◌, ◌++◌, ◌∙◌, ℕ, List, ap, arith, length, rules, subst, sym, take, tests}
use Rattle.std.specs.List.{slice_split}
use Rattle.std.proofs.lemmas.Iterator.Consumers.{YieldsList-end, YieldsList-turn}
use Rattle.std.proofs.lemmas.Iterator.Splits.{YieldsList-from_slice_split}
use Rattle.std.proofs.lemmas.List.{append_assoc, length_push, take_all}
use Rattle.policy_expand.specs.Lists.{AreStoodFor, is_comma}
use Rattle.policy_expand.specs.Written.{word_text}
use Rattle.policy_expand.specs.declared.visible_word.Word.{Word}
use Rattle.policy_expand.proofs.ListLemmas.{pieces_next}
use Rattle.policy_expand.proofs.set_lists.push_list.Goals as goal

pub loop-piece-preserved : goal.loop-piece-preserved
loop-piece-preserved c =
    let pieces : List (List ℕ) = slice_split is_comma (word_text c.args.word) in
    let turn = YieldsList-turn (YieldsList-from_slice_split _ is_comma {f = c.split-piece-items.result.pred} (word_text c.args.word) (cc) (cc) (cc) (λ x b q k. search (rules, tests)))
    c.loop-piece.yielded _ c.loop-piece.yielded_by _ _ c.in-Some.piece c.in-Some.is c.next.ensures.steps in
    let before = c.loop-piece.invariant in
    let found = c.in_ok-push_piece.ensures in (
      before.0 ++ found.0,
      found.1 ∙ ap (λ (t : List Word). t ++ found.0) before.1 ∙ append_assoc c.args.out.now.items before.0 found.0,
      subst (λ (n : ℕ). AreStoodFor c.args.sets.now (take n pieces) (before.0 ++ found.0)) (sym (length_push c.loop-piece.yielded c.in-Some.piece))
          (pieces_next c.args.sets.now pieces (length c.loop-piece.yielded) before.0 c.in-Some.piece.now found.0 turn.0 turn.1 before.2 found.2),
    )

pub returns : goal.returns
returns c =
    let pieces : List (List ℕ) = slice_split is_comma (word_text c.args.word) in
    let end = YieldsList-end (YieldsList-from_slice_split _ is_comma {f = c.split-piece-items.result.pred} (word_text c.args.word) (cc) (cc) (cc) (λ x b q k. search (rules, tests)))
    c.loop-piece.yielded _ c.loop-piece.yielded_by _ _ c.in-None.is c.next.ensures.steps in
    let before = c.loop-piece.invariant in
    let whole : take (length c.loop-piece.yielded) pieces ≡ pieces = ap (λ (n : ℕ). take n pieces) end.1 ∙ take_all (length pieces) pieces (omega arith) in
    (before.0, before.1, subst (λ (ps : List (List ℕ)). AreStoodFor c.args.sets.now ps before.0) whole before.2)
