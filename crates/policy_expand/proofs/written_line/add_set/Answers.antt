use Rattle.std.proofs.Common.{◌≡◌, ◌∙◌, None, refl, sym}
use Rattle.policy_expand.specs.Lists.{find_set}
use Rattle.policy_expand.specs.Written.{word_text}
use Rattle.policy_expand.proofs.ListLemmas.{none_mapped}
use Rattle.policy_expand.proofs.written_line.add_set.Goals as goal

pub returns : goal.returns
returns c =
    let read = rw c.as_slice.ensures.value at c.set_named.ensures in
    let first : find_set (word_text c.args.name) c.args.sets.now.items ≡ None =
    sym read ∙ none_mapped _ c.set_named.result (sym c.is_some.ensures ∙ c.if-is_some.false) in
    record {
      set = record { name = c.args.name; list = c.in_ok-list.list };
      named = refl;
      words_are = rw c.as_slice-2.ensures.value at c.in_ok-list.ensures;
      first = first;
      added = c.in_ok-push.ensures.items;
    }
