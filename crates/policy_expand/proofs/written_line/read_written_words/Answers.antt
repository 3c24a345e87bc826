use Rattle.std.proofs.Common.{◌≡◌, ◌∙◌, ◌<◌, ◌⊎◌, Some, ap, arith, codes, inl, inr, length, refl, sym}
use Rattle.std.specs.Prelude.{slice_get}
use Rattle.policy_expand.specs.Written.{word_text}
use Rattle.policy_expand.proofs.ListLemmas.{plain_words, same_first}
use Rattle.policy_expand.proofs.written_line.read_written_words.Goals as goal

pub returns-then-is_word : goal.returns-then-is_word
returns-then-is_word c =
    let first : slice_get c.args.words.items 0 ≡ Some c.in-Some.first =
    sym (rw c.deref.ensures.value at c.first.ensures.value) ∙ sym c.copied.ensures ∙ c.in-Some.is in
    let set = rw c.as_slice.ensures.value at c.in_ok-define_set.ensures in
    inr (set.0, set.1, set.2, set.3, ap word_text (sym (same_first c.args.words.items c.in-Some.first set.0 _ first set.3)) ∙ c.is_word.ensures.yes c.if-is_word.true, set.4)

pub returns-then-is_plain : goal.returns-then-is_plain
returns-then-is_plain c =
    let first : slice_get c.args.words.items 0 ≡ Some c.in-Some.first =
    sym (rw c.deref.ensures.value at c.first.ensures.value) ∙ sym c.copied.ensures ∙ c.in-Some.is in
    let short : (length c.args.words.items < 5) ⊎ ((word_text c.in-Some.first ≡ codes "mac") ⊎ (word_text c.in-Some.first ≡ codes "interface")) =
    elim (c.is_plain.ensures.line c.if-is_plain.true) [
      | inl few ↦ inl (omega (arith, few, c.len.ensures, c.args.words.ok.0))
      | inr named ↦ inr named
    ] in
    (refl, plain_words c.args.words.items c.in-Some.first first (c.is_word.ensures.no c.if-is_word.false) short, refl)

pub rule_of-requires : goal.rule_of-requires
rule_of-requires c = omega (arith, c.is_plain.ensures.rule c.if-is_plain.false, c.len.ensures, c.args.words.ok.0)
