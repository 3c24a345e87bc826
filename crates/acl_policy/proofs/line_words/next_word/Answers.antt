use Rattle.std.proofs.Common.{◌≡◌, sym, ◌∙◌, length, drop, take}
use Rattle.std.specs.Prelude.{position, unwrap_or}
use Rattle.acl_policy.specs.Words.{is_blank}
use Rattle.acl_policy.proofs.WordLemmas.{first_word, no_words}
use Rattle.acl_policy.proofs.line_words.next_word.Goals as goal

pub returns-in_err-start : goal.returns-in_err-start
returns-in_err-start c =
    rw c.from_residual.ensures (sym (no_words c.args.text.now (sym c.word_start.ensures.place ∙ c.in_err-start.was)))

pub returns : goal.returns
returns c =
    let first = first_word c.args.text.now c.in_ok-start.start (sym c.word_start.ensures.place ∙ c.in_ok-start.was) in
    let end : c.unwrap_or-end.result ≡ unwrap_or (position is_blank (drop c.in_ok-start.start c.args.text.now)) (length (drop c.in_ok-start.start c.args.text.now)) = cc in
    let front : c.split_at-2.result.0.now ≡ take c.unwrap_or-end.result (drop c.in_ok-start.start c.args.text.now) = cc in
    let back : c.split_at-2.result.1.now ≡ drop c.unwrap_or-end.result (drop c.in_ok-start.start c.args.text.now) = cc in
    cc
