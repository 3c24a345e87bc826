use Rattle.std.proofs.Common.{arith, ◌*◌, subst, ℕ}
use Rattle.rule_index.specs.inner.NumberedRows.{words_of}
use Rattle.rule_index.specs.inner.Sieves.{KeepsMatches}
use Rattle.rule_index.proofs.SieveLemmas.{keeps_both, keeps_word}
use Rattle.rule_index.proofs.first_candidate.word_of.Goals as goal

pub word_at-requires : goal.word_at-requires
word_at-requires c = let more = c.requires.flags c.in-Some.flags c.in-Some.is in omega (arith, more)

pub returns-then-flags_leave_none : goal.returns-then-flags_leave_none
returns-then-flags_leave_none c = λ rules tuple sift. c.flags_leave_none.ensures c.if-flags_leave_none.true rules tuple sift

pub returns-then-addresses-eq0 : goal.returns-then-addresses-eq0
returns-then-addresses-eq0 c = λ rules tuple sift.
    let rows = c.args.rows.now in
    let i = c.args.i in
    subst (λ (word : ℕ). KeepsMatches rules tuple (i * 64) word) c.if-addresses-eq0.true
    (keeps_both rules tuple (i * 64) _ _
    (keeps_word rules tuple (words_of rows.source) i _ c.word.ensures sift.source) (keeps_word rules tuple (words_of rows.dest) i _ c.word-2.ensures sift.dest))

pub returns-then-second-eq0 : goal.returns-then-second-eq0
returns-then-second-eq0 c = λ rules tuple sift.
    let rows = c.args.rows.now in
    let i = c.args.i in
    subst (λ (word : ℕ). KeepsMatches rules tuple (i * 64) word) c.if-second-eq0.true
    (keeps_both rules tuple (i * 64) _ _
    (keeps_both rules tuple (i * 64) _ _
    (keeps_word rules tuple (words_of rows.source) i _ c.word.ensures sift.source) (keeps_word rules tuple (words_of rows.dest) i _ c.word-2.ensures sift.dest))
    (keeps_word rules tuple (words_of rows.second) i _ c.word-3.ensures sift.second))

pub returns-in-Some : goal.returns-in-Some
returns-in-Some c = λ rules tuple sift.
    let rows = c.args.rows.now in
    let i = c.args.i in
    keeps_both rules tuple (i * 64) _ _
    (keeps_both rules tuple (i * 64) _ _
    (keeps_both rules tuple (i * 64) _ _
    (keeps_both rules tuple (i * 64) _ _
    (keeps_both rules tuple (i * 64) _ _
    (keeps_word rules tuple (words_of rows.source) i _ c.word.ensures sift.source) (keeps_word rules tuple (words_of rows.dest) i _ c.word-2.ensures sift.dest))
    (keeps_word rules tuple (words_of rows.second) i _ c.word-3.ensures sift.second))
    (keeps_word rules tuple (words_of rows.protocol) i _ c.word-4.ensures sift.protocol))
    (keeps_word rules tuple (words_of rows.first) i _ c.word-5.ensures sift.first))
    (keeps_word rules tuple c.in-Some.flags.now i _ c.word_at.ensures (sift.flags c.in-Some.flags c.in-Some.is))

pub returns-in-None : goal.returns-in-None
returns-in-None c = λ rules tuple sift.
    let rows = c.args.rows.now in
    let i = c.args.i in
    keeps_both rules tuple (i * 64) _ _
    (keeps_both rules tuple (i * 64) _ _
    (keeps_both rules tuple (i * 64) _ _
    (keeps_both rules tuple (i * 64) _ _
    (keeps_word rules tuple (words_of rows.source) i _ c.word.ensures sift.source) (keeps_word rules tuple (words_of rows.dest) i _ c.word-2.ensures sift.dest))
    (keeps_word rules tuple (words_of rows.second) i _ c.word-3.ensures sift.second))
    (keeps_word rules tuple (words_of rows.protocol) i _ c.word-4.ensures sift.protocol))
    (keeps_word rules tuple (words_of rows.first) i _ c.word-5.ensures sift.first)
