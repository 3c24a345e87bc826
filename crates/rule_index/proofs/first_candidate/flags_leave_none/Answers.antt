use Rattle.std.proofs.Common.{◌*◌, ℕ, arith, eqb-true, subst}
use Rattle.rule_index.specs.inner.Sieves.{KeepsMatches}
use Rattle.rule_index.proofs.SieveLemmas.{keeps_word}
use Rattle.rule_index.proofs.first_candidate.flags_leave_none.Goals as goal

pub word_at-requires : goal.word_at-requires
word_at-requires c = let more = c.requires.flags c.in-Some.flags c.in-Some.is in omega (arith, more)

pub returns-in-Some : goal.returns-in-Some
returns-in-Some c = λ none rules tuple sift.
    let i = c.args.i in
    subst (λ (word : ℕ). KeepsMatches rules tuple (i * 64) word) (eqb-true _ _ none)
    (keeps_word rules tuple c.in-Some.flags.now i _ c.word_at.ensures (sift.flags c.in-Some.flags c.in-Some.is))
