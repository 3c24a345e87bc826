use Rattle.std.proofs.Common.{arith, ℕ, subst, sym}
use Rattle.rule_index.specs.Numbered.{Covers}
use Rattle.rule_index.proofs.NumberLemmas.{covers_every, kept_same}
use Rattle.rule_index.proofs.numbered_words.store.Goals as goal

pub returns-in_default : goal.returns-in_default
returns-in_default c =
    record {
      kept = kept_same c.args.words.now.items;
      some = λ same. absurd (omega (arith, same));
      within = c.requires.some;
      covers = subst (λ (other : ℕ). Covers other c.args.word) (sym c.requires.every) (covers_every c.args.word);
    }
