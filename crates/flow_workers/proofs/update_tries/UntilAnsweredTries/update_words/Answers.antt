-- The update is one of the key of these words, and its reply tells what it found.
use Rattle.std.proofs.Common.{◌≡◌, ◌∙◌, ap, refl}
use Rattle.flow_workers.proofs.AnsweredUpdates.{as_told, short_at}
use Rattle.flow_workers.proofs.WantedLemmas.{update_keeps_wanted}
use Rattle.flow_workers.proofs.update_tries.UntilAnsweredTries.update_words.Goals as goal

pub returns : goal.returns
returns g c =
    let key : g.S.Shape.words_of c.key-words.result ≡ c.args.key.now.words.now
    = ap g.S.Shape.words_of c.key-words.ensures ∙ g.met.S.Shape.words_of_key c.args.key.now.words.now c.requires.counted in
    let tells = c.add_or_recycle.ensures.told in record {
      same = tells.same;
      answered = as_told _ _ _ _ _ _ _ c.add_or_recycle.result key tells.answered tells.lawful;
      locks = (tells.locks, tt);
      no_pages = λ log2 left is.
          short_at g.S.Shape c.add_or_recycle.new.caller.seat.view c.key-words.result c.args.key.now.words.now log2 left c.key-words.ensures key
          (tells.no_pages log2 left is);
      wanted = update_keeps_wanted g.S.Shape g.met.S.Shape.key_of_words g.met.S.Shape.words_of_key
          c.args.caller.now.seat.view c.add_or_recycle.new.caller.seat.view c.key-words.result _ _ c.add_or_recycle.result
          tells.answered tells.lawful tells.no_pages;
      contended = tt;
      lone = λ lone. refl;
      lawful = tells.lawful;
    }
