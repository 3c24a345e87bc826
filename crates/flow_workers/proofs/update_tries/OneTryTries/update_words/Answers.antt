-- The update is one of the key of these words, and its reply tells what it found.
use Rattle.std.proofs.Common.{◌≡◌, ◌∙◌, IfErr, ap, subst}
use Rattle.bihash_words.specs.Sizes.{bucket_of, sizes_of}
use Rattle.bihash_table.specs.Promise.{IsContended}
use Rattle.flow_workers.proofs.AnsweredUpdates.{as_told, if_ok, short_at, took_by_one}
use Rattle.flow_workers.proofs.WantedLemmas.{if_both, update_keeps_wanted}
use Rattle.flow_workers.proofs.update_tries.OneTryTries.update_words.Goals as goal

pub returns : goal.returns
returns g c =
    let key : g.S.Shape.words_of c.key-words.result ≡ c.args.key.now.words.now
    = ap g.S.Shape.words_of c.key-words.ensures ∙ g.met.S.Shape.words_of_key c.args.key.now.words.now c.requires.counted in
    let tells = c.try_add_or_recycle.ensures.told in record {
      same = tells.same;
      answered =
          if_ok _ _ c.try_add_or_recycle.result (λ reply updated. as_told _ _ _ _ _ _ _ reply key updated tells.lawful)
          tells.answered;
      no_pages = if_ok _ _ c.try_add_or_recycle.result
          (λ reply short log2 left is.
          short_at g.S.Shape c.try_add_or_recycle.new.caller.seat.view c.key-words.result c.args.key.now.words.now log2 left c.key-words.ensures key
          (short log2 left is))
          tells.no_pages;
      wanted = if_both _ _ _ c.try_add_or_recycle.result
          (λ reply updated short. update_keeps_wanted g.S.Shape g.met.S.Shape.key_of_words g.met.S.Shape.words_of_key
          c.args.caller.now.seat.view c.try_add_or_recycle.new.caller.seat.view c.key-words.result _ _ reply updated
          tells.lawful short)
          tells.answered tells.no_pages;
      locks = took_by_one _ _ c.try_add_or_recycle.result tells.locks;
      contended =
          subst (λ words. IfErr c.try_add_or_recycle.result (λ _. IsContended (sizes_of g.S.Shape) c.args.caller.now.seat.view
          c.try_add_or_recycle.new.caller.seat.view (bucket_of (sizes_of g.S.Shape) words))) key tells.contended;
      lone = tells.lone;
      lawful = tells.lawful;
    }
