use Rattle.std.proofs.Common.{◌∙◌, Some, ap, is_none, subst, sym}
use Rattle.std.specs.Prelude.{option_map}
use Rattle.racl_options.specs.Asking.{asked_facts}
use Rattle.racl_options.specs.ShardWords.{AskForShard, shard_facts}
use Rattle.racl_options.specs.declared.settings.Asked.{Asked}
use Rattle.racl_options.proofs.CommandLemmas.{none_asks}
use Rattle.racl_options.proofs.ShardWordLemmas.{refused_shard}
use Rattle.racl_options.proofs.asked_options.asked_by.Goals as goal

pub returns-in-Err : goal.returns-in-Err
returns-in-Err c = refused_shard _ _ c.in-Err.refusal c.get_str.ensures c.in-Err.ensures

pub returns-in-Some-misfit : goal.returns-in-Some-misfit
returns-in-Some-misfit c =
    let asked : Asked = record { options = c.read_options.result; origin = c.in-Ok-origin_named.origin; saved = c.saved_named.result; expected = c.get_str-2.result; shard = c.in-Ok.shard } in
    let read = c.read_options.ensures in
    none_asks _ (asked_facts asked)
    (record {
      workers = read.spelt.workers;
      established = read.spelt.established;
      transient = read.spelt.transient;
      udp = read.spelt.udp;
      tables = sym c.size_named.ensures ∙ c.in-Some.is ∙ ap Some (sym read.tables);
      shown = sym c.shown_named.ensures ∙ c.in-Some-shown_named.is ∙ ap Some (sym read.shown);
      lines = read.lines;
      hits = read.hits;
      sessions = read.sessions;
      live = read.live;
      ages = read.ages;
    })
    c.in-Ok-origin_named.ensures (sym c.saved_named.ensures.drops) (sym c.saved_named.ensures.passes) (sym c.get_str-2.ensures)
    (subst (λ value. AskForShard value (option_map shard_facts c.in-Ok.shard)) c.get_str.ensures c.in-Ok.ensures)
    (sym c.misfit.ensures ∙ ap is_none c.in-Some-misfit.is)
