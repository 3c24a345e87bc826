use Rattle.std.proofs.Common.{◌≡◌, ◌++◌, drop, flat_map, map}
use Rattle.racl_views.specs.Hits.{hit_told}
use Rattle.racl_views.specs.RuleTexts.{shown_of}
use Rattle.racl_views.proofs.hits_as_text_and_json.tell_hits.Given as goal

-- what was told so far, and what is left
abbrev pub invariant-hits : goal.invariant-hits
invariant-hits l = l.text.items ++ flat_map (hit_told l.view (map shown_of l.texts)) (drop l.hit-index l.hits)
    ≡ flat_map (hit_told l.view (map shown_of l.texts)) l.hits
