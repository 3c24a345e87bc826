use Rattle.std.proofs.Common.{◌∙◌, rules}
use Rattle.racl_runs.proofs.AtHandLemmas.{told_at_hand}
use Rattle.racl_runs.proofs.CountedLemmas.{may_tell_behind}
use Rattle.racl_runs.proofs.LiveLemmas.{as_asked}
use Rattle.racl_runs.proofs.OwnEndLemmas.{latest_same}
use Rattle.racl_runs.proofs.captures_at_hand.tell_in_turn.Goals as goal

pub report_in_turn-requires-clause-begun : goal.report_in_turn-requires-clause-begun
report_in_turn-requires-clause-begun g c = (search rules, c.in-Ok-workers_over.ensures.none)

pub report_in_turn-requires-clause-counts : goal.report_in_turn-requires-clause-counts
report_in_turn-requires-clause-counts g c begun packets said are = are.count

pub end-requires : goal.end-requires
end-requires g c =
    let all = c.in-Ok-report_in_turn.ensures.told c.requires.right.0 c.requires.right.1 in
    (_, _, _, _, all.stand.1)

pub told_behind_live-requires : goal.told_behind_live-requires
told_behind_live-requires g c =
    let all = c.in-Ok-report_in_turn.ensures.told c.requires.right.0 c.requires.right.1 in
    let asked = as_asked c.in-Ok.ensures.asked c.ages_early-ages.ensures in
    let may = may_tell_behind c.args.way _ c.in-Ok-workers_over.judges _ _ _ _ c.requires.says c.requires.times asked c.in-Ok-workers_over.ensures (c.in-Ok-end.ensures _ _ _ _ all.stand.1) in
    (_, _, may)

pub returns-in-Ok-tell_end_behind-clause-told : goal.returns-in-Ok-tell_end_behind-clause-told
returns-in-Ok-tell_end_behind-clause-told g c packets have =
    let all = c.in-Ok-report_in_turn.ensures.told packets have in
    let asked = as_asked c.in-Ok.ensures.asked c.ages_early-ages.ensures in
    let may = may_tell_behind c.args.way _ c.in-Ok-workers_over.judges _ _ _ _ c.requires.says c.requires.times asked c.in-Ok-workers_over.ensures (c.in-Ok-end.ensures _ _ _ _ all.stand.1) in
    told_at_hand c.args.way.options.now c.args.way.text.now _ (g.L.Teller.wording c.args.lines) (g.L.Teller.wording c.report_in_turn.new.teller) packets c.args.captures.told.now all.verdicts _
    _ _ _ _ c.in-Ok-report_in_turn.ensures.same all.count
    (c.in-Ok-told_behind_live.ensures _ _ _ may (λ kept. all.latest (c.keeps_stored-noted.ensures ∙ kept) ∙ latest_same packets)) all.totals all.text c.in-Ok-tell_end_behind.ensures.0
