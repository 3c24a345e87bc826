use Rattle.std.proofs.Common.{◌∙◌, ◌++◌, ℕ, List, [], ◌∷◌, ap, inl, rules}
use Rattle.std.proofs.lemmas.Option.{IfSome_then}
use Rattle.acl_policy.specs.Policies.{policy_facts}
use Rattle.capture_stream.specs.Savings.{manner_of, outputs}
use Rattle.racl_io.specs.declared.totals_and_truncation.Captured.{Captured}
use Rattle.filter_run.specs.Starts.{start_facts}
use Rattle.filter_run.proofs.OwnTellLemmas.{none_told_own}
use Rattle.filter_run.proofs.TellLemmas.{failed_since, report_failed}
use Rattle.capture_shards.specs.inner.OwnTests.{own_among}
use Rattle.racl_runs.specs.LiveRuns.{AreFirstVerdicts}
use Rattle.racl_runs.specs.inner.OwnRuns.{note_for}
use Rattle.racl_runs.proofs.CountedLemmas.{may_tell_behind}
use Rattle.racl_runs.proofs.LiveLemmas.{as_asked}
use Rattle.racl_runs.proofs.OwnEndLemmas.{latest_of_all, note_same, own_end_fault, own_end_told, own_fault, own_unwritten, said_counts, seen_all}
use Rattle.racl_runs.proofs.live_run.tell_capture.Goals as goal

pub returns-in_default-clause-told : goal.returns-in_default-clause-told
returns-in_default-clause-told g c =
    let way = c.args.head.way in
    inl (none_told_own (AreFirstVerdicts _ way.options.now) (manner_of (g.L.Teller.wording c.args.lines) g.K.Saver.saved) (policy_facts way.filter.now.policy.now) (own_among c.args.head.shard)
    (start_facts c.args.head.start) (g.R.Source.bytes c.args.reader.now) (outputs (g.W.Sink.bytes c.args.writer.now) c.args.saver.now) c.requires.saves)

pub returns-in_default-workers_over-clause-told : goal.returns-in_default-workers_over-clause-told
returns-in_default-workers_over-clause-told g c =
    let way = c.args.head.way in
    inl (none_told_own (AreFirstVerdicts _ way.options.now) (manner_of (g.L.Teller.wording c.args.lines) g.K.Saver.saved) (policy_facts way.filter.now.policy.now) (own_among c.args.head.shard)
    (start_facts c.args.head.start) (g.R.Source.bytes c.args.reader.now) (outputs (g.W.Sink.bytes c.args.writer.now) c.args.saver.now) c.requires.saves)

pub report_share-requires-clause-begun : goal.report_share-requires-clause-begun
report_share-requires-clause-begun g c = (search rules, c.in-Ok-workers_over.ensures.none)

pub report_share-requires-clause-counts : goal.report_share-requires-clause-counts
report_share-requires-clause-counts g c = said_counts

pub returns-in-Err-clause-told : goal.returns-in-Err-clause-told
returns-in-Err-clause-told g c =
    inl (own_fault c.args.head.way _ _ c.in-Ok-workers_over.ensures (as_asked c.in-Ok.ensures.asked c.ages_early-ages.ensures) c.requires.sound.0 (g.L.Teller.wording c.args.lines) g.K.Saver.saved
    _ _ _ _ _ _ c.in-Err.fault c.in-Err.ensures.told)

pub end-requires : goal.end-requires
end-requires g c = (_, _, _, _, c.in-Ok-report_share.ensures.told.stand.1)

pub told_behind_live-requires : goal.told_behind_live-requires
told_behind_live-requires g c =
    let all = c.in-Ok-report_share.ensures.told in
    let asked = as_asked c.in-Ok.ensures.asked c.ages_early-ages.ensures in
    let may = may_tell_behind c.args.head.way _ c.in-Ok-workers_over.judges _ _ _ _ c.requires.says c.requires.sound.0 asked c.in-Ok-workers_over.ensures
    (c.in-Ok-end.ensures _ _ _ _ all.stand.1) in
    (_, _, may)

pub returns-in_default-end-clause-told : goal.returns-in_default-end-clause-told
returns-in_default-end-clause-told g c =
    inl (own_unwritten c.args.head.way _ _ c.in-Ok-workers_over.ensures (as_asked c.in-Ok.ensures.asked c.ages_early-ages.ensures) c.requires.sound.0 (g.L.Teller.wording c.args.lines) g.K.Saver.saved
    _ _ _ _ _ _ _ c.in-Ok-report_share.told c.in-Ok-report_share.ensures.told)

pub returns-in_default-told_behind_live-clause-told : goal.returns-in_default-told_behind_live-clause-told
returns-in_default-told_behind_live-clause-told g c =
    inl (own_unwritten c.args.head.way _ _ c.in-Ok-workers_over.ensures (as_asked c.in-Ok.ensures.asked c.ages_early-ages.ensures) c.requires.sound.0 (g.L.Teller.wording c.args.lines) g.K.Saver.saved
    _ _ _ _ _ _ _ c.in-Ok-report_share.told c.in-Ok-report_share.ensures.told)

pub returns-in_default-noted_behind-clause-told : goal.returns-in_default-noted_behind-clause-told
returns-in_default-noted_behind-clause-told g c =
    inl (own_unwritten c.args.head.way _ _ c.in-Ok-workers_over.ensures (as_asked c.in-Ok.ensures.asked c.ages_early-ages.ensures) c.requires.sound.0 (g.L.Teller.wording c.args.lines) g.K.Saver.saved
    _ _ _ _ _ _ _ c.in-Ok-report_share.told c.in-Ok-report_share.ensures.told)

pub returns-in-Ok-tell_end_behind-clause-told : goal.returns-in-Ok-tell_end_behind-clause-told
returns-in-Ok-tell_end_behind-clause-told g c =
    let all = c.in-Ok-report_share.ensures.told in
    let asked = as_asked c.in-Ok.ensures.asked c.ages_early-ages.ensures in
    let may = may_tell_behind c.args.head.way _ c.in-Ok-workers_over.judges _ _ _ _ c.requires.says c.requires.sound.0 asked c.in-Ok-workers_over.ensures
    (c.in-Ok-end.ensures _ _ _ _ all.stand.1) in
    let latest = latest_of_all c.args.head.way _ _ c.in-Ok-workers_over.ensures asked c.requires.sound.0 (g.L.Teller.wording c.args.lines) g.K.Saver.saved
    _ _ _ _ _ _ _ c.in-Ok-report_share.told all in
    let seen = seen_all c.args.head.way _ _ c.in-Ok-workers_over.ensures asked c.requires.sound.0 (g.L.Teller.wording c.args.lines) g.K.Saver.saved
    _ _ _ _ _ _ _ c.in-Ok-report_share.told all in
    let text = c.in-Ok-noted_behind.ensures
    ∙ ap (λ (n : List ℕ). n ++ (c.in-Ok-told_behind_live.behind.hits.items ++ c.in-Ok-told_behind_live.behind.sessions.items))
    (note_same c.args.head.way.options.now c.args.head.shard _ _ _ _ seen
    (IfSome_then c.args.head.shard c.notes_latest.ensures.shard (λ shard noted. latest noted))) in
    own_end_told c.args.head.way _ _ c.in-Ok-workers_over.ensures asked c.requires.sound.0 (g.L.Teller.wording c.args.lines) g.K.Saver.saved
    _ _ _ _ _ _ _ c.in-Ok-report_share.told all (note_for c.args.head.way.options.now c.args.head.shard) _ _
    (c.in-Ok-told_behind_live.ensures _ _ _ may (λ kept. latest (c.notes_latest.ensures.stored kept))) text _
    (g.L.Teller.wording c.report_share.new.teller) (c.captured_alone.result ∷ []) c.in-Ok-report_share.ensures.same (ap (λ (one : Captured). one ∷ []) c.captured_alone.ensures) c.in-Ok-tell_end_behind.ensures.0

pub returns-clause-told : goal.returns-clause-told
returns-clause-told g c =
    let all = c.in-Ok-report_share.ensures.told in
    let asked = as_asked c.in-Ok.ensures.asked c.ages_early-ages.ensures in
    let may = may_tell_behind c.args.head.way _ c.in-Ok-workers_over.judges _ _ _ _ c.requires.says c.requires.sound.0 asked c.in-Ok-workers_over.ensures
    (c.in-Ok-end.ensures _ _ _ _ all.stand.1) in
    let latest = latest_of_all c.args.head.way _ _ c.in-Ok-workers_over.ensures asked c.requires.sound.0 (g.L.Teller.wording c.args.lines) g.K.Saver.saved
    _ _ _ _ _ _ _ c.in-Ok-report_share.told all in
    let seen = seen_all c.args.head.way _ _ c.in-Ok-workers_over.ensures asked c.requires.sound.0 (g.L.Teller.wording c.args.lines) g.K.Saver.saved
    _ _ _ _ _ _ _ c.in-Ok-report_share.told all in
    let text = c.in-Ok-noted_behind.ensures
    ∙ ap (λ (n : List ℕ). n ++ (c.in-Ok-told_behind_live.behind.hits.items ++ c.in-Ok-told_behind_live.behind.sessions.items))
    (note_same c.args.head.way.options.now c.args.head.shard _ _ _ _ seen
    (IfSome_then c.args.head.shard c.notes_latest.ensures.shard (λ shard noted. latest noted))) in
    own_end_fault c.args.head.way _ _ c.in-Ok-workers_over.ensures asked c.requires.sound.0 (g.L.Teller.wording c.args.lines) g.K.Saver.saved
    _ _ _ _ _ _ _ c.in-Ok-report_share.told all (note_for c.args.head.way.options.now c.args.head.shard) _ _
    (c.in-Ok-told_behind_live.ensures _ _ _ may (λ kept. latest (c.notes_latest.ensures.stored kept))) text _ c.in-Err-tell_end_behind.fault
    (g.L.Teller.wording c.report_share.new.teller) (c.captured_alone.result ∷ []) c.in-Ok-report_share.ensures.same (ap (λ (one : Captured). one ∷ []) c.captured_alone.ensures) c.in-Err-tell_end_behind.ensures.0

pub returns-clause-write : goal.returns-clause-write
returns-clause-write g c =
    let (written, saved) = c.in-Ok-report_share.ensures.write in
    failed_since _ _ _ _ _ _ c.in-Err-tell_end_behind.fault written saved
    (report_failed _ _ _ c.in-Err-tell_end_behind.fault c.in-Err-tell_end_behind.ensures.1)
