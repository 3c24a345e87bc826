use Rattle.std.proofs.Common.{◌∙◌, List, inl, refl, subst, sym, ℕ}
use Rattle.acl_policy.specs.Policies.{policy_facts}
use Rattle.filter_run.proofs.TellLemmas.{saver_failed}
use Rattle.racl_runs.specs.inner.Kept.{HaveGot}
use Rattle.racl_runs.proofs.LiveLemmas.{early_fault, early_header, front_behind, input_behind, ready_says, write_since}
use Rattle.racl_runs.proofs.LiveSaveLemmas.{none_kept}
use Rattle.racl_runs.proofs.ShardRunLemmas.{shard_ends}
use Rattle.racl_runs.proofs.shard_run.run_shard.Goals as goal

pub returns-in-Err-keep_header-clause-told : goal.returns-in-Err-keep_header-clause-told
returns-in-Err-keep_header-clause-told g c =
    inl (
      early_fault c.args.asked.run.text.now _ _ c.in-Err-keep_header.fault (policy_facts c.in-Ok.policy) c.in-Ok.ensures.ok c.in-Err-keep_header.ensures.header,
      refl,
      λ other. refl,
    )

pub new-requires : goal.new-requires
new-requires g c = ready_says c.in-Ok-ready_with.ensures.policy c.in-Ok.ensures.ok

pub returns-in-Err-begin-clause-told : goal.returns-in-Err-begin-clause-told
returns-in-Err-begin-clause-told g c =
    let is = c.in-Err-begin.ensures.failed.2 in
    inl (early_header c.args.asked.run.text.now _ _ c.in-Ok-keep_header.order c.in-Err-begin.fault c.in-Ok-keep_header.ensures.header.0 is, refl, λ other. absurd (other is))

pub tell_capture-requires-clause-says : goal.tell_capture-requires-clause-says
tell_capture-requires-clause-says g c κs lives = ready_says c.in-Ok-ready_with.ensures.policy c.in-Ok.ensures.ok

pub tell_capture-requires-clause-front : goal.tell_capture-requires-clause-front
tell_capture-requires-clause-front g c κs lives = front_behind _ _ c.behind_header-start.ensures

pub tell_capture-requires-clause-input : goal.tell_capture-requires-clause-input
tell_capture-requires-clause-input g c κs lives = input_behind _ _ c.behind_header-start.ensures

pub tell_capture-requires-clause-saves : goal.tell_capture-requires-clause-saves
tell_capture-requires-clause-saves g c κs lives =
    none_kept g.S.Sink.bytes g.S.Sink.failures c.begin.new.self.files c.behind_header-start.result.order c.in-Ok-begin.ensures.got.1

pub returns-clause-told : goal.returns-clause-told
returns-clause-told g c =
    let (header, kept) = c.in-Ok-keep_header.ensures.header in
    let options = c.args.asked.run.options.now in
    shard_ends _ g.S.Sink.bytes g.S.Sink.failures options c.args.asked.shard c.args.asked.run.text.now _ _ _ _ _ _
    (ready_says c.in-Ok-ready_with.ensures.policy c.in-Ok.ensures.ok) c.in-Ok-keep_header.order header c.args.saves.now.files c.begin.new.self c.tell_capture.new.saver
    (subst (λ (h : List ℕ). HaveGot g.S.Sink.bytes h c.args.saves.now.files c.begin.new.self.files) (c.as_slice.ensures.value ∙ sym kept) c.in-Ok-begin.ensures.got.0)
    _ c.shard_over-shard.ensures _ _ c.tell_capture.result c.behind_header-start.ensures c.in-Ok-new.ensures c.tell_capture.ensures.told

pub returns-in-Err-begin-clause-write : goal.returns-in-Err-begin-clause-write
returns-in-Err-begin-clause-write g c = saver_failed _ _ _ _ c.in-Err-begin.fault refl c.in-Err-begin.ensures.failed.1 c.in-Err-begin.ensures.failed.2

pub returns-clause-write : goal.returns-clause-write
returns-clause-write g c = write_since _ _ _ _ _ _ c.tell_capture.result refl c.in-Ok-begin.ensures.failed.0 c.tell_capture.ensures.write
