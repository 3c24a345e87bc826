use Rattle.std.proofs.Common.{◌≡◌, ◌∙◌, ◌+◌, arith, length, refl, sym}
use Rattle.std.proofs.lemmas.Bool.{eqb-true}
use Rattle.std.specs.Prelude.{IfOk}
use Rattle.flow_workers.specs.inner.Together.{HaveJudgedBatch}
use Rattle.flow_workers.proofs.BatchMerges.{may_merge, rest_of_one, rest_of_several, several_by}
use Rattle.flow_workers.proofs.TogetherLemmas.{only_worked}
use Rattle.flow_workers.proofs.workers.Workers.judge.Goals as goal
use Rattle.flow_workers.proofs.workers.Workers.judge.Goals.{then-count-self, else-count-self}

pub returns-then-is_alone : goal.returns-then-is_alone
returns-then-is_alone g c =
    let old = c.args.self.now in
    let alone = eqb-true old.setup.workers 1 (sym c.if-is_alone.ensures) in
    let one : length old.shares.items ≡ 1 = c.requires.rest.shares ∙ alone in
    record {
      by = refl;
      rest = λ packets rest. rest_of_one g.A.Shape g.B.Shape old _ c.again.ensures refl _
          (only_worked g.A.Shape g.B.Shape _ _ old.shares.items c.index_mut.result.now c.judge_by_one.new.share one
          (sym c.index_mut.ensures.value) c.in_ok-judge_by_one.ensures)
          packets rest alone _ refl _ _ (let n = c.count-count.ensures in omega arith);
    }

pub place_verdicts-requires : goal.place_verdicts-requires
place_verdicts-requires g c =
    let old = c.args.self.now in
    let now = c.if-count-self.self in
    let ran : (now.verdicts ≡ old.verdicts) × IfOk c.if-count-self.judged (λ judges. HaveJudgedBatch
    (record { setup = c.again.result; first = old.count; packets = c.args.packets }) old.shares.items now.shares.items judges.items) =
    elim c.if-count-self.branch [
      | then-count-self w ↦ rw (w.self-is, w.judged-is) (refl, w.judge_by_turns-judged.ensures)
      | else-count-self w ↦ rw (w.self-is, w.judged-is) (refl, w.judge_in_threads-judged.ensures)
    ] in
    let batch = rw c.in_ok-judges.was at ran.1 in
    let several = several_by _ c.requires.rest.sound.some c.if-is_alone.ensures in
    let may = may_merge g.A.Shape g.B.Shape old _ c.again.ensures refl now.shares.items batch.worked
    c.requires.packets c.requires.rest c.in_ok-judges.judges.items batch.noted several in (
      may.0,
      may.1,
      may.2,
      may.3,
      rw (c.as_slice-2.ensures.value, c.as_slice.ensures.value, c.replace-before.ensures.value, ran.0) may.4,
    )

pub returns : goal.returns
returns g c =
    let old = c.args.self.now in
    let now = c.if-count-self.self in
    let kept : (now.setup ≡ old.setup) × (now.verdicts ≡ old.verdicts) × (now.count ≡ old.count + c.count-count.result) =
    elim c.if-count-self.branch [
      | then-count-self w ↦ rw w.self-is (refl, refl, refl)
      | else-count-self w ↦ rw w.self-is (refl, refl, refl)
    ] in
    let ran : IfOk c.if-count-self.judged (λ judges. HaveJudgedBatch
    (record { setup = c.again.result; first = old.count; packets = c.args.packets }) old.shares.items now.shares.items judges.items) =
    elim c.if-count-self.branch [
      | then-count-self w ↦ rw (w.self-is, w.judged-is) w.judge_by_turns-judged.ensures
      | else-count-self w ↦ rw (w.self-is, w.judged-is) w.judge_in_threads-judged.ensures
    ] in
    let batch = rw c.in_ok-judges.was at ran in
    record {
      by = kept.0;
      rest = λ packets rest.
          let several = several_by _ rest.sound.some c.if-is_alone.ensures in
          rw kept.0 (rest_of_several g.A.Shape g.B.Shape old _ c.again.ensures refl now.shares.items batch.worked
          packets rest c.in_ok-judges.judges.items batch.noted several c.in_ok-self.field-0
          (rw (c.as_slice-2.ensures.value, c.as_slice.ensures.value, c.replace-before.ensures.value, kept.1) at c.in_ok-self.ensures)
          c.let_go_merged.new.shares c.let_go_merged.ensures _ _ (let n = c.count-count.ensures in let k = kept.2 in omega arith));
    }
