use Rattle.std.proofs.Common.{◌∙◌, ap, arith, refl, subst, sym}
use Rattle.std.proofs.lemmas.Bool.{eqb-true}
use Rattle.flow_workers.specs.Callers.{AreIdle}
use Rattle.flow_workers.proofs.BatchMerges.{handed_by_one, handed_by_several, several_by}
use Rattle.flow_workers.proofs.workers.Workers.hand_over.Goals as goal

pub let_go-requires : goal.let_go-requires
let_go-requires g c =
    let rest = c.requires.2 in
    subst (λ s. AreIdle g.A.Shape g.B.Shape c.args.self.now.setup.tables.now s.callers) (sym c.index_mut.ensures.value)
    (rest.each 0 c.index_mut.result.now (let some = rest.sound.some in omega arith)).idle

pub returns-then-is_alone : goal.returns-then-is_alone
returns-then-is_alone g c =
    handed_by_one g.A.Shape g.B.Shape c.args.self.now (eqb-true _ 1 (sym c.if-is_alone.ensures)) c.index_mut.result.now c.let_go.new.share
    c.index_mut.ensures.value c.let_go.result.items c.let_go.ensures _ refl

pub returns : goal.returns
returns g c =
    handed_by_several g.A.Shape g.B.Shape c.args.self.now (several_by _ c.requires.2.sound.some c.if-is_alone.ensures) c.replace.new.dest
    (ap (λ v. v.items) c.replace.ensures.after ∙ c.new.ensures.items) c.replace.result.items (ap (λ v. v.items) c.replace.ensures.value)
