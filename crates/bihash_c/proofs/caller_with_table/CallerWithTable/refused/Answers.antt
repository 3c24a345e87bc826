use Rattle.std.proofs.Common.{sym, subst}
use Rattle.bihash_words.specs.Sizes.{sizes_of}
use Rattle.bihash_c.specs.CallersWithTable.{IsEndTold}
use Rattle.bihash_c.specs.declared.end_of_table.EndFault.{EndFault}
use Rattle.bihash_c.proofs.LoneAnswers.{told_contended, told_strangers}
use Rattle.bihash_c.proofs.caller_with_table.CallerWithTable.refused.Goals as goal
use Rattle.bihash_c.proofs.caller_with_table.CallerWithTable.refused.Goals.{then-is_lone, else-is_lone}

pub returns : goal.returns
returns g c =
    let z = sizes_of g.S.Shape in
    let by = λ (fault : EndFault). IsEndTold z c.args.self fault c.is_lone.new.self in
    elim c.if-is_lone.branch [
      | then-is_lone w ↦ subst by (sym w.fault-is) (told_contended z _ _ _ c.is_lone.ensures w.if-is_lone.true)
      | else-is_lone w ↦ subst by (sym w.fault-is) (told_strangers z _ _ _ c.is_lone.ensures w.if-is_lone.false)
    ]
