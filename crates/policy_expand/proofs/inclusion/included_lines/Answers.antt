use Rattle.std.proofs.Common.{List, map, subst, sym}
use Rattle.policy_expand.specs.Inclusions.{AllStand, AreOrdinary, StandsOnce, file_facts}
use Rattle.policy_expand.specs.Sources.{source_facts}
use Rattle.policy_expand.specs.declared.file_lines.SourceLine.{SourceLine}
use Rattle.policy_expand.proofs.InclusionLemmas.{whole_deeper, whole_ordinary}
use Rattle.policy_expand.proofs.inclusion.included_lines.Goals as goal

pub loop-preserved : goal.loop-preserved
loop-preserved c =
    let files = map file_facts c.args.files.now in
    let next = map source_facts c.in_ok-lines.lines.items in
    let once : AllStand (StandsOnce files) (map source_facts c.loop.lines.items) next =
    subst (λ (ls : List SourceLine). AllStand (StandsOnce files) (map source_facts ls) next) c.as_slice-in-loop.ensures.value c.in_ok-lines.ensures in
    record {
      whole = λ whole is. c.loop.invariant.whole whole (whole_deeper files (map source_facts c.loop.lines.items) next whole once is);
      ordinary = λ first. absurd (c.in-Some.ensures.some
          (subst (λ (ls : List SourceLine). AreOrdinary (map source_facts ls)) (sym c.as_slice.ensures.value) (c.loop.invariant.ordinary first)));
    }

pub returns-in_default-clause-ok : goal.returns-in_default-clause-ok
returns-in_default-clause-ok c =
    let ordinary : AreOrdinary (map source_facts c.loop.lines.items) =
    subst (λ (ls : List SourceLine). AreOrdinary (map source_facts ls)) c.as_slice.ensures.value (c.first_include.ensures.none c.in_default.is) in
    c.loop.invariant.whole (map source_facts c.loop.lines.items) (whole_ordinary (map file_facts c.args.files.now) (map source_facts c.loop.lines.items) ordinary)

pub returns-in-None-clause-ok : goal.returns-in-None-clause-ok
returns-in-None-clause-ok c =
    let ordinary : AreOrdinary (map source_facts c.loop.lines.items) =
    subst (λ (ls : List SourceLine). AreOrdinary (map source_facts ls)) c.as_slice-2.ensures.value (c.first_include-2.ensures.none c.in-None.is) in
    c.loop.invariant.whole (map source_facts c.loop.lines.items) (whole_ordinary (map file_facts c.args.files.now) (map source_facts c.loop.lines.items) ordinary)
