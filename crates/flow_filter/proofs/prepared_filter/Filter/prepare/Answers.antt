use Rattle.std.proofs.Common.{◌≡◌, ◌∙◌, ◌+◌, ◌++◌, [], ◌∷◌, ℕ, List, ap, arith, length, subst, sym, take}
use Rattle.std.specs.List.{AllZip}
use Rattle.std.proofs.lemmas.List.{take_more}
use Rattle.std.proofs.lemmas.Slice.Zip.{all_zipped_more}
use Rattle.acl_policy.specs.declared.policy.Section.{Section}
use Rattle.flow_filter.specs.RuleIndexes.{ArePrepared}
use Rattle.flow_filter.specs.declared.rule_indexes.RuleIndexes.{RuleIndexes}
use Rattle.flow_filter.proofs.prepared_filter.Filter.prepare.Goals as goal

-- what holds of each section so far and its rules, and of the next ones, holds of one more
one_more : (P : Section → RuleIndexes → Type 0) (sections : List Section) (i : ℕ) (section : Section)
    (all new : List RuleIndexes) (one : RuleIndexes) → take (i + 1) sections ≡ take i sections ++ section ∷ []
    → new ≡ all ++ one ∷ [] → AllZip P (take i sections) all → P section one → AllZip P (take (i + 1) sections) new
one_more P sections i section all new one taken pushed zipped is =
    subst (λ (ss : List Section). AllZip P ss new) (sym taken)
    (subst (AllZip P (take i sections ++ section ∷ [])) (sym pushed)
    (all_zipped_more P (take i sections) all section one zipped is))

pub loop-section-preserved : goal.loop-section-preserved
loop-section-preserved c =
    let sections = c.args.self.now.policy.sections.items in
    let i = c.loop-section.section-index in
    let section = c.section-item.result in
    let same : c.deref-section-items.result.now ≡ sections = c.deref-section-items.ensures.value in
    let read = rw same at c.section-item.is in
    let more : take (i + 1) sections ≡ take i sections ++ section ∷ [] =
    take_more sections i section (omega (arith, ap length same))
    ∙ ap (λ (s : Section). take i sections ++ s ∷ []) (sym read) in
    one_more ArePrepared sections i section c.loop-section.all.items _ c.in_ok-prepare_section.field-0 more
    c.in_ok-push.ensures.items c.loop-section.invariant c.in_ok-prepare_section.ensures
