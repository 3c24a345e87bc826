use Rattle.std.proofs.Common.{[], ◌∷◌, length, take, map, ℕ, List, sym, subst, ap, ◌∙◌, arith}
use Rattle.std.specs.Str.Lines.{lines}
use Rattle.std.proofs.lemmas.Iterator.Consumers.{YieldsList-end, YieldsList-turn}
use Rattle.std.proofs.lemmas.Iterator.Splits.{YieldsList-from_lines}
use Rattle.std.proofs.lemmas.List.{length_push, map-append, take_all}
use Rattle.std.proofs.lemmas.Result.{err_from_is_err_and}
use Rattle.acl_policy.specs.declared.policy.PolicyFault.{PolicyFault}
use Rattle.acl_policy.specs.Policies.{SayPolicy, SectionFacts, section_facts}
use Rattle.acl_policy.specs.inner.Reading.Policies.{LinesFail, draft_facts, policy_so_far}
use Rattle.acl_policy.proofs.PolicyLemmas.{LinesFail-take, SayPolicy-take}
use Rattle.acl_policy.proofs.policy_reading.read_lines.Goals as goal

pub loop-line-preserved : goal.loop-line-preserved
loop-line-preserved c =
    let turn = YieldsList-turn (YieldsList-from_lines c.args.text.now cc) c.loop-line.yielded _ c.loop-line.yielded_by _ _ c.in-Some.line c.in-Some.is c.next.ensures.steps in
    let added = rw c.as_bytes.ensures.value at c.in_ok-read_policy_line.ensures.ok in
    let count = length_push c.loop-line.yielded c.in-Some.line in
    let said = policy_so_far (draft_facts c.read_policy_line.new.draft) in
    let next = SayPolicy-take _ (lines c.args.text.now) (length c.loop-line.yielded) c.in-Some.line.now (draft_facts c.loop-line.draft) (draft_facts c.read_policy_line.new.draft) turn.0 turn.1 c.loop-line.invariant.reads added in
    record { counted = omega (arith, count); reads = subst (λ (n : ℕ). SayPolicy (take n (lines c.args.text.now)) said) (sym count) next }

pub returns-in_err-read_policy_line-clause-fault : goal.returns-in_err-read_policy_line-clause-fault
returns-in_err-read_policy_line-clause-fault c =
    let turn = YieldsList-turn (YieldsList-from_lines c.args.text.now cc) c.loop-line.yielded _ c.loop-line.yielded_by _ _ c.in-Some.line c.in-Some.is c.next.ensures.steps in
    let fails = rw c.as_bytes.ensures.value at c.in_err-read_policy_line.ensures.fault in
    let fault = LinesFail-take _ (lines c.args.text.now) (length c.loop-line.yielded) c.in-Some.line.now (draft_facts c.loop-line.draft) _ turn.0 turn.1 (omega arith) c.loop-line.invariant.reads fails in
    let given = err_from_is_err_and c.from_residual.result c.from_residual.ensures.1 in
    rw given.1 (subst (λ (f : PolicyFault). LinesFail (lines c.args.text.now) f) (sym given.2) fault)

pub returns-clause-ok : goal.returns-clause-ok
returns-clause-ok c =
    let draft = c.loop-line.draft in
    let end = YieldsList-end (YieldsList-from_lines c.args.text.now cc) c.loop-line.yielded _ c.loop-line.yielded_by _ _ c.in-None.is c.next.ensures.steps in
    let says : SayPolicy (lines c.args.text.now) (policy_so_far (draft_facts draft)) =
    subst (λ (ls : List (List ℕ)). SayPolicy ls (policy_so_far (draft_facts draft))) (ap (λ (n : ℕ). take n (lines c.args.text.now)) end.1 ∙ take_all (length (lines c.args.text.now)) (lines c.args.text.now) (omega arith)) c.loop-line.invariant.reads in
    subst (λ (ss : List SectionFacts). SayPolicy (lines c.args.text.now) (record { sections = ss }))
    (sym (ap (map section_facts) c.in_ok-push.ensures.items ∙ map-append section_facts draft.done.items (draft.current ∷ []))) says
