use Rattle.std.proofs.Common.{◌≢◌, ◌+◌, ◌++◌, ◌≡◌, [], ◌∷◌, length, take, map, ℕ, List, refl, sym, subst, ap, ◌∙◌, arith}
use Rattle.std.specs.Str.Lines.{lines}
use Rattle.std.proofs.lemmas.Iterator.Consumers.{YieldsList-end, YieldsList-turn}
use Rattle.std.proofs.lemmas.Iterator.Splits.{YieldsList-from_lines}
use Rattle.std.proofs.lemmas.List.{length_push, map-append, take_all}
use Rattle.acl_policy.specs.declared.policy.PolicyFault.TheVariants.{Memory}
use Rattle.acl_policy.specs.Policies.{SayPolicy}
use Rattle.acl_policy.specs.inner.Reading.Policies.{DraftFacts, draft_facts}
use Rattle.acl_policy.proofs.ReadingLaws.{nothing, nothing_said}
use Rattle.policy_check.specs.Complaints.{AreSorted, ComplaintFacts, complaint_facts}
use Rattle.policy_check.specs.declared.policy_checking.Complaint.{Complaint}
use Rattle.policy_check.proofs.SortedLemmas.{AreAmid, amid_right, amid_wrong}
use Rattle.policy_check.proofs.policy_checking.check_lines.Goals as goal

pub loop-line-init : goal.loop-line-init
loop-line-init c = record {
  counted = refl;
  sorted = subst (λ (d : DraftFacts). AreAmid (lines c.args.text.now) 0 (map complaint_facts c.new-complaints.result.items) d) (sym c.empty_draft-draft.ensures)
      (subst (λ (cs : List Complaint). AreAmid (lines c.args.text.now) 0 (map complaint_facts cs) nothing) (sym c.new-complaints.ensures.items) ([], refl, nothing_said));
}

pub loop-line-preserved-in-Ok : goal.loop-line-preserved-in-Ok
loop-line-preserved-in-Ok c =
    let texts = lines c.args.text.now in
    let k = length c.loop-line.yielded in
    let turn = YieldsList-turn (YieldsList-from_lines c.args.text.now cc) c.loop-line.yielded _ c.loop-line.yielded_by _ _ c.in-Some.line c.in-Some.is c.next.ensures.steps in
    let added = rw c.as_bytes-line.ensures.value at c.in-Ok.ensures.ok in
    let count = length_push c.loop-line.yielded c.in-Some.line in
    let next = draft_facts c.read_policy_line.new.draft in
    let cs = map complaint_facts c.loop-line.complaints.items in
    record {
      counted = omega (arith, count);
      sorted = subst (λ (n : ℕ). AreAmid texts n cs next) (sym count)
          (amid_right _ texts k c.in-Some.line.now cs (draft_facts c.loop-line.draft) next turn.0 turn.1 c.loop-line.invariant.sorted added);
    }

pub loop-line-preserved : goal.loop-line-preserved
loop-line-preserved c =
    let texts = lines c.args.text.now in
    let k = length c.loop-line.yielded in
    let turn = YieldsList-turn (YieldsList-from_lines c.args.text.now cc) c.loop-line.yielded _ c.loop-line.yielded_by _ _ c.in-Some.line c.in-Some.is c.next.ensures.steps in
    let count = length_push c.loop-line.yielded c.in-Some.line in
    let number = c.loop-line.number + 1 in
    let found = c.explained-found.result in
    let cs = map complaint_facts c.loop-line.complaints.items in
    let other : c.in-Err.fault ≢ Memory = c.is_memory.ensures c.if-is_memory.false in
    let fails = rw c.as_bytes-line.ensures.value at c.in-Err.ensures.fault in
    let why = rw c.as_bytes-line.ensures.value at c.explained-found.ensures in
    let told : ComplaintFacts = record { line = number; reason = found.reason; word = found.word.now } in
    let amid = amid_wrong number texts k c.in-Some.line.now cs (draft_facts c.loop-line.draft) c.in-Err.fault found.reason found.word.now turn.0 turn.1 (omega arith)
    c.loop-line.invariant.sorted fails other why in
    let pushed : map complaint_facts c.push.new.self.items ≡ cs ++ told ∷ [] =
    ap (map complaint_facts) c.in_ok-push-in-Err-2.ensures.items ∙ map-append complaint_facts c.loop-line.complaints.items _ in
    record {
      counted = omega (arith, count);
      sorted = subst (λ (n : ℕ). AreAmid texts n (map complaint_facts c.push.new.self.items) (draft_facts c.read_policy_line.new.draft)) (sym count)
          (subst (λ (ds : List ComplaintFacts). AreAmid texts (k + 1) ds (draft_facts c.read_policy_line.new.draft)) (sym pushed)
          (subst (λ (d : DraftFacts). AreAmid texts (k + 1) (cs ++ told ∷ []) d) (sym (c.in-Err.ensures.stays other)) amid));
    }

pub returns : goal.returns
returns c =
    let texts = lines c.args.text.now in
    let cs = map complaint_facts c.loop-line.complaints.items in
    let end = YieldsList-end (YieldsList-from_lines c.args.text.now cc) c.loop-line.yielded _ c.loop-line.yielded_by _ _ c.in-None.is c.next.ensures.steps in
    let whole : take (length c.loop-line.yielded) texts ≡ texts = ap (λ (n : ℕ). take n texts) end.1 ∙ take_all (length texts) texts (omega arith) in
    let amid = c.loop-line.invariant.sorted in
    (amid.0, subst (λ (ls : List (List ℕ)). AreSorted 0 [] ls cs amid.0) whole amid.1, subst (SayPolicy amid.0) (sym c.in_ok-policy.ensures) amid.2)
