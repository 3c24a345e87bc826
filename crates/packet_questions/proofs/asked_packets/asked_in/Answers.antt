use Rattle.std.proofs.Common.{◌≡◌, ◌∙◌, ◌+◌, ◌-◌, ◌++◌, ℕ, List, [], ◌∷◌, ap, arith, drop, length, map, rules, subst, sym, take}
use Rattle.std.proofs.lemmas.List.{map-append}
use Rattle.acl_policy.specs.Policies.{policy_facts}
use Rattle.acl_policy.specs.Words.{words_of}
use Rattle.packet_questions.specs.Answers.{AskedFacts, asked_facts, words_of_each}
use Rattle.packet_questions.specs.Asks.{texts}
use Rattle.packet_questions.proofs.ListLaws.{HaveCome, comes_to_end, front_text, goes_on_by, is_fault, no_text, same_length}
use Rattle.packet_questions.proofs.asked_packets.asked_in.Goals as goal

pub returns-in-Err-clause-fault : goal.returns-in-Err-clause-fault
returns-in-Err-clause-fault c =
    let policy = policy_facts c.args.filter.now.policy in
    let all = words_of_each (texts c.args.said.now) in
    let asked = map asked_facts c.texts.asked.items in
    let rest = words_of_each (texts (take (length c.texts.rest.now - 1) (drop 1 c.texts.rest.now))) in
    let front = front_text c.texts.rest.now _ c.texts-test.ensures ∙ ap (λ (b : List ℕ). words_of b ∷ rest) (sym c.as_bytes.ensures.value) in
    let come = subst (λ (ws : List (List (List ℕ))). HaveCome policy all asked c.texts.before ws) front c.texts.invariant in
    let count = same_length c.texts.asked.items in
    is_fault policy all asked c.texts.before (words_of c.as_bytes.result.now) rest (c.len.result + 1) c.in-Err.fault come (omega (arith, count)) c.in-Err.ensures.fault

pub texts-preserved : goal.texts-preserved
texts-preserved c =
    let policy = policy_facts c.args.filter.now.policy in
    let all = words_of_each (texts c.args.said.now) in
    let asked = map asked_facts c.texts.asked.items in
    let rest = words_of_each (texts (take (length c.texts.rest.now - 1) (drop 1 c.texts.rest.now))) in
    let front = front_text c.texts.rest.now _ c.texts-test.ensures ∙ ap (λ (b : List ℕ). words_of b ∷ rest) (sym c.as_bytes.ensures.value) in
    let come = subst (λ (ws : List (List (List ℕ))). HaveCome policy all asked c.texts.before ws) front c.texts.invariant in
    let items : c.push.new.self.items ≡ c.texts.asked.items ++ c.in-Ok.one ∷ [] = search rules in
    let both : map asked_facts c.push.new.self.items ≡ asked ++ asked_facts c.in-Ok.one ∷ [] =
    ap (map asked_facts) items ∙ map-append asked_facts c.texts.asked.items (c.in-Ok.one ∷ []) in
    subst (λ (found : List AskedFacts). HaveCome policy all found c.in-Ok.one.question.moment rest) (sym both)
    (goes_on_by policy all asked c.texts.before (words_of c.as_bytes.result.now) rest (asked_facts c.in-Ok.one) come c.in-Ok.ensures.ok)

pub returns-clause-ok : goal.returns-clause-ok
returns-clause-ok c =
    let policy = policy_facts c.args.filter.now.policy in
    let all = words_of_each (texts c.args.said.now) in
    let asked = map asked_facts c.texts.asked.items in
    comes_to_end policy all asked c.texts.before
    (subst (λ (ws : List (List (List ℕ))). HaveCome policy all asked c.texts.before ws) (no_text c.texts.rest.now c.texts-test.ensures) c.texts.invariant)
