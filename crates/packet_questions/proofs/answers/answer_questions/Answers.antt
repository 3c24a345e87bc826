use Rattle.std.proofs.Common.{◌≡◌, ◌∙◌, List, ℕ, ap, length, map, subst, sym}
use Rattle.std.proofs.lemmas.List.{length-map}
use Rattle.std.specs.Io.KnownBytes.{Appends}
use Rattle.packet_view.specs.Captures.{PacketFacts, packet_facts}
use Rattle.acl_policy.specs.Policies.{policy_facts}
use Rattle.session_state.specs.declared.verdict.Verdict.{Verdict}
use Rattle.racl_io.specs.Reports.{totals_of}
use Rattle.packet_questions.specs.Answers.{AreAnswers, answered_of, asked_facts, packet_asked, told_facts}
use Rattle.packet_questions.specs.declared.asked_packets.AskedPacket.{AskedPacket}
use Rattle.packet_questions.proofs.answers.answer_questions.Goals as goal

-- of each packet there is a verdict
pub answers_on-requires-clause-each : goal.answers_on-requires-clause-each
answers_on-requires-clause-each g c =
    let asked = c.in-Ok-judged_in.judged.asked.items in
    let listed : map packet_facts c.deref-2.result.now ≡ map packet_asked (map asked_facts asked) =
    ap (map packet_facts) c.deref-2.ensures.value ∙ c.in-Ok-packets_of.ensures ∙ ap (λ (them : List AskedPacket). map packet_asked (map asked_facts them)) c.deref.ensures.value in
    ap length c.deref-3.ensures.value ∙ c.in-Ok-judged_in.ensures.each
    ∙ sym (ap length listed ∙ length-map (map asked_facts asked) packet_asked ∙ length-map asked asked_facts)

pub returns-in-Ok-write_all-clause-ok : goal.returns-in-Ok-write_all-clause-ok
returns-in-Ok-write_all-clause-ok g c =
    let policy = policy_facts c.in-Ok.filter.policy in
    let text = c.args.text.now in
    let judged = c.in-Ok-judged_in.judged in
    let asked = map asked_facts judged.asked.items in
    let verdicts = judged.verdicts.items in
    let told = c.in-Ok-answers_on.told in
    let listed : map packet_facts c.in-Ok-packets_of.packets.items ≡ map packet_asked asked =
    c.in-Ok-packets_of.ensures ∙ ap (λ (them : List AskedPacket). map packet_asked (map asked_facts them)) c.deref.ensures.value in
    let shown : map packet_facts c.deref-2.result.now ≡ map packet_asked asked = ap (map packet_facts) c.deref-2.ensures.value ∙ listed in
    record {
      judged = record {
        policy = policy;
        says = c.in-Ok.ensures.ok.0;
        asked = asked;
        times = c.in-Ok.filter.times;
        lives = c.in-Ok.ensures.ok.1;
        verdicts = verdicts;
        are = c.in-Ok-judged_in.ensures.ok;
      };
      lines = told.text.items;
      told = subst (λ (ps : List PacketFacts). AreAnswers c.args.ask.now.explained (told_facts policy text ps verdicts) told.text.items) shown
          (subst (λ (vs : List Verdict). AreAnswers c.args.ask.now.explained (told_facts policy text (map packet_facts c.deref-2.result.now) vs) told.text.items) c.deref-3.ensures.value
          c.in-Ok-answers_on.ensures.told);
      behind = subst (λ (t : List ℕ). Appends (g.W.Sink.bytes c.args.writer.now) (g.W.Sink.bytes c.write_all.new.writer) t) c.deref-4.ensures.value c.in-Ok-write_all.ensures.whole;
      counted = c.in-Ok-answers_on.ensures.totals ∙ ap (λ (vs : List Verdict). totals_of vs (answered_of vs)) c.deref-3.ensures.value;
    }
