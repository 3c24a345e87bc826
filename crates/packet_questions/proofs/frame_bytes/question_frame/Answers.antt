use Rattle.std.proofs.Common.{◌≡◌, ℕ, List, false, subst, sym, true}
use Rattle.std.specs.Prelude.{IsTrue}
use Rattle.packet_view.specs.Frames.{IsFrame}
use Rattle.packet_questions.specs.Frames.{frame_bytes, seen_facts}
use Rattle.packet_questions.specs.Questions.{question_facts}
use Rattle.packet_questions.proofs.frame_bytes.question_frame.Goals as goal

pub returns-else-is_seen-clause-unseen : goal.returns-else-is_seen-clause-unseen
returns-else-is_seen-clause-unseen c none is =
    let same : c.deref.result.now ≡ frame_bytes c.args.own (question_facts c.args.question.now) = cc (c.deref.ensures.value, c.in_ok-frame.ensures) in
    let shown = subst (λ (bytes : List ℕ). IsFrame bytes (record { number = c.args.question.now.tuple.interface; own = c.args.own })
    (seen_facts (question_facts c.args.question.now))) (sym same) is in
    let seen = c.view-seen.ensures.only (seen_facts (question_facts c.args.question.now)) shown in
    let yes = c.is_seen.ensures.1 (sym seen) in
    let bad : false ≡ true = subst IsTrue c.if-is_seen.false yes in
    cc
