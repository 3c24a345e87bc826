use Rattle.std.proofs.Common.{inl, inr, subst, sym}
use Rattle.std.proofs.lemmas.Bool.{false≢true}
use Rattle.packet_view.specs.Captures.{piece_facts}
use Rattle.racl_system.proofs.MergeLemmas.{IsDone, no_cut}
use Rattle.racl_system.proofs.merged_files.is_cut_short.Goals as goal

pub returns-in-Whole : goal.returns-in-Whole
returns-in-Whole c =
    let piece = c.next_record.result in
    let done : IsDone (piece_facts piece) = elim c.in-Whole.is [
      | inl whole ↦ subst (λ p. IsDone (piece_facts p)) (sym whole.4) tt
      | inr long ↦ subst (λ p. IsDone (piece_facts p)) (sym long) tt
    ] in
    (λ no. absurd (false≢true no), λ cut. absurd (no_cut c.args.order c.args.bytes.now (piece_facts piece) c.next_record.ensures.shown done cut))
