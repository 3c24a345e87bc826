use Rattle.std.proofs.Common.{◌∙◌, ap, inl, inr, subst, sym}
use Rattle.clap.specs.Walk.{texts}
use Rattle.clap.specs.Words.{HasKind, fault_of}
use Rattle.racl_options.specs.CommandLine.{racl}
use Rattle.racl_options.proofs.TaskLemmas.{version_is_asked}
use Rattle.racl_options.proofs.task_words.version_asked.Goals as goal

pub unreachable-requires : goal.unreachable-requires
unreachable-requires c =
    let bad = sym version_is_asked ∙ sym (ap (λ words. fault_of racl (texts words)) c.as_slice.ensures) ∙ c.in-Ok.ensures.ok.faultless in
    cc

pub returns : goal.returns
returns c =
    let asked = ap (λ words. fault_of racl (texts words)) c.as_slice.ensures ∙ version_is_asked in
    elim c.in-Err.ensures.refuses [
      | inl has ↦ subst (λ kinds. HasKind kinds c.in-Err.error) asked has
      | inr nothing ↦ let bad = sym asked ∙ nothing.1.faultless in cc
    ]
