-- Parts that come, where they are known.
use Rattle.std.proofs.Common.{◌∙◌, List, [], ◌++◌, Option, Some, None, ap, append_assoc, refl, sym}
use Rattle.capture_stream.specs.Arrivals.{Gives, Part}

pub gives_both : (before mid after : Option (List Part)) (xs ys : List Part) → Gives before mid xs → Gives mid after ys → Gives before after (xs ++ ys)
gives_both None mid after xs ys first second = tt
gives_both (Some all) None after xs ys first second = absurd first
gives_both (Some all) (Some left) None xs ys first second = absurd second
gives_both (Some all) (Some left) (Some rest) xs ys first second =
    first ∙ ap (λ (ps : List Part). xs ++ ps) second ∙ sym (append_assoc xs ys rest)

pub gives_none : (before : Option (List Part)) → Gives before before []
gives_none None = tt
gives_none (Some all) = refl
