-- The judge that was made is behind the handle.
use Rattle.std.proofs.Common.{◌∙◌, ap, inl, subst, sym}
use Rattle.racl_c.specs.Contents.{IsNewBy}
use Rattle.racl_c.specs.declared.handle.Place.{Place}
use Rattle.racl_c.proofs.racl_calls.racl_new_with.Goals as goal

pub returns-in-Ok-new : goal.returns-in-Ok-new
returns-in-Ok-new c =
    inl (
      c.was_done.ensures,
      record {
        choice = c.in-Some.choice;
        asked = c.in-Some.ensures;
        begun = subst (IsNewBy _ _ c.args.text.now c.in-Some.choice)
            (sym (c.put.ensures ∙ ap (λ (p : Place). p.content) c.in-Ok-new.ensures.ok)) c.in-Ok.ensures.made;
      },
    )
