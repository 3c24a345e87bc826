-- The bucket is that of the kind's shape.
use Rattle.std.proofs.Common.{◌≡◌, ◌∙◌, ap, sym}
use Rattle.bihash_words.specs.Sizes.{bucket_of}
use Rattle.bihash_c.specs.Kinds.{sizes_in, words_in}
use Rattle.bihash_c.specs.declared.pair.Key.{Key}
use Rattle.bihash_c.specs.declared.options.Kind.{Kind}
use Rattle.bihash_c.specs.declared.options.Kind.TheVariants.{Two, LargeTwo, Five, LargeFive}
use Rattle.bihash_c.proofs.bucket_of_key.bucket_in.Goals as goal

of_kind : (key : Key) (kind met : Kind) → kind ≡ met
    → bucket_of (sizes_in met) (words_in met key) ≡ bucket_of (sizes_in kind) (words_in kind key)
of_kind key kind met is = ap (λ (it : Kind). bucket_of (sizes_in it) (words_in it key)) (sym is)

pub returns-in-Two : goal.returns-in-Two
returns-in-Two c =
    c.bucket_of.ensures.home ∙ ap (bucket_of (sizes_in Two)) c.two.ensures ∙ of_kind _ _ Two c.in-Two.is

pub returns-in-LargeTwo : goal.returns-in-LargeTwo
returns-in-LargeTwo c =
    c.bucket_of-in-LargeTwo.ensures.home ∙ ap (bucket_of (sizes_in LargeTwo)) c.two-in-LargeTwo.ensures
    ∙ of_kind _ _ LargeTwo c.in-LargeTwo.is

pub returns-in-Five : goal.returns-in-Five
returns-in-Five c = c.bucket_of-in-Five.ensures.home ∙ of_kind _ _ Five c.in-Five.is

pub returns-in-LargeFive : goal.returns-in-LargeFive
returns-in-LargeFive c = c.bucket_of-in-LargeFive.ensures.home ∙ of_kind _ _ LargeFive c.in-LargeFive.is
