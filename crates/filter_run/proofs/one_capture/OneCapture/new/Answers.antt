use Rattle.std.proofs.Common.{◌≡◌, length, refl, ◌∙◌}
use Rattle.filter_run.proofs.CaptureLemmas.{given_none}
use Rattle.filter_run.proofs.one_capture.OneCapture.new.Goals as goal

pub returns-clause-gave : goal.returns-clause-gave
returns-clause-gave g c =
    let size : c.len-read.result ≡ length c.args.start.front.items = c.len-read.ensures ∙ c.args.start.front.ok.0 in
    given_none g.R.Source.bytes g.R.Source.failures _ _ c.args.start.front.items c.new.ensures size refl refl c.requires.front c.requires.input c.requires.sound
