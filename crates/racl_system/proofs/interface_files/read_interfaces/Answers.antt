use Rattle.std.proofs.Common.{◌∙◌, ◌≡◌, ◌+◌, ◌<◌, ◌⊎◌, [], ◌∷◌, ◌++◌, ap, arith, inr, refl, subst, sym, length}
use Rattle.std.specs.Prelude.{IfSome}
use Rattle.packet_view.specs.Bytes.{AreBytes}
use Rattle.racl_io.specs.Inputs.{most_bytes}
use Rattle.racl_io.specs.declared.fault.Fault.TheVariants as fault
use Rattle.racl_report.specs.InterfaceInputs.{AreAllBytes, bytes_in}
use Rattle.racl_io.specs.declared.capture_bytes.CaptureBytes.{CaptureBytes}
use Rattle.racl_system.specs.InterfaceFiles.{AreAllOf, AreUnread, given_by}
use Rattle.racl_system.proofs.InterfaceFileLemmas.{bytes_more, fit_more, next_given, over_stays, read_more, unread_there}
use Rattle.racl_system.proofs.interface_files.read_interfaces.Goals as goal

pub returns-in_default-clause-fault : goal.returns-in_default-clause-fault
returns-in_default-clause-fault g c =
    let many : most_bytes < c.args.text = omega (arith, c.in_default.ensures) in
    inr (inr (refl, over_stays c.args.text (given_by g.R.Read.remaining c.args.captures.items) many))

pub returns-in-Err-clause-fault : goal.returns-in-Err-clause-fault
returns-in-Err-clause-fault g c =
    let from = c.in-Some-capture.capture in
    let why = c.in-Err.fault in
    let most = c.loop-capture.most in
    let inv = c.loop-capture.invariant in
    let gives = c.into_iter-capture-iterator.ensures.into_iter_gives in
    let next = next_given c.into_iter-capture-iterator.result c.loop-capture.capture-iterator c.next.new.self c.args.captures.items c.loop-capture.yielded from gives.0 (gives.1 ∙ c.args.captures.ok.0) c.loop-capture.yielded_by c.in-Some-capture.ensures.steps in
    let device : c.new-watched.result.source.inner ≡ from.reader = ap (λ d. d.inner) (c.new-watched.ensures ∙ c.new.ensures) in
    let own : (why ≡ fault.Memory) ⊎ ((why ≡ fault.Read) ⊎ ((why ≡ fault.TooLarge) × IfSome (g.R.Read.remaining from.reader) (λ bytes. most < length bytes))) =
    subst (λ r. (why ≡ fault.Memory) ⊎ ((why ≡ fault.Read) ⊎ ((why ≡ fault.TooLarge) × IfSome (g.R.Read.remaining r) (λ bytes. most < length bytes)))) device
    c.in-Err.ensures.fault in
    subst (λ cs. AreUnread c.args.text (given_by g.R.Read.remaining cs) why) (sym next.1)
    (unread_there g.R.Read.remaining c.args.text c.loop-capture.yielded next.0 from c.loop-capture.all.items most why inv.2 inv.0 own)

pub loop-capture-preserved : goal.loop-capture-preserved
loop-capture-preserved g c =
    let from = c.in-Some-capture.capture in
    let bytes = c.in-Ok.bytes in
    let all = c.loop-capture.all.items in
    let capture : CaptureBytes = record { interface = from.interface; bytes = bytes } in
    let inv = c.loop-capture.invariant in
    let pushed : c.push.new.self.items ≡ all ++ capture ∷ [] = c.in_ok-push.ensures.items in
    let device : c.new-watched.result.source.inner ≡ from.reader = ap (λ d. d.inner) (c.new-watched.ensures ∙ c.new.ensures) in
    let whole : IfSome (g.R.Read.remaining from.reader) (λ own. bytes.items ≡ own) =
    subst (λ r. IfSome (g.R.Read.remaining r) (λ own. bytes.items ≡ own)) device c.in-Ok.ensures.all in
    let fit : AreBytes bytes.items = λ place. c.in-Ok.ensures.fit place in
    let total : bytes_in c.push.new.self.items ≡ bytes_in all + length bytes.items = ap bytes_in pushed ∙ bytes_more all capture in
    let more : AreAllOf (given_by g.R.Read.remaining (c.loop-capture.yielded ++ from ∷ [])) (all ++ capture ∷ []) =
    read_more g.R.Read.remaining c.loop-capture.yielded all from capture inv.2 refl whole in (
      omega (arith, inv.0, total, c.in-Ok.ensures.few, c.len-most.ensures, bytes.ok),
      subst AreAllBytes (sym pushed) (fit_more all capture inv.1 fit),
      subst (AreAllOf (given_by g.R.Read.remaining (c.loop-capture.yielded ++ from ∷ []))) (sym pushed) more,
    )
