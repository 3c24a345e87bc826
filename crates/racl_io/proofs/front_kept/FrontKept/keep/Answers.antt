use Rattle.std.proofs.Common.{◌∙◌, ◌≡◌, ◌≤◌, ◌+◌, ◌-◌, ap, arith, length, take}
use Rattle.racl_io.proofs.FrontLemmas.{kept_more}
use Rattle.racl_io.proofs.front_kept.FrontKept.keep.Goals as goal

pub returns-clause-front : goal.returns-clause-front
returns-clause-front g c =
    let kept = c.args.self.now in
    let bytes = c.args.bytes.now in
    let m = c.min.result in
    let same : kept.count + m - kept.count ≡ m = omega arith in
    let few : kept.count ≤ 4096 = kept.within in
    let within : kept.count ≤ length kept.front = omega (arith, kept.within) in
    kept_more kept.front c.copy_from_slice.new.self bytes _ kept.count m (c.copy_from_slice.ensures.after ∙ ap (λ k. take k bytes) same) within few c.min.ensures
