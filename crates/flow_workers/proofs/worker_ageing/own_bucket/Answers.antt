use Rattle.std.proofs.Common.{◌≡◌, ◌∙◌, ◌+◌, ◌-◌, ◌*◌, ◌/◌, ◌%◌, ap, arith, sym}
use Rattle.std.proofs.Math.Nat.{mod-add-div'}
use Rattle.std.proofs.lemmas.Nat.{mod-mul-add}
use Rattle.flow_workers.proofs.worker_ageing.own_bucket.Goals as goal

pub returns-then-own-buckets-clause-own : goal.returns-then-own-buckets-clause-own
returns-then-own-buckets-clause-own g c =
    let at = c.args.at in
    let n = c.args.own.now.workers in
    let w = c.args.own.now.worker in
    let split = mod-add-div' at n in
    sym (mod-mul-add (at / n) n w c.requires.few) ∙ ap (λ k. k % n) (let e : at / n * n + w ≡ at - at % n + w = omega arith in e)

pub returns-then-own-buckets-2-clause-own : goal.returns-then-own-buckets-2-clause-own
returns-then-own-buckets-2-clause-own g c =
    let n = c.args.own.now.workers in
    let w = c.args.own.now.worker in
    sym (mod-mul-add 0 n w c.requires.few) ∙ ap (λ k. k % n) (let e : 0 * n + w ≡ w = omega arith in e)
