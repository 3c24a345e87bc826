use Rattle.std.proofs.Common.{◌≡◌, ◌+◌, Err, arith, inl, length, refl, subst}
use Rattle.std.proofs.lemmas.Result.{IfErr-weaker}
use Rattle.racl_io.proofs.TransferLemmas.{gave_fewer, within_of_err}
use Rattle.racl_runs.specs.Reads.{IsUnread}
use Rattle.racl_runs.proofs.ReadLemmas.{answers_whole, front_read, front_rest, unread_before, within_more, within_opened}
use Rattle.racl_runs.proofs.input_front.open_source.Goals as goal

pub returns-then-ended-clause-within : goal.returns-then-ended-clause-within
returns-then-ended-clause-within g c =
    let within = c.in-Ok.ensures.within in
    within_opened _ _ _ c.args.reader.now _ c.in-Ok.ended c.args.options.now _ c.open_whole.result c.open_whole.ensures.fault
    (record { gave = gave_fewer _ _ _ _ (omega arith) within.gave; failed = within.failed })

pub returns-in-Ok-read_behind_front-clause-fault : goal.returns-in-Ok-read_behind_front-clause-fault
returns-in-Ok-read_behind_front-clause-fault g c =
    let front = front_read _ _ _ _ _ _ c.new-bytes.ensures.items (omega arith) c.in-Ok.ensures.read in
    let rest = c.in-Ok-read_behind_front.ensures.ok in
    IfErr-weaker c.open_whole-in-Ok-read_behind_front.result _ _
    (λ fault answers. answers_whole c.args.options.now _ _ _ (Err fault) (front_rest _ _ _ _ _ front.0 rest) rest.ended rest.few answers) c.open_whole-in-Ok-read_behind_front.ensures.fault

pub returns-in-Ok-read_behind_front-clause-within : goal.returns-in-Ok-read_behind_front-clause-within
returns-in-Ok-read_behind_front-clause-within g c =
    let front = front_read _ _ _ _ _ _ c.new-bytes.ensures.items (omega arith) c.in-Ok.ensures.read in
    within_more _ _ c.args.reader.now c.read_until.new.reader _ _ c.open_whole-in-Ok-read_behind_front.result front.0 front.1 c.in-Ok.ensures.within.failed
    (within_opened _ _ _ _ _ _ c.args.options.now _ c.open_whole-in-Ok-read_behind_front.result c.open_whole-in-Ok-read_behind_front.ensures.fault c.in-Ok-read_behind_front.ensures.within)

pub returns-in-Err-read_behind_front-clause-fault : goal.returns-in-Err-read_behind_front-clause-fault
returns-in-Err-read_behind_front-clause-fault g c =
    let front = front_read _ _ _ _ _ _ c.new-bytes.ensures.items (omega arith) c.in-Ok.ensures.read in
    let fault = c.in-Err-read_behind_front.fault in
    let now = g.R.Source.bytes c.read_until.new.reader in
    let front_items = c.read_until.new.all.items in
    let none : length front_items ≡ 0 + length front_items = omega arith in
    inl (fault, refl, unread_before 0 _ now front_items fault front.0 (subst (λ n. IsUnread n now fault) none c.in-Err-read_behind_front.ensures.fault))

pub returns-in-Err-read_behind_front-clause-within : goal.returns-in-Err-read_behind_front-clause-within
returns-in-Err-read_behind_front-clause-within g c =
    let front = front_read _ _ _ _ _ _ c.new-bytes.ensures.items (omega arith) c.in-Ok.ensures.read in
    let within =
    within_more _ _ c.args.reader.now c.read_until.new.reader _ _ c.read_behind_front.result front.0 front.1 c.in-Ok.ensures.within.failed c.read_behind_front.ensures.within in
    within_of_err _ _ _ c.args.reader.now c.args.reader.now _ c.read_behind_front.result (Err c.in-Err-read_behind_front.fault) c.in-Err-read_behind_front.fault within.gave refl
    c.in-Err-read_behind_front.is refl within.failed
