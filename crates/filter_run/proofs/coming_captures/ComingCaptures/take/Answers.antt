use Rattle.std.proofs.Common.{◌∙◌, ap, arith, nat_eq, refl}
use Rattle.std.specs.Prelude.{set}
use Rattle.std.proofs.lemmas.List.{set-get_or}
use Rattle.filter_run.proofs.OwnLemmas.{none_of, some_of}
use Rattle.filter_run.proofs.TakeLemmas.{bytes_few, bytes_taken, end_taken, take_few, take_lane}
use Rattle.filter_run.proofs.coming_captures.ComingCaptures.take.Goals as goal

pub returns-in-Ok-clause-taken : goal.returns-in-Ok-clause-taken
returns-in-Ok-clause-taken g c = λ turns after.
    let arrival = c.args.arrival.now in
    let old = c.args.self.now in
    let lane = c.index_mut-lane.result.now in
    let there = c.index_mut-lane.ensures.value in
    let none = none_of arrival.bytes.items _ (c.is_empty.ensures ∙ ap (λ n. nat_eq n 0) arrival.bytes.ok.0) c.if-is_empty.true in
    end_taken turns old after c.requires.whole arrival lane _ _ none (omega arith) c.requires.few.0 refl
    (ap (λ l. set old.lanes.items arrival.interface l) there ∙ set-get_or old.lanes.items arrival.interface lane) refl c.no_packets.ensures
    (c.in-Ok.ensures _ _ (take_lane turns old after c.requires.whole arrival.interface lane (omega arith) there))

pub take_bytes-requires-clause-few : goal.take_bytes-requires-clause-few
take_bytes-requires-clause-few g c =
    let (turns, after) = c.requires.may in
    let few = take_few turns c.args.self.now after c.requires.whole c.args.arrival.now.interface c.index_mut-lane.result.now (omega arith) c.index_mut-lane.ensures.value in
    let short = c.requires.few.0 in
    (c.requires.few.1, omega arith)

pub long_behind-self-requires : goal.long_behind-self-requires
long_behind-self-requires g c =
    let (turns, after) = c.requires.may in
    let arrival = c.args.arrival.now in
    let old = c.args.self.now in
    let some = some_of arrival.bytes.items _ (c.is_empty.ensures ∙ ap (λ n. nat_eq n 0) arrival.bytes.ok.0) c.if-is_empty.false in
    let lane = take_lane turns old after c.requires.whole arrival.interface c.index_mut-lane.result.now (omega arith) c.index_mut-lane.ensures.value in
    let few = bytes_few turns old after c.requires.whole arrival c.take_bytes.new.lane c.in-Ok-take_bytes.batch some (omega arith) (c.in-Ok-take_bytes.ensures _ _ lane) c.requires.few.0 in
    omega arith

pub returns-clause-taken : goal.returns-clause-taken
returns-clause-taken g c = λ turns after.
    let arrival = c.args.arrival.now in
    let old = c.args.self.now in
    let some = some_of arrival.bytes.items _ (c.is_empty.ensures ∙ ap (λ n. nat_eq n 0) arrival.bytes.ok.0) c.if-is_empty.false in
    let lane = take_lane turns old after c.requires.whole arrival.interface c.index_mut-lane.result.now (omega arith) c.index_mut-lane.ensures.value in
    bytes_taken turns old after c.requires.whole arrival c.take_bytes.new.lane c.in-Ok-take_bytes.batch some (omega arith) (c.in-Ok-take_bytes.ensures _ _ lane) _ c.requires.few.0
    c.long_behind-self.ensures refl refl refl
