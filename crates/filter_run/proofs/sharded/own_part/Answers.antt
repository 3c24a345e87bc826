use Rattle.std.proofs.Common.{◌+◌, List, Some, refl, subst, ℕ}
use Rattle.capture_stream.specs.Found.{HaveFound}
use Rattle.capture_shards.specs.OwnRecords.{AreOfOwn, own_facts}
use Rattle.capture_shards.specs.inner.OwnTests.{own_of}
use Rattle.filter_run.specs.declared.batch.Batch.{Batch}
use Rattle.filter_run.proofs.ShardedLemmas.{own_batch, own_latest, own_whole}
use Rattle.filter_run.proofs.sharded.own_part.Goals as goal

pub returns-clause-whole : goal.returns-clause-whole
returns-clause-whole c =
    let whole = c.args.batch.now in
    let own = own_of c.args.shard.now in
    let found = own_facts c.in_ok-bytes.field-0 in
    let mine : Batch = record { others = whole.others; interface = whole.interface; order = whole.order; numbers = Some c.in_ok-bytes.field-0.numbers; bytes = c.new-bytes.result; found = c.find_records-found.result } in
    let are = subst (λ (b : List ℕ). AreOfOwn own (whole.others + 1) whole.order b found) c.records.ensures c.in_ok-bytes.ensures in
    let have = subst (λ (b : List ℕ). HaveFound whole.order b c.find_records-found.result) c.bytes.ensures c.find_records-found.ensures in
    own_whole own whole mine c.requires found are c.new-bytes.ensures refl refl have refl

pub returns-clause-own : goal.returns-clause-own
returns-clause-own c =
    let whole = c.args.batch.now in
    let own = own_of c.args.shard.now in
    let found = own_facts c.in_ok-bytes.field-0 in
    let mine : Batch = record { others = whole.others; interface = whole.interface; order = whole.order; numbers = Some c.in_ok-bytes.field-0.numbers; bytes = c.new-bytes.result; found = c.find_records-found.result } in
    let are = subst (λ (b : List ℕ). AreOfOwn own (whole.others + 1) whole.order b found) c.records.ensures c.in_ok-bytes.ensures in
    let have = subst (λ (b : List ℕ). HaveFound whole.order b c.find_records-found.result) c.bytes.ensures c.find_records-found.ensures in
    own_batch own whole mine c.requires found are c.new-bytes.ensures refl refl have refl

pub returns-clause-latest : goal.returns-clause-latest
returns-clause-latest c =
    let whole = c.args.batch.now in
    let own = own_of c.args.shard.now in
    let found = own_facts c.in_ok-bytes.field-0 in
    let mine : Batch = record { others = whole.others; interface = whole.interface; order = whole.order; numbers = Some c.in_ok-bytes.field-0.numbers; bytes = c.new-bytes.result; found = c.find_records-found.result } in
    let are = subst (λ (b : List ℕ). AreOfOwn own (whole.others + 1) whole.order b found) c.records.ensures c.in_ok-bytes.ensures in
    let have = subst (λ (b : List ℕ). HaveFound whole.order b c.find_records-found.result) c.bytes.ensures c.find_records-found.ensures in
    own_latest own whole mine c.requires found are c.new-bytes.ensures refl refl have
