-- One capture behind its header: what is known after each read.
use Rattle.std.proofs.Common.{◌≡◌, ◌≢◌, ◌∙◌, ◌≤◌, ◌<◌, ◌+◌, ◌-◌, ◌^◌, ℕ, Bool, false, true, true≢false, ltb, List, [], ◌∷◌, ◌++◌, IfSome, None, Option, Some, ap, append-nil, append_assoc, arith, inl, inr, length, refl, subst, sym, take}
use Rattle.std.proofs.lemmas.Bool.{ltb-false, ltb-true}
use Rattle.std.proofs.lemmas.List.{length-append, take-append-drop}
use Rattle.std.proofs.KnownBytes.{Consumes-kept, Consumes-nil, Consumes-trans}
use Rattle.std.specs.Io.KnownBytes.{Consumes}
use Rattle.packet_view.specs.Captures.{AreRecords, IsEnd, IsTooLong, RecordFacts, end_of, kept_length, kept_limit}
use Rattle.packet_view.specs.Fronts.{Stops}
use Rattle.packet_view.specs.RecordLists.{records_from}
use Rattle.packet_view.specs.declared.capture.Order.{Order}
use Rattle.packet_view.specs.declared.records_at_front.Stop.{Stop}
use Rattle.packet_view.specs.declared.records_at_front.Stop.TheVariants.{End, TooLong}
use Rattle.packet_view.proofs.FrontLemmas.{records_appended, records_joined}
use Rattle.packet_view.proofs.RecordLemmas.{number_from-append}
use Rattle.packet_view.proofs.RecordListLemmas.{packets_count, records_within}
use Rattle.racl_io.specs.Buffers.{held_by}
use Rattle.racl_io.specs.Inputs.{most_bytes}
use Rattle.racl_io.specs.Tellings.{told_alone}
use Rattle.racl_io.specs.Transfers.{GaveAtMost}
use Rattle.racl_io.specs.declared.fault.Fault.{Fault}
use Rattle.racl_io.specs.declared.fault.Fault.TheVariants as fault
use Rattle.racl_io.specs.declared.totals_and_truncation.Captured.{Captured}
use Rattle.racl_io.proofs.TransferLemmas.{gave_more}
use Rattle.racl_io.specs.declared.read_buffer.ReadBuffer.{ReadBuffer}
use Rattle.capture_stream.specs.Found.{HaveFound, behind_of}
use Rattle.capture_stream.specs.Parting.{HasSettled, rest_in}
use Rattle.capture_stream.specs.declared.found_records.Found.{Found}
use Rattle.capture_stream.specs.Lives.{with_read}
use Rattle.capture_stream.specs.inner.Partings.{HasGot, IsBegun, IsCutAt, IsLost, IsUnread}
use Rattle.capture_stream.specs.declared.record_parting.RecordParting.{RecordParting}
use Rattle.filter_run.specs.Batches.{BatchFacts, IsWhole, batch_facts, listed}
use Rattle.filter_run.specs.OneCapture.{AreNumbered, GaveWithin, HasFailedBehind, HasGiven, HasGivenAll, HasGivenSome, HasParted, IsWhy, bytes_of, records_of, start_of}
use Rattle.filter_run.specs.Starts.{IsInputOut, IsUnreadRest, most_at}
use Rattle.filter_run.specs.declared.batch.Batch.{Batch}
use Rattle.filter_run.specs.declared.one_capture.OneCapture.{OneCapture}
use Rattle.filter_run.specs.inner.Reads.{HasReadOut, IsMissed, IsOutFault}
use Rattle.filter_run.proofs.NumberLemmas.{numbered_none}
use Rattle.filter_run.proofs.RunLemmas.{flat_push}

-- the next batch follows
pub numbered_push : (n : ℕ) (order : Order) (batches : List BatchFacts) (batch : BatchFacts) → AreNumbered n order batches → batch.others ≡ n + length (records_of batches)
    → batch.order ≡ order → batch.interface ≡ 0 → batch.numbers ≡ None → AreNumbered n order (batches ++ batch ∷ [])
numbered_push n order [] batch are others same at plain = (let e = others in omega arith, same, at, plain, tt)
numbered_push n order (first ∷ batches) batch (behind, same_first, at_first, plain_first, are) others same at plain =
    let both = length-append first.records (records_of batches) in
    (behind, same_first, at_first, plain_first, numbered_push (n + length first.records) order batches batch are (let e = others in omega arith) same at plain)

-- one whose reader and parting are these after a read
abbrev pub behind_read : {R : Type 0} → OneCapture R → R → RecordParting → OneCapture R
behind_read old reader parting = record old { reader = record old.reader { now = reader }; parting = parting }

-- all whole records of what waits were parted off
pub settled_parted : {R : Type 0} (old : OneCapture R) (room left bytes : ReadBuffer) (after : RecordParting) (found : Found)
    → HasSettled (record old.parting { spare = room }) after found → held_by bytes ≡ held_by after.spare
    → HasParted old (record old { parting = record after { spare = left }; waits = false; stop = found.stop })
    (record { others = old.parting.packets; interface = after.interface; order = after.order; numbers = None; bytes = bytes; found = found })
settled_parted old room left bytes after found settled same =
    let held : held_by bytes ≡ rest_in old.parting = same ∙ settled.held in
    let behind : behind_of (held_by bytes) found ≡ rest_in after = ap (λ (b : List ℕ). behind_of b found) held ∙ sym settled.left in
    let whole : HaveFound after.order (held_by bytes) found = subst (λ (b : List ℕ). HaveFound after.order b found) (sym same) settled.at_hand in
    let records = records_from after.order found.count (held_by bytes) in
    record {
      whole = whole;
      others = refl;
      order = settled.order;
      interface = settled.interface;
      plain = refl;
      records = subst (λ (o : Order). AreRecords o (rest_in old.parting) records (rest_in after)) settled.order
          (subst (λ (b : List ℕ). AreRecords after.order b records (rest_in after)) held
          (subst (AreRecords after.order (held_by bytes) records) behind whole.records));
      spelt = sym held ∙ sym (take-append-drop (length (held_by bytes) - found.behind) (held_by bytes))
          ∙ ap (λ (b : List ℕ). take (length (held_by bytes) - found.behind) (held_by bytes) ++ b) behind;
      packets = settled.packets ∙ ap (λ n. old.parting.packets + n) (packets_count after.order found.count (held_by bytes));
      same_order = settled.order;
      same_interface = settled.interface;
      same_input = refl;
      found = settled.then;
      stops = settled.stops;
      reader = refl;
      read = refl;
      parted = refl;
    }

-- ---- How much may come

pub most_few : (input : Option ℕ) → most_at input ≤ 4611686018427387903
most_few None = omega arith
most_few (Some before) = omega arith

pub within_most : (input : Option ℕ) (read : ℕ) → IfSome input (λ before. before ≤ most_bytes) → read ≤ most_at input → IfSome input (λ before. before + read ≤ most_bytes)
within_most None read within few = tt
within_most (Some before) read within few = omega (arith, within, few)

-- the rest where a read failed
unread_rest : (input : Option ℕ) (order : Order) (rest : List ℕ) (truncated : Bool) → IsEnd order rest (end_of truncated) → IsUnreadRest input order rest
unread_rest None order rest truncated end = (truncated, end)
unread_rest (Some before) order rest truncated end = tt

unread_within : (input : Option ℕ) (order : Order) (rest : List ℕ) (n : ℕ) → input ≡ Some n → IsUnreadRest input order rest
unread_within None order rest n part = cc
unread_within (Some before) order rest n part = tt

-- a record that is too long is so with more bytes behind it
long_appended : (order : Order) (bytes more : List ℕ) → IsTooLong order bytes → IsTooLong order (bytes ++ more)
long_appended order bytes more long =
    let size = length-append bytes more in
    let same : kept_length order (bytes ++ more) ≡ kept_length order bytes = number_from-append order 8 4 bytes more (omega (arith, long.0)) in
    (omega (arith, long.0), subst (λ (n : ℕ). kept_limit < n) (sym same) long.1)

-- ---- Nothing was given

pub given_none : {R : Type 0} (bytes : R → Option (List ℕ)) (failures : R → ℕ) (capture : OneCapture R) (order : Order) (front : List ℕ)
    → IsBegun order 0 front capture.parting → capture.read ≡ length front → capture.waits ≡ ltb 0 capture.read → capture.stop ≡ End
    → length front ≤ most_at capture.input → IfSome capture.input (λ before. before ≤ most_bytes) → failures capture.reader.now < 2 ^ 64 - 1
    → HasGiven bytes failures capture [] capture
given_none bytes failures capture order front is size waits stop fits within few =
    let all = ap length is.waits in
    let same = append-nil (rest_in capture.parting) in
    record {
      same = refl;
      some = record { read = []; consumed = Consumes-nil (bytes capture.reader.now); records = same; spelt = same };
      numbered = tt;
      packets = is.packets;
      order = refl;
      interface = is.interface_is;
      input = refl;
      within = within;
      size = let long = ap length same in omega arith;
      parts = omega arith;
      more = λ wait. ltb-true 0 capture.read (sym waits ∙ wait);
      bound = omega arith;
      found = is.found;
      stops = λ none. subst (λ (s : Stop). Stops capture.parting.order (rest_in capture.parting) s) (sym stop)
          (empty (rest_in capture.parting) (let none_read = ltb-false 0 capture.read (sym waits ∙ none) in omega arith));
      few = few;
      sound = refl;
    }
  where
    empty : (xs : List ℕ) → length xs ≡ 0 → xs ≡ []
    empty [] size = refl
    empty (x ∷ xs) size = absurd (omega arith)

module _ {R : Type 0} (bytes : R → Option (List ℕ)) (failures : R → ℕ) (begun : OneCapture R) (batches : List BatchFacts) (old : OneCapture R)
    (is : HasGiven bytes failures begun batches old) where
  -- no more packets were given than bytes were read
  given_few : old.parting.packets + length (rest_in old.parting) ≤ old.read
  given_few =
      let within = records_within begun.parting.order (rest_in begun.parting ++ is.some.read) (records_of batches) (rest_in old.parting) is.some.records in
      let e = is.packets in let f = is.size in omega arith

  pub given_bound : old.parting.packets + length (rest_in old.parting) ≤ 4611686018427387904
  unfolding given_few
  given_bound = let few = given_few in let bound = is.bound in let most = most_few begun.input in omega arith

  pub given_packets : old.parting.packets < 2 ^ 63
  unfolding given_bound
  given_packets = let few = given_bound in omega arith

  pub given_within : IfSome old.input (λ before. before ≤ most_bytes)
  given_within = subst (λ (input : Option ℕ). IfSome input (λ before. before ≤ most_bytes)) (sym is.input) is.within

  -- ---- How far the reader was read

  far_on : (after : Option (List ℕ)) (more : ℕ) → old.read + more ≤ most_at begun.input + 1 → GaveAtMost (bytes old.reader.now) after more
      → GaveAtMost (bytes begun.reader.now) after (most_at begun.input + 1 - length (rest_in begun.parting))
  far_on after more fits (given, consumed, few) =
      let size = is.size in
      let both = length-append (rest_in begun.parting) is.some.read in
      gave_more (bytes begun.reader.now) (bytes old.reader.now) after is.some.read given (most_at begun.input + 1 - length (rest_in begun.parting)) (omega (arith, few, fits))
      is.some.consumed consumed

  pub given_far : GaveWithin bytes begun old
  given_far =
      let size = is.size in let both = length-append (rest_in begun.parting) is.some.read in let bound = is.bound in
      (is.some.read, is.some.consumed, omega arith)

  -- ---- Bytes behind those that were read

  abbrev then_some : (after : Option (List ℕ)) (gone rest : List ℕ) → Consumes (bytes old.reader.now) after gone → rest ≡ rest_in old.parting ++ gone
      → HasGivenSome (start_of begun) (bytes begun.reader.now) after batches rest
  then_some after gone rest consumed same =
      let front = rest_in begun.parting in
      let parts : (front ++ is.some.read) ++ gone ≡ front ++ (is.some.read ++ gone) = append_assoc front is.some.read gone in
      record {
        read = is.some.read ++ gone;
        consumed = Consumes-trans (bytes begun.reader.now) (bytes old.reader.now) after is.some.read gone is.some.consumed consumed;
        records = subst (AreRecords begun.parting.order (front ++ (is.some.read ++ gone)) (records_of batches)) (sym same)
            (subst (λ (b : List ℕ). AreRecords begun.parting.order b (records_of batches) (rest_in old.parting ++ gone)) parts
            (records_appended begun.parting.order (front ++ is.some.read) gone (records_of batches) (rest_in old.parting) is.some.records));
        spelt = sym parts ∙ ap (λ (b : List ℕ). b ++ gone) is.some.spelt ∙ append_assoc (bytes_of batches) (rest_in old.parting) gone
            ∙ ap (λ (b : List ℕ). bytes_of batches ++ b) (sym same);
      }

  then_size : (gone : List ℕ) → length (rest_in begun.parting ++ (is.some.read ++ gone)) ≡ old.read + length gone
  then_size gone =
      let size = is.size in
      let one = length-append (rest_in begun.parting) is.some.read in
      let two = length-append is.some.read gone in
      let three = length-append (rest_in begun.parting) (is.some.read ++ gone) in
      omega arith

  -- ---- Why no more is read

  -- too much was read
  pub given_large : most_at old.input < old.read → HasFailedBehind bytes failures begun batches (record { fault = fault.TooLarge; interface = None }) old
  unfolding given_far
  given_large many = record {
    same = is.same;
    rest = rest_in old.parting;
    some = is.some;
    numbered = is.numbered;
    far = given_far;
    place = refl;
    why = let size = is.size in let input = ap most_at is.input in omega arith;
    failed = is.sound;
  }

  -- the record behind the whole ones is too long
  module _ (new : OneCapture R) (name : new.reader.ghost_name ≡ old.reader.ghost_name) (parted : old.waits ≡ false) (long : old.stop ≡ TooLong)
      (few : old.read ≤ most_at old.input) (far : GaveAtMost (bytes old.reader.now) (bytes new.reader.now) (most_at old.input + 1 - old.read)) where
    rest_long : IsTooLong begun.parting.order (rest_in old.parting)
    rest_long = subst (λ (o : Order). IsTooLong o (rest_in old.parting)) is.order (subst (Stops old.parting.order (rest_in old.parting)) long (is.stops parted))

    far_out : GaveWithin bytes begun new
    unfolding far_on
    far_out = let input = ap most_at is.input in far_on (bytes new.reader.now) (most_at old.input + 1 - old.read) (omega arith) far

    -- and its input was read to its end
    pub given_long : HasReadOut old.input old.read (bytes old.reader.now) (bytes new.reader.now) → failures new.reader.now ≡ failures old.reader.now
        → HasFailedBehind bytes failures begun batches (record { fault = fault.LongRecord (old.parting.packets + 1); interface = None }) new
    unfolding rest_long far_out then_size
    given_long out sound = record {
      same = name ∙ is.same;
      rest = rest_in old.parting ++ out.gone;
      some = then_some (bytes new.reader.now) out.gone (rest_in old.parting ++ out.gone) out.consumed refl;
      numbered = is.numbered;
      far = far_out;
      place = refl;
      why = (
        long_appended begun.parting.order (rest_in old.parting) out.gone rest_long,
        ap (λ n. n + 1) is.packets,
        subst (λ (input : Option ℕ). IsInputOut input (length (rest_in begun.parting ++ (is.some.read ++ out.gone))) (bytes new.reader.now)) is.input
            (subst (λ n. IsInputOut old.input n (bytes new.reader.now)) (sym (then_size out.gone)) out.out),
      );
      failed = sound ∙ is.sound;
    }

    -- or it couldn't be
    pub given_not_out : (found : Fault) → IsOutFault old.input old.read (bytes old.reader.now) (bytes new.reader.now) found
        → failures new.reader.now ≡ with_read (failures old.reader.now) found → HasFailedBehind bytes failures begun batches (record { fault = found; interface = None }) new
    unfolding rest_long far_out then_size
    given_not_out found out failed =
        let read = is.some.read ++ out.gone in
        let rest = rest_in old.parting ++ out.gone in
        record {
          same = name ∙ is.same;
          rest = rest;
          some = then_some (bytes new.reader.now) out.gone rest out.consumed refl;
          numbered = is.numbered;
          far = far_out;
          place = refl;
          why = elim out.why [
            | inl unread ↦ subst (IsWhy (start_of begun) read (bytes new.reader.now) batches rest) (sym unread)
                (unread_within begun.input begun.parting.order rest out.part.0 (sym is.input ∙ out.part.1))
            | inr (large, many) ↦ subst (IsWhy (start_of begun) read (bytes new.reader.now) batches rest) (sym large)
                (let size = then_size out.gone in let input = ap most_at is.input in omega arith)
          ];
          failed = failed ∙ ap (λ n. with_read n found) is.sound;
        }

  -- a read failed
  pub given_unread : (new : OneCapture R) (truncated : Bool) (found : Fault) → new.reader.ghost_name ≡ old.reader.ghost_name → old.waits ≡ false → IsCutAt old.stop truncated
      → IsUnread (bytes old.reader.now) (bytes new.reader.now) found
      → failures new.reader.now ≡ with_read (failures old.reader.now) found → HasFailedBehind bytes failures begun batches (record { fault = found; interface = None }) new
  given_unread new truncated found name parted ends (kept, which) failed =
      let consumed = Consumes-kept (bytes begun.reader.now) (bytes old.reader.now) (bytes new.reader.now) is.some.read is.some.consumed kept in
      let size = is.size in
      let both = length-append (rest_in begun.parting) is.some.read in
      let bound = is.bound in
      record {
        same = name ∙ is.same;
        rest = rest_in old.parting;
        some = record { read = is.some.read; consumed = consumed; records = is.some.records; spelt = is.some.spelt };
        numbered = is.numbered;
        far = (is.some.read, consumed, omega arith);
        place = refl;
        why = elim which [
          | inl memory ↦ subst (IsWhy (start_of begun) is.some.read (bytes new.reader.now) batches (rest_in old.parting)) (sym memory) tt
          | inr read ↦ subst (IsWhy (start_of begun) is.some.read (bytes new.reader.now) batches (rest_in old.parting)) (sym read)
              (unread_rest begun.input begun.parting.order (rest_in old.parting) truncated
              (ends begun.parting.order (rest_in old.parting) (subst (λ (o : Order). Stops o (rest_in old.parting) old.stop) is.order (is.stops parted))))
        ];
        failed = failed ∙ ap (λ n. with_read n found) is.sound;
      }

  -- a read failed, or memory ran out, behind more bytes of an input
  given_lost : (new : OneCapture R) (most n : ℕ) (found : Fault) → new.reader.ghost_name ≡ old.reader.ghost_name → old.input ≡ Some n → old.read + most ≤ most_at old.input + 1
      → IsLost most (bytes old.reader.now) (bytes new.reader.now) found
      → failures new.reader.now ≡ with_read (failures old.reader.now) found → HasFailedBehind bytes failures begun batches (record { fault = found; interface = None }) new
  unfolding far_on
  given_lost new most n found name part fits (gone, consumed, few, which) failed =
      let rest = rest_in old.parting ++ gone in
      let read = is.some.read ++ gone in
      record {
        same = name ∙ is.same;
        rest = rest;
        some = then_some (bytes new.reader.now) gone rest consumed refl;
        numbered = is.numbered;
        far = far_on (bytes new.reader.now) most (let same = ap most_at is.input in omega arith) (gone, consumed, few);
        place = refl;
        why = elim which [
          | inl memory ↦ subst (IsWhy (start_of begun) read (bytes new.reader.now) batches rest) (sym memory) tt
          | inr failing ↦ subst (IsWhy (start_of begun) read (bytes new.reader.now) batches rest) (sym failing)
              (unread_within begun.input begun.parting.order rest n (sym is.input ∙ part))
        ];
        failed = failed ∙ ap (λ k. with_read k found) is.sound;
      }

  -- whichever way was read
  pub given_missed : (new : OneCapture R) (truncated : Bool) (most : ℕ) (found : Fault) → new.reader.ghost_name ≡ old.reader.ghost_name → old.waits ≡ false → IsCutAt old.stop truncated
      → old.read + most ≤ most_at old.input + 1 → (input : Option ℕ) → old.input ≡ input → IsMissed input most (bytes old.reader.now) (bytes new.reader.now) found
      → failures new.reader.now ≡ with_read (failures old.reader.now) found → HasFailedBehind bytes failures begun batches (record { fault = found; interface = None }) new
  unfolding given_unread given_lost
  given_missed new truncated most found name parted ends fits None same missed failed = given_unread new truncated found name parted ends missed failed
  given_missed new truncated most found name parted ends fits (Some n) same missed failed = given_lost new most n found name same fits missed failed

  -- ---- Some bytes were read

  module _ (new : OneCapture R) (n most : ℕ) (name : new.reader.ghost_name ≡ old.reader.ghost_name)
      (got : HasGot (bytes old.reader.now) (bytes new.reader.now) old.parting new.parting most n)
      (sound : failures new.reader.now ≡ failures old.reader.now) (fits : old.read + most ≤ most_at old.input + 1) where
    -- they wait
    pub given_on : n ≢ 0 → new.read ≡ old.read + n → new.input ≡ old.input → new.waits ≡ true → HasGiven bytes failures begun batches new
    unfolding then_size
    given_on some_read read input waits = record {
      same = name ∙ is.same;
      some = then_some (bytes new.reader.now) got.read (rest_in new.parting) got.consumed got.longer.waits;
      numbered = is.numbered;
      packets = got.longer.packets ∙ is.packets;
      order = got.longer.order ∙ is.order;
      interface = got.longer.interface ∙ is.interface;
      input = input ∙ is.input;
      within = is.within;
      size = let size = then_size got.read in let count = got.size in omega arith;
      parts = let before = is.parts in omega arith;
      more = λ wait. let before = is.parts in omega arith;
      bound = let few = got.few in let same = ap most_at is.input in omega arith;
      found = got.longer.found;
      stops = λ parted. absurd (true≢false (sym waits ∙ parted));
      few = is.few;
      sound = sound ∙ is.sound;
    }

    -- memory ran out then
    pub given_unheld : HasFailedBehind bytes failures begun batches (record { fault = fault.Memory; interface = None }) new
    unfolding far_on
    given_unheld = record {
      same = name ∙ is.same;
      rest = rest_in new.parting;
      some = then_some (bytes new.reader.now) got.read (rest_in new.parting) got.consumed got.longer.waits;
      numbered = is.numbered;
      far = far_on (bytes new.reader.now) most (let same = ap most_at is.input in omega arith) (got.read, got.consumed, let count = got.size in let few = got.few in omega arith);
      place = refl;
      why = tt;
      failed = sound ∙ is.sound;
    }

    -- none was there
    pub given_all : (truncated : Bool) (captures : List Captured) → n ≡ 0 → old.waits ≡ false → old.read ≤ most_at old.input → IsCutAt old.stop truncated
        → captures ≡ told_alone old.parting.packets truncated → HasGivenAll bytes failures begun batches captures new
    given_all truncated captures none parted few ends told = record {
      same = name ∙ is.same;
      rest = rest_in old.parting;
      some = record {
        read = is.some.read;
        consumed = subst (Consumes (bytes begun.reader.now) (bytes new.reader.now))
            (ap (λ (b : List ℕ). is.some.read ++ b) (empty got.read (sym got.size ∙ none)) ∙ append-nil is.some.read)
            (Consumes-trans (bytes begun.reader.now) (bytes old.reader.now) (bytes new.reader.now) is.some.read got.read is.some.consumed got.consumed);
        records = is.some.records;
        spelt = is.some.spelt;
      };
      numbered = is.numbered;
      ended = got.ended none;
      few = let size = is.size in let same = ap most_at is.input in omega arith;
      truncated = truncated;
      end = ends begun.parting.order (rest_in old.parting) (subst (λ (o : Order). Stops o (rest_in old.parting) old.stop) is.order (is.stops parted));
      told = told ∙ ap (λ packets. told_alone packets truncated) is.packets;
      sound = sound ∙ is.sound;
    }
      where
        empty : (xs : List ℕ) → length xs ≡ 0 → xs ≡ []
        empty [] size = refl
        empty (x ∷ xs) size = absurd (omega arith)

  -- ---- What waits is parted

  -- memory ran out then
  pub given_unparted : (last : OneCapture R) → last.reader ≡ old.reader → HasFailedBehind bytes failures begun batches (record { fault = fault.Memory; interface = None }) last
  unfolding given_far
  given_unparted last same = record {
    same = ap (λ r. r.ghost_name) same ∙ is.same;
    rest = rest_in old.parting;
    some = subst (λ r. HasGivenSome (start_of begun) (bytes begun.reader.now) (bytes r.now) batches (rest_in old.parting)) (sym same) is.some;
    numbered = is.numbered;
    far = subst (λ r. GaveAtMost (bytes begun.reader.now) (bytes r.now) (most_at begun.input + 1 - length (rest_in begun.parting))) (sym same) given_far;
    place = refl;
    why = tt;
    failed = ap (λ r. failures r.now) same ∙ is.sound;
  }

  -- the whole records were given
  module _ (last : OneCapture R) (batch : Batch) (parted : HasParted old last batch) where
    parted_records : AreRecords begun.parting.order (rest_in begun.parting ++ is.some.read) (records_of (batches ++ batch_facts batch ∷ [])) (rest_in last.parting)
    parted_records =
        subst (λ (rs : List RecordFacts). AreRecords begun.parting.order (rest_in begun.parting ++ is.some.read) rs (rest_in last.parting))
        (sym (flat_push (λ (b : BatchFacts). b.records) batches (batch_facts batch)))
        (records_joined begun.parting.order (rest_in begun.parting ++ is.some.read) (records_of batches) (batch_facts batch).records (rest_in old.parting) (rest_in last.parting)
        is.some.records (subst (λ (o : Order). AreRecords o (rest_in old.parting) (batch_facts batch).records (rest_in last.parting)) is.order parted.records))

    parted_spelt : rest_in begun.parting ++ is.some.read ≡ bytes_of (batches ++ batch_facts batch ∷ []) ++ rest_in last.parting
    parted_spelt =
        is.some.spelt ∙ ap (λ (b : List ℕ). bytes_of batches ++ b) parted.spelt ∙ sym (append_assoc (bytes_of batches) (batch_facts batch).bytes (rest_in last.parting))
        ∙ ap (λ (b : List ℕ). b ++ rest_in last.parting) (sym (flat_push (λ (b : BatchFacts). b.bytes) batches (batch_facts batch)))

    -- and no more than bytes were read
    pub parted_whole : IsWhole batch
    unfolding given_bound
    parted_whole =
        let few = given_bound in
        let within = records_within old.parting.order (rest_in old.parting) (batch_facts batch).records (rest_in last.parting) parted.records in
        let count = packets_count batch.order batch.found.count (held_by batch.bytes) in
        let others = parted.others in
        record { found = parted.whole; before = omega arith; few = omega arith; numbers = numbered_none batch parted.plain }

    pub parted_gave : old.waits ≡ true → HasGiven bytes failures begun (batches ++ batch_facts batch ∷ []) last
    unfolding parted_records parted_spelt
    parted_gave waits =
        let pushed = length-append batches (batch_facts batch ∷ []) in
        let more = is.more waits in
        let read = parted.read in
        record {
          same = ap (λ r. r.ghost_name) parted.reader ∙ is.same;
          some = record {
            read = is.some.read;
            consumed = subst (λ r. Consumes (bytes begun.reader.now) (bytes r.now) is.some.read) (sym parted.reader) is.some.consumed;
            records = parted_records;
            spelt = parted_spelt;
          };
          numbered = numbered_push 0 begun.parting.order batches (batch_facts batch) is.numbered
              (let others = parted.others in let packets = is.packets in omega arith)
              (parted.order ∙ is.order) (parted.interface ∙ is.interface) (ap listed parted.plain);
          packets =
              let listed = ap length (flat_push (λ (b : BatchFacts). b.records) batches (batch_facts batch)) in
              let both = length-append (records_of batches) (batch_facts batch).records in
              let packets = parted.packets in let before = is.packets in
              omega arith;
          order = parted.same_order ∙ is.order;
          interface = parted.same_interface ∙ is.interface;
          input = parted.same_input ∙ is.input;
          within = is.within;
          size = parted.read ∙ is.size;
          parts = omega arith;
          more = λ wait. absurd (true≢false (sym wait ∙ parted.parted));
          bound = let bound = is.bound in omega arith;
          found = parted.found;
          stops = λ none. parted.stops;
          few = is.few;
          sound = ap (λ r. failures r.now) parted.reader ∙ is.sound;
        }
