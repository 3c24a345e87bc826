-- Records that are parted off what waits.
use Rattle.std.proofs.Common.{◌≡◌, ◌∙◌, ◌+◌, ◌-◌, ◌<◌, ◌^◌, ℕ, List, ap, arith, drop, length, subst, sym, take}
use Rattle.std.proofs.lemmas.List.{length-drop, take_all}
use Rattle.packet_view.specs.Fronts.{Stops}
use Rattle.packet_view.specs.RecordLists.{records_from}
use Rattle.packet_view.specs.declared.capture.Order.{Order}
use Rattle.packet_view.proofs.RecordListLemmas.{packets_count, records_within}
use Rattle.racl_io.specs.Buffers.{held_by}
use Rattle.capture_stream.specs.Found.{HaveFound, behind_of}
use Rattle.capture_stream.specs.Parting.{HasSettled, rest_in}
use Rattle.capture_stream.specs.declared.found_records.Found.{Found}
use Rattle.capture_stream.specs.declared.record_parting.RecordParting.{RecordParting}

-- the bytes of a list from a place on, as a part of it
pub part_from : (bytes items : List ℕ) (from : ℕ) → bytes ≡ items → take (length bytes - from) (drop from bytes) ≡ drop from items
part_from bytes items from same =
    let size = length-drop from bytes in
    take_all (length bytes - from) (drop from bytes) (omega arith) ∙ ap (drop from) same

-- the bytes behind the records, as a part of what waits
pub behind_held : (bytes items : List ℕ) (found : Found) → bytes ≡ items
    → take (length bytes - (length bytes - found.behind)) (drop (length bytes - found.behind) bytes) ≡ behind_of items found
behind_held bytes items found same =
    part_from bytes items (length bytes - found.behind) same ∙ ap (λ n. drop (n - found.behind) items) (ap length same)

-- so few records are found that their count fits
pub found_under : (parting : RecordParting) → HaveFound parting.order (rest_in parting) parting.found → parting.packets + length (rest_in parting) < 2 ^ 63
    → parting.packets + parting.found.count < 2 ^ 63
found_under parting found few =
    let all = records_from parting.order parting.found.count (rest_in parting) in
    let within = records_within parting.order (rest_in parting) all (behind_of (rest_in parting) parting.found) found.records in
    let count = packets_count parting.order parting.found.count (rest_in parting) in
    omega arith

-- what waited was parted off
pub settled_found : (old new : RecordParting) → HaveFound old.order (rest_in old) old.found → rest_in new ≡ behind_of (rest_in old) old.found
    → held_by new.spare ≡ rest_in old → new.packets ≡ old.packets + old.found.count → new.order ≡ old.order → new.interface ≡ old.interface
    → HaveFound new.order (rest_in new) new.found → HasSettled old new old.found
settled_found old new have waits kept counted order interface found = record {
  at_hand = subst (λ (b : List ℕ). HaveFound new.order b old.found) (sym kept) (subst (λ (o : Order). HaveFound o (rest_in old) old.found) (sym order) have);
  held = kept;
  left = waits;
  stops = subst (λ (b : List ℕ). Stops new.order b old.found.stop) (sym waits)
      (subst (λ (o : Order). Stops o (behind_of (rest_in old) old.found) old.found.stop) (sym order) have.stop);
  packets = counted;
  order = order;
  interface = interface;
  then = found;
}
