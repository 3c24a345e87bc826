-- One of several captures that come: what waits of it.
use Rattle.std.proofs.Common.{◌≡◌, ◌∙◌, ◌≤◌, ℕ, List, ◌++◌, Option, Some, None, ap, append_assoc, arith, drop, inl, inr, length, refl, subst, sym, take, true, false}
use Rattle.std.proofs.lemmas.List.{length-take-le, take-append-drop}
use Rattle.packet_view.specs.Captures.{AreRecords, HasFileHeader, RecordFacts}
use Rattle.packet_view.specs.declared.capture.Order.{Order}
use Rattle.packet_view.proofs.FrontLemmas.{head_appended, header_too, records_appended, records_joined}
use Rattle.racl_io.specs.Buffers.{held_by}
use Rattle.filter_run.specs.Turns.{AreHeaded, HaveCome}
use Rattle.filter_run.specs.declared.coming_captures.Lane.{Lane}
use Rattle.filter_run.specs.inner.Lanes.{HasWaiting, IsLane, IsShort}

-- all its whole records came
pub come_of : (order : Option Order) (bytes : List ℕ) (records : List RecordFacts) (waits : List ℕ) → HasWaiting order bytes records waits → IsShort order waits
    → HaveCome bytes records
come_of None bytes records waits (same, none) short = inl (let size = ap length same in omega arith, none)
come_of (Some order) bytes records waits are (inl none) = inr (order, waits, are, false, none)
come_of (Some order) bytes records waits are (inr cut) = inr (order, waits, are, true, cut)

pub lane_come : (bytes : List ℕ) (records : List RecordFacts) (lane : Lane) → IsLane bytes records lane → HaveCome bytes records
lane_come bytes records lane is = come_of lane.order bytes records (held_by lane.window) is.waiting is.short

-- the header is whole now
pub header_read : (order : Order) (all bytes : List ℕ) (records : List RecordFacts) → 24 ≤ length all → HasFileHeader order all → HasWaiting None bytes records all
    → AreHeaded order bytes records (drop 24 all)
header_read order all bytes records long right (same, none) =
    let both = take-append-drop 24 all in
    let head = length-take-le 24 all long in
    record {
      header = take 24 all;
      body = drop 24 all;
      spelt = sym same ∙ sym both;
      whole = head;
      right = header_too (take 24 all ++ drop 24 all) (take 24 all) (head_appended (take 24 all) (drop 24 all) (omega arith)) order
          (subst (HasFileHeader order) (sym both) right);
      are = subst (λ (rs : List RecordFacts). AreRecords order (drop 24 all) rs (drop 24 all)) (sym none) refl;
    }

-- more bytes wait
pub waiting_longer : (order : Option Order) (bytes more : List ℕ) (records : List RecordFacts) (waits : List ℕ) → HasWaiting order bytes records waits
    → HasWaiting order (bytes ++ more) records (waits ++ more)
waiting_longer None bytes more records waits (same, none) = (ap (λ (b : List ℕ). b ++ more) same, none)
waiting_longer (Some order) bytes more records waits are = record {
  header = are.header;
  body = are.body ++ more;
  spelt = ap (λ (b : List ℕ). b ++ more) are.spelt ∙ append_assoc are.header are.body more;
  whole = are.whole;
  right = are.right;
  are = records_appended order are.body more records waits are.are;
}

-- some of them are whole records
pub headed_joined : (order : Order) (bytes : List ℕ) (records more : List RecordFacts) (waits rest : List ℕ) → AreHeaded order bytes records waits
    → AreRecords order waits more rest → AreHeaded order bytes (records ++ more) rest
headed_joined order bytes records more waits rest are next = record {
  header = are.header;
  body = are.body;
  spelt = are.spelt;
  whole = are.whole;
  right = are.right;
  are = records_joined order are.body records more waits rest are.are next;
}

-- the bytes of a part wait behind those that waited
pub joined_waits : (order : Option Order) (bytes more held : List ℕ) (records : List RecordFacts) (all first second : List ℕ) → HasWaiting order bytes records held
    → all ≡ first ++ second → first ≡ held → second ≡ more → HasWaiting order (bytes ++ more) records all
joined_waits order bytes more held records all first second waits both one two =
    subst (HasWaiting order (bytes ++ more) records)
    (sym (both ∙ ap (λ (b : List ℕ). b ++ second) one ∙ ap (λ (b : List ℕ). held ++ b) two)) (waiting_longer order bytes more records held waits)
