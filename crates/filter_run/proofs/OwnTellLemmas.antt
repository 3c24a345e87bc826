-- A report on one's own packets: the same by what else is known of verdicts and of what was saved, and where all packets are one's own.
use Rattle.std.proofs.Common.{◌≡◌, ◌≢◌, ◌∙◌, ◌+◌, ◌++◌, ℕ, List, [], ◌∷◌, None, Option, ap, append-nil, arith, length, refl, subst, sym}
use Rattle.std.proofs.KnownBytes.{Appends-nil, Consumes-nil}
use Rattle.std.proofs.lemmas.List.{length-map}
use Rattle.std.specs.Io.KnownBytes.{Appends}
use Rattle.std.specs.List.{AllZip, concat}
use Rattle.packet_view.specs.Captures.{PacketFacts, RecordFacts, packet_at, packets_at}
use Rattle.packet_view.specs.declared.capture.Order.{Order}
use Rattle.session_state.specs.declared.verdict.Verdict.{Verdict}
use Rattle.racl_io.specs.Sinks.{GotFront}
use Rattle.racl_io.specs.Tellings.{Wording, lines_in}
use Rattle.racl_io.specs.declared.fault.Fault.{Fault}
use Rattle.racl_io.specs.declared.fault.Fault.TheVariants as fault
use Rattle.capture_stream.specs.Savings.{Manner, Outputs, manner_of, outputs}
use Rattle.capture_shards.specs.OwnRecords.{IsWholeRecord}
use Rattle.capture_shards.specs.Shards.{Own, own_in, own_packets}
use Rattle.capture_shards.specs.Sharing.{lines_at, own_numbers}
use Rattle.capture_shards.specs.inner.OwnTests.{own_among}
use Rattle.capture_shards.proofs.PickedLists.{all_in}
use Rattle.filter_run.specs.CaptureReports.{HasToldSome, IsLiveFault}
use Rattle.filter_run.specs.OwnReports.{HasJudgedOwn, HasToldOwnSome, IsOwnFault}
use Rattle.filter_run.specs.Starts.{Start}
use Rattle.filter_run.proofs.OwnBatchLemmas.{zip_count}

-- ---- The same by what else is known

module _ {J A K B : Type 0} (Judged : J → List PacketFacts → List Verdict → Type 0) (Other : A → List PacketFacts → List Verdict → Type 0) (wording : Wording)
    (Saved : K → Order → List ℕ → List Verdict → K → Type 0) (Kept : B → Order → List ℕ → List Verdict → B → Type 0) (begun : J) (other : A)
    (tells : (packets : List PacketFacts) (verdicts : List Verdict) → Judged begun packets verdicts → Other other packets verdicts) (own : Own) (start : Start)
    (before after old new : Option (List ℕ)) (first last : K) (one two : B)
    (keeps : (mine : List ℕ) (verdicts : List Verdict) → Saved first start.order mine verdicts last → Kept one start.order mine verdicts two) where
  abbrev pub judged_as : (rest : List ℕ) → HasJudgedOwn Judged begun own start before after rest → HasJudgedOwn Other other own start before after rest
  judged_as rest by = record {
    read = by.read;
    consumed = by.consumed;
    packets = by.packets;
    records = by.records;
    pieces = by.pieces;
    each = by.each;
    spelt = by.spelt;
    verdicts = by.verdicts;
    judged = λ some. tells (own_packets own 1 (packets_at 0 by.packets)) by.verdicts (by.judged some);
    count = by.count;
  }

  abbrev pub own_some_as : (rest : List ℕ) → HasToldOwnSome Judged (manner_of wording Saved) begun own start before after (outputs old first) (outputs new last) rest
      → HasToldOwnSome Other (manner_of wording Kept) other own start before after (outputs old one) (outputs new two) rest
  own_some_as rest told = record {
    by = judged_as rest told.by;
    text = told.text;
    saved = keeps (concat (own_in own 1 (packets_at 0 told.by.packets) told.by.pieces)) told.by.verdicts told.saved;
  }

  pub own_fault_as : (found : Fault) → IsOwnFault Judged (manner_of wording Saved) begun own start before after (outputs old first) (outputs new last) found
      → IsOwnFault Other (manner_of wording Kept) other own start before after (outputs old one) (outputs new two) found
  own_fault_as fault.Memory (rest, told) = (rest, own_some_as rest told)
  own_fault_as fault.Read (rest, told, unread) = (rest, own_some_as rest told, unread)
  own_fault_as (fault.LongRecord number) (rest, told, long, counted, out) = (rest, own_some_as rest told, long, counted, out)
  own_fault_as fault.TooLarge (rest, told, many) = (rest, own_some_as rest told, many)
  own_fault_as fault.Write told = record { rest = told.rest; by = judged_as told.rest told.by; front = told.front }
  own_fault_as found wrong = absurd wrong

-- nothing was read or written
pub none_told_own : {A K : Type 0} (Other : A → List PacketFacts → List Verdict → Type 0) (manner : Manner K) (other : A) (own : Own) (start : Start) (before : Option (List ℕ))
    (old : Outputs K) → manner.saved old.saver start.order [] [] old.saver → IsOwnFault Other manner other own start before before old old fault.Memory
none_told_own Other manner other own start before old kept =
    let told : HasToldOwnSome Other manner other own start before before old old start.front = record {
      by = record {
        read = [];
        consumed = Consumes-nil before;
        packets = [];
        records = append-nil start.front;
        pieces = [];
        each = tt;
        spelt = append-nil start.front;
        verdicts = [];
        judged = λ some. absurd (some refl);
        count = refl;
      };
      text = Appends-nil old.report;
      saved = kept;
    } in
    (start.front, told)

-- ---- Where all packets are one's own

pub all_own : (packets : List PacketFacts) → own_packets (own_among None) 1 packets ≡ packets
all_own packets = all_in 1 packets packets refl

pub all_lines : (wording : Wording) (n : ℕ) (packets : List PacketFacts) (verdicts : List Verdict)
    → lines_at wording (own_numbers (own_among None) n packets) (own_packets (own_among None) n packets) verdicts ≡ lines_in wording n packets verdicts
all_lines wording n [] verdicts = refl
all_lines wording n (p ∷ ps) [] = refl
all_lines wording n (p ∷ ps) (v ∷ vs) = ap (λ rest. wording.line n p v ++ rest) (all_lines wording (n + 1) ps vs)

-- their pieces are all
pub all_pieces : (order : Order) (pieces : List (List ℕ)) (records : List RecordFacts) → AllZip (IsWholeRecord order) pieces records → own_in (own_among None) 1 (packets_at 0 records) pieces ≡ pieces
all_pieces order pieces records each =
    let count = zip_count (IsWholeRecord order) pieces records each in
    let listed = length-map records (packet_at 0) in
    all_in 1 (packets_at 0 records) pieces (omega arith)

module _ {J K : Type 0} (Judged : J → List PacketFacts → List Verdict → Type 0) (manner : Manner K) (begun : J) (start : Start) (before after : Option (List ℕ)) (old new : Outputs K) where
  all_judged : (rest : List ℕ) (by : HasJudgedOwn Judged begun (own_among None) start before after rest) → by.packets ≢ [] → Judged begun (packets_at 0 by.packets) by.verdicts
  all_judged rest by some =
      subst (λ (ps : List PacketFacts). Judged begun ps by.verdicts) (all_own (packets_at 0 by.packets))
      (by.judged (λ none. some (empty by.packets (sym (all_own (packets_at 0 by.packets)) ∙ none))))
    where
      empty : (records : List RecordFacts) → packets_at 0 records ≡ [] → records ≡ []
      empty [] e = refl
      empty (one ∷ others) e = cc

  all_count : (rest : List ℕ) (by : HasJudgedOwn Judged begun (own_among None) start before after rest) → length by.verdicts ≡ length by.packets
  all_count rest by = by.count ∙ ap length (all_own (packets_at 0 by.packets)) ∙ length-map by.packets (packet_at 0)

  all_told : (rest : List ℕ) → HasToldOwnSome Judged manner begun (own_among None) start before after old new rest → HasToldSome Judged manner begun start before after old new rest
  unfolding all_judged all_count
  all_told rest told = record {
    read = told.by.read;
    consumed = told.by.consumed;
    packets = told.by.packets;
    records = told.by.records;
    verdicts = told.by.verdicts;
    judged = all_judged rest told.by;
    count = all_count rest told.by;
    text = subst (Appends old.report new.report) (all_lines manner.wording 1 (packets_at 0 told.by.packets) told.by.verdicts) told.text;
    whole = concat told.by.pieces;
    spelt = told.by.spelt;
    saved = subst (λ (ps : List (List ℕ)). manner.saved old.saver start.order (concat ps) told.by.verdicts new.saver) (all_pieces start.order told.by.pieces told.by.packets told.by.each)
        told.saved;
  }

  -- what ended a report on them ended one on all packets
  pub all_fault : (found : Fault) → IsOwnFault Judged manner begun (own_among None) start before after old new found → IsLiveFault Judged manner begun start before after old new found
  unfolding all_told all_judged all_count
  all_fault fault.Memory (rest, told) = (rest, all_told rest told)
  all_fault fault.Read (rest, told, unread) = (rest, all_told rest told, unread)
  all_fault (fault.LongRecord number) (rest, told, long, counted, out) = (rest, all_told rest told, long, counted, out)
  all_fault fault.TooLarge (rest, told, many) = (rest, all_told rest told, many)
  all_fault fault.Write told = record {
    read = told.by.read;
    consumed = told.by.consumed;
    packets = told.by.packets;
    rest = told.rest;
    records = told.by.records;
    verdicts = told.by.verdicts;
    judged = all_judged told.rest told.by;
    count = all_count told.rest told.by;
    front = subst (GotFront old.report new.report) (all_lines manner.wording 1 (packets_at 0 told.by.packets) told.by.verdicts) told.front;
  }
  all_fault found wrong = absurd wrong
