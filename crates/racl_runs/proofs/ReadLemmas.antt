-- An input that is read.
use Rattle.std.specs.Io.KnownBytes.{Consumes, IsAtEnd}
use Rattle.std.proofs.KnownBytes.{Consumes-all, Consumes-trans}
use Rattle.std.proofs.Common.{◌≡◌, ◌∙◌, ◌+◌, ◌-◌, ◌<◌, ◌≤◌, ◌⊎◌, ℕ, Bool, true, false, List, [], ◌++◌, Option, Some, None, IfSome, Result, Ok, Err, IfErr, length, append_assoc, arith, refl, sym, ap, subst, inl, inr}
use Rattle.std.proofs.lemmas.List.{length-append}
use Rattle.session_state.specs.declared.timeouts.Timeouts.{Timeouts}
use Rattle.racl_options.specs.declared.settings.Options.{Options}
use Rattle.racl_options.specs.declared.settings.TableSize.{TableSize}
use Rattle.racl_io.specs.declared.fault.Fault.{Fault}
use Rattle.racl_io.specs.declared.fault.Fault.TheVariants.{Memory, Read, TooLarge, Write}
use Rattle.racl_io.specs.Faults.{IsInputFault, IsSystemFault}
use Rattle.racl_io.specs.Transfers.{GaveAtMost, HasRead, HasReadWithin, failures_after_reads}
use Rattle.racl_io.proofs.TransferLemmas.{gave_more}
use Rattle.racl_io.specs.Inputs.{most_bytes}
use Rattle.racl_io.specs.declared.totals_and_truncation.Totals.{Totals}
use Rattle.racl_runs.specs.Reads.{AnswersInput, AnswersRead, AreKnown, HasRest, HoldsReport, IsUnread}
use Rattle.racl_runs.specs.Runs.{HasOutcome}
use Rattle.racl_report.specs.RunReports.{JudgedFacts, Outcome}
use Rattle.racl_runs.proofs.RunLemmas.{IsWhole, device_or, excluded_by_input, fault_of_input, no_device, steady}

-- ---- bytes that a source had

-- all that was read is all that the source had
pub all_known : (before after : Option (List ℕ)) (read : List ℕ) → Consumes before after read → IsAtEnd after → AreKnown before read
all_known before after read consumed ended = Consumes-all before after read [] read consumed ended refl

-- where too many bytes were read, the source had too many
pub too_many_known : (count : ℕ) (before after : Option (List ℕ)) (gone : List ℕ) → Consumes before after gone → most_bytes < count + length gone
    → IfSome before (λ known. most_bytes < count + length known)
too_many_known count None after gone consumed many = tt
too_many_known count (Some known) None gone consumed many = absurd consumed
too_many_known count (Some known) (Some left) gone consumed many =
    let whole = ap length consumed in let sizes = length-append gone left in omega arith

many_before : (count : ℕ) (before after : Option (List ℕ)) (read : List ℕ) → Consumes before after read
    → IfSome after (λ known. most_bytes < count + length read + length known) → IfSome before (λ known. most_bytes < count + length known)
many_before count None after read consumed many = tt
many_before count (Some known) None read consumed many = absurd consumed
many_before count (Some known) (Some left) read consumed many =
    let whole = ap length consumed in let sizes = length-append read left in omega arith

pub unread_before : (count : ℕ) (before after : Option (List ℕ)) (read : List ℕ) (fault : Fault) → Consumes before after read → IsUnread (count + length read) after fault
    → IsUnread count before fault
unread_before count before after read fault consumed (inl memory) = inl memory
unread_before count before after read fault consumed (inr (inl failed)) = inr (inl failed)
unread_before count before after read fault consumed (inr (inr (same, many))) = inr (inr (same, many_before count before after read consumed many))

known_before : (before after : Option (List ℕ)) (read more : List ℕ) → Consumes before after read → AreKnown after more → AreKnown before (read ++ more)
known_before None after read more consumed known = tt
known_before (Some all) None read more consumed known = absurd consumed
known_before (Some all) (Some left) read more consumed known = ap (λ bytes. read ++ bytes) known ∙ sym consumed

-- what is answered after more was read behind a front is answered of the front and all that the source had
pub answers_more : (options : Options) (before after : Option (List ℕ)) (front read : List ℕ) (result : Result JudgedFacts Fault) → Consumes before after read
    → AnswersRead options (front ++ read) after result → AnswersRead options front before result
answers_more options before after front read result consumed (inl (fault, same, unread)) =
    inl (
      fault,
      same,
      unread_before (length front) before after read fault consumed
          (subst (λ n. IsUnread n after fault) (length-append front read) unread),
    )
answers_more options before after front read result consumed (inr whole) =
    let one = append_assoc front read whole.read in
    inr (record {
      read = read ++ whole.read;
      known = known_before before after read whole.read consumed whole.known;
      few = subst (λ (b : List ℕ). length b ≤ most_bytes) one whole.few;
      answers = subst (λ (b : List ℕ). AnswersInput options b result) one whole.answers;
    })

-- and so is a report on them
pub held_more : (options : Options) (before after : Option (List ℕ)) (front report : List ℕ) (totals : Totals) → Consumes before after front
    → HoldsReport options front after report totals → HoldsReport options [] before report totals
held_more options before after front report totals consumed held = record {
  read = front ++ held.read;
  known = known_before before after front held.read consumed held.known;
  few = held.few;
  is = held.is;
}

-- what is answered of bytes is answered of a source that had them
pub answers_whole : (options : Options) (before after : Option (List ℕ)) (bytes : List ℕ) (result : Result JudgedFacts Fault) → Consumes before after bytes
    → IsAtEnd after → length bytes ≤ most_bytes → AnswersInput options bytes result → AnswersRead options [] before result
answers_whole options before after bytes result consumed ended few answers =
    inr (record { read = bytes; known = all_known before after bytes consumed ended; few = few; answers = answers })

-- the front of an input isn't too much
pub front_read : (before after : Option (List ℕ)) (old all : List ℕ) (least : ℕ) (at_end : Bool) → old ≡ [] → least ≤ most_bytes
    → HasRead before after old all least at_end → Consumes before after all × (length all ≤ most_bytes)
front_read before after old all least true empty fits has =
    let same = has.appended ∙ ap (λ (b : List ℕ). b ++ has.read) empty in let short = (has.ended refl).1 in
    (subst (Consumes before after) (sym same) has.consumed, omega arith)
front_read before after old all least false empty fits has =
    let same = has.appended ∙ ap (λ (b : List ℕ). b ++ has.read) empty in let enough = has.enough refl in let none = ap length empty in
    (subst (Consumes before after) (sym same) has.consumed, omega arith)

-- and with what was left it is all
pub front_rest : (before now after : Option (List ℕ)) (front all : List ℕ) → Consumes before now front → HasRest now after front all → Consumes before after all
front_rest before now after front all consumed rest =
    subst (Consumes before after) (sym rest.appended) (Consumes-trans before now after front rest.read consumed rest.consumed)

-- no read failed after which an input was opened
pub within_opened : {R X Y : Type 0} (left : R → Option (List ℕ)) (failures : R → ℕ) (most : ℕ) (before after : R) (value : X) (options : Options)
    (bytes : List ℕ) (result : Result Y Fault) → IfErr result (λ fault. AnswersInput options bytes (Err fault))
    → HasReadWithin {X = X} left failures most before after (Ok value) → HasReadWithin left failures most before after result
within_opened {Y = Y} left failures most before after value options bytes (Ok y) answers within = record { gave = within.gave; failed = within.failed }
within_opened {Y = Y} left failures most before after value options bytes (Err fault) answers within =
    record { gave = within.gave; failed = within.failed ∙ sym (steady Y (failures before) fault (no_device options bytes fault answers).0) }

-- what the source gave after a front was read
pub within_more : {R X : Type 0} (left : R → Option (List ℕ)) (failures : R → ℕ) (before now after : R) (front : List ℕ) (result : Result X Fault)
    → Consumes (left before) (left now) front → length front ≤ most_bytes → failures now ≡ failures before
    → HasReadWithin left failures (most_bytes + 1 - length front) now after result → HasReadWithin left failures (most_bytes + 1) before after result
within_more left failures before now after front result consumed few sound within =
    let gave = within.gave in
    let fits = gave.2 in
    record {
      gave = gave_more (left before) (left now) (left after) front gave.0 _ (omega arith) consumed gave.1;
      failed = subst (λ n. failures after ≡ failures_after_reads n result) sound within.failed;
    }

-- a source at its end gives nothing
pub gave_none : (before after : Option (List ℕ)) (most other : ℕ) → IsAtEnd before → GaveAtMost before after most → GaveAtMost before after other
gave_none None after most other ended gave = ([], tt, omega arith)
gave_none (Some known) None most other ended (given, consumed, few) = absurd consumed
gave_none (Some known) (Some left) most other ended (given, consumed, few) =
    let whole = ap length consumed in let none = ap length ended in let sizes = length-append given left in (given, consumed, omega arith)

-- ---- what is answered of an input that was read

-- an input of an outcome of the one-thread filter reads as what was read
pub known_read : (size : TableSize) (times : Timeouts) (known : Option (List ℕ)) (bytes : List ℕ) (Holds : List ℕ → Outcome → Type 0) → IsWhole known bytes
    → ((outcome : Outcome) → HasOutcome size times bytes outcome → Holds bytes outcome)
    → IfSome known (λ input. (outcome : Outcome) → HasOutcome size times input outcome → Holds input outcome)
known_read size times None bytes Holds read all = tt
known_read size times (Some input) bytes Holds read all = subst (λ b. (outcome : Outcome) → HasOutcome size times b outcome → Holds b outcome) read.whole all

-- a fault that is answered is the system's or the input's
pub fault_read : (options : Options) (given : Option (List ℕ)) (fault : Fault) → AnswersRead options [] given (Err fault)
    → IsSystemFault fault ⊎ IfSome given (λ bytes. IsInputFault bytes fault)
fault_read options given fault (inl (other, same, inl memory)) = inl (let e : fault ≡ Memory = cc in subst IsSystemFault (sym e) tt)
fault_read options given fault (inl (other, same, inr (inl failed))) = inl (let e : fault ≡ Read = cc in subst IsSystemFault (sym e) tt)
fault_read options None fault (inl (other, same, inr (inr (large, many)))) = inr tt
fault_read options (Some bytes) fault (inl (other, same, inr (inr (large, many)))) = inr (inl (let e : fault ≡ TooLarge = cc in e, omega (arith, many)))
fault_read options given fault (inr whole) =
    device_or fault _ (λ differs. fault_of_input given whole.read fault (record { whole = whole.known; few = whole.few }) (whole.answers.fault differs))

-- it is the only one that an input has, or the system's
pub fault_refused : (options : Options) (given : Option (List ℕ)) (fault : Fault) → AnswersRead options [] given (Err fault)
    → IfSome given (λ bytes. (cause : Fault) → IsInputFault bytes cause → (fault ≡ cause) ⊎ (fault ≡ Memory) ⊎ (fault ≡ Read))
fault_refused options None fault answers = tt
fault_refused options (Some bytes) fault (inl (other, same, inl memory)) = λ cause of. inr (inl (let e : fault ≡ Memory = cc in e))
fault_refused options (Some bytes) fault (inl (other, same, inr (inl failed))) = λ cause of. inr (inr (let e : fault ≡ Read = cc in e))
fault_refused options (Some bytes) fault (inl (other, same, inr (inr (large, many)))) =
    λ cause of. elim of [
      | inl found ↦ inl (let e : fault ≡ TooLarge = cc in e ∙ sym found.0)
      | inr found ↦ absurd (let few = found.0 in omega (arith, few, many))
    ]
fault_refused options (Some bytes) fault (inr whole) =
    excluded_by_input (Some bytes) whole.read (λ cause. (fault ≡ cause) ⊎ (fault ≡ Memory) ⊎ (fault ≡ Read)) (record { whole = whole.known; few = whole.few })
    (λ cause of. elim (whole.answers.refuses cause of) [ inl same ↦ inl same | inr memory ↦ inr (inl memory) ])

-- an input that has an outcome has no fault but the system's
pub fault_of_right : (options : Options) (given : Option (List ℕ)) (fault : Fault) → AnswersRead options [] given (Err fault)
    → IfSome given (λ bytes. (outcome : Outcome) → HasOutcome options.tables options.times bytes outcome → IsSystemFault fault)
fault_of_right options None fault answers = tt
fault_of_right options (Some bytes) fault (inl (other, same, inl memory)) = λ outcome has. (let e : fault ≡ Memory = cc in subst IsSystemFault (sym e) tt)
fault_of_right options (Some bytes) fault (inl (other, same, inr (inl failed))) = λ outcome has. (let e : fault ≡ Read = cc in subst IsSystemFault (sym e) tt)
fault_of_right options (Some bytes) fault (inl (other, same, inr (inr (large, many)))) = λ outcome has. absurd (let few = has.read.few in omega (arith, few, many))
fault_of_right options (Some bytes) fault (inr whole) =
    known_read options.tables options.times (Some bytes) whole.read (λ input outcome. IsSystemFault fault) (record { whole = whole.known; few = whole.few })
    (λ outcome has. subst IsSystemFault (sym (whole.answers.accepts has.policy has.packets outcome.captures has.read)) tt)

-- nor is it that a write failed
pub unwritten : (options : Options) (given : Option (List ℕ)) (fault : Fault) → AnswersRead options [] given (Err fault) → fault ≡ Write → ⊥
unwritten options given fault (inl (other, same, inl memory)) write = let f : ⊥ = cc in f
unwritten options given fault (inl (other, same, inr (inl failed))) write = let f : ⊥ = cc in f
unwritten options given fault (inl (other, same, inr (inr (large, many)))) write = let f : ⊥ = cc in f
unwritten options given fault (inr whole) write = (no_device options whole.read fault whole.answers).1 write
