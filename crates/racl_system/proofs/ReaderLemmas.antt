-- What is read from a source, as far as an input goes.
use Rattle.std.proofs.Common.{◌∙◌, ◌≡◌, ◌+◌, ◌<◌, ◌≤◌, ◌++◌, ◌⊎◌, inl, inr, ap, arith, refl, subst, sym, ℕ, Bool, true, false, List, [], Option, None, Some, Err, length, take}
use Rattle.std.specs.Prelude.{IfSome}
use Rattle.std.proofs.lemmas.List.{append-nil, length-take, take_all, take_at}
use Rattle.racl_io.specs.Inputs.{most_bytes}
use Rattle.racl_io.specs.Transfers.{HasRead, failures_after_reads}
use Rattle.racl_io.specs.declared.fault.Fault.{Fault}
use Rattle.racl_io.specs.declared.fault.Fault.TheVariants as fault
use Rattle.racl_report.specs.Statuses.{status_of_fault}
use Rattle.racl_system.specs.CheckStatuses.{IsCheckStatus, IsNoPolicy}
use Rattle.racl_system.specs.MarkedPolicies.{IsFileFault, IsFileStatus, IsMarkedFault, IsUnheld}
use Rattle.racl_system.specs.PolicyTexts.{IsUnread, ended_lines}
use Rattle.racl_system.specs.Readers.{IsLiveStatus}

-- what was read up to so many bytes is the front of all
pub read_front : (all after : Option (List ℕ)) (read : List ℕ) (least : ℕ) (at_end : Bool) → HasRead all after [] read least at_end
    → IfSome all (λ bytes. read ≡ take least bytes)
read_front None after read least at_end has = tt
read_front (Some all) None read least at_end has = absurd has.consumed
read_front (Some all) (Some rest) read least true has =
    let ended = has.ended refl in
    let short : length read ≤ least = omega (arith, ended.1) in
    let same : all ≡ read = has.consumed ∙ ap (λ (bytes : List ℕ). has.read ++ bytes) ended.0 ∙ append-nil has.read ∙ sym has.appended in
    sym (ap (take least) same ∙ take_all least read short)
read_front (Some all) (Some rest) read least false has =
    let enough = has.enough refl in
    let count : length read ≡ least = omega (arith, enough) in
    let same : all ≡ read ++ rest = has.consumed ∙ ap (λ (bytes : List ℕ). bytes ++ rest) (sym has.appended) in
    sym (ap (take least) same ∙ take_at read rest least count)

-- the same of a buffer that had nothing
pub front_of_source : (all after : Option (List ℕ)) (old read : List ℕ) (least : ℕ) (at_end : Bool) → old ≡ [] → HasRead all after old read least at_end
    → IfSome all (λ bytes. read ≡ take least bytes)
front_of_source all after old read least at_end none has = read_front all after read least at_end (subst (λ o. HasRead all after o read least at_end) none has)

-- the status where a source failed once more
pub status_of_failed : (X : Type 0) (before after : ℕ) (why : Fault) → after ≡ failures_after_reads {X = X} before (Err why) → after ≡ before + 1
    → status_of_fault why ≡ 4
status_of_failed X before after fault.Read failed more = refl
status_of_failed X before after why failed more = let none : ⊥ = omega (arith, failed, more) in absurd none

-- a front that has no more bytes than an input may have is all
pub all_of_front : (all read : List ℕ) → read ≡ take (most_bytes + 1) all → length read ≤ most_bytes → read ≡ all
all_of_front all read front few =
    let count : length read ≡ length (take (most_bytes + 1) all) = ap length front in
    let short : length all ≤ most_bytes + 1 = omega (arith, few, count, length-take (most_bytes + 1) all) in
    front ∙ take_all (most_bytes + 1) all short

-- with a line feed behind it, that is the text
pub text_of_front : (known : Option (List ℕ)) (read text : List ℕ) → IfSome known (λ all. read ≡ take (most_bytes + 1) all) → length read ≤ most_bytes
    → text ≡ ended_lines read → IfSome known (λ all. text ≡ ended_lines all)
text_of_front None read text front few same = tt
text_of_front (Some all) read text front few same = same ∙ ap ended_lines (all_of_front all read front few)

-- where the front that was read has more bytes than an input may have, so has the file
pub unread_of_long : (known : Option (List ℕ)) (read : List ℕ) → IfSome known (λ all. read ≡ take (most_bytes + 1) all)
    → most_bytes < length read → IsUnread known fault.TooLarge
unread_of_long known read front long = inr (inr (refl, go known front))
  where
    go : (known : Option (List ℕ)) → IfSome known (λ all. read ≡ take (most_bytes + 1) all) → IfSome known (λ all. most_bytes < length all)
    go None front = tt
    go (Some all) front =
        let count : length read ≡ length (take (most_bytes + 1) all) = ap length front in
        omega (arith, long, count, length-take (most_bytes + 1) all)

-- a file that can't be read isn't held, and its status where no marker line is looked for
pub unheld_of_unread : (known : Option (List ℕ)) (why : Fault) → IsUnread known why → IsUnheld known why
unheld_of_unread known why (inl memory) = inl memory
unheld_of_unread known why (inr (inl read)) = inr (inl read)
unheld_of_unread None why (inr (inr (large, long))) = inr (inr tt)
unheld_of_unread (Some all) why (inr (inr (large, long))) = inr (inr (inl (long, large)))

pub status_of_unread_file : (known : Option (List ℕ)) (why : Fault) (status : ℕ) → status ≡ status_of_fault why → IsUnread known why → IsLiveStatus known status
status_of_unread_file known why status same (inl memory) = subst (IsLiveStatus known) (sym (same ∙ ap status_of_fault memory)) refl
status_of_unread_file known why status same (inr (inl read)) = subst (IsLiveStatus known) (sym (same ∙ ap status_of_fault read)) refl
status_of_unread_file known why status same (inr (inr (large, long))) = subst (IsLiveStatus known) (sym (same ∙ ap status_of_fault large)) long

pub check_status_of_unread : (known : Option (List ℕ)) (why : Fault) (status : ℕ) → status ≡ status_of_fault why → IsUnread known why → IsCheckStatus known status
check_status_of_unread known why status same (inl memory) = subst (IsCheckStatus known) (sym (same ∙ ap status_of_fault memory)) refl
check_status_of_unread known why status same (inr (inl read)) = subst (IsCheckStatus known) (sym (same ∙ ap status_of_fault read)) refl
check_status_of_unread known why status same (inr (inr (large, long))) =
    subst (IsCheckStatus known) (sym (same ∙ ap status_of_fault large)) (go known long)
  where
    go : (known : Option (List ℕ)) → IfSome known (λ all. most_bytes < length all) → IfSome known IsNoPolicy
    go None long = tt
    go (Some all) long = inl long

-- where the text has a marker line, the file isn't held
pub unheld_of_marked : (known : Option (List ℕ)) (text : List ℕ) (why : Fault) → IfSome known (λ all. text ≡ ended_lines all)
    → (why ≡ fault.Memory) ⊎ IsMarkedFault text why → IsUnheld known why
unheld_of_marked known text why same (inl memory) = inl memory
unheld_of_marked None text why same (inr marked) = inr (inr tt)
unheld_of_marked (Some all) text why same (inr marked) = inr (inr (inr (subst (λ bytes. IsMarkedFault bytes why) same marked)))

-- a fault's status is 4 or 1
pub status_is : (why : Fault) → (status_of_fault why ≡ 4) ⊎ (status_of_fault why ≡ 1)
status_is fault.Memory = inl refl
status_is fault.Read = inl refl
status_is fault.Write = inl refl
status_is fault.TooLarge = inr refl
status_is fault.NoCapture = inr refl
status_is fault.NotUtf8 = inr refl
status_is (fault.BadLine number) = inr refl
status_is (fault.TooMany number) = inr refl
status_is (fault.Twice interface) = inr refl
status_is fault.Hex = inr refl
status_is fault.Short = inr refl
status_is fault.Magic = inr refl
status_is fault.Version = inr refl
status_is fault.LinkType = inr refl
status_is (fault.LongRecord number) = inr refl

-- the status of why a text isn't held
pub status_of_unheld : (text : Option (List ℕ)) (why : Fault) (status : ℕ) → status ≡ status_of_fault why → IsUnheld text why → IsFileStatus text status
status_of_unheld text why status same (inl memory) = inl (same ∙ ap status_of_fault memory)
status_of_unheld text why status same (inr (inl read)) = inl (same ∙ ap status_of_fault read)
status_of_unheld text why status same (inr (inr refused)) = go (status_is why)
  where
    known : (text : Option (List ℕ)) → IfSome text (λ all. IsFileFault all why) → IfSome text (λ all. (other : Fault) × IsFileFault all other)
    known None refused = tt
    known (Some all) refused = (why, refused)

    go : (status_of_fault why ≡ 4) ⊎ (status_of_fault why ≡ 1) → IsFileStatus text status
    go (inl four) = inl (same ∙ four)
    go (inr one) = inr (same ∙ one, known text refused)
