-- What is read of the files of interfaces' captures.
use Rattle.std.proofs.Common.{◌≡◌, ◌∙◌, ◌+◌, ◌<◌, ◌≤◌, ◌++◌, ◌⊎◌, inl, inr, ap, arith, refl, subst, sym, ℕ, true, false, List, [], ◌∷◌, Option, None, Some, length}
use Rattle.std.specs.Prelude.{IfSome}
use Rattle.std.specs.Iterator.{Yields}
use Rattle.std.specs.Vec.Iter.{into_iter_items, into_iter_len, into_iter_steps}
use Rattle.std.proofs.iter.Next.{Yields-more}
use Rattle.std.proofs.lemmas.List.{append-nil, append_assoc, length-append, map-id}
use Rattle.std.proofs.lemmas.Iterator.Adapters.{YieldsList-from_vec}
use Rattle.std.proofs.iter.Yields.{gives_left}
use Rattle.std.proofs.lemmas.List.Elements.{All-append, All-from_recursion}
use Rattle.packet_view.specs.Bytes.{AreBytes}
use Rattle.racl_io.specs.Inputs.{most_bytes}
use Rattle.racl_io.specs.Transfers.{HasRead}
use Rattle.racl_io.specs.declared.fault.Fault.{Fault}
use Rattle.racl_io.specs.declared.fault.Fault.TheVariants as fault
use Rattle.racl_io.specs.declared.capture_bytes.CaptureBytes.{CaptureBytes}
use Rattle.racl_report.specs.InterfaceInputs.{AreAllBytes, bytes_in}
use Rattle.racl_report.specs.Statuses.{status_of_fault}
use Rattle.racl_system.specs.InterfaceFiles.{AreAllOf, AreOver, AreUnread, GivenFacts, IsInterfacesStatus, IsUnreadInput, given_by}
use Rattle.racl_system.specs.declared.interface_capture.InterfaceCapture.{InterfaceCapture}
use Rattle.racl_system.specs.PolicyTexts.{ended_lines}
use Rattle.racl_system.proofs.ReaderLemmas.{status_is, status_of_unheld}

-- ---- one capture

-- what was read up to a source's end is all that it had
pub whole_read : (all after : Option (List ℕ)) (old read : List ℕ) (least : ℕ) → old ≡ [] → HasRead all after old read least true → IfSome all (λ bytes. read ≡ bytes)
whole_read None after old read least none has = tt
whole_read (Some all) None old read least none has = absurd has.consumed
whole_read (Some all) (Some rest) old read least none has =
    let ended = has.ended refl in
    let same : all ≡ has.read = has.consumed ∙ ap (λ (bytes : List ℕ). has.read ++ bytes) ended.0 ∙ append-nil has.read in
    has.appended ∙ ap (λ (bytes : List ℕ). bytes ++ has.read) none ∙ sym same

-- where so many were read, it had them
pub more_read : (all after : Option (List ℕ)) (old read : List ℕ) (least : ℕ) → old ≡ [] → HasRead all after old read least false → IfSome all (λ bytes. least ≤ length bytes)
more_read None after old read least none has = tt
more_read (Some all) None old read least none has = absurd has.consumed
more_read (Some all) (Some rest) old read least none has =
    let enough = has.enough refl in
    let sizes = ap length has.consumed in
    let parts = length-append has.read rest in
    let same = ap length (has.appended ∙ ap (λ (bytes : List ℕ). bytes ++ has.read) none) in
    let zero = ap length none in
    omega arith

-- ---- one capture more

-- what a `for` over a list has yielded stands in it before this one
pub next_given : {A Z : Type 0} (s t u : _) (items seen : List A) (x : A) → into_iter_items s ≡ items → into_iter_len s ≡ length items → Yields (into_iter_steps {X = A} {Z = Z}) s seen t
    → into_iter_steps t (Some x) u → (more : List A) × (items ≡ seen ++ x ∷ more)
next_given {A} {Z} s t u items seen x are count yielded next =
    let same : A → A = λ y. y in
    let longer : List A = seen ++ x ∷ [] in
    let left = gives_left (into_iter_steps {X = A} {Z = Z}) same longer items s u (YieldsList-from_vec {Z = Z} items are count).runs
    (Yields-more (into_iter_steps {X = A} {Z = Z}) s seen t x u yielded next) in
    (left.0, left.1 ∙ ap (λ (front : List A). front ++ left.0) (map-id longer) ∙ append_assoc seen (x ∷ []) left.0)

pub bytes_more : (all : List CaptureBytes) (capture : CaptureBytes) → bytes_in (all ++ capture ∷ []) ≡ bytes_in all + length capture.bytes.items
bytes_more [] capture = omega arith
bytes_more (first ∷ all) capture = let more = bytes_more all capture in omega arith

pub fit_more : (all : List CaptureBytes) (capture : CaptureBytes) → AreAllBytes all → AreBytes capture.bytes.items → AreAllBytes (all ++ capture ∷ [])
fit_more all capture fit own =
    let Fits : CaptureBytes → Type 0 = λ (c : CaptureBytes). AreBytes c.bytes.items in
    All-append Fits all (capture ∷ []) fit (All-from_recursion Fits (capture ∷ []) (own, tt))

all_more : (givens : List GivenFacts) (all : List CaptureBytes) (given : GivenFacts) (capture : CaptureBytes) → AreAllOf givens all → capture.interface ≡ given.interface
    → IfSome given.bytes (λ bytes. capture.bytes.items ≡ bytes) → AreAllOf (givens ++ given ∷ []) (all ++ capture ∷ [])
all_more [] [] given capture are same whole = (same, whole, tt)
all_more [] (other ∷ all) given capture are same whole = absurd are
all_more (first ∷ givens) [] given capture are same whole = absurd are
all_more (first ∷ givens) (other ∷ all) given capture are same whole = (are.0, are.1, all_more givens all given capture are.2 same whole)

given_more : {R : Type 0} (remaining : R → Option (List ℕ)) (captures : List (InterfaceCapture R)) (rest : List (InterfaceCapture R))
    → given_by remaining (captures ++ rest) ≡ given_by remaining captures ++ given_by remaining rest
given_more remaining [] rest = refl
given_more remaining (first ∷ captures) rest =
    ap (λ (gs : List GivenFacts). let given : GivenFacts = record { interface = first.interface; bytes = remaining first.reader } in given ∷ gs) (given_more remaining captures rest)

pub read_more : {R : Type 0} (remaining : R → Option (List ℕ)) (captures : List (InterfaceCapture R)) (all : List CaptureBytes) (from : InterfaceCapture R) (capture : CaptureBytes)
    → AreAllOf (given_by remaining captures) all → capture.interface ≡ from.interface → IfSome (remaining from.reader) (λ bytes. capture.bytes.items ≡ bytes)
    → AreAllOf (given_by remaining (captures ++ from ∷ [])) (all ++ capture ∷ [])
read_more remaining captures all from capture are same whole =
    subst (λ gs. AreAllOf gs (all ++ capture ∷ [])) (sym (given_more remaining captures (from ∷ [])))
    (all_more (given_by remaining captures) all (record { interface = from.interface; bytes = remaining from.reader }) capture are same whole)

-- ---- too many bytes

pub over_stays : (before : ℕ) (givens : List GivenFacts) → most_bytes < before → AreOver before givens
over_stays before [] over = over
over_stays before (given ∷ givens) over = go given.bytes (λ n more. over_stays n givens more)
  where
    go : (bytes : Option (List ℕ)) → ((n : ℕ) → most_bytes < n → AreOver n givens) → IfSome bytes (λ all. AreOver (before + length all) givens)
    go None stays = tt
    go (Some all) stays = stays (before + length all) (omega (arith, over))

over_behind : (before : ℕ) (givens rest : List GivenFacts) (all : List CaptureBytes) → AreAllOf givens all → AreOver (before + bytes_in all) rest → AreOver before (givens ++ rest)
over_behind before [] rest [] are over = subst (λ n. AreOver n rest) (let e : before + 0 ≡ before = omega arith in e) over
over_behind before [] rest (capture ∷ all) are over = absurd are
over_behind before (given ∷ givens) rest [] are over = absurd are
over_behind before (given ∷ givens) rest (capture ∷ all) are over = go given.bytes are.1 (λ n more. over_behind n givens rest all are.2 more)
  where
    go : (bytes : Option (List ℕ)) → IfSome bytes (λ own. capture.bytes.items ≡ own) → ((n : ℕ) → AreOver (n + bytes_in all) rest → AreOver n (givens ++ rest))
        → IfSome bytes (λ own. AreOver (before + length own) (givens ++ rest))
    go None same behind = tt
    go (Some own) same behind =
        let sizes = ap length same in
        behind (before + length own)
        (subst (λ n. AreOver n rest) (let e : before + (length capture.bytes.items + bytes_in all) ≡ before + length own + bytes_in all = omega (arith, sizes) in e) over)

-- the next capture has more bytes than there may be behind those that were read
pub unread_there : {R : Type 0} (remaining : R → Option (List ℕ)) (text : ℕ) (captures rest : List (InterfaceCapture R)) (from : InterfaceCapture R) (all : List CaptureBytes) (most : ℕ) (why : Fault)
    → AreAllOf (given_by remaining captures) all → text + bytes_in all + most ≡ most_bytes
    → (why ≡ fault.Memory) ⊎ ((why ≡ fault.Read) ⊎ ((why ≡ fault.TooLarge) × IfSome (remaining from.reader) (λ bytes. most < length bytes)))
    → AreUnread text (given_by remaining (captures ++ from ∷ rest)) why
unread_there remaining text captures rest from all most why are left (inl memory) = inl memory
unread_there remaining text captures rest from all most why are left (inr (inl failed)) = inr (inl failed)
unread_there remaining text captures rest from all most why are left (inr (inr (large, many))) =
    inr (inr (
      large,
      subst (AreOver text) (sym (given_more remaining captures (from ∷ rest)))
          (over_behind text (given_by remaining captures) (given_by remaining (from ∷ rest)) all are (go (remaining from.reader) many)),
    ))
  where
    go : (bytes : Option (List ℕ)) → IfSome bytes (λ own. most < length own) → IfSome bytes (λ own. AreOver (text + bytes_in all + length own) (given_by remaining rest))
    go None many = tt
    go (Some own) many = over_stays (text + bytes_in all + length own) (given_by remaining rest) (omega (arith, many, left))

-- ---- a text and captures

-- captures that aren't read behind a text
pub unread_behind : (known : Option (List ℕ)) (text : List ℕ) (givens : List GivenFacts) (why : Fault) → IfSome known (λ all. text ≡ ended_lines all)
    → AreUnread (length text) givens why → IsUnreadInput known givens why
unread_behind None text givens why same unread = inr tt
unread_behind (Some all) text givens why same unread =
    inr (subst (λ n. AreUnread n givens why) (ap length same ∙ length-append all (10 ∷ [])) unread)

-- and the status then
pub status_of_unread : (text : Option (List ℕ)) (givens : List GivenFacts) (why : Fault) (status : ℕ) → status ≡ status_of_fault why → IsUnreadInput text givens why
    → IsInterfacesStatus text givens status
status_of_unread text givens why status same (inl unheld) = inl (status_of_unheld text why status same unheld)
status_of_unread None givens why status same (inr unread) = inl (elim (status_is why) [ inl four ↦ inl (same ∙ four) | inr one ↦ inr (same ∙ one, tt) ])
status_of_unread (Some all) givens why status same (inr (inl memory)) = inl (inl (same ∙ ap status_of_fault memory))
status_of_unread (Some all) givens why status same (inr (inr (inl failed))) = inl (inl (same ∙ ap status_of_fault failed))
status_of_unread (Some all) givens why status same (inr (inr (inr (large, over)))) = inr (same ∙ ap status_of_fault large, over)
