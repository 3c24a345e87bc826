-- What a step makes of a caller: its state, the count of its numbers, and the stamp of its last call.
use Rattle.std.proofs.Common.{◌≡◌, ◌⊎◌, ℕ, ◌+◌, ◌^◌, ◌≤◌, List, [], ◌∷◌, ◌++◌, nat_eq, length, refl, sym, ap, ◌∙◌, subst, inl, inr, arith, Option, Some}
use Rattle.std.proofs.lemmas.Bool.{eq-eqb, eqb-false, eqb-true}
use mathlib.Core.Logic.{dite}
use native.Mathlib.Decide.{ℕ_discrete}
use Rattle.atomic_table.specs.Seated.{TableId}
use Rattle.bihash_words.specs.Sizes.{Sizes}
use Rattle.bihash_rule.specs.Words.{returned_count_at}
use Rattle.bihash_steps.specs.Seats.{CallerState, caller_state, with_view, CanAct, stamp_in, stamp_of}
use Rattle.bihash_steps.specs.Steps.{ViewOfSeat}
use Rattle.bihash_steps.specs.BucketCalls.{FindsBucket, HasEntered, TriesLock}
use Rattle.bihash_steps.specs.BucketSteps.{TellsEntry, lock_counted, push_call, SeesOpen, SeesLocked, TellsBucket, TellsLock}
use Rattle.bihash_steps.specs.StoreSteps.{MayTakeReturned, TellsTakenReturned, MayTakeUnused, TellsTakenUnused}
use Rattle.bihash_rule.specs.declared.view.Call.{Call}
use Rattle.bihash_rule.specs.declared.view.Record.{Record}
use Rattle.bihash_rule.specs.declared.view.View.{View}

-- the invariant of a caller's seat
abbrev pub IsCounted : ViewOfSeat → ℕ → Option (ℕ × ℕ) → Type 0
IsCounted m numbers stamp = (m.1 ≡ []) × CanAct m.0 numbers × (stamp ≡ stamp_of m.0.records)

pub can_act : (v : View) (numbers : ℕ) → CanAct v numbers → 1 ≤ length v.records
can_act v numbers h = let n = h.count in let some = h.some in omega arith

-- records with as many calls and numbers are counted alike
pub counted_as : (m m' : ViewOfSeat) (numbers : ℕ) (stamp stamp' : Option (ℕ × ℕ)) → m'.1 ≡ m.1 → length m'.0.records ≡ length m.0.records
    → stamp' ≡ stamp_of m'.0.records → IsCounted m numbers stamp → IsCounted m' numbers stamp'
counted_as m m' numbers stamp stamp' slots long last h = (slots ∙ h.0, record { count = long ∙ h.1.count; some = h.1.some }, last)

-- so are the same records
pub counted_same : (m m' : ViewOfSeat) (numbers : ℕ) (stamp : Option (ℕ × ℕ)) → m'.1 ≡ m.1 → m'.0.records ≡ m.0.records
    → IsCounted m numbers stamp → IsCounted m' numbers stamp
counted_same m m' numbers stamp slots same h = counted_as m m' numbers stamp stamp slots (ap length same) (h.2 ∙ ap stamp_of (sym same)) h

pub counted_next : (next : View → View) (m m' : ViewOfSeat) (numbers : ℕ) (stamp : Option (ℕ × ℕ)) → m' ≡ (next m.0, m.1)
    → (next m.0).records ≡ m.0.records → IsCounted m numbers stamp → IsCounted m' numbers stamp
counted_next next m m' numbers stamp is same h =
    counted_same m m' numbers stamp (ap (λ (q : ViewOfSeat). q.1) is) (ap (λ (q : ViewOfSeat). q.0.records) is ∙ same) h

-- records that count one lock more
pub counted_lock : (m m' : ViewOfSeat) (numbers : ℕ) (stamp : Option (ℕ × ℕ)) → m'.1 ≡ m.1 → m'.0.records ≡ lock_counted m.0.records
    → IsCounted m numbers stamp → IsCounted m' numbers stamp
counted_lock m m' numbers stamp slots same h =
    counted_as m m' numbers stamp stamp slots (ap length same ∙ long m.0.records) (h.2 ∙ (last m.0.records ∙ ap stamp_of (sym same))) h
  where
    long : (rs : List Record) → length (lock_counted rs) ≡ length rs
    long [] = refl
    long (r ∷ rs) = refl

    last : (rs : List Record) → stamp_of rs ≡ stamp_of (lock_counted rs)
    last [] = refl
    last (r ∷ rs) = refl

-- the stamp of a call that was pushed
pub stamp-push : (cs : List Call) (c : Call) → stamp_in (cs ++ c ∷ []) ≡ Some (c.bucket, c.stamp)
stamp-push [] c = refl
stamp-push (d ∷ []) c = refl
stamp-push (d ∷ e ∷ cs) c = stamp-push (e ∷ cs) c

-- records with one call more
pub counted_call : (m m' : ViewOfSeat) (c : Call) (numbers b stamp : ℕ) (old : Option (ℕ × ℕ)) → m'.1 ≡ m.1
    → m'.0.records ≡ push_call c m.0.records → c.bucket ≡ b → c.stamp ≡ stamp → IsCounted m numbers old → IsCounted m' numbers (Some (b, stamp))
counted_call m m' c numbers b stamp old slots same bucket at h =
    counted_as m m' numbers old (Some (b, stamp)) slots (ap length same ∙ long m.0.records)
    (sym (ap stamp_of same ∙ (last m.0.records (can_act m.0 numbers h.1) ∙ (λ i. Some (bucket i, at i))))) h
  where
    long : (rs : List Record) → length (push_call c rs) ≡ length rs
    long [] = refl
    long (r ∷ rs) = refl

    last : (rs : List Record) → 1 ≤ length rs → stamp_of (push_call c rs) ≡ Some (c.bucket, c.stamp)
    last [] l = absurd (omega arith)
    last (r ∷ rs) l = stamp-push r.calls c

-- a load of a bucket's word leaves the records
pub seen_records : (z : Sizes) (b word : ℕ) (v w : View) → SeesOpen z v b word w ⊎ SeesLocked v word w → w.records ≡ v.records
seen_records z b word v w h = elim h [ inl o ↦ ap (λ (x : View). x.records) o.is | inr l ↦ ap (λ (x : View). x.records) l.is ]

-- an exchange that may set the lock bit counts a lock, or leaves the records
pub counted_locks : (z : Sizes) (b word : ℕ) (m : ViewOfSeat) (found : ℕ) (m' : ViewOfSeat) (numbers : ℕ) (stamp : Option (ℕ × ℕ))
    → TellsLock z b word m found m' → IsCounted m numbers stamp → IsCounted m' numbers stamp
counted_locks z b word m found m' numbers stamp t h = dite (ℕ_discrete found word)
    (λ e. counted_lock m m' numbers stamp t.slots (ap (λ (x : View). x.records) (t.taken e).is) h)
    (λ ne. counted_same m m' numbers stamp t.slots (ap (λ (x : View). x.records) (t.not ne)) h)

-- so does the taking of a block
pub counted_returned : (z : Sizes) (at count log2 : ℕ) (m m' : ViewOfSeat) (numbers : ℕ) (stamp : Option (ℕ × ℕ)) → MayTakeReturned z m.0 log2 count
    → at ≡ returned_count_at log2 → TellsTakenReturned z at count m m' → IsCounted m numbers stamp → IsCounted m' numbers stamp
counted_returned z at count log2 m m' numbers stamp may is told h =
    counted_same m m' numbers stamp told.slots (ap (λ (v : View). v.records) (told.taken log2 may.locked may is may.store).is) h

pub counted_unused : (z : Sizes) (mark log2 used : ℕ) (m m' : ViewOfSeat) (numbers : ℕ) (stamp : Option (ℕ × ℕ)) → MayTakeUnused z m.0 log2 used
    → mark ≡ used + 2 ^ log2 → TellsTakenUnused z mark m m' → IsCounted m numbers stamp → IsCounted m' numbers stamp
counted_unused z mark log2 used m m' numbers stamp may is told h =
    counted_same m m' numbers stamp told.slots (ap (λ (v : View). v.records) (told.taken log2 used may.locked may is may.store).is) h

-- ---- The state after a step

-- what holds of the view that contracts see holds of the seat's
pub of_seat : (P : View → Type 0) {t : TableId} {i : ℕ} {v : View} {state : CallerState} → caller_state t i v ≡ state → P state.view → P v
of_seat P is h = subst (λ (k : CallerState). P k.view) (sym is) h

pub state_same : (t t' : TableId) (i i' : ℕ) (m m' : ViewOfSeat) (state : CallerState) → t' ≡ t → i' ≡ i → m' ≡ m → caller_state t i m.0 ≡ state
    → caller_state t' i' m'.0 ≡ state
state_same t t' i i' m m' state row seat is before = (λ k. caller_state (row k) (seat k) (is k).0) ∙ before

pub state_next : (next : View → View) (t t' : TableId) (i i' : ℕ) (m m' : ViewOfSeat) (state : CallerState) → t' ≡ t → i' ≡ i → m' ≡ (next m.0, m.1)
    → caller_state t i m.0 ≡ state → caller_state t' i' m'.0 ≡ with_view state (next state.view)
state_next next t t' i i' m m' state row seat is before =
    (λ k. caller_state (row k) (seat k) (is k).0) ∙ ap (λ (s : CallerState). with_view s (next s.view)) before

-- what the answer of a call tells
pub entered_state : (z : Sizes) (after : View → View) (c : Call) (t t' : TableId) (i i' : ℕ) (m m' : ViewOfSeat) (state : CallerState) → t' ≡ t → i' ≡ i
    → caller_state t i m.0 ≡ state → TellsEntry z after c m m' → HasEntered z state (after state.view) c (caller_state t' i' m'.0)
entered_state z after c t t' i i' m m' state row seat before told =
    subst (λ (s : CallerState). HasEntered z s (after s.view) c (caller_state t' i' m'.0)) before record {
      same = λ k. caller_state (row k) (seat k) m'.0;
      entered = told.entered;
      lawful = told.lawful;
    }

-- what a load of a bucket's word tells
pub found_bucket : (z : Sizes) (b found word : ℕ) (t t' : TableId) (i i' : ℕ) (m m' : ViewOfSeat) (state : CallerState) → t' ≡ t → i' ≡ i
    → word ≡ found → caller_state t i m.0 ≡ state → TellsBucket z b m found m' → FindsBucket z state (caller_state t' i' m'.0) b word
found_bucket z b found word t t' i i' m m' state row seat stood before told =
    subst (λ (w : ℕ). FindsBucket z state (caller_state t' i' m'.0) b w) (sym stood)
    (subst (λ (s : CallerState). FindsBucket z s (caller_state t' i' m'.0) b found) before record {
      same = λ k. caller_state (row k) (seat k) m'.0;
      seen = told.seen;
      lone = told.lone;
      again = told.again;
      whole = told.whole;
      lawful = told.lawful;
    })

-- what an exchange that may set the lock bit tells
pub tried_lock : (z : Sizes) (b word from found : ℕ) (t t' : TableId) (i i' : ℕ) (m m' : ViewOfSeat) (state : CallerState) → t' ≡ t → i' ≡ i
    → from ≡ word → caller_state t i m.0 ≡ state → TellsLock z b from m found m'
    → TriesLock z state (caller_state t' i' m'.0) b word (nat_eq found from)
tried_lock z b word from found t t' i i' m m' state row seat stood before told =
    subst (λ (w : ℕ). TriesLock z state (caller_state t' i' m'.0) b w (nat_eq found from)) stood
    (subst (λ (s : CallerState). TriesLock z s (caller_state t' i' m'.0) b from (nat_eq found from)) before record {
      same = λ k. caller_state (row k) (seat k) m'.0;
      taken = λ won. told.taken (eqb-true _ _ won);
      not = λ lost. told.not (eqb-false _ _ lost);
      lone = λ alone o noted home is. eq-eqb _ _ (told.lone alone o noted home is);
      rests = λ won o noted home is l held. told.rests (eqb-true _ _ won) o noted home is l held;
      whole = λ alone won. told.whole alone (eqb-true _ _ won);
      lawful = told.lawful;
    })
