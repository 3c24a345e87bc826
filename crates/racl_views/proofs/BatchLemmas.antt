-- Bytes that are written, and bytes that wait.
use Rattle.std.proofs.Common.{◌≡◌, ◌∙◌, ◌+◌, ◌++◌, ℕ, List, [], Ok, Err, Option, Result, append_assoc, ap, subst}
use Rattle.std.specs.Prelude.{⊤}
use Rattle.std.proofs.KnownBytes.{Appends-trans}
use Rattle.std.specs.Io.KnownBytes.{Appends}
use Rattle.racl_io.specs.declared.fault.Fault.{Fault}
use Rattle.racl_io.specs.Sinks.{HasPut}
use Rattle.racl_views.specs.inner.Batches.{HasPassed}

-- where those that waited were written first
pub passed_behind : {W : Type 0} (bytes : W → Option (List ℕ)) (failures : W → ℕ) (old now new : W) (waited waits more : List ℕ) (result : Result ⊤ Fault)
    → Appends (bytes old) (bytes now) waited → failures now ≡ failures old → HasPassed bytes failures now new [] waits more result
    → HasPassed bytes failures old new waited waits more result
passed_behind bytes failures old now new waited waits more (Ok x) written same passed =
    let (gone, appended, all) = passed.whole in
    record {
      whole = (
        waited ++ gone,
        Appends-trans (bytes old) (bytes now) (bytes new) waited gone written appended,
        append_assoc waited gone waits ∙ ap (λ (b : List ℕ). waited ++ b) all,
      );
      steady = passed.steady ∙ same;
      failed = tt;
      fault = tt;
    }
passed_behind bytes failures old now new waited waits more (Err e) written same passed = record {
  whole = tt;
  steady = tt;
  failed = passed.failed ∙ ap (λ n. n + 1) same;
  fault = passed.fault;
}

-- those that wait were written at the end
pub all_written : {W : Type 0} (bytes : W → Option (List ℕ)) (failures : W → ℕ) (old now new : W) (waits text : List ℕ) (result : Result ⊤ Fault)
    → (gone : List ℕ) × Appends (bytes old) (bytes now) gone × (gone ++ waits ≡ text) → failures now ≡ failures old → HasPut bytes failures now new waits result
    → HasPut bytes failures old new text result
all_written bytes failures old now new waits text (Ok x) (gone, written, all) same (appended, steady, failed, fault) = (
  subst (Appends (bytes old) (bytes new)) all (Appends-trans (bytes old) (bytes now) (bytes new) gone waits written appended),
  steady ∙ same,
  tt,
  tt,
)
all_written bytes failures old now new waits text (Err e) (gone, written, all) same (appended, steady, failed, fault) =
    (tt, tt, failed ∙ ap (λ n. n + 1) same, fault)
