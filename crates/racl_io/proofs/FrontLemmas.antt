-- The first bytes that are kept, with those behind them as far as there is room.
use Rattle.std.proofs.Common.{◌≡◌, ◌∙◌, ◌≤◌, ◌+◌, ◌-◌, ◌++◌, ℕ, List, ap, arith, length, min, sym, take}
use Rattle.std.proofs.Math.Seq.{take-append-add}
use Rattle.std.proofs.lemmas.List.{length-take-le, take-append-le, take-take, take_min}

-- the front of bytes that were stored is that of those that were to be
first_stored : (stored bytes rest : List ℕ) (m : ℕ) → stored ≡ take m bytes → m ≤ length bytes → take m (stored ++ rest) ≡ take m bytes
first_stored stored bytes rest m same within =
    ap (λ bs. take m (bs ++ rest)) same
    ∙ take-append-le m (take m bytes) rest (let long = length-take-le m bytes within in omega arith)
    ∙ take-take m m bytes (omega arith)

pub kept_more : (front stored bytes rest : List ℕ) (count m : ℕ) → stored ≡ take m bytes → count ≤ length front → count ≤ 4096
    → m ≡ min (length bytes) (4096 - count) → take (count + m) (take count front ++ (stored ++ rest)) ≡ take 4096 (take count front ++ bytes)
kept_more front stored bytes rest count m same within few is =
    let before = take count front in
    let long : length before ≡ count = length-take-le count front within in
    let some : m ≤ length bytes = omega (arith, is) in
    let all : length before + (4096 - count) ≡ 4096 = omega (arith, long) in
    let most : min (4096 - count) (length bytes) ≡ m = omega (arith, is) in
    ap (λ k. take (k + m) (before ++ (stored ++ rest))) (sym long) ∙ take-append-add before (stored ++ rest) m
    ∙ ap (λ bs. before ++ bs) (first_stored stored bytes rest m same some ∙ ap (λ k. take k bytes) (sym most) ∙ take_min (4096 - count) bytes)
    ∙ sym (ap (λ k. take k (before ++ bytes)) (sym all) ∙ take-append-add before bytes (4096 - count))
