-- What stands at the front of a buffer that was written to.
use Rattle.std.proofs.Common.{◌≡◌, ◌∙◌, ◌≤◌, ◌+◌, ◌++◌, ℕ, List, ap, arith, length, sym, take}
use Rattle.std.proofs.Math.Seq.{take-append-add}
use Rattle.std.proofs.lemmas.List.{length-append, length-take-le, take-append-le, take-take}

-- the bytes that stood there, and behind them the first of those that were read
front_read : (items part rest : List ℕ) (count n : ℕ) → count ≤ length items → n ≤ length part
    → take (count + n) (take count items ++ (part ++ rest)) ≡ take count items ++ take n part
front_read items part rest count n within few =
    let front = take count items in
    let long : length front ≡ count = length-take-le count items within in
    ap (λ k. take (k + n) (front ++ (part ++ rest))) (sym long) ∙ take-append-add front (part ++ rest) n
    ∙ ap (λ bs. front ++ bs) (take-append-le n part rest few)

-- the same in room of which the rest stays
pub room_read : (items part rest others : List ℕ) (count n size : ℕ) → count ≤ length items → n ≤ length part
    → count + n ≤ size → take (count + n) (take size ((take count items ++ (part ++ rest)) ++ others)) ≡ take count items ++ take n part
room_read items part rest others count n size within few fits =
    let front = take count items in
    let all = front ++ (part ++ rest) in
    let long = length-take-le count items within in
    let one = length-append front (part ++ rest) in
    let two = length-append part rest in
    take-take (count + n) size (all ++ others) fits ∙ take-append-le (count + n) all others (omega arith)
    ∙ front_read items part rest count n within few
