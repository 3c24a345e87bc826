-- Bytes that are stored after those that count.
use Rattle.std.proofs.Common.{◌≡◌, ◌∙◌, ◌≤◌, ◌+◌, ◌++◌, ℕ, List, ap, append_assoc, length, sym, take}
use Rattle.std.proofs.Math.Seq.{take-append-add}
use Rattle.std.proofs.lemmas.List.{length-take-le, take-append-le, take-take}

-- So many bytes of a room count, and then so many of those that were stored after them: what the room has after these
-- is cut to its length.
pub counted_more : (room stored bytes rest more : List ℕ) (all len count : ℕ) → stored ≡ bytes → len ≤ length room → count ≤ length bytes
    → len + count ≤ all → take (len + count) (take all ((take len room ++ (stored ++ rest)) ++ more)) ≡ take len room ++ take count bytes
counted_more room stored bytes rest more all len count same within some fits =
    let before = take len room in
    let there = (before ++ (stored ++ rest)) ++ more in
    take-take (len + count) all there fits ∙ ap (λ k. take (k + count) there) (sym (length-take-le len room within))
    ∙ ap (take (length before + count)) (append_assoc before (stored ++ rest) more ∙ ap (λ bs. before ++ bs) (append_assoc stored rest more))
    ∙ take-append-add before (stored ++ (rest ++ more)) count
    ∙ ap (λ bs. before ++ bs) (ap (λ bs. take count (bs ++ (rest ++ more))) same ∙ take-append-le count bytes (rest ++ more) some)
