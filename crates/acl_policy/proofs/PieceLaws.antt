-- Words of pieces with a byte between them: addresses of interfaces, and IPv4 addresses.
use Rattle.std.proofs.Common.{◌≡◌, ℕ, ◌+◌, ◌*◌, ◌≤◌, ◌==◌, false, List, [], ◌∷◌, ◌++◌, length, Option, Some, refl, sym, ap, ◌∙◌, subst, arith, lit≤}
use Rattle.std.specs.Char.{digit_value}
use Rattle.packet_view.specs.declared.tuple.Mac.{Mac}
use Rattle.acl_policy.specs.Numerals.{ArePieces, IsGroup, IsNumber, IsOctet, IsPair, in_base}
use Rattle.acl_policy.specs.Prefixes.{IsFourParts, IsMac}
use Rattle.acl_policy.specs.inner.WordReading.Numerals.{cut_in, octet_in, pair_in, piece_in}
use Rattle.acl_policy.specs.inner.WordReading.Prefixes.{four_parts_in, mac_in}
use Rattle.acl_policy.proofs.NumeralLaws.{Lacks, Lacks-AllDigits, Lacks-append, cut_in-complete, cut_in-sound, octet_in-complete, octet_in-sound, pair_in-complete, pair_in-sound}
use Rattle.acl_policy.proofs.OptionLemmas.{bind_some, map_some, same_some}

-- no byte but a digit is in a number
pub Lacks-IsNumber : (byte : ℕ) (word : List ℕ) (n : ℕ) → 10 ≤ digit_value byte → IsNumber word n → Lacks byte word
Lacks-IsNumber byte word n none is = Lacks-AllDigits 10 byte word none is.0.1

pub Lacks-IsOctet : (byte : ℕ) (word : List ℕ) (n : ℕ) → 10 ≤ digit_value byte → IsOctet word n → Lacks byte word
Lacks-IsOctet byte word n none is = Lacks-AllDigits 10 byte word none is.0.0.1

pub Lacks-IsPair : (byte : ℕ) (word : List ℕ) (n : ℕ) → 16 ≤ digit_value byte → IsPair word n → Lacks byte word
Lacks-IsPair byte word n none is = Lacks-AllDigits 16 byte word none is.0.0.1

pub Lacks-IsGroup : (byte : ℕ) (word : List ℕ) (n : ℕ) → 16 ≤ digit_value byte → IsGroup word n → Lacks byte word
Lacks-IsGroup byte word n none is = Lacks-AllDigits 16 byte word none is.0.1

-- no byte but those of the pieces and the one between them is in a word
pub Lacks-ArePieces : (byte between : ℕ) (IsPiece : List ℕ → ℕ → Type 0) → ((piece : List ℕ) (n : ℕ) → IsPiece piece n → Lacks byte piece) → (between == byte) ≡ false
    → (word : List ℕ) (ns : List ℕ) → ArePieces between IsPiece word ns → Lacks byte word
Lacks-ArePieces byte between IsPiece pieces apart word [] are = subst (Lacks byte) (sym are) tt
Lacks-ArePieces byte between IsPiece pieces apart word (n ∷ []) are = pieces word n are
Lacks-ArePieces byte between IsPiece pieces apart word (n ∷ m ∷ more) (first, rest, split, is, are) =
    subst (Lacks byte) (sym split)
    (Lacks-append byte first (between ∷ rest) (pieces first n is) (apart, Lacks-ArePieces byte between IsPiece pieces apart rest (m ∷ more) are))

pub piece_in-sound : (byte : ℕ) (read : List ℕ → Option ℕ) (word : List ℕ) (next : ℕ × List ℕ) → piece_in byte read word ≡ Some next
    → (first : List ℕ) × (word ≡ first ++ byte ∷ next.1) × (read first ≡ Some next.0)
unfolding piece_in
piece_in-sound byte read word next found =
    let cut = bind_some {B = ℕ × List ℕ} (cut_in byte word) _ next found in
    let piece = map_some {B = ℕ × List ℕ} (λ n. (n, cut.0.1)) (read cut.0.0) next cut.2 in
    let split = cut_in-sound byte word cut.0.0 cut.0.1 cut.1 in (
      cut.0.0,
      split ∙ ap (λ (p : ℕ × List ℕ). cut.0.0 ++ byte ∷ p.1) (sym piece.2),
      piece.1 ∙ ap (λ (p : ℕ × List ℕ). Some p.0) (sym piece.2),
    )

pub piece_in-complete : (byte : ℕ) (read : List ℕ → Option ℕ) (word first rest : List ℕ) (n : ℕ) → word ≡ first ++ byte ∷ rest → Lacks byte first → read first ≡ Some n
    → piece_in byte read word ≡ Some (n, rest)
unfolding piece_in
piece_in-complete byte read word first rest n split lacks is =
    rw (split, cut_in-complete byte first rest lacks, is) refl

pair_in-pieces : (word : List ℕ) (next : ℕ × List ℕ) → piece_in 58 pair_in word ≡ Some next → (first : List ℕ) × (word ≡ first ++ 58 ∷ next.1) × IsPair first next.0
pair_in-pieces word next found = let piece = piece_in-sound 58 pair_in word next found in (piece.0, piece.1, pair_in-sound piece.0 next.0 piece.2)

octet_in-pieces : (word : List ℕ) (next : ℕ × List ℕ) → piece_in 46 octet_in word ≡ Some next → (first : List ℕ) × (word ≡ first ++ 46 ∷ next.1) × IsOctet first next.0
octet_in-pieces word next found = let piece = piece_in-sound 46 octet_in word next found in (piece.0, piece.1, octet_in-sound piece.0 next.0 piece.2)

pieces-pair : (word first rest : List ℕ) (n : ℕ) → word ≡ first ++ 58 ∷ rest → IsPair first n → piece_in 58 pair_in word ≡ Some (n, rest)
pieces-pair word first rest n split is =
    piece_in-complete 58 pair_in word first rest n split (Lacks-IsPair 58 first n (lit≤ tt) is) (pair_in-complete first n is)

pieces-octet : (word first rest : List ℕ) (n : ℕ) → word ≡ first ++ 46 ∷ rest → IsOctet first n → piece_in 46 octet_in word ≡ Some (n, rest)
pieces-octet word first rest n split is =
    piece_in-complete 46 octet_in word first rest n split (Lacks-IsOctet 46 first n (lit≤ tt) is) (octet_in-complete first n is)

pub mac_in-sound : (word : List ℕ) (mac : Mac) → mac_in word ≡ Some mac → IsMac word mac
unfolding mac_in
mac_in-sound word mac found =
    let a = bind_some (piece_in 58 pair_in word) _ mac found in
    let b = bind_some (piece_in 58 pair_in a.0.1) _ mac a.2 in
    let c = bind_some (piece_in 58 pair_in b.0.1) _ mac b.2 in
    let d = bind_some (piece_in 58 pair_in c.0.1) _ mac c.2 in
    let e = bind_some (piece_in 58 pair_in d.0.1) _ mac d.2 in
    let f = bind_some (pair_in e.0.1) _ mac e.2 in
    let p = pair_in-pieces word a.0 a.1 in
    let q = pair_in-pieces a.0.1 b.0 b.1 in
    let r = pair_in-pieces b.0.1 c.0 c.1 in
    let s = pair_in-pieces c.0.1 d.0 d.1 in
    let t = pair_in-pieces d.0.1 e.0 e.1 in
    let last = pair_in-sound e.0.1 f.0 f.1 in
    subst (IsMac word) (same_some (record { 0 = a.0.0 ∷ b.0.0 ∷ c.0.0 ∷ d.0.0 ∷ e.0.0 ∷ f.0 ∷ [] }) mac f.2)
    (refl, (p.0, a.0.1, p.1, p.2, (q.0, b.0.1, q.1, q.2, (r.0, c.0.1, r.1, r.2, (s.0, d.0.1, s.1, s.2, (t.0, e.0.1, t.1, t.2, last))))))

six_pairs : (word : List ℕ) (bytes : List ℕ) → length bytes ≡ 6 → ArePieces 58 IsPair word bytes → mac_in word ≡ Some (record { 0 = bytes })
unfolding mac_in
six_pairs word [] six are = absurd (omega arith)
six_pairs word (a ∷ []) six are = absurd (omega arith)
six_pairs word (a ∷ b ∷ []) six are = absurd (omega arith)
six_pairs word (a ∷ b ∷ c ∷ []) six are = absurd (omega arith)
six_pairs word (a ∷ b ∷ c ∷ d ∷ []) six are = absurd (omega arith)
six_pairs word (a ∷ b ∷ c ∷ d ∷ e ∷ []) six are = absurd (omega arith)
six_pairs word (a ∷ b ∷ c ∷ d ∷ e ∷ f ∷ g ∷ more) six are = absurd (omega arith)
six_pairs word (a ∷ b ∷ c ∷ d ∷ e ∷ f ∷ []) six (u, v, p, is_a, (w, x, q, is_b, (y, z, r, is_c, (s, t, o, is_d, (h, i, l, is_e, is_f))))) =
    rw (pieces-pair word u v a p is_a, pieces-pair v w x b q is_b, pieces-pair x y z c r is_c, pieces-pair z s t d o is_d, pieces-pair t h i e l is_e, pair_in-complete i f is_f) refl

pub mac_in-complete : (word : List ℕ) (mac : Mac) → IsMac word mac → mac_in word ≡ Some mac
mac_in-complete word mac is = six_pairs word mac.0 is.0 is.1

four_value : (a b c d : ℕ) → in_base 256 (a ∷ b ∷ c ∷ d ∷ []) ≡ ((a * 256 + b) * 256 + c) * 256 + d
four_value a b c d = omega arith

pub four_parts_in-sound : (word : List ℕ) (address : ℕ) → four_parts_in word ≡ Some address → IsFourParts word address
unfolding four_parts_in
four_parts_in-sound word address found =
    let a = bind_some (piece_in 46 octet_in word) _ address found in
    let b = bind_some (piece_in 46 octet_in a.0.1) _ address a.2 in
    let c = bind_some (piece_in 46 octet_in b.0.1) _ address b.2 in
    let d = bind_some (octet_in c.0.1) _ address c.2 in
    let p = octet_in-pieces word a.0 a.1 in
    let q = octet_in-pieces a.0.1 b.0 b.1 in
    let r = octet_in-pieces b.0.1 c.0 c.1 in
    let last = octet_in-sound c.0.1 d.0 d.1 in (
      a.0.0 ∷ b.0.0 ∷ c.0.0 ∷ d.0 ∷ [],
      refl,
      (p.0, a.0.1, p.1, p.2, (q.0, b.0.1, q.1, q.2, (r.0, c.0.1, r.1, r.2, last))),
      sym (four_value a.0.0 b.0.0 c.0.0 d.0 ∙ same_some (((a.0.0 * 256 + b.0.0) * 256 + c.0.0) * 256 + d.0) address d.2),
    )

four_octets : (word : List ℕ) (parts : List ℕ) → length parts ≡ 4 → ArePieces 46 IsOctet word parts → four_parts_in word ≡ Some (in_base 256 parts)
unfolding four_parts_in
four_octets word [] four are = absurd (omega arith)
four_octets word (a ∷ []) four are = absurd (omega arith)
four_octets word (a ∷ b ∷ []) four are = absurd (omega arith)
four_octets word (a ∷ b ∷ c ∷ []) four are = absurd (omega arith)
four_octets word (a ∷ b ∷ c ∷ d ∷ e ∷ more) four are = absurd (omega arith)
four_octets word (a ∷ b ∷ c ∷ d ∷ []) four (u, v, p, is_a, (w, x, q, is_b, (y, z, r, is_c, is_d))) =
    rw (pieces-octet word u v a p is_a, pieces-octet v w x b q is_b, pieces-octet x y z c r is_c, octet_in-complete z d is_d) (ap Some (sym (four_value a b c d)))

pub four_parts_in-complete : (word : List ℕ) (address : ℕ) → IsFourParts word address → four_parts_in word ≡ Some address
four_parts_in-complete word address is = four_octets word is.0 is.1 is.2 ∙ ap Some (sym is.3)
