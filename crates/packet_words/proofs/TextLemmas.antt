-- Texts that are pushed behind one another.
use Rattle.std.proofs.Common.{◌≡◌, ◌∙◌, ◌++◌, List, [], ℕ, append-nil, append_assoc, ap, sym}

-- one behind another
pub behind : (t now end a b : List ℕ) → now ≡ t ++ a → end ≡ now ++ b → end ≡ t ++ (a ++ b)
behind t now end a b first second = second ∙ ap (λ (xs : List ℕ). xs ++ b) first ∙ append_assoc t a b

-- five of them
pub five : (t t1 t2 t3 t4 t5 a b c d e : List ℕ) → t1 ≡ t ++ a → t2 ≡ t1 ++ b → t3 ≡ t2 ++ c → t4 ≡ t3 ++ d → t5 ≡ t4 ++ e
    → t5 ≡ t ++ (a ++ (b ++ (c ++ (d ++ e))))
five t t1 t2 t3 t4 t5 a b c d e p1 p2 p3 p4 p5 = behind t t1 t5 a (b ++ (c ++ (d ++ e))) p1
    (behind t1 t2 t5 b (c ++ (d ++ e)) p2 (behind t2 t3 t5 c (d ++ e) p3 (behind t3 t4 t5 d e p4 p5)))

-- the last one
pub last : (t end a : List ℕ) → end ≡ t ++ a → end ≡ t ++ (a ++ [])
last t end a first = first ∙ ap (λ (xs : List ℕ). t ++ xs) (sym (append-nil a))

-- three of them
pub three : (t t1 t2 t3 a b c : List ℕ) → t1 ≡ t ++ a → t2 ≡ t1 ++ b → t3 ≡ t2 ++ c → t3 ≡ t ++ (a ++ (b ++ c))
three t t1 t2 t3 a b c p1 p2 p3 = behind t t1 t3 a (b ++ c) p1 (behind t1 t2 t3 b c p2 p3)

-- four of them
pub four : (t t1 t2 t3 t4 a b c d : List ℕ) → t1 ≡ t ++ a → t2 ≡ t1 ++ b → t3 ≡ t2 ++ c → t4 ≡ t3 ++ d → t4 ≡ t ++ (a ++ (b ++ (c ++ d)))
four t t1 t2 t3 t4 a b c d p1 p2 p3 p4 = behind t t1 t4 a (b ++ (c ++ d)) p1 (three t1 t2 t3 t4 b c d p2 p3 p4)
