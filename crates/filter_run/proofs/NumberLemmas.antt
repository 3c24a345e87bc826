-- The numbers of packets that come together, and what is told of them by their numbers.
use Rattle.std.proofs.Common.{◌≡◌, ◌∙◌, ◌+◌, ◌-◌, ◌<◌, ◌≤◌, ◌++◌, ◌^◌, ℕ, cond, List, [], ◌∷◌, None, Some, ap, append-nil, append_assoc, arith, length, refl, subst, sym}
use Rattle.std.specs.List.{All}
use Rattle.std.proofs.lemmas.List.Sums.{sum_by-append}
use Rattle.std.proofs.lemmas.List.Elements.{All-head, All-tail}
use Rattle.std.specs.Global.{Vec}
use Rattle.std.specs.Prelude.{IfSome}
use Rattle.packet_view.specs.Captures.{PacketFacts, RecordFacts, packet_at, packets_at}
use Rattle.session_state.specs.Passes.{passes}
use Rattle.session_state.specs.declared.verdict.Verdict.{Verdict}
use Rattle.racl_io.specs.Reports.{passed}
use Rattle.racl_io.specs.Tellings.{Wording, lines_in}
use Rattle.capture_shards.specs.Sharing.{lines_at}
use Rattle.filter_run.specs.Batches.{AreNumbers, JudgedBatch, count_from, given_or, listed, packets_in}
use Rattle.filter_run.specs.Lines.{batch_text}
use Rattle.filter_run.specs.declared.batch.Batch.{Batch}

-- where none is given, they fit
pub numbered_none : (batch : Batch) → batch.numbers ≡ None → IfSome (listed batch.numbers) (AreNumbers batch.found.count)
numbered_none batch none = subst (λ numbers. IfSome numbers (AreNumbers batch.found.count)) (sym (ap listed none)) tt

-- lines of packets that follow each other are told by their numbers
pub lines_counted : (wording : Wording) (n interface : ℕ) (records : List RecordFacts) (verdicts : List Verdict)
    → lines_at wording (count_from n (length records)) (packets_at interface records) verdicts ≡ lines_in wording n (packets_at interface records) verdicts
lines_counted wording n interface [] verdicts = refl
lines_counted wording n interface (r ∷ records) [] = refl
lines_counted wording n interface (r ∷ records) (v ∷ verdicts) =
    ap (λ l. wording.line n (packet_at interface r) v ++ l) (lines_counted wording (n + 1) interface records verdicts)

-- what is told of a batch whose packets follow those that came before
pub text_plain : (wording : Wording) (one : JudgedBatch Verdict) → one.batch.numbers ≡ None
    → batch_text wording one ≡ lines_in wording (one.batch.others + 1) (packets_in one.batch) one.said
text_plain wording one plain =
    ap (λ numbers. lines_at wording (given_or numbers (count_from (one.batch.others + 1) (length one.batch.records))) (packets_in one.batch) one.said) plain
    ∙ lines_counted wording (one.batch.others + 1) one.batch.interface one.batch.records one.said

-- lines of packets, and of those behind them
pub lines_at_both : (wording : Wording) (ns ms : List ℕ) (ps qs : List PacketFacts) (vs us : List Verdict) → length ns ≡ length ps → length vs ≡ length ps
    → lines_at wording (ns ++ ms) (ps ++ qs) (vs ++ us) ≡ lines_at wording ns ps vs ++ lines_at wording ms qs us
lines_at_both wording [] ms [] qs [] us numbers each = refl
lines_at_both wording [] ms [] qs (v ∷ vs) us numbers each = absurd (omega (arith, each))
lines_at_both wording [] ms (p ∷ ps) qs vs us numbers each = absurd (omega (arith, numbers))
lines_at_both wording (n ∷ ns) ms [] qs vs us numbers each = absurd (omega (arith, numbers))
lines_at_both wording (n ∷ ns) ms (p ∷ ps) qs [] us numbers each = absurd (omega (arith, each))
lines_at_both wording (n ∷ ns) ms (p ∷ ps) qs (v ∷ vs) us numbers each =
    ap (λ l. wording.line n p v ++ l) (lines_at_both wording ns ms ps qs vs us (omega (arith, numbers)) (omega (arith, each)))
    ∙ sym (append_assoc (wording.line n p v) (lines_at wording ns ps vs) (lines_at wording ms qs us))

-- how many pass, of the first and of those behind it
pub passed_first : (vs left : List Verdict) (v : Verdict) → vs ≡ v ∷ left → passed vs ≡ passed (v ∷ []) + passed left
passed_first vs left v is = ap passed is ∙ sum_by-append (λ v. cond (passes v) 1 0) (v ∷ []) left

-- numbers that fit, without the first
pub numbers_behind : (count : ℕ) (ns behind : List ℕ) (n : ℕ) → AreNumbers count ns → ns ≡ n ∷ behind → (1 ≤ n) × (n < 2 ^ 64 - 1) × ((m : ℕ) → count ≡ m + 1 → AreNumbers m behind)
numbers_behind count ns behind n are is =
    let all = subst (All (λ k. (1 ≤ k) × (k < 2 ^ 64 - 1))) is are.fit in
    let first = All-head (λ k. (1 ≤ k) × (k < 2 ^ 64 - 1)) n behind all in (
      first.0,
      first.1,
      λ m counted. record {
        count_is = let size = ap length is in let counted_too = are.count_is in omega arith;
        fit = All-tail (λ k. (1 ≤ k) × (k < 2 ^ 64 - 1)) n behind all;
      },
    )

-- where one packet more is told, these are left
pub numbered_next : (wording now : Wording) → now ≡ wording → (ns behind : List ℕ) (n m : ℕ) → ns ≡ n ∷ behind → m ≡ n → (ps left : List PacketFacts) (p : PacketFacts) → ps ≡ p ∷ left
    → (vs said : List Verdict) (v : Verdict) → vs ≡ v ∷ said → (front next all : List ℕ) → next ≡ front ++ lines_in now m (p ∷ []) (v ∷ [])
    → front ++ lines_at wording ns ps vs ≡ all → next ++ lines_at wording behind left said ≡ all
numbered_next wording now words ns behind n m numbers number ps left p packets vs said v verdicts front next all told before =
    let line : lines_in now m (p ∷ []) (v ∷ []) ≡ wording.line n p v =
    append-nil (now.line m p v) ∙ ap (λ (w : Wording). w.line m p v) words ∙ ap (λ k. wording.line k p v) number in
    let lines : lines_at wording ns ps vs ≡ wording.line n p v ++ lines_at wording behind left said = rw (numbers, packets, verdicts) refl in
    ap (λ (b : List ℕ). b ++ lines_at wording behind left said) (told ∙ ap (λ (b : List ℕ). front ++ b) line)
    ∙ append_assoc front (wording.line n p v) (lines_at wording behind left said) ∙ ap (λ (b : List ℕ). front ++ b) (sym lines) ∙ before

-- those that are given fit
pub numbers_given : (batch : Batch) (numbers : Vec ℕ) → batch.numbers ≡ Some numbers → IfSome (listed batch.numbers) (AreNumbers batch.found.count)
    → AreNumbers batch.found.count numbers.items
numbers_given batch numbers some fit = subst (λ given. IfSome (listed given) (AreNumbers batch.found.count)) some fit
