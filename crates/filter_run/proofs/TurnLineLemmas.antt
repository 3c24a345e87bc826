-- Captures in turn that are told in lines: what is written behind what was written.
use Rattle.std.proofs.Common.{◌≡◌, ◌∙◌, ◌≤◌, ◌<◌, ◌+◌, ◌-◌, ◌++◌, ◌^◌, ◌⊎◌, ℕ, zero, suc, List, [], ◌∷◌, Option, Result, Ok, Err, ap, ap₂, append-nil, append_assoc, arith, drop, inl, inr, length, min, refl, subst, sym}
use Rattle.std.specs.Prelude.{IfOk, get_or, ⊤}
use Rattle.std.proofs.lemmas.Bool.{cases_lt}
use Rattle.std.proofs.lemmas.List.{length-append}
use Rattle.std.proofs.KnownBytes.{Appends-nil, Appends-trans}
use Rattle.std.specs.Io.KnownBytes.{Appends}
use Rattle.session_state.specs.declared.verdict.Verdict.{Verdict}
use Rattle.racl_io.specs.declared.fault.Fault.{Fault}
use Rattle.racl_io.specs.declared.fault.Fault.TheVariants as fault
use Rattle.racl_io.specs.declared.totals_and_truncation.Captured.{Captured}
use Rattle.racl_io.specs.Tellings.{HasToldText, IsTellingFault, Wording}
use Rattle.filter_run.specs.Batches.{JudgedBatch, said_of}
use Rattle.filter_run.specs.Lines.{AreSame, HasCounts, IsFresh, batch_text}
use Rattle.filter_run.specs.LinesInTurn.{HasCutLinesInTurn, HasToldLinesInTurn, first_end, turns_text}
use Rattle.filter_run.specs.Observers.{HasHeard, IsCutAt, TellsMore}
use Rattle.filter_run.specs.declared.lines_in_turn.LinesInTurn.{LinesInTurn}
use Rattle.filter_run.specs.declared.told_lines.ToldLines.{ToldLines}
use Rattle.filter_run.proofs.RunLemmas.{flat_push}

-- ---- The end of the next capture

drop_next : (n : ℕ) (captures : List Captured) → drop n (drop 1 captures) ≡ drop (suc n) captures
drop_next zero [] = refl
drop_next (suc n) [] = refl
drop_next n (captured ∷ captures) = refl

-- none is left
pub end_past : (wording : Wording) (captures : List Captured) (n : ℕ) → length captures ≤ n → first_end wording (drop n captures) ≡ []
end_past wording [] zero past = refl
end_past wording [] (suc n) past = refl
end_past wording (captured ∷ captures) zero past = absurd (omega (arith, past))
end_past wording (captured ∷ captures) (suc n) past = end_past wording captures n (omega (arith, past))

-- or it is that of this one
pub end_of_next : (wording : Wording) (captures : List Captured) (n : ℕ) (other : Captured) → n < length captures
    → wording.cut (get_or captures n other) ≡ first_end wording (drop n captures)
end_of_next wording [] n other below = absurd (omega (arith, below))
end_of_next wording (captured ∷ captures) zero other below = refl
end_of_next wording (captured ∷ captures) (suc n) other below = end_of_next wording captures n other (omega (arith, below))

-- as many were told as there are batches, or all
end_at : (wording : Wording) (captures : List Captured) (n given : ℕ) → given ≡ min n (length captures) → first_end wording (drop given captures) ≡ first_end wording (drop n captures)
end_at wording captures n given is =
    elim (cases_lt n (length captures)) [
      | inl less ↦ let e : given ≡ n = omega arith in ap (λ k. first_end wording (drop k captures)) e
      | inr past ↦ end_past wording captures given (omega arith) ∙ sym (end_past wording captures n (omega arith))
    ]

-- what is told where one more batch is
turns_push : (wording : Wording) (judged : List (JudgedBatch Verdict)) (one : JudgedBatch Verdict) (captures : List Captured)
    → turns_text wording (judged ++ one ∷ []) captures ≡ turns_text wording judged captures ++ (batch_text wording one ++ first_end wording (drop (length judged) captures))
turns_push wording [] one captures = ap (λ (t : List ℕ). batch_text wording one ++ t) (append-nil (first_end wording captures))
turns_push wording (first ∷ judged) one captures =
    let text = batch_text wording first in
    let end = first_end wording captures in
    let more = turns_text wording judged (drop 1 captures) in
    let last = batch_text wording one ++ first_end wording (drop (suc (length judged)) captures) in
    ap (λ (t : List ℕ). text ++ (end ++ t)) (turns_push wording judged one (drop 1 captures)
    ∙ ap (λ (cs : List Captured). more ++ (batch_text wording one ++ first_end wording cs)) (drop_next (length judged) captures))
    ∙ ap (λ (t : List ℕ). text ++ t) (sym (append_assoc end more last)) ∙ sym (append_assoc text (end ++ more) last)

module _ {L W : Type 0} (wording : L → Wording) (bytes : W → Option (List ℕ)) (failures : W → ℕ) where
  -- nothing was told
  pub in_turn_begun : (lines : LinesInTurn L W) → IsFresh lines.lines → lines.given ≡ 0 → failures lines.lines.writer.now < 2 ^ 64 - 1
      → HasToldLinesInTurn wording bytes failures lines [] lines
  in_turn_begun lines fresh none few = record {
    same = record { teller = refl; writer = refl };
    words = refl;
    text = Appends-nil (bytes lines.lines.writer.now);
    few = few;
    sound = refl;
    counts = record { packets = fresh.packets; passing = fresh.passing; lacking = fresh.lacking };
    captures = refl;
    given = let e = none in omega arith;
  }

  -- which faults there are
  telling_fault : (before after : Option (List ℕ)) (text : List ℕ) (found : Fault) → IsTellingFault before after text found → (found ≡ fault.Memory) ⊎ (found ≡ fault.Write)
  telling_fault before after text fault.Memory is = inl refl
  telling_fault before after text fault.Write is = inr refl
  telling_fault before after text found is = absurd is

  -- a capture couldn't be told
  pub in_turn_cut : (old new : LinesInTurn L W) (batch : JudgedBatch Verdict) (found : Fault) (before after : Option (List ℕ)) (text : List ℕ) → IsTellingFault before after text found
      → AreSame old.lines new.lines → IsCutAt (HasToldLinesInTurn wording bytes failures) (λ begun judged fault now. HasCutLinesInTurn begun fault now) old batch found new
  in_turn_cut old new batch found before after text is same begun earlier told = record {
    same = record { teller = same.teller ∙ told.same.teller; writer = same.writer ∙ told.same.writer };
    why = telling_fault before after text found is;
  }

  module _ (old : LinesInTurn L W) (mid : ToldLines L W) (batch : JudgedBatch Verdict) (first : AreSame old.lines mid) (words : wording mid.teller.now ≡ wording old.lines.teller.now)
      (told : Appends (bytes old.lines.writer.now) (bytes mid.writer.now) (batch_text (wording old.lines.teller.now) batch))
      (sound : failures mid.writer.now ≡ failures old.lines.writer.now)
      (counts : (before : List Verdict) → HasCounts old.lines before → HasCounts mid (before ++ batch.said)) where
    -- a capture was told
    pub in_turn_more : (new : LinesInTurn L W) → AreSame mid new.lines → wording new.lines.teller.now ≡ wording mid.teller.now
        → Appends (bytes mid.writer.now) (bytes new.lines.writer.now) (first_end (wording mid.teller.now) (drop old.given old.told.now))
        → failures new.lines.writer.now ≡ failures mid.writer.now → ((said : List Verdict) → HasCounts mid said → HasCounts new.lines said) → new.told ≡ old.told
        → new.given ≡ min (old.given + 1) (length old.told.now) → TellsMore (HasToldLinesInTurn wording bytes failures) old batch new
    in_turn_more new last same_words ended still kept captures given begun earlier is =
        let all = flat_push (λ (one : JudgedBatch Verdict). one.said) earlier batch in
        let says = wording begun.lines.teller.now in
        let front = Appends-trans (bytes old.lines.writer.now) (bytes mid.writer.now) (bytes new.lines.writer.now) (batch_text (wording old.lines.teller.now) batch)
        (first_end (wording mid.teller.now) (drop old.given old.told.now)) told ended in
        let text : batch_text (wording old.lines.teller.now) batch ++ first_end (wording mid.teller.now) (drop old.given old.told.now)
        ≡ batch_text says batch ++ first_end says (drop (length earlier) begun.told.now) =
        ap₂ (λ (w v : Wording). batch_text w batch ++ first_end v (drop old.given old.told.now)) is.words (words ∙ is.words)
        ∙ ap (λ (cs : List Captured). batch_text says batch ++ first_end says (drop old.given cs)) (ap (λ c. c.now) is.captures)
        ∙ ap (λ (t : List ℕ). batch_text says batch ++ t) (end_at says begun.told.now (length earlier) old.given is.given) in
        record {
          same = record {
            teller = last.teller ∙ first.teller ∙ is.same.teller;
            writer = last.writer ∙ first.writer ∙ is.same.writer;
          };
          words = same_words ∙ words ∙ is.words;
          text = subst (Appends (bytes begun.lines.writer.now) (bytes new.lines.writer.now)) (sym (turns_push says earlier batch begun.told.now))
              (Appends-trans (bytes begun.lines.writer.now) (bytes old.lines.writer.now) (bytes new.lines.writer.now) (turns_text says earlier begun.told.now)
              (batch_text says batch ++ first_end says (drop (length earlier) begun.told.now)) is.text
              (subst (Appends (bytes old.lines.writer.now) (bytes new.lines.writer.now)) text front));
          few = is.few;
          sound = still ∙ sound ∙ is.sound;
          counts = subst (HasCounts new.lines) (sym all) (kept (said_of earlier ++ batch.said) (counts (said_of earlier) is.counts));
          captures = captures ∙ is.captures;
          given = let pushed = length-append earlier (batch ∷ []) in let before = is.given in let size = ap (λ c. length c.now) is.captures in omega arith;
        }

    -- its packets were told, and its end was or couldn't be
    pub in_turn_heard : (new : LinesInTurn L W) (result : Result ⊤ Fault) → AreSame mid new.lines → wording new.lines.teller.now ≡ wording mid.teller.now
        → HasToldText bytes failures mid.writer.now new.lines.writer.now (first_end (wording mid.teller.now) (drop old.given old.told.now)) result
        → ((said : List Verdict) → HasCounts mid said → HasCounts new.lines said) → new.told ≡ old.told
        → IfOk result (λ _. new.given ≡ min (old.given + 1) (length old.told.now))
        → HasHeard (HasToldLinesInTurn wording bytes failures) (λ begun judged found now. HasCutLinesInTurn begun found now) old new batch result
    in_turn_heard new (Ok x) last same_words ended kept captures given = in_turn_more new last same_words ended.0 ended.1 kept captures given
    in_turn_heard new (Err found) last same_words ended kept captures given =
        in_turn_cut old new batch found (bytes mid.writer.now) (bytes new.lines.writer.now) (first_end (wording mid.teller.now) (drop old.given old.told.now)) ended.0
        (record { teller = last.teller ∙ first.teller; writer = last.writer ∙ first.writer })
