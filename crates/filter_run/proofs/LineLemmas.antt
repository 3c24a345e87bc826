-- Packets that are told in lines: what is written behind what was written.
use Rattle.std.proofs.Common.{◌≡◌, ◌∙◌, ◌<◌, ◌+◌, ◌-◌, ◌^◌, ◌++◌, ℕ, List, [], ◌∷◌, Option, Result, Ok, Err, ap, arith, length, refl, subst, sym}
use Rattle.std.specs.Prelude.{IfOk, ⊤}
use Rattle.std.proofs.lemmas.List.{length-append}
use Rattle.std.proofs.KnownBytes.{Appends-nil, Appends-trans}
use Rattle.std.specs.Io.KnownBytes.{Appends}
use Rattle.session_state.specs.declared.verdict.Verdict.{Verdict}
use Rattle.racl_io.specs.declared.fault.Fault.{Fault}
use Rattle.racl_io.specs.declared.fault.Fault.TheVariants as fault
use Rattle.racl_io.specs.Reports.{passed, without_pages}
use Rattle.racl_io.specs.Sinks.{GotFront}
use Rattle.racl_io.specs.Tellings.{HasToldText, IsTellingFault, Wording, with_write}
use Rattle.racl_io.proofs.ReportLemmas.{passed_of_both, without_pages_of_both}
use Rattle.racl_io.proofs.TellingLemmas.{front_on}
use Rattle.filter_run.specs.Batches.{JudgedBatch, said_of}
use Rattle.filter_run.specs.Lines.{AreSame, HasCounts, HasCutLines, HasToldLines, IsFresh, batch_text, text_of}
use Rattle.filter_run.specs.Observers.{HasHeard, IsCutAt, TellsMore}
use Rattle.filter_run.specs.declared.told_lines.ToldLines.{ToldLines}
use Rattle.filter_run.proofs.RunLemmas.{flat_push}

-- what is told where one more batch is
pub text_push : (wording : Wording) (batches : List (JudgedBatch Verdict)) (batch : JudgedBatch Verdict)
    → text_of wording (batches ++ batch ∷ []) ≡ text_of wording batches ++ batch_text wording batch
text_push wording batches batch = flat_push (batch_text wording) batches batch

-- these are counted behind those before
pub counts_more : {L W : Type 0} (old new : ToldLines L W) (said : List Verdict) → new.packets ≡ old.packets + length said → new.passed ≡ old.passed + passed said
    → new.without_pages ≡ old.without_pages + without_pages said → (before : List Verdict) → HasCounts old before → HasCounts new (before ++ said)
counts_more old new said packets passing lacking before counts = record {
  packets = let both = length-append before said in let e = counts.packets in omega arith;
  passing = let both = passed_of_both before said in let e = counts.passing in omega arith;
  lacking = let both = without_pages_of_both before said in let e = counts.lacking in omega arith;
}

module _ {L W : Type 0} (wording : L → Wording) (bytes : W → Option (List ℕ)) (failures : W → ℕ) where
  pub lines_counts : (begun : ToldLines L W) (judged : List (JudgedBatch Verdict)) (now : ToldLines L W) → HasToldLines wording bytes failures begun judged now
      → HasCounts now (said_of judged)
  lines_counts begun judged now told = record { packets = told.packets; passing = told.passing; lacking = told.lacking }

  -- nothing was told
  pub lines_begun : (lines : ToldLines L W) → IsFresh lines → failures lines.writer.now < 2 ^ 64 - 1 → HasToldLines wording bytes failures lines [] lines
  lines_begun lines fresh few = record {
    same = record { teller = refl; writer = refl };
    words = refl;
    text = Appends-nil (bytes lines.writer.now);
    few = few;
    sound = refl;
    packets = fresh.packets;
    passing = fresh.passing;
    lacking = fresh.lacking;
  }

  same_on : (begun old new : ToldLines L W) → AreSame begun old → AreSame old new → AreSame begun new
  same_on begun old new before same = record { teller = same.teller ∙ before.teller; writer = same.writer ∙ before.writer }

  -- the text of a batch stands behind what was told, in the words of the one that began
  module _ (old : ToldLines L W) (batch : JudgedBatch Verdict) (begun : ToldLines L W) (earlier : List (JudgedBatch Verdict))
      (told : HasToldLines wording bytes failures begun earlier old) where
    line_text : text_of (wording begun.teller.now) (earlier ++ batch ∷ []) ≡ text_of (wording begun.teller.now) earlier ++ batch_text (wording old.teller.now) batch
    line_text = text_push (wording begun.teller.now) earlier batch
        ∙ ap (λ (w : Wording). text_of (wording begun.teller.now) earlier ++ batch_text w batch) (sym told.words)

    line_said : said_of (earlier ++ batch ∷ []) ≡ said_of earlier ++ batch.said
    line_said = flat_push (λ (one : JudgedBatch Verdict). one.said) earlier batch

  -- a batch was told
  pub lines_more : (old new : ToldLines L W) (batch : JudgedBatch Verdict) → AreSame old new → wording new.teller.now ≡ wording old.teller.now
      → Appends (bytes old.writer.now) (bytes new.writer.now) (batch_text (wording old.teller.now) batch) → failures new.writer.now ≡ failures old.writer.now
      → ((before : List Verdict) → HasCounts old before → HasCounts new (before ++ batch.said)) → TellsMore (HasToldLines wording bytes failures) old batch new
  unfolding same_on line_text line_said
  lines_more old new batch same words wrote sound counted begun earlier told =
      let counts = subst (HasCounts new) (sym (line_said old batch begun earlier told)) (counted (said_of earlier) (lines_counts begun earlier old told)) in
      record {
        same = same_on begun old new told.same same;
        words = words ∙ told.words;
        text = subst (Appends (bytes begun.writer.now) (bytes new.writer.now)) (sym (line_text old batch begun earlier told))
            (Appends-trans (bytes begun.writer.now) (bytes old.writer.now) (bytes new.writer.now) (text_of (wording begun.teller.now) earlier)
            (batch_text (wording old.teller.now) batch) told.text wrote);
        few = told.few;
        sound = sound ∙ told.sound;
        packets = counts.packets;
        passing = counts.passing;
        lacking = counts.lacking;
      }

  -- a batch couldn't be told
  pub lines_cut : (old new : ToldLines L W) (batch : JudgedBatch Verdict) (found : Fault) → AreSame old new → wording new.teller.now ≡ wording old.teller.now
      → IsTellingFault (bytes old.writer.now) (bytes new.writer.now) (batch_text (wording old.teller.now) batch) found
      → failures new.writer.now ≡ with_write (failures old.writer.now) found
      → IsCutAt (HasToldLines wording bytes failures) (HasCutLines wording bytes failures) old batch found new
  unfolding same_on line_text
  lines_cut old new batch fault.Memory same words unwritten failed begun earlier told = record {
    same = same_on begun old new told.same same;
    words = words ∙ told.words;
    earlier = earlier;
    last = batch;
    all = refl;
    text = subst (λ (b : Option (List ℕ)). Appends (bytes begun.writer.now) b (text_of (wording begun.teller.now) earlier)) (sym unwritten) told.text;
    failed = failed ∙ told.sound;
  }
  lines_cut old new batch fault.Write same words front failed begun earlier told = record {
    same = same_on begun old new told.same same;
    words = words ∙ told.words;
    earlier = earlier;
    last = batch;
    all = refl;
    text = subst (GotFront (bytes begun.writer.now) (bytes new.writer.now)) (sym (line_text old batch begun earlier told))
        (front_on (bytes begun.writer.now) (bytes old.writer.now) (bytes new.writer.now) (text_of (wording begun.teller.now) earlier)
        (batch_text (wording old.teller.now) batch) told.text front);
    failed = failed ∙ ap (λ n. n + 1) told.sound;
  }
  lines_cut old new batch found same words wrong failed begun earlier told = absurd wrong

  -- it was told or couldn't be
  pub lines_heard : (old new : ToldLines L W) (batch : JudgedBatch Verdict) (result : Result ⊤ Fault) → AreSame old new → wording new.teller.now ≡ wording old.teller.now
      → HasToldText bytes failures old.writer.now new.writer.now (batch_text (wording old.teller.now) batch) result
      → IfOk result (λ _. (before : List Verdict) → HasCounts old before → HasCounts new (before ++ batch.said))
      → HasHeard (HasToldLines wording bytes failures) (HasCutLines wording bytes failures) old new batch result
  unfolding lines_more lines_cut
  lines_heard old new batch (Ok x) same words told counted = lines_more old new batch same words told.0 told.1 counted
  lines_heard old new batch (Err found) same words told counted = lines_cut old new batch found same words told.0 told.1
