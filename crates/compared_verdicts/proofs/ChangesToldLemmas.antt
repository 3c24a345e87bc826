-- Changed packets that are told while they come: what is written behind what was written.
use Rattle.std.proofs.Common.{◌≡◌, ◌∙◌, ◌≤◌, ◌+◌, ◌++◌, ℕ, List, [], ◌∷◌, Option, ap, append-nil, append_assoc, arith, false, length, map, refl, subst, sym}
use Rattle.std.proofs.lemmas.List.{length-append, length-map}
use Rattle.std.proofs.lemmas.List.Concat.{flat_map-append}
use Rattle.std.proofs.KnownBytes.{Appends-trans}
use Rattle.std.specs.Io.KnownBytes.{Appends}
use Rattle.packet_view.specs.Captures.{PacketFacts}
use Rattle.acl_policy.specs.Policies.{PolicyFacts}
use Rattle.session_state.specs.declared.verdict.Verdict.{Verdict}
use Rattle.racl_io.specs.declared.fault.Fault.{Fault}
use Rattle.racl_io.specs.Tellings.{IsTellingFault, with_write}
use Rattle.filter_run.specs.Batches.{JudgedBatch, packets_in, said_of}
use Rattle.filter_run.specs.Both.{firsts, seconds}
use Rattle.filter_run.specs.Observers.{IsCutAt, MayHear, TellsMore}
use Rattle.filter_run.proofs.RunLemmas.{flat_push}
use Rattle.compared_verdicts.specs.Changes.{ChangeFacts, PairFacts, change_facts, changes_from, pair_facts}
use Rattle.compared_verdicts.specs.ChangeReports.{totals_of, with_changes}
use Rattle.compared_verdicts.specs.declared.change_lines.Change.{Change}
use Rattle.compared_verdicts.specs.declared.change_totals.ChangeTotals.{ChangeTotals}
use Rattle.compared_verdicts.specs.declared.changes_told.ChangeLines.{ChangeLines}
use Rattle.compared_verdicts.specs.inner.ChangeLines.{line_by, lines_by, lines_told}
use Rattle.compared_verdicts.specs.inner.ChangesTold.{AreSame, HasCutChanges, HasToldChanges, batch_changes, changes_of, text_of}
use Rattle.compared_verdicts.specs.inner.Totals.{HasRoom}
use Rattle.compared_verdicts.proofs.ChangeLemmas.{few_changes, few_counted, told_by, totals_more}

-- the lines of some, and of those behind them
lines_by_both : (policy : PolicyFacts) (xs ys : List ChangeFacts) → lines_by policy (xs ++ ys) ≡ lines_by policy xs ++ lines_by policy ys
lines_by_both policy [] ys = refl
lines_by_both policy (x ∷ xs) ys =
    ap (λ l. line_by policy x ++ l) (lines_by_both policy xs ys) ∙ sym (append_assoc (line_by policy x) (lines_by policy xs) (lines_by policy ys))

module _ (policies : PairFacts) where
  -- what is told of batches, and of one behind them
  pub text_both : (judged : List (JudgedBatch (Verdict × Verdict))) (one : JudgedBatch (Verdict × Verdict))
      → text_of policies (judged ++ one ∷ []) ≡ text_of policies judged ++ text_of policies (one ∷ [])
  text_both judged one =
      ap (lines_by policies.after) (flat_map-append (batch_changes policies) judged (one ∷ []))
      ∙ lines_by_both policies.after (changes_of policies judged) (changes_of policies (one ∷ []))

  -- no more packets are changed than were compared
  few_told : (judged : List (JudgedBatch (Verdict × Verdict))) → length (changes_of policies judged) ≤ length (said_of judged)
  few_told [] = omega arith
  few_told (one ∷ others) =
      let more = few_told others in
      let first = few_changes policies (one.batch.others + 1) (firsts one.said) (seconds one.said) (packets_in one.batch) in
      let each = length-map one.said (λ (pair : Verdict × Verdict). pair.0) in
      let changes = length-append (batch_changes policies one) (changes_of policies others) in
      let said = length-append one.said (said_of others) in
      omega arith

  -- the changes of a batch, of which these are the packets
  pub changes_are : (one : JudgedBatch (Verdict × Verdict)) (packets : List PacketFacts) (changes : List Change)
      → map change_facts changes ≡ changes_from policies (one.batch.others + 1) (firsts one.said) (seconds one.said) packets → packets ≡ packets_in one.batch
      → map change_facts changes ≡ batch_changes policies one
  changes_are one packets changes found same = found ∙ ap (changes_from policies (one.batch.others + 1) (firsts one.said) (seconds one.said)) same

  -- what the code has of the changes of a batch says this of them
  told_of : (one : JudgedBatch (Verdict × Verdict)) (changes : List Change) → map change_facts changes ≡ batch_changes policies one
      → lines_told policies.after changes ≡ text_of policies (one ∷ [])
  told_of one changes are =
      told_by policies.after changes ∙ ap (lines_by policies.after) (are ∙ sym (append-nil (batch_changes policies one)))

module _ {W : Type 0} (bytes : W → Option (List ℕ)) (failures : W → ℕ) where
  module _ (old : ChangeLines W) where
    -- the counts are numbers of 64 bits
    pub changes_room : (one : JudgedBatch (Verdict × Verdict)) (changes : List Change) → map change_facts changes ≡ batch_changes (pair_facts old.policies) one
        → MayHear (HasToldChanges bytes failures) old (length one.said) → HasRoom old.totals (length changes)
    changes_room one found are may =
        let policies = pair_facts may.begun.policies in
        let told = may.stand in
        let changes = changes_of policies may.batches in
        let fits = may.fits in
        let few = few_told policies may.batches in
        let more = few_changes (pair_facts old.policies) (one.batch.others + 1) (firsts one.said) (seconds one.said) (packets_in one.batch) in
        let each = length-map one.said (λ (pair : Verdict × Verdict). pair.0) in
        let count = length-map found change_facts in
        let same = ap length are in
        let so_far = few_counted changes (record old.totals { packets = 0 }) (ap (λ (t : ChangeTotals). record t { packets = 0 }) told.totals) in
        let a = so_far.0 in let b = so_far.1 in let d = so_far.2 in let e = so_far.3 in
        record { changed = omega arith; to_drop = omega arith; to_pass = omega arith; other = omega arith }

    module _ (new : ChangeLines W) (one : JudgedBatch (Verdict × Verdict)) (changes : List Change)
        (are : map change_facts changes ≡ batch_changes (pair_facts old.policies) one) (kept : AreSame old new) where
      still : (begun : ChangeLines W) → AreSame begun old → AreSame begun new
      still begun same = record { policies = kept.policies ∙ same.policies; writer = kept.writer ∙ same.writer }

      -- what is told of a batch is told by the policies that began
      told_as : (begun : ChangeLines W) → AreSame begun old → lines_told (pair_facts old.policies).after changes ≡ text_of (pair_facts begun.policies) (one ∷ [])
      told_as begun same = told_of (pair_facts old.policies) one changes are ∙ ap (λ p. text_of (pair_facts p) (one ∷ [])) same.policies

      -- a batch was told
      pub changes_more : Appends (bytes old.writer.now) (bytes new.writer.now) (lines_told (pair_facts old.policies).after changes)
          → failures new.writer.now ≡ failures old.writer.now
          → new.totals ≡ record (with_changes old.totals (map change_facts changes)) { packets = old.totals.packets + length one.said }
          → TellsMore (HasToldChanges bytes failures) old one new
      unfolding still told_as
      changes_more wrote sound totals begun earlier told =
          let policies = pair_facts begun.policies in
          let said = flat_push (λ (t : JudgedBatch (Verdict × Verdict)). t.said) earlier one in
          let count : length (said_of earlier) + length one.said ≡ length (said_of (earlier ++ one ∷ [])) =
          sym (ap length said ∙ length-append (said_of earlier) one.said) in
          let all = flat_push (batch_changes policies) earlier one in
          record {
            same = still begun told.same;
            text = subst (Appends (bytes begun.writer.now) (bytes new.writer.now)) (sym (text_both policies earlier one))
                (Appends-trans (bytes begun.writer.now) (bytes old.writer.now) (bytes new.writer.now) (text_of policies earlier) (text_of policies (one ∷ [])) told.text
                (subst (Appends (bytes old.writer.now) (bytes new.writer.now)) (told_as begun told.same) wrote));
            few = told.few;
            sound = sound ∙ told.sound;
            totals = totals
                ∙ ap (λ cs. record (with_changes old.totals cs) { packets = old.totals.packets + length one.said })
                (are ∙ ap (λ p. batch_changes (pair_facts p) one) told.same.policies)
                ∙ ap (λ (t : ChangeTotals). record (with_changes t (batch_changes policies one)) { packets = t.packets + length one.said }) told.totals
                ∙ ap (λ (t : ChangeTotals). record t { packets = length (said_of earlier) + length one.said }) (totals_more (changes_of policies earlier) (batch_changes policies one))
                ∙ ap (λ cs. totals_of cs (length (said_of earlier) + length one.said) false) (sym all)
                ∙ ap (λ n. totals_of (changes_of policies (earlier ++ one ∷ [])) n false) count;
          }

      -- a write failed
      pub changes_unwritten : (found : Fault) → IsTellingFault (bytes old.writer.now) (bytes new.writer.now) (lines_told (pair_facts old.policies).after changes) found
          → failures new.writer.now ≡ with_write (failures old.writer.now) found
          → IsCutAt (HasToldChanges bytes failures) (HasCutChanges bytes failures) old one found new
      unfolding still told_as
      changes_unwritten found front failed begun earlier told = record {
        same = still begun told.same;
        earlier = earlier;
        last = one;
        all = refl;
        before = bytes old.writer.now;
        text = told.text;
        front = subst (λ (t : List ℕ). IsTellingFault (bytes old.writer.now) (bytes new.writer.now) t found) (told_as begun told.same) front;
        failed = failed ∙ ap (λ n. with_write n found) told.sound;
      }
