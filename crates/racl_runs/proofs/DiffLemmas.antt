-- A run over a capture whose packets are judged by two policies while it comes.
use Rattle.std.proofs.Common.{◌≡◌, ◌≢◌, ◌++◌, ℕ, List, Option, inl, inr, refl, subst, sym}
use Rattle.std.proofs.lemmas.List.{length-map}
use Rattle.packet_view.specs.Captures.{packet_at, packets_at}
use Rattle.packet_view.specs.declared.capture.Order.{Order}
use Rattle.acl_policy.specs.Policies.{IsPolicyFault, IsPolicyText, PolicyFacts}
use Rattle.acl_policy.specs.declared.policy.PolicyFault.{PolicyFault}
use Rattle.acl_policy.specs.declared.policy.PolicyFault.TheVariants as policy
use Rattle.racl_options.specs.declared.settings.Options.{Options}
use Rattle.compared_verdicts.specs.Changes.{PairFacts}
use Rattle.compared_verdicts.specs.ChangeReports.{totals_of}
use Rattle.compared_verdicts.specs.Comparing.{HasToldAll, IsComparingFault, changes_in}
use Rattle.compared_verdicts.specs.declared.change_totals.ChangeTotals.{ChangeTotals}
use Rattle.compared_verdicts.proofs.CompareLemmas.{none_compared}
use Rattle.racl_io.specs.declared.fault.Fault.{Fault}
use Rattle.racl_io.specs.declared.fault.Fault.TheVariants as fault
use Rattle.racl_runs.specs.DiffRuns.{HasRunDiff, IsDiffFault, IsFaultOfText, SayPolicies, policies_in}
use Rattle.racl_runs.specs.declared.diff_run.DiffFault.TheVariants.{Run}
use Rattle.racl_runs.specs.LiveRuns.{ByLoneWorker}
use Rattle.racl_runs.specs.declared.diff_run.DiffHead.{DiffHead}
use Rattle.racl_runs.specs.declared.diff_run.PolicyTexts.{PolicyTexts}
use Rattle.racl_runs.specs.inner.Heads.{HasReadHeader}
use Rattle.racl_runs.proofs.LiveLemmas.{whole_capture}

-- a text that isn't read has a fault, or memory ran out
pub text_fault : (text : List ℕ) (cause : PolicyFault) → (cause ≢ policy.Memory → IsPolicyFault text cause) → IsFaultOfText text cause
text_fault text policy.Memory wrong = inl refl
text_fault text cause wrong = inr (wrong (λ e. cc))

-- each text says its policy
pub say_both : {texts : PolicyTexts} {before after : PolicyFacts} → IsPolicyText texts.before.now before → IsPolicyText texts.after.now after
    → SayPolicies texts (record { before = before; after = after })
say_both before after = record { before = before; after = after }

-- no packet was judged yet
pub none_judged : (head : DiffHead) (given old : Option (List ℕ)) → let policies = policies_in head in let options = head.options.now in
    IsComparingFault policies (ByLoneWorker options policies.before) (ByLoneWorker options policies.after) head.order given given old old fault.Memory
none_judged head given old =
    let policies = policies_in head in let options = head.options.now in
    none_compared policies (ByLoneWorker options policies.before) (ByLoneWorker options policies.after) head.order given old

-- all bytes were read, and the report was written
pub diff_run : (options : Options) (texts : PolicyTexts) (before left after old new : Option (List ℕ)) (policies : PairFacts) (order : Order) (totals : ChangeTotals)
    → SayPolicies texts policies → HasReadHeader before left order
    → HasToldAll policies (ByLoneWorker options policies.before) (ByLoneWorker options policies.after) order left after old new totals
    → HasRunDiff options texts before old new totals
diff_run options texts before left after old new policies order totals say head told =
    let compared = told.compared in
    let (known, records) = whole_capture before left after order head compared.read told.rest compared.packets told.truncated compared.consumed told.ended compared.records told.end in
    record {
      policies = policies;
      say = say;
      bytes = head.header ++ compared.read;
      known = known;
      packets = packets_at 0 compared.packets;
      truncated = told.truncated;
      records = records;
      verdicts = compared.verdicts;
      counted = subst (λ n. totals ≡ totals_of (changes_in policies compared) n told.truncated) (sym (length-map compared.packets (packet_at 0))) told.counted;
      lines = told.lines;
      are = told.are;
      written = told.text;
    }

-- not all was compared, of what stands behind the header
pub diff_fault : (options : Options) (texts : PolicyTexts) (before left after old new : Option (List ℕ)) (policies : PairFacts) (order : Order) (found : Fault)
    → SayPolicies texts policies → HasReadHeader before left order
    → IsComparingFault policies (ByLoneWorker options policies.before) (ByLoneWorker options policies.after) order left after old new found
    → IsDiffFault options texts before after old new (Run found)
diff_fault options texts before left after old new policies order found say head told = inr (
  found,
  refl,
  record {
    policies = policies;
    say = say;
    header = head.header;
    order = order;
    right = head.headed.right;
    whole = head.whole;
    left = left;
    consumed = head.consumed;
  },
  told,
)

-- memory ran out before a packet was judged
pub diff_unbegun : (options : Options) (texts : PolicyTexts) (before left old : Option (List ℕ)) (policies : PairFacts) (order : Order)
    → SayPolicies texts policies → HasReadHeader before left order → IsDiffFault options texts before left old old (Run fault.Memory)
diff_unbegun options texts before left old policies order say head =
    diff_fault options texts before left left old old policies order fault.Memory say head
    (none_compared policies (ByLoneWorker options policies.before) (ByLoneWorker options policies.after) order left old)
