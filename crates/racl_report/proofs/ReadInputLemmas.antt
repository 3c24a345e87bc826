-- What an input says is what its parts say.
use Rattle.std.proofs.Common.{◌≡◌, ℕ, Bool, List, [], ◌∷◌, None, subst}
use Rattle.packet_view.specs.Captures.{IsCaptureAt, PacketFacts, end_of}
use Rattle.acl_policy.specs.Policies.{IsPolicyText, PolicyFacts}
use Rattle.racl_io.specs.declared.marker_line.Form.{Form}
use Rattle.racl_io.specs.declared.totals_and_truncation.Captured.{Captured}
use Rattle.racl_io.specs.Inputs.{IsContent, IsInput, InputFacts}
use Rattle.racl_io.proofs.InputLemmas.{one_input}
use Rattle.racl_report.specs.ReadInputs.{HasPackets, IsRead, told_of}
use Rattle.racl_report.proofs.CaptureLaws.{IsUnnumbered, one_content, plain_alone}

-- a policy and captures as these parts say them
pub record IsReadIn (parts : InputFacts) (policy : PolicyFacts) (packets : List PacketFacts) (captures : List Captured) : Type 0 where
  pub says : IsPolicyText parts.policy policy
  pub content : HasPackets parts.form parts.content packets captures

-- where the parts are known, the input says what they say
pub read_in : (bytes : List ℕ) (parts : InputFacts) (policy : PolicyFacts) (packets : List PacketFacts) (captures : List Captured) → IsInput bytes parts
    → IsRead bytes policy packets captures → IsReadIn parts policy packets captures
read_in bytes parts policy packets captures is read =
    subst (λ p. IsReadIn p policy packets captures) (one_input bytes read.parts parts read.parted is)
    (record { says = read.says; content = read.content })

-- packets of a capture, and what is told of it
pub record IsAloneIn (capture : List ℕ) (packets : List PacketFacts) (captures : List Captured) : Type 0 where
  pub truncated : Bool
  pub records : IsCaptureAt 0 capture packets (end_of truncated)
  pub told : captures ≡ told_of None packets truncated ∷ []

-- where the only capture is known too, the packets are its
pub alone_in_capture : (form : Form) (content capture : List ℕ) (packets : List PacketFacts) (captures : List Captured) → IsUnnumbered form
    → IsContent form content capture → HasPackets form content packets captures → IsAloneIn capture packets captures
alone_in_capture form content capture packets captures plain spelt has =
    let alone = plain_alone form content packets captures plain has in
    record {
      truncated = alone.truncated;
      records = subst (λ c. IsCaptureAt 0 c packets (end_of alone.truncated)) (one_content form content alone.capture capture alone.spelt spelt) alone.records;
      told = alone.told;
    }
