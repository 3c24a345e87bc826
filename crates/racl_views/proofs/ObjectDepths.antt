-- How deep objects nest, and that they are read back.
use Rattle.std.proofs.Common.{◌≡◌, ◌++◌, ◌≤◌, ◌==◌, ◌||◌, ℕ, List, [], ◌∷◌, Bool, true, false, arith, cond, refl}
use Rattle.json.proofs.Printed.Trees.{ArePrintable-json_tokens, document-print}
use Rattle.json.specs.Tree.{HasNumbers, depth, json_tokens, members_depth}
use Rattle.packet_view.specs.Frames.{FrameFacts, Ip, Malformed, NotIp, Short}
use Rattle.packet_view.specs.declared.tuple.Direction.{Direction}
use Rattle.packet_view.specs.declared.tuple.Direction.TheVariants.{Inbound, Outbound}
use Rattle.packet_view.specs.Addresses.{icmp_of}
use Rattle.packet_view.specs.declared.tuple.Family.{Family}
use Rattle.packet_view.specs.declared.tuple.Fields.{Fields}
use Rattle.packet_view.specs.declared.tuple.Fields.TheVariants.{Absent, Icmp, Ports, Tcp}
use Rattle.session_state.specs.declared.verdict.Verdict.{Verdict}
use Rattle.session_state.specs.declared.verdict.Verdict.TheVariants as verdict
use Rattle.racl_io.specs.declared.totals_and_truncation.Captured.{Captured}
use Rattle.racl_io.specs.declared.totals_and_truncation.Totals.{Totals}
use Rattle.session_state.specs.Sessions.{SessionFacts}
use Rattle.session_state.specs.declared.flow_end.End.{End}
use Rattle.session_state.specs.declared.timeouts.Timeouts.{Timeouts}
use Rattle.racl_views.specs.Entries.{EntryFacts}
use Rattle.racl_views.specs.Hits.{hit_object}
use Rattle.racl_views.specs.Objects.{Field, ReadsBack, members_of, object_of}
use Rattle.racl_views.specs.PacketObjects.{carried_fields, decided_fields, dest_fields, frame_way, line_fields, packet_object, rule_fields, source_fields, totals_object, truncation_object, verdict_fields, way_field}
use Rattle.racl_views.specs.SessionLines.{FlowFacts, end_fields, ends_field, has_ports, is_tcp, session_object}
use Rattle.racl_views.specs.declared.hit_counts.Hit.{Hit}
use Rattle.racl_views.specs.declared.hit_counts.Hit.TheVariants as hit
use Rattle.racl_views.specs.declared.rule_numbering.RuleLine.{RuleLine}
use Rattle.racl_views.proofs.LineFeeds.{printed_line}

-- the values of fields nest no deeper
record NestUpTo (n : ℕ) (fields : List Field) : Type 0 where
  few : members_depth (members_of fields) ≤ n

both : (n : ℕ) (a b : List Field) → NestUpTo n a → NestUpTo n b → NestUpTo n (a ++ b)
both n [] b first second = second
both n (field ∷ a) b first second =
    let front = first.few in
    let rest = (both n a b (record { few = omega arith }) second).few in
    record { few = omega arith }

read_back : (n : ℕ) (fields : List Field) → NestUpTo n fields → n ≤ 100 → HasNumbers (object_of fields) → ReadsBack (object_of fields)
read_back n fields nest small numbers =
    let few = nest.few in
    let value = object_of fields in
    (printed_line false (json_tokens value) (ArePrintable-json_tokens value numbers), document-print value numbers (omega arith))

flat_read_back : (fields : List Field) → NestUpTo 0 fields → HasNumbers (object_of fields) → ReadsBack (object_of fields)
flat_read_back fields nest = read_back 0 fields nest (omega arith)

none : (n : ℕ) → NestUpTo n []
none n = record { few = omega arith }

-- a field before others
before : (n : ℕ) (field : Field) (fields : List Field) → depth field.1 ≤ n → NestUpTo n fields → NestUpTo n (field ∷ fields)
before n field fields small rest = let few = rest.few in record { few = omega (arith, small, few) }

one : {n : ℕ} (field : Field) (fields : List Field) → depth field.1 ≡ 0 → NestUpTo n fields → NestUpTo n (field ∷ fields)
one {n} field fields flat rest = before n field fields (omega (arith, flat)) rest

where_kept : (b : Bool) (fields : List Field) → NestUpTo 0 fields → NestUpTo 0 (cond b [] fields)
where_kept true fields flat = none 0
where_kept false fields flat = flat

where_has : (b : Bool) (field : Field) → depth field.1 ≡ 0 → NestUpTo 0 (cond b (field ∷ []) [])
where_has true field flat = record { few = omega (arith, flat) }
where_has false field flat = record { few = omega arith }

rule_flat : (v : Verdict) → NestUpTo 0 (rule_fields v)
rule_flat verdict.Session = record { few = omega arith }
rule_flat (verdict.Reflect n) = record { few = omega arith }
rule_flat (verdict.Permit n) = record { few = omega arith }
rule_flat (verdict.Deny n) = record { few = omega arith }
rule_flat verdict.ByDefault = record { few = omega arith }
rule_flat verdict.Worn = record { few = omega arith }
rule_flat verdict.Full = record { few = omega arith }
rule_flat verdict.NoPages = record { few = omega arith }
rule_flat verdict.NotIp = record { few = omega arith }
rule_flat verdict.Malformed = record { few = omega arith }
rule_flat verdict.Short = record { few = omega arith }

way_flat : (view : FrameFacts) → NestUpTo 0 (frame_way view)
way_flat NotIp = record { few = omega arith }
way_flat Malformed = record { few = omega arith }
way_flat Short = record { few = omega arith }
way_flat (Ip Inbound tuple) = record { few = omega arith }
way_flat (Ip Outbound tuple) = record { few = omega arith }

source_flat : (fields : Fields) → NestUpTo 0 (source_fields fields)
source_flat Absent = record { few = omega arith }
source_flat (Ports from to) = record { few = omega arith }
source_flat (Tcp from to flags) = record { few = omega arith }
source_flat (Icmp kind code) = record { few = omega arith }

dest_flat : (family : Family) (proto : ℕ) (fields : Fields) → NestUpTo 0 (dest_fields family proto fields)
dest_flat family proto Absent = where_has ((proto == 6) || ((proto == 17) || (proto == icmp_of family))) _ refl
dest_flat family proto (Ports from to) = record { few = omega arith }
dest_flat family proto (Tcp from to flags) = record { few = omega arith }
dest_flat family proto (Icmp kind code) = record { few = omega arith }

carried_flat : (view : FrameFacts) → NestUpTo 0 (carried_fields view)
carried_flat NotIp = record { few = omega arith }
carried_flat Malformed = record { few = omega arith }
carried_flat Short = record { few = omega arith }
carried_flat (Ip direction tuple) = one _ _ refl (one _ _ refl (both 0 (source_fields tuple.fields) _ (source_flat tuple.fields) (one _ _ refl (dest_flat tuple.family tuple.proto tuple.fields))))

line_flat : (texts : List (List ℕ)) (line : ℕ) (others : List Field) → NestUpTo 0 others → NestUpTo 0 (line_fields texts line ++ others)
line_flat texts line others flat = both 0 (line_fields texts line) others (one _ _ refl (one _ _ refl (none 0))) flat

pub packet_read_back : (texts : List (List ℕ)) (n : ℕ) (entry : EntryFacts) → HasNumbers (packet_object texts n entry) → ReadsBack (packet_object texts n entry)
packet_read_back texts n entry =
    let seen = one _ _ refl (both 0 (frame_way entry.view) _ (way_flat entry.view) (one _ _ refl (one _ _ refl (one _ _ refl (carried_flat entry.view))))) in
    let line = both 0 (decided_fields texts entry.line) _ (where_kept (entry.line == 0) (line_fields texts entry.line) (one _ _ refl (one _ _ refl (none 0)))) seen in
    flat_read_back _ (one _ _ refl (both 0 (verdict_fields entry.verdict) _ (one _ _ refl (one _ _ refl (rule_flat entry.verdict))) line))

rule_hit_flat : (at : RuleLine) (fields : List Field) → NestUpTo 0 fields → NestUpTo 0 (way_field at.rule.direction ∷ fields)
rule_hit_flat at fields rest = go at.rule.direction
  where
    go : (direction : Direction) → NestUpTo 0 (way_field direction ∷ fields)
    go Inbound = one (way_field Inbound) fields refl rest
    go Outbound = one (way_field Outbound) fields refl rest

pub hit_read_back : (texts : List (List ℕ)) (it : Hit) → HasNumbers (hit_object texts it) → ReadsBack (hit_object texts it)
hit_read_back texts (hit.Rule at count) =
    flat_read_back _ (one _ _ refl (rule_hit_flat at _ (one _ _ refl (line_flat texts at.line _ (one _ _ refl (none 0))))))
hit_read_back texts (hit.Unruled why count) = flat_read_back _ (one _ _ refl (one _ _ refl (none 0)))
hit_read_back texts (hit.Entered count) = flat_read_back _ (one _ _ refl (none 0))
hit_read_back texts (hit.Matched count) = flat_read_back _ (one _ _ refl (none 0))
hit_read_back texts (hit.Expired count) = flat_read_back _ (one _ _ refl (none 0))

end_flat : (proto : ℕ) (end : End) (flags : ℕ) → NestUpTo 0 (end_fields proto end flags)
end_flat proto end flags = both 0 _ _ (where_has (has_ports proto) _ refl) (where_has (is_tcp proto) _ refl)

pub session_read_back : (times : Timeouts) (flow : FlowFacts) (session : SessionFacts) → HasNumbers (session_object times flow session) → ReadsBack (session_object times flow session)
session_read_back times flow session =
    let first = (end_flat flow.proto flow.first session.first_flags).few in
    let second = (end_flat flow.proto flow.second session.second_flags).few in
    let ends : depth (ends_field flow session).1 ≤ 2 = omega (arith, first, second) in
    read_back 2 _ (one _ _ refl (one _ _ refl (before 2 _ _ ends (one _ _ refl (one _ _ refl (none 2)))))) (omega arith)

pub truncation_read_back : (captured : Captured) → HasNumbers (truncation_object captured) → ReadsBack (truncation_object captured)
truncation_read_back captured = flat_read_back _ (one _ _ refl (one _ _ refl (none 0)))

pub totals_read_back : (totals : Totals) → HasNumbers (totals_object totals) → ReadsBack (totals_object totals)
totals_read_back totals = flat_read_back _ (one _ _ refl (one _ _ refl (one _ _ refl (none 0))))
