-- What judging a packet asks of callers of both families' tables, and what it tells of them, all said together.
use Rattle.std.specs.Prelude.{◌≡◌, true, Result, IfOk, IfErr, is_ok}
use Rattle.packet_view.specs.Captures.{packet_facts}
use Rattle.packet_view.specs.declared.packet.Packet.{Packet}
use Rattle.acl_policy.specs.Policies.{policy_facts}
use Rattle.bihash_words.specs.declared.patch.Reply.{Reply}
use Rattle.bihash_words.specs.declared.shape.Shape.{Ghosts}
use Rattle.bihash_rule.specs.declared.view.View.{View}
use Rattle.flow_filter.specs.declared.prepared_filter.Filter.{Filter}
use Rattle.session_state.specs.declared.verdict.Verdict.{Verdict}
use Rattle.flow_workers.specs.declared.session_tables.Callers.{Callers}
use Rattle.flow_workers.specs.declared.session_tables.Tables.{Tables}
use Rattle.flow_workers.specs.Callers.{AreIdle, AreSame, AreShapes}
use Rattle.flow_workers.specs.Verdicts.{HasNoFlow, HasNoVerdict, HasVerdict, ShowsOutOfPages}

-- callers that may ask these tables
pub record MayAsk {A B K L : Type 0} {ga : Ghosts A K} {gb : Ghosts B L} (tables : Tables A B K L)
    (callers : Callers A B K L ga gb) : Type 0 where
  pub shapes : AreShapes ga gb
  pub idle : AreIdle ga gb tables callers

-- What judging a packet came to, with the locks that a call which was answered took. Lone callers are answered, and all
-- where the packet takes no part in sessions.
pub record TellsVerdict {A B K L E : Type 0} {ga : Ghosts A K} {gb : Ghosts B L} (took : View → View → Reply → Type 0)
    (filter : Filter) (packet : Packet) (tables : Tables A B K L) (old new : Callers A B K L ga gb) (r : Result Verdict E)
    : Type 0 where
  pub same : AreSame ga gb old new
  pub idle : AreIdle ga gb tables new
  pub judged : IfOk r
      (HasVerdict ga gb took filter.times (policy_facts filter.policy) (packet_facts packet) old new)
  pub no_pages : IfOk r (ShowsOutOfPages ga gb (policy_facts filter.policy) (packet_facts packet) new)
  pub refused : IfErr r (λ _.
      HasNoVerdict ga gb filter.times (policy_facts filter.policy) (packet_facts packet) old new)
  pub lone : old.four.seat.view.lone ≡ true → old.six.seat.view.lone ≡ true → is_ok r ≡ true
  pub settled : HasNoFlow (policy_facts filter.policy) (packet_facts packet) → is_ok r ≡ true
