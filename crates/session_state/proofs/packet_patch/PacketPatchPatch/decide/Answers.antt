-- What is decided in each case is the decision of a packet, and may be stored.
use Rattle.std.proofs.Common.{◌≡◌, ◌∙◌, ◌<◌, ℕ, ap, subst, sym, Some, None}
use Rattle.bihash_words.specs.Patches.{free_mark}
use Rattle.bihash_words.specs.declared.patch.Change.TheVariants.{Set, Remove, Keep}
use Rattle.session_state.specs.Decisions.{decision_at, live_session, patch_facts, removal_of, started_session}
use Rattle.session_state.specs.Sessions.{session_word}
use Rattle.session_state.proofs.DecisionLemmas.{told, without_live}
use Rattle.session_state.proofs.SessionLemmas.{word_is_storable}
use Rattle.session_state.proofs.packet_patch.PacketPatchPatch.decide.Goals as goal

pub returns-in-Some : goal.returns-in-Some
returns-in-Some c =
    let packet = patch_facts c.args.self.now in
    let live : live_session packet c.args.old ≡ Some c.in-Some.session = sym c.live_session.ensures ∙ c.in-Some.is in
    told packet c.args.old c.touch.result (c.touch.ensures.value ∙ sym (ap (decision_at packet c.args.old) live))
    c.touch.ensures.storable

pub returns-then-self : goal.returns-then-self
returns-then-self c =
    let packet = patch_facts c.args.self.now in
    let none : live_session packet c.args.old ≡ None = sym c.live_session.ensures ∙ c.in_default.is in
    let value : c.word.result ≡ session_word (started_session packet) =
    c.word.ensures.word ∙ ap session_word c.new-session.ensures in
    told packet c.args.old (Set c.word.result)
    (ap Set value ∙ sym (ap (decision_at packet c.args.old) none ∙ ap (without_live packet c.args.old) c.if-self.true))
    (subst (λ (n : ℕ). n < free_mark) (sym c.word.ensures.word) (word_is_storable _ c.word.ensures.session))

pub returns-in-Some-old : goal.returns-in-Some-old
returns-in-Some-old c =
    let packet = patch_facts c.args.self.now in
    let none : live_session packet c.args.old ≡ None = sym c.live_session.ensures ∙ c.in_default.is in
    told packet c.args.old Remove (sym (ap (decision_at packet c.args.old) none
    ∙ ap (without_live packet c.args.old) c.if-self.false ∙ ap removal_of c.in-Some-old.is)) tt

pub returns-in-None : goal.returns-in-None
returns-in-None c =
    let packet = patch_facts c.args.self.now in
    let none : live_session packet c.args.old ≡ None = sym c.live_session.ensures ∙ c.in_default.is in
    told packet c.args.old Keep (sym (ap (decision_at packet c.args.old) none
    ∙ ap (without_live packet c.args.old) c.if-self.false ∙ ap removal_of c.in-None.is)) tt
