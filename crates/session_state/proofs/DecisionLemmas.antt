-- The decision that is computed for a packet is the one that its rules name, and the only one.
use Rattle.std.proofs.Common.{◌≡◌, ◌∙◌, ℕ, Bool, true, false, ap, sym, subst, refl, Option, Some, None, if◌then◌else◌}
use Rattle.std.proofs.lemmas.Bool.{le-leb, leb-true}
use Rattle.std.proofs.lemmas.Option.{cond_some, none-some, option_and_then_some}
use Rattle.std.specs.Prelude.{◌↔◌, option_and_then}
use Rattle.bihash_words.specs.declared.patch.Change.{Change}
use Rattle.bihash_words.specs.declared.patch.Change.TheVariants.{Set}
use Rattle.bihash_words.specs.Patches.{IsStorable}
use Rattle.session_state.proofs.SessionLemmas.{session_of_word, word_of_session}
use Rattle.session_state.specs.Decisions.{HasNoneLive, IsDecision, IsLiveFor, PatchFacts, decision_at, decision_of, if_live, live_session, passed_session, removal_of, started_session}
use Rattle.session_state.specs.Sessions.{SessionFacts, live_until, session_of, session_word}

-- the session that is found is live for the packet
pub live_found : (packet : PatchFacts) (old : Option ℕ) (session : SessionFacts)
    → live_session packet old ≡ Some session → IsLiveFor packet old session
live_found packet None session same = absurd (none-some session same)
live_found packet (Some word) session same =
    option_and_then_some (if_live packet) (session_of word) session same (λ found of_word live.
    let test = cond_some _ found session live in
    let word_is = word_of_session word found of_word in
    subst (IsLiveFor packet (Some word)) test.1 (record {
      fits = word_is.0;
      stored = ap Some (sym word_is.1);
      live = leb-true packet.moment (live_until found packet.times) test.0;
    }))

-- no other session is live for the packet
pub live_only : (packet : PatchFacts) (old : Option ℕ) (session : SessionFacts) → IsLiveFor packet old session
    → live_session packet old ≡ Some session
live_only packet old session live =
    ap (live_session packet) live.stored ∙ ap (option_and_then (if_live packet)) (session_of_word session live.fits)
    ∙ ap (λ b. if b then Some session else None) (le-leb packet.moment (live_until session packet.times) live.live)

-- where none is found, none is live
none_live : (packet : PatchFacts) (old : Option ℕ) → live_session packet old ≡ None → HasNoneLive packet old
none_live packet old none session live = none-some session (sym none ∙ live_only packet old session live)

where_none : (packet : PatchFacts) (old : Option ℕ) (found : Option SessionFacts)
    → live_session packet old ≡ found → HasNoneLive packet old → found ≡ None
where_none packet old None same none = refl
where_none packet old (Some session) same none = absurd (none session (live_found packet old session same))

-- the decision where no session is live
abbrev pub without_live : PatchFacts → Option ℕ → Bool → Change
without_live packet old reflects =
    if reflects then Set (session_word (started_session packet)) else removal_of old

at_none : (packet : PatchFacts) (old : Option ℕ) (reflects : Bool) → HasNoneLive packet old
    → packet.reflects ≡ reflects → decision_of packet old ≡ without_live packet old reflects
at_none packet old reflects none same =
    ap (decision_at packet old) (where_none packet old (live_session packet old) refl none)
    ∙ ap (without_live packet old) same

-- the decision where a session is live
at_live : (packet : PatchFacts) (old : Option ℕ) (session : SessionFacts) → IsLiveFor packet old session
    → decision_of packet old ≡ Set (session_word (passed_session packet session))
at_live packet old session live = ap (decision_at packet old) (live_only packet old session live)

-- the decision that is computed is the packet's
decided : (packet : PatchFacts) (old : Option ℕ) (change : Change) → change ≡ decision_of packet old
    → IsDecision packet old change
decided packet old change same = record {
  passes = λ session live. same ∙ at_live packet old session live;
  starts = λ none reflects. same ∙ at_none packet old true none reflects;
  clears = λ none reflects. same ∙ at_none packet old false none reflects;
}

by_reflects : (packet : PatchFacts) (old : Option ℕ) (change : Change) (reflects : Bool)
    → packet.reflects ≡ reflects → HasNoneLive packet old → IsDecision packet old change
    → change ≡ decision_of packet old
by_reflects packet old change true same none h = h.starts none same ∙ sym (at_none packet old true none same)
by_reflects packet old change false same none h = h.clears none same ∙ sym (at_none packet old false none same)

by_found : (packet : PatchFacts) (old : Option ℕ) (change : Change) (found : Option SessionFacts)
    → live_session packet old ≡ found → IsDecision packet old change → change ≡ decision_of packet old
by_found packet old change None same h =
    by_reflects packet old change packet.reflects refl (none_live packet old same) h
by_found packet old change (Some session) same h =
    let live = live_found packet old session same in
    h.passes session live ∙ sym (at_live packet old session live)

-- a packet decides nothing else
decided_only : (packet : PatchFacts) (old : Option ℕ) (change : Change) → IsDecision packet old change
    → change ≡ decision_of packet old
decided_only packet old change h = by_found packet old change (live_session packet old) refl h

-- both ways
pub decision_told : (packet : PatchFacts) (old : Option ℕ) (change : Change)
    → (change ≡ decision_of packet old) ↔ IsDecision packet old change
decision_told packet old change = (decided packet old change, decided_only packet old change)

-- what is promised of the decision that is computed
pub told : (packet : PatchFacts) (old : Option ℕ) (change : Change) → change ≡ decision_of packet old
    → IsStorable change → record {
      decision : change ≡ decision_of packet old;
      storable : IsStorable change;
      rule : IsDecision packet old change;
      only : (other : Change) → IsDecision packet old other → other ≡ change;
    }
told packet old change same storable = record {
  decision = same;
  storable = storable;
  rule = decided packet old change same;
  only = λ other h. decided_only packet old other h ∙ sym same;
}
