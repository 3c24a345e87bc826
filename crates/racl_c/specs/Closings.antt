-- Tables that are closed behind a handle, and their sessions behind another one.
use Rattle.std.specs.Prelude.{◌≡◌, ◌⊎◌, ℕ, List, Option}
use Rattle.packet_view.specs.declared.tuple.Family.{Family}
use Rattle.packet_view.specs.declared.tuple.Family.TheVariants.{V4, V6}
use Rattle.bihash_words.specs.Sizes.{sizes_of}
use Rattle.bihash_words.specs.declared.shape.Shape.{Ghosts}
use Rattle.session_state.specs.declared.timeouts.Timeouts.{Timeouts}
use Rattle.flow_judge.specs.Closings.{IsClosedFour, IsClosedSix, IsFourKept, IsSixKept}
use Rattle.flow_judge.specs.JudgeStates.{JudgeState}
use Rattle.flow_judge.specs.declared.end_fault.EndFault.{EndFault}
use Rattle.racl_c.specs.Answers.{end_number}
use Rattle.racl_c.specs.Contents.{Calls}
use Rattle.racl_c.specs.Sessions.{IsGiven, pair_count, session_at}
use Rattle.racl_c.specs.declared.content_calls.Content.{Content}
use Rattle.racl_c.specs.declared.content_calls.Content.TheVariants.{Sessions}
use Rattle.racl_c.specs.declared.session_list_read.ClosedPairs.{ClosedPairs}
use Rattle.racl_c.specs.declared.session_list_read.ClosedPairs.TheVariants.{Four, Six}
use Rattle.racl_c.specs.declared.stored_session.StoredSession.{StoredSession}

-- there are the sessions of a closed table
abbrev pub HasSessions : Content → Type 0
HasSessions (Sessions list) = Unit {0}
HasSessions x = ⊥

-- these are the pairs of IPv4, and those of IPv6
abbrev pub AreFour : List (List ℕ × ℕ) → ClosedPairs → Type 0
AreFour ps (Four pairs) = pairs.items ≡ ps
AreFour ps (Six pairs) = ⊥

abbrev pub AreSix : List (List ℕ × ℕ) → ClosedPairs → Type 0
AreSix ps (Four pairs) = ⊥
AreSix ps (Six pairs) = pairs.items ≡ ps

-- there are these pairs, of sessions that live so long
abbrev pub ListsFour : Timeouts → List (List ℕ × ℕ) → Content → Type 0
ListsFour times ps (Sessions list) = (list.times ≡ times) × AreFour ps list.pairs
ListsFour times ps x = ⊥

abbrev pub ListsSix : Timeouts → List (List ℕ × ℕ) → Content → Type 0
ListsSix times ps (Sessions list) = (list.times ≡ times) × AreSix ps list.pairs
ListsSix times ps x = ⊥

-- the judge's table of a family was closed, and its pairs are listed
abbrev pub IsClosedTo : {A B : Type 0} → Ghosts A (List ℕ) → Ghosts B (List ℕ) → Family → Content → JudgeState → JudgeState
    → Type 0
IsClosedTo ga gb V4 after s t = (ps : List (List ℕ × ℕ)) × ListsFour s.times ps after × IsClosedFour ga s ps t
IsClosedTo ga gb V6 after s t = (ps : List (List ℕ × ℕ)) × ListsSix s.times ps after × IsClosedSix gb s ps t

-- why it was not
abbrev pub IsKept : {A B : Type 0} → Ghosts A (List ℕ) → Ghosts B (List ℕ) → Family → EndFault → JudgeState → JudgeState
    → Type 0
IsKept ga gb V4 fault s t = IsFourKept (sizes_of ga) s fault t
IsKept ga gb V6 fault s t = IsSixKept (sizes_of gb) s fault t

-- a close was done, or refused for this reason, and then there is no list
abbrev pub CloseTold : {A B C D : Type 0} → Ghosts A (List ℕ) → Ghosts B (List ℕ) → Ghosts C (List ℕ) → Ghosts D (List ℕ)
    → Family → (x y before after : Content) → ℕ → Type 0
CloseTold ga gb la lb family x y before after answer =
    ((answer ≡ 0) × Calls x y (IsClosedTo ga gb family after) (IsClosedTo la lb family after))
    ⊎ ((fault : EndFault) × (answer ≡ end_number fault)
    × Calls x y (IsKept ga gb family fault) (IsKept la lb family fault) × (after ≡ before))

-- memory for a list was refused, and nothing was done
abbrev pub IsListRefused : (x y before after : Content) → ℕ → Type 0
IsListRefused x y before after answer = (answer ≡ 1) × (y ≡ x) × (after ≡ before)

-- how many pairs the closed table had
abbrev pub SessionCountTold : Content → ℕ → Type 0
SessionCountTold (Sessions list) count = count ≡ pair_count list.pairs
SessionCountTold x count = ⊥

-- the session at a place
abbrev pub SessionFound : Content → ℕ → Option StoredSession → Type 0
SessionFound (Sessions list) at found = found ≡ session_at list.times list.pairs at
SessionFound x at found = ⊥

-- it was given where there is one
abbrev pub SessionTold : Content → ℕ → (before after : StoredSession) → ℕ → Type 0
SessionTold (Sessions list) at before after given = IsGiven (session_at list.times list.pairs at) before after given
SessionTold x at before after given = ⊥
