-- Which packets go through: those that a rule lets through, and those of a live session (this project's profile).
use Rattle.std.specs.Prelude.{◌≡◌, ◌≢◌, ◌<◌, ◌≤◌, ◌^◌, ℕ, true, false, List, Some, None}
use Rattle.std.specs.Cmp.Lexicographic.{slice_cmp}
use Rattle.std.specs.FinMap.{get, len}
use Rattle.std.specs.Ordering.{nat_cmp}
use Rattle.std.specs.declared.cmp.Ordering.TheVariants.{Greater}
use Rattle.acl_policy.specs.declared.rule.Action.TheVariants.{Deny, Permit, Reflect}
use Rattle.bihash_words.specs.Maps.{Bounds, Pairs, most_pairs}
use Rattle.bihash_words.specs.Runs.{IsRun}
use Rattle.session_state.specs.Decisions.{IsLiveFor, is_live_for, started_session}
use Rattle.session_state.specs.Sessions.{SessionFacts, session_word}
use Rattle.flow_filter.specs.Judged.{Judged}
use Rattle.flow_filter.specs.OneThread.{Home, Layout, bounds_in, events_at}
use Rattle.flow_filter.specs.Readings.{Ruling}
use Rattle.flow_filter.specs.Updates.{Update, words_of}

-- the rule that decides is one that permits or reflects
abbrev pub IsPermitting : Ruling → Type 0
IsPermitting None = ⊥
IsPermitting (Some (i, Deny)) = ⊥
IsPermitting (Some (i, Permit)) = Unit {0}
IsPermitting (Some (i, Reflect)) = Unit {0}

-- the bucket holds a session of the packet's flow that is live at the packet's moment
abbrev pub HoldsLive : Update → Pairs → Type 0
HoldsLive u m = (session : SessionFacts) × IsLiveFor u.patch (get m (words_of u.key)) session

-- the bucket holds the session that the packet starts
abbrev pub HoldsStarted : Update → Pairs → Type 0
HoldsStarted u m = get m (words_of u.key) ≡ Some (session_word (started_session u.patch))

-- The rule that decides lets the packet through, where the bucket holds this after it: the rule permits, or it
-- reflects and the session is there that the packet may start.
abbrev pub LetsThrough : Update → Pairs → Ruling → Type 0
LetsThrough u m None = ⊥
LetsThrough u m (Some (i, Deny)) = ⊥
LetsThrough u m (Some (i, Permit)) = Unit {0}
LetsThrough u m (Some (i, Reflect)) = u.patch.reflects ≡ true → HoldsStarted u m

-- packets that are judged one after the other leave this in a bucket that held `opening`
abbrev pub Leave : Layout → (Home → Pairs) → List Judged → Home → Pairs → Type 0
Leave l opening js home m =
    (writes : ℕ) × IsRun (bounds_in l home.family) (opening home) 0 (events_at l home js) m writes

-- The packet would start a session, and there is no room for it: its bucket may still change, holds none of this flow,
-- has its most pairs, and each word there is a session that is live at the packet's moment.
pub record FindsNoRoom (u : Update) (b : Bounds) (m : Pairs) (writes : ℕ) : Type 0 where
  pub starts : u.patch.reflects ≡ true
  pub absent : get m (words_of u.key) ≡ None
  pub may_change : writes < b.limit
  pub most : most_pairs b ≤ len m
  pub live : (key : List ℕ) (word : ℕ) → word < 2 ^ 64 → get m key ≡ Some word → is_live_for u.patch (Some word) ≡ true

-- the key's session makes room for the packet's: it isn't live at the packet's moment, and none that isn't has a
-- lesser key
pub record MakesRoom (u : Update) (m : Pairs) (gone : List ℕ) : Type 0 where
  pub word : ℕ
  pub stands : get m gone ≡ Some word
  pub ended : is_live_for u.patch (Some word) ≡ false
  pub least : (key : List ℕ) (other : ℕ) → other < 2 ^ 64 → get m key ≡ Some other
      → is_live_for u.patch (Some other) ≡ false → slice_cmp nat_cmp gone key ≢ Greater
