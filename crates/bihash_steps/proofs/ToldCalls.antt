-- The calls that steps on a bucket answer, by what they are told: a step's caller picks one of these.
use Rattle.std.specs.Prelude.{ℕ, Bool, List, Option, Some, None}
use Rattle.bihash_words.specs.Expiries.{expired_words}
use Rattle.bihash_words.specs.Maps
use Rattle.bihash_words.specs.declared.shape.Shape.{Ghosts}
use Rattle.bihash_steps.specs.BucketCalls.{event}
use Rattle.bihash_steps.specs.BucketSteps.{call_of}
use Rattle.bihash_steps.specs.declared.event.Event.{Event}
use Rattle.bihash_rule.specs.declared.view.Call.{Call}
use Rattle.bihash_rule.specs.declared.view.View.{View}

-- an event of a call that asked an expiry, and the key that it removed for its own
abbrev pub recycled_event : Maps.Event → (ℕ → Bool) → Option (List ℕ) → Maps.Event
recycled_event e is_expired removed = record e {
  recycling = record { expired = expired_words is_expired; removed = removed };
}

-- the event, with the words of its key
abbrev pub in_words : {A K : Type 0} (g : Ghosts A K) → Event A K → Maps.Event
in_words g e = event (g.words_of e.key.now) e.found e.change e.reply

-- the entry of a call on bucket b that is no write, and that of a write
abbrev pub answer_at : {A K : Type 0} (g : Ghosts A K) → View → ℕ → Event A K → Call
answer_at g v b e = call_of v b 0 (in_words g e)

abbrev pub write_at : {A K : Type 0} (g : Ghosts A K) → View → ℕ → Event A K → Call
write_at g v b e = call_of v b 1 (in_words g e)

-- the entry of a refusal for want of room that asked an expiry, and that of a write that removed an expired pair
abbrev pub refusal_at : {A K : Type 0} (g : Ghosts A K) → View → ℕ → Event A K → (ℕ → Bool) → Call
refusal_at g v b e is_expired = call_of v b 0 (recycled_event (in_words g e) is_expired None)

abbrev pub recycled_at : {A K : Type 0} (g : Ghosts A K) → View → ℕ → Event A K → K → (ℕ → Bool) → Call
recycled_at g v b e removed is_expired =
    call_of v b 1 (recycled_event (in_words g e) is_expired (Some (g.words_of removed)))
