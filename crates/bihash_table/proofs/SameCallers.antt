-- A caller that is the same but for its view.
use Rattle.std.proofs.Common.{◌≡◌, ◌∙◌, ◌++◌, List, [], ◌∷◌, true, false, ap, append-nil, refl, subst, sym}
use Rattle.bihash_steps.specs.Seats.{CallerState, with_view}
use Rattle.bihash_words.specs.Sizes.{Sizes}
use Rattle.bihash_steps.specs.BucketCalls.{HasEntered}
use Rattle.bihash_steps.specs.BucketSteps.{Enters, acting, entry_of}
use Rattle.bihash_rule.specs.Callers.{known_at}
use Rattle.bihash_rule.specs.Histories.{is_changed, write_of}
use Rattle.bihash_rule.specs.Logs.{writes_on}
use Rattle.bihash_rule.specs.declared.view.Call.{Call}
use Rattle.bihash_rule.specs.declared.view.Entry.{Entry}
use Rattle.bihash_rule.specs.declared.view.View.{View}
use Rattle.bihash_rule.specs.declared.view.Write.{Write}
use Rattle.bihash_steps.proofs.LogLemmas.{read_writes, write_here, writes_on-append}
use Rattle.bihash_table.specs.Promise.{IsEntered}

pub view_is : (a b : CallerState) (v : View) → b ≡ with_view a v → b.view ≡ v
view_is a b v is = ap (λ (k : CallerState). k.view) is

pub same_but_view : (a b : CallerState) (v : View) → b ≡ with_view a v → b ≡ with_view a b.view
same_but_view a b v is = is ∙ ap (with_view a) (sym (view_is a b v is))

-- one step after another
pub same_through : (a b c : CallerState) (v : View) → b ≡ with_view a b.view → c ≡ with_view b v → c ≡ with_view a c.view
same_through a b c v first then =
    same_but_view a c v (then ∙ ap (λ (k : CallerState). with_view k v) first)

-- the row stays
pub own_through : (a b : CallerState) (v : View) {row : _} → b ≡ with_view a v → a.row ≡ row → b.row ≡ row
own_through a b v is own = ap (λ (k : CallerState). k.row) is ∙ own

-- ---- A call that was answered

module _ {z : Sizes} {v after w : View} {c : Call} (h : Enters z v c after w) where
  -- the view after the answer, but for the log that it knows
  pub view_entered : w ≡ record after { log = w.log }
  view_entered = h.is ∙ ap (λ (l : List Entry). record after { log = l }) (sym (ap (λ (u : View). u.log) h.is))

  -- the log that it knows, where these are the writes of the entry
  entered_with : (more : List Write) → writes_on c.bucket (entry_of v c ∷ []) ≡ more
      → IsEntered v.log (acting v.records) c w.log (known_at v.known c.bucket ++ more)
  entered_with more own = let log = ap (λ (u : View). u.log) h.is in record {
    before = h.before;
    begins = h.begins;
    is = log;
    writes = ap (writes_on c.bucket) log ∙ (writes_on-append c.bucket h.before (entry_of v c ∷ []) ∙ (λ i. h.now i ++ own i));
  }

  pub read_entered : is_changed c.reply ≡ false → IsEntered v.log (acting v.records) c w.log (known_at v.known c.bucket)
  read_entered reads = subst (IsEntered v.log (acting v.records) c w.log) (append-nil (known_at v.known c.bucket))
      (entered_with [] (read_writes c.bucket (entry_of v c) reads))

  pub write_entered : is_changed c.reply ≡ true
      → IsEntered v.log (acting v.records) c w.log (known_at v.known c.bucket ++ write_of (acting v.records) c ∷ [])
  write_entered writes = entered_with (write_of (acting v.records) c ∷ []) (write_here c.bucket (entry_of v c) writes refl)

-- a caller whose call was answered, but for the log that it knows
enters_as : (z : Sizes) (a b : CallerState) (after : View) (c : Call) → b ≡ with_view a b.view → Enters z a.view c after b.view
    → b ≡ with_view a (record after { log = b.view.log })
enters_as z a b after c same h = same ∙ ap (with_view a) (view_entered h)

pub entered_as : {z : Sizes} {a b : CallerState} {after : View} {c : Call} → HasEntered z a after c b
    → b ≡ with_view a (record after { log = b.view.log })
entered_as {z} {a} {b} {after} {c} h = enters_as z a b after c h.same h.entered
