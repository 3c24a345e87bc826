-- A caller answers a call: its entry follows the whole log.
use Rattle.std.proofs.Common.{◌≡◌, ◌≢◌, ℕ, ◌+◌, ◌<◌, ◌≤◌, true, false, List, [], ◌∷◌, ◌++◌, length, set, refl, sym, ap, ◌∙◌, subst, arith, append-nil, length-append}
use mathlib.Core.Logic.{dite}
use mathlib.Core.Option.{some}
use native.Mathlib.Decide.{ℕ_discrete}
use lib.ListN.{get_elem?}
use Rattle.atomic_table.specs.Table.{State}
use Rattle.atomic_table.proofs.Lists.{at_last, set_here}
use Rattle.bihash_words.specs.Sizes.{Sizes}
use Rattle.bihash_rule.specs.Words.{buckets}
use Rattle.bihash_rule.specs.Histories.{IsLegal, is_changed, write_of}
use Rattle.bihash_rule.specs.Callers.{known_at, opening_at, opening_in}
use Rattle.bihash_rule.specs.declared.view.Openings.{Openings}
use Rattle.bihash_rule.specs.Logs.{writes_on, Follows, IsLogged}
use Rattle.bihash_rule.specs.LogRule.{LogRule}
use Rattle.bihash_rule.specs.WordRule.{TableState, IsInformed, WordRule}
use Rattle.bihash_steps.specs.BucketSteps.{acting, push_call, entry_of, view_after_write, Enters}
use Rattle.bihash_rule.specs.declared.view.Write.{Write}
use Rattle.bihash_rule.specs.declared.view.Call.{Call}
use Rattle.bihash_rule.specs.declared.view.Entry.{Entry}
use Rattle.bihash_rule.specs.declared.view.Known.{Known}
use Rattle.bihash_rule.specs.declared.view.Record.{Record}
use Rattle.bihash_rule.specs.declared.view.View.{View}
use Rattle.bihash_steps.proofs.Lists.{at_after, within}
use Rattle.bihash_steps.proofs.InformedViews.{known_learned}
use Rattle.bihash_steps.proofs.CountWord.{others_apart}
use Rattle.bihash_steps.proofs.LogLemmas.{writes_on-append, read_writes, write_here, write_else}
use Rattle.bihash_steps.proofs.KnownLists.{BeginsEach}
use Rattle.bihash_steps.proofs.LogSteps.{answered_logged, is_logged, log_begins}

-- what holds of each call of the records holds of the one that was pushed
last_pushed : (P : ℕ → Call → Type 0) (c : Call) (rs : List Record) → 1 ≤ length rs
    → ((i k : ℕ) (r : Record) (d : Call) → get_elem? (push_call c rs) i ≡ some r → get_elem? r.calls k ≡ some d → P r.number d) → P (acting rs) c
last_pushed P c [] some_record all = absurd (omega arith)
last_pushed P c (q ∷ qs) some_record all = all 0 (length q.calls) (record q { calls = q.calls ++ c ∷ [] }) c refl (at_last q.calls c (length q.calls) refl)

module _ (z : Sizes) (s : State (Unit {0}) View) (r : WordRule z s) (id : ℕ) (v : View) (at : get_elem? s.views id ≡ some v)
    (acts : 1 ≤ length v.records) (c : Call) where
  abbrev pub log_after : List Entry
  log_after = r.logged.log ++ entry_of v c ∷ []

  -- the entry follows the log, where the caller knows all writes of the bucket then
  pub follows_log : (t : TableState) (known : Known) → IsInformed z t known (push_call c v.records) → c.bucket < buckets z
      → known.openings ≡ r.table.openings → known_at known c.bucket ≡ writes_on c.bucket (r.logged.log ++ entry_of v c ∷ [])
      → c.stamp ≡ length (known_at known c.bucket) → Follows z r.table.openings r.logged.log (entry_of v c)
  follows_log t known informed inside openings whole stamp = record {
    inside = inside;
    now = stamp ∙ ap length whole;
    legal = subst (λ (y : Openings × List Write). IsLegal z (opening_in y.0 c.bucket) y.1 (acting v.records) c) (λ i. (openings i, whole i))
        (last_pushed (λ n d. IsLegal z (opening_at known d.bucket) (known_at known d.bucket) n d) c v.records acts informed.lawful.legal);
  }

  module _ (w : View) (log : w.log ≡ log_after) (pushed : w.records ≡ push_call c v.records)
      (follows : Follows z r.table.openings r.logged.log (entry_of v c)) where
    pub read_logged : is_changed c.reply ≡ false → LogRule z r.table.openings (λ b. (r.table.bucket b).history) (set s.views id w)
    read_logged reads = answered_logged z r.table.openings (λ b. (r.table.bucket b).history) (λ b. (r.table.bucket b).history) s.views id v.seen v w c at
        r.logged acts (r.each_view id v at).numbers (others_apart z s r id v at) log pushed follows
        (λ b l. ap (λ (h : List Write). (r.table.bucket b).history ++ h) (read_writes b (entry_of v c) reads) ∙ append-nil (r.table.bucket b).history)

    pub write_logged : (history' : ℕ → List Write) → is_changed c.reply ≡ true
        → history' c.bucket ≡ (r.table.bucket c.bucket).history ++ write_of (acting v.records) c ∷ []
        → ((b : ℕ) → b ≢ c.bucket → history' b ≡ (r.table.bucket b).history) → LogRule z r.table.openings history' (set s.views id w)
    write_logged history' writes here elsewhere = answered_logged z r.table.openings (λ b. (r.table.bucket b).history) history' s.views id v.seen v w c at
        r.logged acts (r.each_view id v at).numbers (others_apart z s r id v at) log pushed follows
        (λ b l. dite (ℕ_discrete b c.bucket)
        (λ e. ap (λ (h : List Write). (r.table.bucket b).history ++ h) (write_here b (entry_of v c) writes (sym e))
        ∙ (ap (λ (d : ℕ). (r.table.bucket d).history ++ write_of (acting v.records) c ∷ []) e ∙ (sym here ∙ ap history' (sym e))))
        (λ ne. ap (λ (h : List Write). (r.table.bucket b).history ++ h) (write_else b (entry_of v c) writes (λ f. ne (sym f)))
        ∙ (append-nil (r.table.bucket b).history ∙ sym (elsewhere b ne))))

  -- what the step tells
  pub enters_log : (after w : View) → w ≡ record after { log = log_after } → writes_on c.bucket r.logged.log ≡ known_at v.known c.bucket → Enters z v c after w
  enters_log after w is now = let ok = r.logged.each id v at in record {
    before = r.logged.log;
    begins = ok.begins;
    others = λ k e f has. let reached : length v.log + k < length v.log = ok.own has.0 (length v.log + k) has.1 e has.2
        (ap (λ (l : List Entry). get_elem? l (length v.log + k)) ok.begins.whole ∙ at_after v.log ok.begins.rest k e f) (sym has.3) in omega arith;
    now = now;
    is = is;
  }

  pub set_is_logged : (history : ℕ → List Write) (w : View) → LogRule z r.table.openings history (set s.views id w) → w.known.openings ≡ r.table.openings
      → IsLogged z w.known.openings w.log w.records
  set_is_logged history w rule openings = is_logged z r.table.openings history (set s.views id w) id w rule
      (set_here s.views id w (within s.views id v at)) openings

  known_openings : v.known.openings ≡ r.table.openings
  known_openings = (r.each_view id v at).informed.opening acts

  -- ---- A call that is no write, where all writes of its bucket are known

  module _ (informed : IsInformed z r.table v.known (push_call c v.records)) (inside : c.bucket < buckets z)
      (fresh : known_at v.known c.bucket ≡ (r.table.bucket c.bucket).history) (reads : is_changed c.reply ≡ false)
      (stamp : c.stamp ≡ length (known_at v.known c.bucket)) where
    now_read : writes_on c.bucket r.logged.log ≡ known_at v.known c.bucket
    now_read = r.logged.writes c.bucket inside ∙ sym fresh

    follows_read : Follows z r.table.openings r.logged.log (entry_of v c)
    follows_read = follows_log r.table v.known informed inside known_openings
        (sym now_read ∙ (sym (append-nil (writes_on c.bucket r.logged.log))
        ∙ (ap (λ (h : List Write). writes_on c.bucket r.logged.log ++ h) (sym (read_writes c.bucket (entry_of v c) reads))
        ∙ sym (writes_on-append c.bucket r.logged.log (entry_of v c ∷ []))))) stamp

    pub read_rule : (w : View) → w.log ≡ log_after → w.records ≡ push_call c v.records
        → LogRule z r.table.openings (λ b. (r.table.bucket b).history) (set s.views id w)
    read_rule w log pushed = read_logged w log pushed follows_read reads

    pub read_is_logged : (w : View) → w.log ≡ log_after → w.records ≡ push_call c v.records → w.known.openings ≡ v.known.openings
        → IsLogged z w.known.openings w.log w.records × BeginsEach z r.table w.log
    read_is_logged w log pushed openings = (
      set_is_logged (λ b. (r.table.bucket b).history) w (read_rule w log pushed) (openings ∙ known_openings),
      log_begins z r.table.openings (λ b. (r.table.bucket b).history) (set s.views id w) id w (read_rule w log pushed)
          (set_here s.views id w (within s.views id v at)),
    )

    pub read_enters : (after w : View) → w ≡ record after { log = log_after } → Enters z v c after w
    read_enters after w is = enters_log after w is now_read

  -- ---- A write

  module _ (t : TableState) (informed : IsInformed z t (view_after_write v c).known (push_call c v.records)) (inside : c.bucket < buckets z)
      (fresh : known_at v.known c.bucket ≡ (r.table.bucket c.bucket).history) (writes : is_changed c.reply ≡ true)
      (stamp : c.stamp ≡ length (known_at v.known c.bucket) + 1)
      (here : (t.bucket c.bucket).history ≡ (r.table.bucket c.bucket).history ++ write_of (acting v.records) c ∷ [])
      (elsewhere : (b : ℕ) → b ≢ c.bucket → (t.bucket b).history ≡ (r.table.bucket b).history) where
    now_write : writes_on c.bucket r.logged.log ≡ known_at v.known c.bucket
    now_write = r.logged.writes c.bucket inside ∙ sym fresh

    learned : known_at (view_after_write v c).known c.bucket ≡ known_at v.known c.bucket ++ write_of (acting v.records) c ∷ []
    learned = known_learned v c.bucket (known_at v.known c.bucket ++ write_of (acting v.records) c ∷ [])
        (let wide = (r.each_view id v at).informed.wide in omega arith)

    follows_write : Follows z r.table.openings r.logged.log (entry_of v c)
    follows_write = follows_log t (view_after_write v c).known informed inside known_openings
        (learned ∙ (ap (λ (h : List Write). h ++ write_of (acting v.records) c ∷ []) (sym now_write)
        ∙ (ap (λ (h : List Write). writes_on c.bucket r.logged.log ++ h) (sym (write_here c.bucket (entry_of v c) writes refl))
        ∙ sym (writes_on-append c.bucket r.logged.log (entry_of v c ∷ [])))))
        (let l = ap length learned in let m = length-append (known_at v.known c.bucket) (write_of (acting v.records) c ∷ []) in omega arith)

    pub write_rule : (w : View) → w.log ≡ log_after → w.records ≡ push_call c v.records
        → LogRule z r.table.openings (λ b. (t.bucket b).history) (set s.views id w)
    write_rule w log pushed = write_logged w log pushed follows_write (λ b. (t.bucket b).history) writes here elsewhere

    pub write_enters : (after w : View) → w ≡ record after { log = log_after } → Enters z v c after w
    write_enters after w is = enters_log after w is now_write
