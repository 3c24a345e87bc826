use Rattle.std.proofs.Common.{List, ℕ, subst}
use Rattle.racl_io.specs.Sinks.{GotFront, HasPutFront}
use Rattle.std.specs.Io.KnownBytes.{Appends}
use Rattle.racl_io.proofs.TellingLemmas.{front_of_first, put_more}
use Rattle.racl_report.proofs.text_behind_totals.write_behind.Goals as goal

pub returns-in-Ok : goal.returns-in-Ok
returns-in-Ok g c =
    let first = c.args.writer.now in
    let mid = c.write_all.new.writer in
    let last = c.write_all-in-Ok.new.writer in
    let hits = c.args.behind.now.hits.items in
    let sessions = c.args.behind.now.sessions.items in
    put_more g.W.Sink.bytes g.W.Sink.failures first mid last hits sessions c.write_all-in-Ok.result
    (subst (λ (b : List ℕ). Appends (g.W.Sink.bytes first) (g.W.Sink.bytes mid) b) c.deref.ensures.value c.in-Ok.ensures.whole) c.in-Ok.ensures.ok
    (subst (λ (b : List ℕ). HasPutFront g.W.Sink.bytes g.W.Sink.failures mid last b c.write_all-in-Ok.result) c.deref-in-Ok.ensures.value (
      c.write_all-in-Ok.ensures.whole,
      c.write_all-in-Ok.ensures.ok,
      c.write_all-in-Ok.ensures.failed,
      c.write_all-in-Ok.ensures.fault,
      c.write_all-in-Ok.ensures.front,
    ))

pub returns-in-Err : goal.returns-in-Err
returns-in-Err g c =
    let first = g.W.Sink.bytes c.args.writer.now in
    let mid = g.W.Sink.bytes c.write_all.new.writer in
    let hits = c.args.behind.now.hits.items in
    let sessions = c.args.behind.now.sessions.items in (
      tt,
      tt,
      c.in-Err.ensures.failed,
      c.in-Err.ensures.fault,
      front_of_first first mid hits sessions (subst (λ (b : List ℕ). GotFront first mid b) c.deref.ensures.value c.in-Err.ensures.front),
    )
