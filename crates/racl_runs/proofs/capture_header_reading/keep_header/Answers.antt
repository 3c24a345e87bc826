use Rattle.std.proofs.Common.{◌≡◌, ◌∙◌, ◌<◌, ◌≤◌, ◌++◌, ap, arith, length, max, refl, subst, sym, Bool, true, false, List, ℕ}
use Rattle.std.specs.Io.KnownBytes.{Consumes}
use Rattle.packet_view.specs.Captures.{HasFileHeader, IsHeaderFault}
use Rattle.racl_runs.proofs.capture_header_reading.keep_header.Goals as goal

-- so many bytes are all that was asked for, if they aren't fewer
header_whole : (at_end : Bool) (size held : ℕ) → (at_end ≡ true → size < 24) → (at_end ≡ false → size ≡ max held 24) → held ≡ 0 → 24 ≤ size → size ≡ 24
header_whole true size held short enough none whole = let few = short refl in omega arith
header_whole false size held short enough none whole = subst (λ h. size ≡ max h 24) none (enough refl)

pub returns-in_ok-capture_header-in-Ok-clause-header : goal.returns-in_ok-capture_header-in-Ok-clause-header
returns-in_ok-capture_header-in-Ok-clause-header g c =
    let items = c.read_until.new.all.items in
    let same : c.as_slice.result.now ≡ items = c.as_slice.ensures.value in
    let answers = c.in_ok-capture_header-in-Ok.ensures in
    let order = c.in_ok-capture_header-in-Ok.field-0 in
    let read = c.in-Ok.ensures.read in
    let right = subst (HasFileHeader order) same answers.ok in (
      record {
        header = items;
        consumed = subst (Consumes (g.R.Source.bytes c.args.reader.now) (g.R.Source.bytes c.read_until.new.reader))
            (sym (read.appended ∙ ap (λ (held : List ℕ). held ++ read.read) c.requires.empty)) read.consumed;
        headed = record {
          right = right;
          one = λ other is. let e = answers.accepts other (subst (HasFileHeader other) (sym same) is) in cc;
          none = λ cause is. let e = answers.refuses cause (subst (λ (b : List ℕ). IsHeaderFault b cause) (sym same) is) in cc;
        };
        whole = header_whole c.in-Ok.field-0 _ _ (λ end. (read.ended end).1) read.enough (ap length c.requires.empty) right.whole;
      },
      refl,
    )
