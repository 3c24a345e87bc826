use Rattle.std.proofs.Common.{◌∙◌, ◌++◌, ℕ, List, append_assoc, ap, codes, decimal, refl, sym}
use Rattle.racl_io.specs.Reports.{name_of, text_of}
use Rattle.racl_views.specs.ExplainedLines.{head_of}
use Rattle.racl_views.proofs.explained_line_and_json_laws.explained_lines_begin_as_the_report.Goals as goal

pub returns : goal.returns
returns c = λ texts named n entry.
    let verdict = text_of entry.verdict in
    let feed = codes "\n" in
    let same = ap (λ (t : List ℕ). decimal n ++ (codes " " ++ t)) (sym (append_assoc (name_of named) verdict feed))
    ∙ sym (append_assoc (decimal n) (codes " " ++ (name_of named ++ verdict)) feed) in
    (head_of named n entry.verdict, _, same, refl)
