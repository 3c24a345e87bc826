use Rattle.std.proofs.Common.{◌++◌, ◌∙◌, List, ℕ, ap, ap₂, map, refl, subst, sym}
use Rattle.policy_expand.specs.Meaning.{MatchAlike}
use Rattle.policy_expand.specs.Sections.{BeginAlike}
use Rattle.policy_expand.specs.Sources.{source_facts}
use Rattle.policy_expand.specs.Texts.{place_mark, plain_text}
use Rattle.policy_expand.specs.Written.{LineWritten, list_words}
use Rattle.policy_expand.specs.WrittenLines.{line_written}
use Rattle.policy_expand.specs.declared.visible_word.Word.{Word}
use Rattle.policy_expand.specs.declared.visible_word.WordList.{WordList}
use Rattle.policy_expand.proofs.LineLemmas.{line_alike, line_begins}
use Rattle.policy_expand.proofs.expansion.expand_line.Goals as goal

pub returns : goal.returns
returns c =
    let said : LineWritten = line_written c.in_ok-written.written in
    let rows : List (List Word) = map list_words c.in_ok-rows.rows.items in
    let mark : List ℕ = place_mark (source_facts c.args.line.now) in (
      said,
      rows,
      plain_text mark rows,
      c.in_ok-push_plain_lines.ensures
          ∙ ap (λ (t : List ℕ). c.args.text.now.items ++ t) (ap₂ (λ (m : List ℕ) (rs : List WordList). plain_text m (map list_words rs))
          (c.as_slice-2.ensures.value ∙ c.in_ok-mark.ensures) c.as_slice.ensures.value),
      record {
        words = c.in_ok-words.words.items;
        said = c.in_ok-words.ensures;
        read = c.in_ok-written.ensures;
        stands = sym c.in_ok-rows.ensures.rows;
        icmp = c.in_ok-rows.ensures.icmp;
        alike = subst (λ (rs : List (List Word)). MatchAlike said rs) c.in_ok-rows.ensures.rows
            (line_alike c.args.sets.now.items c.in_ok-words.words.items said c.read_written_words.new.sets.items c.in_ok-written.ensures);
        begin = subst (λ (rs : List (List Word)). BeginAlike said rs) c.in_ok-rows.ensures.rows (line_begins said);
        spells = refl;
      },
    )
