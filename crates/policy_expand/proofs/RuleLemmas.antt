-- The rows of a written rule match as the rule does.
use Rattle.std.proofs.Common.{arith, get_or, ◌≡◌, ℕ, List, [], ◌∷◌, map, refl, sym, ap, ◌∙◌, subst, inl, inr, true, not, codes, Some}
use Rattle.packet_view.specs.Tuples.{TupleFacts}
use Rattle.packet_view.specs.declared.tuple.Direction.{Direction}
use Rattle.packet_view.specs.declared.tuple.Family.{Family}
use Rattle.packet_view.specs.declared.tuple.Family.TheVariants.{V4, V6}
use Rattle.packet_view.specs.declared.tuple.Fields.{Fields}
use Rattle.packet_view.specs.declared.tuple.Fields.TheVariants.{Absent, Ports, Tcp, Icmp}
use Rattle.acl_policy.specs.declared.rule.Action.{Action}
use Rattle.acl_policy.specs.Lines.{action_word, direction_word, family_word, traffic_of}
use Rattle.acl_policy.specs.Matching.{HasFields, HoldsProtocol}
use Rattle.acl_policy.specs.Rules.{RuleFacts}
use Rattle.acl_policy.specs.Prefixes.{IsPrefix}
use Rattle.acl_policy.specs.Traffic.{IsTraffic}
use Rattle.acl_policy.specs.inner.WordReading.Prefixes.{prefix_in}
use Rattle.acl_policy.proofs.PrefixLaws.{prefix_in-complete}
use Rattle.policy_expand.specs.Families.{is_of_other, kept}
use Rattle.policy_expand.specs.Meaning.{AreChosen, IsOneOf, MatchAlike, MatchesPlain, MatchesWritten}
use Rattle.policy_expand.specs.Written.{AreFamilies, Rule, RuleWritten, word_text}
use Rattle.policy_expand.specs.Rows.{family_rows, rule_rows, rows_by_family}
use Rattle.policy_expand.specs.declared.visible_word.Word.{Word}
use Rattle.policy_expand.proofs.RowLemmas.{in_rows, one_of-append, one_of-filter, one_of-kept, one_of-left, one_of-right, to_rows}

-- a row of a family has a source, a destination and a word of each other list
record IsFamilyRow (rule : RuleWritten) (family : Word) (sources dests row : List Word) : Type 0 where
  source : Word
  dest : Word
  words : List Word
  one_source : IsOneOf source sources
  one_dest : IsOneOf dest dests
  chosen : AreChosen rule.rest words
  stand : row ≡ rule.direction ∷ rule.action ∷ family ∷ source ∷ dest ∷ words

in_family : (rule : RuleWritten) (family : Word) (sources dests row : List Word) → IsOneOf row (family_rows rule family sources dests)
    → IsFamilyRow rule family sources dests row
in_family rule family sources dests row h =
    let head : List Word = rule.direction ∷ rule.action ∷ family ∷ [] in
    let (front, rest, is, (source, later, first, one, (dest, words, second, other, chosen)), split) =
    in_rows (head ∷ []) (sources ∷ dests ∷ rule.rest) row h in
    let begins : front ≡ head = elim is [ inl e ↦ e | inr none ↦ absurd none ] in
    record {
      source = source;
      dest = dest;
      words = words;
      one_source = one;
      one_dest = other;
      chosen = chosen;
      stand = cc;
    }

to_family : (rule : RuleWritten) (family source dest : Word) (sources dests words : List Word) → IsOneOf source sources → IsOneOf dest dests
    → AreChosen rule.rest words → IsOneOf (rule.direction ∷ rule.action ∷ family ∷ source ∷ dest ∷ words) (family_rows rule family sources dests)
to_family rule family source dest sources dests words one other chosen =
    to_rows ((rule.direction ∷ rule.action ∷ family ∷ []) ∷ []) (sources ∷ dests ∷ rule.rest) (rule.direction ∷ rule.action ∷ family ∷ [])
    (source ∷ dest ∷ words) (inl refl) (source, dest ∷ words, refl, one, (dest, words, refl, other, chosen))

-- a row that matches shows that the written rule does
row_matches : (rule : RuleWritten) (family : Word) (sources dests row : List Word) (direction : Direction) (tuple : TupleFacts) (action : Action)
    → IsFamilyRow rule family sources dests row → IsOneOf family rule.families
    → ((word : Word) → IsOneOf word sources → IsOneOf word rule.sources) → ((word : Word) → IsOneOf word dests → IsOneOf word rule.dests)
    → MatchesPlain (map word_text row) direction tuple action → MatchesWritten rule direction tuple action
row_matches rule family sources dests row direction tuple action is one more_sources more_dests
    (plain, (source, dest, rest, said, source_is, dest_is, traffic_is), (same, source_holds, dest_holds, holds), action_same) =
    let words : map word_text row ≡ word_text rule.direction ∷ word_text rule.action ∷ word_text family ∷ word_text is.source ∷ word_text is.dest ∷ map word_text is.words =
    ap (map word_text) is.stand in
    let both : direction_word direction ∷ action_word plain.action ∷ family_word plain.family ∷ source ∷ dest ∷ rest
    ≡ word_text rule.direction ∷ word_text rule.action ∷ word_text family ∷ word_text is.source ∷ word_text is.dest ∷ map word_text is.words =
    sym said ∙ words in
    let direction_same : direction_word direction ≡ word_text rule.direction = cc in
    let action_word_same : action_word plain.action ≡ word_text rule.action = cc in
    let family_same : family_word plain.family ≡ word_text family = cc in
    let source_same : source ≡ word_text is.source = cc in
    let dest_same : dest ≡ word_text is.dest = cc in
    let rest_same : rest ≡ map word_text is.words = cc in
    record {
      direction_is = sym direction_same;
      action_is = sym action_word_same ∙ ap action_word (sym action_same);
      family = (family, one, sym family_same ∙ ap family_word same);
      source = (
        is.source,
        plain.source,
        more_sources is.source is.one_source,
        subst (λ (f : Family). IsPrefix f (word_text is.source) plain.source) same (subst (λ (w : List ℕ). IsPrefix plain.family w plain.source) source_same source_is),
        source_holds,
      );
      dest = (
        is.dest,
        plain.dest,
        more_dests is.dest is.one_dest,
        subst (λ (f : Family). IsPrefix f (word_text is.dest) plain.dest) same (subst (λ (w : List ℕ). IsPrefix plain.family w plain.dest) dest_same dest_is),
        dest_holds,
      );
      traffic = (
        is.words,
        plain,
        is.chosen,
        subst (λ (f : Family). IsTraffic f (map word_text is.words) (traffic_of plain)) same
            (subst (λ (ws : List (List ℕ)). IsTraffic plain.family ws (traffic_of plain)) rest_same traffic_is),
        holds,
      );
    }

long_row : (rule : RuleWritten) (family : Word) (sources dests row : List Word) → IsOneOf row (family_rows rule family sources dests)
    → (a b c : Word) × (more : List Word) × (row ≡ a ∷ b ∷ c ∷ more)
long_row rule family sources dests row one =
    let is = in_family rule family sources dests row one in
    (rule.direction, rule.action, family, is.source ∷ is.dest ∷ is.words, is.stand)

-- a rule with these addresses, and beyond them as another one
abbrev with_ends : RuleFacts → Action → Family → ℕ × ℕ → ℕ × ℕ → RuleFacts
with_ends plain action family source dest = record {
  action = action;
  family = family;
  source = source;
  dest = dest;
  proto = plain.proto;
  first = plain.first;
  second = plain.second;
  value = plain.value;
  mask = plain.mask;
}

same_fields : (plain : RuleFacts) (action : Action) (family : Family) (source dest : ℕ × ℕ) (fields : Fields) → HasFields plain fields
    → HasFields (with_ends plain action family source dest) fields
same_fields plain action family source dest Absent h = h
same_fields plain action family source dest (Ports from to) h = h
same_fields plain action family source dest (Tcp from to flags) h = h
same_fields plain action family source dest (Icmp kind code) h = h

same_protocol : (plain : RuleFacts) (action : Action) (family : Family) (source dest : ℕ × ℕ) (tuple : TupleFacts) → HoldsProtocol plain tuple
    → HoldsProtocol (with_ends plain action family source dest) tuple
same_protocol plain action family source dest tuple (inl any) = inl any
same_protocol plain action family source dest tuple (inr (is, fields)) =
    inr (is, same_fields plain action family source dest tuple.fields fields)

-- where a written rule matches, the row of the words that hold does
matching_row : (rule : RuleWritten) (direction : Direction) (tuple : TupleFacts) (action : Action) (family : Word) → word_text family ≡ family_word tuple.family
    → (h : MatchesWritten rule direction tuple action)
    → MatchesPlain (map word_text (rule.direction ∷ rule.action ∷ family ∷ h.source.0 ∷ h.dest.0 ∷ h.traffic.0)) direction tuple action
matching_row rule direction tuple action family is h =
    let plain = h.traffic.1 in
    let source = h.source.1 in
    let dest = h.dest.1 in
    let one : word_text rule.direction ≡ direction_word direction = h.direction_is in
    let two : word_text rule.action ≡ action_word action = h.action_is in (
      with_ends plain action tuple.family source dest,
      (word_text h.source.0, word_text h.dest.0, map word_text h.traffic.0, cc, h.source.3, h.dest.3, h.traffic.3),
      (refl, h.source.4, h.dest.4, same_protocol plain action tuple.family source dest tuple h.traffic.4),
      refl,
    )

-- a prefix of a family isn't left to the other
stays : (family : Family) (word : Word) (prefix : ℕ × ℕ) → IsPrefix family (word_text word) prefix → not (is_of_other family (word_text word)) ≡ true
stays family word prefix is =
    let read : prefix_in family (word_text word) ≡ Some prefix = prefix_in-complete family (word_text word) prefix is in
    rw read refl

one_stays : (family : Family) (word : Word) (words : List Word) (prefix : ℕ × ℕ) → IsPrefix family (word_text word) prefix → IsOneOf word words
    → IsOneOf word (kept family words)
one_stays family word words prefix is one =
    one_of-filter (λ (w : Word). not (is_of_other family (word_text w))) word words (stays family word prefix is) one

fewer : (family : Family) (words : List Word) (word : Word) → IsOneOf word (kept family words) → IsOneOf word words
fewer family words word h = one_of-kept (λ (w : Word). not (is_of_other family (word_text w))) word words h

four_only : (family : Family) → codes "ipv4" ≡ family_word family → family ≡ V4
four_only V4 e = refl
four_only V6 e = absurd (omega (arith, ap (λ (word : List ℕ). get_or word 3 0) e))

six_only : (family : Family) → codes "ipv6" ≡ family_word family → family ≡ V6
six_only V4 e = absurd (omega (arith, ap (λ (word : List ℕ). get_or word 3 0) e))
six_only V6 e = refl

alike_in_both : (rule : RuleWritten) (four six : Word) → rule.families ≡ four ∷ six ∷ [] → word_text four ≡ codes "ipv4" → word_text six ≡ codes "ipv6"
    → MatchAlike (Rule rule) (rows_by_family rule (four ∷ six ∷ []))
alike_in_both rule four six families four_is six_is =
    let fours : List (List Word) = family_rows rule four (kept V4 rule.sources) (kept V4 rule.dests) in
    let sixes : List (List Word) = family_rows rule six (kept V6 rule.sources) (kept V6 rule.dests) in
    record {
      sound = λ row direction tuple action there matches. elim (one_of-append row fours sixes there) [
        | inl h ↦ row_matches rule four (kept V4 rule.sources) (kept V4 rule.dests) row direction tuple action
            (in_family rule four (kept V4 rule.sources) (kept V4 rule.dests) row h)
            (subst (λ (ws : List Word). IsOneOf four ws) (sym families) (inl refl)) (fewer V4 rule.sources) (fewer V4 rule.dests) matches
        | inr h ↦ row_matches rule six (kept V6 rule.sources) (kept V6 rule.dests) row direction tuple action
            (in_family rule six (kept V6 rule.sources) (kept V6 rule.dests) row h)
            (subst (λ (ws : List Word). IsOneOf six ws) (sym families) (inr (inl refl))) (fewer V6 rule.sources) (fewer V6 rule.dests) matches
      ];
      whole = λ direction tuple action h.
          let among : IsOneOf h.family.0 (four ∷ six ∷ []) = subst (λ (ws : List Word). IsOneOf h.family.0 ws) families h.family.1 in
          elim among [
            | inl first ↦
                let is : word_text four ≡ family_word tuple.family = ap word_text (sym first) ∙ h.family.2 in
                let v4 : tuple.family ≡ V4 = four_only tuple.family (sym four_is ∙ is) in (
                  rule.direction ∷ rule.action ∷ four ∷ h.source.0 ∷ h.dest.0 ∷ h.traffic.0,
                  one_of-left _ fours sixes (to_family rule four h.source.0 h.dest.0 (kept V4 rule.sources) (kept V4 rule.dests) h.traffic.0
                      (one_stays V4 h.source.0 rule.sources h.source.1 (subst (λ (f : Family). IsPrefix f (word_text h.source.0) h.source.1) v4 h.source.3) h.source.2)
                      (one_stays V4 h.dest.0 rule.dests h.dest.1 (subst (λ (f : Family). IsPrefix f (word_text h.dest.0) h.dest.1) v4 h.dest.3) h.dest.2)
                      h.traffic.2),
                  matching_row rule direction tuple action four is h,
                )
            | inr later ↦ elim later [
              | inl second ↦
                  let is : word_text six ≡ family_word tuple.family = ap word_text (sym second) ∙ h.family.2 in
                  let v6 : tuple.family ≡ V6 = six_only tuple.family (sym six_is ∙ is) in (
                    rule.direction ∷ rule.action ∷ six ∷ h.source.0 ∷ h.dest.0 ∷ h.traffic.0,
                    one_of-right _ fours sixes (to_family rule six h.source.0 h.dest.0 (kept V6 rule.sources) (kept V6 rule.dests) h.traffic.0
                        (one_stays V6 h.source.0 rule.sources h.source.1 (subst (λ (f : Family). IsPrefix f (word_text h.source.0) h.source.1) v6 h.source.3) h.source.2)
                        (one_stays V6 h.dest.0 rule.dests h.dest.1 (subst (λ (f : Family). IsPrefix f (word_text h.dest.0) h.dest.1) v6 h.dest.3) h.dest.2)
                        h.traffic.2),
                    matching_row rule direction tuple action six is h,
                  )
              | inr none ↦ absurd none
            ]
          ];
    }

alike_in_one : (rule : RuleWritten) (family : Word) → rule.families ≡ family ∷ [] → MatchAlike (Rule rule) (rows_by_family rule (family ∷ []))
alike_in_one rule family families = record {
  sound = λ row direction tuple action there matches. row_matches rule family rule.sources rule.dests row direction tuple action
      (in_family rule family rule.sources rule.dests row there) (subst (λ (ws : List Word). IsOneOf family ws) (sym families) (inl refl))
      (λ word one. one) (λ word one. one) matches;
  whole = λ direction tuple action h.
      let among : IsOneOf h.family.0 (family ∷ []) = subst (λ (ws : List Word). IsOneOf h.family.0 ws) families h.family.1 in
      elim among [
        | inl first ↦ (
          rule.direction ∷ rule.action ∷ family ∷ h.source.0 ∷ h.dest.0 ∷ h.traffic.0,
          to_family rule family h.source.0 h.dest.0 rule.sources rule.dests h.traffic.0 h.source.2 h.dest.2 h.traffic.2,
          matching_row rule direction tuple action family (ap word_text (sym first) ∙ h.family.2) h,
        )
        | inr none ↦ absurd none
      ];
}

-- a row of a rule has three words and more
pub long_rows : (rule : RuleWritten) (families row : List Word) → IsOneOf row (rows_by_family rule families)
    → (a b c : Word) × (more : List Word) × (row ≡ a ∷ b ∷ c ∷ more)
long_rows rule [] row none = absurd none
long_rows rule (family ∷ []) row one = long_row rule family rule.sources rule.dests row one
long_rows rule (first ∷ second ∷ []) row one =
    let fours : List (List Word) = family_rows rule first (kept V4 rule.sources) (kept V4 rule.dests) in
    let sixes : List (List Word) = family_rows rule second (kept V6 rule.sources) (kept V6 rule.dests) in
    elim (one_of-append row fours sixes one) [
      | inl h ↦ long_row rule first (kept V4 rule.sources) (kept V4 rule.dests) row h
      | inr h ↦ long_row rule second (kept V6 rule.sources) (kept V6 rule.dests) row h
    ]
long_rows rule (first ∷ second ∷ third ∷ more) row none = absurd none

-- two words with these texts
two_words : (families : List Word) → map word_text families ≡ codes "ipv4" ∷ codes "ipv6" ∷ []
    → (four six : Word) × (families ≡ four ∷ six ∷ []) × (word_text four ≡ codes "ipv4") × (word_text six ≡ codes "ipv6")
two_words [] e = absurd (cc)
two_words (a ∷ []) e = absurd (cc)
two_words (a ∷ b ∷ []) e = (a, b, refl, cc, cc)
two_words (a ∷ b ∷ c ∷ more) e = absurd (cc)

-- the rows of a written rule match as it does
pub rule_alike : (rule : RuleWritten) (word : Word) → AreFamilies word rule.families → MatchAlike (Rule rule) (rule_rows rule)
rule_alike rule word (inl (ip, both)) =
    let (four, six, families, four_is, six_is) = two_words rule.families both in
    subst (λ (ws : List Word). MatchAlike (Rule rule) (rows_by_family rule ws)) (sym families) (alike_in_both rule four six families four_is six_is)
rule_alike rule word (inr (other, alone)) =
    subst (λ (ws : List Word). MatchAlike (Rule rule) (rows_by_family rule ws)) (sym alone) (alike_in_one rule word alone)
