-- What the lines so far say, and what one more adds.
use Rattle.std.proofs.Common.{◌≡◌, ℕ, ◌+◌, ◌<◌, ◌≤◌, false, List, [], ◌∷◌, ◌++◌, length, length-take-le, take, drop, get_or, Option, Some, None, Result, Ok, Err, refl, sym, ap, ◌∙◌, subst, arith, ◌⊎◌, inl, inr}
use Rattle.std.specs.Prelude.{is_some, nat_le}
use Rattle.std.specs.List.{cons_option, filter_map}
use Rattle.std.proofs.lemmas.Bool.{cases_Bool, leb-false, leb-true}
use Rattle.std.proofs.Math.Nat.{le_antisymm}
use Rattle.std.proofs.lemmas.List.{append-nil, append_assoc, length-append, take-append-drop, take_more}
use Rattle.std.proofs.lemmas.List.Elements.{filter_map-append}
use Rattle.packet_view.specs.declared.tuple.Direction.{Direction}
use Rattle.packet_view.specs.declared.tuple.Direction.TheVariants.{Inbound, Outbound}
use Rattle.packet_view.specs.declared.tuple.Mac.{Mac}
use Rattle.acl_policy.specs.declared.policy.PolicyFault.{PolicyFault}
use Rattle.acl_policy.specs.declared.policy.PolicyFault.TheVariants.{Memory, NotUtf8, BadLine, TooMany}
use Rattle.acl_policy.specs.Lines.{Begins, Blank, IsLine, LineFacts, Own, Ruled}
use Rattle.acl_policy.specs.Policies.{AreLines, IsOnly, IsSurplus, IsWrong, PolicyFacts, AreLinesOf, SayPolicy, SectionFacts, begun_in, empty_section, numbers_of, own_in, rule_in, rules_of}
use Rattle.acl_policy.specs.inner.Reading.Lines.{line_in}
use Rattle.acl_policy.specs.inner.Reading.Policies.{DraftFacts, Fails, LinesFail, is_among, line_added, policy_so_far, rule_added, with_inbound, with_outbound}
use Rattle.acl_policy.specs.Rules.{RuleFacts, most_rules}
use Rattle.acl_policy.proofs.LineLaws.{line_in-complete, line_in-sound}
use Rattle.acl_policy.proofs.SectionLemmas.{among_false, among_true, begun_after, grown, last_says}

AreLines-push : (texts : List (List ℕ)) (readings : List LineFacts) (line : List ℕ) (reading : LineFacts)
    → AreLines texts readings → IsLine line reading → AreLines (texts ++ line ∷ []) (readings ++ reading ∷ [])
AreLines-push [] [] line reading are is = (is, tt)
AreLines-push [] (r ∷ rs) line reading are is = absurd are
AreLines-push (t ∷ ts) [] line reading are is = absurd are
AreLines-push (t ∷ ts) (r ∷ rs) line reading are is = (are.0, AreLines-push ts rs line reading are.1 is)

-- the rules and the own address of one line more
more_rules : (direction : Direction) (rules : List RuleFacts) (readings : List LineFacts) (reading : LineFacts)
    → rules ≡ filter_map (rule_in direction) readings
    → rules ++ cons_option (rule_in direction reading) [] ≡ filter_map (rule_in direction) (readings ++ reading ∷ [])
more_rules direction rules readings reading are =
    ap (λ (rs : List RuleFacts). rs ++ cons_option (rule_in direction reading) []) are ∙ sym (filter_map-append (rule_in direction) readings (reading ∷ []))

-- a line that begins no section leaves one section
still_one : (readings : List LineFacts) (reading : LineFacts) → begun_in reading ≡ None
    → filter_map begun_in readings ≡ [] → filter_map begun_in (readings ++ reading ∷ []) ≡ []
still_one readings reading none one =
    filter_map-append begun_in readings (reading ∷ [])
    ∙ ap (λ (ns : List ℕ). ns ++ cons_option (begun_in reading) []) one
    ∙ ap (λ (n : Option ℕ). cons_option n []) none

-- One line more, with what it says of the section.
AreLinesOf-push : (texts : List (List ℕ)) (line : List ℕ) (reading : LineFacts) (section next : SectionFacts) → (reads : AreLinesOf texts section) → IsLine line reading
    → begun_in reading ≡ None → IsOnly (filter_map own_in (reads.readings ++ reading ∷ [])) next.own
    → next.inbound ≡ section.inbound ++ cons_option (rule_in Inbound reading) []
    → next.outbound ≡ section.outbound ++ cons_option (rule_in Outbound reading) []
    → length next.inbound ≤ most_rules → length next.outbound ≤ most_rules → AreLinesOf (texts ++ line ∷ []) next
AreLinesOf-push texts line reading section next reads is none own inbound outbound inbound_fits outbound_fits = record {
  readings = reads.readings ++ reading ∷ [];
  lines = AreLines-push texts reads.readings line reading reads.lines is;
  one = still_one reads.readings reading none reads.one;
  own = own;
  inbound = inbound ∙ more_rules Inbound section.inbound reads.readings reading reads.inbound;
  outbound = outbound ∙ more_rules Outbound section.outbound reads.readings reading reads.outbound;
  inbound_fits = inbound_fits;
  outbound_fits = outbound_fits;
}

-- a line that names no own address leaves it
same_own : (own : Option Mac) (readings : List LineFacts) (reading : LineFacts) → own_in reading ≡ None
    → IsOnly (filter_map own_in readings) own → IsOnly (filter_map own_in (readings ++ reading ∷ [])) own
same_own own readings reading none only =
    let same : filter_map own_in (readings ++ reading ∷ []) ≡ filter_map own_in readings =
    filter_map-append own_in readings (reading ∷ []) ∙ ap (λ (o : Option Mac). filter_map own_in readings ++ cons_option o []) none ∙ append-nil (filter_map own_in readings) in
    subst (λ (macs : List Mac). IsOnly macs own) (sym same) only

first_own : (own : Option Mac) (readings : List LineFacts) (mac : Mac) → is_some own ≡ false
    → IsOnly (filter_map own_in readings) own → filter_map own_in (readings ++ Own mac ∷ []) ≡ mac ∷ []
first_own None readings mac none only = filter_map-append own_in readings (Own mac ∷ []) ∙ ap (λ (macs : List Mac). macs ++ mac ∷ []) only
first_own (Some other) readings mac none only = absurd (cc)

-- the rules of a direction with one more
rule_added-ok : (number : ℕ) (rules next : List RuleFacts) (rule : RuleFacts) → rule_added number rules rule ≡ Ok next
    → (next ≡ rules ++ rule ∷ []) × (length next ≤ most_rules)
unfolding rule_added
rule_added-ok number rules next rule added = elim (cases_Bool (nat_le most_rules (length rules))) [
  | inl full ↦
      let fault : rule_added number rules rule ≡ Err (TooMany number) = rw full refl in
      absurd (cc)
  | inr room ↦
      let more : rule_added number rules rule ≡ Ok (rules ++ rule ∷ []) = rw room refl in
      let same : next ≡ rules ++ rule ∷ [] = cc in
      let few : length rules < most_rules = leb-false most_rules (length rules) room in
      (same, rw same (omega (arith, length-append rules (rule ∷ []))))
]

rule_added-err : (number : ℕ) (rules : List RuleFacts) (rule : RuleFacts) (fault : PolicyFault) → rule_added number rules rule ≡ Err fault
    → (fault ≡ TooMany number) × (most_rules ≤ length rules)
unfolding rule_added
rule_added-err number rules rule fault added = elim (cases_Bool (nat_le most_rules (length rules))) [
  | inl full ↦
      let many : rule_added number rules rule ≡ Err (TooMany number) = rw full refl in
      (cc, leb-true most_rules (length rules) full)
  | inr room ↦
      let more : rule_added number rules rule ≡ Ok (rules ++ rule ∷ []) = rw room refl in
      absurd (cc)
]

with_inbound-ok : (draft next : DraftFacts) (rules : Result (List RuleFacts) PolicyFault) → with_inbound draft rules ≡ Ok next
    → (inbound : List RuleFacts) × (rules ≡ Ok inbound) × (next ≡ record { done = draft.done; current = record draft.current { inbound = inbound } })
with_inbound-ok draft next (Ok inbound) added = (inbound, refl, cc)
with_inbound-ok draft next (Err fault) added = absurd (cc)

with_outbound-ok : (draft next : DraftFacts) (rules : Result (List RuleFacts) PolicyFault) → with_outbound draft rules ≡ Ok next
    → (outbound : List RuleFacts) × (rules ≡ Ok outbound) × (next ≡ record { done = draft.done; current = record draft.current { outbound = outbound } })
with_outbound-ok draft next (Ok outbound) added = (outbound, refl, cc)
with_outbound-ok draft next (Err fault) added = absurd (cc)

with_inbound-err : (draft : DraftFacts) (rules : Result (List RuleFacts) PolicyFault) (fault : PolicyFault) → with_inbound draft rules ≡ Err fault → rules ≡ Err fault
with_inbound-err draft (Ok inbound) fault added = absurd (cc)
with_inbound-err draft (Err other) fault added = cc

with_outbound-err : (draft : DraftFacts) (rules : Result (List RuleFacts) PolicyFault) (fault : PolicyFault) → with_outbound draft rules ≡ Err fault → rules ≡ Err fault
with_outbound-err draft (Ok outbound) fault added = absurd (cc)
with_outbound-err draft (Err other) fault added = cc

-- What is added to the policy of some lines is what one line more says.
line_added-ok : (number : ℕ) (texts : List (List ℕ)) (line : List ℕ) (draft next : DraftFacts) (said : Option LineFacts)
    → line_in line ≡ said → SayPolicy texts (policy_so_far draft) → line_added number draft said ≡ Ok next
    → SayPolicy (texts ++ line ∷ []) (policy_so_far next)
line_added-ok number texts line draft next None found reads added = absurd (cc)
line_added-ok number texts line draft next (Some Blank) found reads added =
    let section = draft.current in
    let same : draft ≡ next = cc in
    subst (λ (d : DraftFacts). SayPolicy (texts ++ line ∷ []) (policy_so_far d)) same
    (grown texts line draft.done section section refl
    (λ ls of. AreLinesOf-push ls line Blank section section of (line_in-sound line Blank found) refl (same_own section.own of.readings Blank refl of.own)
    (sym (append-nil section.inbound)) (sym (append-nil section.outbound)) of.inbound_fits of.outbound_fits) reads)
line_added-ok number texts line draft next (Some (Begins interface)) found reads added =
    let sections = (policy_so_far draft).sections in
    elim (cases_Bool (is_among interface (numbers_of sections))) [
      | inl second ↦
          let fault : line_added number draft (Some (Begins interface)) ≡ Err (BadLine number) = rw second refl in
          absurd (cc)
      | inr first ↦
          let begun : line_added number draft (Some (Begins interface)) ≡ Ok (record { done = sections; current = empty_section interface }) = rw first refl in
          let same : record { done = sections; current = empty_section interface } ≡ next = cc in
          subst (λ (d : DraftFacts). SayPolicy (texts ++ line ∷ []) (policy_so_far d)) same
          (begun_after texts line sections interface (line_in-sound line (Begins interface) found) (among_false interface (numbers_of sections) first) reads)
    ]
line_added-ok number texts line draft next (Some (Own mac)) found reads added =
    let section = draft.current in
    let named : SectionFacts = record section { own = Some mac } in
    elim (cases_Bool (is_some section.own)) [
      | inl second ↦
          let fault : line_added number draft (Some (Own mac)) ≡ Err (BadLine number) = rw second refl in
          absurd (cc)
      | inr none ↦
          let is_named : line_added number draft (Some (Own mac)) ≡ Ok (record { done = draft.done; current = named }) = rw none refl in
          let same : record { done = draft.done; current = named } ≡ next = cc in
          subst (λ (d : DraftFacts). SayPolicy (texts ++ line ∷ []) (policy_so_far d)) same
          (grown texts line draft.done section named refl
          (λ ls of. AreLinesOf-push ls line (Own mac) section named of (line_in-sound line (Own mac) found) refl (first_own section.own of.readings mac none of.own)
          (sym (append-nil section.inbound)) (sym (append-nil section.outbound)) of.inbound_fits of.outbound_fits) reads)
    ]
line_added-ok number texts line draft next (Some (Ruled Inbound rule)) found reads added =
    let section = draft.current in
    let more = with_inbound-ok draft next (rule_added number section.inbound rule) added in
    let rules = rule_added-ok number section.inbound more.0 rule more.1 in
    subst (λ (d : DraftFacts). SayPolicy (texts ++ line ∷ []) (policy_so_far d)) (sym more.2)
    (grown texts line draft.done section (record section { inbound = more.0 }) refl
    (λ ls of. AreLinesOf-push ls line (Ruled Inbound rule) section (record section { inbound = more.0 }) of (line_in-sound line (Ruled Inbound rule) found) refl
    (same_own section.own of.readings (Ruled Inbound rule) refl of.own) rules.0 (sym (append-nil section.outbound)) rules.1 of.outbound_fits) reads)
line_added-ok number texts line draft next (Some (Ruled Outbound rule)) found reads added =
    let section = draft.current in
    let more = with_outbound-ok draft next (rule_added number section.outbound rule) added in
    let rules = rule_added-ok number section.outbound more.0 rule more.1 in
    subst (λ (d : DraftFacts). SayPolicy (texts ++ line ∷ []) (policy_so_far d)) (sym more.2)
    (grown texts line draft.done section (record section { outbound = more.0 }) refl
    (λ ls of. AreLinesOf-push ls line (Ruled Outbound rule) section (record section { outbound = more.0 }) of (line_in-sound line (Ruled Outbound rule) found) refl
    (same_own section.own of.readings (Ruled Outbound rule) refl of.own) (sym (append-nil section.inbound)) rules.0 of.inbound_fits rules.1) reads)

pub SayPolicy-line_added : (number : ℕ) (texts : List (List ℕ)) (line : List ℕ) (draft next : DraftFacts)
    → SayPolicy texts (policy_so_far draft) → line_added number draft (line_in line) ≡ Ok next → SayPolicy (texts ++ line ∷ []) (policy_so_far next)
SayPolicy-line_added number texts line draft next reads added = line_added-ok number texts line draft next (line_in line) refl reads added

-- the fault of a line after a policy
abbrev pub IsFaultAt : PolicyFault → PolicyFacts → List ℕ → ℕ → Type 0
IsFaultAt fault policy line number = ((fault ≡ BadLine number) × IsWrong policy line) ⊎ ((fault ≡ TooMany number) × IsSurplus policy line)

full : (lines : List (List ℕ)) (section : SectionFacts) → AreLinesOf lines section → (direction : Direction) → most_rules ≤ length (rules_of direction section)
    → length (rules_of direction section) ≡ most_rules
full lines section of Inbound many = le_antisymm of.inbound_fits many
full lines section of Outbound many = le_antisymm of.outbound_fits many

pub line_added-err : (number : ℕ) (texts : List (List ℕ)) (line : List ℕ) (draft : DraftFacts) (fault : PolicyFault) (said : Option LineFacts)
    → line_in line ≡ said → SayPolicy texts (policy_so_far draft) → line_added number draft said ≡ Err fault → IsFaultAt fault (policy_so_far draft) line number
line_added-err number texts line draft fault None found reads added =
    inl (cc, inl (λ reading is. let other = line_in-complete line reading is in cc))
line_added-err number texts line draft fault (Some Blank) found reads added = absurd (cc)
line_added-err number texts line draft fault (Some (Begins interface)) found reads added =
    let sections = (policy_so_far draft).sections in
    elim (cases_Bool (is_among interface (numbers_of sections))) [
      | inl second ↦
          let wrong : line_added number draft (Some (Begins interface)) ≡ Err (BadLine number) = rw second refl in
          inl (cc, inr (inr (interface, line_in-sound line (Begins interface) found, among_true interface (numbers_of sections) second)))
      | inr first ↦
          let begun : line_added number draft (Some (Begins interface)) ≡ Ok (record { done = sections; current = empty_section interface }) = rw first refl in
          absurd (cc)
    ]
line_added-err number texts line draft fault (Some (Own mac)) found reads added = elim (cases_Bool (is_some draft.current.own)) [
  | inl second ↦
      let wrong : line_added number draft (Some (Own mac)) ≡ Err (BadLine number) = rw second refl in
      inl (cc, inr (inl (mac, draft.current, line_in-sound line (Own mac) found, (draft.done, refl), second)))
  | inr none ↦
      let named : line_added number draft (Some (Own mac)) ≡ Ok (record { done = draft.done; current = record draft.current { own = Some mac } }) = rw none refl in
      absurd (cc)
]
line_added-err number texts line draft fault (Some (Ruled Inbound rule)) found reads added =
    let many = rule_added-err number draft.current.inbound rule fault (with_inbound-err draft (rule_added number draft.current.inbound rule) fault added) in
    let (lines, of) = last_says texts draft.done draft.current reads in
    inr (many.0, (Inbound, rule, draft.current, line_in-sound line (Ruled Inbound rule) found, (draft.done, refl), full lines draft.current of Inbound many.1))
line_added-err number texts line draft fault (Some (Ruled Outbound rule)) found reads added =
    let many = rule_added-err number draft.current.outbound rule fault (with_outbound-err draft (rule_added number draft.current.outbound rule) fault added) in
    let (lines, of) = last_says texts draft.done draft.current reads in
    inr (many.0, (Outbound, rule, draft.current, line_in-sound line (Ruled Outbound rule) found, (draft.done, refl), full lines draft.current of Outbound many.1))

LinesFail_from : (texts before after : List (List ℕ)) (line : List ℕ) (policy : PolicyFacts) (fault : PolicyFault) (number : ℕ)
    → texts ≡ before ++ line ∷ after → number ≡ length before + 1 → SayPolicy before policy → IsFaultAt fault policy line number → LinesFail texts fault
LinesFail_from texts before after line policy fault number split counted reads (inl wrong) =
    subst (λ (f : PolicyFault). LinesFail texts f) (sym wrong.0) (before, line, after, policy, split, counted, reads, wrong.1)
LinesFail_from texts before after line policy fault number split counted reads (inr surplus) =
    subst (λ (f : PolicyFault). LinesFail texts f) (sym surplus.0) (before, line, after, policy, split, counted, reads, surplus.1)

pub LinesFail-line_added : (texts before after : List (List ℕ)) (line : List ℕ) (draft : DraftFacts) (fault : PolicyFault) (number : ℕ)
    → texts ≡ before ++ line ∷ after → number ≡ length before + 1 → SayPolicy before (policy_so_far draft)
    → Fails (line_added number draft (line_in line)) fault → LinesFail texts fault
LinesFail-line_added texts before after line draft Memory number split counted reads fails = tt
LinesFail-line_added texts before after line draft NotUtf8 number split counted reads fails =
    LinesFail_from texts before after line (policy_so_far draft) NotUtf8 number split counted reads (line_added-err number before line draft NotUtf8 (line_in line) refl reads fails)
LinesFail-line_added texts before after line draft (BadLine n) number split counted reads fails =
    LinesFail_from texts before after line (policy_so_far draft) (BadLine n) number split counted reads (line_added-err number before line draft (BadLine n) (line_in line) refl reads fails)
LinesFail-line_added texts before after line draft (TooMany n) number split counted reads fails =
    LinesFail_from texts before after line (policy_so_far draft) (TooMany n) number split counted reads (line_added-err number before line draft (TooMany n) (line_in line) refl reads fails)

-- the same at a place among the lines of a text
line_at : (texts : List (List ℕ)) (k : ℕ) (line : List ℕ) → k < length texts → line ≡ get_or texts k line
    → (take (k + 1) texts ≡ take k texts ++ line ∷ []) × (texts ≡ take k texts ++ line ∷ drop (k + 1) texts) × (length (take k texts) ≡ k)
line_at texts k line within read =
    let more : take (k + 1) texts ≡ take k texts ++ line ∷ [] = take_more texts k line within ∙ ap (λ (l : List ℕ). take k texts ++ l ∷ []) (sym read) in
    let whole : texts ≡ take (k + 1) texts ++ drop (k + 1) texts = sym (take-append-drop (k + 1) texts) in
    let split : take (k + 1) texts ++ drop (k + 1) texts ≡ take k texts ++ line ∷ drop (k + 1) texts =
    ap (λ (ls : List (List ℕ)). ls ++ drop (k + 1) texts) more ∙ append_assoc (take k texts) (line ∷ []) (drop (k + 1) texts) in
    let short : k ≤ length texts = omega arith in
    (more, whole ∙ split, length-take-le k texts short)

pub SayPolicy-take : (number : ℕ) (texts : List (List ℕ)) (k : ℕ) (line : List ℕ) (draft next : DraftFacts) → k < length texts → line ≡ get_or texts k line
    → SayPolicy (take k texts) (policy_so_far draft) → line_added number draft (line_in line) ≡ Ok next → SayPolicy (take (k + 1) texts) (policy_so_far next)
SayPolicy-take number texts k line draft next within read reads added =
    subst (λ (ls : List (List ℕ)). SayPolicy ls (policy_so_far next)) (sym (line_at texts k line within read).0) (SayPolicy-line_added number (take k texts) line draft next reads added)

pub LinesFail-take : (number : ℕ) (texts : List (List ℕ)) (k : ℕ) (line : List ℕ) (draft : DraftFacts) (fault : PolicyFault) → k < length texts → line ≡ get_or texts k line
    → number ≡ k + 1 → SayPolicy (take k texts) (policy_so_far draft) → Fails (line_added number draft (line_in line)) fault → LinesFail texts fault
LinesFail-take number texts k line draft fault within read counted reads fails =
    let place = line_at texts k line within read in
    LinesFail-line_added texts (take k texts) (drop (k + 1) texts) line draft fault number place.1 (counted ∙ ap (λ (n : ℕ). n + 1) (sym place.2)) reads fails
