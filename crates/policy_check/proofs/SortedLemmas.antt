-- One line more of a text whose lines so far were checked.
use Rattle.std.proofs.Common.{◌≡◌, ◌≢◌, ◌<◌, ◌≤◌, ℕ, ◌+◌, List, [], ◌∷◌, ◌++◌, length, length-take-le, take, get_or, Option, Some, None, Result, Ok, Err, refl, sym, ap, ◌∙◌, subst, arith, inl, inr}
use Rattle.std.proofs.lemmas.List.{append-nil, append_assoc, length-append, take_more}
use Rattle.acl_policy.specs.declared.policy.PolicyFault.{PolicyFault}
use Rattle.acl_policy.specs.declared.policy.PolicyFault.TheVariants.{Memory, BadLine, TooMany}
use Rattle.acl_policy.specs.declared.policy.PolicyFault.TheVariants as fault
use Rattle.packet_view.specs.declared.tuple.Direction.{Direction}
use Rattle.packet_view.specs.declared.tuple.Mac.{Mac}
use Rattle.acl_policy.specs.Rules.{RuleFacts}
use Rattle.acl_policy.specs.Lines.{Begins, Blank, IsLine, LineFacts, Own, Ruled}
use Rattle.acl_policy.specs.Policies.{PolicyFacts, SayPolicy}
use Rattle.acl_policy.specs.inner.Reading.Lines.{line_in}
use Rattle.acl_policy.specs.inner.Reading.Policies.{DraftFacts, Fails, line_added, policy_so_far}
use Rattle.acl_policy.proofs.LineLaws.{line_in-complete, line_in-sound}
use Rattle.acl_policy.proofs.PolicyLemmas.{IsFaultAt, SayPolicy-line_added, line_added-err}
use Rattle.acl_policy.proofs.SectionLaws.{one_reading}
use Rattle.policy_check.specs.Complaints.{AreSorted, ComplaintFacts, IsComplaint, IsPlaceReason}
use Rattle.policy_check.specs.declared.reason.Reason.{Reason}
use Rattle.policy_check.specs.declared.reason.Reason.TheVariants.{SecondMac, SecondSection, Surplus}
use Rattle.policy_check.specs.inner.Explained.{Explains}

pub AreSorted-right : (place : ℕ) (before texts : List (List ℕ)) (cs : List ComplaintFacts) (rights : List (List ℕ)) (line : List ℕ)
    → AreSorted place before texts cs rights → AreSorted place before (texts ++ line ∷ []) cs (rights ++ line ∷ [])
AreSorted-right place before texts [] rights line same =
    ap (λ (ls : List (List ℕ)). ls ++ line ∷ []) same ∙ append_assoc before texts (line ∷ [])
AreSorted-right place before texts (c ∷ cs) rights line (front, wrong, rest, policy, split, counted, says, is, more) = (
  front,
  wrong,
  rest ++ line ∷ [],
  policy,
  ap (λ (ls : List (List ℕ)). ls ++ line ∷ []) split ∙ append_assoc front (wrong ∷ rest) (line ∷ []),
  counted,
  says,
  is,
  AreSorted-right c.line (before ++ front) rest cs rights line more,
)

pub AreSorted-wrong : (place : ℕ) (before texts : List (List ℕ)) (cs : List ComplaintFacts) (rights : List (List ℕ)) (line : List ℕ)
    (c : ComplaintFacts) (policy : PolicyFacts)
    → AreSorted place before texts cs rights → c.line ≡ place + length texts + 1 → SayPolicy rights policy → IsComplaint policy line c.reason c.word
    → AreSorted place before (texts ++ line ∷ []) (cs ++ c ∷ []) rights
AreSorted-wrong place before texts [] rights line c policy same counted says is = (
  texts,
  line,
  [],
  policy,
  refl,
  counted,
  subst (λ (ls : List (List ℕ)). SayPolicy ls policy) same says,
  is,
  same ∙ sym (append-nil (before ++ texts)),
)
AreSorted-wrong place before texts (d ∷ cs) rights line c policy (front, wrong, rest, earlier, split, count, reads, faulty, more) counted says is =
    let lengths : length texts ≡ length front + length (wrong ∷ rest) = ap length split ∙ length-append front (wrong ∷ rest) in
    let here : c.line ≡ d.line + length rest + 1 = omega arith in (
      front,
      wrong,
      rest ++ line ∷ [],
      earlier,
      ap (λ (ls : List (List ℕ)). ls ++ line ∷ []) split ∙ append_assoc front (wrong ∷ rest) (line ∷ []),
      count,
      reads,
      faulty,
      AreSorted-wrong d.line (before ++ front) rest cs rights line c policy more here says is,
    )

pub Fails-err : {A : Type 0} (wanted : Result A PolicyFault) (told : PolicyFault) → told ≢ Memory → Fails wanted told → wanted ≡ Err told
Fails-err wanted Memory other fails = absurd (other refl)
Fails-err wanted fault.NotUtf8 other fails = fails
Fails-err wanted (BadLine n) other fails = fails
Fails-err wanted (TooMany n) other fails = fails

-- the fault of a line that begins a section, names an own address, or is a rule
of_heading : (policy : PolicyFacts) (line : List ℕ) (number n : ℕ) (told : PolicyFault) (reason : Reason) → IsLine line (Begins n) → reason ≡ SecondSection
    → IsFaultAt told policy line number → IsPlaceReason policy line reason
of_heading policy line number n told reason is why (inl (same, inl none)) = absurd (none (Begins n) is)
of_heading policy line number n told reason is why (inl (same, inr (inl second))) =
    let other = one_reading line (Begins n) (Own second.0) is second.2 in absurd (cc)
of_heading policy line number n told reason is why (inl (same, inr (inr second))) = inr (inl (why, second))
of_heading policy line number n told reason is why (inr (same, surplus)) =
    let other = one_reading line (Begins n) (Ruled surplus.0 surplus.1) is surplus.3 in absurd (cc)

of_own : (policy : PolicyFacts) (line : List ℕ) (number : ℕ) (mac : Mac) (told : PolicyFault) (reason : Reason) → IsLine line (Own mac) → reason ≡ SecondMac
    → IsFaultAt told policy line number → IsPlaceReason policy line reason
of_own policy line number mac told reason is why (inl (same, inl none)) = absurd (none (Own mac) is)
of_own policy line number mac told reason is why (inl (same, inr (inl second))) = inl (why, second)
of_own policy line number mac told reason is why (inl (same, inr (inr second))) =
    let other = one_reading line (Own mac) (Begins second.0) is second.1 in absurd (cc)
of_own policy line number mac told reason is why (inr (same, surplus)) =
    let other = one_reading line (Own mac) (Ruled surplus.0 surplus.1) is surplus.3 in absurd (cc)

of_rule : (policy : PolicyFacts) (line : List ℕ) (number : ℕ) (direction : Direction) (rule : RuleFacts) (told : PolicyFault) (reason : Reason)
    → IsLine line (Ruled direction rule) → reason ≡ Surplus → IsFaultAt told policy line number → IsPlaceReason policy line reason
of_rule policy line number direction rule told reason is why (inl (same, inl none)) = absurd (none (Ruled direction rule) is)
of_rule policy line number direction rule told reason is why (inl (same, inr (inl second))) =
    let other = one_reading line (Ruled direction rule) (Own second.0) is second.2 in absurd (cc)
of_rule policy line number direction rule told reason is why (inl (same, inr (inr second))) =
    let other = one_reading line (Ruled direction rule) (Begins second.0) is second.1 in absurd (cc)
of_rule policy line number direction rule told reason is why (inr (same, surplus)) = inr (inr (why, surplus))

complaint : (number : ℕ) (texts : List (List ℕ)) (line : List ℕ) (draft : DraftFacts) (told : PolicyFault) (said : Option LineFacts) (reason : Reason) (word : List ℕ)
    → line_in line ≡ said → SayPolicy texts (policy_so_far draft) → line_added number draft said ≡ Err told → Explains line said reason word
    → IsComplaint (policy_so_far draft) line reason word
complaint number texts line draft told None reason word found says added why =
    inl ((λ reading is. let other = line_in-complete line reading is in cc), why)
complaint number texts line draft told (Some Blank) reason word found says added why = absurd (cc)
complaint number texts line draft told (Some (Begins n)) reason word found says added why =
    inr (of_heading (policy_so_far draft) line number n told reason (line_in-sound line (Begins n) found) why.0 (line_added-err number texts line draft told (Some (Begins n)) found says added), why.1)
complaint number texts line draft told (Some (Own mac)) reason word found says added why =
    inr (of_own (policy_so_far draft) line number mac told reason (line_in-sound line (Own mac) found) why.0 (line_added-err number texts line draft told (Some (Own mac)) found says added), why.1)
complaint number texts line draft told (Some (Ruled direction rule)) reason word found says added why =
    inr (of_rule (policy_so_far draft) line number direction rule told reason (line_in-sound line (Ruled direction rule) found) why.0 (line_added-err number texts line draft told (Some (Ruled direction rule)) found says added), why.1)

pub complaint_of : (number : ℕ) (texts : List (List ℕ)) (line : List ℕ) (draft : DraftFacts) (told : PolicyFault) (reason : Reason) (word : List ℕ)
    → SayPolicy texts (policy_so_far draft) → Fails (line_added number draft (line_in line)) told → told ≢ Memory → Explains line (line_in line) reason word
    → IsComplaint (policy_so_far draft) line reason word
complaint_of number texts line draft told reason word says fails other why =
    complaint number texts line draft told (line_in line) reason word refl says (Fails-err (line_added number draft (line_in line)) told other fails) why

-- So many lines were checked.
abbrev pub AreAmid : List (List ℕ) → ℕ → List ComplaintFacts → DraftFacts → Type 0
AreAmid texts k cs draft = (rights : List (List ℕ)) × AreSorted 0 [] (take k texts) cs rights × SayPolicy rights (policy_so_far draft)

one_more : (texts : List (List ℕ)) (k : ℕ) (line : List ℕ) → k < length texts → line ≡ get_or texts k line → take (k + 1) texts ≡ take k texts ++ line ∷ []
one_more texts k line within read = take_more texts k line within ∙ ap (λ (l : List ℕ). take k texts ++ l ∷ []) (sym read)

pub amid_right : (number : ℕ) (texts : List (List ℕ)) (k : ℕ) (line : List ℕ) (cs : List ComplaintFacts) (draft next : DraftFacts) → k < length texts
    → line ≡ get_or texts k line → AreAmid texts k cs draft → line_added number draft (line_in line) ≡ Ok next → AreAmid texts (k + 1) cs next
amid_right number texts k line cs draft next within read (rights, sorted, says) added = (
  rights ++ line ∷ [],
  subst (λ (ls : List (List ℕ)). AreSorted 0 [] ls cs (rights ++ line ∷ [])) (sym (one_more texts k line within read))
      (AreSorted-right 0 [] (take k texts) cs rights line sorted),
  SayPolicy-line_added number rights line draft next says added,
)

pub amid_wrong : (number : ℕ) (texts : List (List ℕ)) (k : ℕ) (line : List ℕ) (cs : List ComplaintFacts) (draft : DraftFacts) (told : PolicyFault)
    (reason : Reason) (word : List ℕ) → k < length texts → line ≡ get_or texts k line → number ≡ k + 1 → AreAmid texts k cs draft
    → Fails (line_added number draft (line_in line)) told → told ≢ Memory → Explains line (line_in line) reason word
    → AreAmid texts (k + 1) (cs ++ record { line = number; reason = reason; word = word } ∷ []) draft
amid_wrong number texts k line cs draft told reason word within read counted (rights, sorted, says) fails other why =
    let c : ComplaintFacts = record { line = number; reason = reason; word = word } in
    let short : k ≤ length texts = omega arith in
    let place : number ≡ 0 + length (take k texts) + 1 = omega (arith, length-take-le k texts short) in (
      rights,
      subst (λ (ls : List (List ℕ)). AreSorted 0 [] ls (cs ++ c ∷ []) rights) (sym (one_more texts k line within read))
          (AreSorted-wrong 0 [] (take k texts) cs rights line c (policy_so_far draft) sorted place says
          (complaint_of number rights line draft told reason word says fails other why)),
      says,
    )
