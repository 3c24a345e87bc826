-- A frame's type and content are what the code finds, and in a cut frame it finds none.
use Rattle.std.proofs.Common.{◌≡◌, ◌∙◌, ◌≤◌, ◌<◌, ℕ, true, false, List, [], ◌∷◌, ◌++◌, length, take, drop, Option, Some, None, refl, sym, ap, inl, inr, arith, lit≤, lit<, append_assoc}
use Rattle.std.specs.List.{AllByRecursion, concat, slice_range}
use Rattle.std.specs.Option.{option_and_then}
use Rattle.std.proofs.lemmas.Bool.{cond-true, cond-false, lt-ltb, le-ltb, cases_lt, cases_Bool}
use Rattle.std.proofs.lemmas.List.{append-nil, drop-drop, drop_at, length-append, length-drop, length-take-le, take-append-drop, take_at}
use Rattle.byteorder.specs.Endian.{big_number}
use Rattle.byteorder.specs.Numbers.{big_from-append, big_from-take}
use Rattle.packet_view.specs.Bytes.{number_from}
use Rattle.packet_view.specs.Ethernet.{EndsInTag, IsCutFrame, IsEthernet, IsTag, is_tag_type}
use Rattle.packet_view.specs.inner.FrameSteps.{after_tag, content_of}

-- what is found where a type or a tag begins, and after that
abbrev once : List ℕ → Option (ℕ × List ℕ)
once body = after_tag (number_from 0 2 body) (drop 2 body)

abbrev twice : List ℕ → Option (ℕ × List ℕ)
twice body = option_and_then (λ (p : ℕ × List ℕ). after_tag p.0 p.1) (once body)

-- a type and what follows it
abbrev front : List ℕ → ℕ × List ℕ
front body = (number_from 0 2 body, drop 2 body)

plain : (kind : ℕ) (content : List ℕ) → is_tag_type kind ≡ false → after_tag kind content ≡ Some (kind, content)
plain kind content h = cond-false (is_tag_type kind) _ _ h

cut_tag : (body : List ℕ) → is_tag_type (number_from 0 2 body) ≡ true → length body < 6 → once body ≡ None
cut_tag body tag short =
    let few : length (drop 2 body) < 4 = simp length-drop (omega arith) in
    cond-true (is_tag_type (number_from 0 2 body)) _ _ tag ∙ cond-true _ _ _ (lt-ltb _ _ few)

past : (body : List ℕ) → is_tag_type (number_from 0 2 body) ≡ true → 6 ≤ length body → once body ≡ Some (front (drop 4 body))
past body tag long =
    let enough : 4 ≤ length (drop 2 body) = simp length-drop (omega arith) in
    let number : number_from 2 2 (drop 2 body) ≡ number_from 0 2 (drop 4 body) = ap (big_number 2) (drop-drop 2 2 body) in
    let behind : drop 4 (drop 2 body) ≡ drop 2 (drop 4 body) = drop-drop 4 2 body ∙ sym (drop-drop 2 4 body) in
    cond-true (is_tag_type (number_from 0 2 body)) _ _ tag ∙ cond-false _ _ _ (le-ltb _ _ enough) ∙ ap (λ (p : ℕ × List ℕ). Some p) cc

-- after no tag, and after one
no_tag : (body : List ℕ) → is_tag_type (number_from 0 2 body) ≡ false → twice body ≡ Some (front body)
no_tag body none =
    ap (option_and_then (λ (p : ℕ × List ℕ). after_tag p.0 p.1)) (plain (number_from 0 2 body) (drop 2 body) none) ∙ plain (number_from 0 2 body) (drop 2 body) none

one_tag : (body : List ℕ) → is_tag_type (number_from 0 2 body) ≡ true → 6 ≤ length body → twice body ≡ once (drop 4 body)
one_tag body tag long = ap (option_and_then (λ (p : ℕ × List ℕ). after_tag p.0 p.1)) (past body tag long)

cut_first : (body : List ℕ) → is_tag_type (number_from 0 2 body) ≡ true → length body < 6 → twice body ≡ None
cut_first body tag short = ap (option_and_then (λ (p : ℕ × List ℕ). after_tag p.0 p.1)) (cut_tag body tag short)

-- the number at the front of a tag, whatever follows
tag_front : (tag more : List ℕ) → IsTag tag → is_tag_type (number_from 0 2 (tag ++ more)) ≡ true
tag_front tag more h = rw (big_from-append 2 tag more (omega (arith, h.0))) h.1

after_tag_four : (tag more : List ℕ) → IsTag tag → drop 4 (tag ++ more) ≡ more
after_tag_four tag more h = drop_at tag more 4 h.0

tag_then : (tag more : List ℕ) → IsTag tag → 2 ≤ length more → 6 ≤ length (tag ++ more)
tag_then tag more h long = simp length-append (omega (arith, h.0))

-- each whole frame has its content found
twice_whole : (tags : List (List ℕ)) (more : List ℕ) → AllByRecursion IsTag tags → length tags ≤ 2 → 2 ≤ length more
    → (length tags < 2 → is_tag_type (number_from 0 2 more) ≡ false) → twice (concat tags ++ more) ≡ Some (front more)
twice_whole [] more each few long last = no_tag more (last (lit< tt))
twice_whole (a ∷ []) more each few long last =
    rw append-nil (one_tag (a ++ more) (tag_front a more each.0) (tag_then a more each.0 long)
    ∙ ap once (after_tag_four a more each.0) ∙ plain (number_from 0 2 more) (drop 2 more) (last (lit< tt)))
twice_whole (a ∷ b ∷ []) more each few long last =
    let size : 2 ≤ length (b ++ more) = simp length-append (omega arith) in
    rw (append-nil, append_assoc a b more) (one_tag (a ++ (b ++ more)) (tag_front a (b ++ more) each.0) (tag_then a (b ++ more) each.0 size)
    ∙ ap once (after_tag_four a (b ++ more) each.0) ∙ past (b ++ more) (tag_front b more each.1.0) (tag_then b more each.1.0 long)
    ∙ ap (λ (rest : List ℕ). Some (front rest)) (after_tag_four b more each.1.0))
twice_whole (a ∷ b ∷ c ∷ tags) more each few long last = absurd (omega arith)

-- a frame that ends inside a tag has none
twice_cut : (tags : List (List ℕ)) (rest : List ℕ) → AllByRecursion IsTag tags → length tags < 2 → 2 ≤ length rest
    → is_tag_type (number_from 0 2 rest) ≡ true → length rest < 6 → twice (concat tags ++ rest) ≡ None
twice_cut [] rest each few long tag cut = cut_first rest tag cut
twice_cut (a ∷ []) rest each few long tag cut =
    rw append-nil (one_tag (a ++ rest) (tag_front a rest each.0) (tag_then a rest each.0 long) ∙ ap once (after_tag_four a rest each.0) ∙ cut_tag rest tag cut)
twice_cut (a ∷ b ∷ tags) rest each few long tag cut = absurd (omega arith)

-- all that can follow the addresses
data Body (body : List ℕ) : Type 0 where
  Whole : (tags : List (List ℕ)) (more : List ℕ) → body ≡ concat tags ++ more → AllByRecursion IsTag tags → length tags ≤ 2 → 2 ≤ length more
      → (length tags < 2 → is_tag_type (number_from 0 2 more) ≡ false) → Body body
  InTag : (tags : List (List ℕ)) (rest : List ℕ) → body ≡ concat tags ++ rest → AllByRecursion IsTag tags → length tags < 2 → 2 ≤ length rest
      → is_tag_type (number_from 0 2 rest) ≡ true → length rest < 6 → Body body

-- the front four bytes are a tag
front_tag : (body : List ℕ) → is_tag_type (number_from 0 2 body) ≡ true → 6 ≤ length body → IsTag (take 4 body)
front_tag body tag long = (length-take-le 4 body (omega arith), rw (big_from-take 0 2 4 body (lit≤ tt)) tag)

-- after one tag
body_of_tag : (body a more : List ℕ) → body ≡ a ++ more → IsTag a → 2 ≤ length more → Body body
body_of_tag body a more spelt tag long =
    elim (cases_Bool (is_tag_type (number_from 0 2 more))) [
      | inl t ↦ elim (cases_lt (length more) 6) [
        | inl short ↦ InTag (a ∷ []) more (rw append-nil spelt) (tag, tt) (lit< tt) long t short
        | inr enough ↦ Whole (a ∷ take 4 more ∷ []) (drop 4 more)
            (rw (append-nil, append_assoc a (take 4 more) (drop 4 more), take-append-drop) spelt)
            (tag, (front_tag more t enough, tt)) (lit≤ tt) (simp length-drop (omega arith)) (λ h. absurd (omega arith))
      ]
      | inr f ↦ Whole (a ∷ []) more (rw append-nil spelt) (tag, tt) (lit≤ tt) long (λ _. f)
    ]

body_of : (body : List ℕ) → 2 ≤ length body → Body body
body_of body long =
    elim (cases_Bool (is_tag_type (number_from 0 2 body))) [
      | inl t ↦ elim (cases_lt (length body) 6) [
        | inl short ↦ InTag [] body refl tt (lit< tt) long t short
        | inr enough ↦ body_of_tag body (take 4 body) (drop 4 body) (sym (take-append-drop 4 body)) (front_tag body t enough) (simp length-drop (omega arith))
      ]
      | inr f ↦ Whole [] body refl tt (lit≤ tt) long (λ _. f)
    ]

-- the code's tests, over what follows the addresses
content_is : (frame : List ℕ) → 14 ≤ length frame → content_of frame ≡ twice (drop 12 frame)
content_is frame long =
    cond-false _ _ _ (le-ltb (length frame) 14 long)
    ∙ ap (λ (rest : List ℕ). option_and_then (λ (p : ℕ × List ℕ). after_tag p.0 p.1) (after_tag (number_from 12 2 frame) rest)) (sym (drop-drop 2 12 frame))

-- a whole frame's addresses and type
pub whole_only : (frame source : List ℕ) (kind : ℕ) (content : List ℕ) → IsEthernet frame source kind content
    → (content_of frame ≡ Some (kind, content)) × (slice_range frame 6 12 ≡ source)
whole_only frame source kind content e =
    let behind : List ℕ = concat e.tags ++ (e.type_bytes ++ content) in
    let body : drop 12 frame ≡ concat e.tags ++ (e.type_bytes ++ content) =
    ap (drop 12) (e.spelt ∙ sym (append_assoc e.dest source behind))
    ∙ drop_at (e.dest ++ source) behind 12 (simp length-append (omega (arith, e.dest_length, e.source_length))) in
    let size : 14 ≤ length frame = rw e.spelt (simp length-append (omega (arith, e.dest_length, e.source_length, e.type_length))) in
    let long : 2 ≤ length (e.type_bytes ++ content) = simp length-append (omega (arith, e.type_length)) in
    let number : number_from 0 2 (e.type_bytes ++ content) ≡ kind = big_from-append 2 e.type_bytes content (omega (arith, e.type_length)) ∙ sym e.number in
    let rest : drop 2 (e.type_bytes ++ content) ≡ content = drop_at e.type_bytes content 2 e.type_length in
    let found = twice_whole e.tags (e.type_bytes ++ content) e.each_a_tag e.at_most_two long (λ h. rw number (e.no_more h)) in (
      content_is frame size ∙ ap twice body ∙ found ∙ ap (λ (p : ℕ × List ℕ). Some p) cc,
      ap (λ (bytes : List ℕ). take 6 (drop 6 bytes)) e.spelt ∙ ap (take 6) (drop_at e.dest (source ++ behind) 6 e.dest_length)
          ∙ take_at source behind 6 e.source_length,
    )

pub cut_only : (frame : List ℕ) → IsCutFrame frame → content_of frame ≡ None
cut_only frame (inl short) = cond-true _ _ _ (lt-ltb (length frame) 14 short)
cut_only frame (inr e) =
    let body : drop 12 frame ≡ concat e.tags ++ e.rest = ap (drop 12) e.spelt ∙ drop_at e.addresses (concat e.tags ++ e.rest) 12 e.addresses_length in
    let size : 14 ≤ length frame = rw e.spelt (simp length-append (omega (arith, e.addresses_length, e.begun))) in
    content_is frame size ∙ ap twice body ∙ twice_cut e.tags e.rest e.each_a_tag e.fewer_than_two e.begun e.announced e.cut

-- every frame is one or the other
pub data Content (frame : List ℕ) : Type 0 where
  IsWhole : (kind : ℕ) (content : List ℕ) → IsEthernet frame (slice_range frame 6 12) kind content → content_of frame ≡ Some (kind, content) → Content frame
  Ends : IsCutFrame frame → content_of frame ≡ None → Content frame

-- the addresses before the rest
addresses : (frame : List ℕ) → take 6 frame ++ (take 6 (drop 6 frame) ++ drop 12 frame) ≡ frame
addresses frame = rw (← drop-drop 6 6 frame, take-append-drop, take-append-drop) refl

whole : (frame : List ℕ) (tags : List (List ℕ)) (more : List ℕ) → 14 ≤ length frame → drop 12 frame ≡ concat tags ++ more → AllByRecursion IsTag tags → length tags ≤ 2
    → 2 ≤ length more → (length tags < 2 → is_tag_type (number_from 0 2 more) ≡ false)
    → IsEthernet frame (slice_range frame 6 12) (number_from 0 2 more) (drop 2 more)
whole frame tags more size body each few long last = record {
  dest = take 6 frame;
  tags = tags;
  type_bytes = take 2 more;
  spelt = sym (ap (λ (rest : List ℕ). take 6 frame ++ (take 6 (drop 6 frame) ++ rest)) (ap (λ (rest : List ℕ). concat tags ++ rest) (take-append-drop 2 more) ∙ sym body) ∙ addresses frame);
  dest_length = length-take-le 6 frame (omega arith);
  source_length = length-take-le 6 (drop 6 frame) (simp length-drop (omega arith));
  type_length = length-take-le 2 more long;
  each_a_tag = each;
  at_most_two = few;
  no_more = last;
  number = sym (big_from-take 0 2 2 more (lit≤ tt));
}

ends_in_tag : (frame : List ℕ) (tags : List (List ℕ)) (rest : List ℕ) → 14 ≤ length frame → drop 12 frame ≡ concat tags ++ rest → AllByRecursion IsTag tags
    → length tags < 2 → 2 ≤ length rest → is_tag_type (number_from 0 2 rest) ≡ true → length rest < 6 → EndsInTag frame
ends_in_tag frame tags rest size body each few long tag cut = record {
  addresses = take 12 frame;
  tags = tags;
  rest = rest;
  spelt = sym (ap (λ (b : List ℕ). take 12 frame ++ b) (sym body) ∙ take-append-drop 12 frame);
  addresses_length = length-take-le 12 frame (omega arith);
  each_a_tag = each;
  fewer_than_two = few;
  begun = long;
  announced = tag;
  cut = cut;
}

after_addresses : (frame : List ℕ) → 14 ≤ length frame → Body (drop 12 frame) → Content frame
after_addresses frame size (Whole tags more spelt each few long last) =
    IsWhole (number_from 0 2 more) (drop 2 more) (whole frame tags more size spelt each few long last)
    (content_is frame size ∙ ap twice spelt ∙ twice_whole tags more each few long last)
after_addresses frame size (InTag tags rest spelt each few long tag cut) =
    Ends (inr (ends_in_tag frame tags rest size spelt each few long tag cut))
    (content_is frame size ∙ ap twice spelt ∙ twice_cut tags rest each few long tag cut)

pub content_cases : (frame : List ℕ) → Content frame
content_cases frame =
    elim (cases_lt (length frame) 14) [
      | inl short ↦ Ends (inl short) (cond-true _ _ _ (lt-ltb (length frame) 14 short))
      | inr size ↦ after_addresses frame size (body_of (drop 12 frame) (simp length-drop (omega arith)))
    ]
