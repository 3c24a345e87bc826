-- What is told of words that write no packet: the form that they ask for.
use Rattle.std.specs.Prelude.{ℕ, List, codes, Option, Some, None, is_some, option_map, if◌then◌else◌}
use Rattle.std.specs.Str.{bytes_eq}
use Rattle.acl_policy.specs.inner.WordReading.{next_in, ◌>>=◌}
use Rattle.acl_policy.specs.inner.Reading.Lines.{direction_in}
use Rattle.packet_questions.specs.inner.Reading.{place_in, second_in}
use Rattle.packet_questions.specs.declared.question_form.Form.{Form}
use Rattle.packet_questions.specs.declared.question_form.Form.TheVariants.{Fragment, Icmp, Other, Place, Tcp, Udp, Way}

-- behind a second, the words behind the direction
abbrev pub way_behind : List (List ℕ) → Option (List (List ℕ))
way_behind words = next_in words >>= λ next. option_map (λ _. next.1) (direction_in next.0)

-- the words behind the direction
abbrev pub way_in : List (List ℕ) → Option (List (List ℕ))
way_in words = next_in words >>= λ next.
    if is_some (direction_in next.0) then Some next.1 else (second_in next.0 >>= λ _. way_behind next.1)

-- the form for a protocol's word
unfoldable pub form_named : List ℕ → Form
form_named word =
    if bytes_eq word (codes "tcp") then Tcp
    else (if bytes_eq word (codes "udp") then Udp
    else (if bytes_eq word (codes "icmp") then Icmp
    else (if bytes_eq word (codes "fragment") then Fragment else Other)))

abbrev pub form_by : Option (List ℕ × List (List ℕ)) → Form
form_by None = Other
form_by (Some next) = form_named next.0

-- behind the direction
abbrev pub form_placed : Option (ℕ × List (List ℕ)) → Form
form_placed None = Place
form_placed (Some place) = form_by (next_in place.1)

abbrev pub form_behind : Option (List (List ℕ)) → Form
form_behind None = Way
form_behind (Some words) = form_placed (place_in words)

-- the form that words ask for
abbrev pub form_in : List (List ℕ) → Form
form_in words = form_behind (way_in words)
