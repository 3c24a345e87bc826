-- What the code knows of what is named and asked for.
use Rattle.std.specs.Prelude.{option_map}
use Rattle.clap.specs.Words.{first_value, matched_of, one_text, raw_values}
use Rattle.clap.specs.declared.parser.matches.Found.{Found}
use Rattle.racl_options.specs.CommandLine.{Workers, Established, Transient, Udp, OptionFacts, Spells, Values, name_of}
use Rattle.racl_options.specs.Origins.{Name, OriginFacts}
use Rattle.racl_options.specs.declared.named_files.Refusal.{Refusal}
use Rattle.racl_options.specs.declared.named_files.Refusal.TheVariants.{Memory, Mistake}
use Rattle.racl_options.specs.inner.Commands.{capture_id, interface_id, policy_id}

-- what was found in the words
abbrev pub values_in : Found → Values
values_in found = record {
  number = one_text found;
  first = first_value found;
  all = λ id. option_map raw_values (matched_of found id);
}

-- they name this input
abbrev pub Names : Values → OriginFacts → Type 0
Names values origin = Name (values.first policy_id) (values.first capture_id) (values.all interface_id) origin

-- each option of a number is what they spell
pub record SpellOptions (values : Values) (facts : OptionFacts) : Type 0 where
  pub workers : Spells Workers (values.number (name_of Workers)) facts.workers
  pub established : Spells Established (values.number (name_of Established)) facts.established
  pub transient : Spells Transient (values.number (name_of Transient)) facts.transient
  pub udp : Spells Udp (values.number (name_of Udp)) facts.udp

-- memory ran out, or nothing is as it is asked for
abbrev pub IsRefused : {A : Type 0} → (A → Type 0) → Refusal → Type 0
IsRefused IsAsked Memory = Unit {0}
IsRefused {A} IsAsked (Mistake text) = (a : A) → IsAsked a → ⊥
