-- Remarks on a rule are remarks on its policy.
use Rattle.std.proofs.Common.{◌≡◌, ℕ, ◌<◌, List, [], ◌++◌, length, map, get_or, Option, Some, None, IfSome, refl, sym, subst, ap, ◌∙◌}
use Rattle.std.specs.Prelude.{All, option_map, option_to_list, slice_get}
use Rattle.std.proofs.lemmas.Option.{slice_get-map, slice_get_read}
use Rattle.std.proofs.lemmas.List.{append-nil, append_assoc}
use Rattle.std.proofs.lemmas.List.Elements.{All-append, All-cons, All-nil, All-weaker}
use Rattle.packet_view.specs.declared.tuple.Direction.{Direction}
use Rattle.acl_policy.specs.declared.policy.Section.{Section}
use Rattle.acl_policy.specs.declared.rule.Rule.{Rule}
use Rattle.acl_policy.specs.Policies.{PolicyFacts, SectionFacts, section_facts}
use Rattle.acl_policy.specs.Rules.{rule_facts}
use Rattle.acl_policy.proofs.RulingLemmas.{slice_get-rule_facts}
use Rattle.policy_check.specs.Remarks.{IsRemark, IsRuleRemark, IsSectionRemark}
use Rattle.policy_check.specs.inner.Added.{Adds}
use Rattle.policy_check.specs.declared.remark_kinds.Remark.{Remark}
use Rattle.policy_check.specs.declared.remark_kinds.Remark.TheVariants.{NoMac, NoRule}

-- what a place of a list of rules says
pub rule_there : (rules : List Rule) (i : ℕ) (rule : Rule) → i < length rules → rule ≡ get_or rules i rule → slice_get (map rule_facts rules) i ≡ Some (rule_facts rule)
rule_there rules i rule within read = slice_get-rule_facts rules i rule (slice_get_read rules (length rules) i rule refl within read)

pub section_there : (sections : List Section) (i : ℕ) (section : Section) → i < length sections → section ≡ get_or sections i section
    → slice_get (map section_facts sections) i ≡ Some (section_facts section)
section_there sections i section within read =
    slice_get-map section_facts sections i ∙ ap (option_map section_facts) (slice_get_read sections (length sections) i section refl within read)

of_section : (section : SectionFacts) (direction : Direction) (place : ℕ) (remark : Remark) → IsRuleRemark section direction place remark
    → IsSectionRemark section remark
of_section section direction place NoRule is = absurd is
of_section section direction place (NoMac interface) is = absurd is
of_section section direction place remark is = (direction, place, is)

of_policy : (policy : PolicyFacts) (k : ℕ) (section : SectionFacts) (remark : Remark) → slice_get policy.sections k ≡ Some section
    → IsSectionRemark section remark → IsRemark policy remark
of_policy policy k section NoRule read is = absurd is
of_policy policy k section remark read is = (k, section, read, is)

pub Adds-none : {A : Type 0} (P : A → Type 0) (all : List A) → Adds P all all
Adds-none P all = ([], sym (append-nil all), All-nil P)

pub Adds-more : {A : Type 0} (P : A → Type 0) (old mid new : List A) → Adds P old mid → Adds P mid new → Adds P old new
Adds-more P old mid new (one, first, each) (two, second, others) = (
  one ++ two,
  second ∙ ap (λ (xs : List _). xs ++ two) first ∙ append_assoc old one two,
  All-append P one two each others,
)

found : {A : Type 0} (P : A → Type 0) (o : Option A) → IfSome o P → All P (option_to_list o)
found P None is = All-nil P
found P (Some x) is = All-cons P x [] is (All-nil P)

pub Adds-found : {A : Type 0} (P : A → Type 0) (old new : List A) (o : Option A) → IfSome o P → new ≡ old ++ option_to_list o → Adds P old new
Adds-found P old new o is same = (option_to_list o, same, found P o is)

rule_found : (section : SectionFacts) (direction : Direction) (place : ℕ) (o : Option Remark) → IfSome o (IsRuleRemark section direction place)
    → IfSome o (IsSectionRemark section)
rule_found section direction place None is = tt
rule_found section direction place (Some remark) is = of_section section direction place remark is

pub Adds-rule : (section : SectionFacts) (direction : Direction) (place : ℕ) (old mid new : List Remark) (o : Option Remark)
    → Adds (IsSectionRemark section) old mid → IfSome o (IsRuleRemark section direction place) → new ≡ mid ++ option_to_list o
    → Adds (IsSectionRemark section) old new
Adds-rule section direction place old mid new o so_far is same =
    Adds-more (IsSectionRemark section) old mid new so_far (Adds-found (IsSectionRemark section) mid new o (rule_found section direction place o is) same)

pub more_of_policy : (policy : PolicyFacts) (k : ℕ) (section : SectionFacts) (old new : List Remark) → slice_get policy.sections k ≡ Some section
    → All (IsRemark policy) old → Adds (IsSectionRemark section) old new → All (IsRemark policy) new
more_of_policy policy k section old new read so_far (more, same, each) =
    subst (All (IsRemark policy)) (sym same)
    (All-append (IsRemark policy) old more so_far (All-weaker (IsSectionRemark section) (IsRemark policy) (λ remark is. of_policy policy k section remark read is) more each))
