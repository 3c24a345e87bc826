-- The word that asks for a shard, as it is read.
use Rattle.std.proofs.Common.{◌≡◌, ◌∙◌, ◌≤◌, ℕ, List, [], Option, None, Some, ap, codes, lit≤, refl, subst, sym}
use Rattle.clap.specs.Words.{Text}
use Rattle.acl_policy.specs.inner.WordReading.Numerals.{cut_in, number_in}
use Rattle.acl_policy.proofs.NumeralLaws.{Lacks-AllDigits, cut_in-complete, cut_in-sound, number_in-complete, number_in-sound}
use Rattle.racl_options.specs.Asking.{AskBy, AskedFacts}
use Rattle.racl_options.specs.CommandLine.{Values}
use Rattle.racl_options.specs.ShardWords.{AskForShard, IsShardWord, ShardFacts}
use Rattle.racl_options.specs.declared.named_files.Refusal.{Refusal}
use Rattle.racl_options.specs.declared.named_files.Refusal.TheVariants.{Memory, Mistake}
use Rattle.racl_options.specs.inner.Naming.{IsRefused}

pub word_is : (word first second : List ℕ) (number count : ℕ) → cut_in 47 word ≡ Some (first, second) → number_in first ≡ Some number → number_in second ≡ Some count
    → 1 ≤ number → number ≤ count → count ≤ 1024 → IsShardWord word number count
word_is word first second number count cut one two some among few = record {
  first = first;
  second = second;
  spelt = cut_in-sound 47 word first second cut;
  number_is = number_in-sound first number one;
  count_is = number_in-sound second count two;
  some = some;
  among = among;
  few = few;
}

-- its parts are found
pub word_cut : (word : List ℕ) (number count : ℕ) (is : IsShardWord word number count) → cut_in 47 word ≡ Some (is.first, is.second)
word_cut word number count is =
    ap (cut_in 47) is.spelt ∙ cut_in-complete 47 is.first is.second (Lacks-AllDigits 10 47 is.first (lit≤ tt) is.number_is.0.1)

abbrev first_in : Option (List ℕ × List ℕ) → List ℕ
first_in None = []
first_in (Some cut) = cut.0

abbrev second_in : Option (List ℕ × List ℕ) → List ℕ
second_in None = []
second_in (Some cut) = cut.1

-- and are these numbers
pub word_parts : (word first second : List ℕ) (number count : ℕ) → cut_in 47 word ≡ Some (first, second) → IsShardWord word number count
    → (number_in first ≡ Some number) × (number_in second ≡ Some count)
word_parts word first second number count cut is =
    let found = sym cut ∙ word_cut word number count is in
    let one : first ≡ is.first = ap first_in found in
    let two : second ≡ is.second = ap second_in found in
    (ap number_in one ∙ number_in-complete is.first number is.number_is, ap number_in two ∙ number_in-complete is.second count is.count_is)

pub apart : {A : Type 0} (o : Option A) (x : A) → None ≡ o → o ≡ Some x → ⊥
apart o x none some = let f : ⊥ = cc in f

pub same_in : {A : Type 0} (o : Option A) (x y : A) → Some x ≡ o → o ≡ Some y → x ≡ y
same_in o x y one two = cc

-- a word asks for one shard
one_word : (word : Text) (a b : ShardFacts) → IsShardWord word a.number a.count → IsShardWord word b.number b.count → a ≡ b
one_word word a b p q =
    let cut = word_cut word a.number a.count p in
    let here = word_parts word p.first p.second a.number a.count cut p in
    let there = word_parts word p.first p.second b.number b.count cut q in
    let number = same_in (number_in p.first) a.number b.number (sym here.0) there.0 in
    let count = same_in (number_in p.second) a.count b.count (sym here.1) there.1 in
    λ i. record { number = number i; count = count i }

-- so does a value, or for none
pub one_shard : (value : Option Text) (a b : Option ShardFacts) → AskForShard value a → AskForShard value b → a ≡ b
one_shard None None None p q = refl
one_shard None None (Some b) p q = absurd q
one_shard None (Some a) b p q = absurd p
one_shard (Some word) None b p q = absurd p
one_shard (Some word) (Some a) None p q = absurd q
one_shard (Some word) (Some a) (Some b) p q = ap Some (one_word word a b p q)

-- where a value asks for no shard, what has it asks for nothing
pub refused_shard : (values : Values) (value : Option Text) (refusal : Refusal) → value ≡ values.first (codes "shard") → IsRefused (AskForShard value) refusal
    → IsRefused (AskBy values) refusal
refused_shard values value Memory same why = tt
refused_shard values value (Mistake text) same why = λ (asked : AskedFacts) asks. why asked.shard (subst (λ v. AskForShard v asked.shard) (sym same) asks.shard)
