-- Files that are read one after the other.
use Rattle.std.proofs.Common.{◌≡◌, ◌∙◌, ◌+◌, ◌≤◌, ◌++◌, ℕ, Bool, true, false, List, [], ◌∷◌, Option, None, Some, ap, length, map, string_bytes, subst, sym, take}
use Rattle.std.specs.Prelude.{IfSome, if◌then◌else◌}
use Rattle.std.proofs.lemmas.List.{map_push}
use Rattle.policy_expand.specs.Inclusions.{FileFacts, file_facts}
use Rattle.policy_expand.specs.declared.file_lines.PolicyFile.{PolicyFile}
use Rattle.racl_io.specs.Inputs.{most_bytes}
use Rattle.racl_system.specs.Expands.{AreRead, IsTextOf}
use Rattle.racl_system.proofs.ReaderLemmas.{all_of_front}

-- the text of what was read is that of the file, where that has no more bytes than an input may have
pub text_of_read : (known : Option (List ℕ)) (read text : List ℕ) → IfSome known (λ all. read ≡ take (most_bytes + 1) all) → length read ≤ most_bytes
    → IsTextOf read text → IfSome known (λ all. IsTextOf all text)
text_of_read None read text front few is = tt
text_of_read (Some all) read text front few is = subst (λ (bytes : List ℕ). IsTextOf bytes text) (all_of_front all read front few) is

one_more : (named : List ℕ → Option (List ℕ)) (files : List FileFacts) (file : FileFacts) → AreRead named files
    → IfSome (named file.name) (λ all. IsTextOf all file.text) → AreRead named (files ++ file ∷ [])
one_more named [] file before read = (read, tt)
one_more named (f ∷ files) file before read = (before.0, one_more named files file before.1 read)

read_more : (named : List ℕ → Option (List ℕ)) (files now : List PolicyFile) (file : PolicyFile)
    → now ≡ files ++ file ∷ [] → IfSome (named (string_bytes file.name)) (λ all. IsTextOf all file.text.items)
    → AreRead named (map file_facts files) → AreRead named (map file_facts now)
read_more named files now file pushed read before =
    subst (λ (fs : List PolicyFile). AreRead named (map file_facts fs)) (sym pushed)
    (subst (AreRead named) (sym (map_push file_facts files file)) (one_more named (map file_facts files) (file_facts file) before read))

-- a file that was read from what its name opens is added, or none is
pub read_pushed : (named : List ℕ → Option (List ℕ)) (files now : List PolicyFile) (file : PolicyFile) (name : List ℕ) (left : Option (List ℕ)) (is_added : Bool)
    → now ≡ (if is_added then files ++ file ∷ [] else files) → string_bytes file.name ≡ name → left ≡ named name
    → IfSome left (λ all. IsTextOf all file.text.items)
    → AreRead named (map file_facts files) → AreRead named (map file_facts now)
read_pushed named files now file name left true pushed called opened read before =
    read_more named files now file pushed
    (subst (λ (o : Option (List ℕ)). IfSome o (λ all. IsTextOf all file.text.items)) (opened ∙ ap named (sym called)) read) before
read_pushed named files now file name left false pushed called opened read before =
    subst (λ (fs : List PolicyFile). AreRead named (map file_facts fs)) (sym pushed) before
