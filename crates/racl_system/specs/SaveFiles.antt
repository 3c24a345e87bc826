-- Files that packets are saved in (this project's profile).
use Rattle.std.specs.Prelude.{◌≡◌, ℕ, List, Bool, false, Option, None, Some, IfSome, ⊤, is_some}
use Rattle.clap.specs.Words.{Text}
use Rattle.racl_io.specs.declared.device.Device.{Device}
use Rattle.racl_system.specs.declared.save_file.SaveFile.{SaveFile}

-- whether there is such a file, and it couldn't be created or written
abbrev pub has_failed : {S F : Type 0} → Option (Device (SaveFile S F)) → Bool
has_failed None = false
has_failed (Some file) = is_some file.inner.reason

-- what a file has, where this is known of one that is emptied
abbrev pub written_in : {F : Type 0} → Option (List ℕ) → (F → Option (List ℕ)) → Option F → Option (List ℕ)
written_in emptied contents None = emptied
written_in emptied contents (Some file) = contents file

-- what a file has in which packets are saved: before its first write nothing becomes of what is there, and then it is emptied
abbrev pub saved_in : {S F : Type 0} → (S → Text → Option (List ℕ)) → (F → Option (List ℕ)) → SaveFile S F → Option (List ℕ)
saved_in emptied contents save = written_in (emptied save.system.now save.name.now) contents save.file

-- what was written to a file in which packets are saved is on its device, where there is one
abbrev pub IsSynced : {S F : Type 0} → (F → Option (List ℕ)) → (F → Option (List ℕ)) → SaveFile S F → Type 0
IsSynced synced contents save = IfSome save.file (λ file. synced file ≡ contents file)

-- so it is, where the file has not failed
abbrev pub IsLeftSynced : {S F : Type 0} → (F → Option (List ℕ)) → (F → Option (List ℕ)) → Option (Device (SaveFile S F)) → Type 0
IsLeftSynced synced contents file = has_failed file ≡ false → IfSome file (λ d. IsSynced synced contents d.inner)

-- the file of this name in this system, to which nothing was done
pub record IsUnwritten {S F : Type 0} (system : S) (name : Text) (save : SaveFile S F) : Type 0 where
  pub within : save.system.now ≡ system
  pub named : save.name.now ≡ name
  pub unmade : save.file ≡ None
  pub unfailed : save.reason ≡ None

-- where a file is named, it is there as a device that didn't fail
abbrev pub IsSaveOf : {S F : Type 0} → S → Option Text → Option (Device (SaveFile S F)) → Type 0
IsSaveOf system None None = ⊤
IsSaveOf system (Some name) (Some file) = IsUnwritten system name file.inner × (file.failures ≡ 0)
IsSaveOf system _ _ = ⊥
