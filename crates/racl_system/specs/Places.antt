-- When two names lead to one file (this project's profile).
use Rattle.std.specs.Prelude.{◌&&◌, ◌==◌, Bool, false, string_bytes}
use Rattle.std.specs.Str.{bytes_eq}
use Rattle.racl_system.specs.declared.named_place.FileNumber.{FileNumber}
use Rattle.racl_system.specs.declared.named_place.NamedPlace.{NamedPlace}
use Rattle.racl_system.specs.declared.named_place.NamedPlace.TheVariants.{Standing, Unmade}

abbrev pub is_one_number : FileNumber → FileNumber → Bool
is_one_number one other = (one.device == other.device) && (one.inode == other.inode)

-- one file that is there, or one name in one folder; where nobody can tell, and of devices and pipes, none
abbrev pub is_one_file : NamedPlace → NamedPlace → Bool
is_one_file (Standing one) (Standing other) = is_one_number one other
is_one_file (Unmade folder name) (Unmade another other) = is_one_number folder another && bytes_eq (string_bytes name) (string_bytes other)
is_one_file _ _ = false
