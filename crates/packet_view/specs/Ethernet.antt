-- Ethernet frames: two addresses, tags, a type and the content (IEEE 802.3, 802.1Q and 802.1ad).
use Rattle.std.specs.Prelude.{◌≡◌, ◌≤◌, ◌<◌, ◌⊎◌, ℕ, Bool, false, ◌||◌, ◌==◌, List, ◌++◌, length, IsTrue}
use Rattle.std.specs.List.{AllByRecursion, concat}
use Rattle.packet_view.specs.Bytes.{number_from}

-- the types that announce a tag: the customer's of 802.1Q and the service's of 802.1ad
abbrev pub is_tag_type : ℕ → Bool
is_tag_type kind = (kind == 0x8100) || (kind == 0x88a8)

-- a tag is its type and two bytes of control information
abbrev pub IsTag : List ℕ → Type 0
IsTag tag = (length tag ≡ 4) × IsTrue (is_tag_type (number_from 0 2 tag))

-- A frame whose content begins after its type. At most two tags are skipped. After fewer than two stands
-- no further one.
pub record IsEthernet (frame source : List ℕ) (kind : ℕ) (content : List ℕ) : Type 0 where
  pub dest : List ℕ
  pub tags : List (List ℕ)
  pub type_bytes : List ℕ
  pub spelt : frame ≡ dest ++ (source ++ (concat tags ++ (type_bytes ++ content)))
  pub dest_length : length dest ≡ 6
  pub source_length : length source ≡ 6
  pub type_length : length type_bytes ≡ 2
  pub each_a_tag : AllByRecursion IsTag tags
  pub at_most_two : length tags ≤ 2
  pub no_more : length tags < 2 → is_tag_type kind ≡ false
  pub number : kind ≡ number_from 0 2 type_bytes

-- A frame that ends inside a tag that would be skipped, or inside the type after that tag.
pub record EndsInTag (frame : List ℕ) : Type 0 where
  pub addresses : List ℕ
  pub tags : List (List ℕ)
  pub rest : List ℕ
  pub spelt : frame ≡ addresses ++ (concat tags ++ rest)
  pub addresses_length : length addresses ≡ 12
  pub each_a_tag : AllByRecursion IsTag tags
  pub fewer_than_two : length tags < 2
  pub begun : 2 ≤ length rest
  pub announced : IsTrue (is_tag_type (number_from 0 2 rest))
  pub cut : length rest < 6

-- a frame that ends before its content begins
abbrev pub IsCutFrame : List ℕ → Type 0
IsCutFrame frame = (length frame < 14) ⊎ EndsInTag frame
