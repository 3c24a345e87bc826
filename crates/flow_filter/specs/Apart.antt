-- The packets of one interface among those of all, and when the others leave them alone (this project's profile).
use Rattle.std.specs.Prelude.{◌≢◌, ◌<◌, ℕ, ◌%◌, ◌^◌, ◌==◌, if◌then◌else◌, List, [], ◌∷◌, filter}
use Rattle.std.specs.Option.{ForSome}
use Rattle.packet_view.specs.Captures.{PacketFacts}
use Rattle.bihash_words.specs.Refusals.{IsTaken}
use Rattle.flow_filter.specs.Judged.{Judged, WhereAsked}

-- the number of the packet's interface fits below the protocol in a key, as each one does that is at most 255
abbrev pub HasKeyNumber : PacketFacts → Type 0
HasKeyNumber packet = packet.interface < 2 ^ 24

-- the packets of the interface with this number, in their order
abbrev pub packets_of : ℕ → List PacketFacts → List PacketFacts
packets_of interface packets = filter (λ packet. packet.interface == interface) packets

-- what a list has at the places of these packets, in its order
abbrev pub those_of : {A : Type 0} → ℕ → List PacketFacts → List A → List A
those_of interface [] items = []
those_of interface (packet ∷ packets) [] = []
those_of interface (packet ∷ packets) (item ∷ items) =
    if packet.interface == interface then item ∷ those_of interface packets items
    else those_of interface packets items

-- the number of the interface in the words of a key: the lowest 24 bits of the last word
abbrev pub number_in : List ℕ → ℕ
number_in [] = 0
number_in (word ∷ []) = word % 2 ^ 24
number_in (word ∷ next ∷ words) = number_in (next ∷ words)

-- the packet was not refused: its bucket was neither full nor worn, and had pages
abbrev pub WasTaken : Judged → Type 0
WasTaken j = WhereAsked j.asked (λ e. IsTaken e.reply)

-- where the packet's new session took the place of another, that one is not of this interface
abbrev pub TookNoPlaceOf : ℕ → Judged → Type 0
TookNoPlaceOf interface j = WhereAsked j.asked (λ e. ForSome e.recycling.removed (λ gone. number_in gone ≢ interface))
