-- What the report on one shard of a capture says of the shard and of the capture (this project's profile).
use Rattle.std.specs.Prelude.{◌++◌, ℕ, List, [], ◌∷◌, codes}
use Rattle.packet_words.specs.PacketWords.{numbered}
use Rattle.racl_views.specs.Objects.{number, object_line, object_of}
use Rattle.racl_views.specs.declared.sessions_as_text_and_json.TextOrJson.{TextOrJson}
use Rattle.racl_views.specs.declared.sessions_as_text_and_json.TextOrJson.TheVariants as form
use Rattle.racl_views.specs.declared.shard_lines.ShardOf.{ShardOf}

-- its number and how many shards there are; how many packets the whole capture has, and their latest second
abbrev pub shard_line : ShardOf → List ℕ
shard_line it = numbered (codes "shard ") it.number ++ (numbered (codes " of ") it.count
    ++ (numbered (codes " of ") it.packets ++ (numbered (codes " packets until ") it.latest ++ codes "\n")))

abbrev pub shard_object : ShardOf → List ℕ
shard_object it = object_line (object_of (number (codes "shard") it.number ∷ number (codes "shards") it.count ∷ number (codes "capture_packets") it.packets
    ∷ number (codes "capture_until") it.latest ∷ []))

abbrev pub shard_told : TextOrJson → ShardOf → List ℕ
shard_told form.Text it = shard_line it
shard_told form.Json it = shard_object it
