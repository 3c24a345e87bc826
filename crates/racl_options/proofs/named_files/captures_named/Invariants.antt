use Rattle.std.proofs.Common.{◌++◌, List, length, map}
use Rattle.clap.specs.Walk.{texts}
use Rattle.racl_options.specs.Origins.{CaptureFacts, capture_facts}
use Rattle.racl_options.proofs.NameLemmas.{AreNamed}
use Rattle.racl_options.proofs.named_files.captures_named.Given as goal

-- what names the captures that are left, and those so far before them, is all values
abbrev pub invariant-values : goal.invariant-values
invariant-values l = record {
  sound : (others : List CaptureFacts) → AreNamed (texts l.rest) others → AreNamed (texts l.values) (map capture_facts l.captures.items ++ others);
  left : (all : List CaptureFacts) → AreNamed (texts l.values) all → (others : List CaptureFacts) × AreNamed (texts l.rest) others;
}

abbrev pub decreases-values : goal.decreases-values
decreases-values l = length l.rest
