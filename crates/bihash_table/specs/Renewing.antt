-- Why a table could not be renewed.
use Rattle.bihash_words.specs.Sizes.{Sizes}
use Rattle.bihash_rule.specs.declared.view.View.{View}
use Rattle.bihash_table.specs.Closing.{LeavesStrangers, StaysWhole}
use Rattle.bihash_table.specs.declared.renew_fault.RenewFault.{RenewFault}
use Rattle.bihash_table.specs.declared.renew_fault.RenewFault.TheVariants.{Strangers, Memory}

-- Why a table was not renewed, and what the caller knows then: there are more callers than it has numbers, or it has
-- every number and memory was refused.
abbrev pub IsRenewRefused : Sizes → View → RenewFault → View → Type 0
IsRenewRefused z v Strangers w = LeavesStrangers z v w
IsRenewRefused z v Memory w = StaysWhole z v w
