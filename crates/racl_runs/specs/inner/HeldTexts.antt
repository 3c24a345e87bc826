-- A report that is held until all was judged.
use Rattle.racl_io.specs.declared.fault.Fault.{Fault}
use Rattle.racl_io.specs.declared.fault.Fault.TheVariants.{Memory, Write}

-- the fault of what is held: no device takes it, so that what can't be written wants memory
abbrev pub without_device : Fault → Fault
without_device Write = Memory
without_device fault = fault
