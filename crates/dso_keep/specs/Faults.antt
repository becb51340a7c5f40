-- What a fault of the disk is to who asks the store.
use Rattle.dso_io.specs.declared.environment.FileFault.{FileFault}
use Rattle.dso_io.specs.declared.environment.FileFault.TheVariants as told
use Rattle.dso_keep.specs.declared.fault.KeepFault.{KeepFault}
use Rattle.dso_keep.specs.declared.fault.KeepFault.TheVariants as fault

abbrev pub fault_told : FileFault → KeepFault
fault_told told.Failed = fault.Disk
fault_told (told.NoMemory refused) = fault.NoMemory refused
