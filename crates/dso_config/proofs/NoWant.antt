-- Where an allocation was refused nothing is told of a text.
use Rattle.std.proofs.Common.{◌≡◌, Option, subst}
use Rattle.dso_base.specs.declared.no_memory.NoMemory.{NoMemory}
use Rattle.dso_config.specs.declared.fault.ConfigFault.{ConfigFault}
use Rattle.dso_config.specs.declared.fault.ConfigFault.TheVariants as fault
use Rattle.dso_config.specs.Keys.{IsOfText, IsTold}

-- what is told of a refused allocation says nothing of what is wrong
pub untold : (wrong : Option ConfigFault) (told : ConfigFault) (refused : NoMemory) → told ≡ fault.NoMemory refused → IsTold wrong told
untold wrong told refused is = record { is = λ of_text. absurd (subst IsOfText is of_text) }
