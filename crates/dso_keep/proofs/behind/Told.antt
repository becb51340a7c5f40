-- What follows for each file that is told.
use Rattle.std.proofs.Common.{Option, Some, None}
use Rattle.std.specs.Option.{IfSome}
use Rattle.dso_keep.specs.Disk.{File}

pub each_told : (P Q : File → Type 0) (file : Option File) → ((f : File) → P f → Q f) → IfSome file P → IfSome file Q
each_told P Q None so told = tt
each_told P Q (Some f) so told = so f told

pub both_told : (P Q : File → Type 0) (file : Option File) → IfSome file P → IfSome file Q → IfSome file (λ f. P f × Q f)
both_told P Q None p q = tt
both_told P Q (Some f) p q = (p, q)

pub always_told : (Q : File → Type 0) (file : Option File) → ((f : File) → Q f) → IfSome file Q
always_told Q None so = tt
always_told Q (Some f) so = so f
