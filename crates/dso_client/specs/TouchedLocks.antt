-- Which lease a message may make due.
use Rattle.std.specs.Prelude.{Option, Some, None}
use Rattle.dso_base.specs.declared.lock.LockName.{LockName}
use Rattle.dso_base.specs.declared.message.Down.{Down}
use Rattle.dso_base.specs.declared.message.Down.TheVariants.{Ids, Object, Grant, Recall, Ack, Changes, Wake}
use Rattle.dso_base.specs.declared.request.Request.{Request}
use Rattle.dso_base.specs.declared.request.Request.TheVariants.{Resume}
use Rattle.dso_client.specs.RunPoints.{RunPoint}

-- the lock that a thread wants that goes on after a wait
abbrev pub resumed_lock : Option Request → Option LockName
resumed_lock (Some (Resume l)) = Some l
resumed_lock request = None

-- a recall, of its lock; a waking, of the lock that the woken thread now wants at Write; all others none
abbrev pub touched : RunPoint → Down → Option LockName
touched at (Ids first) = None
touched at (Object body) = None
touched at (Grant l level) = None
touched at (Recall l) = Some l
touched at (Ack seq) = None
touched at (Changes sets) = None
touched at (Wake l t) = resumed_lock (at.next t)
