-- What a cluster runs by, and its numbers of clients and threads.
use Rattle.std.specs.Prelude.{ℕ, zero, suc, eqb, List, [], ◌∷◌, ◌++◌, filter}
use Rattle.dso_base.specs.declared.journal.Trigger.{Trigger}
use Rattle.dso_base.specs.declared.lock.ThreadId.{ThreadId}
use Rattle.dso_base.specs.declared.shape.Shape.{Shape}

-- what the nodes know of a program and its configuration: the shape of its classes, how many clients there are, how
-- many objects a client keeps before it flushes, the threads, and when clients are lost and connections broken
pub record Settings : Type 0 where
  pub shape : Shape
  pub clients : ℕ
  pub resident : ℕ
  pub threads : List ThreadId
  pub losses : List Trigger
  pub breaks : List Trigger

-- how many ids are in a batch
abbrev pub batch_size : ℕ
batch_size = 256

-- the numbers from 1 to n, rising
abbrev pub up_to : ℕ → List ℕ
up_to zero = []
up_to (suc n) = up_to n ++ suc n ∷ []

-- the numbers of the clients, rising
abbrev pub clients_of : Settings → List ℕ
clients_of p = up_to p.clients

-- the threads of a client
abbrev pub threads_of : Settings → ℕ → List ThreadId
threads_of p c = filter (λ t. eqb t.client c) p.threads
