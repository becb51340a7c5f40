-- What a sink is given of a text: each put is given all that is left of it, and after a fault nothing is given.
use Rattle.std.specs.Prelude.{ℕ, ◌+◌, ◌<◌, List, length, drop, Result, Ok, Err}
use Rattle.dso_io.specs.declared.environment.Failed.{Failed}

-- For what is told of a put (the sink before it, the bytes that it was given, its answer, and the sink after it), a
-- text, and the sink before the first put:
module _ {S : Type 0} (Puts : S → List ℕ → Result ℕ Failed → S → Type 0) (text : List ℕ) (before : S) where
  -- Puts of all that was left each took something, so many bytes in all, and the sink is this one then.
  pub data GaveRests : ℕ → S → Type 0 where
    nothing : GaveRests 0 before
    rest : (written count : ℕ) (sink next : S)
        → GaveRests written sink
        → written < length text
        → Puts sink (drop written text) (Ok count) next
        → GaveRests (written + count) next

  -- The last put, of all that was left then, failed.
  pub record GaveUntilFault (after : S) : Type 0 where
    pub written : ℕ
    pub sink : S
    pub fault : Failed
    pub gave : GaveRests written sink
    pub some_left : written < length text
    pub failed : Puts sink (drop written text) (Err fault) after
