-- The next id, as the pool has it.
use Rattle.std.proofs.Common.{◌≡◌, ◌+◌, ◌<◌, ◌≤◌, sym, ◌∙◌, ap, cond, ltb, Some, None, List, arith}
use Rattle.std.proofs.lemmas.Bool.{lt-ltb, le-ltb}
use Rattle.dso_base.specs.declared.journal.Entry.{Entry}
use Rattle.dso_law.specs.Records.{next_id}
use Rattle.dso_law.specs.IdsAhead.{ids_from}
use Rattle.dso_law.proofs.core.Ids.{ids_are_ahead}
use Rattle.dso_ids.specs.Ids.{Ids}
use Rattle.dso_client.specs.SequencesStand.{ids_in}

-- the first id of the pool is the next one
pub next_told : (pool : Ids) (es : List Entry) → ids_in pool 0 ≡ ids_from 0 es → next_id es ≡ cond (ltb pool.next pool.end) (Some pool.next) None
next_told pool es e =
    let zero_more : pool.next + 0 ≡ pool.next = omega arith in
    sym (ids_are_ahead.next es) ∙ (sym e ∙ ap (λ n. cond (ltb n pool.end) (Some n) None) zero_more)

-- there is one
pub next_there : (pool : Ids) (es : List Entry) → ids_in pool 0 ≡ ids_from 0 es → pool.next < pool.end → next_id es ≡ Some pool.next
next_there pool es e less = next_told pool es e ∙ ap (λ b. cond b (Some pool.next) None) (lt-ltb pool.next pool.end less)

-- there is none
pub next_gone : (pool : Ids) (es : List Entry) → ids_in pool 0 ≡ ids_from 0 es → pool.end ≤ pool.next → next_id es ≡ None
next_gone pool es e most = next_told pool es e ∙ ap (λ b. cond b (Some pool.next) None) (le-ltb pool.next pool.end most)
