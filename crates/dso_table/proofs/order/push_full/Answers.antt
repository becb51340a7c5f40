use Rattle.std.proofs.Common.{◌-◌, ◌<◌, ℕ, List, sym, ◌∙◌, ap, subst, drop, length, arith}
use Rattle.std.specs.Map.{keys_of}
use Rattle.lru.specs.LruCache.{lru_cache}
use Rattle.dso_table.specs.ObjectTables.{JoinedBy}
use Rattle.dso_table.proofs.uses.Joining.{put_absent, last_key, last_listed, joined_one, left_again}
use Rattle.dso_table.proofs.order.push_full.Goals as goal

pub returns-in-Ok-clause-pushed : goal.returns-in-Ok-clause-pushed
returns-in-Ok-clause-pushed c = c.in-Ok.ensures.entries ∙ ap (λ es. lru_cache es c.args.recent.now.cap) (put_absent c.args.recent.now c.args.object c.requires.new)

pub returns-in-Ok-clause-joined : goal.returns-in-Ok-clause-joined
returns-in-Ok-clause-joined c =
    let es = c.args.recent.now.entries in
    let last : ℕ × Unit {0} = (c.in-Some.last.now, c.in-Some.field-0-1.now) in
    let some : 0 < length es = omega (arith, c.requires.some, c.requires.full) in
    let absent = c.requires.apart last.0 (last_listed es last some (sym c.in-Some.ensures)) in
    let one = joined_one c.args.others.now c.insert.new.self last.0 absent c.in_ok-insert.ensures.updates.0 c.in_ok-insert.field-0 c.in_ok-insert.ensures.added c.in_ok-insert.ensures.len in
    subst (λ (xs : List ℕ). JoinedBy xs c.args.others.now c.insert.new.self) (sym (ap (λ n. drop (n - 1) (keys_of es)) (sym c.requires.full) ∙ last_key es last some (sym c.in-Some.ensures))) one

pub returns-in-Err-clause-same_others : goal.returns-in-Err-clause-same_others
returns-in-Err-clause-same_others c =
    let es = c.args.recent.now.entries in
    let last : ℕ × Unit {0} = (c.in-Some.last.now, c.in-Some.field-0-1.now) in
    let some : 0 < length es = omega (arith, c.requires.some, c.requires.full) in
    let absent = c.requires.apart last.0 (last_listed es last some (sym c.in-Some.ensures)) in
    let one = joined_one c.args.others.now c.insert.new.self last.0 absent c.in_ok-insert.ensures.updates.0 c.in_ok-insert.field-0 c.in_ok-insert.ensures.added c.in_ok-insert.ensures.len in
    left_again c.args.others.now c.insert.new.self last.0 absent c.in_ok-insert.ensures.updates.0 c.remove.new.self c.remove.result one.number c.remove.ensures.updates.0 c.remove.ensures.test c.remove.ensures.len
