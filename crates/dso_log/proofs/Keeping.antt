-- A log with one entry more keeps what a log does.
use Rattle.std.specs.List.{AllByRecursion}
use Rattle.std.proofs.Common.{ℕ, ◌≡◌, ◌<◌, ◌≤◌, ◌-◌, ◌++◌, refl, sym, ◌∙◌, ap, subst, List, [], ◌∷◌, length, reverse, Some, slice_get, slice_index_or, arith}
use Rattle.std.proofs.lemmas.List.{reverse-append, get_or-reverse, length-reverse}
use Rattle.std.proofs.lemmas.Option.{slice_get-get_or}
use Rattle.dso_base.specs.declared.journal.Entry.{Entry}
use Rattle.dso_base.specs.declared.journal.Node.{Node}
use Rattle.dso_log.specs.Logs.{Climbs, LogKeeps, clock_at}

-- what holds of each entry by another fact
pub all_weaker : (P Q : Entry → Type 0) → ((e : Entry) → P e → Q e) → (es : List Entry) → AllByRecursion P es → AllByRecursion Q es
all_weaker P Q weaker [] all = tt
all_weaker P Q weaker (e ∷ es) all = (weaker e all.0, all_weaker P Q weaker es all.1)

-- the clock of the first of a list whose newest is first, 0 where it is empty
abbrev newest_clock : List Entry → ℕ
newest_clock [] = 0
newest_clock (e ∷ es) = e.clock

newest_read : (es : List Entry) (other : Entry) → 0 < length es → newest_clock es ≡ (slice_index_or es 0 other).clock
newest_read [] other some = absurd (omega (arith, some))
newest_read (e ∷ es) other some = refl

-- the last of a list is the first of the list the other way round
last_is_newest : (es : List Entry) → clock_at (slice_get es (length es - 1)) ≡ newest_clock (reverse es)
last_is_newest [] = refl
last_is_newest (e ∷ es) =
    let some : slice_get (e ∷ es) (length (e ∷ es) - 1) ≡ Some (slice_index_or (e ∷ es) (length (e ∷ es) - 1) e) =
    slice_get-get_or (e ∷ es) (length (e ∷ es) - 1) e (omega arith) in
    let turned : slice_index_or (reverse (e ∷ es)) 0 e ≡ slice_index_or (e ∷ es) (length (e ∷ es) - 1) e =
    get_or-reverse (e ∷ es) 0 e (omega arith) ∙ ap (λ k. slice_index_or (e ∷ es) k e) (omega arith) in
    ap clock_at some ∙ sym (ap (λ x. x.clock) turned) ∙ sym (newest_read (reverse (e ∷ es)) e (omega (arith, length-reverse (e ∷ es))))

-- no clock is greater than the newest
newest_is_most : (es : List Entry) → Climbs es → AllByRecursion (λ e. e.clock ≤ newest_clock es) es
newest_is_most [] climbs = tt
newest_is_most (e ∷ es) climbs = (omega arith, all_weaker (λ before. before.clock < e.clock) (λ before. before.clock ≤ e.clock) (λ before less. omega (arith, less)) es climbs.1)

pub keeps_more : (node : Node) (es : List Entry) (e : Entry) → LogKeeps node es → e.node ≡ node
    → clock_at (slice_get es (length es - 1)) < e.clock → LogKeeps node (es ++ e ∷ [])
keeps_more node es e keeps own greater =
    let turned : reverse (es ++ e ∷ []) ≡ e ∷ reverse es = reverse-append es (e ∷ []) in
    let above : newest_clock (reverse es) < e.clock = subst (λ clock. clock < e.clock) (last_is_newest es) greater in
    record {
      own = subst (AllByRecursion (λ x. x.node ≡ node)) (sym turned) (own, keeps.own);
      from_one = subst (AllByRecursion (λ x. 1 ≤ x.clock)) (sym turned) (omega (arith, above), keeps.from_one);
      climbs = subst Climbs (sym turned) (
        keeps.climbs,
        all_weaker (λ x. x.clock ≤ newest_clock (reverse es)) (λ x. x.clock < e.clock)
            (λ x less. omega (arith, less, above)) (reverse es) (newest_is_most (reverse es) keeps.climbs),
      );
    }
