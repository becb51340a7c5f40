-- That no break of a connection is due while it is broken.
use Rattle.std.specs.List.{AllPairs}
use Rattle.std.proofs.Common.{ℕ, suc, ◌+◌, ◌<◌, ◌≤◌, ◌≡◌, ◌≢◌, refl, sym, ◌∙◌, subst, Bool, true, false, cond, eqb, leb, ltb, not, ◌&&◌, ◌||◌, Option, List, [], ◌∷◌, filter, length, slice_index_or, arith}
use Rattle.std.proofs.lemmas.Bool.{eqb-false, eqb-true, leb-false, le-ltb, leb-true, ltb-false}
use Rattle.dso_base.specs.declared.journal.Entry.{Entry}
use Rattle.dso_base.specs.declared.journal.Input.{Input}
use Rattle.dso_base.specs.declared.journal.Input.TheVariants as input
use Rattle.dso_base.specs.declared.journal.Node.{Node}
use Rattle.dso_base.specs.declared.journal.Node.TheVariants.{Server, Client}
use Rattle.dso_base.specs.declared.journal.Trigger.{Trigger}
use Rattle.dso_base.specs.declared.lock.ThreadId.{ThreadId}
use Rattle.dso_base.specs.declared.request.Event.{Event}
use Rattle.dso_base.specs.declared.request.Request.{Request}
use Rattle.dso_law.specs.Settings.{Settings}
use Rattle.dso_law.specs.Entries.{entries_of, is_node}
use Rattle.dso_law.specs.Channels.{FitsConnection, breaks, count_inputs, is_broken, rejoins, takes_up}
use Rattle.dso_law.specs.ServerReadings.{is_break_due, is_loss_due, is_lost, is_reached, loses, taken_count}
use Rattle.dso_law.specs.ServerStep.{ServerStepOn}
use Rattle.dso_legal.specs.Lawful.{AllFollow, NodeFollows}
use Rattle.dso_world.specs.Breaks.{BrokenIsNeverDue}

-- how many of the triggers are for the client, after at most so many messages
abbrev reached : ℕ → ℕ → List Trigger → ℕ
reached c n triggers = length (filter (is_reached c n) triggers)

-- whether it is for the client, after exactly so many
abbrev is_at : ℕ → ℕ → Trigger → Bool
is_at c n trigger = eqb trigger.client c && eqb trigger.after n

abbrev at : ℕ → ℕ → List Trigger → ℕ
at c n triggers = length (filter (is_at c n) triggers)

-- both are true
both : (a b : Bool) → (a && b) ≡ true → (a ≡ true) × (b ≡ true)
both true b is = (refl, is)
both false b is = absurd (cc is)

-- two that are for one client after one number are the same
same_at : (c n : ℕ) (one other : Trigger) → is_at c n one ≡ true → is_at c n other ≡ true → one ≡ other
same_at c n one other is too =
    let a = both (eqb one.client c) (eqb one.after n) is in
    let b = both (eqb other.client c) (eqb other.after n) too in
    let client : one.client ≡ other.client = eqb-true one.client c a.0 ∙ sym (eqb-true other.client c b.0) in
    let after : one.after ≡ other.after = eqb-true one.after n a.1 ∙ sym (eqb-true other.after n b.1) in
    λ i. record { client = client i; after = after i }

-- where none is the same, none is for that client after that number
none_at : (c n : ℕ) (one : Trigger) (rest : List Trigger) → is_at c n one ≡ true → ((j : ℕ) (d : Trigger) → j < length rest → one ≢ slice_index_or rest j d) → at c n rest ≡ 0
none_at c n one [] is none = refl
none_at c n one (other ∷ rest) is none = by (is_at c n other) refl (none_at c n one rest is (λ j d within. none (suc j) d (omega (arith, within))))
  where
    by : (too : Bool) → is_at c n other ≡ too → at c n rest ≡ 0 → length (cond too (other ∷ filter (is_at c n) rest) (filter (is_at c n) rest)) ≡ 0
    by true there later = absurd (none 0 other (omega arith) (same_at c n one other is there))
    by false there later = later

-- at most one is for a client after one number
one_at : (c n : ℕ) (triggers : List Trigger) → AllPairs (λ trigger other. trigger ≢ other) triggers → at c n triggers ≤ 1
one_at c n [] once = omega arith
one_at c n (first ∷ rest) once = by (is_at c n first) refl (one_at c n rest (λ i j d before within. once (suc i) (suc j) d (omega (arith, before)) (omega (arith, within))))
  where
    by : (is : Bool) → is_at c n first ≡ is → at c n rest ≤ 1 → length (cond is (first ∷ filter (is_at c n) rest) (filter (is_at c n) rest)) ≤ 1
    by true is later = let none : at c n rest ≡ 0 = none_at c n first rest is (λ j d within. once 0 (suc j) d (omega arith) (omega (arith, within))) in omega arith
    by false is later = later

-- what is reached by one message more is reached before, or is for that number
one_further : (c n : ℕ) (triggers : List Trigger) → reached c (suc n) triggers ≤ reached c n triggers + at c (suc n) triggers
one_further c n [] = omega arith
one_further c n (first ∷ rest) = by (eqb first.client c) (leb first.after (suc n)) (leb first.after n) (eqb first.after (suc n)) refl refl refl (one_further c n rest)
  where
    by : (its then now is : Bool) → leb first.after (suc n) ≡ then → leb first.after n ≡ now → eqb first.after (suc n) ≡ is → reached c (suc n) rest ≤ reached c n rest + at c (suc n) rest
        → length (cond (its && then) (first ∷ filter (is_reached c (suc n)) rest) (filter (is_reached c (suc n)) rest))
        ≤ length (cond (its && now) (first ∷ filter (is_reached c n) rest) (filter (is_reached c n) rest)) + length (cond (its && is) (first ∷ filter (is_at c (suc n)) rest) (filter (is_at c (suc n)) rest))
    by false then now is a b d later = later
    by true false true true a b d later = omega (arith, later)
    by true false true false a b d later = omega (arith, later)
    by true false false true a b d later = omega (arith, later)
    by true false false false a b d later = later
    by true true true true a b d later = omega (arith, later)
    by true true true false a b d later = omega (arith, later)
    by true true false true a b d later = omega (arith, later)
    by true true false false a b d later = absurd (eqb-false first.after (suc n) d (omega (arith, leb-true first.after (suc n) a, leb-false first.after n b)))

-- and before the first message at most one is
none_before : (c : ℕ) (triggers : List Trigger) → reached c 0 triggers ≤ at c 0 triggers
none_before c [] = omega arith
none_before c (first ∷ rest) = by (eqb first.client c) (leb first.after 0) (eqb first.after 0) refl refl (none_before c rest)
  where
    by : (its then is : Bool) → leb first.after 0 ≡ then → eqb first.after 0 ≡ is → reached c 0 rest ≤ at c 0 rest
        → length (cond (its && then) (first ∷ filter (is_reached c 0) rest) (filter (is_reached c 0) rest)) ≤ length (cond (its && is) (first ∷ filter (is_at c 0) rest) (filter (is_at c 0) rest))
    by false then is a b later = later
    by true false false a b later = later
    by true false true a b later = omega (arith, later)
    by true true true a b later = omega (arith, later)
    by true true false a b later = absurd (eqb-false first.after 0 b (omega (arith, leb-true first.after 0 a)))

-- what a client's connection is after an entry of the server, by what that takes in and what was before
abbrev lost_now : ℕ → Input → Bool → Bool
lost_now c input lost = loses c input || lost

abbrev taken_now : ℕ → Input → ℕ → ℕ
taken_now c input taken = cond (takes_up c input) (suc taken) taken

abbrev breaks_now : ℕ → Input → ℕ → ℕ
breaks_now c input made = cond (breaks c input) (suc made) made

abbrev broken_now : ℕ → Input → Bool → Bool
broken_now c input broken = cond (breaks c input) true (cond (rejoins c input) false broken)

module _ (p : Settings) (once : AllPairs (λ trigger other. trigger ≢ other) p.breaks) (c : ℕ) where
  -- of a client that isn't lost at most one break is reached that wasn't made, and none while its connection is broken
  record FewReached (lost : Bool) (taken made : ℕ) (broken : Bool) : Type 0 where
    one : lost ≡ false → reached c taken p.breaks ≤ made + 1
    none : lost ≡ false → broken ≡ true → reached c taken p.breaks ≤ made

  abbrev FewNow : List Entry → Type 0
  FewNow es = FewReached (is_lost c es) (taken_count c es) (count_inputs (breaks c) es) (is_broken c es)

  -- what is not due was made
  was_made : (es : List Entry) → is_lost c es ≡ false → is_loss_due p c es ≡ false → is_break_due p c es ≡ false → reached c (taken_count c es) p.breaks ≤ count_inputs (breaks c) es
  was_made es lost loss due = by (is_lost c es) (is_loss_due p c es) (ltb (count_inputs (breaks c) es) (reached c (taken_count c es) p.breaks)) lost loss refl due
    where
      by : (a b d : Bool) → a ≡ false → b ≡ false → ltb (count_inputs (breaks c) es) (reached c (taken_count c es) p.breaks) ≡ d → (not a && (not b && d)) ≡ false
          → reached c (taken_count c es) p.breaks ≤ count_inputs (breaks c) es
      by true b d lost loss is due = absurd (cc lost)
      by false true d lost loss is due = absurd (cc loss)
      by false false true lost loss is due = absurd (cc due)
      by false false false lost loss is due = ltb-false (count_inputs (breaks c) es) (reached c (taken_count c es) p.breaks) is

  -- one entry of the server more
  goes_on : (e : Entry) (es : List Entry) → FewNow es → (input : Input) → ServerStepOn p input e es → FitsConnection input es
      → FewReached (lost_now c input (is_lost c es)) (taken_now c input (taken_count c es)) (breaks_now c input (count_inputs (breaks c) es)) (broken_now c input (is_broken c es))
  goes_on e es few (input.TookUp d m) step fits = by (eqb c d) refl
    where
      by : (its : Bool) → eqb c d ≡ its → FewReached (is_lost c es) (cond its (suc (taken_count c es)) (taken_count c es)) (count_inputs (breaks c) es) (is_broken c es)
      by false is = few
      by true is =
          let same : d ≡ c = sym (eqb-true c d is) in
          let whole : is_broken c es ≡ false = subst (λ client. is_broken client es ≡ false) same fits in
          let no_loss : is_loss_due p c es ≡ false = subst (λ client. is_loss_due p client es ≡ false) same step.no_loss in
          let no_break : is_break_due p c es ≡ false = subst (λ client. is_break_due p client es ≡ false) same step.no_break in
          record {
            one = λ lost. omega (arith, was_made es lost no_loss no_break, one_further c (taken_count c es) p.breaks, one_at c (suc (taken_count c es)) p.breaks once);
            none = λ lost broken. absurd (cc (sym whole ∙ broken));
          }
  goes_on e es few (input.Lose d) step fits = by (eqb c d)
    where
      by : (its : Bool) → FewReached (its || is_lost c es) (taken_count c es) (count_inputs (breaks c) es) (is_broken c es)
      by false = few
      by true = record { one = λ lost. absurd (cc lost); none = λ lost broken. absurd (cc lost) }
  goes_on e es few (input.Break d) step fits = by (eqb c d)
    where
      by : (its : Bool) → FewReached (is_lost c es) (taken_count c es) (cond its (suc (count_inputs (breaks c) es)) (count_inputs (breaks c) es)) (cond its true (is_broken c es))
      by false = few
      by true = record { one = λ lost. omega (arith, few.one lost); none = λ lost broken. omega (arith, few.one lost) }
  goes_on e es few (input.Rejoin d) step fits = by (eqb c d)
    where
      by : (its : Bool) → FewReached (is_lost c es) (taken_count c es) (count_inputs (breaks c) es) (cond its false (is_broken c es))
      by false = few
      by true = record { one = few.one; none = λ lost broken. absurd (cc broken) }
  goes_on e es few (input.Act index) step fits = absurd step
  goes_on e es few (input.TookDown m) step fits = absurd step
  goes_on e es few (input.Flush o) step fits = absurd step

  module _ (next : ThreadId → List Event → Option Request) where
    few_reached : (es : List Entry) → AllFollow p next es → FewNow (entries_of Server es)
    few_reached [] follow = record {
      one = λ lost. omega (arith, none_before c p.breaks, one_at c 0 p.breaks once);
      none = λ lost broken. absurd (cc broken);
    }
    few_reached (e ∷ es) follow = by e.node follow.1.rule (few_reached es follow.0)
      where
        by : (node : Node) → NodeFollows p next node e es → FewNow (entries_of Server es) → FewNow (cond (is_node Server node) (e ∷ entries_of Server es) (entries_of Server es))
        by Server rule few = goes_on e (entries_of Server es) few e.input rule.step rule.connection
        by (Client d) rule few = few

-- what is made is not due
never_due : (p : Settings) (c : ℕ) (es : List Entry) → (is_lost c es ≡ false → reached c (taken_count c es) p.breaks ≤ count_inputs (breaks c) es) → is_break_due p c es ≡ false
never_due p c es made = by (is_lost c es) (is_loss_due p c es) made
  where
    by : (a b : Bool) → (a ≡ false → reached c (taken_count c es) p.breaks ≤ count_inputs (breaks c) es) → (not a && (not b && ltb (count_inputs (breaks c) es) (reached c (taken_count c es) p.breaks))) ≡ false
    by true b made = refl
    by false true made = refl
    by false false made = le-ltb (count_inputs (breaks c) es) (reached c (taken_count c es) p.breaks) (made refl)

pub broken_is_never_due : BrokenIsNeverDue
broken_is_never_due p next es lawful once c broken =
    let few : FewNow p once c (entries_of Server es) = few_reached p once c next es lawful.follow in
    never_due p c (entries_of Server es) (λ lost. few.none lost broken)
