-- While a client's connection is broken, the server has taken it up again less often than it broke.
use Rattle.std.proofs.Common.{ℕ, suc, ◌+◌, ◌≤◌, ◌≡◌, refl, sym, Bool, true, false, cond, eqb, subst, Option, List, [], ◌∷◌, arith}
use Rattle.dso_base.specs.declared.journal.Entry.{Entry}
use Rattle.dso_base.specs.declared.journal.Input.{Input}
use Rattle.dso_base.specs.declared.journal.Input.TheVariants as input
use Rattle.dso_base.specs.declared.journal.Node.{Node}
use Rattle.dso_base.specs.declared.journal.Node.TheVariants.{Server, Client}
use Rattle.dso_base.specs.declared.lock.ThreadId.{ThreadId}
use Rattle.dso_base.specs.declared.request.Event.{Event}
use Rattle.dso_base.specs.declared.request.Request.{Request}
use Rattle.dso_plain.proofs.keys.SameKeys.{same_number}
use Rattle.dso_law.specs.Settings.{Settings}
use Rattle.dso_law.specs.Channels.{FitsConnection, breaks, count_inputs, is_broken, rejoins}
use Rattle.dso_law.specs.Entries.{entries_of, is_node}
use Rattle.dso_legal.specs.Lawful.{AllFollow, NodeFollows}

module _ (c : ℕ) where
  -- how many breaks are at least there
  record Counted (broken : Bool) (rejoined broke : ℕ) : Type 0 where
    most : rejoined ≤ broke
    fewer : broken ≡ true → rejoined + 1 ≤ broke

  abbrev CountedNow : List Entry → Type 0
  CountedNow server = Counted (is_broken c server) (count_inputs (rejoins c) server) (count_inputs (breaks c) server)

  -- with one entry of the server more
  one_more : (input : Input) (server : List Entry) → FitsConnection input server → CountedNow server
      → Counted (cond (breaks c input) true (cond (rejoins c input) false (is_broken c server))) (cond (rejoins c input) (suc (count_inputs (rejoins c) server)) (count_inputs (rejoins c) server))
      (cond (breaks c input) (suc (count_inputs (breaks c) server)) (count_inputs (breaks c) server))
  one_more (input.Break d) server fits before = by (eqb c d)
    where
      by : (its : Bool) → Counted (cond its true (is_broken c server)) (count_inputs (rejoins c) server) (cond its (suc (count_inputs (breaks c) server)) (count_inputs (breaks c) server))
      by true = record { most = omega (arith, before.most); fewer = λ broken. omega (arith, before.most) }
      by false = before
  one_more (input.Rejoin d) server fits before = by (eqb c d) refl
    where
      by : (its : Bool) → eqb c d ≡ its → Counted (cond its false (is_broken c server)) (cond its (suc (count_inputs (rejoins c) server)) (count_inputs (rejoins c) server)) (count_inputs (breaks c) server)
      by true is =
          let broken : is_broken c server ≡ true = subst (λ n. is_broken n server ≡ true) (sym (same_number c d is)) fits in
          record { most = omega (arith, before.fewer broken); fewer = λ still. absurd (cc still) }
      by false is = before
  one_more (input.TookUp d m) server fits before = before
  one_more (input.TookDown m) server fits before = before
  one_more (input.Act index) server fits before = before
  one_more (input.Flush o) server fits before = before
  one_more (input.Lose d) server fits before = before

  module _ (p : Settings) (next : ThreadId → List Event → Option Request) where
    counted_all : (es : List Entry) → AllFollow p next es → CountedNow (entries_of Server es)
    counted_all [] follow = record { most = omega arith; fewer = λ broken. absurd (cc broken) }
    counted_all (e ∷ es) follow = by e.node follow.1.rule (counted_all es follow.0)
      where
        by : (node : Node) → NodeFollows p next node e es → CountedNow (entries_of Server es) → CountedNow (cond (is_node Server node) (e ∷ entries_of Server es) (entries_of Server es))
        by Server rule before = one_more e.input (entries_of Server es) rule.connection before
        by (Client d) rule before = before

    -- A connection that is broken broke more often than the server took it up again.
    pub rejoins_left : (es : List Entry) → AllFollow p next es → is_broken c (entries_of Server es) ≡ true
        → count_inputs (rejoins c) (entries_of Server es) + 1 ≤ count_inputs (breaks c) (entries_of Server es)
    rejoins_left es follow broken = (counted_all es follow).fewer broken
