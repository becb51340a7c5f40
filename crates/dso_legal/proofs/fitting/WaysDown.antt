-- What is in flight to a client may come where the client's reading stands, for a lost client too: it is told nothing more, and
-- what it says itself leaves what is in flight to it in place.
use Rattle.std.proofs.Common.{Bool, List, Option, [], ap, cond, drop, eqb, false, refl, subst, sym, true, ℕ, ◌++◌, ◌∙◌, ◌∷◌, ◌≡◌}
use Rattle.std.proofs.lemmas.List.{append-nil}
use Rattle.dso_base.specs.declared.journal.Entry.{Entry}
use Rattle.dso_base.specs.declared.journal.Input.{Input}
use Rattle.dso_base.specs.declared.journal.Input.TheVariants as input
use Rattle.dso_base.specs.declared.journal.Node.{Node}
use Rattle.dso_base.specs.declared.journal.Node.TheVariants.{Client, Server}
use Rattle.dso_base.specs.declared.lock.ThreadId.{ThreadId}
use Rattle.dso_base.specs.declared.message.Down.{Down}
use Rattle.dso_base.specs.declared.message.Up.{Up}
use Rattle.dso_base.specs.declared.request.Event.{Event}
use Rattle.dso_base.specs.declared.request.Request.{Request}
use Rattle.dso_plain.proofs.keys.SameKeys.{same_number}
use Rattle.dso_law.specs.Channels.{IsFirst, Letter, TakesFirst, down_in_flight, takes_down}
use Rattle.dso_law.specs.Entries.{by_taken_down, entries_of}
use Rattle.dso_law.specs.ServerReadings.{is_lost}
use Rattle.dso_law.specs.Settings.{Settings}
use Rattle.dso_legal.specs.Agreement.{EachMay, after, messages}
use Rattle.dso_legal.specs.Lawful.{AllFollow, ClientFollows, NodeFollows}
use Rattle.dso_legal.proofs.channels.AfterEntry.{OtherTurn, OwnTurn, ServerTurn, other_turn, own_turn, server_turn}
use Rattle.dso_legal.proofs.channels.Agreement.{Commutes, up_past}
use Rattle.dso_legal.proofs.channels.InFlight.{said_of, said_status, told_to}
use Rattle.dso_legal.proofs.fitting.LostClients.{lost_told_none}
use Rattle.dso_legal.proofs.records.BothEnds.{ClientEnd, Ends, ends_agree}

module _ {S : Type 0} (p : Settings) (next : ThreadId → List Event → Option Request) (c : ℕ) (may_up : Up → S → Type 0) (step_up : Up → S → S) (may_down : Down → S → Type 0) (step_down : Down → S → S) (client server : List Entry → S) where
  -- all in flight to the client may come
  abbrev pub DownsAt : List Entry → Type 0
  DownsAt es = EachMay may_down step_down (messages (down_in_flight c es)) (client (entries_of (Client c) es))

  -- the first is taken
  taken_down : (i : Input) (letters : List (Letter Down)) (es : List Entry) (s : S) → letters ≡ down_in_flight c es → TakesFirst i (Client c) es → EachMay may_down step_down (messages letters) s
      → EachMay may_down step_down (cond (takes_down i) (drop 1 (messages letters)) (messages letters)) (by_taken_down step_down i s)
  taken_down (input.TookDown m) [] es s same first h = tt
  taken_down (input.TookDown m) (letter ∷ letters) es s same first h =
      let it : IsFirst m (letter ∷ letters) = subst (IsFirst m) (sym same) first in
      subst (λ n. EachMay may_down step_down (messages letters) (step_down n s)) (sym it) h.1
  taken_down other letters es s same first h = h

  module _ (commutes : Commutes may_up step_up may_down step_down) where
    -- messages that the client sends leave the others where they may come
    past_all : (ms : List Up) (downs : List Down) (s : S) → EachMay may_up step_up ms s → EachMay may_down step_down downs s → EachMay may_down step_down downs (after step_up ms s)
    past_all [] downs s may h = h
    past_all (m ∷ ms) downs s may h = past_all ms downs (step_up m s) may.1 (up_past may_up step_up may_down step_down commutes m downs s may.0 h).comes

    module _ (e : Entry) (es : List Entry) (follow : AllFollow p next (e ∷ es)) (lost : is_lost c (entries_of Server (e ∷ es)) ≡ true)
        (at_client : TakesFirst e.input (Client c) es → ClientFollows p next c e es → ClientEnd p next c may_up step_up may_down step_down client server e (entries_of (Client c) es)) (before : DownsAt es) where
      own_downs : e.node ≡ Client c → DownsAt (e ∷ es)
      own_downs node =
          let own : List Entry = entries_of (Client c) es in
          let turn : OwnTurn c e es = own_turn c e es node in
          let rule : ClientFollows p next c e es = subst (λ n. NodeFollows p next n e es) node follow.1.rule in
          let first : TakesFirst e.input (Client c) es = subst (λ n. TakesFirst e.input n es) node follow.1.channels in
          let end = at_client first rule in
          let left : List Down = cond (takes_down e.input) (drop 1 (messages (down_in_flight c es))) (messages (down_in_flight c es)) in
          let s : S = by_taken_down step_down e.input (client own) in
          subst (λ downs. EachMay may_down step_down downs (client (entries_of (Client c) (e ∷ es)))) (sym turn.down)
          (subst (λ entries. EachMay may_down step_down left (client entries)) (sym turn.own)
          (subst (EachMay may_down step_down left) (sym (end.reads ∙ said_status step_up e.sent s))
          (past_all (said_of e.sent) left s end.comes (taken_down e.input (down_in_flight c es) es (client own) refl first before))))

      downs_at_node : (node : Node) → e.node ≡ node → DownsAt (e ∷ es)
      downs_at_node Server node =
          let turn : ServerTurn c e es = server_turn c e es node in
          let told : told_to c e.sent ≡ [] = lost_told_none p next c e es follow node lost in
          subst (λ downs. EachMay may_down step_down downs (client (entries_of (Client c) (e ∷ es))))
          (sym (turn.down ∙ ap (λ ms. messages (down_in_flight c es) ++ ms) told ∙ append-nil (messages (down_in_flight c es))))
          (subst (λ entries. EachMay may_down step_down (messages (down_in_flight c es)) (client entries)) (sym turn.own) before)
      downs_at_node (Client d) node = by (eqb c d) refl
        where
          by : (b : Bool) → eqb c d ≡ b → DownsAt (e ∷ es)
          by true same = own_downs (node ∙ ap Client (sym (same_number c d same)))
          by false other =
              let turn : OtherTurn c e es = other_turn c d e es node other in
              subst (λ letters. EachMay may_down step_down (messages letters) (client (entries_of (Client c) (e ∷ es)))) (sym turn.down)
              (subst (λ entries. EachMay may_down step_down (messages (down_in_flight c es)) (client entries)) (sym turn.own) before)

      -- So after an entry by which, or before which, the client is lost.
      pub downs_after : DownsAt (e ∷ es)
      downs_after = downs_at_node e.node refl

    -- Where both ends agree, so it is for a client that isn't lost and for one that is.
    pub downs_come : Ends p next c may_up step_up may_down step_down client server → (es : List Entry) → AllFollow p next es → DownsAt es
    downs_come ends [] follow = tt
    downs_come ends (e ∷ es) follow = by (is_lost c (entries_of Server (e ∷ es))) refl (downs_come ends es follow.0)
      where
        by : (lost : Bool) → is_lost c (entries_of Server (e ∷ es)) ≡ lost → DownsAt es → DownsAt (e ∷ es)
        by true lost before = downs_after e es follow lost (λ first rule. ends.at_client e es follow.0 rule) before
        by false alive before = (ends_agree p next c may_up step_up may_down step_down client server commutes ends (e ∷ es) follow alive).downs
