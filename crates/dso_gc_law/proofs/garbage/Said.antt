-- What an entry adds to what is in flight between a client and the server: what is named then was named before, or the
-- entry's messages name it.
use Rattle.std.specs.List.{list_any}
use Rattle.std.proofs.Common.{ℕ, suc, ◌<◌, ◌≡◌, ◌⊎◌, inl, inr, refl, sym, ◌∙◌, ap, Bool, true, false, cond, eqb, ◌||◌}
use Rattle.std.proofs.Common.{List, [], ◌∷◌, length, drop, Contains, arith}
use Rattle.std.proofs.lemmas.Bool.{or_cases}
use Rattle.std.proofs.lemmas.List.Folds.{list_any-append}
use Rattle.dso_base.specs.declared.journal.Entry.{Entry}
use Rattle.dso_base.specs.declared.journal.Sent.{Sent}
use Rattle.dso_base.specs.declared.journal.Sent.TheVariants.{ToServer, ToClient}
use Rattle.dso_base.specs.declared.message.Down.{Down}
use Rattle.dso_base.specs.declared.message.Up.{Up}
use Rattle.dso_base.specs.Naming.{up_names, down_names}
use Rattle.dso_lookup.proofs.Tests.{left_holds, right_holds}
use Rattle.dso_law.specs.Channels.{up_in_flight, down_in_flight, takes_up, takes_down}
use Rattle.dso_legal.specs.Agreement.{messages}
use Rattle.dso_legal.specs.Collection.{is_in_flight}
use Rattle.dso_legal.proofs.channels.AfterEntry.{OwnTurn, OtherTurn, ServerTurn}
use Rattle.dso_legal.proofs.channels.InFlight.{said_of, told_to}
use Rattle.dso_gc_law.specs.Garbage.{sent_names}

-- ---- lists

-- where one passes a test, this one is there and does
pub item_there : {X : Type 0} (test : X → Bool) (xs : List X) → list_any test xs ≡ true
    → (x : X) × Contains xs x × (test x ≡ true)
item_there test [] is = absurd (cc is)
item_there test (x ∷ xs) is = elim (or_cases (test x) (list_any test xs) is) [
  | inl here ↦ (x, (0, omega arith, refl), here)
  | inr later ↦
      let it = item_there test xs later in
      let place = it.1 in
      let below : place.0 < length xs = place.1 in
      (it.0, (suc place.0, omega (arith, below), place.2), it.2)
]

-- what is in the list once its first item is dropped was in it
pub in_rest : {X : Type 0} (test : X → Bool) (b : Bool) (xs : List X)
    → list_any test (cond b (drop 1 xs) xs) ≡ true → list_any test xs ≡ true
in_rest test true [] is = is
in_rest test true (x ∷ xs) is = right_holds (test x) (list_any test xs) is
in_rest test false xs is = is

-- ---- messages

module _ (o : ℕ) where
  -- whether one of the messages to the server, or of those to a client, names the object
  abbrev pub ups_name : List Up → Bool
  ups_name ms = list_any (λ m. up_names m o) ms

  abbrev pub downs_name : List Down → Bool
  downs_name ms = list_any (λ m. down_names m o) ms

  -- and whether one of those sent does
  abbrev pub say_it : List Sent → Bool
  say_it out = list_any (λ m. sent_names m o) out

  -- what is said to the server is sent
  said_is_sent : (out : List Sent) → ups_name (said_of out) ≡ true → say_it out ≡ true
  said_is_sent [] is = is
  said_is_sent (ToServer m ∷ out) is = elim (or_cases (up_names m o) (ups_name (said_of out)) is) [
    | inl here ↦ left_holds (up_names m o) (say_it out) here
    | inr later ↦ right_holds (up_names m o) (say_it out) (said_is_sent out later)
  ]
  said_is_sent (ToClient c m ∷ out) is = right_holds (down_names m o) (say_it out) (said_is_sent out is)

  -- and so what a client is told
  told_is_sent : (c : ℕ) (out : List Sent) → downs_name (told_to c out) ≡ true → say_it out ≡ true
  told_is_sent c [] is = is
  told_is_sent c (ToServer m ∷ out) is = right_holds (up_names m o) (say_it out) (told_is_sent c out is)
  told_is_sent c (ToClient d m ∷ out) is = by (eqb c d) is (told_is_sent c out)
    where
      by : (b : Bool) → downs_name (cond b (m ∷ told_to c out) (told_to c out)) ≡ true
          → (downs_name (told_to c out) ≡ true → say_it out ≡ true) → (down_names m o || say_it out) ≡ true
      by true is later_sent = elim (or_cases (down_names m o) (downs_name (told_to c out)) is) [
        | inl here ↦ left_holds (down_names m o) (say_it out) here
        | inr later ↦ right_holds (down_names m o) (say_it out) (later_sent later)
      ]
      by false is later_sent = right_holds (down_names m o) (say_it out) (later_sent is)

  module _ (c : ℕ) (e : Entry) (es : List Entry) where
    abbrev ups : Bool
    ups = ups_name (messages (up_in_flight c es))

    abbrev downs : Bool
    downs = downs_name (messages (down_in_flight c es))

    abbrev new_ups : Bool
    new_ups = ups_name (messages (up_in_flight c (e ∷ es)))

    abbrev new_downs : Bool
    new_downs = downs_name (messages (down_in_flight c (e ∷ es)))

    -- named in flight before, or now sent
    abbrev IsSaid : Type 0
    IsSaid = (is_in_flight c es o ≡ true) ⊎ (say_it e.sent ≡ true)

    -- an entry of the client
    pub said_by_own : OwnTurn c e es → is_in_flight c (e ∷ es) o ≡ true → IsSaid
    said_by_own turn is =
        elim (or_cases new_ups new_downs is) [
          | inl up ↦
              let all = list_any-append (λ m. up_names m o) (messages (up_in_flight c es)) (said_of e.sent) in
              elim (or_cases ups (ups_name (said_of e.sent)) (sym all ∙ sym (ap ups_name turn.up) ∙ up)) [
                | inl before ↦ inl (left_holds ups downs before)
                | inr now ↦ inr (said_is_sent e.sent now)
              ]
          | inr down ↦
              let rest = sym (ap downs_name turn.down) ∙ down in
              inl (right_holds ups downs
              (in_rest (λ m. down_names m o) (takes_down e.input) (messages (down_in_flight c es)) rest))
        ]

    -- one of the server
    pub said_by_server : ServerTurn c e es → is_in_flight c (e ∷ es) o ≡ true → IsSaid
    said_by_server turn is =
        elim (or_cases new_ups new_downs is) [
          | inl up ↦
              let rest = sym (ap ups_name turn.up) ∙ up in
              inl (left_holds ups downs
              (in_rest (λ m. up_names m o) (takes_up c e.input) (messages (up_in_flight c es)) rest))
          | inr down ↦
              let all = list_any-append (λ m. down_names m o) (messages (down_in_flight c es)) (told_to c e.sent) in
              elim (or_cases downs (downs_name (told_to c e.sent)) (sym all ∙ sym (ap downs_name turn.down) ∙ down)) [
                | inl before ↦ inl (right_holds ups downs before)
                | inr now ↦ inr (told_is_sent c e.sent now)
              ]
        ]

    -- one of another client
    pub said_by_other : OtherTurn c e es → is_in_flight c (e ∷ es) o ≡ is_in_flight c es o
    said_by_other turn =
        ap (λ letters. ups_name (messages letters) || new_downs) turn.up
        ∙ ap (λ letters. ups || downs_name (messages letters)) turn.down
