-- Two ends that keep a status by the same steps of messages agree, whatever the status and the messages are, where messages of
-- the two directions commute; so they do where it is always one end's turn to speak.
use Rattle.std.proofs.Common.{◌≡◌, ◌⊎◌, inl, inr, refl, sym, ◌∙◌, ap, subst, List, [], ◌∷◌, ◌++◌}
use Rattle.std.proofs.lemmas.List.{append_assoc, append-nil}
use Rattle.dso_legal.specs.Agreement.{after, EachMay, Agree}

-- the status after two lists of messages
pub after_append : {M S : Type 0} (step : M → S → S) (xs ys : List M) (s : S) → after step (xs ++ ys) s ≡ after step ys (after step xs s)
after_append step [] ys s = refl
after_append step (x ∷ xs) ys s = after_append step xs ys (step x s)

module _ {M S : Type 0} (may : M → S → Type 0) (step : M → S → S) where
  -- the messages of two lists may come one after the other
  pub may_append : (xs ys : List M) (s : S) → EachMay may step xs s → EachMay may step ys (after step xs s) → EachMay may step (xs ++ ys) s
  may_append [] ys s p q = q
  may_append (x ∷ xs) ys s p q = (p.0, may_append xs ys (step x s) p.1 q)

  -- the message may always come and changes nothing
  abbrev pub IsDeaf : M → Type 0
  IsDeaf m = (s : S) → may m s × (step m s ≡ s)

  -- the messages may always come and change nothing
  pub record AllDeaf (ms : List M) : Type 0 where
    pub comes : (s : S) → EachMay may step ms s
    pub stays : (s : S) → after step ms s ≡ s

  -- one more of them
  pub more_deaf : (m : M) (ms : List M) → IsDeaf m → AllDeaf ms → AllDeaf (m ∷ ms)
  more_deaf m ms d h = record {
    comes = λ s. ((d s).0, h.comes (step m s));
    stays = λ s. h.stays (step m s) ∙ (d s).1;
  }

module _ {U D S : Type 0} (may_up : U → S → Type 0) (step_up : U → S → S) (may_down : D → S → Type 0) (step_down : D → S → S) where
  -- the server takes the first in flight to it
  pub took_up : (m : U) (up : List U) (down : List D) (server client : S) → Agree may_up step_up may_down step_down (m ∷ up) down server client
      → Agree may_up step_up may_down step_down up down (step_up m server) client
  took_up m up down server client a = record { ups = a.ups.1; downs = a.downs; meet = a.meet }

  -- the client takes the first in flight to it
  pub took_down : (m : D) (up : List U) (down : List D) (server client : S) → Agree may_up step_up may_down step_down up (m ∷ down) server client
      → Agree may_up step_up may_down step_down up down server (step_down m client)
  took_down m up down server client a = record { ups = a.ups; downs = a.downs.1; meet = a.meet }

module _ {U D S : Type 0} (may_up : U → S → Type 0) (step_up : U → S → S) (may_down : D → S → Type 0) (step_down : D → S → S) where
  -- a message up and one down that may both come in a status: each may come after the other, and the order makes no
  -- difference
  pub record Commute (m : U) (d : D) (s : S) : Type 0 where
    pub down_later : may_down d (step_up m s)
    pub up_later : may_up m (step_down d s)
    pub same : step_down d (step_up m s) ≡ step_up m (step_down d s)

  -- Messages commute wherever both may come.
  abbrev pub Commutes : Type 0
  Commutes = (m : U) (d : D) (s : S) → may_up m s → may_down d s → Commute m d s

  -- a message up that is deaf commutes with each down
  pub deaf_up : (m : U) (d : D) (s : S) → IsDeaf may_up step_up m → may_down d s → Commute m d s
  deaf_up m d s deaf may = record {
    down_later = subst (may_down d) (sym (deaf s).1) may;
    up_later = (deaf (step_down d s)).0;
    same = ap (step_down d) (deaf s).1 ∙ sym (deaf (step_down d s)).1;
  }

  -- and one down that is deaf with each up
  pub deaf_down : (m : U) (d : D) (s : S) → IsDeaf may_down step_down d → may_up m s → Commute m d s
  deaf_down m d s deaf may = record {
    down_later = (deaf (step_up m s)).0;
    up_later = subst (may_up m) (sym (deaf s).1) may;
    same = (deaf (step_up m s)).1 ∙ ap (step_up m) (sym (deaf s).1);
  }

  -- The turns: a message up that isn't deaf comes only in a status in which the client speaks, one down only in one in
  -- which the server speaks, and never do both.
  pub record Turns (UpSpeaks DownSpeaks : S → Type 0) : Type 0 where
    pub up : (m : U) (s : S) → may_up m s → IsDeaf may_up step_up m ⊎ UpSpeaks s
    pub down : (m : D) (s : S) → may_down m s → IsDeaf may_down step_down m ⊎ DownSpeaks s
    pub never_both : (s : S) → UpSpeaks s → DownSpeaks s → ⊥

  -- Where the ends take turns, messages commute.
  pub turns_commute : (UpSpeaks DownSpeaks : S → Type 0) → Turns UpSpeaks DownSpeaks → Commutes
  turns_commute UpSpeaks DownSpeaks turns m d s up down = elim (turns.up m s up) [
    | inl deaf ↦ deaf_up m d s deaf down
    | inr client ↦ elim (turns.down d s down) [
      | inl deaf ↦ deaf_down m d s deaf up
      | inr server ↦ absurd (turns.never_both s client server)
    ]
  ]

  -- a message up and all in flight to the client
  pub record UpPast (m : U) (down : List D) (s : S) : Type 0 where
    pub comes : EachMay may_down step_down down (step_up m s)
    pub may : may_up m (after step_down down s)
    pub same : after step_down down (step_up m s) ≡ step_up m (after step_down down s)

  -- a message down and all in flight to the server
  record DownPast (d : D) (up : List U) (s : S) : Type 0 where
    comes : EachMay may_up step_up up (step_down d s)
    may : may_down d (after step_up up s)
    same : after step_up up (step_down d s) ≡ step_down d (after step_up up s)

  module _ (commutes : Commutes) where
    pub up_past : (m : U) (down : List D) (s : S) → may_up m s → EachMay may_down step_down down s → UpPast m down s
    up_past m [] s may downs = record { comes = tt; may = may; same = refl }
    up_past m (d ∷ down) s may downs =
        let first = commutes m d s may downs.0 in
        let rest = up_past m down (step_down d s) first.up_later downs.1 in
        record {
          comes = (first.down_later, subst (EachMay may_down step_down down) (sym first.same) rest.comes);
          may = rest.may;
          same = ap (after step_down down) first.same ∙ rest.same;
        }

    down_past : (d : D) (up : List U) (s : S) → may_down d s → EachMay may_up step_up up s → DownPast d up s
    down_past d [] s may ups = record { comes = tt; may = may; same = refl }
    down_past d (m ∷ up) s may ups =
        let first = commutes m d s ups.0 may in
        let rest = down_past d up (step_up m s) first.down_later ups.1 in
        record {
          comes = (first.up_later, subst (EachMay may_up step_up up) first.same rest.comes);
          may = rest.may;
          same = ap (after step_up up) (sym first.same) ∙ rest.same;
        }

    -- the client sends a message that may come in its status
    pub sent_up : (m : U) (up : List U) (down : List D) (server client : S) → may_up m client → Agree may_up step_up may_down step_down up down server client
        → Agree may_up step_up may_down step_down (up ++ m ∷ []) down server (step_up m client)
    sent_up m up down server client may a =
        let past = up_past m down client may a.downs in
        record {
          ups = may_append may_up step_up up (m ∷ []) server a.ups (subst (may_up m) (sym a.meet) past.may, tt);
          downs = past.comes;
          meet = after_append step_up up (m ∷ []) server ∙ ap (step_up m) a.meet ∙ sym past.same;
        }

    -- the server sends a message that may come in its status
    pub sent_down : (d : D) (up : List U) (down : List D) (server client : S) → may_down d server → Agree may_up step_up may_down step_down up down server client
        → Agree may_up step_up may_down step_down up (down ++ d ∷ []) (step_down d server) client
    sent_down d up down server client may a =
        let past = down_past d up server may a.ups in
        record {
          ups = past.comes;
          downs = may_append may_down step_down down (d ∷ []) client a.downs (subst (may_down d) a.meet past.may, tt);
          meet = past.same ∙ ap (step_down d) a.meet ∙ sym (after_append step_down down (d ∷ []) client);
        }

    -- the client sends messages, each of which may come where it stands
    pub all_sent_up : (ms : List U) (up : List U) (down : List D) (server client : S) → EachMay may_up step_up ms client
        → Agree may_up step_up may_down step_down up down server client → Agree may_up step_up may_down step_down (up ++ ms) down server (after step_up ms client)
    all_sent_up [] up down server client may a = subst (λ up. Agree may_up step_up may_down step_down up down server client) (sym (append-nil up)) a
    all_sent_up (m ∷ ms) up down server client may a = subst (λ up. Agree may_up step_up may_down step_down up down server (after step_up ms (step_up m client))) (append_assoc up (m ∷ []) ms)
        (all_sent_up ms (up ++ m ∷ []) down server (step_up m client) may.1 (sent_up m up down server client may.0 a))

    -- and so does the server
    pub all_sent_down : (ms : List D) (up : List U) (down : List D) (server client : S) → EachMay may_down step_down ms server
        → Agree may_up step_up may_down step_down up down server client → Agree may_up step_up may_down step_down up (down ++ ms) (after step_down ms server) client
    all_sent_down [] up down server client may a = subst (λ down. Agree may_up step_up may_down step_down up down server client) (sym (append-nil down)) a
    all_sent_down (d ∷ ms) up down server client may a = subst (λ down. Agree may_up step_up may_down step_down up down (after step_down ms (step_down d server)) client) (append_assoc down (d ∷ []) ms)
        (all_sent_down ms up (down ++ d ∷ []) (step_down d server) client may.1 (sent_down d up down server client may.0 a))
