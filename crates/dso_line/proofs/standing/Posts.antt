-- What an end sent and gave, once its log has one entry more.
use Rattle.std.specs.List.{AllByRecursion}
use Rattle.std.proofs.Common.{ℕ, ◌+◌, ◌≤◌, ◌≡◌, refl, sym, ◌∙◌, ap, subst, Bool, true, false, cond, eqb, List, [], ◌∷◌, ◌++◌, map, arith}
use Rattle.std.proofs.lemmas.List.{append-nil, append_assoc, map-append}
use Rattle.dso_base.specs.declared.both.Both.{Both}
use Rattle.dso_base.specs.declared.journal.Entry.{Entry}
use Rattle.dso_base.specs.declared.journal.Sent.TheVariants.{ToClient, ToServer}
use Rattle.dso_base.specs.declared.message.Down.{Down}
use Rattle.dso_base.specs.declared.message.Up.{Up}
use Rattle.dso_law.specs.Channels.{Letter, posted, to_client, to_server}
use Rattle.dso_session.specs.declared.frame.Frame.{Frame}
use Rattle.dso_session.specs.declared.session.Posted.{Posted}
use Rattle.dso_session.specs.declared.session.Role.{Role}
use Rattle.dso_session.specs.Ends as ends
use Rattle.dso_session.specs.Laws.{Breaks, CarriesSent, HasSent, Sends}
use Rattle.dso_session.proofs.Sent.{keeps_sent}
use Rattle.dso_wire.specs.Cells.{Cell}
use Rattle.dso_port.specs.Frames.{hellos}
use Rattle.dso_port.specs.Ports.{EndGave, Giving, PortState, SameEnd, all_posted, given, lifted_post, owed, taken}
use Rattle.dso_line.specs.Letters.{letters_of}
use Rattle.dso_line.specs.Lines.{EndStands, Way}
use Rattle.dso_line.specs.Ways.{TookFromRing, post_of, posts_of}

-- the messages as they are sent at one clock
abbrev pub posts_at : {M : Type 0} → ℕ → List M → List (Posted M)
posts_at clock ms = map (λ m. record { message = m; clock = clock }) ms

-- ---- the letters of one entry stand behind the others
abbrev letters_at : {M : Type 0} → ℕ → List M → List (Letter M)
letters_at clock ms = map (λ m. record { message = m; clock = clock }) ms

letters_are_posts : {M : Type 0} (clock : ℕ) (ms : List M) → map post_of (letters_at clock ms) ≡ posts_at clock ms
letters_are_posts clock [] = refl
letters_are_posts clock (m ∷ ms) = ap (λ list. record { message = m; clock = clock } ∷ list) (letters_are_posts clock ms)

up_behind : (c clock : ℕ) (ms : List Up) (letters : List (Letter Up)) → (to_server c).by_sent (posted clock) (map ToServer ms) letters ≡ letters ++ letters_at clock ms
up_behind c clock [] letters = sym (append-nil letters)
up_behind c clock (m ∷ ms) letters = up_behind c clock ms (posted clock m letters) ∙ append_assoc letters (record { message = m; clock = clock } ∷ []) (letters_at clock ms)

pub posts_up : (c : ℕ) (e : Entry) (es : List Entry) (ms : List Up) → e.sent ≡ map ToServer ms → posts_of (to_server c) (e ∷ es) ≡ posts_of (to_server c) es ++ posts_at e.clock ms
posts_up c e es ms is =
    ap (λ out. map post_of ((to_server c).by_sent (posted e.clock) out (letters_of (to_server c) es))) is
    ∙ ap (map post_of) (up_behind c e.clock ms (letters_of (to_server c) es))
    ∙ map-append post_of (letters_of (to_server c) es) (letters_at e.clock ms)
    ∙ ap (λ list. posts_of (to_server c) es ++ list) (letters_are_posts e.clock ms)

-- the messages to a client among those of an entry of the server
abbrev pub messages_to : ℕ → List (ℕ × Down) → List Down
messages_to c [] = []
messages_to c (one ∷ rest) = cond (eqb c one.0) (one.1 ∷ messages_to c rest) (messages_to c rest)

down_behind : (c clock : ℕ) (pairs : List (ℕ × Down)) (letters : List (Letter Down))
    → (to_client c).by_sent (posted clock) (map (λ one. ToClient one.0 one.1) pairs) letters ≡ letters ++ letters_at clock (messages_to c pairs)
down_behind c clock [] letters = sym (append-nil letters)
down_behind c clock (one ∷ rest) letters = by (eqb c one.0) (λ letters. down_behind c clock rest letters)
  where
    by : (its : Bool) → ((letters : List (Letter Down)) → (to_client c).by_sent (posted clock) (map (λ one. ToClient one.0 one.1) rest) letters ≡ letters ++ letters_at clock (messages_to c rest))
        → (to_client c).by_sent (posted clock) (map (λ one. ToClient one.0 one.1) rest) (cond its (posted clock one.1 letters) letters)
        ≡ letters ++ letters_at clock (cond its (one.1 ∷ messages_to c rest) (messages_to c rest))
    by false behind = behind letters
    by true behind = behind (posted clock one.1 letters) ∙ append_assoc letters (record { message = one.1; clock = clock } ∷ []) (letters_at clock (messages_to c rest))

pub posts_down : (c : ℕ) (e : Entry) (es : List Entry) (pairs : List (ℕ × Down)) → e.sent ≡ map (λ one. ToClient one.0 one.1) pairs
    → posts_of (to_client c) (e ∷ es) ≡ posts_of (to_client c) es ++ posts_at e.clock (messages_to c pairs)
posts_down c e es pairs is =
    ap (λ out. map post_of ((to_client c).by_sent (posted e.clock) out (letters_of (to_client c) es))) is
    ∙ ap (map post_of) (down_behind c e.clock pairs (letters_of (to_client c) es))
    ∙ map-append post_of (letters_of (to_client c) es) (letters_at e.clock (messages_to c pairs))
    ∙ ap (λ list. posts_of (to_client c) es ++ list) (letters_are_posts e.clock (messages_to c pairs))

-- ---- an end that sends them
module _ {M : Type 0} (as_both : M → Both) (clock : ℕ) where
  sends_more : (ms : List M) (posts : List (Posted M)) (end : ends.End Both) → HasSent (map (lifted_post as_both) posts) end
      → HasSent (map (lifted_post as_both) (posts ++ posts_at clock ms)) (all_posted as_both clock ms end)
  sends_more [] posts end has = subst (λ list. HasSent (map (lifted_post as_both) list) end) (sym (append-nil posts)) has
  sends_more (m ∷ ms) posts end has =
      let one : Posted M = record { message = m; clock = clock } in
      let more = subst (λ list. HasSent list (ends.posted (as_both m) clock end)) (sym (map-append (lifted_post as_both) posts (one ∷ [])))
      (keeps_sent.goes_on (Sends (as_both m) clock) (map (lifted_post as_both) posts) end has) in
      subst (λ list. HasSent (map (lifted_post as_both) list) (all_posted as_both clock ms (ends.posted (as_both m) clock end)))
      (append_assoc posts (one ∷ []) (posts_at clock ms)) (sends_more ms (posts ++ one ∷ []) (ends.posted (as_both m) clock end) more)

  pub same_posted : (ms : List M) (end : ends.End Both) → SameEnd end (all_posted as_both clock ms end)
  same_posted [] end = record { role = refl; epoch = refl; ready = refl; accepted = refl; seen = refl }
  same_posted (m ∷ ms) end =
      let rest = same_posted ms (ends.posted (as_both m) clock end) in
      record { role = rest.role; epoch = rest.epoch; ready = rest.ready; accepted = rest.accepted; seen = rest.seen }

  owes_posted : (ms : List M) (end : ends.End Both) → owed (all_posted as_both clock ms end) ≡ owed end
  owes_posted [] end = refl
  owes_posted (m ∷ ms) end = owes_posted ms (ends.posted (as_both m) clock end)

carries_more : {M : Type 0} (posts more : List (Posted M)) (frames : List (Frame M)) → AllByRecursion (CarriesSent posts) frames → AllByRecursion (CarriesSent (posts ++ more)) frames
carries_more posts more [] all = tt
carries_more posts more (frame ∷ frames) all = (keeps_sent.stays posts more frame all.0, carries_more posts more frames all.1)

module _ {M : Type 0} (as_both : M → Both) (cells : Frame M → List Cell) (Is : Frame M → Type 0) where
  gave_more : (clock : ℕ) (ms : List M) (posts : List (Posted M)) (greetings : ℕ) (end : ends.End Both) (items : List (List ℕ)) → EndGave as_both cells Is posts greetings end items
      → EndGave as_both cells Is (posts ++ posts_at clock ms) greetings (all_posted as_both clock ms end) items
  gave_more clock ms posts greetings end items gave = record {
    sent = sends_more as_both clock ms posts end gave.sent;
    gave = record {
      frames = gave.gave.frames;
      spelled = gave.gave.spelled;
      carry = carries_more posts (posts_at clock ms) gave.gave.frames gave.gave.carry;
      greets = subst (λ n. hellos gave.gave.frames + n ≤ greetings) (sym (owes_posted as_both clock ms end)) gave.gave.greets;
    };
  }

-- an end and a ring that are the same
pub gives_same : {S : Type 0} (own : Way S) (posts : List (Posted S)) (greetings : ℕ) (a b : ends.End Both) (x y : Giving S) → b ≡ a → y ≡ x
    → EndGave own.as_both own.cells own.is posts greetings a (given x) → EndGave own.as_both own.cells own.is posts greetings b (given y)
gives_same own posts greetings a b x y same out gave = subst (λ z. EndGave own.as_both own.cells own.is posts greetings b (given z)) (sym out)
    (subst (λ z. EndGave own.as_both own.cells own.is posts greetings z (given x)) (sym same) gave)

module _ {S T : Type 0} (own : Way S) (other : Way T) (end : Role) (sent es : List Entry) (greetings greeted : ℕ) (old new : PortState S T) where
  -- the end sends what the log sends with one entry more
  pub end_said : (e : Entry) (ms : List S) → posts_of own.direction (e ∷ sent) ≡ posts_of own.direction sent ++ posts_at e.clock ms
      → new.session ≡ all_posted own.as_both e.clock ms old.session → new.out ≡ old.out → new.into ≡ old.into
      → EndStands own other end sent es greetings greeted old → EndStands own other end (e ∷ sent) es greetings greeted new
  end_said e ms posts now out into stands =
      let same = same_posted own.as_both e.clock ms old.session in
      record {
        role = ap (λ x. x.role) now ∙ same.role ∙ stands.role;
        accepted = ap (λ x. x.accepted) now ∙ same.accepted ∙ stands.accepted;
        sends = subst (λ list. EndGave own.as_both own.cells own.is list greetings new.session (given new.out)) (sym posts)
            (gives_same own (posts_of own.direction sent ++ posts_at e.clock ms) greetings (all_posted own.as_both e.clock ms old.session) new.session old.out new.out now out
            (gave_more own.as_both own.cells own.is e.clock ms (posts_of own.direction sent) greetings old.session (given old.out) stands.sends));
        took = subst (λ x. TookFromRing other.cells other.is other.direction es greeted (taken x)) (sym into) stands.took;
      }

  -- the connection breaks, and the end owes one Hello more
  pub end_broken : new.session ≡ ends.broken old.session → new.out ≡ old.out → new.into ≡ old.into
      → EndStands own other end sent es greetings greeted old → EndStands own other end sent es (greetings + 1) greeted new
  end_broken now out into stands = record {
    role = ap (λ x. x.role) now ∙ stands.role;
    accepted = ap (λ x. x.accepted) now ∙ stands.accepted;
    sends = gives_same own (posts_of own.direction sent) (greetings + 1) (ends.broken old.session) new.session old.out new.out now out (record {
      sent = keeps_sent.goes_on Breaks (map (lifted_post own.as_both) (posts_of own.direction sent)) old.session stands.sends.sent;
      gave = record {
        frames = stands.sends.gave.frames;
        spelled = stands.sends.gave.spelled;
        carry = stands.sends.gave.carry;
        greets = omega (arith, stands.sends.gave.greets);
      };
    });
    took = subst (λ x. TookFromRing other.cells other.is other.direction es greeted (taken x)) (sym into) stands.took;
  }
