-- The letters in flight are those posted that were not taken.
use Rattle.std.proofs.Common.{ℕ, zero, suc, ◌+◌, ◌≤◌, ◌≡◌, refl, sym, ◌∙◌, ap, subst, Bool, true, false, cond, eqb, ltb, not, ◌&&◌, Option, List, [], ◌∷◌, drop, length, map, arith}
use Rattle.std.proofs.lemmas.Bool.{eqb-true, le-ltb}
use Rattle.std.proofs.lemmas.List.{drop-append-le, drop-drop, length-append, length-drop, length-map}
use Rattle.dso_base.specs.declared.journal.Entry.{Entry}
use Rattle.dso_base.specs.declared.journal.Input.{Input}
use Rattle.dso_base.specs.declared.journal.Input.TheVariants as input
use Rattle.dso_base.specs.declared.journal.Node.{Node}
use Rattle.dso_base.specs.declared.journal.Node.TheVariants.{Server, Client}
use Rattle.dso_base.specs.declared.journal.Sent.{Sent}
use Rattle.dso_base.specs.declared.journal.Sent.TheVariants.{ToServer, ToClient}
use Rattle.dso_base.specs.declared.lock.ThreadId.{ThreadId}
use Rattle.dso_base.specs.declared.message.Down.{Down}
use Rattle.dso_base.specs.declared.message.Up.{Up}
use Rattle.dso_base.specs.declared.request.Event.{Event}
use Rattle.dso_base.specs.declared.request.Request.{Request}
use Rattle.dso_law.specs.Settings.{Settings}
use Rattle.dso_law.specs.Entries.{by_sent_down, by_sent_up, entries_of, if_to}
use Rattle.dso_law.specs.Channels.{IsFirst, Letter, TakesFirst, count_inputs, down_in_flight, is_broken, posted, takes_down, takes_up, to_client, to_server, up_in_flight}
use Rattle.dso_legal.specs.Lawful.{AllFollow, IsLawful}
use Rattle.dso_legal.specs.Slots.{has_rejoined, is_any, is_loss_or_break_due}
use Rattle.dso_world.specs.LinkStands.{Joined, Broken, Half, can_take_down, can_take_up}
use Rattle.dso_world.specs.PastOf.{CanTake, LettersAreLeft, letters_posted, letters_taken, past_of, post_of}
use Rattle.dso_world.proofs.links.Ends.{below}

-- what is posted later stands behind what was posted before
record Behind {N : Type 0} (post : List (Letter N) → List (Letter N)) (letters : List (Letter N)) (n : ℕ) : Type 0 where
  left : post (drop n letters) ≡ drop n (post letters)
  more : n ≤ length (post letters)

one_behind : {N : Type 0} (clock n : ℕ) (m : N) (letters : List (Letter N)) → n ≤ length letters → Behind (posted clock m) letters n
one_behind clock n m letters few = record {
  left = sym (drop-append-le n letters (record { message = m; clock = clock } ∷ []) few);
  more = omega (arith, few, length-append letters (record { message = m; clock = clock } ∷ []));
}

up_behind : (clock n : ℕ) (out : List Sent) (letters : List (Letter Up)) → n ≤ length letters → Behind (by_sent_up (posted clock) out) letters n
up_behind clock n [] letters few = record { left = refl; more = few }
up_behind clock n (ToServer m ∷ out) letters few =
    let one = one_behind clock n m letters few in
    let rest = up_behind clock n out (posted clock m letters) one.more in
    record { left = ap (λ list. by_sent_up (posted clock) out list) one.left ∙ rest.left; more = rest.more }
up_behind clock n (ToClient d m ∷ out) letters few = up_behind clock n out letters few

down_behind : (c clock n : ℕ) (out : List Sent) (letters : List (Letter Down)) → n ≤ length letters → Behind (by_sent_down (if_to c (posted clock)) out) letters n
down_behind c clock n [] letters few = record { left = refl; more = few }
down_behind c clock n (ToServer m ∷ out) letters few = down_behind c clock n out letters few
down_behind c clock n (ToClient d m ∷ out) letters few = by (eqb c d) (down_behind c clock n out letters few) (λ one. down_behind c clock n out (posted clock m letters) one)
  where
    by : (its : Bool) → Behind (by_sent_down (if_to c (posted clock)) out) letters n
        → (n ≤ length (posted clock m letters) → Behind (by_sent_down (if_to c (posted clock)) out) (posted clock m letters) n)
        → Behind (λ list. by_sent_down (if_to c (posted clock)) out (cond its (posted clock m list) list)) letters n
    by false rest then = record { left = rest.left; more = rest.more }
    by true rest then =
        let one = one_behind clock n m letters few in
        let later = then one.more in
        record { left = ap (λ list. by_sent_down (if_to c (posted clock)) out list) one.left ∙ later.left; more = later.more }

-- a message that is first stands among those left
there : {N : Type 0} (m : N) (n : ℕ) (letters : List (Letter N)) → IsFirst m (drop n letters) → suc n ≤ length letters
there m zero [] first = absurd first
there m zero (letter ∷ letters) first = omega arith
there m (suc n) [] first = absurd first
there m (suc n) (letter ∷ letters) first = omega (arith, there m n letters first)

-- in flight are those left
record Left {N : Type 0} (n : ℕ) (letters flight : List (Letter N)) : Type 0 where
  few : n ≤ length letters
  left : flight ≡ drop n letters

-- one letter more is taken
one_taken : {N : Type 0} (m : N) (n : ℕ) (letters flight : List (Letter N)) → Left n letters flight → IsFirst m flight → Left (suc n) letters (drop 1 flight)
one_taken m n letters flight before first =
    let next : n + 1 ≡ suc n = omega arith in
    record { few = there m n letters (subst (IsFirst m) before.left first); left = ap (drop 1) before.left ∙ drop-drop 1 n letters ∙ ap (λ k. drop k letters) next }

-- some are posted
some_posted : {N : Type 0} (post : List (Letter N) → List (Letter N)) (n : ℕ) (letters flight : List (Letter N)) → Left n letters flight → Behind post letters n → Left n (post letters) (post flight)
some_posted post n letters flight before behind = record { few = behind.more; left = ap post before.left ∙ behind.left }

module _ (c : ℕ) (e : Entry) (es : List Entry) where
  abbrev UpLeft : Type 0
  UpLeft = Left (letters_taken (to_server c) es) (letters_posted (to_server c) es) (up_in_flight c es)

  abbrev DownLeft : Type 0
  DownLeft = Left (letters_taken (to_client c) es) (letters_posted (to_client c) es) (down_in_flight c es)

  -- an entry of the server takes one of the client's letters, or none
  abbrev UpTaken : Bool → Type 0
  UpTaken takes = Left (cond takes (suc (letters_taken (to_server c) es)) (letters_taken (to_server c) es)) (letters_posted (to_server c) es) (cond takes (drop 1 (up_in_flight c es)) (up_in_flight c es))

  up_taken : UpLeft → (input : Input) → TakesFirst input Server es → UpTaken (takes_up c input)
  up_taken before (input.TookUp d m) first = by (eqb c d) refl
    where
      by : (its : Bool) → eqb c d ≡ its → UpTaken its
      by false is = before
      by true is = one_taken m (letters_taken (to_server c) es) (letters_posted (to_server c) es) (up_in_flight c es) before (subst (λ k. IsFirst m (up_in_flight k es)) (sym (eqb-true c d is)) first)
  up_taken before (input.Act index) first = before
  up_taken before (input.TookDown m) first = before
  up_taken before (input.Flush o) first = before
  up_taken before (input.Lose d) first = before
  up_taken before (input.Break d) first = before
  up_taken before (input.Rejoin d) first = before

  up_next : UpLeft → (node : Node) (input : Input) → TakesFirst input node es
      → Left (letters_taken (to_server c) (record e { node = node; input = input } ∷ es)) (letters_posted (to_server c) (record e { node = node; input = input } ∷ es)) (up_in_flight c (record e { node = node; input = input } ∷ es))
  up_next before Server input first = up_taken before input first
  up_next before (Client d) input first = by (eqb c d)
    where
      by : (its : Bool) → Left (letters_taken (to_server c) es) (cond its (by_sent_up (posted e.clock) e.sent (letters_posted (to_server c) es)) (letters_posted (to_server c) es))
          (cond its (by_sent_up (posted e.clock) e.sent (up_in_flight c es)) (up_in_flight c es))
      by false = before
      by true = some_posted (by_sent_up (posted e.clock) e.sent) (letters_taken (to_server c) es) (letters_posted (to_server c) es) (up_in_flight c es) before
          (up_behind e.clock (letters_taken (to_server c) es) e.sent (letters_posted (to_server c) es) before.few)

  -- an entry of the client takes one of the server's letters, or none
  abbrev DownTaken : Bool → Type 0
  DownTaken takes = Left (cond takes (suc (letters_taken (to_client c) es)) (letters_taken (to_client c) es)) (letters_posted (to_client c) es) (cond takes (drop 1 (down_in_flight c es)) (down_in_flight c es))

  down_taken : DownLeft → (input : Input) → TakesFirst input (Client c) es → DownTaken (takes_down input)
  down_taken before (input.TookDown m) first = one_taken m (letters_taken (to_client c) es) (letters_posted (to_client c) es) (down_in_flight c es) before first
  down_taken before (input.TookUp d m) first = before
  down_taken before (input.Act index) first = before
  down_taken before (input.Flush o) first = before
  down_taken before (input.Lose d) first = before
  down_taken before (input.Break d) first = before
  down_taken before (input.Rejoin d) first = before

  down_next : DownLeft → (node : Node) (input : Input) → TakesFirst input node es
      → Left (letters_taken (to_client c) (record e { node = node; input = input } ∷ es)) (letters_posted (to_client c) (record e { node = node; input = input } ∷ es)) (down_in_flight c (record e { node = node; input = input } ∷ es))
  down_next before Server input first = some_posted (by_sent_down (if_to c (posted e.clock)) e.sent) (letters_taken (to_client c) es) (letters_posted (to_client c) es) (down_in_flight c es) before
      (down_behind c e.clock (letters_taken (to_client c) es) e.sent (letters_posted (to_client c) es) before.few)
  down_next before (Client d) input first = by (eqb c d) refl
    where
      by : (its : Bool) → eqb c d ≡ its → Left (count_inputs takes_down (cond its (record e { node = Client d; input = input } ∷ entries_of (Client c) es) (entries_of (Client c) es))) (letters_posted (to_client c) es)
          (cond its (cond (takes_down input) (drop 1 (down_in_flight c es)) (down_in_flight c es)) (down_in_flight c es))
      by false is = before
      by true is = down_taken before input (subst (λ k. TakesFirst input (Client k) es) (sym (eqb-true c d is)) first)

module _ (p : Settings) (next : ThreadId → List Event → Option Request) (c : ℕ) where
  up_left : (es : List Entry) → AllFollow p next es → Left (letters_taken (to_server c) es) (letters_posted (to_server c) es) (up_in_flight c es)
  up_left [] follow = record { few = omega arith; left = refl }
  up_left (e ∷ es) follow = up_next c e es (up_left es follow.0) e.node e.input follow.1.channels

  down_left : (es : List Entry) → AllFollow p next es → Left (letters_taken (to_client c) es) (letters_posted (to_client c) es) (down_in_flight c es)
  down_left [] follow = record { few = omega arith; left = refl }
  down_left (e ∷ es) follow = down_next c e es (down_left es follow.0) e.node e.input follow.1.channels

-- there is a letter where fewer were taken than posted
pub any_left : {N M : Type 0} (one : N → M) (n : ℕ) (letters flight : List (Letter N)) → flight ≡ drop n letters → is_any flight ≡ ltb n (length (map (post_of one) letters))
any_left {N = N} one n letters flight left = by flight left
  where
    by : (flight : List (Letter N)) → flight ≡ drop n letters → is_any flight ≡ ltb n (length (map (post_of one) letters))
    by [] is = sym (le-ltb n (length (map (post_of one) letters)) (omega (arith, ap length is, length-drop n letters, length-map letters (post_of one))))
    by (letter ∷ rest) is = sym (below n (length (map (post_of one) letters)) (omega (arith, ap length is, length-drop n letters, length-map letters (post_of one))))

module _ {M : Type 0} (p : Settings) (next : ThreadId → List Event → Option Request) (es : List Entry) (lawful : IsLawful p next es) (as_up : Up → M) (as_down : Down → M) (c : ℕ) where
  takes_so : CanTake p es as_up as_down c
  takes_so = record { down = down (is_broken c (entries_of Server es)) (has_rejoined p c es); up = ap (λ b. not (is_loss_or_break_due p c es) && b) (up (is_broken c (entries_of Server es)) (has_rejoined p c es)) }
    where
      down : (broken rejoined : Bool) → cond broken (not rejoined) (is_any (down_in_flight c es)) ≡ can_take_down (cond broken (cond rejoined Half Broken) Joined) (past_of as_up as_down c es)
      down true true = refl
      down true false = refl
      down false rejoined = any_left as_down (letters_taken (to_client c) es) (letters_posted (to_client c) es) (down_in_flight c es) (down_left p next c es lawful.follow).left

      up : (broken rejoined : Bool) → cond broken rejoined (is_any (up_in_flight c es)) ≡ can_take_up (cond broken (cond rejoined Half Broken) Joined) (past_of as_up as_down c es)
      up true true = refl
      up true false = refl
      up false rejoined = any_left as_up (letters_taken (to_server c) es) (letters_posted (to_server c) es) (up_in_flight c es) (up_left p next c es lawful.follow).left

pub letters_are_left : {M : Type 0} → LettersAreLeft M
letters_are_left = record {
  up = λ p next es follow c. let are = up_left p next c es follow in record { few = are.few; left = are.left };
  down = λ p next es follow c. let are = down_left p next c es follow in record { few = are.few; left = are.left };
  takes = λ p next es lawful as_up as_down c. takes_so p next es lawful as_up as_down c;
}
