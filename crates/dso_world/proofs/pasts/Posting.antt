-- The letters that an entry posts, as the messages over a client's connection.
use Rattle.std.proofs.Common.{ℕ, ◌≡◌, sym, ◌∙◌, ap, Bool, true, false, cond, eqb, List, [], ◌∷◌, ◌++◌, map}
use Rattle.std.proofs.lemmas.List.{append_assoc, append-nil, map-append}
use Rattle.dso_base.specs.declared.journal.Sent.TheVariants.{ToServer}
use Rattle.dso_base.specs.declared.message.Down.{Down}
use Rattle.dso_base.specs.declared.message.Up.{Up}
use Rattle.dso_law.specs.Channels.{Letter, posted}
use Rattle.dso_law.specs.Entries.{by_sent_down, by_sent_up, if_to}
use Rattle.dso_server.specs.Sending.{sent_of}
use Rattle.dso_base.specs.declared.both.Both.TheVariants as both
use Rattle.dso_world.specs.PastOf.{post_of}
use Rattle.dso_world.proofs.sending.Posts.{down_post, down_posts, up_post}

-- What a client's entry sends stands behind what was sent up before,
pub posts_up : (clock : ℕ) (messages : List Up) (letters : List (Letter Up))
    → map (post_of both.Up) (by_sent_up (posted clock) (map ToServer messages) letters) ≡ map (post_of both.Up) letters ++ map (up_post clock) messages
posts_up clock [] letters = sym (append-nil (map (post_of both.Up) letters))
posts_up clock (m ∷ messages) letters =
    let letter : Letter Up = record { message = m; clock = clock } in
    posts_up clock messages (posted clock m letters)
    ∙ ap (λ posts. posts ++ map (up_post clock) messages) (map-append (post_of both.Up) letters (letter ∷ []))
    ∙ append_assoc (map (post_of both.Up) letters) (up_post clock m ∷ []) (map (up_post clock) messages)

-- and so what the server's sends to the client.
pub posts_down : (c clock : ℕ) (messages : List (ℕ × Down)) (letters : List (Letter Down))
    → map (post_of both.Down) (by_sent_down (if_to c (posted clock)) (sent_of messages) letters) ≡ map (post_of both.Down) letters ++ down_posts c clock messages
posts_down c clock [] letters = sym (append-nil (map (post_of both.Down) letters))
posts_down c clock (m ∷ messages) letters = by (eqb c m.0) (posts_down c clock messages letters) (posts_down c clock messages (posted clock m.1 letters))
  where
    by : (its : Bool)
        → map (post_of both.Down) (by_sent_down (if_to c (posted clock)) (sent_of messages) letters) ≡ map (post_of both.Down) letters ++ down_posts c clock messages
        → map (post_of both.Down) (by_sent_down (if_to c (posted clock)) (sent_of messages) (posted clock m.1 letters)) ≡ map (post_of both.Down) (posted clock m.1 letters) ++ down_posts c clock messages
        → map (post_of both.Down) (by_sent_down (if_to c (posted clock)) (sent_of messages) (cond its (posted clock m.1 letters) letters))
        ≡ map (post_of both.Down) letters ++ cond its (down_post clock m.1 ∷ down_posts c clock messages) (down_posts c clock messages)
    by false rest more = rest
    by true rest more = more
        ∙ ap (λ posts. posts ++ down_posts c clock messages) (map-append (post_of both.Down) letters (record { message = m.1; clock = clock } ∷ []))
        ∙ append_assoc (map (post_of both.Down) letters) (down_post clock m.1 ∷ []) (down_posts c clock messages)
