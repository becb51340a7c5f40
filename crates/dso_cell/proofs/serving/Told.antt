-- What the server's messages make of its ends, which send them.
use Rattle.std.specs.Option.{option_map}
use Rattle.std.proofs.Common.{ℕ, suc, ◌+◌, ◌<◌, ◌^◌, ◌≡◌, refl, sym, ◌∙◌, ap, subst, Bool, true, false, cond, eqb, Option, Some, None, List, [], ◌∷◌, length, slice_get, arith}
use Rattle.dso_base.specs.declared.both.Both.TheVariants as both
use Rattle.dso_base.specs.declared.message.Down.{Down}
use Rattle.dso_port.specs.Ports.{all_posted}
use Rattle.dso_line.proofs.standing.Posts as posts
use Rattle.dso_cell.specs.declared.server_end.ServerEnd.{ServerEnd}
use Rattle.dso_cell.specs.ServerEnds.{AreTold, ChangesEnd, HaveRoom, messages_to, sent_more, told_to, with_end}

-- lists that are alike place by place are as long
pub same_length : {A B : Type 0} (f : ℕ → A → B) (old : List A) (new : List B) → ((place : ℕ) → slice_get new place ≡ option_map (f place) (slice_get old place)) → length new ≡ length old
same_length f [] [] same = refl
same_length f [] (y ∷ new) same = let h = same 0 in absurd (cc h)
same_length f (x ∷ old) [] same = let h = same 0 in absurd (cc h)
same_length f (x ∷ old) (y ∷ new) same = ap suc (same_length (λ place. f (suc place)) old new (λ place. same (suc place)))

-- what stands at a place of the new list comes of what stands there in the old one
pub came_of : {A B : Type 0} (f : A → B) (before : Option A) (y : B) → Some y ≡ option_map f before → (x : A) × (before ≡ Some x) × (f x ≡ y)
came_of f None y is = absurd (cc is)
came_of f (Some x) y is = (x, refl, cc is)

-- a message to the client changes its end alone
pub one_told : (c clock : ℕ) (m : Down) (old new : List ServerEnd) → ChangesEnd c (sent_more clock m) old new → AreTold clock ((c, m) ∷ []) old new
one_told c clock m old new changes place = changes place ∙ by (slice_get old place)
  where
    of : (end : ServerEnd) (its : Bool) → cond its (sent_more clock m end) end
        ≡ record end { port = record end.port { session = all_posted both.Down clock (cond its (m ∷ []) []) end.port.session } }
    of end true = refl
    of end false = refl

    by : (end : Option ServerEnd) → option_map (with_end c (sent_more clock m) (suc place)) end ≡ option_map (told_to (suc place) clock ((c, m) ∷ [])) end
    by None = refl
    by (Some end) = ap (λ x. Some x) (of end (eqb (suc place) c))

-- where nothing is sent, nothing changes
pub none_told : (clock : ℕ) (ends : List ServerEnd) → AreTold clock [] ends ends
none_told clock ends place = by (slice_get ends place)
  where
    by : (end : Option ServerEnd) → end ≡ option_map (told_to (suc place) clock []) end
    by None = refl
    by (Some end) = refl

-- one message, and then the others
pub more_told : (clock : ℕ) (m : ℕ × Down) (rest : List (ℕ × Down)) (old between new : List ServerEnd) → AreTold clock (m ∷ []) old between → AreTold clock rest between new → AreTold clock (m ∷ rest) old new
more_told clock m rest old between new first others place = others place ∙ ap (option_map (told_to (suc place) clock rest)) (first place) ∙ by (slice_get old place)
  where
    of : (end : ServerEnd) (its : Bool) → all_posted both.Down clock (messages_to (suc place) rest) (all_posted both.Down clock (cond its (m.1 ∷ []) []) end.port.session)
        ≡ all_posted both.Down clock (cond its (m.1 ∷ messages_to (suc place) rest) (messages_to (suc place) rest)) end.port.session
    of end true = refl
    of end false = refl

    by : (end : Option ServerEnd) → option_map (told_to (suc place) clock rest) (option_map (told_to (suc place) clock (m ∷ [])) end) ≡ option_map (told_to (suc place) clock (m ∷ rest)) end
    by None = refl
    by (Some end) = ap (λ x. Some (record end { port = record end.port { session = x } })) (of end (eqb (suc place) m.0))

-- a message leaves the room that there is
pub room_kept : (c clock : ℕ) (m : Down) (old new : List ServerEnd) → HaveRoom old → ChangesEnd c (sent_more clock m) old new → HaveRoom new
room_kept c clock m old new room changes place end is =
    let from = came_of (with_end c (sent_more clock m) (suc place)) (slice_get old place) end (sym is ∙ changes place) in
    by from.0 (eqb (suc place) c) from.2 (room place from.0 from.1)
  where
    by : (before : ServerEnd) (its : Bool) → cond its (sent_more clock m before) before ≡ end → before.port.session.seen < 2 ^ 63 → end.port.session.seen < 2 ^ 63
    by before true is room = subst (λ (end : ServerEnd). end.port.session.seen < 2 ^ 63) is room
    by before false is room = subst (λ (end : ServerEnd). end.port.session.seen < 2 ^ 63) is room

-- ---- client by client
-- each end, the first being that of client c, sends those of these messages that are for it
abbrev pub ToldFrom : ℕ → ℕ → List (ℕ × Down) → List ServerEnd → List ServerEnd → Type 0
ToldFrom c clock messages [] [] = Unit {0}
ToldFrom c clock messages (old ∷ olds) (new ∷ news) = (new ≡ told_to c clock messages old) × ToldFrom (suc c) clock messages olds news
ToldFrom c clock messages olds news = ⊥

told_behind : (c clock : ℕ) (messages : List (ℕ × Down)) (olds news : List ServerEnd)
    → ((place : ℕ) → slice_get news place ≡ option_map (told_to (c + place) clock messages) (slice_get olds place)) → ToldFrom c clock messages olds news
told_behind c clock messages [] [] told = tt
told_behind c clock messages [] (new ∷ news) told = let h = told 0 in absurd (cc h)
told_behind c clock messages (old ∷ olds) [] told = let h = told 0 in absurd (cc h)
told_behind c clock messages (old ∷ olds) (new ∷ news) told =
    let h = told 0 in
    let here : new ≡ told_to (c + 0) clock messages old = cc h in
    let none : c + 0 ≡ c = omega arith in (
      subst (λ n. new ≡ told_to n clock messages old) none here,
      told_behind (suc c) clock messages olds news
          (λ place. let next : c + suc place ≡ suc c + place = omega arith in subst (λ n. slice_get news place ≡ option_map (told_to n clock messages) (slice_get olds place)) next (told (suc place))),
    )

pub told_from : (clock : ℕ) (messages : List (ℕ × Down)) (olds news : List ServerEnd) → AreTold clock messages olds news → ToldFrom 1 clock messages olds news
told_from clock messages olds news told = told_behind 1 clock messages olds news
    (λ place. let next : suc place ≡ 1 + place = omega arith in subst (λ n. slice_get news place ≡ option_map (told_to n clock messages) (slice_get olds place)) next (told place))

-- the messages are those that the laws of lines speak of
pub same_messages : (c : ℕ) (messages : List (ℕ × Down)) → messages_to c messages ≡ posts.messages_to c messages
same_messages c [] = refl
same_messages c (one ∷ rest) = ap (λ list. cond (eqb c one.0) (one.1 ∷ list) list) (same_messages c rest)
