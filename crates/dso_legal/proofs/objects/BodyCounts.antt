-- How often an object stands among bodies: no event loses a body that its thread has in hand, and only a new object adds one.
use Rattle.std.proofs.Common.{ℕ, ◌+◌, ◌≤◌, ◌≡◌, refl, sym, ◌∙◌, ap, Bool, true, false, cond, not, eqb, ltb, is_some, ◌||◌, Option, List, [], ◌∷◌, arith}
use Rattle.std.specs.Prelude.{slice_set, filter}
use Rattle.dso_base.specs.declared.lock.ThreadId.{ThreadId}
use Rattle.dso_base.specs.declared.record.Body.{Body}
use Rattle.dso_base.specs.declared.request.Reply.{Reply}
use Rattle.dso_base.specs.declared.request.Reply.TheVariants.{Done, Made}
use Rattle.dso_base.specs.declared.request.Request.{Request}
use Rattle.dso_base.specs.declared.request.Request.TheVariants.{New, Put, Notify, NotifyAll, Print}
use Rattle.dso_base.specs.declared.shape.Shape.{Shape}
use Rattle.dso_base.specs.declared.value.Value.{Value}
use Rattle.dso_base.specs.Block.{Work, body_in, with_value, is_published, insert_body, insert_bodies, insert_set, publish, put_shared, put, work_by}
use Rattle.dso_law.specs.Copies.{is_among}
use Rattle.dso_legal.specs.OwnObjects.{count_bodies, count_in_hand}
use Rattle.dso_legal.proofs.ids.Making.{IsNew}

-- sums, in other orders
pub none_more : (n : ℕ) → n ≡ 0 + n
none_more n = omega arith

pub regrouped : (a b c : ℕ) → (a + b) + c ≡ a + (b + c)
regrouped a b c = omega arith

swapped : (a b c : ℕ) → a + (b + c) ≡ b + (a + c)
swapped a b c = omega arith

first_kept : (a b c n : ℕ) → b + c ≡ n → (a + b) + c ≡ a + n
first_kept a b c n e = omega (arith, e)

second_kept : (a b c n : ℕ) → b + c ≡ n → b + (a + c) ≡ a + n
second_kept a b c n e = omega (arith, e)

moved : (a b n p : ℕ) → a + b ≡ p → b + (a + n) ≡ p + n
moved a b n p e = omega (arith, e)

one_at_least : (n : ℕ) → 1 ≤ 1 + n
one_at_least n = omega arith

still_at_least : (n : ℕ) → 1 ≤ n → 1 ≤ 0 + n
still_at_least n le = omega (arith, le)

module _ (o : ℕ) where
  -- a value in a field
  count_valued : (x f : ℕ) (v : Value) (bodies : List Body) → count_bodies o (with_value x f v bodies) ≡ count_bodies o bodies
  count_valued x f v [] = refl
  count_valued x f v (body ∷ bodies) = by (eqb body.object x) (count_valued x f v bodies)
    where
      by : (b : Bool) → count_bodies o (with_value x f v bodies) ≡ count_bodies o bodies
          → cond (eqb (cond b (record body { values = slice_set body.values f v }) body).object o) 1 0 + count_bodies o (with_value x f v bodies) ≡ cond (eqb body.object o) 1 0 + count_bodies o bodies
      by true e = ap (λ n. cond (eqb body.object o) 1 0 + n) e
      by false e = ap (λ n. cond (eqb body.object o) 1 0 + n) e

  -- parted in two
  count_parted : (test : Body → Bool) (bodies : List Body) → count_bodies o (filter test bodies) + count_bodies o (filter (λ body. not (test body)) bodies) ≡ count_bodies o bodies
  count_parted test [] = refl
  count_parted test (body ∷ bodies) = by (test body) (count_parted test bodies)
    where
      by : (b : Bool) → count_bodies o (filter test bodies) + count_bodies o (filter (λ body. not (test body)) bodies) ≡ count_bodies o bodies
          → count_bodies o (cond b (body ∷ filter test bodies) (filter test bodies)) + count_bodies o (cond (not b) (body ∷ filter (λ body. not (test body)) bodies) (filter (λ body. not (test body)) bodies))
          ≡ cond (eqb body.object o) 1 0 + count_bodies o bodies
      by true e = first_kept (cond (eqb body.object o) 1 0) (count_bodies o (filter test bodies)) (count_bodies o (filter (λ body. not (test body)) bodies)) (count_bodies o bodies) e
      by false e = second_kept (cond (eqb body.object o) 1 0) (count_bodies o (filter test bodies)) (count_bodies o (filter (λ body. not (test body)) bodies)) (count_bodies o bodies) e

  -- one more in its place
  count_inserted : (body : Body) (bodies : List Body) → count_bodies o (insert_body body bodies) ≡ cond (eqb body.object o) 1 0 + count_bodies o bodies
  count_inserted body [] = refl
  count_inserted body (first ∷ rest) = by (ltb body.object first.object) (count_inserted body rest)
    where
      by : (b : Bool) → count_bodies o (insert_body body rest) ≡ cond (eqb body.object o) 1 0 + count_bodies o rest
          → count_bodies o (cond b (body ∷ first ∷ rest) (first ∷ insert_body body rest)) ≡ cond (eqb body.object o) 1 0 + (cond (eqb first.object o) 1 0 + count_bodies o rest)
      by true e = refl
      by false e = ap (λ n. cond (eqb first.object o) 1 0 + n) e ∙ swapped (cond (eqb first.object o) 1 0) (cond (eqb body.object o) 1 0) (count_bodies o rest)

  count_all_inserted : (bodies news : List Body) → count_bodies o (insert_bodies bodies news) ≡ count_bodies o bodies + count_bodies o news
  count_all_inserted [] news = none_more (count_bodies o news)
  count_all_inserted (body ∷ bodies) news = count_inserted body (insert_bodies bodies news) ∙ ap (λ n. cond (eqb body.object o) 1 0 + n) (count_all_inserted bodies news)
      ∙ sym (regrouped (cond (eqb body.object o) 1 0) (count_bodies o bodies) (count_bodies o news))

  -- what is published was private
  count_published : (v : Value) (work : Work) → count_in_hand o (publish v work) ≡ count_in_hand o work
  count_published v work =
      let test = λ (body : Body). is_published work.privates v body.object in
      ap (λ n. count_bodies o (filter (λ body. not (test body)) work.privates) + n) (count_all_inserted (filter test work.privates) work.news)
      ∙ moved (count_bodies o (filter test work.privates)) (count_bodies o (filter (λ body. not (test body)) work.privates)) (count_bodies o work.news) (count_bodies o work.privates) (count_parted test work.privates)

  count_put_shared : (x f : ℕ) (v : Value) (work : Work) → count_in_hand o (put_shared x f v work) ≡ count_in_hand o work
  count_put_shared x f v work = by (is_some (body_in x work.news))
    where
      by : (b : Bool) → count_in_hand o (cond b (record work { news = with_value x f v work.news }) (record work { sets = insert_set (record { object = x; field = f; value = v }) work.sets })) ≡ count_in_hand o work
      by true = ap (λ n. count_bodies o work.privates + n) (count_valued x f v work.news)
      by false = refl

  pub count_put : (x f : ℕ) (v : Value) (work : Work) → count_in_hand o (put x f v work) ≡ count_in_hand o work
  count_put x f v work = by (is_some (body_in x work.privates))
    where
      by : (b : Bool) → count_in_hand o (cond b (record work { privates = with_value x f v work.privates }) (publish v (put_shared x f v work))) ≡ count_in_hand o work
      by true = ap (λ n. n + count_bodies o work.news) (count_valued x f v work.privates)
      by false = count_published v (put_shared x f v work) ∙ count_put_shared x f v work

  -- how many of the object a reply makes
  abbrev pub count_reply : Reply → ℕ
  count_reply (Made x) = cond (eqb x o) 1 0
  count_reply reply = 0

  -- an act whose request is to make an object where its reply made one
  pub count_act : (shape : Shape) (request : Request) (reply : Reply) (woken : Option ThreadId) (work : Work) → ((x : ℕ) → reply ≡ Made x → IsNew request)
      → count_in_hand o (work_by shape request reply woken work) ≡ count_reply reply + count_in_hand o work
  count_act shape (New class n) (Made x) woken work fair = regrouped (cond (eqb x o) 1 0) (count_bodies o work.privates) (count_bodies o work.news)
  count_act shape (Put x f v) Done woken work fair = count_put x f v work ∙ none_more (count_in_hand o work)
  count_act shape (Print v) Done woken work fair = none_more (count_in_hand o work)
  count_act shape (Notify l) Done woken work fair = none_more (count_in_hand o work)
  count_act shape (NotifyAll l) Done woken work fair = none_more (count_in_hand o work)
  count_act shape request (Made x) woken work fair = absurd (fair x refl)
  count_act shape request reply woken work fair = none_more (count_in_hand o work)

  -- a body that is there counts
  pub count_there : (bodies : List Body) → is_among o bodies ≡ true → 1 ≤ count_bodies o bodies
  count_there [] e = absurd (cc e)
  count_there (body ∷ bodies) e = by (eqb body.object o) e (count_there bodies)
    where
      by : (b : Bool) → (b || is_among o bodies) ≡ true → (is_among o bodies ≡ true → 1 ≤ count_bodies o bodies) → 1 ≤ cond b 1 0 + count_bodies o bodies
      by true f later = one_at_least (count_bodies o bodies)
      by false f later = still_at_least (count_bodies o bodies) (later f)

  left_counts : (a b : ℕ) → 1 ≤ a → 1 ≤ a + b
  left_counts a b le = omega (arith, le)

  pub right_counts : (a b : ℕ) → 1 ≤ b → 1 ≤ a + b
  right_counts a b le = omega (arith, le)

  pub count_either : (privates news : List Body) → (is_among o privates || is_among o news) ≡ true → 1 ≤ count_bodies o privates + count_bodies o news
  count_either privates news e = by (is_among o privates) refl e
    where
      by : (b : Bool) → is_among o privates ≡ b → (b || is_among o news) ≡ true → 1 ≤ count_bodies o privates + count_bodies o news
      by true is f = left_counts (count_bodies o privates) (count_bodies o news) (count_there privates is)
      by false is f = right_counts (count_bodies o privates) (count_bodies o news) (count_there news f)
