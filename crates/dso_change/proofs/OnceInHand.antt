-- Each object stays in hand once: after a put, after what it publishes, and after a New of an object that wasn't in hand.
use Rattle.std.proofs.Common.{ℕ, ◌≡◌, refl, sym, ◌∙◌, ap, Bool, true, false, cond, not, eqb, is_some, Option, Some, None, List, ◌∷◌, filter}
use Rattle.std.proofs.lemmas.Bool.{eqb-true}
use Rattle.std.specs.Option.{option_map}
use Rattle.dso_base.specs.declared.record.Body.{Body}
use Rattle.dso_base.specs.declared.value.Value.{Value}
use Rattle.dso_base.specs.Block.{Work, body_in, with_value, insert_set, is_published, insert_bodies, publish, put_shared, put}
use Rattle.dso_change.specs.Hands.{IsOnce, with_field, either}
use Rattle.dso_change.proofs.BodyLists.{nothing, value_found, kept_found, moved_found, inserts_found}
use Rattle.dso_change.proofs.RisingBodies.{rising_inserts, different_value, rising_value, different_moved}

-- after a put into a shared object
pub once_put_shared : (o f : ℕ) (v : Value) (work : Work) → IsOnce work → IsOnce (put_shared o f v work)
once_put_shared o f v work once = by (is_some (body_in o work.news))
  where
    -- in its new contents
    written : IsOnce (record work { news = with_value o f v work.news })
    written = record {
      privates = once.privates;
      apart = λ q there. value_found o f v work.news q ∙ rw (once.apart q there) (nothing (eqb q o));
      news = rising_value o f v work.news once.news;
    }

    by : (b : Bool) → IsOnce (cond b (record work { news = with_value o f v work.news }) (record work { sets = insert_set (record { object = o; field = f; value = v }) work.sets }))
    by true = written
    by false = record { privates = once.privates; apart = once.apart; news = once.news }

-- after what a value publishes
pub once_publish : (v : Value) (work : Work) → IsOnce work → IsOnce (publish v work)
once_publish v work once = record {
  privates = different_moved (λ o. not (is_published work.privates v o)) work.privates once.privates;
  apart = apart;
  news = rising_inserts moved work.news (different_moved (is_published work.privates v) work.privates once.privates) moved_apart once.news;
}
  where
    moved : List Body
    moved = filter (λ body. is_published work.privates v body.object) work.privates

    moved_apart : (o : ℕ) → is_some (body_in o moved) ≡ true → body_in o work.news ≡ None
    moved_apart o there = once.apart o (by (is_published work.privates v o) (ap (λ x. is_some x) (sym (moved_found (is_published work.privates v) work.privates o)) ∙ there))
      where
        by : (b : Bool) → is_some (cond b (body_in o work.privates) None) ≡ true → is_some (body_in o work.privates) ≡ true
        by true e = e
        by false e = absurd (cc e)

    apart : (o : ℕ) → is_some (body_in o (filter (λ body. not (is_published work.privates v body.object)) work.privates)) ≡ true → body_in o (insert_bodies moved work.news) ≡ None
    apart o there = by (is_published work.privates v o) refl (ap (λ x. is_some x) (sym (kept_found (is_published work.privates v) work.privates o)) ∙ there)
      where
        by : (b : Bool) → is_published work.privates v o ≡ b → is_some (cond b None (body_in o work.privates)) ≡ true → body_in o (insert_bodies moved work.news) ≡ None
        by true e there = absurd (cc there)
        by false e there =
            let none : body_in o moved ≡ None = moved_found (is_published work.privates v) work.privates o ∙ rw e refl in
            inserts_found moved work.news o (different_moved (is_published work.privates v) work.privates once.privates) moved_apart ∙ (ap (λ x. either x (body_in o work.news)) none ∙ once.apart o there)

-- after a done Put
pub once_put : (o f : ℕ) (v : Value) (work : Work) → IsOnce work → IsOnce (put o f v work)
once_put o f v work once = by (is_some (body_in o work.privates))
  where
    private : IsOnce (record work { privates = with_value o f v work.privates })
    private = record {
      privates = different_value o f v work.privates once.privates;
      apart = λ q there. once.apart q (had q (eqb q o) (ap (λ x. is_some x) (sym (value_found o f v work.privates q)) ∙ there));
      news = once.news;
    }
      where
        had : (q : ℕ) (b : Bool) → is_some (cond b (option_map (with_field f v) (body_in q work.privates)) (body_in q work.privates)) ≡ true → is_some (body_in q work.privates) ≡ true
        had q true e = some (body_in q work.privates) e
          where
            some : (x : Option Body) → is_some (option_map (with_field f v) x) ≡ true → is_some x ≡ true
            some None e = absurd (cc e)
            some (Some x) e = refl
        had q false e = e

    by : (b : Bool) → IsOnce (cond b (record work { privates = with_value o f v work.privates }) (publish v (put_shared o f v work)))
    by true = private
    by false = once_publish v (put_shared o f v work) (once_put_shared o f v work once)

-- after a New of an object that wasn't in hand
pub once_made : (body : Body) (work : Work) → IsOnce work → body_in body.object work.privates ≡ None → body_in body.object work.news ≡ None → IsOnce (record work { privates = body ∷ work.privates })
once_made body work once not_private not_new = record {
  privates = (not_private, once.privates);
  apart = λ o there. by o (eqb body.object o) refl there;
  news = once.news;
}
  where
    by : (o : ℕ) (b : Bool) → eqb body.object o ≡ b → is_some (cond b (Some body) (body_in o work.privates)) ≡ true → body_in o work.news ≡ None
    by o true e there = ap (λ n. body_in n work.news) (sym (eqb-true body.object o e)) ∙ not_new
    by o false e there = once.apart o there
