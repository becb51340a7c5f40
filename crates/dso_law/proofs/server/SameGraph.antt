-- A message fits by a graph as by another one that has the same of each object that the message names.
use Rattle.std.specs.List.{AllByRecursion, list_any}
use Rattle.std.proofs.Common.{ℕ, ◌≡◌, ◌≢◌, ◌⊎◌, inl, inr, refl, sym, ◌∙◌, ap, subst, Bool, true, false, eqb, ◌||◌, Option, None, List, [], ◌∷◌, ◌++◌, map, flat_map}
use Rattle.std.proofs.lemmas.Bool.{eq-eqb, or_cases}
use Rattle.dso_base.specs.declared.journal.Entry.{Entry}
use Rattle.dso_base.specs.declared.message.Up.{Up}
use Rattle.dso_base.specs.declared.message.Up.TheVariants as up
use Rattle.dso_base.specs.declared.record.Body.{Body}
use Rattle.dso_base.specs.declared.record.Set.{Set}
use Rattle.dso_base.specs.declared.record.Txn.{Txn}
use Rattle.dso_base.specs.declared.value.Value.{Value}
use Rattle.dso_base.specs.declared.value.Value.TheVariants as value
use Rattle.dso_base.specs.Block.{has_reference}
use Rattle.dso_base.specs.Naming.{body_with_names, ending_names, note_names, record_names, set_names, up_names}
use Rattle.dso_law.specs.Copies.{is_among}
use Rattle.dso_law.specs.FitsUp.{FitsNewsBy, FitsRecordBy, FitsSetBy, FitsStored, FitsUpBy, IsNamedBy, stored_values}
use Rattle.dso_law.specs.Laws.{SameGraphFits}
use Rattle.dso_law.specs.Settings.{Settings}
use Rattle.dso_law.specs.Store.{stored}

-- one of two holds
or_first : (a b : Bool) → a ≡ true → (a || b) ≡ true
or_first a b e = ap (λ x. x || b) e

or_second : (a b : Bool) → b ≡ true → (a || b) ≡ true
or_second true b e = refl
or_second false b e = e

-- what is named in two lists is named in one of them
in_append : (o : ℕ) (xs ys : List Value) → has_reference o (xs ++ ys) ≡ true → (has_reference o xs ≡ true) ⊎ (has_reference o ys ≡ true)
in_append o [] ys e = inr e
in_append o (value.Ref named ∷ xs) ys e = elim (or_cases (eqb named o) (has_reference o (xs ++ ys)) e) [
  | inl first ↦ inl (or_first (eqb named o) (has_reference o xs) first)
  | inr later ↦ elim (in_append o xs ys later) [ inl there ↦ inl (or_second (eqb named o) (has_reference o xs) there) | inr behind ↦ inr behind ]
]
in_append o (value.Null ∷ xs) ys e = in_append o xs ys e
in_append o (value.Long n ∷ xs) ys e = in_append o xs ys e
in_append o (value.Bool b ∷ xs) ys e = in_append o xs ys e
in_append o (value.Text t ∷ xs) ys e = in_append o xs ys e

-- so in the values of bodies, and in those of sets
in_bodies : (o : ℕ) (bodies : List Body) → has_reference o (flat_map (λ body. body.values) bodies) ≡ true → list_any (λ body. body_with_names body o) bodies ≡ true
in_bodies o [] e = e
in_bodies o (body ∷ bodies) e = elim (in_append o body.values (flat_map (λ body. body.values) bodies) e) [
  | inl here ↦ or_first (body_with_names body o) (list_any (λ body. body_with_names body o) bodies) (or_second (eqb body.object o) (has_reference o body.values) here)
  | inr later ↦ or_second (body_with_names body o) (list_any (λ body. body_with_names body o) bodies) (in_bodies o bodies later)
]

in_sets : (o : ℕ) (sets : List Set) → has_reference o (map (λ set. set.value) sets) ≡ true → list_any (λ set. set_names set o) sets ≡ true
in_sets o [] e = e
in_sets o (set ∷ sets) e = elim (in_append o (set.value ∷ []) (map (λ set. set.value) sets) e) [
  | inl here ↦ or_first (set_names set o) (list_any (λ set. set_names set o) sets) (or_second (eqb set.object o) (has_reference o (set.value ∷ [])) here)
  | inr later ↦ or_second (set_names set o) (list_any (λ set. set_names set o) sets) (in_sets o sets later)
]

module _ (graph other : ℕ → Option Body) (p : Settings) (c : ℕ) (es : List Entry) where
  named_too : (news : List Body) (values : List Value) → ((o : ℕ) → has_reference o values ≡ true → graph o ≡ other o) → AllByRecursion (IsNamedBy graph news) values → AllByRecursion (IsNamedBy other news) values
  named_too news [] same all = tt
  named_too news (value.Ref o ∷ values) same all = (
    subst (λ found. (found ≢ None) ⊎ (is_among o news ≡ true)) (same o (or_first (eqb o o) (has_reference o values) (eq-eqb o o refl))) all.0,
    named_too news values (λ x names. same x (or_second (eqb o x) (has_reference x values) names)) all.1,
  )
  named_too news (value.Null ∷ values) same all = (tt, named_too news values same all.1)
  named_too news (value.Long n ∷ values) same all = (tt, named_too news values same all.1)
  named_too news (value.Bool b ∷ values) same all = (tt, named_too news values same all.1)
  named_too news (value.Text t ∷ values) same all = (tt, named_too news values same all.1)

  news_too : (bodies : List Body) → ((o : ℕ) → list_any (λ body. body_with_names body o) bodies ≡ true → graph o ≡ other o) → AllByRecursion (FitsNewsBy graph p c es) bodies → AllByRecursion (FitsNewsBy other p c es) bodies
  news_too [] same all = tt
  news_too (body ∷ bodies) same all =
      let its : body_with_names body body.object ≡ true = or_first (eqb body.object body.object) (has_reference body.object body.values) (eq-eqb body.object body.object refl) in (
        record {
          given = all.0.given;
          new = sym (same body.object (or_first (body_with_names body body.object) (list_any (λ b. body_with_names b body.object) bodies) its)) ∙ all.0.new;
          class = all.0.class;
          shaped = all.0.shaped;
        },
        news_too bodies (λ o names. same o (or_second (body_with_names body o) (list_any (λ b. body_with_names b o) bodies) names)) all.1,
      )

  sets_too : (sets : List Set) → ((o : ℕ) → list_any (λ set. set_names set o) sets ≡ true → graph o ≡ other o) → AllByRecursion (FitsSetBy graph p c es) sets → AllByRecursion (FitsSetBy other p c es) sets
  sets_too [] same all = tt
  sets_too (set ∷ sets) same all =
      let its : set_names set set.object ≡ true = or_first (eqb set.object set.object) (has_reference set.object (set.value ∷ [])) (eq-eqb set.object set.object refl) in (
        (all.0.0, subst (λ found. FitsStored p c set found es) (same set.object (or_first (set_names set set.object) (list_any (λ s. set_names s set.object) sets) its)) all.0.1),
        sets_too sets (λ o names. same o (or_second (set_names set o) (list_any (λ s. set_names s o) sets) names)) all.1,
      )

  record_too : (txn : Txn) → ((o : ℕ) → record_names txn o ≡ true → graph o ≡ other o) → FitsRecordBy graph p c txn es → FitsRecordBy other p c txn es
  record_too txn same fits = record {
    number = fits.number;
    thread = fits.thread;
    going = fits.going;
    news = news_too txn.news by_news fits.news;
    news_rise = fits.news_rise;
    sets = sets_too txn.sets by_sets fits.sets;
    sets_rise = fits.sets_rise;
    named = named_too txn.news (stored_values txn) by_values fits.named;
    printed = fits.printed;
    texts = fits.texts;
    notes = fits.notes;
    ending = fits.ending;
  }
    where
      news_name : ℕ → Bool
      news_name o = list_any (λ body. body_with_names body o) txn.news

      sets_name : ℕ → Bool
      sets_name o = list_any (λ set. set_names set o) txn.sets

      rest_name : ℕ → Bool
      rest_name o = has_reference o txn.outs || (list_any (λ note. note_names note o) txn.notes || ending_names txn.ending o)

      by_news : (o : ℕ) → news_name o ≡ true → graph o ≡ other o
      by_news o names = same o (or_first (news_name o) (sets_name o || rest_name o) names)

      by_sets : (o : ℕ) → sets_name o ≡ true → graph o ≡ other o
      by_sets o names = same o (or_second (news_name o) (sets_name o || rest_name o) (or_first (sets_name o) (rest_name o) names))

      by_values : (o : ℕ) → has_reference o (stored_values txn) ≡ true → graph o ≡ other o
      by_values o names = elim (in_append o (flat_map (λ body. body.values) txn.news) (map (λ set. set.value) txn.sets) names) [
        | inl published ↦ by_news o (in_bodies o txn.news published)
        | inr set ↦ by_sets o (in_sets o txn.sets set)
      ]

  up_too : (m : Up) → ((o : ℕ) → up_names m o ≡ true → graph o ≡ other o) → FitsUpBy graph p c m es → FitsUpBy other p c m es
  up_too up.IdAsk same fits = tt
  up_too (up.Fault o) same fits = (subst (λ found. found ≢ None) (same o (eq-eqb o o refl)) fits.0, fits.1)
  up_too (up.Flushed o) same fits = fits
  up_too (up.Request l level) same fits = fits
  up_too (up.Return l threads) same fits = fits
  up_too (up.Commit txn) same fits = record_too txn same fits

pub same_graph_fits : SameGraphFits
same_graph_fits graph p c m es same = (up_too graph (λ o. stored p.shape o es) p c es m same, up_too (λ o. stored p.shape o es) graph p c es m (λ o names. sym (same o names)))
