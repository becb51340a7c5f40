-- The objects of a graph listed, once news that fit it are added.
use Rattle.std.proofs.Common.{ℕ, suc, ◌≡◌, ◌≢◌, ◌||◌, refl, sym, ◌∙◌, ap, arith, true, false, eqb, is_some, List, [], ◌∷◌, ◌++◌, Option, Some}
use Rattle.std.specs.List.{AllByRecursion}
use Rattle.std.specs.Option.{IfSome}
use Rattle.std.proofs.lemmas.Bool.{ne_eqb, or_from}
use Rattle.std.proofs.lemmas.List.Folds.{list_any-append}
use Rattle.dso_base.specs.declared.record.Body.{Body}
use Rattle.dso_base.specs.declared.shape.Shape.{Shape}
use Rattle.dso_base.specs.declared.value.ClassId.{ClassId}
use Rattle.dso_base.specs.declared.value.Kind.{Kind}
use Rattle.dso_base.specs.declared.value.Kind.TheVariants as kind
use Rattle.dso_base.specs.declared.value.Value.{Value}
use Rattle.dso_base.specs.declared.value.Value.TheVariants as value
use Rattle.dso_base.specs.Shape.{kind_of}
use Rattle.dso_base.specs.Value.{Fits}
use Rattle.dso_law.specs.FitsDown.{FitFrom}
use Rattle.dso_law.specs.Store.{body_by_news}
use Rattle.dso_store.specs.Graph.{with_news}
use Rattle.dso_keep.specs.Fitting.{IsRising}
use Rattle.dso_keep.specs.Records.{IsNewObject, IsThere}
use Rattle.dso_keep.proofs.lists.Telling.{there_some}
use Rattle.dso_show.specs.Published.{objects_of}
use Rattle.dso_show.proofs.graph.Listed.{IsBodyOf, IsListed, Names, body_grown}
use Rattle.dso_show.proofs.graph.Objects.{by_news, is_listed, once_both, once_rising, some_news}

-- an object that fits a kind isn't object 0
other_than_roots : (k : Kind) (o : ℕ) → Fits k (value.Ref o) → o ≢ 0
other_than_roots kind.Long o fits = absurd fits
other_than_roots kind.Bool o fits = absurd fits
other_than_roots kind.Text o fits = absurd fits
other_than_roots kind.Ref o fits = fits

module _ (shape : Shape) (objects : List ℕ) (bodies : ℕ → Option Body) (news : List Body) (listed : IsListed shape objects bodies) where
  abbrev all : List ℕ
  all = objects ++ objects_of news

  -- an object has a body exactly where it is listed or one of the news
  there_all : (o : ℕ) → is_some (body_by_news o news (bodies o)) ≡ is_listed o all
  there_all o = some_news o news (bodies o) ∙ ap (λ b. b || is_listed o (objects_of news)) (listed.there o) ∙ sym (list_any-append (eqb o) objects (objects_of news))

  -- a value that fits and names what is there names what is listed
  pub value_names : (k : Kind) (v : Value) → Fits k v → IsThere shape bodies news v → Names shape all v
  value_names k (value.Ref o) fits there = (other_than_roots k o fits, sym (there_all o) ∙ there_some (body_by_news o news (bodies o)) there)
  value_names k (value.Text t) fits there = there
  value_names k (value.Long n) fits there = tt
  value_names k (value.Bool b) fits there = tt
  value_names k value.Null fits there = tt

  values_name : (c : ClassId) (f : ℕ) (vs : List Value) → FitFrom shape c f vs → AllByRecursion (IsThere shape bodies news) vs → AllByRecursion (Names shape all) vs
  values_name c f [] fit there = tt
  values_name c f (v ∷ vs) fit there = (value_names (kind_of shape c f) v fit.0 there.0, values_name c (suc f) vs fit.1 there.1)

  -- what is listed is none of the news
  apart : (o : ℕ) (some : List Body) → AllByRecursion (IsNewObject shape bodies news) some → is_some (bodies o) ≡ true → is_listed o (objects_of some) ≡ false
  apart o [] new there = refl
  apart o (body ∷ some) new there =
      or_from (eqb o body.object) (is_listed o (objects_of some))
      (ne_eqb o body.object (λ same. absurd (cc (sym there ∙ ap (λ x. is_some (bodies x)) same ∙ ap is_some new.0.new))))
      (apart o some new.1 there)

  -- each of the news is its object's body
  are_bodies : (o : ℕ) (some : List Body) → AllByRecursion (IsNewObject shape bodies news) some → AllByRecursion (λ (body : Body). body.object ≡ o → IfSome (Some body) (IsBodyOf shape all o)) some
  are_bodies o [] new = tt
  are_bodies o (body ∷ some) new = (
    λ same. record {
      object = same;
      class = (λ roots. absurd (new.0.class roots), λ zero. absurd (omega (arith, new.0.counted, same, zero)));
      shaped = new.0.shaped;
      named = values_name body.class 0 body.values new.0.shaped.1 new.0.named;
    },
    are_bodies o some new.1,
  )

  -- the news are listed behind the others
  pub news_listed : IsRising news → AllByRecursion (IsNewObject shape bodies news) news → IsListed shape all (with_news news bodies)
  news_listed rising new = record {
    once = once_both objects (objects_of news) listed.once (once_rising news rising) (λ o is. apart o news new (listed.there o ∙ is));
    there = there_all;
    each = λ o. by_news (λ found. IfSome found (IsBodyOf shape all o)) o news (bodies o) (body_grown shape objects (objects_of news) o (bodies o) (listed.each o)) (are_bodies o news new);
  }
