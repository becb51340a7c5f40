-- Each object that records publish has a body, where all that they publish is listed.
use Rattle.std.proofs.Common.{ℕ, ◌≡◌, ◌≢◌, refl, ◌∙◌, true, eqb, List, [], ◌∷◌, Option, None}
use Rattle.std.proofs.lemmas.Bool.{eq-eqb, or_left, or_right}
use Rattle.std.proofs.lemmas.List.Folds.{list_any-append}
use Rattle.dso_base.specs.declared.record.Body.{Body}
use Rattle.dso_base.specs.declared.record.Txn.{Txn}
use Rattle.dso_base.specs.declared.shape.Shape.{Shape}
use Rattle.dso_keep.proofs.lists.Telling.{some_there}
use Rattle.dso_show.specs.Published.{AreAllThere, AreThere, objects_of, published}
use Rattle.dso_show.proofs.graph.Listed.{IsListed}
use Rattle.dso_show.proofs.graph.Objects.{is_listed}

module _ (find : ℕ → Option Body) where
  -- the objects of one record
  news_there : (news : List Body) → ((o : ℕ) → is_listed o (objects_of news) ≡ true → find o ≢ None) → AreThere find news
  news_there [] there = tt
  news_there (body ∷ news) there = (
    there body.object (or_left (eqb body.object body.object) (is_listed body.object (objects_of news)) (eq-eqb body.object body.object refl)),
    news_there news (λ o is. there o (or_right (eqb o body.object) (is_listed o (objects_of news)) is)),
  )

  -- and those of all
  records_there : (records : List (ℕ × Txn)) → ((o : ℕ) → is_listed o (published records) ≡ true → find o ≢ None) → AreAllThere find records
  records_there [] there = tt
  records_there (r ∷ records) there = (
    news_there r.1.news (λ o is. there o (list_any-append (eqb o) (objects_of r.1.news) (published records) ∙ or_left (is_listed o (objects_of r.1.news)) (is_listed o (published records)) is)),
    records_there records (λ o is. there o (list_any-append (eqb o) (objects_of r.1.news) (published records) ∙ or_right (is_listed o (objects_of r.1.news)) (is_listed o (published records)) is)),
  )

  module _ (shape : Shape) (records : List (ℕ × Txn)) (listed : IsListed shape (0 ∷ published records) find) where
    -- object 0 has a body
    pub roots_there : find 0 ≢ None
    roots_there = some_there (find 0) (listed.there 0)

    -- and so has each object that the records publish
    pub all_there : AreAllThere find records
    all_there = records_there records (λ o is. some_there (find o) (listed.there o ∙ or_right (eqb o 0) (is_listed o (published records)) is))
