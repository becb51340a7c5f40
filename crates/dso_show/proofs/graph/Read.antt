-- The bodies of the objects that records publish, read record by record.
use Rattle.std.proofs.Common.{ℕ, ◌≡◌, ◌+◌, ◌<◌, sym, ◌∙◌, ap, List, [], ◌∷◌, ◌++◌, length, map, take, get_or, Option, Some}
use Rattle.std.proofs.lemmas.Grind.{flat_map-append}
use Rattle.std.proofs.lemmas.List.{append-nil, map-append, take_more}
use Rattle.dso_base.specs.declared.record.Body.{Body}
use Rattle.dso_base.specs.declared.record.Txn.{Txn}
use Rattle.dso_show.specs.Published.{objects_of, published}

-- the objects of one more record
published_more : (records : List (ℕ × Txn)) (i : ℕ) (r : ℕ × Txn) → i < length records → r ≡ get_or records i r → published (take (i + 1) records) ≡ published (take i records) ++ objects_of r.1.news
published_more records i r less is =
    ap published (take_more records i r less ∙ ap (λ (x : ℕ × Txn). take i records ++ x ∷ []) (sym is))
    ∙ flat_map-append (λ (x : ℕ × Txn). objects_of x.1.news) (take i records) (r ∷ [])
    ∙ ap (λ (objects : List ℕ). published (take i records) ++ objects) (append-nil (objects_of r.1.news))

-- their bodies, added to those of the records before it
pub record_more : (find : ℕ → Option Body) (records : List (ℕ × Txn)) (i : ℕ) (r : ℕ × Txn) (old new : List Body) → i < length records → r ≡ get_or records i r
    → map Some old ≡ map find (0 ∷ published (take i records)) → map Some new ≡ map Some old ++ map find (objects_of r.1.news)
    → map Some new ≡ map find (0 ∷ published (take (i + 1) records))
record_more find records i r old new less is before added =
    added ∙ ap (λ (l : List (Option Body)). l ++ map find (objects_of r.1.news)) before
    ∙ sym (map-append find (0 ∷ published (take i records)) (objects_of r.1.news))
    ∙ ap (λ (objects : List ℕ). map find (0 ∷ objects)) (sym (published_more records i r less is))
