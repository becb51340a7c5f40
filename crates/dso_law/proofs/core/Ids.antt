-- The ids ahead, batch by batch.
use Rattle.std.proofs.Common.{ℕ, suc, ◌+◌, ◌*◌, ◌-◌, ◌<◌, ◌≤◌, ◌≡◌, inl, inr, refl, sym, ◌∙◌, ap, Bool, true, false, cond, ltb, Some, None, List, [], ◌∷◌, ◌++◌, length, arith}
use Rattle.std.proofs.lemmas.Bool.Decides.{leb_tells}
use Rattle.dso_base.specs.declared.journal.Entry.{Entry}
use Rattle.dso_law.specs.Settings.{batch_size}
use Rattle.dso_law.specs.Records.{batches, made, id_at, next_id}
use Rattle.dso_law.specs.IdsAhead.{ids_from}
use Rattle.dso_law.specs.CoreLaws.{IdsAreAhead}

-- the first of the ids ahead is that of the next object
next_is : (es : List Entry) → ids_from 0 es ≡ next_id es
next_is es = let same : made es + 0 ≡ made es = omega arith in ap (id_at (batches es)) same

-- a number behind the first batch is there for the batches behind it
pub behind : (n : ℕ) → ltb n batch_size ≡ false → 256 ≤ n
behind n is = elim (leb_tells (suc n) 256) [ inl h ↦ absurd (cc (sym is ∙ h.0)) | inr h ↦ let far = h.1 in omega (arith, far) ]

-- so far behind the first batch
past_first : (m : ℕ) → ltb (256 + m) batch_size ≡ false
past_first m = elim (leb_tells (suc (256 + m)) 256) [ inl h ↦ let near = h.1 in absurd (omega (arith, near)) | inr h ↦ h.0 ]

-- an id behind the first batch is one of those behind it
next_batch : (b m : ℕ) (bs : List ℕ) → id_at (b ∷ bs) (256 + m) ≡ id_at bs m
next_batch b m bs = ap (λ t. cond t (Some (b + (256 + m))) (id_at bs (256 + m - batch_size))) (past_first m) ∙ ap (id_at bs) (omega arith)

-- what there was stays
stays : (bs : List ℕ) (first n : ℕ) → n < batch_size * length bs → id_at (bs ++ first ∷ []) n ≡ id_at bs n
stays [] first n less = absurd (omega (arith, less))
stays (b ∷ bs) first n less = by (ltb n batch_size) refl (λ far. stays bs first (n - batch_size) (omega (arith, less, far)))
  where
    by : (here : Bool) → ltb n batch_size ≡ here → (256 ≤ n → id_at (bs ++ first ∷ []) (n - batch_size) ≡ id_at bs (n - batch_size))
        → cond here (Some (b + n)) (id_at (bs ++ first ∷ []) (n - batch_size)) ≡ cond here (Some (b + n)) (id_at bs (n - batch_size))
    by true is rest = refl
    by false is rest = rest (behind n is)

-- where the ids behind one more batch begin
one_batch : (k n : ℕ) → batch_size * suc k + n ≡ 256 + (batch_size * k + n)
one_batch k n = omega arith

-- the new batch stands behind them
pub more : (bs : List ℕ) (first n : ℕ) → id_at (bs ++ first ∷ []) (batch_size * length bs + n) ≡ cond (ltb n batch_size) (Some (first + n)) None
more [] first n = let at : batch_size * 0 + n ≡ n = omega arith in ap (id_at (first ∷ [])) at
more (b ∷ bs) first n = ap (id_at (b ∷ bs ++ first ∷ [])) (one_batch (length bs) n) ∙ next_batch b (batch_size * length bs + n) (bs ++ first ∷ []) ∙ more bs first n

-- past the last batch there is none
none : (bs : List ℕ) (n : ℕ) → id_at bs (batch_size * length bs + n) ≡ None
none [] n = refl
none (b ∷ bs) n = ap (id_at (b ∷ bs)) (one_batch (length bs) n) ∙ next_batch b (batch_size * length bs + n) bs ∙ none bs n

-- Ids come batch by batch.
pub ids_are_ahead : IdsAreAhead
ids_are_ahead = record { next = next_is; stays = stays; more = more; none = none }
