-- How the path of a key ends.
use Rattle.std.proofs.Common.{◌≡◌, ◌≢◌, ◌≤◌, ◌<◌, ◌⊎◌, inl, inr, refl, sym, ap, subst, ℕ, zero, suc, ◌+◌, Bool, true, false, cond, ℤ, Option, None, Some, arith}
use Rattle.std.proofs.lemmas.Bool.{cases_eq}
use Rattle.std.proofs.lemmas.Bool.Decides.{Decides-int_eq}
use Rattle.std.proofs.lemmas.Nat.{mod_below}
use Rattle.dso_base.specs.declared.value.Value.{Value}
use Rattle.dso_base.specs.declared.value.Value.TheVariants as value
use Rattle.dso_map.specs.declared.map_op.MapOp.{MapOp}
use Rattle.dso_map.specs.declared.map_op.MapOp.TheVariants as op
use Rattle.dso_map.specs.Bodies.{MapBody, left_by, given_by, asked_by}
use Rattle.dso_map.specs.Fields.{MapField, slots, field_takes}
use Rattle.dso_map.specs.Talk.{Talk, slot_of, key_of, is_true, is_null, is_long, long_of, either, found, missing, wants_hole, hole_at, noting, along}
use Rattle.dso_map.specs.Fields.MapField.{Touched, Key, Held}
use Rattle.dso_map.specs.Talk.Talk.{Gets}
use Rattle.dso_map.specs.SoundMap.{touched, key, IsSoundMap}

-- from the body the talk comes to the other one, which is what is left of it, after at most so many requests, none of which writes
pub record Comes (b : MapBody) (t u : Talk) (n : ℕ) : Type 0 where
  pub left : left_by t b ≡ left_by u b
  pub given : given_by t b ≡ given_by u b
  pub asked : asked_by t b ≤ n + asked_by u b

pub comes_to_itself : (b : MapBody) (t u : Talk) (n : ℕ) → t ≡ u → Comes b t u n
comes_to_itself b t u n same = record { left = ap (λ x. left_by x b) same; given = ap (λ x. given_by x b) same; asked = subst (λ x. asked_by t b ≤ n + asked_by x b) same (omega arith) }

pub comes_on : (b : MapBody) (f : MapField) (then : Value → Talk) (u : Talk) (n : ℕ) → Comes b (then (b f)) u n → Comes b (Gets f then) u (suc n)
comes_on b f then u n comes = record { left = comes.left; given = comes.given; asked = let few : asked_by (then (b f)) b ≤ n + asked_by u b = comes.asked in omega arith }

pub comes_by : (b : MapBody) (s t u : Talk) (n : ℕ) → s ≡ t → Comes b t u n → Comes b s u n
comes_by b s t u n same comes = subst (λ x. Comes b x u n) (sym same) comes

-- ---- the path

-- the slots before this place on the path were touched, and none of them is the key's
pub record Passed (b : MapBody) (k : ℤ) (d : ℕ) : Type 0 where
  pub touched_ : (e : ℕ) → e < d → touched b (slot_of k e) ≡ true
  pub others : (e : ℕ) → e < d → key b (slot_of k e) ≢ k

-- the hole is the first slot there without a value, where it is looked for
pub data IsHole (b : MapBody) (k : ℤ) (d : ℕ) : Option ℕ → Type 0 where
  none : ((e : ℕ) → e < d → is_null (b (Held (slot_of k e))) ≡ false) → IsHole b k d None
  some : (e : ℕ) → e < d → b (Held (slot_of k e)) ≡ value.Null → IsHole b k d (Some (slot_of k e))

-- so where a hole is looked for
abbrev pub KeepsHole : MapOp → MapBody → ℤ → ℕ → Option ℕ → Type 0
KeepsHole (op.Put k o) b j d hole = IsHole b j d hole
KeepsHole op b k d hole = Unit {0}

-- how the path of a key ends: at a touched slot that is its own, at one that wasn't touched, or behind all
pub data PathEnds (op : MapOp) (b : MapBody) (k : ℤ) (t : Talk) (n : ℕ) : Type 0 where
  at_key : (d : ℕ) → d < slots → touched b (slot_of k d) ≡ true → key b (slot_of k d) ≡ k → Comes b t (found op (slot_of k d)) n → PathEnds op b k t n
  at_end : (d : ℕ) → d < slots → touched b (slot_of k d) ≡ false → Passed b k d → (hole : Option ℕ) → KeepsHole op b k d hole → Comes b t (missing op (Some (slot_of k d)) hole) n → PathEnds op b k t n
  behind_all : Passed b k slots → (hole : Option ℕ) → KeepsHole op b k slots hole → Comes b t (missing op None hole) n → PathEnds op b k t n

-- one slot further
passed_on : (b : MapBody) (k : ℤ) (d : ℕ) → Passed b k d → touched b (slot_of k d) ≡ true → key b (slot_of k d) ≢ k → Passed b k (suc d)
passed_on b k d passed is other = record {
  touched_ = λ e less. by (λ e. touched b (slot_of k e) ≡ true) e less passed.touched_ is;
  others = λ e less. by (λ e. key b (slot_of k e) ≢ k) e less passed.others other;
}
  where
    by : (P : ℕ → Type 0) (e : ℕ) → e < suc d → ((e : ℕ) → e < d → P e) → P d → P e
    by P e less before here = pick (cases_eq e d)
      where
        pick : (e ≡ d) ⊎ (e ≡ d → ⊥) → P e
        pick (inl same) = subst P (sym same) here
        pick (inr other) = before e (omega (arith, less, other))

-- the slots of a path are slots
pub slot_below : (k : ℤ) (d : ℕ) → slot_of k d < slots
unfolding slots
slot_below k d = mod_below _ 256 (omega arith)

-- with more requests
more_asked : (b : MapBody) (t u : Talk) (m n : ℕ) → m ≤ n → Comes b t u m → Comes b t u n
more_asked b t u m n le comes = record { left = comes.left; given = comes.given; asked = let few : asked_by t b ≤ m + asked_by u b = comes.asked in omega arith }

-- three requests for each slot
abbrev pub bound : ℕ → ℕ
bound zero = 0
bound (suc n) = suc (suc (suc (bound n)))

-- whether the key of a touched slot is the key
long_is : (k : ℤ) (v : Value) → v ≡ value.Long (long_of v) → (t : Bool) → is_long k v ≡ t → (t ≡ true → long_of v ≡ k) × (t ≡ false → long_of v ≢ k)
long_is k v long t is = let decides : is_long k (value.Long (long_of v)) ≡ t = subst (λ x. is_long k x ≡ t) long is in
    (λ yes_. grind (arith, Decides-int_eq), λ no_ same. grind (arith, Decides-int_eq))

-- a value that a key field_takes is a long
long_taken : (i : ℕ) (v : Value) → field_takes (Key i) v ≡ true → v ≡ value.Long (long_of v)
long_taken i (value.Long n) is = refl
long_taken i value.Null is = absurd (cc is)
long_taken i (value.Bool b) is = absurd (cc is)
long_taken i (value.Text b) is = absurd (cc is)
long_taken i (value.Ref b) is = absurd (cc is)

-- each key of a sound body is a long
pub longs : (b : MapBody) → IsSoundMap b → (i : ℕ) → i < slots → b (Key i) ≡ value.Long (key b i)
longs b sound i less = long_taken i (b (Key i)) (sound.kinds (Key i) less)

pub null_is : (v : Value) → is_null v ≡ true → v ≡ value.Null
null_is value.Null is = refl
null_is (value.Long n) is = absurd (cc is)
null_is (value.Bool b) is = absurd (cc is)
null_is (value.Text b) is = absurd (cc is)
null_is (value.Ref b) is = absurd (cc is)

-- what is asked before the path goes on changes nothing of how it ends
ends_on : (op : MapOp) (b : MapBody) (k : ℤ) (t s : Talk) (m n : ℕ) → ((u : Talk) → Comes b t u m → Comes b s u n) → PathEnds op b k t m → PathEnds op b k s n
ends_on op b k t s m n more (PathEnds.at_key d less is own comes) = PathEnds.at_key d less is own (more _ comes)
ends_on op b k t s m n more (PathEnds.at_end d less is passed hole keeps comes) = PathEnds.at_end d less is passed hole keeps (more _ comes)
ends_on op b k t s m n more (PathEnds.behind_all passed hole keeps comes) = PathEnds.behind_all passed hole keeps (more _ comes)

-- no slot so far is without a value, nor is this one
none_on : (b : MapBody) (k : ℤ) (d : ℕ) → ((e : ℕ) → e < d → is_null (b (Held (slot_of k e))) ≡ false) → is_null (b (Held (slot_of k d))) ≡ false → (e : ℕ) → e < suc d → is_null (b (Held (slot_of k e))) ≡ false
none_on b k d before here e less = pick (cases_eq e d)
  where
    pick : (e ≡ d) ⊎ (e ≡ d → ⊥) → is_null (b (Held (slot_of k e))) ≡ false
    pick (inl same) = subst (λ x. is_null (b (Held (slot_of k x))) ≡ false) (sym same) here
    pick (inr other) = before e (omega (arith, less, other))

-- the hole stays where it is,
hole_stays : (b : MapBody) (k : ℤ) (d : ℕ) (e : ℕ) → IsHole b k d (Some (slot_of k e)) → (f : ℕ) → Unit {0}
hole_stays b k d e is f = tt

module _ (b : MapBody) (k : ℤ) (sound : IsSoundMap b) where
  -- the hole behind one slot more, where one is looked for, and none was found
  hole_here : (d : ℕ) → ((e : ℕ) → e < d → is_null (b (Held (slot_of k e))) ≡ false) → (n : Bool) → is_null (b (Held (slot_of k d))) ≡ n → IsHole b k (suc d) (cond n (Some (slot_of k d)) None)
  hole_here d before true is = IsHole.some d (omega arith) (null_is (b (Held (slot_of k d))) is)
  hole_here d before false is = IsHole.none (none_on b k d before is)

  -- what is asked of a slot's value on the way
  note_put : (j : ℤ) (o : ℕ) (d : ℕ) (hole : Option ℕ) → IsHole b k d hole → (t : Option ℕ → Talk) (n : ℕ) → ((next : Option ℕ) → IsHole b k (suc d) next → PathEnds (op.Put j o) b k (t next) n)
      → PathEnds (op.Put j o) b k (noting (wants_hole (op.Put j o) hole) (slot_of k d) hole t) (suc n)
  note_put j o d _ (IsHole.none before) t n then = ends_on (op.Put j o) b k (t (hole_at (slot_of k d) (b (Held (slot_of k d))))) _ n (suc n) (λ u comes. comes_on b (Held (slot_of k d)) (λ v. t (hole_at (slot_of k d) v)) u n comes)
      (then _ (hole_here d before (is_null (b (Held (slot_of k d)))) refl))
  note_put j o d _ (IsHole.some e less null) t n then = ends_on (op.Put j o) b k (t (Some (slot_of k e))) _ n (suc n) (λ u comes. more_asked b _ u n (suc n) (omega arith) comes) (then (Some (slot_of k e)) (IsHole.some e (omega (arith, less)) null))

  note : (op : MapOp) (d : ℕ) (hole : Option ℕ) → KeepsHole op b k d hole → (t : Option ℕ → Talk) (n : ℕ) → ((next : Option ℕ) → KeepsHole op b k (suc d) next → PathEnds op b k (t next) n)
      → PathEnds op b k (noting (wants_hole op hole) (slot_of k d) hole t) (suc n)
  note (op.Put j o) d hole keeps t n then = note_put j o d hole keeps t n then
  note (op.Get j) d hole keeps t n then = ends_on (op.Get j) b k (t hole) _ n (suc n) (λ u comes. more_asked b _ u n (suc n) (omega arith) comes) (then hole tt)
  note (op.Has j) d hole keeps t n then = ends_on (op.Has j) b k (t hole) _ n (suc n) (λ u comes. more_asked b _ u n (suc n) (omega arith) comes) (then hole tt)
  note (op.Remove j) d hole keeps t n then = ends_on (op.Remove j) b k (t hole) _ n (suc n) (λ u comes. more_asked b _ u n (suc n) (omega arith) comes) (then hole tt)
  note op.Size d hole keeps t n then = ends_on op.Size b k (t hole) _ n (suc n) (λ u comes. more_asked b _ u n (suc n) (omega arith) comes) (then hole tt)

module _ (b : MapBody) (sound : IsSoundMap b) (op : MapOp) where
  -- the key of the call
  abbrev k : ℤ
  k = key_of op

  -- one slot of a path, where what is left of it ends so
  path_step : (left d : ℕ) (hole : Option ℕ) → d < slots → Passed b k d → KeepsHole op b k d hole
      → ((next : Option ℕ) → Passed b k (suc d) → KeepsHole op b k (suc d) next → PathEnds op b k (along op left (suc d) next) (bound left))
      → PathEnds op b k (along op (suc left) d hole) (bound (suc left))
  path_step left d hole less passed keeps further = by_touched (touched b (slot_of k d)) refl
    where
      s : ℕ
      s = slot_of k d

      on : Option ℕ → Talk
      on next = along op left (suc d) next

      rest : Talk
      rest = noting (wants_hole op hole) s hole on

      inside : Talk
      inside = Gets (Key s) (λ key. either (is_long k key) (found op s) rest)

      by_key : touched b s ≡ true → (t : Bool) → is_long k (b (Key s)) ≡ t → PathEnds op b k inside (suc (suc (bound left)))
      by_key was true is = PathEnds.at_key d less was ((long_is k (b (Key s)) (longs b sound s (slot_below k d)) true is).0 refl)
          (more_asked b _ _ 1 _ (omega arith) (comes_on b (Key s) (λ key. either (is_long k key) (found op s) rest) _ 0 (comes_to_itself b _ _ 0 (ap (λ x. either x (found op s) rest) is))))
      by_key was false is = ends_on op b k rest _ (suc (bound left)) (suc (suc (bound left)))
          (λ u comes. comes_on b (Key s) (λ key. either (is_long k key) (found op s) rest) u (suc (bound left)) (comes_by b _ rest u (suc (bound left)) (ap (λ x. either x (found op s) rest) is) comes))
          (note b k sound op d hole keeps on (bound left) (λ next is_hole. further next (passed_on b k d passed was ((long_is k (b (Key s)) (longs b sound s (slot_below k d)) false is).1 refl)) is_hole))

      by_touched : (t : Bool) → touched b s ≡ t → PathEnds op b k (along op (suc left) d hole) (bound (suc left))
      by_touched false is = PathEnds.at_end d less is passed hole keeps (more_asked b _ _ 1 _ (omega arith) (comes_on b (Touched s) (λ t. either (is_true t) inside (missing op (Some s) hole)) _ 0 (comes_to_itself b _ _ 0 (ap (λ x. either x inside (missing op (Some s) hole)) is))))
      by_touched true is = ends_on op b k inside _ (suc (suc (bound left))) (bound (suc left))
          (λ u comes. comes_on b (Touched s) (λ t. either (is_true t) inside (missing op (Some s) hole)) u (suc (suc (bound left))) (comes_by b _ inside u _ (ap (λ x. either x inside (missing op (Some s) hole)) is) comes))
          (by_key is (is_long k (b (Key s))) refl)

  path_ends : (left d : ℕ) (hole : Option ℕ) → left + d ≡ slots → Passed b k d → KeepsHole op b k d hole → PathEnds op b k (along op left d hole) (bound left)
  path_ends zero d hole all passed keeps =
      let same : d ≡ slots = omega (arith, all) in
      PathEnds.behind_all (subst (Passed b k) same passed) hole (subst (λ x. KeepsHole op b k x hole) same keeps) (comes_to_itself b _ _ _ refl)
  path_ends (suc left) d hole all passed keeps = path_step left d hole (omega (arith, all)) passed keeps (λ next further is_hole. path_ends left (suc d) next (omega (arith, all)) further is_hole)

  -- the whole path
  pub whole_path : KeepsHole op b k 0 None → PathEnds op b k (along op slots 0 None) (bound slots)
  whole_path keeps = path_ends slots 0 None (omega arith) (record { touched_ = λ e less. absurd (omega (arith, less)); others = λ e less. absurd (omega (arith, less)) }) keeps
