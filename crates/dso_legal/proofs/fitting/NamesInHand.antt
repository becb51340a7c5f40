-- Which objects the values name that a thread has in hand: those that it has in hand itself, and those that are known besides.
use Rattle.std.specs.List.{AllByRecursion}
use Rattle.std.specs.Prelude.{slice_set}
use Rattle.std.proofs.Common.{Bool, List, Option, Some, [], ap, arith, cond, eqb, false, filter, is_some, ltb, map, not, refl, slice_get, subst, suc, sym, true, zero, ℕ, ◌+◌, ◌||◌, ◌↔◌, ◌∙◌, ◌∷◌, ◌≡◌, ◌≤◌}
use Rattle.dso_base.specs.Block.{Work, body_in, body_names, has_reference, insert_bodies, insert_body, insert_set, is_published, opening_body, publish, put, put_shared, start, with_value, work_by}
use Rattle.dso_base.specs.Reach.{Found, Reached}
use Rattle.dso_base.specs.Shape.{kind_of}
use Rattle.dso_base.specs.declared.lock.ThreadId.{ThreadId}
use Rattle.dso_base.specs.declared.record.Body.{Body}
use Rattle.dso_base.specs.declared.record.Set.{Set}
use Rattle.dso_base.specs.declared.request.Reply.{Reply}
use Rattle.dso_base.specs.declared.request.Reply.TheVariants.{Done, Made}
use Rattle.dso_base.specs.declared.request.Request.{Request}
use Rattle.dso_base.specs.declared.request.Request.TheVariants.{New, Notify, NotifyAll, Print, Put}
use Rattle.dso_base.specs.declared.shape.Shape.{Shape}
use Rattle.dso_base.specs.declared.value.ClassId.{ClassId}
use Rattle.dso_base.specs.declared.value.Kind.{Kind}
use Rattle.dso_base.specs.declared.value.Kind.TheVariants as kind
use Rattle.dso_base.specs.declared.value.Value.{Value}
use Rattle.dso_base.specs.declared.value.Value.TheVariants as value
use Rattle.dso_base.specs.Block.{opening_value}
use Rattle.dso_plain.proofs.keys.SameKeys.{number_self, same_number}
use Rattle.dso_lookup.proofs.Reaching.{reach_tells}
use Rattle.dso_law.specs.Copies.{is_among}
use Rattle.dso_law.proofs.client.HasBody.{found_among}
use Rattle.dso_legal.specs.OwnObjects.{count_bodies, count_in_hand}
use Rattle.dso_legal.proofs.acts.KnownNames.{reached_onward}
use Rattle.dso_legal.proofs.fitting.InHand.{BodyHas, all_inserted, body_more, each_filtered, each_so, opening_is, set_inserted, valued}
use Rattle.dso_legal.proofs.ids.Making.{IsNew}
use Rattle.dso_legal.proofs.objects.BodyCounts.{count_act, count_either, count_reply, count_there, right_counts}
use Rattle.dso_legal.proofs.objects.SamePublished.{lists_bodies}

-- the value names the object
abbrev pub is_reference : ℕ → Value → Bool
is_reference x (value.Ref o) = eqb o x
is_reference x v = false

-- two tests, one of which holds
pub left_so : (a b : Bool) → a ≡ true → (a || b) ≡ true
left_so true b is = refl
left_so false b is = absurd (cc is)

pub right_so : (a b : Bool) → b ≡ true → (a || b) ≡ true
right_so true b is = refl
right_so false b is = is

pub either_so : {X : Type 0} (a b : Bool) → (a ≡ true → X) → (b ≡ true → X) → (a || b) ≡ true → X
either_so true b left right is = left refl
either_so false b left right is = right is

or_swap : (a b c : Bool) → (a || (b || c)) ≡ (b || (a || c))
or_swap true true c = refl
or_swap true false c = refl
or_swap false b c = refl

or_around : (a b c : Bool) → ((a || b) || c) ≡ (a || (b || c))
or_around true b c = refl
or_around false b c = refl

module _ (x : ℕ) where
  -- ---- whether the object is among bodies

  among_valued : (o f : ℕ) (v : Value) (bodies : List Body) → is_among x (with_value o f v bodies) ≡ is_among x bodies
  among_valued o f v [] = refl
  among_valued o f v (body ∷ bodies) = by (eqb body.object o) (among_valued o f v bodies)
    where
      by : (b : Bool) → is_among x (with_value o f v bodies) ≡ is_among x bodies
          → (eqb (cond b (record body { values = slice_set body.values f v }) body).object x || is_among x (with_value o f v bodies)) ≡ (eqb body.object x || is_among x bodies)
      by true rest = ap (λ b. eqb body.object x || b) rest
      by false rest = ap (λ b. eqb body.object x || b) rest

  among_inserted : (body : Body) (bodies : List Body) → is_among x (insert_body body bodies) ≡ (eqb body.object x || is_among x bodies)
  among_inserted body [] = refl
  among_inserted body (first ∷ rest) = by (ltb body.object first.object) (among_inserted body rest)
    where
      by : (b : Bool) → is_among x (insert_body body rest) ≡ (eqb body.object x || is_among x rest)
          → is_among x (cond b (body ∷ first ∷ rest) (first ∷ insert_body body rest)) ≡ (eqb body.object x || (eqb first.object x || is_among x rest))
      by true later = refl
      by false later = ap (λ b. eqb first.object x || b) later ∙ or_swap (eqb first.object x) (eqb body.object x) (is_among x rest)

  pub among_all_inserted : (bodies news : List Body) → is_among x (insert_bodies bodies news) ≡ (is_among x bodies || is_among x news)
  among_all_inserted [] news = refl
  among_all_inserted (body ∷ bodies) news = among_inserted body (insert_bodies bodies news) ∙ ap (λ b. eqb body.object x || b) (among_all_inserted bodies news)
      ∙ sym (or_around (eqb body.object x) (is_among x bodies) (is_among x news))

  -- it is among those of which a test holds, where it holds of it
  among_kept : (test : ℕ → Bool) (bodies : List Body) → is_among x bodies ≡ true → test x ≡ true → is_among x (filter (λ body. test body.object) bodies) ≡ true
  among_kept test [] is passes = absurd (cc is)
  among_kept test (body ∷ bodies) is passes = by (eqb body.object x) (test body.object) refl refl is (λ later. among_kept test bodies later passes)
    where
      by : (a b : Bool) → eqb body.object x ≡ a → test body.object ≡ b → (a || is_among x bodies) ≡ true → (is_among x bodies ≡ true → is_among x (filter (λ body. test body.object) bodies) ≡ true)
          → is_among x (cond b (body ∷ filter (λ body. test body.object) bodies) (filter (λ body. test body.object) bodies)) ≡ true
      by true true same holds is later = left_so (eqb body.object x) (is_among x (filter (λ body. test body.object) bodies)) same
      by true false same fails is later = absurd (let never : false ≡ true = sym fails ∙ ap test (same_number body.object x same) ∙ passes in cc never)
      by false true other holds is later = right_so (eqb body.object x) (is_among x (filter (λ body. test body.object) bodies)) (later is)
      by false false other fails is later = later is

  -- a body that counts is there
  among_counted : (bodies : List Body) → 1 ≤ count_bodies x bodies → is_among x bodies ≡ true
  among_counted [] le = absurd (omega (arith, le))
  among_counted (body ∷ bodies) le = by (eqb body.object x) le (among_counted bodies)
    where
      no_more : (n : ℕ) → 1 ≤ 0 + n → 1 ≤ n
      no_more n le = omega (arith, le)

      by : (b : Bool) → 1 ≤ cond b 1 0 + count_bodies x bodies → (1 ≤ count_bodies x bodies → is_among x bodies ≡ true) → (b || is_among x bodies) ≡ true
      by true le later = refl
      by false le later = later (no_more (count_bodies x bodies) le)

  -- the object is in hand
  abbrev pub in_hand : Work → Bool
  in_hand work = is_among x work.privates || is_among x work.news

  hand_counted : (privates news : List Body) → 1 ≤ count_bodies x privates + count_bodies x news → (is_among x privates || is_among x news) ≡ true
  hand_counted privates news le = by (is_among x privates) refl
    where
      none_there : (n m : ℕ) → 1 ≤ n + m → (1 ≤ n → ⊥) → 1 ≤ m
      none_there zero m le none = omega (arith, le)
      none_there (suc n) m le none = absurd (none (omega arith))

      not_both : {b : Bool} → b ≡ false → b ≡ true → ⊥
      not_both is is_so = cc (sym is ∙ is_so)

      by : (b : Bool) → is_among x privates ≡ b → (b || is_among x news) ≡ true
      by true is = refl
      by false is = among_counted news (none_there (count_bodies x privates) (count_bodies x news) le (λ some. not_both is (among_counted privates some)))

  -- what is in hand stays so with an act
  pub hand_stays : (shape : Shape) (request : Request) (reply : Reply) (woken : Option ThreadId) (work : Work) → ((o : ℕ) → reply ≡ Made o → IsNew request) → in_hand work ≡ true → in_hand (work_by shape request reply woken work) ≡ true
  hand_stays shape request reply woken work fair is =
      let after : Work = work_by shape request reply woken work in
      let before : 1 ≤ count_in_hand x work = count_either x work.privates work.news is in
      let same : count_in_hand x after ≡ count_reply x reply + count_in_hand x work = count_act x shape request reply woken work fair in
      hand_counted after.privates after.news (subst (λ n. 1 ≤ n) (sym same) (right_counts x (count_reply x reply) (count_in_hand x work) before))

  -- ---- what values name

  -- where the value names the object, it is known
  abbrev pub NamesKnown : Bool → Value → Type 0
  NamesKnown known v = is_reference x v ≡ true → known ≡ true

  -- in any field, of any class
  abbrev pub AnyClass : ℕ → ClassId → ℕ → Type 0
  AnyClass o class n = Unit {0}

  abbrev pub InField : Bool → ℕ → ℕ → Value → Type 0
  InField known o f v = NamesKnown known v

  abbrev pub AnyValue : Value → Type 0
  AnyValue v = Unit {0}

  abbrev pub BodyNames : Bool → Body → Type 0
  BodyNames known = BodyHas AnyClass (InField known) AnyValue AnyValue

  abbrev pub SetNames : Bool → Set → Type 0
  SetNames known set = NamesKnown known set.value

  pub names_on : (a b : Bool) → (a ≡ true → b ≡ true) → (v : Value) → NamesKnown a v → NamesKnown b v
  names_on a b on v h names = on (h names)

  pub body_on : (a b : Bool) → (a ≡ true → b ≡ true) → (body : Body) → BodyNames a body → BodyNames b body
  body_on a b on = body_more AnyClass AnyClass (InField a) (InField b) AnyValue AnyValue AnyValue AnyValue (λ o class n h. tt) (λ o f v. names_on a b on v) (λ v h. h) (λ v h. h)

  pub bodies_on : (a b : Bool) → (a ≡ true → b ≡ true) → (bodies : List Body) → AllByRecursion (BodyNames a) bodies → AllByRecursion (BodyNames b) bodies
  bodies_on a b on = each_so (BodyNames a) (BodyNames b) (body_on a b on)

  pub sets_on : (a b : Bool) → (a ≡ true → b ≡ true) → (sets : List Set) → AllByRecursion (SetNames a) sets → AllByRecursion (SetNames b) sets
  sets_on a b on = each_so (SetNames a) (SetNames b) (λ set. names_on a b on set.value)

  -- What a thread has in hand names only what it has in hand or is known; what its block published and set names only what the
  -- block published or is known.
  pub record WorkNames (known : Bool) (work : Work) : Type 0 where
    pub privates : AllByRecursion (BodyNames (in_hand work || known)) work.privates
    pub news : AllByRecursion (BodyNames (is_among x work.news || known)) work.news
    pub sets : AllByRecursion (SetNames (is_among x work.news || known)) work.sets

  pub or_on : (a b c d : Bool) → (a ≡ true → c ≡ true) → (b ≡ true → d ≡ true) → (a || b) ≡ true → (c || d) ≡ true
  or_on a b c d left right = either_so a b (λ is. left_so c d (left is)) (λ is. right_so c d (right is))

  -- so where more is known,
  pub work_on : (a b : Bool) → (a ≡ true → b ≡ true) → (work : Work) → WorkNames a work → WorkNames b work
  work_on a b on work h = record {
    privates = bodies_on (in_hand work || a) (in_hand work || b) (or_on (in_hand work) a (in_hand work) b (λ is. is) on) work.privates h.privates;
    news = bodies_on (is_among x work.news || a) (is_among x work.news || b) (or_on (is_among x work.news) a (is_among x work.news) b (λ is. is) on) work.news h.news;
    sets = sets_on (is_among x work.news || a) (is_among x work.news || b) (or_on (is_among x work.news) a (is_among x work.news) b (λ is. is) on) work.sets h.sets;
  }

  -- and at a block's start, where what was published is known.
  pub start_names : (a b : Bool) (work : Work) → WorkNames a work → ((is_among x work.news || a) ≡ true → b ≡ true) → WorkNames b (start work.privates)
  start_names a b work h on = record {
    privates = bodies_on (in_hand work || a) ((is_among x work.privates || false) || b)
        (either_so (in_hand work) a
        (either_so (is_among x work.privates) (is_among x work.news)
        (λ is. left_so (is_among x work.privates || false) b (left_so (is_among x work.privates) false is))
        (λ is. right_so (is_among x work.privates || false) b (on (left_so (is_among x work.news) a is))))
        (λ is. right_so (is_among x work.privates || false) b (on (right_so (is_among x work.news) a is)))) work.privates h.privates;
    news = tt;
    sets = tt;
  }

  -- ---- what a put publishes

  -- each body is the one that is found of its object
  each_found : (bodies : List Body) → ((o : ℕ) → count_bodies o bodies ≤ 1) → AllByRecursion (λ body. body_in body.object bodies ≡ Some body) bodies
  each_found [] once = tt
  each_found (body ∷ bodies) once = (
    first,
    each_so (λ other. body_in other.object bodies ≡ Some other) (λ other. body_in other.object (body ∷ bodies) ≡ Some other) behind bodies
        (each_found bodies (λ o. fewer (cond (eqb body.object o) 1 0) (count_bodies o bodies) (once o))),
  )
    where
      fewer : (n m : ℕ) → n + m ≤ 1 → m ≤ 1
      fewer n m le = omega (arith, le)

      not_two : (m : ℕ) → 1 + m ≤ 1 → 1 ≤ m → ⊥
      not_two m le some = omega (arith, le, some)

      first : cond (eqb body.object body.object) (Some body) (body_in body.object bodies) ≡ Some body
      first = ap (λ b. cond b (Some body) (body_in body.object bodies)) (number_self body.object)

      behind : (other : Body) → body_in other.object bodies ≡ Some other → cond (eqb body.object other.object) (Some body) (body_in other.object bodies) ≡ Some other
      behind other is = by (eqb body.object other.object) refl
        where
          among : is_among other.object bodies ≡ true
          among = sym (found_among other.object bodies) ∙ ap is_some is

          by : (b : Bool) → eqb body.object other.object ≡ b → cond b (Some body) (body_in other.object bodies) ≡ Some other
          by true same = absurd (not_two (count_bodies other.object bodies) (subst (λ b. cond b 1 0 + count_bodies other.object bodies ≤ 1) same (once other.object)) (count_there other.object bodies among))
          by false apart = is

  no_name : (v w : Value) → v ≡ w → is_reference x v ≡ false → is_reference x w ≡ true → ⊥
  no_name v w same none names = cc (sym none ∙ ap (is_reference x) same ∙ names)

  -- a value of the list that names the object
  value_names : (values : List Value) (f : ℕ) (w : Value) → slice_get values f ≡ Some w → is_reference x w ≡ true → has_reference x values ≡ true
  value_names [] f w is names = absurd (cc is)
  value_names (value.Ref o ∷ values) zero w is names =
      let same : value.Ref o ≡ w = cc is in
      left_so (eqb o x) (has_reference x values) (subst (λ v. is_reference x v ≡ true) (sym same) names)
  value_names (value.Null ∷ values) zero w is names = absurd (no_name value.Null w (cc is) refl names)
  value_names (value.Long n ∷ values) zero w is names = absurd (no_name (value.Long n) w (cc is) refl names)
  value_names (value.Bool b ∷ values) zero w is names = absurd (no_name (value.Bool b) w (cc is) refl names)
  value_names (value.Text n ∷ values) zero w is names = absurd (no_name (value.Text n) w (cc is) refl names)
  value_names (value.Ref o ∷ values) (suc f) w is names = right_so (eqb o x) (has_reference x values) (value_names values f w is names)
  value_names (value.Null ∷ values) (suc f) w is names = value_names values f w is names
  value_names (value.Long n ∷ values) (suc f) w is names = value_names values f w is names
  value_names (value.Bool b ∷ values) (suc f) w is names = value_names values f w is names
  value_names (value.Text n ∷ values) (suc f) w is names = value_names values f w is names

  module _ (privates : List Body) (v : Value) where
    abbrev mine : ℕ → Bool
    mine a = is_some (body_in a privates)

    abbrev names : ℕ → ℕ → Bool
    names a b = body_names (body_in a privates) b

    own_among : is_among x privates ≡ true → mine x ≡ true
    own_among is = found_among x privates ∙ is

    -- what the value names is published, if it is private,
    value_publishes : (w : Value) → v ≡ w → is_reference x w ≡ true → is_among x privates ≡ true → is_published privates v x ≡ true
    value_publishes (value.Ref o) is names_it private =
        let there : o ≡ x = same_number o x names_it in
        (reach_tells mine names (map (λ body. body.object) privates) v x (lists_bodies privates)).1
        (subst (λ w. Reached mine names w x) (sym is) (subst (λ a. Found mine names a x) (sym there) (start_of (own_among private))))
      where
        start_of : mine x ≡ true → Found mine names x x
        start_of own = Found.start own
    value_publishes value.Null is names_it private = absurd (cc names_it)
    value_publishes (value.Long n) is names_it private = absurd (cc names_it)
    value_publishes (value.Bool b) is names_it private = absurd (cc names_it)
    value_publishes (value.Text n) is names_it private = absurd (cc names_it)

    -- and so is what a body names that is published
    body_publishes : (body : Body) → body_in body.object privates ≡ Some body → is_published privates v body.object ≡ true → has_reference x body.values ≡ true → is_among x privates ≡ true → is_published privates v x ≡ true
    body_publishes body is published names_it private =
        let tells : (o : ℕ) → (is_published privates v o ≡ true) ↔ Reached mine names v o = λ o. reach_tells mine names (map (λ body. body.object) privates) v o (lists_bodies privates) in
        (tells x).1 (reached_onward mine names v body.object x ((tells body.object).0 published) (subst (λ (at : Option Body). body_names at x ≡ true) (sym is) names_it) (own_among private))

    -- the bodies that are published and those that aren't
    abbrev moved : List Body
    moved = filter (λ body. is_published privates v body.object) privates

    abbrev kept : List Body
    kept = filter (λ body. not (is_published privates v body.object)) privates

    module _ (news : List Body) (known : Bool) where
      abbrev hand_before : Bool
      hand_before = (is_among x privates || is_among x news) || known

      abbrev hand_later : Bool
      hand_later = (is_among x kept || is_among x (insert_bodies moved news)) || known

      abbrev news_later : Bool
      news_later = is_among x (insert_bodies moved news) || known

      news_on : (is_among x news || known) ≡ true → news_later ≡ true
      news_on = either_so (is_among x news) known
          (λ is. left_so (is_among x (insert_bodies moved news)) known (among_all_inserted moved news ∙ right_so (is_among x moved) (is_among x news) is))
          (λ is. right_so (is_among x (insert_bodies moved news)) known is)

      from_private : is_among x privates ≡ true → is_published privates v x ≡ true → is_among x (insert_bodies moved news) ≡ true
      from_private private published = among_all_inserted moved news
          ∙ left_so (is_among x moved) (is_among x news) (among_kept (λ o. is_published privates v o) privates private published)

      -- what is in hand stays so
      hand_on : hand_before ≡ true → hand_later ≡ true
      hand_on = either_so (is_among x privates || is_among x news) known
          (either_so (is_among x privates) (is_among x news) (λ private. by (is_published privates v x) refl private)
          (λ is. left_so (is_among x kept || is_among x (insert_bodies moved news)) known (right_so (is_among x kept) (is_among x (insert_bodies moved news))
          (among_all_inserted moved news ∙ right_so (is_among x moved) (is_among x news) is))))
          (λ is. right_so (is_among x kept || is_among x (insert_bodies moved news)) known is)
        where
          by : (b : Bool) → is_published privates v x ≡ b → is_among x privates ≡ true → hand_later ≡ true
          by true is private = left_so (is_among x kept || is_among x (insert_bodies moved news)) known (right_so (is_among x kept) (is_among x (insert_bodies moved news)) (from_private private is))
          by false is private = left_so (is_among x kept || is_among x (insert_bodies moved news)) known (left_so (is_among x kept) (is_among x (insert_bodies moved news))
              (among_kept (λ o. not (is_published privates v o)) privates private (ap not is)))

      -- a value whose private object is published names only what is then published or known
      reaches_on : (w : Value) → (is_reference x w ≡ true → is_among x privates ≡ true → is_published privates v x ≡ true) → NamesKnown hand_before w → NamesKnown news_later w
      reaches_on w reaches h names_it = either_so (is_among x privates || is_among x news) known
          (either_so (is_among x privates) (is_among x news)
          (λ private. left_so (is_among x (insert_bodies moved news)) known (from_private private (reaches names_it private)))
          (λ is. news_on (left_so (is_among x news) known is)))
          (λ is. news_on (right_so (is_among x news) known is)) (h names_it)

      value_on : NamesKnown hand_before v → NamesKnown news_later v
      value_on = reaches_on v (value_publishes v refl)

      moved_each : (bodies : List Body) → AllByRecursion (BodyNames hand_before) bodies → AllByRecursion (λ body. body_in body.object privates ≡ Some body) bodies
          → AllByRecursion (BodyNames news_later) (filter (λ body. is_published privates v body.object) bodies)
      moved_each [] h found = tt
      moved_each (body ∷ bodies) h found = by (is_published privates v body.object) refl (moved_each bodies h.1 found.1)
        where
          one : is_published privates v body.object ≡ true → BodyNames news_later body
          one published = record { class = tt; values = λ f w is. reaches_on w (λ names_it private. body_publishes body found.0 published (value_names body.values f w is names_it) private) (h.0.values f w is) }

          by : (b : Bool) → is_published privates v body.object ≡ b → AllByRecursion (BodyNames news_later) (filter (λ body. is_published privates v body.object) bodies)
              → AllByRecursion (BodyNames news_later) (cond b (body ∷ filter (λ body. is_published privates v body.object) bodies) (filter (λ body. is_published privates v body.object) bodies))
          by true is rest = (one is, rest)
          by false is rest = rest

  -- what is published with news and sets that name only what is published then
  published_names : (v : Value) (known : Bool) (work : Work) (news : List Body) (sets : List Set) → ((o : ℕ) → count_bodies o work.privates ≤ 1)
      → AllByRecursion (BodyNames (hand_before work.privates v news known)) work.privates
      → AllByRecursion (BodyNames (news_later work.privates v news known)) news → AllByRecursion (SetNames (news_later work.privates v news known)) sets
      → WorkNames known (publish v (record work { news = news; sets = sets }))
  published_names v known work news sets once privates_name news_name sets_name =
      let before : Bool = hand_before work.privates v news known in
      let later : Bool = hand_later work.privates v news known in
      let shared : Bool = news_later work.privates v news known in
      record {
        privates = bodies_on before later (hand_on work.privates v news known) (kept work.privates v) (each_filtered (BodyNames before) (λ body. not (is_published work.privates v body.object)) work.privates privates_name);
        news = all_inserted (BodyNames shared) (moved work.privates v) news (moved_each work.privates v news known work.privates privates_name (each_found work.privates once)) news_name;
        sets = sets_name;
      }

  -- a put of a value that names only what is in hand or known
  put_names : (o f : ℕ) (v : Value) (known : Bool) (work : Work) → ((a : ℕ) → count_bodies a work.privates ≤ 1) → WorkNames known work → NamesKnown (in_hand work || known) v → WorkNames known (put o f v work)
  put_names o f v known work once h it = by (is_some (body_in o work.privates))
    where
      private : WorkNames known (record work { privates = with_value o f v work.privates })
      private =
          let same : ((is_among x work.privates || is_among x work.news) || known) ≡ ((is_among x (with_value o f v work.privates) || is_among x work.news) || known) =
          ap (λ b. (b || is_among x work.news) || known) (sym (among_valued o f v work.privates)) in
          record {
            privates = subst (λ b. AllByRecursion (BodyNames b) (with_value o f v work.privates)) same
                (valued AnyClass (InField (in_hand work || known)) AnyValue AnyValue o f v work.privates h.privates it);
            news = h.news;
            sets = h.sets;
          }

      into_news : WorkNames known (publish v (record work { news = with_value o f v work.news }))
      into_news =
          let news : List Body = with_value o f v work.news in
          let same : is_among x work.news ≡ is_among x news = sym (among_valued o f v work.news) in
          let shared : Bool = news_later work.privates v news known in
          let on : (is_among x work.news || known) ≡ true → shared ≡ true = λ is. news_on work.privates v news known (subst (λ b. (b || known) ≡ true) same is) in
          published_names v known work news work.sets once
          (subst (λ b. AllByRecursion (BodyNames ((is_among x work.privates || b) || known)) work.privates) same h.privates)
          (valued AnyClass (InField shared) AnyValue AnyValue o f v work.news (bodies_on (is_among x work.news || known) shared on work.news h.news)
          (value_on work.privates v news known (subst (λ b. NamesKnown ((is_among x work.privates || b) || known) v) same it)))
          (sets_on (is_among x work.news || known) shared on work.sets h.sets)

      into_sets : WorkNames known (publish v (record work { sets = insert_set (record { object = o; field = f; value = v }) work.sets }))
      into_sets =
          let shared : Bool = news_later work.privates v work.news known in
          let on : (is_among x work.news || known) ≡ true → shared ≡ true = news_on work.privates v work.news known in
          published_names v known work work.news (insert_set (record { object = o; field = f; value = v }) work.sets) once h.privates
          (bodies_on (is_among x work.news || known) shared on work.news h.news)
          (set_inserted (SetNames shared) (record { object = o; field = f; value = v }) work.sets (value_on work.privates v work.news known it) (sets_on (is_among x work.news || known) shared on work.sets h.sets))

      shared : (b : Bool) → WorkNames known (publish v (cond b (record work { news = with_value o f v work.news }) (record work { sets = insert_set (record { object = o; field = f; value = v }) work.sets })))
      shared true = into_news
      shared false = into_sets

      by : (b : Bool) → WorkNames known (cond b (record work { privates = with_value o f v work.privates }) (publish v (put_shared o f v work)))
      by true = private
      by false = shared (is_some (body_in o work.news))

  -- a new object names nothing
  opening_silent : (known : Bool) (kind : Kind) → NamesKnown known (opening_value kind)
  opening_silent known kind.Long names_it = absurd (cc names_it)
  opening_silent known kind.Bool names_it = absurd (cc names_it)
  opening_silent known kind.Text names_it = absurd (cc names_it)
  opening_silent known kind.Ref names_it = absurd (cc names_it)

  new_names : (shape : Shape) (class : ClassId) (n o : ℕ) (known : Bool) → BodyNames known (opening_body shape class n o)
  new_names shape class n o known = record {
    class = tt;
    values = λ f v is. subst (NamesKnown known) (sym (opening_is shape class 0 n f v is).1) (opening_silent known (kind_of shape class (0 + f)));
  }

  -- what an act must bring: it puts only what names what is in hand or known
  abbrev pub GivesKnown : Bool → Request → Reply → Type 0
  GivesKnown known (Put o f v) Done = NamesKnown known v
  GivesKnown known request reply = Unit {0}

  -- Such an act keeps it so.
  pub act_names : (shape : Shape) (request : Request) (reply : Reply) (woken : Option ThreadId) (known : Bool) (work : Work) → ((a : ℕ) → count_bodies a work.privates ≤ 1) → WorkNames known work
      → GivesKnown (in_hand work || known) request reply → WorkNames known (work_by shape request reply woken work)
  act_names shape (New class n) (Made o) woken known work once h it =
      let before : Bool = in_hand work || known in
      let later : Bool = ((eqb o x || is_among x work.privates) || is_among x work.news) || known in
      let on : before ≡ true → later ≡ true = or_on (in_hand work) known ((eqb o x || is_among x work.privates) || is_among x work.news) known
      (or_on (is_among x work.privates) (is_among x work.news) (eqb o x || is_among x work.privates) (is_among x work.news) (right_so (eqb o x) (is_among x work.privates)) (λ is. is)) (λ is. is) in
      record {
        privates = (new_names shape class n o later, bodies_on before later on work.privates h.privates);
        news = h.news;
        sets = h.sets;
      }
  act_names shape (Put o f v) Done woken known work once h it = put_names o f v known work once h it
  act_names shape (Print v) Done woken known work once h it = record { privates = h.privates; news = h.news; sets = h.sets }
  act_names shape (Notify l) Done woken known work once h it = record { privates = h.privates; news = h.news; sets = h.sets }
  act_names shape (NotifyAll l) Done woken known work once h it = record { privates = h.privates; news = h.news; sets = h.sets }
  act_names shape request reply woken known work once h it = h
