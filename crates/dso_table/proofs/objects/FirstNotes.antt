-- The first thread that has a note of an object, found in the rows of all threads.
use Rattle.std.proofs.Common.{ℕ, ◌≡◌, refl, sym, ◌∙◌, ap, subst, Bool, true, false, cond, is_some, List, [], ◌∷◌, Option, Some, None}
use Rattle.std.specs.BTreeMap.{BTreeMap, get, is_at}
use Rattle.std.specs.Cmp.{tied_itself}
use Rattle.std.specs.List.{AllByRecursion}
use Rattle.std.specs.List.Sorted.{IsStrictlySortedBy}
use Rattle.std.specs.Map.{keys_of, lookup}
use Rattle.std.specs.Ordering.{is_eq, is_lt, nat_cmp, ordering_reverse}
use Rattle.std.specs.declared.cmp.Ordering.{Ordering}
use Rattle.std.specs.declared.cmp.Ordering.TheVariants.{Less, Equal, Greater}
use Rattle.dso_base.specs.contracts.lock.ThreadIdOrd.TheImpl.Laws.{total-law}
use Rattle.dso_base.specs.declared.lock.ThreadId.{ThreadId}
use Rattle.dso_lookup.specs.Orders.{thread_order}
use Rattle.dso_lookup.specs.Rows.{in_row}

-- an answer that is told to be `Equal`
equal_is : (r : Ordering) → is_eq r ≡ true → r ≡ Equal
equal_is Less e = absurd (cc e)
equal_is Equal e = refl
equal_is Greater e = absurd (cc e)

-- the notes of each thread, as a list by rising thread
abbrev pub Rows : Type 0
Rows = List (ThreadId × BTreeMap ℕ (Unit {0}))

-- the first thread whose row has the object
abbrev pub first_noting : ℕ → Rows → Option ThreadId
first_noting o [] = None
first_noting o (e ∷ es) = cond (is_some (get nat_cmp e.1 o)) (Some e.0) (first_noting o es)

-- whether the thread has a note of the object
abbrev pub noted_in : Rows → ThreadId → ℕ → Bool
noted_in es t o = is_some (in_row nat_cmp (lookup (is_at (thread_order t)) es) o)

-- no thread has a note where none is found
pub nobody_noted : (o : ℕ) (es : Rows) → first_noting o es ≡ None → (t : ThreadId) → noted_in es t o ≡ false
nobody_noted o [] is t = refl
nobody_noted o (e ∷ es) is t = by (λ h. nobody_noted o es h t) (is_some (get nat_cmp e.1 o)) refl is (is_at (thread_order t) e.0)
  where
    by : (first_noting o es ≡ None → noted_in es t o ≡ false) → (b : Bool) → is_some (get nat_cmp e.1 o) ≡ b → cond b (Some e.0) (first_noting o es) ≡ None → (c : Bool) → is_some (in_row nat_cmp (cond c (Some e.1) (lookup (is_at (thread_order t)) es)) o) ≡ false
    by rest true has is c = absurd (cc is)
    by rest false has is true = has
    by rest false has is false = rest is

-- what holds of each thread with a row holds of the first one found
found_among : (P : ThreadId → Type 0) (o : ℕ) (es : Rows) → AllByRecursion P (keys_of es) → (w : ThreadId) → first_noting o es ≡ Some w → P w
found_among P o [] all w is = absurd (cc is)
found_among P o (e ∷ es) all w is = by (λ h. found_among P o es all.1 w h) (is_some (get nat_cmp e.1 o)) is
  where
    or_it : ThreadId → Option ThreadId → ThreadId
    or_it t None = t
    or_it t (Some u) = u

    by : (first_noting o es ≡ Some w → P w) → (b : Bool) → cond b (Some e.0) (first_noting o es) ≡ Some w → P w
    by rest true is = subst (λ t. P t) (ap (λ t. or_it e.0 t) is) all.0
    by rest false is = rest is

-- what holds of each thread with a row holds of each that has a note
noted_among : (P : ThreadId → Type 0) (u : ThreadId) → ((k : ThreadId) → thread_order u k ≡ Equal → P k → P u) → (o : ℕ) (es : Rows) → AllByRecursion P (keys_of es) → noted_in es u o ≡ true → P u
noted_among P u same o [] all is = absurd (cc is)
noted_among P u same o (e ∷ es) all is = by (λ h. noted_among P u same o es all.1 h) (is_at (thread_order u) e.0) refl is
  where
    by : (noted_in es u o ≡ true → P u) → (b : Bool) → is_at (thread_order u) e.0 ≡ b → is_some (in_row nat_cmp (cond b (Some e.1) (lookup (is_at (thread_order u)) es)) o) ≡ true → P u
    by rest true at is = same e.0 (equal_is (thread_order u e.0) at) all.0
    by rest false at is = rest is

-- a thread behind another isn't before it
behind : (t u : ThreadId) → thread_order t u ≡ Less → thread_order u t ≡ Greater
behind t u less = total-law.antisymm u t ∙ ap (λ r. ordering_reverse r) less

-- a thread that stands for one behind another is behind it too
behind_same : (t u k : ThreadId) → thread_order u k ≡ Equal → thread_order t k ≡ Less → thread_order t u ≡ Less
behind_same t u k equal less =
    let greater : thread_order u t ≡ Greater = total-law.congr u k t equal ∙ behind t k less in
    total-law.antisymm t u ∙ ap (λ r. ordering_reverse r) greater

-- the first thread that is found has a note, and none with a note stands before it
pub first_noted : (o : ℕ) (es : Rows) → IsStrictlySortedBy thread_order (keys_of es) → (w : ThreadId) → first_noting o es ≡ Some w → (noted_in es w o ≡ true) × ((u : ThreadId) → noted_in es u o ≡ true → is_lt (thread_order u w) ≡ false)
unfolding IsStrictlySortedBy
first_noted o [] sorted w is = absurd (cc is)
first_noted o (e ∷ es) sorted w is = by (λ h. first_noted o es sorted.1 w h) (is_some (get nat_cmp e.1 o)) refl is
  where
    or_it : ThreadId → Option ThreadId → ThreadId
    or_it t None = t
    or_it t (Some u) = u

    -- a thread with a note in a later row is behind the first
    later : (u : ThreadId) → noted_in es u o ≡ true → thread_order e.0 u ≡ Less
    later u h = noted_among (λ k. thread_order e.0 k ≡ Less) u (λ k equal less. behind_same e.0 u k equal less) o es sorted.0 h

    mine : is_some (get nat_cmp e.1 o) ≡ true → (b : Bool) → is_at (thread_order e.0) e.0 ≡ b → is_some (in_row nat_cmp (cond b (Some e.1) (lookup (is_at (thread_order e.0)) es)) o) ≡ true
    mine has true at = has
    mine has false at = absurd (cc (sym (ap (λ r. is_eq r) (tied_itself total-law e.0)) ∙ at))

    before_mine : (u : ThreadId) (b : Bool) → is_at (thread_order u) e.0 ≡ b → is_some (in_row nat_cmp (cond b (Some e.1) (lookup (is_at (thread_order u)) es)) o) ≡ true → is_lt (thread_order u e.0) ≡ false
    before_mine u true at h = ap (λ r. is_lt r) (equal_is (thread_order u e.0) at)
    before_mine u false at h = ap (λ r. is_lt r) (behind e.0 u (later u h))

    skip : (v : ThreadId) → noted_in es v o ≡ true → (b : Bool) → is_at (thread_order v) e.0 ≡ b → is_some (in_row nat_cmp (cond b (Some e.1) (lookup (is_at (thread_order v)) es)) o) ≡ true
    skip v h true at = absurd (cc (sym at ∙ ap (λ r. is_eq r) (behind e.0 v (later v h))))
    skip v h false at = h

    before_later : is_some (get nat_cmp e.1 o) ≡ false → (v u : ThreadId) → (noted_in es u o ≡ true → is_lt (thread_order u v) ≡ false) → (b : Bool) → is_at (thread_order u) e.0 ≡ b → is_some (in_row nat_cmp (cond b (Some e.1) (lookup (is_at (thread_order u)) es)) o) ≡ true → is_lt (thread_order u v) ≡ false
    before_later has v u rest true at h = absurd (cc (sym has ∙ h))
    before_later has v u rest false at h = rest h

    by : (first_noting o es ≡ Some w → (noted_in es w o ≡ true) × ((u : ThreadId) → noted_in es u o ≡ true → is_lt (thread_order u w) ≡ false)) → (b : Bool) → is_some (get nat_cmp e.1 o) ≡ b → cond b (Some e.0) (first_noting o es) ≡ Some w → (noted_in (e ∷ es) w o ≡ true) × ((u : ThreadId) → noted_in (e ∷ es) u o ≡ true → is_lt (thread_order u w) ≡ false)
    by rest true has is = subst (λ v. (noted_in (e ∷ es) v o ≡ true) × ((u : ThreadId) → noted_in (e ∷ es) u o ≡ true → is_lt (thread_order u v) ≡ false)) (ap (λ t. or_it e.0 t) is) (mine has (is_at (thread_order e.0) e.0) refl, λ u h. before_mine u (is_at (thread_order u) e.0) refl h)
    by rest false has is =
        let r = rest is in
        (skip w r.0 (is_at (thread_order w) e.0) refl, λ u h. before_later has w u (r.1 u) (is_at (thread_order u) e.0) refl h)
