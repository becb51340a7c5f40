-- The methods that a call may reach, as the row of its name has them.
use Rattle.std.proofs.Common.{ℕ, ◌≡◌, ◌↔◌, ◌+◌, ◌<◌, ◌≤◌, ◌^◌, eqb, arith, refl, sym, ◌∙◌, ap, subst, Bool, true, false, not, take, get_or, append-nil, Result, Ok, Err, IfOk, List, [], ◌∷◌, ◌++◌, length, All, AllPairs, Contains, IsTrue}
use Rattle.std.proofs.lemmas.Bool.{eqb-true, eq-eqb}
use Rattle.std.proofs.lemmas.Option.{slice_get_within}
use Rattle.std.proofs.lemmas.List.Elements.{All-contains, Contains-append_left, Contains-push}
use Rattle.std.proofs.Math.Dec.{eqb-suc-zero}
use Rattle.std.specs.Borrow.{Bor}
use Rattle.dso_syntax.specs.declared.tree.Ast.{Ast}
use Rattle.dso_config_entries.specs.Words.{Word}
use Rattle.dso_class.specs.Declarations.{MethodTree}
use Rattle.dso_class.specs.Maps.{reachable_methods}
use Rattle.dso_class.specs.NameFaults.{TakesArguments}
use Rattle.dso_class.specs.NameFaults as faults
use Rattle.dso_class.specs.declared.gathered_methods.Declared.{Declared}
use Rattle.dso_class.specs.Gathered.{by_name, is_name, only, declared_at, declared_of, capped, callee_at, callees_of}
use Rattle.dso_class.specs.Multimap.{row_of}
use Rattle.dso_class.specs.DeclaredNames.{AreTables}
use Rattle.dso_class.specs.declared.tables.DeclaredNames.{DeclaredNames}
use Rattle.dso_config_entries.proofs.lists.Last.{taken}
use Rattle.dso_class.specs.Numbers.{IsNumber, HasMethod, AreThePairs}
use Rattle.dso_class.proofs.lists.NumberedItems.{made_of, each_there, each_pairs, only_true, only_same, only_there, only_pairs, each_push, nothing_there, stands_at}
use Rattle.dso_class.proofs.gathering.FieldsAndMethods.{declared_tells, declared_there, capped_small, same_name}
use Rattle.dso_config_entries.proofs.lists.Places.{nowhere, stands_there}

-- a callee, by the method that it is
pub record IsCallee (methods : List MethodTree) (name : Word) (count : ℕ) (pair : ℕ × ℕ) : Type 0 where
  pub declared : Declared
  pub in_row : Contains (declared_of methods name) declared
  pub takes : declared.params ≡ count
  pub class : declared.class ≡ pair.0
  pub number : declared.number ≡ pair.1

callee_tells : (methods : List MethodTree) (name : Word) (count : ℕ) (pair : ℕ × ℕ) → Contains (callees_of count (declared_of methods name)) pair → IsCallee methods name count pair
callee_tells methods name count pair there =
    let found = made_of (callee_at count) (declared_of methods name) pair there in
    let value : (found.item.class, found.item.number) ≡ pair = only_same (eqb found.item.params count) (found.item.class, found.item.number) pair found.made in
    record {
      declared = found.item;
      in_row = stands_there (declared_of methods name) found.item found.place found.stands;
      takes = eqb-true found.item.params count (only_true (eqb found.item.params count) (found.item.class, found.item.number) pair found.made);
      class = ap (λ p. p.0) value;
      number = ap (λ p. p.1) value;
    }

-- each method of the name with so many parameters is there
callee_there : (methods : List MethodTree) (name : Word) (count number : ℕ) (method : MethodTree) → IsNumber methods method number → method.name ≡ name → length method.params ≡ count
    → Contains (callees_of count (declared_of methods name)) (capped method.number, capped number)
callee_there methods name count number method stands named takes =
    let declared : Declared = record { class = capped method.number; number = capped number; params = length method.params } in
    let there = declared_there methods name number method stands named in
    each_there (callee_at count) 0 (declared_of methods name) there.0 declared (capped method.number, capped number) (stands_at (declared_of methods name) declared there) there.0 (omega arith)
    (only_there (eqb (length method.params) count) (capped method.number, capped number) (eq-eqb (length method.params) count takes))

-- a method of a row is one that some class has, and the other way round
has_method : (ast : Ast) (name : Word) (declared : Declared) → Contains (declared_of (reachable_methods ast) name) declared → faults.HasMethod ast name
has_method ast name declared there =
    let is = declared_tells (reachable_methods ast) name declared there in
    record { declared = is.method; there = stands_there (reachable_methods ast) is.method is.place is.stands; named = is.named }

abbrev row_of_has : (ast : Ast) (name : Word) → faults.HasMethod ast name → Declared
row_of_has ast name has = record { class = capped has.declared.number; number = capped has.there.0; params = length has.declared.params }

in_row : (ast : Ast) (name : Word) (has : faults.HasMethod ast name) → Contains (declared_of (reachable_methods ast) name) (row_of_has ast name has)
in_row ast name has = declared_there (reachable_methods ast) name has.there.0 has.declared (stands_at (reachable_methods ast) has.declared has.there) has.named

-- no method of the row takes so many arguments exactly where no class has one
takes_arguments : (ast : Ast) (name : Word) (count : ℕ) (pair : ℕ × ℕ) → Contains (callees_of count (declared_of (reachable_methods ast) name)) pair → TakesArguments ast name count
takes_arguments ast name count pair there =
    let callee = callee_tells (reachable_methods ast) name count pair there in
    let is = declared_tells (reachable_methods ast) name callee.declared callee.in_row in
    record { declared = is.method; there = stands_there (reachable_methods ast) is.method is.place is.stands; named = is.named; takes = is.takes ∙ callee.takes }

pub no_callee : (ast : Ast) (name : Word) (count : ℕ) → (callees_of count (declared_of (reachable_methods ast) name) ≡ []) ↔ (TakesArguments ast name count → ⊥)
no_callee ast name count = (
  λ empty has. nowhere (capped has.declared.number, capped has.there.0) (subst (λ pairs. Contains pairs (capped has.declared.number, capped has.there.0)) empty
      (callee_there (reachable_methods ast) name count has.there.0 has.declared (stands_at (reachable_methods ast) has.declared has.there) has.named has.takes)),
  λ fails. nothing_there (callees_of count (declared_of (reachable_methods ast) name)) (λ pair there. fails (takes_arguments ast name count pair there)),
)

-- the numbers of classes and methods are small
pub record AreFew (methods : List MethodTree) : Type 0 where
  pub few : length methods ≤ 2 ^ 32
  pub classes : All (λ method. method.number < 2 ^ 32) methods

-- of two methods of one name the later is of a later class
abbrev pub Rises : MethodTree → MethodTree → Type 0
Rises method other = method.name ≡ other.name → method.number < other.number

abbrev pub DoRise : List MethodTree → Type 0
DoRise methods = AllPairs Rises methods

-- the rows of methods are by rising class
declared_rise : (methods : List MethodTree) (name : Word) → AreFew methods → DoRise methods → AllPairs (λ declared other. declared.class < other.class) (declared_of methods name)
declared_rise methods name few rise =
    each_pairs (declared_at name) (λ declared other. declared.class < other.class) (λ method. Unit {0}) (λ method other. (other.number < 2 ^ 32) × Rises method other)
    (λ n method _. only_pairs (λ declared other. declared.class < other.class) (is_name method.name name) (record { class = capped method.number; number = capped n; params = length method.params }))
    (λ n m method other before later y z here there.
    let one : Declared = record { class = capped method.number; number = capped n; params = length method.params } in
    let two : Declared = record { class = capped other.number; number = capped m; params = length other.params } in
    let named = same_name method.name name (only_true (is_name method.name name) one y here) in
    let called = same_name other.name name (only_true (is_name other.name name) two z there) in
    let first : capped method.number ≡ y.class = ap (λ d. d.class) (only_same (is_name method.name name) one y here) in
    let second : capped other.number ≡ z.class = ap (λ d. d.class) (only_same (is_name other.name name) two z there) in
    let bound = later.0 in
    let below = later.1 (named ∙ sym called) in
    omega (arith, first, second, bound, below))
    0 methods (λ k d within. tt) (λ i j d before within. (few.classes j d within, rise i j d before within))

-- what is a callee has such a method
pub callee_has : (methods : List MethodTree) (name : Word) (count : ℕ) → AreFew methods → (class number : ℕ) → Contains (callees_of count (declared_of methods name)) (class, number) → HasMethod methods name count class number
callee_has methods name count few class number there =
    let callee = callee_tells methods name count (class, number) there in
    let is = declared_tells methods name callee.declared callee.in_row in
    let all = few.few in
    let within = slice_get_within methods is.place is.method is.stands in
    let place_small : is.place < 2 ^ 32 = omega arith in
    let class_small = All-contains (λ method. method.number < 2 ^ 32) methods is.method few.classes (stands_there methods is.method is.place is.stands) in
    let same_class : is.method.number ≡ class = sym (capped_small is.method.number class_small) ∙ sym is.of_class ∙ callee.class in
    let same_number : is.place ≡ number = sym (capped_small is.place place_small) ∙ sym is.of_number ∙ callee.number in
    record {
      declared = is.method;
      of_method = subst (λ n. IsNumber methods is.method n) same_number is.stands;
      of_class = same_class;
      named = is.named;
      takes = is.takes ∙ callee.takes;
    }

-- each such method is a callee
pub has_callee : (methods : List MethodTree) (name : Word) (count : ℕ) → AreFew methods → (class number : ℕ) → HasMethod methods name count class number → Contains (callees_of count (declared_of methods name)) (class, number)
has_callee methods name count few class number has =
    let within = slice_get_within methods number has.declared has.of_method in
    let all = few.few in
    let small : number < 2 ^ 32 = omega arith in
    let below = All-contains (λ method. method.number < 2 ^ 32) methods has.declared few.classes (stands_there methods has.declared number has.of_method) in
    let same_class : capped has.declared.number ≡ class = capped_small has.declared.number below ∙ has.of_class in
    subst (λ n. Contains (callees_of count (declared_of methods name)) (class, n)) (capped_small number small)
    (subst (λ n. Contains (callees_of count (declared_of methods name)) (n, capped number)) same_class
    (callee_there methods name count number has.declared has.of_method has.named has.takes))

-- callees are by rising class
callees_rise : (methods : List MethodTree) (name : Word) (count : ℕ) → AreFew methods → DoRise methods → AllPairs (λ pair other. pair.0 < other.0) (callees_of count (declared_of methods name))
callees_rise methods name count few rise =
    each_pairs (callee_at count) (λ pair other. pair.0 < other.0) (λ declared. Unit {0}) (λ declared other. declared.class < other.class)
    (λ n declared _. only_pairs (λ pair other. pair.0 < other.0) (eqb declared.params count) (declared.class, declared.number))
    (λ n m declared other before below y z here there.
    let first : declared.class ≡ y.0 = ap (λ p. p.0) (only_same (eqb declared.params count) (declared.class, declared.number) y here) in
    let second : other.class ≡ z.0 = ap (λ p. p.0) (only_same (eqb other.params count) (other.class, other.number) z there) in
    omega (arith, first, second, below))
    0 (declared_of methods name) (λ k d within. tt) (declared_rise methods name few rise)

-- the callees are those of the text
pub are_the_callees : (methods : List MethodTree) (name : Word) (count : ℕ) → AreFew methods → DoRise methods → AreThePairs (HasMethod methods name count) (callees_of count (declared_of methods name))
are_the_callees methods name count few rise =
    record { listed = λ a b. (callee_has methods name count few a b, has_callee methods name count few a b); rising = callees_rise methods name count few rise }

-- where a row is empty, and what a call says that looks into it
by_row : (ast : Ast) (name : Word) (row : List Declared) (empty : Bool) → row ≡ declared_of (reachable_methods ast) name → empty ≡ eqb (length row) 0 → IsTrue (not empty) ↔ faults.HasMethod ast name
by_row ast name [] empty is tells = (
  λ some. absurd (cc (sym some ∙ ap not tells)),
  λ has. absurd (nowhere (row_of_has ast name has) (subst (λ row. Contains row (row_of_has ast name has)) (sym is) (in_row ast name has))),
)
by_row ast name (declared ∷ rest) empty is tells = (
  λ some. has_method ast name declared (subst (λ row. Contains row declared) is (Contains-append_left (declared ∷ []) rest declared (Contains-push [] declared))),
  λ has. ap not (tells ∙ eqb-suc-zero (length rest)),
)

pub method_where : (ast : Ast) (name : Bor Word) (tables : DeclaredNames) (row : List Declared) (empty : Bool) → AreTables ast tables → row ≡ row_of by_name tables.methods name → empty ≡ eqb (length row) 0
    → IsTrue (not empty) ↔ faults.HasMethod ast name.now
method_where ast name tables row empty are is tells = by_row ast name.now row empty (is ∙ are.methods.all name) tells

-- the callees that a call gives
pub callees_where : {E : Type 0} (result : Result (List (ℕ × ℕ)) E) (ast : Ast) (name : Bor Word) (tables : DeclaredNames) (count : ℕ) (row : List Declared) → AreTables ast tables → row ≡ row_of by_name tables.methods name
    → IfOk result (λ pairs. pairs ≡ callees_of count row) → IfOk result (λ pairs. pairs ≡ callees_of count (declared_of (reachable_methods ast) name.now))
callees_where (Ok pairs) ast name tables count row are is gives = gives ∙ ap (callees_of count) (is ∙ are.methods.all name)
callees_where (Err refused) ast name tables count row are is gives = tt

pub none_where : {E : Type 0} (result : Result (List (ℕ × ℕ)) E) (ast : Ast) (name : Word) (count : ℕ) → IfOk result (λ pairs. pairs ≡ callees_of count (declared_of (reachable_methods ast) name))
    → IfOk result (λ pairs. (pairs ≡ []) ↔ (TakesArguments ast name count → ⊥))
none_where (Ok pairs) ast name count gives = (λ none. (no_callee ast name count).0 (sym gives ∙ none), λ fails. gives ∙ (no_callee ast name count).1 fails)
none_where (Err refused) ast name count gives = tt

pub all_where : {E : Type 0} (result : Result (List (ℕ × ℕ)) E) (methods : List MethodTree) (name : Word) (count : ℕ) → AreFew methods → DoRise methods
    → IfOk result (λ pairs. pairs ≡ callees_of count (declared_of methods name)) → IfOk result (AreThePairs (HasMethod methods name count))
all_where (Ok pairs) methods name count few rise gives = subst (AreThePairs (HasMethod methods name count)) (sym gives) (are_the_callees methods name count few rise)
all_where (Err refused) methods name count few rise gives = tt

-- one more method of a row
pub one_callee : (count : ℕ) (row : List Declared) (i : ℕ) (declared : Declared) (pairs more : List (ℕ × ℕ)) → i < length row → declared ≡ get_or row i declared → callees_of count (declared ∷ []) ≡ more
    → pairs ≡ callees_of count (take i row) → pairs ++ more ≡ callees_of count (take (i + 1) row)
one_callee count row i declared pairs more below is these so_far =
    ap (λ front. front ++ more) so_far
    ∙ ap (λ last. callees_of count (take i row) ++ last) (sym these ∙ append-nil (callee_at count 0 declared))
    ∙ sym (ap (callees_of count) (taken row i declared below is) ∙ each_push (callee_at count) 0 (take i row) declared (0 + length (take i row)) refl)

-- a method that takes so many arguments, and one that doesn't
kept_value : (test : Bool) (value : ℕ × ℕ) → test ≡ true → only test value ++ [] ≡ value ∷ []
kept_value true value e = refl
kept_value false value e = absurd (cc e)

left_value : (test : Bool) (value : ℕ × ℕ) → (test ≡ true → ⊥) → only test value ++ [] ≡ []
left_value true value fails = absurd (fails refl)
left_value false value fails = refl

pub takes : (count : ℕ) (declared : Declared) → declared.params ≡ count → callees_of count (declared ∷ []) ≡ (declared.class, declared.number) ∷ []
takes count declared same = kept_value (eqb declared.params count) (declared.class, declared.number) (eq-eqb declared.params count same)

pub takes_not : (count : ℕ) (declared : Declared) → (declared.params ≡ count → ⊥) → callees_of count (declared ∷ []) ≡ []
takes_not count declared differs = left_value (eqb declared.params count) (declared.class, declared.number) (λ same. differs (eqb-true declared.params count same))
