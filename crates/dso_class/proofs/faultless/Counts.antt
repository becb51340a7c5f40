-- What holds of a whole text without a fault by counting: few text literals, and few threads of each client.
use Rattle.std.proofs.Common.{◌≡◌, refl, sym, ap, ◌∙◌, subst, ℕ, ◌+◌, ◌<◌, ◌≤◌, arith, ℤ, pos, negsuc, int_le, leb, leb-true, le_antisymm, Bool, true, false, cond, ◌&&◌, List, [], ◌∷◌, ◌++◌, map, reverse, length, count_by, Contains, Option, Some, None, append-nil, lt_of_not-le}
use Rattle.std.specs.List.{cons_option}
use Rattle.std.proofs.lemmas.List.{reverse-append, reverse-reverse, same_from_push, length_push}
use Rattle.std.proofs.lemmas.List.Sums.{sum_by-cons}
use Rattle.std.proofs.lemmas.List.Folds.{fold-map}
use Rattle.std.proofs.lemmas.List.Elements.{filter_map-append}
use Rattle.std.proofs.lemmas.Bool.{and_parts}
use Rattle.dso_config.specs.declared.config.Config.{Config}
use Rattle.dso_syntax.specs.declared.tree.Ast.{Ast}
use Rattle.dso_class.specs.declared.fault.NameKind.TheVariants as kind
use Rattle.dso_class.specs.declared.fault.What.TheVariants as what
use Rattle.dso_config_entries.specs.Words.{Word}
use Rattle.dso_config_entries.specs.LastAndFirst.{AreFirsts, empty, again, fresh}
use Rattle.dso_class.specs.Limits.{most_texts, most_threads}
use Rattle.dso_class.specs.Mentions.{Mention, Mentioned, text, thread, mentions_of}
use Rattle.dso_class.specs.PrecedingMentions.{in_text, text_in, thread_in}
use Rattle.dso_class.specs.NameFaults.{many_texts, many_threads, threads_before, IsClean, HasNoFault}
use Rattle.dso_class.specs.FaultsAmong.{IsFine, AreFine}

-- how the firsts of a list with one item more come: they are those of the list, among which the item is, or the item is behind them
pub data OneMore {A : Type 0} (xs : List A) (x : A) (firsts : List A) : Type 0 where
  seen : AreFirsts xs firsts → Contains firsts x → OneMore xs x firsts
  first : (front : List A) → firsts ≡ front ++ x ∷ [] → AreFirsts xs front → (Contains front x → ⊥) → OneMore xs x firsts

not_empty : {A : Type 0} (xs : List A) (x : A) → ◌≡◌ {A = List A} [] (xs ++ x ∷ []) → ⊥
not_empty [] x same = cc same
not_empty (y ∷ xs) x same = cc same

pub one_more : {A : Type 0} (xs : List A) (x : A) (all firsts : List A) → AreFirsts all firsts → all ≡ xs ++ x ∷ [] → OneMore xs x firsts
one_more xs x _ _ empty same = absurd (not_empty xs x same)
one_more xs x _ _ (again {xs = ys} {firsts = firsts} {x = y} before there) same =
    let parts = same_from_push ys xs y x same in
    seen (subst (λ zs. AreFirsts zs firsts) parts.0 before) (subst (Contains firsts) parts.1 there)
one_more xs x _ _ (fresh {xs = ys} {firsts = firsts} {x = y} before absent) same =
    let parts = same_from_push ys xs y x same in
    first firsts (ap (λ z. firsts ++ z ∷ []) parts.1) (subst (λ zs. AreFirsts zs firsts) parts.0 before) (subst (λ z. Contains firsts z → ⊥) parts.1 absent)

-- of the empty list there are none
firsts_of_none : {A : Type 0} (all firsts : List A) → AreFirsts all firsts → all ≡ [] → firsts ≡ []
firsts_of_none _ _ empty same = refl
firsts_of_none _ _ (again {xs = ys} {x = y} before there) same = absurd (not_empty ys y (sym same))
firsts_of_none _ _ (fresh {xs = ys} {x = y} before absent) same = absurd (not_empty ys y (sym same))

-- one text literal more, where the text before has few
texts_more : (config : Config) (ast : Ast) (before : List Mention) (content : Word) → IsFine config ast before (text content)
    → ((firsts : List Word) → AreFirsts (reverse (in_text text_in before)) firsts → length firsts ≤ most_texts)
    → (firsts : List Word) → OneMore (reverse (in_text text_in before)) content firsts → length firsts ≤ most_texts
texts_more config ast before content fine few firsts (seen are there) = few firsts are
texts_more config ast before content fine few firsts (first front is are absent) =
    let room : length front < most_texts = lt_of_not-le (λ full. fine (kind.TooMany what.Texts) (many_texts front are full absent)) in
    let longer : length firsts ≡ length front + 1 = ap length is ∙ length_push front content in
    omega (arith, room, longer)

texts_step : (config : Config) (ast : Ast) (before : List Mention) (here : Mentioned) → IsFine config ast before here
    → ((firsts : List Word) → AreFirsts (reverse (in_text text_in before)) firsts → length firsts ≤ most_texts)
    → (firsts : List Word) → AreFirsts (reverse (cons_option (text_in here) (in_text text_in before))) firsts → length firsts ≤ most_texts
texts_step config ast before (text content) fine few firsts are =
    texts_more config ast before content fine few firsts
    (one_more (reverse (in_text text_in before)) content (reverse (content ∷ in_text text_in before)) firsts are (reverse-append (content ∷ []) (in_text text_in before)))
texts_step config ast before other fine few firsts are = few firsts are

texts_few : (config : Config) (ast : Ast) (before : List Mention) → IsClean config ast before
    → (firsts : List Word) → AreFirsts (reverse (in_text text_in before)) firsts → length firsts ≤ most_texts
texts_few config ast [] clean firsts are =
    let none : length firsts ≡ 0 = ap length (firsts_of_none [] firsts are refl) in
    omega (arith, none)
texts_few config ast (mention ∷ before) clean firsts are = texts_step config ast before mention.what clean.1 (texts_few config ast before clean.0) firsts are

-- what was mentioned of a sort from the last to the first
reverse_option : {A : Type 0} (found : Option A) (xs : List A) → reverse (cons_option found xs) ≡ reverse xs ++ cons_option found []
reverse_option None xs = sym (append-nil (reverse xs))
reverse_option (Some x) xs = reverse-append (x ∷ []) xs

pub text_reverse : {A : Type 0} (sort : Mentioned → Option A) (ms : List Mention) → reverse (in_text sort (reverse ms)) ≡ in_text sort ms
text_reverse sort ms = ap reverse (turned ms) ∙ reverse-reverse (in_text sort ms)
  where
    turned : (ms : List Mention) → in_text sort (reverse ms) ≡ reverse (in_text sort ms)
    turned [] = refl
    turned (m ∷ rest) =
        ap (in_text sort) (reverse-append (m ∷ []) rest) ∙ filter_map-append (λ mention. sort mention.what) (reverse rest) (m ∷ [])
        ∙ ap (λ front. front ++ cons_option (sort m.what) []) (turned rest) ∙ sym (reverse_option (sort m.what) (in_text sort rest))

-- a text without a fault has few different text literals
pub few_texts : (config : Config) (ast : Ast) → HasNoFault config ast → (firsts : List Word) → AreFirsts (in_text text_in (mentions_of ast)) firsts → length firsts ≤ most_texts
few_texts config ast clean firsts are =
    texts_few config ast (reverse (mentions_of ast)) clean firsts (subst (λ all. AreFirsts all firsts) (sym (text_reverse text_in (mentions_of ast))) are)

-- whether a number is this one
abbrev pub is_number : ℤ → ℤ → Bool
is_number number other = int_le other number && int_le number other

pub same_number : (number other : ℤ) → is_number number other ≡ true → other ≡ number
same_number (pos a) (pos b) is =
    let parts = and_parts (leb b a) (leb a b) is in
    ap pos (le_antisymm (leb-true b a parts.0) (leb-true a b parts.1))
same_number (pos a) (negsuc b) is = absurd (cc is)
same_number (negsuc a) (pos b) is = absurd (cc is)
same_number (negsuc a) (negsuc b) is =
    let parts = and_parts (leb a b) (leb b a) is in
    ap negsuc (le_antisymm (leb-true b a parts.1) (leb-true a b parts.0))

-- one thread more
count_more : (number client : ℤ) (rest : List ℤ) → count_by (is_number number) (client ∷ rest) ≡ cond (is_number number client) 1 0 + count_by (is_number number) rest
count_more number client rest = sum_by-cons (λ x. cond (is_number number x) 1 0) client rest

-- where this one is of the client there is room for it
thread_room : (config : Config) (ast : Ast) (before : List Mention) (number client : ℤ) (is : Bool) → IsFine config ast before (thread client) → is_number number client ≡ is
    → threads_before before number ≤ most_threads → cond is 1 0 + threads_before before number ≤ most_threads
thread_room config ast before number client true fine is below =
    let room : threads_before before client < most_threads = lt_of_not-le (λ full. fine (kind.TooMany what.Threads) (many_threads full)) in
    let here : threads_before before number < most_threads = subst (λ n. threads_before before n < most_threads) (same_number number client is) room in
    omega (arith, here)
thread_room config ast before number client false fine is below = omega (arith, below)

-- the threads of a client, one mention later
threads_step : (config : Config) (ast : Ast) (before : List Mention) (here : Mentioned) (number : ℤ) → IsFine config ast before here → threads_before before number ≤ most_threads
    → count_by (is_number number) (cons_option (thread_in here) (in_text thread_in before)) ≤ most_threads
threads_step config ast before (thread client) number fine below =
    subst (λ n. n ≤ most_threads) (sym (count_more number client (in_text thread_in before))) (thread_room config ast before number client (is_number number client) fine refl below)
threads_step config ast before other number fine below = below

count_option : (number : ℤ) (found : Option ℤ) (before rest : List ℤ) (most : ℕ) → count_by (is_number number) (cons_option found before) + count_by (is_number number) rest ≤ most
    → count_by (is_number number) before + count_by (is_number number) (cons_option found rest) ≤ most
count_option number None before rest most below = below
count_option number (Some client) before rest most below =
    let one = count_more number client before in
    let other = count_more number client rest in
    omega (arith, below, one, other)

threads_few : (config : Config) (ast : Ast) (number : ℤ) (ms before : List Mention) → AreFine config ast before ms → threads_before before number ≤ most_threads
    → threads_before before number + count_by (is_number number) (in_text thread_in ms) ≤ most_threads
threads_few config ast number [] before fine below = omega (arith, below)
threads_few config ast number (m ∷ rest) before fine below =
    count_option number (thread_in m.what) (in_text thread_in before) (in_text thread_in rest) most_threads
    (threads_few config ast number rest (m ∷ before) fine.1 (threads_step config ast before m.what number fine.0 below))

-- the mentions of a text have few threads of each client
pub few_threads : (config : Config) (ast : Ast) (number : ℤ) (ms : List Mention) → AreFine config ast [] ms → count_by (is_number number) (in_text thread_in ms) ≤ most_threads
few_threads config ast number ms fine =
    let all : threads_before [] number + count_by (is_number number) (in_text thread_in ms) ≤ most_threads = threads_few config ast number ms [] fine (omega arith) in
    omega (arith, all)

-- as many of what f gives
pub count_map : {A : Type 0} (f : A → ℤ) (number : ℤ) (xs : List A) → count_by (is_number number) (map f xs) ≡ count_by (λ x. is_number number (f x)) xs
count_map f number xs = fold-map (λ a x. a + cond (is_number number x) 1 0) f 0 xs
