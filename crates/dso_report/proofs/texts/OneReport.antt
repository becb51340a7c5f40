-- A state has one report at most.
use Rattle.std.proofs.Common.{◌≡◌, inl, inr, ℕ, zero, suc, ◌≤◌, ◌+◌, ◌-◌, ◌++◌, Some, None, List, [], ◌∷◌, length, map, get_or, drop, slice_get, refl, sym, ap, ◌∙◌, subst, arith}
use Rattle.std.specs.Fmt.{◌++?◌}
use Rattle.std.specs.List.{All}
use Rattle.std.proofs.lemmas.Bool.{cases_lt}
use Rattle.std.proofs.lemmas.List.Elements.{All-head, All-tail}
use Rattle.std.proofs.lemmas.Option.{slice_get_past}
use Rattle.dso_base.specs.declared.lock.ThreadId.{ThreadId}
use Rattle.dso_base.specs.declared.request.Fault.{Fault}
use Rattle.dso_class.specs.declared.program.Names.{Names}
use Rattle.dso_plain.specs.State.{PlainState}
use Rattle.dso_report.specs.Numbering.{IsOrder, visit, visited}
use Rattle.dso_report.specs.declared.thread_lines.ThreadStanding.{ThreadStanding}
use Rattle.dso_report.specs.declared.thread_lines.ThreadStanding.TheVariants.{Ended, Faulted, Lost, Waiting, Open}
use Rattle.dso_report.specs.Report.{HasStanding, IsThreadsText, IsGraphText, IsReport, thread_text, unguarded_line, graph_text}
use Rattle.dso_report.specs.Texts.{each_of}

-- once the order has no object left to visit, it stays
order_stays : (s : PlainState) (order : List ℕ) (n more m : ℕ) → m ≡ n + more → order ≡ visited s n → length order ≤ n → order ≡ visited s m
order_stays s order n zero m at is over =
    let there : n ≡ m = omega (arith, at) in
    is ∙ ap (visited s) there
order_stays s order n (suc more) m at is over =
    let k = n + more in
    let before = order_stays s order n more k refl is over in
    let nothing : slice_get order k ≡ None = slice_get_past order k (omega (arith, over)) in
    let step : order ≡ visit s (slice_get order k) order = ap (λ found. visit s found order) (sym nothing) in
    let there : suc k ≡ m = omega (arith, at) in
    step ∙ ap (λ ids. visit s (slice_get ids k) ids) before ∙ ap (visited s) there

-- an order that is no longer than another is the other
shorter_is : (s : PlainState) (a b : List ℕ) → IsOrder s a → IsOrder s b → length a ≤ length b → a ≡ b
shorter_is s a b one other le =
    order_stays s a (length a) (length b - length a) (length b) (omega (arith, le)) one (omega arith) ∙ sym other

-- the graph has one order
pub one_order : (s : PlainState) (a b : List ℕ) → IsOrder s a → IsOrder s b → a ≡ b
one_order s a b one other = elim (cases_lt (length a) (length b)) [
  | inl less ↦ shorter_is s a b one other (omega (arith, less))
  | inr no_less ↦ sym (shorter_is s b a other one no_less)
]

-- a thread stands in one way
pub one_standing : (s : PlainState) (t : ThreadId) (x y : ThreadStanding) → HasStanding s t x → HasStanding s t y → x ≡ y
one_standing s t Ended Ended a b = refl
one_standing s t (Faulted f) (Faulted g) a b = same_fault f g (sym a ∙ b)
  where
    same_fault : (f g : Fault) → Some (Some f) ≡ Some (Some g) → Faulted f ≡ Faulted g
    same_fault f g same = cc
one_standing s t Lost Lost a b = refl
one_standing s t Waiting Waiting a b = refl
one_standing s t Open Open a b = refl
one_standing s t Waiting Open a b = absurd (b.2 a.2)
one_standing s t Open Waiting a b = absurd (a.2 b.2)
one_standing s t x y a b = grind arith

-- the first items of equal lists
heads : {A : Type 0} (x y : A) (xs ys : List A) → x ∷ xs ≡ y ∷ ys → x ≡ y
heads x y xs ys same = ap (λ items. get_or items 0 x) same

-- the other items of equal lists
tails : {A : Type 0} (x y : A) (xs ys : List A) → x ∷ xs ≡ y ∷ ys → xs ≡ ys
tails x y xs ys same = ap (λ items. drop 1 items) same

-- pairs of the same are the same
same_pair : (p q : ThreadId × ThreadStanding) → p.0 ≡ q.0 → p.1 ≡ q.1 → p ≡ q
same_pair p q first second = λ i. (first i, second i)

module _ (s : PlainState) where
  -- the thread of the pair stands so
  abbrev Stands : ThreadId × ThreadStanding → Type 0
  Stands p = HasStanding s p.0 p.1

  -- two pairs of one thread are the same
  one_pair : (p q : ThreadId × ThreadStanding) → p.0 ≡ q.0 → Stands p → Stands q → p ≡ q
  one_pair p q same a b =
      same_pair p q same (one_standing s q.0 p.1 q.1 (subst (λ t. HasStanding s t p.1) same a) b)

  -- threads stand in one way
  one_list : (ps qs : List (ThreadId × ThreadStanding)) → map (λ p. p.0) ps ≡ map (λ p. p.0) qs → All Stands ps → All Stands qs → ps ≡ qs
  one_list [] [] same a b = refl
  one_list [] (q ∷ qs) same a b = absurd (omega (arith, ap length same))
  one_list (p ∷ ps) [] same a b = absurd (omega (arith, ap length same))
  one_list (p ∷ ps) (q ∷ qs) same a b =
      let first : p ≡ q = one_pair p q (heads p.0 q.0 (map (λ r. r.0) ps) (map (λ r. r.0) qs) same) (All-head Stands p ps a) (All-head Stands q qs b) in
      let others : ps ≡ qs = one_list ps qs (tails p.0 q.0 (map (λ r. r.0) ps) (map (λ r. r.0) qs) same) (All-tail Stands p ps a) (All-tail Stands q qs b) in
      cc

-- two texts that are there, where both are the same
same_text : (a b : List ℕ) → Some a ≡ Some b → a ≡ b
same_text a b same = cc same

-- the threads have one text
pub one_threads_text : (names : Names) (s : PlainState) (threads : List ThreadId) (a b : List ℕ) → IsThreadsText names s threads a → IsThreadsText names s threads b → a ≡ b
one_threads_text names s threads a b one other =
    let same = one_list s one.standings other.standings (one.in_order ∙ sym other.in_order) one.stand other.stand in
    same_text a b (sym one.written ∙ ap (each_of (λ p. thread_text names s p.0 p.1)) same ∙ other.written)

-- the state has one report
pub one_report : (names : Names) (threads : List ThreadId) (s : PlainState) (a b : List ℕ) → IsReport names threads s a → IsReport names threads s b → a ≡ b
one_report names threads s a b one other =
    let lines = one_threads_text names s threads one.lines other.lines one.are_threads other.are_threads in
    let order = one_order s one.order other.order one.is_order other.is_order in
    same_text a b (sym one.written ∙ ap (λ ls. Some (ls ++ unguarded_line s) ++? graph_text names one.order s) lines ∙ ap (λ ids. Some (other.lines ++ unguarded_line s) ++? graph_text names ids s) order ∙ other.written)

-- the graph has one text
pub one_graph_text : (names : Names) (s : PlainState) (a b : List ℕ) → IsGraphText names s a → IsGraphText names s b → a ≡ b
one_graph_text names s a b one other =
    let order = one_order s one.order other.order one.is_order other.is_order in
    same_text a b (sym one.written ∙ ap (λ ids. graph_text names ids s) order ∙ other.written)
