-- Whether threads go on, by what is kept of each: those that have a next request are counted.
use Rattle.std.specs.List.{list_any}
use Rattle.std.proofs.Common.{ℕ, ◌+◌, ◌≡◌, refl, sym, ◌∙◌, ap, Bool, true, false, cond, ltb, ◌||◌, is_some, count_by, List, [], ◌∷◌, arith}
use Rattle.std.proofs.lemmas.Bool.{lt-ltb}
use Rattle.std.proofs.lemmas.List.Sums.{sum_by-cons}
use Rattle.dso_law.specs.ClientRun.{next_in}
use Rattle.dso_machine.specs.Next.{next_request}
use Rattle.dso_client.specs.declared.client_state.ClientState.{ClientState}
use Rattle.dso_client.specs.ClientStands.{point}
use Rattle.dso_client.specs.Threads.{TellsAlive}
use Rattle.dso_client.proofs.contexts.ContextsFound.{count_alive}

-- one more is counted, or isn't
pub one_more : (b : Bool) (n : ℕ) → (b || ltb 0 n) ≡ ltb 0 (cond b 1 0 + n)
one_more true n = sym (lt-ltb 0 (1 + n) (omega arith))
one_more false n = let same : n ≡ 0 + n = omega arith in ap (ltb 0) same

-- One of a list passes a test exactly where at least one is counted.
pub any_counted : {X : Type 0} (test : X → Bool) (xs : List X) → list_any test xs ≡ ltb 0 (count_by test xs)
any_counted test [] = refl
any_counted test (x ∷ xs) = ap (λ b. test x || b) (any_counted test xs) ∙ one_more (test x) (count_by test xs)
    ∙ ap (ltb 0) (sym (sum_by-cons (λ x. cond (test x) 1 0) x xs))

-- The contexts that have a next request are as many as the client's threads that have one.
pub alive_told : (kept : ClientState) → TellsAlive kept (count_by (λ context. is_some context.next) kept.contexts.items)
alive_told kept code p client es stands =
    let next = next_in (next_request code) es in
    count_alive (point code p client es) kept.contexts.items stands.parts.contexts ∙ ap (count_by (λ t. is_some (next t))) stands.parts.places
