-- A tree has one program at most under a configuration.
use Rattle.std.proofs.Common.{◌≡◌, arith, refl, sym, ap, ◌∙◌, subst, subst₂, List, AllPairs, Contains, IsPermutation}
use Rattle.std.proofs.lemmas.List.Sorted.{IsPermutation-sym, Contains-permutation}
use Rattle.dso_base.specs.declared.lock.ThreadId.{ThreadId}
use Rattle.dso_config.specs.declared.config.Config.{Config}
use Rattle.dso_machine.specs.Sound as machine
use Rattle.dso_syntax.specs.declared.tree.Ast.{Ast}
use Rattle.dso_class.specs.declared.program.Names.{Names}
use Rattle.dso_class.specs.declared.program.Program.{Program}
use Rattle.dso_config_entries.specs.Words.{Word}
use Rattle.dso_class.specs.TextProgram.{Source, AreNames, IsCode, IsProgramOf, IsThreadBefore}
use Rattle.dso_class.proofs.one_program.Lists.{one_rising, one_firsts, firsts_differ}
use Rattle.dso_class.proofs.one_program.ExpressionCode.{of_three}
use Rattle.dso_class.proofs.one_program.Code.{one_code_of}

-- threads are before one another one way round only
one_way : (thread other : ThreadId) → IsThreadBefore thread other → IsThreadBefore other thread → ⊥
one_way thread other before behind = grind (arith)

-- what is in one order of a list is in another
moved : (xs ys zs : List ThreadId) → IsPermutation xs ys → IsPermutation xs zs → (z : ThreadId) → Contains ys z → Contains zs z
moved xs ys zs first second z there = Contains-permutation xs zs z second (Contains-permutation ys xs z (IsPermutation-sym xs ys first) there)

-- orders of one list that rise are one
one_order : (xs ys zs : List ThreadId) → IsPermutation xs ys → IsPermutation xs zs → AllPairs IsThreadBefore ys → AllPairs IsThreadBefore zs → ys ≡ zs
one_order xs ys zs first second rise climb = one_rising IsThreadBefore one_way ys zs rise climb (moved xs ys zs first second) (moved xs zs ys second first)

-- the words of one source are one
one_names_of : (source : Source) (names other : Names) → AreNames source names → AreNames source other → names ≡ other
one_names_of source names other are too =
    of_three {D = Names} (λ classes fields roots. record { classes = classes; fields = fields; roots = roots; texts = names.texts }) (are.classes ∙ sym too.classes) (are.fields ∙ sym too.fields) (are.roots ∙ sym too.roots)
    ∙ ap {B = Names} (λ texts. record { classes = other.classes; fields = other.fields; roots = other.roots; texts = texts }) (are.texts ∙ sym too.texts)

-- programs of which each part is one are one
one_record : (p q : Program) → p.code ≡ q.code → p.names ≡ q.names → p.clients ≡ q.clients → p.resident ≡ q.resident → p.threads ≡ q.threads → p.losses ≡ q.losses → p.breaks ≡ q.breaks → p ≡ q
one_record p q code names clients resident threads losses breaks =
    of_three {D = Program} (λ code names clients. record { code = code; names = names; clients = clients; resident = p.resident; threads = p.threads; losses = p.losses; breaks = p.breaks }) code names clients
    ∙ of_three {D = Program} (λ resident threads losses. record { code = q.code; names = q.names; clients = q.clients; resident = resident; threads = threads; losses = losses; breaks = p.breaks }) resident threads losses
    ∙ ap {B = Program} (λ breaks. record { code = q.code; names = q.names; clients = q.clients; resident = q.resident; threads = q.threads; losses = q.losses; breaks = breaks }) breaks

module _ (config : Config) (tree : Ast) (p q : Program) (is : IsProgramOf config tree p) (too : IsProgramOf config tree q) where
  -- a source with these locks and texts
  abbrev source : List Word → List Word → Source
  source locks texts = record { config = config; ast = tree; locks = locks; texts = texts }

  -- the locks are one list
  one_locks : too.locks ≡ is.locks
  one_locks = one_firsts too.locks_in_order is.locks_in_order refl

  -- so are the texts
  one_texts : too.texts ≡ is.texts
  one_texts = one_firsts too.texts_in_order is.texts_in_order refl

  -- the code is one
  pub one_code : p.code ≡ q.code
  one_code =
      one_code_of (source is.locks is.texts) (record { no_fault = is.no_fault; locks_differ = firsts_differ is.locks_in_order; texts_differ = firsts_differ is.texts_in_order }) p.code q.code is.code
      (subst₂ (λ locks texts. IsCode (source locks texts) q.code) one_locks one_texts too.code)

  -- and so are the words
  pub one_names : p.names ≡ q.names
  one_names = one_names_of (source is.locks is.texts) p.names q.names is.names (subst₂ (λ locks texts. AreNames (source locks texts) q.names) one_locks one_texts too.names)

  -- and the threads
  pub one_threads : p.threads ≡ q.threads
  one_threads =
      one_order (machine.threads_of p.code) p.threads q.threads is.all_threads
      (subst (λ code. IsPermutation (machine.threads_of code) q.threads) (sym one_code) too.all_threads) is.threads_rise too.threads_rise

  -- and all of the program
  pub one_program : p ≡ q
  one_program =
      one_record p q one_code one_names (is.clients ∙ sym too.clients) (is.resident ∙ sym too.resident) one_threads (is.losses ∙ sym too.losses) (is.breaks ∙ sym too.breaks)
