-- The line that a run of the generated load writes.
use Rattle.std.specs.Prelude.{ℕ, ℤ, List, ◌++◌, codes}
use Rattle.std.specs.Fmt.{decimal, signed_decimal}
use Rattle.dso_gen.specs.GeneratedLoad.{clients_of, threads_of}

-- the number of the load, its clients and threads, and what its counters come to
abbrev pub load_line : ℕ → ℤ → List ℕ
load_line n total =
    codes "big " ++ (decimal n ++ (codes " clients " ++ (decimal (clients_of n)
    ++ (codes " threads " ++ (decimal (threads_of n) ++ (codes " total " ++ (signed_decimal total ++ codes "\n")))))))
