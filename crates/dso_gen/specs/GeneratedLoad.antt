-- The generated load: for each number n a configuration and a program. The threads of the program share an array of
-- eight counters, and each of them adds n times to a counter of it.
use Rattle.std.specs.Prelude.{ℕ, zero, suc, ◌+◌, ◌*◌, ◌/◌, ◌%◌, List, [], ◌++◌, codes}
use Rattle.std.specs.Fmt.{decimal}

-- how many clients there are
abbrev pub clients_of : ℕ → ℕ
clients_of n = 2 + n % 3

-- how many threads there are: each client has two
abbrev pub threads_of : ℕ → ℕ
threads_of n = 2 * clients_of n

-- the client that a thread is of, by the number of the thread, counted from 0
abbrev pub client_of : ℕ → ℕ
client_of t = t / 2 + 1

-- each method locks at write, and a thread's body at read
abbrev pub autolocks : List ℕ
autolocks =
    codes "[[autolock]]\nmethod = \"*.*\"\nlevel = \"write\"\n"
    ++ codes "[[autolock]]\nmethod = \"Thread.run\"\nlevel = \"read\"\n"

-- the configuration
abbrev pub load_config : ℕ → List ℕ
load_config n = codes "clients = " ++ (decimal (clients_of n) ++ (codes "\n" ++ autolocks))

-- the counter, and the root
abbrev pub classes : List ℕ
classes =
    codes "class Counter { long n; synchronized add(k) { this.n = this.n + k; } }\n"
    ++ codes "class Main { static ref all; }\n"

-- a thread makes an array of counters
abbrev pub makes_counters : List ℕ
makes_counters = codes "var a = new ref[8]; var i = 0; while (i < 8) { a[i] = new Counter(); i = i + 1; } "

-- it binds the root to its array, unless another thread did so before, and goes on with the array of the root
abbrev pub shares_counters : List ℕ
shares_counters = codes "Main.all = a; a = Main.all; i = 0; var x = null; "

-- it takes a counter from the array
abbrev pub takes_counter : ℕ → List ℕ
takes_counter t = codes "synchronized (a) { x = a[(" ++ (decimal t ++ codes " * 5 + i) % 8]; } ")

-- it adds to the counter
abbrev pub adds_to_counter : ℕ → List ℕ
adds_to_counter t = codes "x.add((" ++ (decimal t ++ codes " + i) % 7 + 1); ")

-- it takes a counter and adds to it, n times
abbrev pub counts : ℕ → ℕ → List ℕ
counts n t =
    codes "while (i < " ++ (decimal n ++ (codes ") { "
    ++ (takes_counter t ++ (adds_to_counter t ++ codes "i = i + 1; } "))))

-- the line of a thread
abbrev pub thread_line : ℕ → ℕ → List ℕ
thread_line n t =
    codes "thread " ++ (decimal (client_of t) ++ (codes " { "
    ++ (makes_counters ++ (shares_counters ++ (counts n t ++ codes "}\n")))))

-- the lines of 0, 1 and so on below a number, one after the other
abbrev pub lines_below : (ℕ → List ℕ) → ℕ → List ℕ
lines_below line zero = []
lines_below line (suc count) = lines_below line count ++ line count

-- the program
abbrev pub load_program : ℕ → List ℕ
load_program n = classes ++ lines_below (thread_line n) (threads_of n)
