use Rattle.std.proofs.Common.{◌≤◌, ℕ, List, Result, Ok, Err, IfOk, IfErr, length, arith}
use Rattle.toml.specs.Data.{Members}
use Rattle.toml.specs.View.{table_view}
use Rattle.dso_config.specs.declared.config.Config.{Config}
use Rattle.dso_config.specs.declared.fault.ConfigFault.{ConfigFault}
use Rattle.dso_config.specs.Configuration.{IsToml, IsFaultOf, Says, too_long, not_toml, in_table, most_bytes, table_fault}
use Rattle.dso_config.specs.InRange.{IsInRange}
use Rattle.dso_config.specs.Keys.{IsTold, IsOfText}
use Rattle.dso_config.proofs.Ranges.{says-in_range}
use Rattle.dso_config.proofs.document.read_config.Goals as goal

-- what a table says is in range, where it says a configuration
in_range : (table : Members) (result : Result Config ConfigFault) → IfOk result (Says table) → IfOk result IsInRange
in_range table (Ok config) says = says-in_range table config says
in_range table (Err wrong) says = says

-- what is told of a table is what is wrong with its text
told : (text : List ℕ) (table : Members) (result : Result Config ConfigFault) → length text ≤ most_bytes → IsToml text table
    → IfErr result (IsTold (table_fault table)) → IfErr result (λ wrong. IsOfText wrong → IsFaultOf text wrong)
told text table (Ok config) short toml h = h
told text table (Err wrong) short toml h = λ no_want. in_table wrong table short toml (h.is no_want)

pub returns-then-text-gt-MOST_BYTES-clause-refused :
    goal.returns-then-text-gt-MOST_BYTES-clause-refused
returns-then-text-gt-MOST_BYTES-clause-refused c = λ _. too_long (omega arith)

pub returns-in-Ok-clause-in_range : goal.returns-in-Ok-clause-in_range
returns-in-Ok-clause-in_range c = in_range (table_view c.in-Ok.table) c.configuration.result c.configuration.ensures.ok

pub returns-in-Ok-clause-refused : goal.returns-in-Ok-clause-refused
returns-in-Ok-clause-refused c =
    let read = c.in-Ok.ensures.ok in
    told c.args.text.now (table_view c.in-Ok.table) c.configuration.result (omega arith) (record { is_text = read.0; reads = read.1 }) c.configuration.ensures.err

pub returns-in-Err-2-clause-refused : goal.returns-in-Err-2-clause-refused
returns-in-Err-2-clause-refused c =
    λ _. not_toml (omega arith) (λ table toml. cc (c.in-Err.ensures.refused (λ is. cc (c.is_memory.ensures.1 is, c.if-is_memory.false)) toml.is_text, toml.reads))
