-- A dialog over an input that is read in pieces. Request K2, "console", "Lines end in a newline"; paper 02, K12, poller.
use Rattle.std.specs.Prelude.{◌≡◌, cond, List, ℕ}
use Rattle.std.specs.Io.KnownBytes.{Consumes}
use Rattle.std.specs.declared.option.Option.{Option}
use Rattle.script.specs.declared.collector.Collector.{Collector}
use Rattle.script.specs.Collector.{fresh_collector, pending_of}
use Rattle.script.specs.Talk.{answered_of, talked_all}

-- some bytes were read, and they lead from what was kept to what is kept
abbrev pub Heard : {S : Type 0} → (S → List ℕ → S) → Option (List ℕ) → Option (List ℕ) → S × Collector → S × Collector → Type 0
Heard after old new t u = (bytes : List ℕ) × Consumes old new bytes × (u ≡ talked_all after t bytes)

-- the end of the input: a last line without a newline counts too
abbrev pub finished : {S : Type 0} → (S → List ℕ → S) → S × Collector → S
finished after t = cond (pending_of t.1) (answered_of after t.0 t.1) t.0

-- WHAT IS KEPT BEHIND AN INPUT: its bytes are talked from the first state on, however they were cut into pieces
abbrev pub Ran : {S : Type 0} → (S → List ℕ → S) → S → Option (List ℕ) → Option (List ℕ) → S → Type 0
Ran after first old new s = (bytes : List ℕ) × Consumes old new bytes × (s ≡ finished after (talked_all after (first, fresh_collector) bytes))
