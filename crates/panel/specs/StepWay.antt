-- How the code works a step out: what an event does first, and then switching and display where they follow.
use Rattle.std.specs.Prelude.{cond, List, ℤ}
use Rattle.state.specs.State.{state_of}
use Rattle.panel.specs.declared.Answer.{Answer}
use Rattle.panel.specs.declared.Begun.{Begun}
use Rattle.panel.specs.Step.{answer_of, settled_of}

-- the answer that an event comes to, from what it does before switching and display
abbrev pub answer_after : List ℤ → Begun → Answer
answer_after t b =
    cond b.settles (answer_of (settled_of (state_of t b.live)) b.note b.halves) (answer_of (state_of t b.live) b.note b.halves)
