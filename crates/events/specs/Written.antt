-- A log written: the words that carry an event. Paper 01, "panelrun and its log", read from the event to its words.
-- The main property: reading the words of events gives these events and 0, and a log that gives 0 is the words of its events
-- (WrittenLaws, `read_back_lem` and `written_back`).
use Rattle.std.specs.Prelude.{List, [], ◌∷◌, ◌++◌, ℕ, ◌+◌, ◌*◌, ◌/◌, ◌%◌, ◌^◌, ◌<◌}
use Rattle.events.specs.declared.Event.{Event}
use Rattle.events.specs.declared.Event.TheVariants.{Telegram, Levels, Tick}

-- a word of a kind that carries a number, with no reserved bit set
abbrev pub word_with : ℕ → ℕ → ℕ
word_with kind content = kind * 2 ^ 30 + content

-- one word for a tick or for levels, two for a telegram, its upper half first
abbrev pub words_of : Event → List ℕ
words_of (Tick ms) = word_with 0 ms ∷ []
words_of (Levels levels) = word_with 1 levels ∷ []
words_of (Telegram t) = word_with 2 (t / 2 ^ 16) ∷ (word_with 3 (t % 2 ^ 16) ∷ [])

unfoldable pub written : List Event → List ℕ
written [] = []
written (e ∷ es) = words_of e ++ written es

-- the events that a log can carry: levels of the three inputs, the others whole
abbrev pub Carried : Event → Type 0
Carried (Tick ms) = ms < 2 ^ 16
Carried (Levels levels) = levels < 2 ^ 3
Carried (Telegram t) = t < 2 ^ 32

abbrev pub AllCarried : List Event → Type 0
AllCarried [] = Unit
AllCarried (e ∷ es) = Carried e × AllCarried es

-- words of 32 bits
abbrev pub AllWords : List ℕ → Type 0
AllWords [] = Unit
AllWords (w ∷ ws) = (w < 2 ^ 32) × AllWords ws
