-- Paper 02, K12, the rules of the dispatcher: who is registered, who is in error, whose turn it is, and what each call answers.
-- What the rules come to, the promise of 2n picks among it, stands in the crate `waiting`.
use Rattle.std.specs.Prelude.{Bool, true, false, not, cond, ◌&&◌, ◌||◌, ℕ, ltb, leb, eqb, Option, None, Some, Result, Ok, Err}
use Rattle.std.specs.Option.{is_some, option_or}
use Rattle.addresses.specs.Addresses.{nothing, holds, including, excluding}
use Rattle.addresses.specs.Search.{lowest_above, count_all}
use Rattle.dispatcher.specs.declared.Group.{Group}
use Rattle.dispatcher.specs.declared.Dispatcher.{Dispatcher}
use Rattle.dispatcher.specs.declared.Refusal.{Refusal}
use Rattle.dispatcher.specs.declared.Refusal.TheVariants.{TooMany, Present, NoPanel}

-- ---- the numbers

-- "up to 32 panels", "1 to 247"
abbrev pub most_panels : ℕ
most_panels = 32

abbrev pub lowest_address : ℕ
lowest_address = 1

abbrev pub highest_address : ℕ
highest_address = 247

-- the refusals: a panel too many, an address already present, no such address or no panel there
abbrev pub refusal_number : Refusal → ℕ
refusal_number TooMany = 28
refusal_number Present = 29
refusal_number NoPanel = 32

-- the number of what registering and reporting answer, 0 where they are not refused
abbrev pub number_of : Result (Unit {0}) Refusal → ℕ
number_of (Ok t) = 0
number_of (Err e) = refusal_number e

-- ---- the groups and their panels

-- the panels in error (true), or the ordinary ones (false)
abbrev pub group_of : Dispatcher → Bool → Group
group_of d g = cond g d.error d.ordinary

-- a panel of a group
abbrev pub member : Group → ℕ → Bool
member g a = holds g.members a

-- a group has a panel
abbrev pub some : Group → Bool
some g = is_some (lowest_above (member g) 0)

-- "in error from a report of an error until it reports none"
abbrev pub in_error : Dispatcher → ℕ → Bool
in_error d a = member d.error a

-- there is a panel at this address
abbrev pub present : Dispatcher → ℕ → Bool
present d a = member d.error a || member d.ordinary a

-- "outside 1 to 247"
abbrev pub outside : ℕ → Bool
outside a = ltb a lowest_address || ltb highest_address a

-- the address of a panel, where one may have it
abbrev pub address_of : ℕ → Result ℕ Refusal
address_of a = cond (outside a) (Err NoPanel) (Ok a)

abbrev pub registered : Dispatcher → ℕ → Bool
registered d a = not (outside a) && present d a

-- "n panels registered"
abbrev pub panels : Dispatcher → ℕ
panels d = count_all (present d)

-- ---- turns

-- "the member with the next higher address after the one this group polled last, and at first or after the highest the lowest", if it has a member
unfoldable pub next_of : Group → Option ℕ
next_of g = option_or (lowest_above (member g) g.last) (lowest_above (member g) 0)

-- the last poll of all was of a panel in error
abbrev pub after_error : Dispatcher → Bool
after_error d = eqb d.faulty 1

-- "Panels in error go first, but never two such polls in a row while an ordinary panel is registered"
unfoldable pub error_turn : Dispatcher → Bool
error_turn d = some d.error && not (after_error d && some d.ordinary)

-- ---- what changes

abbrev pub empty_group : Group
empty_group = record { members = nothing; last = 0 }

abbrev pub fresh_of : Dispatcher
fresh_of = record { error = empty_group; ordinary = empty_group; faulty = 0 }

abbrev pub entered : Group → ℕ → Group
entered g a = record { members = including g.members a; last = g.last }

abbrev pub left : Group → ℕ → Group
left g a = record { members = excluding g.members a; last = g.last }

-- a new panel is ordinary
abbrev pub with_panel : Dispatcher → ℕ → Dispatcher
with_panel d a = record { error = d.error; ordinary = entered d.ordinary a; faulty = d.faulty }

-- a panel is in the group that it reports; what the groups polled last stays
abbrev pub with_report : Dispatcher → ℕ → Bool → Dispatcher
with_report d a true = record { error = entered d.error a; ordinary = left d.ordinary a; faulty = d.faulty }
with_report d a false = record { error = left d.error a; ordinary = entered d.ordinary a; faulty = d.faulty }

-- the group that polls keeps the address; it "waits anew after its poll", so nobody leaves
abbrev pub polled_by : Group → ℕ → Group
polled_by g a = record { members = g.members; last = a }

abbrev pub kept_of : Dispatcher → Bool → ℕ → Dispatcher
kept_of d true a = record { error = polled_by d.error a; ordinary = d.ordinary; faulty = 1 }
kept_of d false a = record { error = d.error; ordinary = polled_by d.ordinary a; faulty = 0 }

-- ---- what each call leaves and answers

-- of registering and reporting: the dispatcher after it, and whether it is refused
abbrev pub Answer : Type 0
Answer = Dispatcher × Result (Unit {0}) Refusal

-- a refusal changes nothing
abbrev pub refused : Dispatcher → Refusal → Answer
refused d e = (d, Err e)

abbrev pub taken : Dispatcher → Answer
taken d = (d, Ok tt)

-- "32 an address to register outside 1 to 247; 29 an address already present, tested after 32; 28 a 33rd panel, tested last"
unfoldable pub register_of : Dispatcher → ℕ → Answer
register_of d a =
    cond (outside a) (refused d NoPanel)
    (cond (present d a) (refused d Present)
    (cond (leb most_panels (panels d)) (refused d TooMany)
    (taken (with_panel d a))))

-- "32 .. a report from one not registered"
unfoldable pub report_of : Dispatcher → ℕ → Bool → Answer
report_of d a e = cond (registered d a) (taken (with_report d a e)) (refused d NoPanel)

-- of a pick: the dispatcher after it, and the panel that is polled, if any
abbrev pub Turn : Type 0
Turn = Dispatcher × Option ℕ

-- a group's member is polled, if it has one
abbrev pub polled_of : Dispatcher → Bool → Option ℕ → Turn
polled_of d g None = (d, None)
polled_of d g (Some a) = (kept_of d g a, Some a)

-- a group's next panel is polled
abbrev pub polls : Dispatcher → Bool → Turn
polls d g = polled_of d g (next_of (group_of d g))

-- "A pick with no panel registered answers none"
unfoldable pub pick_of : Dispatcher → Turn
pick_of d = cond (error_turn d) (polls d true) (cond (some d.ordinary) (polls d false) (d, None))
