-- What a view shows, and how each step changes it.
use Rattle.std.specs.Prelude.{◌≡◌, ℕ, zero, suc, ◌+◌, ◌<◌, ◌==◌, Bool, true, false, ◌||◌, if◌then◌else◌, List, [], ◌∷◌, ◌++◌}
use Rattle.fut_base.specs.declared.event.Event.{Event}
use Rattle.fut_base.specs.declared.event.Action.{Action}
use Rattle.fut_base.specs.declared.event.Action.TheVariants.{Spawns, Creates}
use Rattle.fut_base.specs.Dag.{Among}
use Rattle.event_clock.specs.declared.view.View.{View}
use Rattle.event_clock.specs.declared.view.Carried.{Carried}
use Rattle.event_clock.specs.declared.view.Own.{Own}
use Rattle.event_clock.specs.declared.view.Size.{Size}

-- how often a number stands in a list
abbrev pub times : ℕ → List ℕ → ℕ
times x [] = 0
times x (y ∷ ys) = (if y == x then 1 else 0) + times x ys

-- how often a view carries a task
abbrev pub carries : ℕ → List Carried → ℕ
carries t [] = 0
carries t (c ∷ cs) = (if c.task == t then 1 else 0) + carries t cs

-- a list of a list of lists; one that is missing counts as empty
abbrev pub list_at : List (List (ℕ × Event)) → ℕ → List (ℕ × Event)
list_at [] h = []
list_at (l ∷ ls) zero = l
list_at (l ∷ ls) (suc h) = list_at ls h

-- the lists with an entry added to one of them
abbrev pub add_at : ℕ → ℕ × Event → List (List (ℕ × Event)) → List (List (ℕ × Event))
add_at zero x [] = (x ∷ []) ∷ []
add_at (suc h) x [] = [] ∷ add_at h x []
add_at zero x (l ∷ ls) = (l ++ x ∷ []) ∷ ls
add_at (suc h) x (l ∷ ls) = l ∷ add_at h x ls

-- a list has fewer entries than another
abbrev pub is_shorter : List (ℕ × Event) → List (ℕ × Event) → Bool
is_shorter xs [] = false
is_shorter [] (y ∷ ys) = true
is_shorter (x ∷ xs) (y ∷ ys) = is_shorter xs ys

-- the longer of two lists
abbrev pub longer : List (ℕ × Event) → List (ℕ × Event) → List (ℕ × Event)
longer xs ys = if is_shorter xs ys then ys else xs

-- place by place the longer list
abbrev pub wider : List (List (ℕ × Event)) → List (List (ℕ × Event)) → List (List (ℕ × Event))
wider [] ys = ys
wider (x ∷ xs) [] = x ∷ xs
wider (x ∷ xs) (y ∷ ys) = longer x y ∷ wider xs ys

-- an action makes this child
abbrev pub is_child : ℕ → Action → Bool
is_child t (Spawns _ child _ _ _) = child == t
is_child t (Creates _ child _ _ _) = child == t
is_child t _ = false

-- one of these entries makes this child
abbrev pub has_child : ℕ → List (ℕ × Event) → Bool
has_child t [] = false
has_child t (x ∷ xs) = is_child t x.1.action || has_child t xs

-- the tasks after an action: a child is carried with no entry
abbrev pub with_child : Action → List Carried → List Carried
with_child (Spawns _ child _ _ _) tasks = record { task = child; trace = [] } ∷ tasks
with_child (Creates _ child _ _ _) tasks = record { task = child; trace = [] } ∷ tasks
with_child _ tasks = tasks

-- the tasks with an entry added beside its task
abbrev pub with_entry : ℕ × Event → List Carried → List Carried
with_entry x [] = []
with_entry x (c ∷ cs) = (if x.1.task == c.task then record { task = c.task; trace = c.trace ++ x ∷ [] } else c) ∷ with_entry x cs

-- all tasks but one
abbrev pub without_task : ℕ → List Carried → List Carried
without_task t [] = []
without_task t (c ∷ cs) = if c.task == t then without_task t cs else c ∷ without_task t cs

-- one of the tasks alone
abbrev pub only_task : ℕ → List Carried → List Carried
only_task t [] = []
only_task t (c ∷ cs) = if c.task == t then c ∷ only_task t cs else only_task t cs

-- the numbers of these holders
abbrev pub numbers_of : List Own → List ℕ
numbers_of [] = []
numbers_of (p ∷ ps) = p.number ∷ numbers_of ps

-- the first of these numbers
abbrev pub first_number : List Own → ℕ
first_number [] = 0
first_number (p ∷ ps) = p.number

-- the first of these lists of entries
abbrev pub first_entries : List Own → List (ℕ × Event)
first_entries [] = []
first_entries (p ∷ ps) = p.entries

-- the number of a holder
abbrev pub number_of : View → ℕ
number_of v = first_number v.own

-- the entries that a holder drew for
abbrev pub own_list : View → List (ℕ × Event)
own_list v = first_entries v.own

-- an entry added to a holder's own
abbrev pub add_own : ℕ × Event → List Own → List Own
add_own x [] = []
add_own x (p ∷ ps) = record { number = p.number; entries = p.entries ++ x ∷ [] } ∷ add_own x ps

-- a holder's view after it drew a ticket for an event
abbrev pub drawn : ℕ → Event → View → View
drawn ticket e v =
    record v { own = add_own (ticket, e) v.own; known = add_at (number_of v) (ticket, e) v.known; tasks = with_child e.action (with_entry (ticket, e) v.tasks) }

-- a holder's view after it drew at or above the bound
abbrev pub turned_away : View → View
turned_away v = record v { late = 1 }

-- the numbers below n, the greatest first
abbrev pub below : ℕ → List ℕ
below zero = []
below (suc n) = n ∷ below n

-- the numbers below n, the greatest first, with no entries
abbrev pub unused : ℕ → List Own
unused zero = []
unused (suc n) = record { number = n; entries = [] } ∷ unused n

-- the first view of a clock, which has all numbers
abbrev pub opening_view : Size → View
opening_view size =
    record {
      holders = size.holders;
      bound = size.bound;
      own = unused size.holders;
      known = [];
      olds = [];
      tasks = record { task = 0; trace = [] } ∷ [];
      late = 0;
    }

-- all numbers but the first
abbrev pub rest_of : List Own → List Own
rest_of [] = []
rest_of (p ∷ ps) = ps

-- the first number alone
abbrev pub first_of : List Own → List Own
first_of [] = []
first_of (p ∷ ps) = p ∷ []

-- what is left where a holder of one number was made
abbrev pub after_holder : View → View
after_holder v = record v { own = rest_of v.own }

-- what a new holder of one number has
abbrev pub new_holder : View → View
new_holder v = record v { own = first_of v.own; tasks = []; late = 0 }

-- what is left where a pass was made for one task
abbrev pub after_note : ℕ → View → View
after_note t v = record v { tasks = without_task t v.tasks }

-- what a pass for one task has
abbrev pub noted : ℕ → View → View
noted t v = record v { own = []; tasks = only_task t v.tasks; late = 0 }

-- what is left where a pass was made for all tasks
abbrev pub after_split : View → View
after_split v = record v { tasks = [] }

-- what a pass for all tasks has
abbrev pub split_off : View → View
split_off v = record v { own = []; late = 0 }

-- one view of two
abbrev pub joined : View → View → View
joined v w =
    record v {
      own = v.own ++ w.own;
      known = wider v.known w.known;
      olds = v.known ∷ w.known ∷ (v.olds ++ w.olds);
      tasks = v.tasks ++ w.tasks;
      late = v.late + w.late;
    }

-- what the other of the two leaves
abbrev pub left_behind : View
left_behind = record { holders = 0; bound = 0; own = []; known = []; olds = []; tasks = []; late = 0 }

-- what a holder's view must show for a draw: it carries the event's task; a child is new, and made by holder 0
pub record MayAskFor (v : View) (e : Event) : Type 0 where
  pub carried : 0 < carries e.task v.tasks
  pub child : (t : ℕ) → is_child t e.action ≡ true → (number_of v ≡ 0) × ((t == 0) ≡ false) × (has_child t (own_list v) ≡ false)

-- a ticket is above all that a view shows
pub record IsAbove (ticket : ℕ) (v : View) : Type 0 where
  pub known : (h : ℕ) (x : ℕ × Event) → Among x (list_at v.known h) → x.0 < ticket
  pub traces : (c : Carried) (x : ℕ × Event) → Among c v.tasks → Among x c.trace → x.0 < ticket
