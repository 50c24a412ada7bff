-- The rule that the clock keeps at every moment. There is one log of all draws below the bound, and what each view shows is its part
-- of that log.
-- A log has the newest draw first; a draw is the number of its holder and its event, and its ticket is the number of draws before
-- it.
use Rattle.std.specs.Prelude.{◌≡◌, ℕ, ◌+◌, ◌^◌, ◌<◌, ◌≤◌, ◌==◌, Bool, true, false, ◌||◌, if◌then◌else◌, List, [], ◌∷◌, ◌++◌, length, slice_index}
use lib.ListN.{get_elem?}
use mathlib.Core.Option.{some}
use Rattle.atomic_table.specs.Table.{State}
use Rattle.fut_base.specs.declared.event.Event.{Event}
use Rattle.fut_base.specs.Dag.{Among}
use Rattle.event_clock.specs.declared.view.View.{View}
use Rattle.event_clock.specs.declared.view.Carried.{Carried}
use Rattle.event_clock.specs.declared.view.Own.{Own}
use Rattle.event_clock.specs.declared.view.Size.{Size}
use Rattle.event_clock.specs.Views.{numbers_of, times, carries, list_at, is_child, has_child, below, joined}

-- the draws of a log that pass a test, as entries with their tickets, the oldest first
abbrev pub picked : (ℕ × Event → Bool) → List (ℕ × Event) → List (ℕ × Event)
picked test [] = []
picked test (x ∷ log) = if test x then picked test log ++ (length log, x.1) ∷ [] else picked test log

-- the entries of a holder
abbrev pub own_of : ℕ → List (ℕ × Event) → List (ℕ × Event)
own_of h log = picked (λ x. x.0 == h) log

-- the entries of a task
abbrev pub trace_of : ℕ → List (ℕ × Event) → List (ℕ × Event)
trace_of t log = picked (λ x. x.1.task == t) log

-- the first task, or one that was made
abbrev pub is_task : ℕ → List (ℕ × Event) → Bool
is_task t log = (t == 0) || has_child t log

-- what each draw of a log met: its task was there; a child is new, and made by holder 0
pub record MayDraw (holders : ℕ) (log : List (ℕ × Event)) (x : ℕ × Event) : Type 0 where
  pub holder : x.0 < holders
  pub task : is_task x.1.task log ≡ true
  pub child : (t : ℕ) → is_child t x.1.action ≡ true → (x.0 ≡ 0) × (is_task t log ≡ false)

-- each draw of a log met this
abbrev pub IsOrderly : ℕ → List (ℕ × Event) → Type 0
IsOrderly holders [] = Unit {0}
IsOrderly holders (x ∷ log) = MayDraw holders log x × IsOrderly holders log

-- a list begins another
abbrev pub IsPrefix : List (ℕ × Event) → List (ℕ × Event) → Type 0
IsPrefix xs ys = (rest : List (ℕ × Event)) × (xs ++ rest ≡ ys)

-- the tickets rise
abbrev pub Rises : List (ℕ × Event) → Type 0
Rises [] = Unit {0}
Rises (x ∷ xs) = ((y : ℕ × Event) → Among y xs → x.0 < y.0) × Rises xs

-- a view shows its part of the log
pub record Fits (size : Size) (log : List (ℕ × Event)) (v : View) : Type 0 where
  -- it is of this clock
  pub sized : 0 < v.holders → (v.holders ≡ size.holders) × (v.bound ≡ size.bound)
  -- each of its numbers was turned away once at most
  pub late : v.late ≤ length (numbers_of v.own)
  -- it knows the beginning of each holder's entries, and all of those of its own numbers
  pub known : (h : ℕ) → IsPrefix (list_at v.known h) (own_of h log)
  -- its own lists are those of its numbers
  pub own : (p : Own) → Among p v.own → p.entries ≡ own_of p.number log
  pub whole : (h : ℕ) → 0 < times h (numbers_of v.own) → list_at v.known h ≡ own_of h log
  -- what it knew before is the beginning of what it knows
  pub olds : (old : List (List (ℕ × Event))) → Among old v.olds → (h : ℕ) → IsPrefix (list_at old h) (list_at v.known h)
  -- beside each task that it carries stand all entries of that task
  pub traces : (c : Carried) → Among c v.tasks → c.trace ≡ trace_of c.task log

-- f of each view, added up
abbrev pub total : (View → ℕ) → List View → ℕ
total f [] = 0
total f (v ∷ vs) = f v + total f vs

-- the rule, by one log of all draws below the bound
pub record ClockRule (size : Size) (s : State (Unit {0}) View) : Type 0 where
  pub log : List (ℕ × Event)
  pub room : size.bound + size.holders < 2 ^ 64
  pub one_word : length s.words ≡ 1
  -- the word counts the draws, those at or above the bound too
  pub word : slice_index s.words 0 ≡ length log + total (λ v. v.late) s.views
  pub bound : length log ≤ size.bound
  pub full : 0 < total (λ v. v.late) s.views → length log ≡ size.bound
  -- the numbers of all views are those below the number of holders, each once
  pub numbers : (h : ℕ) → total (λ v. times h (numbers_of v.own)) s.views ≡ times h (below size.holders)
  pub lengths : total (λ v. length (numbers_of v.own)) s.views ≡ size.holders
  -- no task is carried twice, and each that is carried was made
  pub once : (t : ℕ) → total (λ v. carries t v.tasks) s.views ≤ 1
  pub made : (t : ℕ) → 0 < total (λ v. carries t v.tasks) s.views → is_task t log ≡ true
  pub orderly : IsOrderly size.holders log
  pub views : (seat : ℕ) (v : View) → get_elem? s.views seat ≡ some v → Fits size log v

-- what a load tells of its view: parts of the rule, of one log
pub record IsTold (size : Size) (v : View) (word : ℕ) : Type 0 where
  pub log : List (ℕ × Event)
  pub bound : length log ≤ size.bound
  pub count : length log ≤ word
  pub orderly : IsOrderly size.holders log
  pub fits : Fits size log v
  pub numbers : (h : ℕ) → times h (numbers_of v.own) ≤ times h (below size.holders)
  pub once : (t : ℕ) → carries t v.tasks ≤ 1
  pub made : (t : ℕ) → 0 < carries t v.tasks → is_task t log ≡ true
  pub late : 0 < v.late → size.bound < word

-- what a join tells: both old views' lists are beginnings of the new ones, no task was carried by both, the entries of each task
-- that is known stand beside it, the tickets of what is known of a holder rise, and of its own numbers all entries are known
pub record IsJoin (v w b : View) : Type 0 where
  pub view : b ≡ joined v w
  pub first : (h : ℕ) → IsPrefix (list_at v.known h) (list_at b.known h)
  pub second : (h : ℕ) → IsPrefix (list_at w.known h) (list_at b.known h)
  pub apart : (t : ℕ) → carries t v.tasks + carries t w.tasks ≤ 1
  pub entries : (c : Carried) (h : ℕ) (x : ℕ × Event) → Among c b.tasks → Among x (list_at b.known h) → x.1.task ≡ c.task → Among x c.trace
  pub rises : (h : ℕ) → Rises (list_at b.known h)
  pub whole : (p : Own) → Among p b.own → list_at b.known p.number ≡ p.entries
