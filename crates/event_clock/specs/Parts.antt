-- The rule of the clock in six parts, which speak of the views alone.
use Rattle.std.specs.Prelude.{◌≡◌, ℕ, ◌+◌, ◌<◌, ◌≤◌, ◌==◌, true, false, min, List, [], ◌∷◌, length, slice_index, ◌⊎◌}
use lib.ListN.{get_elem?}
use mathlib.Core.Option.{some}
use Rattle.atomic_table.specs.Table.{State}
use Rattle.fut_base.specs.declared.event.Event.{Event}
use Rattle.fut_base.specs.Dag.{Among}
use Rattle.event_clock.specs.declared.view.View.{View}
use Rattle.event_clock.specs.declared.view.Carried.{Carried}
use Rattle.event_clock.specs.declared.view.Own.{Own}
use Rattle.event_clock.specs.declared.view.Size.{Size}
use Rattle.event_clock.specs.Views.{numbers_of, times, carries, list_at, is_child}
use Rattle.event_clock.specs.Rule.{IsPrefix, Rises, total, ClockRule}

-- a seat has this view
abbrev pub IsView : State (Unit {0}) View → ℕ → View → Type 0
IsView s seat v = get_elem? s.views seat ≡ some v

-- the own list of a holder, in some view
abbrev pub IsOwn : State (Unit {0}) View → Own → Type 0
IsOwn s p = (seat : ℕ) × (v : View) × IsView s seat v × Among p v.own

-- how many tickets were given out
abbrev pub tickets : Size → State (Unit {0}) View → ℕ
tickets size s = min (slice_index s.words 0) size.bound

-- how many late draws all views have
abbrev pub lates : State (Unit {0}) View → ℕ
lates s = total (λ v. v.late) s.views

-- 0, or the child of an entry in some own list
abbrev pub WasMade : State (Unit {0}) View → ℕ → Type 0
WasMade s t = (t ≡ 0) ⊎ ((p : Own) × (x : ℕ × Event) × IsOwn s p × Among x p.entries × (is_child t x.1.action ≡ true))

-- what is shared out among the views
pub record HasParts (size : Size) (s : State (Unit {0}) View) : Type 0 where
  -- holder numbers: each is below the number of holders, and stands in one view, once
  pub number_below : (p : Own) → IsOwn s p → p.number < size.holders
  pub number_once : (i j : ℕ) (v w : View) (h : ℕ) → IsView s i v → IsView s j w → 0 < times h (numbers_of v.own) → 0 < times h (numbers_of w.own)
      → (i ≡ j) × (times h (numbers_of v.own) ≡ 1)
  pub late_few : (i : ℕ) (v : View) → IsView s i v → v.late ≤ length (numbers_of v.own)
  pub same_size : (i : ℕ) (v : View) → IsView s i v → 0 < v.holders → (v.holders ≡ size.holders) × (v.bound ≡ size.bound)
  -- tickets: those of all own lists are the numbers below N, each once, and each own list rises
  pub ticket_below : (p : Own) (x : ℕ × Event) → IsOwn s p → Among x p.entries → x.0 < tickets size s
  pub ticket_there : (n : ℕ) → n < tickets size s → (p : Own) × (e : Event) × IsOwn s p × Among (n, e) p.entries
  pub ticket_once : (p q : Own) (n : ℕ) (e f : Event) → IsOwn s p → IsOwn s q → Among (n, e) p.entries → Among (n, f) q.entries
      → (p.number ≡ q.number) × (e ≡ f)
  pub own_rises : (p : Own) → IsOwn s p → Rises p.entries
  -- what is known: a beginning of each own list, and the whole of one's own
  pub known_prefix : (i : ℕ) (v : View) (p : Own) → IsView s i v → IsOwn s p → IsPrefix (list_at v.known p.number) p.entries
  pub known_own : (i : ℕ) (v : View) (p : Own) → IsView s i v → Among p v.own → list_at v.known p.number ≡ p.entries
  -- earlier values
  pub olds_prefix : (i : ℕ) (v : View) (old : List (List (ℕ × Event))) (h : ℕ) → IsView s i v → Among old v.olds → IsPrefix (list_at old h) (list_at v.known h)
  -- the word
  pub word : slice_index s.words 0 ≡ tickets size s + lates s
  pub word_late : 0 < lates s → size.bound < slice_index s.words 0
  -- tasks: each is carried by one view, once, with all its entries; each was made, by holder 0, under a number of its own
  pub task_once : (i j : ℕ) (v w : View) (t : ℕ) → IsView s i v → IsView s j w → 0 < carries t v.tasks → 0 < carries t w.tasks
      → (i ≡ j) × (carries t v.tasks ≡ 1)
  pub task_entries : (i : ℕ) (v : View) (c : Carried) (p : Own) (x : ℕ × Event) → IsView s i v → Among c v.tasks → IsOwn s p → Among x p.entries
      → x.1.task ≡ c.task → Among x c.trace
  pub task_only : (i : ℕ) (v : View) (c : Carried) (x : ℕ × Event) → IsView s i v → Among c v.tasks → Among x c.trace
      → (x.1.task ≡ c.task) × ((p : Own) × IsOwn s p × Among x p.entries)
  pub task_rises : (i : ℕ) (v : View) (c : Carried) → IsView s i v → Among c v.tasks → Rises c.trace
  pub task_made : (i : ℕ) (v : View) (c : Carried) → IsView s i v → Among c v.tasks → WasMade s c.task
  pub entry_made : (p : Own) (x : ℕ × Event) → IsOwn s p → Among x p.entries → WasMade s x.1.task
  pub child_first : (p : Own) (x : ℕ × Event) (t : ℕ) → IsOwn s p → Among x p.entries → is_child t x.1.action ≡ true → (p.number ≡ 0) × ((t == 0) ≡ false)
  pub child_once : (p q : Own) (x y : ℕ × Event) (t : ℕ) → IsOwn s p → IsOwn s q → Among x p.entries → Among y q.entries → is_child t x.1.action ≡ true
      → is_child t y.1.action ≡ true → x ≡ y

-- the rule says all of them
abbrev pub RuleHasParts : Type 0
RuleHasParts = (size : Size) (s : State (Unit {0}) View) → ClockRule size s → HasParts size s
