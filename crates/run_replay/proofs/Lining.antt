-- Lines of a run beside the tasks of a machine.
use Rattle.std.proofs.Common.{◌≡◌, ℕ, zero, suc, ◌<◌, List, [], ◌∷◌, ◌++◌, length, refl, sym, ap, ◌∙◌, subst, arith}
use Rattle.std.specs.Prelude.{Some, slice_get, slice_set}
use Rattle.run_laws.proofs.Waits.{get_some}
use Rattle.fut_syntax.specs.Trees as tree
use Rattle.fut_check.specs.Items.{IsWellTyped}
use Rattle.task_machine.specs.Machine.{Running}
use Rattle.task_code.specs.Flat.{Compiled, IsCodeOf}
use Rattle.task_code.specs.Tasks.{TaskNow}
use Rattle.run_replay.specs.declared.line.TaskLine.{TaskLine}
use Rattle.run_replay.specs.Replays.{IsLineOf, AreLinesOf, KeepsTask, KeepsLine, KeepsLineAt}

module _ (P : tree.Program) (code : Compiled) where
  -- the task of a line
  pub task_of_line : (xs : List TaskLine) (rs : List Running) (t : ℕ) (x : TaskLine) → AreLinesOf P code xs rs → slice_get xs t ≡ Some x
      → (r : Running) × (slice_get rs t ≡ Some r) × IsLineOf P code x r
  task_of_line [] rs t x h e = cc
  task_of_line (y ∷ xs) [] t x h e = absurd h
  task_of_line (y ∷ xs) (r ∷ rs) zero x h e = (r, refl, (let same : y ≡ x = cc in subst (λ (z : TaskLine). IsLineOf P code z r) same h.0))
  task_of_line (y ∷ xs) (r ∷ rs) (suc t) x h e = task_of_line xs rs t x h.1 e

  -- a task has a line
  pub line_of_task : (xs : List TaskLine) (rs : List Running) (t : ℕ) (r : Running) → AreLinesOf P code xs rs → slice_get rs t ≡ Some r
      → (x : TaskLine) × (slice_get xs t ≡ Some x) × IsLineOf P code x r
  line_of_task [] [] t r h e = cc
  line_of_task [] (q ∷ rs) t r h e = absurd h
  line_of_task (y ∷ xs) [] t r h e = absurd h
  line_of_task (y ∷ xs) (q ∷ rs) zero r h e = (y, refl, (let same : q ≡ r = cc in subst (λ (z : Running). IsLineOf P code y z) same h.0))
  line_of_task (y ∷ xs) (q ∷ rs) (suc t) r h e = line_of_task xs rs t r h.1 e

  pub set_line : (xs : List TaskLine) (rs : List Running) (t : ℕ) (x : TaskLine) (r : Running) → AreLinesOf P code xs rs → IsLineOf P code x r
      → AreLinesOf P code (slice_set xs t x) (slice_set rs t r)
  set_line [] [] t x r h l = tt
  set_line [] (q ∷ rs) t x r h l = absurd h
  set_line (y ∷ xs) [] t x r h l = absurd h
  set_line (y ∷ xs) (q ∷ rs) zero x r h l = (l, h.1)
  set_line (y ∷ xs) (q ∷ rs) (suc t) x r h l = (h.0, set_line xs rs t x r h.1 l)

  pub add_lines : (xs ys : List TaskLine) (rs qs : List Running) → AreLinesOf P code xs rs → AreLinesOf P code ys qs → AreLinesOf P code (xs ++ ys) (rs ++ qs)
  add_lines [] ys [] qs h k = k
  add_lines [] ys (r ∷ rs) qs h k = absurd h
  add_lines (x ∷ xs) ys [] qs h k = absurd h
  add_lines (x ∷ xs) ys (r ∷ rs) qs h k = (h.0, add_lines xs ys rs qs h.1 k)

  pub count_lines : (xs : List TaskLine) (rs : List Running) → AreLinesOf P code xs rs → length xs ≡ length rs
  count_lines [] [] h = refl
  count_lines [] (r ∷ rs) h = absurd h
  count_lines (x ∷ xs) [] h = absurd h
  count_lines (x ∷ xs) (r ∷ rs) h = ap suc (count_lines xs rs h.1)

  -- a line that keeps its task is still that of its task
  pub kept_line : (x y : TaskLine) (r : Running) → IsWellTyped P → IsCodeOf P code → KeepsLine code x y → IsLineOf P code x r → IsLineOf P code y r
  kept_line x y r typed of k l =
      record {
        args = l.args;
        task = k.task.state P typed of l.args r.state l.task;
        which = k.task.which ∙ l.which;
        ended = k.task.ended ∙ l.ended;
        strand = k.strand ∙ l.strand;
        future = k.future ∙ l.future;
        block = k.block ∙ l.block;
        value = k.value ∙ l.value;
      }

-- an element written back
pub set_same : {X : Type 0} (xs : List X) (i : ℕ) (x : X) → slice_get xs i ≡ Some x → slice_set xs i x ≡ xs
set_same [] i x e = refl
set_same (y ∷ xs) zero x e = let same : y ≡ x = cc in ap (λ z. z ∷ xs) (sym same)
set_same (y ∷ xs) (suc i) x e = ap (λ zs. y ∷ zs) (set_same xs i x e)

pub set_twice : {X : Type 0} (xs : List X) (i : ℕ) (x y : X) → slice_set (slice_set xs i x) i y ≡ slice_set xs i y
set_twice [] i x y = refl
set_twice (z ∷ xs) zero x y = refl
set_twice (z ∷ xs) (suc i) x y = ap (λ zs. z ∷ zs) (set_twice xs i x y)

pub set_length : {X : Type 0} (xs : List X) (i : ℕ) (x : X) → length (slice_set xs i x) ≡ length xs
set_length [] i x = refl
set_length (y ∷ xs) zero x = refl
set_length (y ∷ xs) (suc i) x = ap suc (set_length xs i x)

pub get_set_here : {X : Type 0} (xs : List X) (i : ℕ) (x : X) → i < length xs → slice_get (slice_set xs i x) i ≡ Some x
get_set_here [] i x lt = absurd (omega arith)
get_set_here (y ∷ xs) zero x lt = refl
get_set_here (y ∷ xs) (suc i) x lt = get_set_here xs i x (omega arith)

pub same_task : (code : Compiled) (t : TaskNow) → KeepsTask code t t
same_task code t = record { which = refl; ended = refl; state = λ P w of args s h. h }

pub same_line : (code : Compiled) (x : TaskLine) → KeepsLine code x x
same_line code x = record { task = same_task code x.task; strand = refl; future = refl; block = refl; value = refl }

-- lines of which one keeps its task are those of the tasks
pub kept_lines : (P : tree.Program) (code : Compiled) (xs ys : List TaskLine) (rs : List Running) (t : ℕ) → IsWellTyped P → IsCodeOf P code
    → KeepsLineAt code xs ys t → AreLinesOf P code xs rs → AreLinesOf P code ys rs
kept_lines P code xs ys rs t typed of k are =
    let found = task_of_line P code xs rs t k.before are k.present in
    let set = set_line P code xs rs t k.after found.0 are (kept_line P code k.before k.after found.0 typed of k.keeps found.2) in
    subst (λ zs. AreLinesOf P code zs rs) (sym k.is) (subst (λ qs. AreLinesOf P code (slice_set xs t k.after) qs) (set_same rs t found.0 found.1) set)

pub kept_length : (code : Compiled) (xs ys : List TaskLine) (t : ℕ) → KeepsLineAt code xs ys t → length ys ≡ length xs
kept_length code xs ys t k = ap length k.is ∙ set_length xs t k.after

pub same_at : (code : Compiled) (xs ys : List TaskLine) (t : ℕ) → t < length xs → ys ≡ xs → KeepsLineAt code xs ys t
same_at code xs ys t lt is =
    let x = get_some xs t lt in
    record { before = x.0; after = x.0; present = x.1; is = is ∙ sym (set_same xs t x.0 x.1); keeps = same_line code x.0 }
