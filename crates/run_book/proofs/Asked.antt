-- What a job's task asks for at a spawn or a create.
use Rattle.std.proofs.Common.{◌≡◌, ℕ, List, ◌++◌, length, take, refl, sym, ap, ◌∙◌, subst}
use Rattle.std.proofs.Math.Seq.{take-append_seam}
use Rattle.std.specs.Prelude.{None, slice_get, Result, Ok, IfOk}
use Rattle.fut_base.specs.declared.limits.TheConstants.{MOST_LOCAL_STEPS}
use Rattle.fut_base.specs.declared.record.Value.{Value}
use Rattle.fut_base.specs.declared.event.Event.{Event}
use Rattle.fut_syntax.specs.Trees as tree
use Rattle.fut_check.specs.Items.{IsWellTyped}
use Rattle.task_machine.specs.State.{TaskState, Wish, ToRead, ToWrite, ToSpawn, ToCreate, ToSync, ToGet, ToEnd, wish_of}
use Rattle.task_machine.specs.Runs.{StandsAt}
use Rattle.task_code.specs.Flat.{Compiled, IsCodeOf, code_of}
use Rattle.task_code.specs.declared.task.Spot.{Spot}
use Rattle.task_code.specs.declared.task.Wish as declared
use Rattle.task_code.specs.declared.task.Wish.TheVariants as wish
use Rattle.task_code.specs.Tasks.{TaskNow, IsTaskOf, IsTold, IsStill, Wishes, moves}
use Rattle.run_book.specs.Jobs.{IsFree, Stands}
use Rattle.run_book.proofs.Advancing.{told_at, HasRoomNow}

module _ (code : Compiled) (first : TaskNow) where
  -- it waits for nothing
  pub free_spawn : (past : List Event) (n : ℕ) → Stands code first (λ P w. (which : ℕ) × (args : List Value) × (w ≡ ToSpawn which args))
      → Stands code first (λ P w. IsFree past n w)
  free_spawn past n stands = λ P args s typed of x.
      let k = stands P args s typed of x in (k.0, k.1, subst (λ w. IsFree past n w) (sym k.2.2) tt)

  pub free_create : (past : List Event) (n : ℕ) → Stands code first (λ P w. (which : ℕ) × (args : List Value) × (w ≡ ToCreate which args))
      → Stands code first (λ P w. IsFree past n w)
  free_create past n stands = λ P args s typed of x.
      let k = stands P args s typed of x in (k.0, k.1, subst (λ w. IsFree past n w) (sym k.2.2) tt)

  -- what it passes is what is read at its instruction
  module _ (moved : TaskNow) (which : ℕ) (xs : List Value)
      (state : (P : tree.Program) (args : List Value) (s : TaskState) → IsCodeOf P code → IsTaskOf P code args first s → IsTaskOf P code args moved s) where
    pub spawn_answers : Stands code first (λ P w. (n : ℕ) × (args : List Value) × (w ≡ ToSpawn n args))
        → ((P : tree.Program) (args : List Value) (s : TaskState) → IsCodeOf P code → IsTaskOf P code args first s → Wishes P MOST_LOCAL_STEPS s (wish.Spawn which))
        → ((P : tree.Program) (given : List Value) (s t : TaskState) (w : ℕ) (args : List Value) → IsCodeOf P code → IsTaskOf P code given moved s → StandsAt s t
        → wish_of P t ≡ ToSpawn w args → xs ≡ args)
        → Stands code first (λ P w. w ≡ ToSpawn which xs)
    spawn_answers stands tells passed = λ P args s typed of x.
        let k = stands P args s typed of x in
        let told = told_at P s k.0 (wish.Spawn which) (tells P args s of x) k.1 in
        (k.0, k.1, told.1 ∙ ap (λ l. ToSpawn which l) (sym (passed P args s k.0 which told.0 of (state P args s of x) k.1 told.1)))

    pub create_answers : Stands code first (λ P w. (n : ℕ) × (args : List Value) × (w ≡ ToCreate n args))
        → ((P : tree.Program) (args : List Value) (s : TaskState) → IsCodeOf P code → IsTaskOf P code args first s → Wishes P MOST_LOCAL_STEPS s (wish.Create which))
        → ((P : tree.Program) (given : List Value) (s t : TaskState) (w : ℕ) (args : List Value) → IsCodeOf P code → IsTaskOf P code given moved s → StandsAt s t
        → wish_of P t ≡ ToCreate w args → xs ≡ args)
        → Stands code first (λ P w. w ≡ ToCreate which xs)
    create_answers stands tells passed = λ P args s typed of x.
        let k = stands P args s typed of x in
        let told = told_at P s k.0 (wish.Create which) (tells P args s of x) k.1 in
        (k.0, k.1, told.1 ∙ ap (λ l. ToCreate which l) (sym (passed P args s k.0 which told.0 of (state P args s of x) k.1 told.1)))

spawn_told : (w : declared.Wish) (x : Wish) (n : ℕ) (args : List Value) → x ≡ ToSpawn n args → IsTold w x → ((which : ℕ) → w ≡ wish.Spawn which → ⊥) → ⊥
spawn_told (wish.Read cell) x n args is told never = let same : ToSpawn n args ≡ ToRead cell = sym is ∙ told in cc
spawn_told (wish.Write cell value) x n args is told never = let same : ToSpawn n args ≡ ToWrite cell value = sym is ∙ told in cc
spawn_told (wish.Spawn which) x n args is told never = never which refl
spawn_told (wish.Create which) x n args is told never = let same : ToSpawn n args ≡ ToCreate which told.0 = sym is ∙ told.1 in cc
spawn_told wish.Sync x n args is told never = let same : ToSpawn n args ≡ ToSync = sym is ∙ told in cc
spawn_told (wish.Get future) x n args is told never = let same : ToSpawn n args ≡ ToGet future = sym is ∙ told in cc
spawn_told (wish.End value) x n args is told never = let same : ToSpawn n args ≡ ToEnd value = sym is ∙ told in cc
spawn_told wish.Long x n args is told never = absurd told

-- a task that stands at a spawn tells no other wish
pub not_spawn : (code : Compiled) (first : TaskNow) (w : declared.Wish) → (P : tree.Program) × IsCodeOf P code
    → ((P : tree.Program) → IsWellTyped P → IsCodeOf P code → (args : List Value) × (s : TaskState) × IsTaskOf P code args first s)
    → Stands code first (λ P w. (n : ℕ) × (args : List Value) × (w ≡ ToSpawn n args))
    → ((P : tree.Program) (args : List Value) (s : TaskState) → IsCodeOf P code → IsTaskOf P code args first s → Wishes P MOST_LOCAL_STEPS s w)
    → ((which : ℕ) → w ≡ wish.Spawn which → ⊥) → ⊥
not_spawn code first w (P, of) started stands tells never =
    let (args, s, x) = started P of.typed of in
    let k = stands P args s of.typed of x in
    spawn_told w (wish_of P k.0) k.2.0 k.2.1 k.2.2 (told_at P s k.0 w (tells P args s of x) k.1) never

create_told : (w : declared.Wish) (x : Wish) (n : ℕ) (args : List Value) → x ≡ ToCreate n args → IsTold w x → ((which : ℕ) → w ≡ wish.Create which → ⊥) → ⊥
create_told (wish.Read cell) x n args is told never = let same : ToCreate n args ≡ ToRead cell = sym is ∙ told in cc
create_told (wish.Write cell value) x n args is told never = let same : ToCreate n args ≡ ToWrite cell value = sym is ∙ told in cc
create_told (wish.Spawn which) x n args is told never = let same : ToCreate n args ≡ ToSpawn which told.0 = sym is ∙ told.1 in cc
create_told (wish.Create which) x n args is told never = never which refl
create_told wish.Sync x n args is told never = let same : ToCreate n args ≡ ToSync = sym is ∙ told in cc
create_told (wish.Get future) x n args is told never = let same : ToCreate n args ≡ ToGet future = sym is ∙ told in cc
create_told (wish.End value) x n args is told never = let same : ToCreate n args ≡ ToEnd value = sym is ∙ told in cc
create_told wish.Long x n args is told never = absurd told

-- a task that stands at a create tells no other wish
pub not_create : (code : Compiled) (first : TaskNow) (w : declared.Wish) → (P : tree.Program) × IsCodeOf P code
    → ((P : tree.Program) → IsWellTyped P → IsCodeOf P code → (args : List Value) × (s : TaskState) × IsTaskOf P code args first s)
    → Stands code first (λ P w. (n : ℕ) × (args : List Value) × (w ≡ ToCreate n args))
    → ((P : tree.Program) (args : List Value) (s : TaskState) → IsCodeOf P code → IsTaskOf P code args first s → Wishes P MOST_LOCAL_STEPS s w)
    → ((which : ℕ) → w ≡ wish.Create which → ⊥) → ⊥
not_create code first w (P, of) started stands tells never =
    let (args, s, x) = started P of.typed of in
    let k = stands P args s of.typed of x in
    create_told w (wish_of P k.0) k.2.0 k.2.1 k.2.2 (told_at P s k.0 w (tells P args s of x) k.1) never

-- a task that got room stands where it stood
pub still_same : (code : Compiled) (old new : TaskNow) → HasRoomNow old new → IsStill code old → IsStill code new
still_same code old new r x =
    subst (λ w. moves new.held (slice_get (code_of code.tasks w).instructions new.spot.place) ≡ None) (sym r.which)
    (subst (λ (p : Spot). moves new.held (slice_get (code_of code.tasks old.which).instructions p.place) ≡ None) (sym r.spot)
    (subst (λ f. moves f (slice_get (code_of code.tasks old.which).instructions old.spot.place) ≡ None) (sym r.held) x))

-- what holds of an `Ok`
pub if_ok : {A E : Type 0} (x : Result A E) (a : A) (P : A → Type 0) → IfOk x P → x ≡ Ok a → P a
if_ok x a P h e = subst (λ y. IfOk y P) e h

-- a slice that was written back
pub whole : {X : Type 0} (n : ℕ) (xs ys : List X) → n ≡ length xs → take n (xs ++ ys) ≡ xs
whole n xs ys size = ap (λ m. take m (xs ++ ys)) size ∙ take-append_seam xs ys
