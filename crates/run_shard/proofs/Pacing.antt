-- A job of any pace whose task makes an access.
use Rattle.std.proofs.Common.{◌≡◌, ℕ, ◌<◌, ◌≤◌, inl, inr, subst, ap, sym, refl, ◌∙◌, arith}
use Rattle.std.specs.Prelude.{ℤ}
use Rattle.std.proofs.lemmas.Bool.{cases_lt}
use Rattle.atomic_table.specs.Seated.{TableId}
use Rattle.fut_syntax.specs.Trees as tree
use Rattle.task_machine.specs.State.{Wish, ToRead, ToWrite, ToSpawn, ToCreate, ToSync, ToGet, ToEnd, wish_of}
use Rattle.task_machine.proofs.Stepping.{stands_at_one}
use Rattle.task_code.specs.Flat.{Compiled}
use Rattle.task_code.specs.Tasks.{TaskNow}
use Rattle.event_clock.specs.Seated.{Ticking}
use Rattle.run_place.specs.Placed.{Placed}
use Rattle.run_book.specs.Jobs.{JobNow, IsJob, Stands, MayWait}
use Rattle.run_shard.specs.Turns.{AreOfJob}

-- a wish is to read or to write a cell
abbrev pub WishesCell : Wish → Type 0
WishesCell (ToRead _) = Unit {0}
WishesCell (ToWrite _ _) = Unit {0}
WishesCell _ = ⊥

not_both : (w : Wish) → MayWait w → WishesCell w → ⊥
not_both (ToRead _) may cell = may
not_both (ToWrite _ _) may cell = may
not_both ToSync may cell = cell
not_both (ToGet _) may cell = cell
not_both _ may cell = cell

module _ (clock : Ticking) (orders : TableId) (code : Compiled) (task : TaskNow) (place : Placed) (pace : ℕ)
    (is : IsJob clock orders code (record { task = task; place = place; pace = pace })) where
  -- task and place are those of one job that may wait
  pub job_parts : AreOfJob clock orders code task place
  job_parts = record {
    program = is.program;
    running = is.running;
    unended = is.unended;
    carried = is.carried;
    fits = is.fits;
    started = is.started;
    trace = is.trace;
    place = is.place;
    strand = is.strand;
    few = omega arith;
    paced = λ zero. absurd (omega (arith, zero));
  }

  -- a job whose task stands at an access may wait
  pace_one : Stands code task (λ P w. WishesCell w) → pace ≡ 1
  pace_one stands =
      let few = is.few in
      elim (cases_lt 0 pace) [
        | inl some ↦ omega (arith, few, some)
        | inr none ↦ absurd (
            let P = is.program.0 in
            let of = is.program.1 in
            let s = is.started P of.typed of in
            let f = is.paced (omega (arith, none)) P s.0 s.1 of.typed of s.3 in
            let b = stands P s.0 s.1 of.typed of s.3 in
            let same : b.0 ≡ f.0 = stands_at_one s.1 b.0 f.0 b.1 f.1 in
            not_both (wish_of P f.0) f.2.0 (subst (λ u. WishesCell (wish_of P u)) same b.2))
      ]

  -- so after the access it is a job of the pace that it had
  pub job_after : (new : TaskNow) (back : Placed) → Stands code task (λ P w. WishesCell w) → AreOfJob clock orders code new back
      → IsJob clock orders code (record { task = new; place = back; pace = pace })
  job_after new back stands now = subst (λ n. IsJob clock orders code (record { task = new; place = back; pace = n })) (sym (pace_one stands)) now

pub stands_read : (code : Compiled) (task : TaskNow) (cell : ℕ) → Stands code task (λ P w. w ≡ ToRead cell) → Stands code task (λ P w. WishesCell w)
stands_read code task cell stands = λ P args s typed of x. (let k = stands P args s typed of x in (k.0, k.1, subst WishesCell (sym k.2) tt))

pub stands_write : (code : Compiled) (task : TaskNow) (cell : ℕ) (value : ℤ) → Stands code task (λ P w. w ≡ ToWrite cell value)
    → Stands code task (λ P w. WishesCell w)
stands_write code task cell value stands = λ P args s typed of x. (let k = stands P args s typed of x in (k.0, k.1, subst WishesCell (sym k.2) tt))
