-- A job waits in the book.
use Rattle.std.proofs.Common.{◌≡◌, ℕ, ◌<◌, ◌≤◌, true, List, inl, inr, refl, sym, ap, ◌∙◌, subst, arith}
use Rattle.std.specs.Prelude.{◌↔◌, ◌⊎◌, Option, Some, None, IsSome}
use Rattle.std.specs.Option.{is_some}
use Rattle.std.proofs.lemmas.Bool.{cases_lt}
use Rattle.fut_base.specs.declared.record.Value.{Value}
use Rattle.fut_base.specs.declared.event.Event.{Event}
use Rattle.fut_base.specs.Dag.{Among, block_of}
use Rattle.fut_base.specs.Sound.{AllEnded, value_of}
use Rattle.fut_syntax.specs.Trees as tree
use Rattle.task_machine.specs.State.{Wish, ToRead, ToWrite, ToSpawn, ToCreate, ToSync, ToGet, ToEnd, NoWish, wish_of}
use Rattle.task_machine.proofs.Stepping.{stands_at_one}
use Rattle.strand_tree.specs.declared.strand.Strand.{Strand}
use Rattle.task_code.specs.Flat.{Compiled}
use Rattle.task_code.specs.Tasks.{TaskNow}
use Rattle.run_counts.specs.Counted.{Counted, Handed}
use Rattle.run_book.specs.declared.stepped.Stepped.{Stepped}
use Rattle.run_book.specs.declared.stepped.Stepped.TheVariants as became
use Rattle.run_book.specs.Drawn.{past_in}
use Rattle.run_book.specs.Jobs.{JobNow, IsFree, IsBarred, MayWait, Stands, IsTaskIn}
use Rattle.run_book.specs.Books.{BookNow, entries_of, jobs_in}
use Rattle.run_book.specs.Steps.{IsBack, Waits, GoesOrWaits}

-- a task stands at a wish of which more holds
pub stands_as : (code : Compiled) (task : TaskNow) (holds more : tree.Program → Wish → Type 0) → ((P : tree.Program) (w : Wish) → holds P w → more P w)
    → Stands code task holds → Stands code task more
stands_as code task holds more go is = λ P args s typed of x. let h = is P args s typed of x in (h.0, h.1, go P (wish_of P h.0) h.2)

-- a sync where all children have ended, and where one has not; a get where the future has ended, and where it has not
pub free_sync : (code : Compiled) (task : TaskNow) (past : List Event) (t : ℕ) → AllEnded past (block_of past t) → Stands code task (λ P w. w ≡ ToSync)
    → Stands code task (λ P w. IsFree past t w)
free_sync code task past t all is =
    stands_as code task (λ P w. w ≡ ToSync) (λ P w. IsFree past t w) (λ P w e. subst (λ v. IsFree past t v) (sym e) all) is

pub barred_sync : (code : Compiled) (task : TaskNow) (past : List Event) (t : ℕ) → (AllEnded past (block_of past t) → ⊥)
    → Stands code task (λ P w. w ≡ ToSync) → Stands code task (λ P w. IsBarred past t w)
barred_sync code task past t none is =
    stands_as code task (λ P w. w ≡ ToSync) (λ P w. IsBarred past t w) (λ P w e. subst (λ v. IsBarred past t v) (sym e) none) is

pub free_get : (code : Compiled) (task : TaskNow) (past : List Event) (t future : ℕ) → IsSome (value_of past future)
    → Stands code task (λ P w. w ≡ ToGet future) → Stands code task (λ P w. IsFree past t w)
free_get code task past t future some is =
    stands_as code task (λ P w. w ≡ ToGet future) (λ P w. IsFree past t w) (λ P w e. subst (λ v. IsFree past t v) (sym e) some) is

pub barred_get : (code : Compiled) (task : TaskNow) (past : List Event) (t future : ℕ) → value_of past future ≡ None
    → Stands code task (λ P w. w ≡ ToGet future) → Stands code task (λ P w. IsBarred past t w)
barred_get code task past t future none is =
    stands_as code task (λ P w. w ≡ ToGet future) (λ P w. IsBarred past t w) (λ P w e. subst (λ v. IsBarred past t v) (sym e) none) is

-- what a wish waits for has not both ended and not ended
free_or_barred : (past : List Event) (t : ℕ) (w : Wish) → IsFree past t w → IsBarred past t w → ⊥
free_or_barred past t ToSync free barred = barred free
free_or_barred past t (ToGet future) free barred =
    absurd (let e : is_some {T = Value} None ≡ true = subst (λ (o : Option Value). is_some o ≡ true) barred free in cc)
free_or_barred past t (ToRead _) free barred = barred
free_or_barred past t (ToWrite _ _) free barred = barred
free_or_barred past t (ToSpawn _ _) free barred = barred
free_or_barred past t (ToCreate _ _) free barred = barred
free_or_barred past t (ToEnd _) free barred = barred
free_or_barred past t NoWish free barred = barred

-- a task whose wish is barred may wait once
pub pace_is_one : (code : Compiled) (book : List (ℕ × Event)) (task : TaskNow) (at : Strand) (table : List Strand) (pace : ℕ)
    → IsTaskIn code book task at table pace → Stands code task (λ P w. IsBarred (past_in book) task.number w) → pace ≡ 1
pace_is_one code book task at table pace is barred =
    let few = is.few in
    elim (cases_lt 0 pace) [
      | inl some ↦ omega (arith, few, some)
      | inr none ↦ absurd (
          let P = is.program.0 in
          let of = is.program.1 in
          let s = is.started P of.typed of in
          let f = is.paced (omega (arith, none)) P s.0 s.1 of.typed of s.3 in
          let b = barred P s.0 s.1 of.typed of s.3 in
          let same : b.0 ≡ f.0 = stands_at_one s.1 b.0 f.0 b.1 f.1 in
          free_or_barred (past_in book) task.number (wish_of P f.0) f.2.1
          (subst (λ u. IsBarred (past_in book) task.number (wish_of P u)) same b.2))
    ]

-- a job that was handed back, and then waits, or is handed back for want of memory
pub has_waited : (code : Compiled) (bound : ℕ) (old mid new : BookNow) (hand after : Handed) (job back : JobNow) (result : Stepped JobNow)
    → Waits mid new hand after back result → IsBack job back → entries_of mid ≡ entries_of old → jobs_in mid.lines ≡ jobs_in old.lines → mid.counts ≡ old.counts
    → Stands code job.task (λ P w. IsBarred (past_in (entries_of old)) job.task.number w) → GoesOrWaits code bound old new hand after job result
has_waited code bound old mid new hand after job back (became.Went jobs) waits is entries lines counts barred = absurd waits
has_waited code bound old mid new hand after job back became.Parked waits is entries lines counts barred =
    record {
      barred = barred;
      entries = waits.0 ∙ entries;
      kept = (back, is, subst (λ js. (k : JobNow) → Among k (jobs_in new.lines) ↔ (Among k js ⊎ (k ≡ back))) lines waits.1);
      parts = waits.3 ∙ ap (λ (c : Counted). c.rest.parts) counts;
      hand = waits.2;
    }
has_waited code bound old mid new hand after job back (became.Spent _ _) waits is entries lines counts barred = absurd waits
has_waited code bound old mid new hand after job back (became.NoMemory again) waits is entries lines counts barred =
    record {
      still = record {
        entries = ap entries_of waits.1 ∙ entries;
        counts = ap (λ (b : BookNow). b.counts) waits.1 ∙ counts;
        hand = waits.2;
      };
      back_is = subst (λ j. IsBack job j) (sym waits.0) is;
    }
