-- A shard without an access.
use Rattle.std.proofs.Common.{◌≡◌, ℕ, zero, suc, ◌+◌, ◌*◌, ◌^◌, ◌<◌, ◌≤◌, List, [], ◌∷◌, ◌++◌, length, reverse, replicate, inl, inr, subst, ap, sym, refl, ◌∙◌, arith}
use Rattle.std.specs.Prelude.{Some, ℤ, pos, slice_get}
use Rattle.std.proofs.lemmas.Option.{same_Some}
use Rattle.atomic_table.specs.Seated.{TableId}
use Rattle.fut_base.specs.declared.event.Event.{Event}
use Rattle.fut_base.specs.Dag.{Among}
use Rattle.fut_base.specs.Sound.{next_strand}
use Rattle.task_code.specs.Flat.{Compiled}
use Rattle.access_shards.specs.Kept.{IsNew}
use Rattle.access_shards.specs.Logged.{Logged, IsLogOf}
use Rattle.event_clock.specs.Views.{own_list}
use Rattle.event_clock.specs.Rule.{Rises}
use Rattle.event_clock.specs.Seated.{Ticking, Seated}
use Rattle.order_query.specs.Reading.{Reading}
use Rattle.merge_laws.specs.Parts.{ReadsAreRight}
use Rattle.run_place.specs.Placed.{book_of, events_in}
use Rattle.run_shard.specs.Shards.{ShardNow, IsShard, IsCell, IsNewHolder, FitsKnown}

-- logs without accesses
abbrev pub AllNew : List Logged → Type 0
AllNew logs = (k : ℕ) (log : Logged) → slice_get logs k ≡ Some log → IsNew log.kept × ((s : List Event) → IsLogOf s [] log)

pub none_new : AllNew []
none_new k log at = absurd (cc)

pub one_new : (logs : List Logged) (l : Logged) → AllNew logs → IsNew l.kept → ((s : List Event) → IsLogOf s [] l) → AllNew (logs ++ l ∷ [])
one_new [] l all new log zero x at = let same : l ≡ x = same_Some l x at in
    subst (λ (y : Logged). IsNew y.kept × ((s : List Event) → IsLogOf s [] y)) same (new, log)
one_new [] l all new log (suc k) x at = absurd (cc)
one_new (m ∷ logs) l all new log zero x at = all zero x at
one_new (m ∷ logs) l all new log (suc k) x at = one_new logs l (λ j y a. all (suc j) y a) new log k x at

pub all_same : {X : Type 0} (n : ℕ) (x : X) (k : ℕ) (y : X) → slice_get (replicate n x) k ≡ Some y → y ≡ x
all_same zero x k y at = absurd (cc)
all_same (suc n) x zero y at = sym (same_Some x y at)
all_same (suc n) x (suc k) y at = all_same n x k y at

pub new_shard : (clock : Ticking) (orders : TableId) (code : Compiled) (i : ℕ) (h : Seated) (r : Reading) (values : List ℤ) (logs : List Logged)
    → (code.cells < 2 ^ 32) × (i < 8) → IsNewHolder clock i h → FitsKnown orders code h r
    → (length logs ≡ length values) × (code.cells ≤ 8 * length values + i) × (8 * length values + i < code.cells + 8)
    → ((k : ℕ) (v : ℤ) → slice_get values k ≡ Some v → v ≡ pos 0) → AllNew logs
    → IsShard clock orders code i (record { holder = h; reader = r; values = values; logs = logs })
new_shard clock orders code i h r values logs few is knows size none new =
    let own : own_list h.view ≡ [] = is.none.0 in
    record {
      home = (is.clock_is, knows.home);
      number = is.number;
      none = is.none.1;
      alike = knows.alike;
      fits = knows.fits;
      accesses = λ x a. absurd (subst (λ m. Among x m) own a);
      rises = subst Rises (sym own) tt;
      reads = subst (λ m. ReadsAreRight (reverse (events_in m))) (sym own) tt;
      strands = λ x a. absurd (subst (λ m. Among x m) own a);
      size = size;
      cells = λ k v log av al.
          subst (λ m. IsCell (book_of h.view) m (8 * k + i) v log) (sym own)
          (record { value_is = none k v av; kept = (new k log al).1 (events_in (book_of h.view)); late = λ a b ha. absurd ha });
      few = few;
    }
