-- The futures of the strands that an event makes.
use Rattle.std.proofs.Common.{◌≡◌, ◌≢◌, ℕ, ◌+◌, ◌<◌, List, [], ◌∷◌, reverse, ap, sym, subst, ◌∙◌, arith, ◌==◌, if◌then◌else◌}
use Rattle.std.proofs.lemmas.List.{reverse-append}
use Rattle.fut_base.specs.declared.record.Value.{Value}
use Rattle.fut_base.specs.declared.event.Event.{Event}
use Rattle.fut_base.specs.declared.event.Action.{Action}
use Rattle.fut_base.specs.declared.event.Action.TheVariants.{Spawns, Creates, Syncs, Gets}
use Rattle.fut_base.specs.Sound.{IsSoundPast, next_strand, future_of, home_of}
use Rattle.strand_laws.proofs.Links.{ev, if_self, if_off}
use Rattle.strand_laws.proofs.Sources.{or_left, or_right}
use Rattle.strand_laws.proofs.Homes.{current_belongs}
use Rattle.strand_tree.specs.declared.strand.Strand.{Strand}
use Rattle.strand_tree.specs.Placing.{Belongs}

-- a strand is one of these events, the newest first
abbrev IsOf : List Event → Strand → Type 0
IsOf past v = (v.number < next_strand past) × (v.future ≡ home_of past v.number)

-- the newest event may stand at the head of the list
belongs_by : (s : List Event) (task : ℕ) (at : Strand) (action : Action) (v : Strand)
    → (IsSoundPast (ev task at.number action ∷ reverse s) → IsOf (reverse s) at → IsOf (ev task at.number action ∷ reverse s) v)
    → Belongs s task at action v
belongs_by s task at action v f sound here =
    let turned = reverse-append s (ev task at.number action ∷ []) in
    let k = f (subst IsSoundPast turned sound) (here.there, here.future_is) in
    let P : List Event → Type 0 = λ past. IsOf past v in
    let r = subst P (sym turned) k in
    record { there = r.0; future_is = r.1 }

-- the acting strand is of its task's future
acting : (past : List Event) (task : ℕ) (at : Strand) (action : Action) → IsSoundPast (ev task at.number action ∷ past) → IsOf past at
    → at.future ≡ future_of past task
acting past task at action sound here = here.1 ∙ current_belongs past sound.0 task at.number sound.1.stands

pub kid_of_spawn : (s : List Event) (task code child cont : ℕ) (args : List Value) (at v : Strand) → v.future ≡ at.future
    → Belongs s task at (Spawns code child v.number cont args) v
kid_of_spawn s task code child cont args at v is =
    belongs_by s task at (Spawns code child v.number cont args) v (λ sound here. (
      (let k : v.number ≡ next_strand (reverse s) = sound.1.acts.1 in omega (arith, k)),
      is ∙ acting (reverse s) task at _ sound here ∙ sym (ap (λ b. if b then future_of (reverse s) task else home_of (reverse s)
          v.number) (or_left v.number cont)),
    ))

pub cont_of_spawn : (s : List Event) (task code child kid : ℕ) (args : List Value) (at v : Strand) → v.future ≡ at.future
    → Belongs s task at (Spawns code child kid v.number args) v
cont_of_spawn s task code child kid args at v is =
    belongs_by s task at (Spawns code child kid v.number args) v (λ sound here. (
      (let k : kid ≡ next_strand (reverse s) = sound.1.acts.1 in let y : v.number ≡ kid + 1 = sound.1.acts.2 in omega (arith, k, y)),
      is ∙ acting (reverse s) task at _ sound here ∙ sym (ap (λ b. if b then future_of (reverse s) task else home_of (reverse s)
          v.number) (or_right v.number kid)),
    ))

pub kid_of_create : (s : List Event) (task code child cont : ℕ) (args : List Value) (at v : Strand) → v.future ≡ child
    → Belongs s task at (Creates code child v.number cont args) v
kid_of_create s task code child cont args at v is =
    belongs_by s task at (Creates code child v.number cont args) v (λ sound here. (
      (let k : v.number ≡ next_strand (reverse s) = sound.1.acts.1 in omega (arith, k)),
      is ∙ sym (if_self v.number child (if v.number == cont then future_of (reverse s) task else home_of (reverse s) v.number)),
    ))

pub cont_of_create : (s : List Event) (task code child kid : ℕ) (args : List Value) (at v : Strand) → v.future ≡ at.future
    → Belongs s task at (Creates code child kid v.number args) v
cont_of_create s task code child kid args at v is =
    belongs_by s task at (Creates code child kid v.number args) v (λ sound here. (
    let k : kid ≡ next_strand (reverse s) = sound.1.acts.1 in
    let y : v.number ≡ kid + 1 = sound.1.acts.2 in
    let own = future_of (reverse s) task in
    let ne : v.number ≢ kid = (λ e. absurd (omega (arith, e, y))) in (
      omega (arith, k, y),
      is ∙ acting (reverse s) task at _ sound here ∙ sym (if_off v.number kid child _ ne ∙ if_self v.number own (home_of (reverse s) v.number)),
    )))

pub of_sync : (s : List Event) (task : ℕ) (at v : Strand) → v.future ≡ at.future → Belongs s task at (Syncs v.number) v
of_sync s task at v is =
    belongs_by s task at (Syncs v.number) v (λ sound here. (
      (let k : v.number ≡ next_strand (reverse s) = sound.1.acts.0 in omega (arith, k)),
      is ∙ acting (reverse s) task at _ sound here ∙ sym (if_self v.number (future_of (reverse s) task) (home_of (reverse s) v.number)),
    ))

pub of_get : (s : List Event) (task future : ℕ) (value : Value) (at v : Strand) → v.future ≡ at.future → Belongs s task at (Gets future value v.number) v
of_get s task future value at v is =
    belongs_by s task at (Gets future value v.number) v (λ sound here. (
      (let k : v.number ≡ next_strand (reverse s) = sound.1.acts.0 in omega (arith, k)),
      is ∙ acting (reverse s) task at _ sound here ∙ sym (if_self v.number (future_of (reverse s) task) (home_of (reverse s) v.number)),
    ))
