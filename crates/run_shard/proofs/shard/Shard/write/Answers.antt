use Rattle.std.proofs.Common.{rules, w64, to_z, of_z, ℕ, ◌≡◌, ◌/◌, ◌+◌, List, refl, ap, sym, ◌∙◌, subst, arith}
use Rattle.std.specs.Prelude.{slice_get, slice_set, Some, ℤ}
use Rattle.std.proofs.lemmas.Int.{ints}
use Rattle.std.proofs.lemmas.Option.{slice_get_read}
use Rattle.fut_base.specs.declared.event.Event.{Event}
use Rattle.fut_base.specs.declared.event.Action.TheVariants.{Writes}
use Rattle.task_machine.specs.State.{ToWrite}
use Rattle.task_code.specs.Tasks.{TaskNow}
use Rattle.strand_tree.specs.declared.strand.Strand.{Strand}
use Rattle.access_shards.specs.Logged.{Logged}
use Rattle.event_clock.specs.Seated.{Seated}
use Rattle.run_place.specs.Placed.{Placed}
use Rattle.run_book.specs.Jobs.{Stands}
use Rattle.run_shard.specs.declared.did.Did.{Did}
use Rattle.run_shard.specs.declared.did.Did.TheVariants as did
use Rattle.run_shard.specs.Shards.{ShardNow}
use Rattle.run_shard.specs.Turns.{HasMade, IsAdded, IsUnmade}
use Rattle.run_shard.specs.Dids.{HasWritten, LearnsBy}
use Rattle.run_shard.proofs.Shifting.{cell_there, cell_number, reader_knows, write_shard, unmade_shard, has_written, kept_values, event_at, event_as}
use Rattle.run_shard.proofs.shard.Shard.write.Goals as goal

pub access-did-requires-clause-wish : goal.access-did-requires-clause-wish
access-did-requires-clause-wish g c =
    let back : ℤ = to_z w64 (of_z w64 c.args.value) in
    let whole : back ≡ c.args.value = search (rules, ints) in
    subst (λ z. Stands g.J.Run.code c.args.task.now (λ P w. w ≡ ToWrite c.args.cell z)) (sym whole) c.requires.wish

pub access-did-requires-clause-known : goal.access-did-requires-clause-known
access-did-requires-clause-known g c =
    let clock = g.J.Run.clock in
    let orders = g.J.Run.orders in
    let code = g.J.Run.code in
    let i = g.row.I in
    let s : ShardNow = record { holder = c.self.inside.holder; reader = c.self.inside.reader; values = c.self.inside.values.items; logs = c.self.inside.logs.items } in
    let k : ℕ = c.args.cell / 8 in
    let l = c.index_mut.result.now in
    let lt = cell_there clock orders code i s c.args.cell c.self.invariant c.requires.cell in
    let there : slice_get s.logs k ≡ Some l = slice_get_read s.logs _ k l refl lt c.index_mut.ensures.value in
    reader_knows clock orders code i s c.self.invariant k l there

-- what was made by an access that was not made
unmade : (bound : ℕ) (e : Event) (at : Strand) (h h' : Seated) (l l' : Logged) (t t' : TaskNow) (d : Did) → (d ≡ did.Done → ⊥) → HasMade bound e at h h' l l' t t' d
    → IsUnmade h h' l l' t t'
unmade bound e at h h' l l' t t' did.Done not made = absurd (not refl)
unmade bound e at h h' l l' t t' (did.Spent ticket) not made = made.2
unmade bound e at h h' l l' t t' did.NoMemory not made = made

pub invariant_of-self : goal.invariant_of-self
invariant_of-self g c =
    let clock = g.J.Run.clock in
    let orders = g.J.Run.orders in
    let code = g.J.Run.code in
    let i = g.row.I in
    let s : ShardNow = record { holder = c.self.inside.holder; reader = c.self.inside.reader; values = c.self.inside.values.items; logs = c.self.inside.logs.items } in
    let cell = c.args.cell in
    let k : ℕ = cell / 8 in
    let l = c.index_mut.result.now in
    let lt = cell_there clock orders code i s cell c.self.invariant c.requires.cell in
    let there : slice_get s.logs k ≡ Some l = slice_get_read s.logs _ k l refl lt c.index_mut.ensures.value in
    let h' = c.access-did.new.holder in
    let r' = c.access-did.new.reader in
    let l' = c.access-did.new.log in
    let t = c.args.task.now in
    let t' = c.access-did.new.task in
    let p = c.args.place.now in
    let d = c.access-did.result in
    let same = c.self.invariant.size.0 in
    let strand : c.place.inside.at.number ≡ p.at.number = ap (λ (q : Placed). q.at.number) c.place.view_is in
    let back : ℤ = to_z w64 (of_z w64 c.args.value) in
    let e : Event = event_at c.number.result c.place.inside.at.number (Writes cell back) in
    let made : IsAdded clock.size.bound e p.at s.holder h' l l' t t' = subst (λ x. HasMade clock.size.bound e p.at s.holder h' l l' t t' x) c.in-Done.is c.access-did.ensures.made in
    write_shard clock orders code clock.size.bound i k cell s h' r' l l' t t' e p.at c.self.invariant there c.access-did.ensures.turned c.requires.cell.0
    (cell_number code i cell c.requires.cell) strand back refl (omega (arith, lt, same)) made

pub invariant_of-self-in_default : goal.invariant_of-self-in_default
invariant_of-self-in_default g c =
    let clock = g.J.Run.clock in
    let orders = g.J.Run.orders in
    let code = g.J.Run.code in
    let i = g.row.I in
    let s : ShardNow = record { holder = c.self.inside.holder; reader = c.self.inside.reader; values = c.self.inside.values.items; logs = c.self.inside.logs.items } in
    let cell = c.args.cell in
    let k : ℕ = cell / 8 in
    let l = c.index_mut.result.now in
    let lt = cell_there clock orders code i s cell c.self.invariant c.requires.cell in
    let there : slice_get s.logs k ≡ Some l = slice_get_read s.logs _ k l refl lt c.index_mut.ensures.value in
    let h' = c.access-did.new.holder in
    let r' = c.access-did.new.reader in
    let l' = c.access-did.new.log in
    let t = c.args.task.now in
    let t' = c.access-did.new.task in
    let p = c.args.place.now in
    let d = c.access-did.result in
    let same = c.self.invariant.size.0 in
    let strand : c.place.inside.at.number ≡ p.at.number = ap (λ (q : Placed). q.at.number) c.place.view_is in
    let back : ℤ = to_z w64 (of_z w64 c.args.value) in
    let e : Event = event_at c.number.result c.place.inside.at.number (Writes cell back) in
    unmade_shard clock orders code clock.size.bound i k cell s h' r' l l' t t' e p.at c.self.invariant there c.access-did.ensures.turned c.requires.cell.0
    (cell_number code i cell c.requires.cell) strand (unmade clock.size.bound e p.at s.holder h' l l' t t' d c.in_default.not-Done c.access-did.ensures.made)

pub returns-in-Done-clause-did : goal.returns-in-Done-clause-did
returns-in-Done-clause-did g c =
    let clock = g.J.Run.clock in
    let orders = g.J.Run.orders in
    let code = g.J.Run.code in
    let i = g.row.I in
    let s : ShardNow = record { holder = c.self.inside.holder; reader = c.self.inside.reader; values = c.self.inside.values.items; logs = c.self.inside.logs.items } in
    let cell = c.args.cell in
    let k : ℕ = cell / 8 in
    let l = c.index_mut.result.now in
    let lt = cell_there clock orders code i s cell c.self.invariant c.requires.cell in
    let there : slice_get s.logs k ≡ Some l = slice_get_read s.logs _ k l refl lt c.index_mut.ensures.value in
    let h' = c.access-did.new.holder in
    let r' = c.access-did.new.reader in
    let l' = c.access-did.new.log in
    let t = c.args.task.now in
    let t' = c.access-did.new.task in
    let p = c.args.place.now in
    let d = c.access-did.result in
    let same = c.self.invariant.size.0 in
    let strand : c.place.inside.at.number ≡ p.at.number = ap (λ (q : Placed). q.at.number) c.place.view_is in
    let back : ℤ = to_z w64 (of_z w64 c.args.value) in
    let e : Event = event_at c.number.result c.place.inside.at.number (Writes cell back) in
    let whole : back ≡ c.args.value = search (rules, ints) in
    let told : HasMade clock.size.bound (event_at c.number.result c.place.inside.at.number (Writes cell c.args.value)) p.at s.holder h' l l' t t' d =
    subst (λ z. HasMade clock.size.bound (event_at c.number.result c.place.inside.at.number (Writes cell z)) p.at s.holder h' l l' t t' d) whole c.access-did.ensures.made in
    let made : HasMade clock.size.bound (event_at t.number p.at.number (Writes cell c.args.value)) p.at s.holder h' l l' t t' d =
    subst (λ (x : Event). HasMade clock.size.bound x p.at s.holder h' l l' t t' d)
    (event_as c.number.result t.number c.place.inside.at.number p.at.number (Writes cell c.args.value) c.number.ensures strand) told in
    let after : ℤ → ShardNow = λ z. record { holder = h'; reader = r'; values = slice_set s.values k z; logs = slice_set s.logs k l' } in
    let done : HasMade clock.size.bound (event_at t.number p.at.number (Writes cell c.args.value)) p.at s.holder h' l l' t t' did.Done =
    subst (λ x. HasMade clock.size.bound (event_at t.number p.at.number (Writes cell c.args.value)) p.at s.holder h' l l' t t' x) c.in-Done.is made in
    let learns : LearnsBy did.Done h'.view c.access-did.new.place = subst (λ x. LearnsBy x h'.view c.access-did.new.place) c.in-Done.is c.access-did.ensures.learns in
    let is : HasWritten clock.size.bound i cell c.args.value s (after c.args.value) t p t' c.access-did.new.place did.Done =
    has_written clock.size.bound i k cell s h' r' l l' t t' p c.access-did.new.place (Writes cell c.args.value) there refl c.args.value did.Done refl done
    c.access-did.ensures.place learns in
    subst (λ (x : ShardNow). HasWritten clock.size.bound i cell c.args.value x (after back) t p t' c.access-did.new.place d) c.self.view_is
    (subst (λ z. HasWritten clock.size.bound i cell c.args.value s (after z) t p t' c.access-did.new.place d) (sym whole)
    (subst (λ x. HasWritten clock.size.bound i cell c.args.value s (after c.args.value) t p t' c.access-did.new.place x) (sym c.in-Done.is) is))

pub returns-in_default : goal.returns-in_default
returns-in_default g c =
    let clock = g.J.Run.clock in
    let orders = g.J.Run.orders in
    let code = g.J.Run.code in
    let i = g.row.I in
    let s : ShardNow = record { holder = c.self.inside.holder; reader = c.self.inside.reader; values = c.self.inside.values.items; logs = c.self.inside.logs.items } in
    let cell = c.args.cell in
    let k : ℕ = cell / 8 in
    let l = c.index_mut.result.now in
    let lt = cell_there clock orders code i s cell c.self.invariant c.requires.cell in
    let there : slice_get s.logs k ≡ Some l = slice_get_read s.logs _ k l refl lt c.index_mut.ensures.value in
    let h' = c.access-did.new.holder in
    let r' = c.access-did.new.reader in
    let l' = c.access-did.new.log in
    let t = c.args.task.now in
    let t' = c.access-did.new.task in
    let p = c.args.place.now in
    let d = c.access-did.result in
    let same = c.self.invariant.size.0 in
    let strand : c.place.inside.at.number ≡ p.at.number = ap (λ (q : Placed). q.at.number) c.place.view_is in
    let back : ℤ = to_z w64 (of_z w64 c.args.value) in
    let e : Event = event_at c.number.result c.place.inside.at.number (Writes cell back) in
    let whole : back ≡ c.args.value = search (rules, ints) in
    let told : HasMade clock.size.bound (event_at c.number.result c.place.inside.at.number (Writes cell c.args.value)) p.at s.holder h' l l' t t' d =
    subst (λ z. HasMade clock.size.bound (event_at c.number.result c.place.inside.at.number (Writes cell z)) p.at s.holder h' l l' t t' d) whole c.access-did.ensures.made in
    let made : HasMade clock.size.bound (event_at t.number p.at.number (Writes cell c.args.value)) p.at s.holder h' l l' t t' d =
    subst (λ (x : Event). HasMade clock.size.bound x p.at s.holder h' l l' t t' d)
    (event_as c.number.result t.number c.place.inside.at.number p.at.number (Writes cell c.args.value) c.number.ensures strand) told in
    let after : List ℤ → ShardNow = λ v. record { holder = h'; reader = r'; values = v; logs = slice_set s.logs k l' } in
    let is = has_written clock.size.bound i k cell s h' r' l l' t t' p c.access-did.new.place (Writes cell c.args.value) there refl c.args.value d refl made
    c.access-did.ensures.place c.access-did.ensures.learns in
    record {
      job = c.access-did.ensures.job;
      did = subst (λ (x : ShardNow). HasWritten clock.size.bound i cell c.args.value x (after s.values) t p t' c.access-did.new.place d) c.self.view_is
          (subst (λ v. HasWritten clock.size.bound i cell c.args.value s (after v) t p t' c.access-did.new.place d)
          (kept_values clock.size.bound i k cell s h' r' l l' t t' p c.access-did.new.place (Writes cell c.args.value) there refl c.args.value d c.in_default.not-Done) is);
    }
