use Rattle.std.proofs.Common.{rules, w64, to_z, of_z, ℕ, ◌≡◌, ◌/◌, refl, ap, sym, ◌∙◌, subst, arith}
use Rattle.std.specs.Prelude.{slice_get, slice_set, Some, ℤ}
use Rattle.std.proofs.lemmas.Int.{ints}
use Rattle.std.proofs.lemmas.Option.{slice_get_read}
use Rattle.fut_base.specs.declared.event.Event.{Event}
use Rattle.fut_base.specs.declared.event.Action.TheVariants.{Reads}
use Rattle.run_place.specs.Placed.{Placed}
use Rattle.run_shard.specs.Shards.{ShardNow}
use Rattle.run_shard.specs.Turns.{HasMade}
use Rattle.run_shard.specs.Dids.{HasRead}
use Rattle.run_shard.proofs.Shifting.{cell_there, cell_number, reader_knows, event_at, event_as, read_shard, has_read}
use Rattle.run_shard.proofs.shard.Shard.read.Goals as goal

pub access-requires-clause-known : goal.access-requires-clause-known
access-requires-clause-known g c =
    let clock = g.J.Run.clock in
    let orders = g.J.Run.orders in
    let code = g.J.Run.code in
    let i = g.row.I in
    let s : ShardNow = record { holder = c.self.inside.holder; reader = c.self.inside.reader; values = c.self.inside.values.items; logs = c.self.inside.logs.items } in
    let cell = c.args.cell in
    let k : ℕ = cell / 8 in
    let l = c.index_mut.result.now in
    let lt = cell_there clock orders code i s cell c.self.invariant c.requires.cell in
    let there : slice_get s.logs k ≡ Some l = slice_get_read s.logs _ k l refl lt c.index_mut.ensures.value in
    reader_knows clock orders code i s c.self.invariant k l there

pub invariant_of-self : goal.invariant_of-self
invariant_of-self g c =
    let clock = g.J.Run.clock in
    let orders = g.J.Run.orders in
    let code = g.J.Run.code in
    let i = g.row.I in
    let s : ShardNow = record { holder = c.self.inside.holder; reader = c.self.inside.reader; values = c.self.inside.values.items; logs = c.self.inside.logs.items } in
    let cell = c.args.cell in
    let k : ℕ = cell / 8 in
    let l = c.index_mut.result.now in
    let lt = cell_there clock orders code i s cell c.self.invariant c.requires.cell in
    let there : slice_get s.logs k ≡ Some l = slice_get_read s.logs _ k l refl lt c.index_mut.ensures.value in
    let h' = c.access.new.holder in
    let r' = c.access.new.reader in
    let l' = c.access.new.log in
    let t = c.args.task.now in
    let t' = c.access.new.task in
    let p = c.args.place.now in
    let d = c.access.result in
    let value : ℤ = c.index.result.now in
    let same = c.self.invariant.size.0 in
    let at_value : slice_get s.values k ≡ Some value = slice_get_read s.values _ k value refl (omega (arith, lt, same)) c.index.ensures in
    let strand : c.place.inside.at.number ≡ p.at.number = ap (λ (q : Placed). q.at.number) c.place.view_is in
    let back : ℤ = to_z w64 (of_z w64 value) in
    let whole : back ≡ value = search (rules, ints) in
    let made : HasMade clock.size.bound (event_at c.number.result c.place.inside.at.number (Reads cell value)) p.at s.holder h' l l' t t' d =
    subst (λ z. HasMade clock.size.bound (event_at c.number.result c.place.inside.at.number (Reads cell z)) p.at s.holder h' l l' t t' d) whole c.access.ensures.made in
    read_shard clock orders code clock.size.bound i k cell s h' r' l l' t t' (event_at c.number.result c.place.inside.at.number (Reads cell value)) p.at
    c.self.invariant there c.access.ensures.turned c.requires.cell.0 (cell_number code i cell c.requires.cell) strand value d refl at_value
    made

pub returns-clause-did : goal.returns-clause-did
returns-clause-did g c =
    let clock = g.J.Run.clock in
    let orders = g.J.Run.orders in
    let code = g.J.Run.code in
    let i = g.row.I in
    let s : ShardNow = record { holder = c.self.inside.holder; reader = c.self.inside.reader; values = c.self.inside.values.items; logs = c.self.inside.logs.items } in
    let cell = c.args.cell in
    let k : ℕ = cell / 8 in
    let l = c.index_mut.result.now in
    let lt = cell_there clock orders code i s cell c.self.invariant c.requires.cell in
    let there : slice_get s.logs k ≡ Some l = slice_get_read s.logs _ k l refl lt c.index_mut.ensures.value in
    let h' = c.access.new.holder in
    let r' = c.access.new.reader in
    let l' = c.access.new.log in
    let t = c.args.task.now in
    let t' = c.access.new.task in
    let p = c.args.place.now in
    let d = c.access.result in
    let value : ℤ = c.index.result.now in
    let same = c.self.invariant.size.0 in
    let at_value : slice_get s.values k ≡ Some value = slice_get_read s.values _ k value refl (omega (arith, lt, same)) c.index.ensures in
    let strand : c.place.inside.at.number ≡ p.at.number = ap (λ (q : Placed). q.at.number) c.place.view_is in
    let back : ℤ = to_z w64 (of_z w64 value) in
    let whole : back ≡ value = search (rules, ints) in
    let told : HasMade clock.size.bound (event_at c.number.result c.place.inside.at.number (Reads cell value)) p.at s.holder h' l l' t t' d =
    subst (λ z. HasMade clock.size.bound (event_at c.number.result c.place.inside.at.number (Reads cell z)) p.at s.holder h' l l' t t' d) whole c.access.ensures.made in
    let made : HasMade clock.size.bound (event_at t.number p.at.number (Reads cell value)) p.at s.holder h' l l' t t' d =
    subst (λ (x : Event). HasMade clock.size.bound x p.at s.holder h' l l' t t' d)
    (event_as c.number.result t.number c.place.inside.at.number p.at.number (Reads cell value) c.number.ensures strand) told in
    let after : ShardNow = record { holder = h'; reader = r'; values = s.values; logs = slice_set s.logs k l' } in
    subst (λ (x : ShardNow). HasRead clock.size.bound i cell x after t p t' c.access.new.place d) c.self.view_is
    (has_read clock.size.bound i k cell s h' r' l l' t t' p c.access.new.place (Reads cell value) there refl value d refl at_value made c.access.ensures.place
    c.access.ensures.learns)
