use Rattle.std.proofs.Common.{ℕ, ◌≡◌, ◌/◌, refl, ap, sym, ◌∙◌, subst}
use Rattle.std.specs.Prelude.{slice_set, slice_get, Some}
use Rattle.std.proofs.lemmas.Option.{slice_get_read}
use Rattle.run_shard.specs.Shards.{ShardNow}
use Rattle.run_shard.proofs.Setting.{on_ok}
use Rattle.run_shard.proofs.Shifting.{cell_there, roomed_shard, room_for}
use Rattle.run_shard.proofs.shard.Shard.reserve.Goals as goal

pub invariant_of-self : goal.invariant_of-self
invariant_of-self g c =
    let s : ShardNow = record { holder = c.self.inside.holder; reader = c.self.inside.reader; values = c.self.inside.values.items; logs = c.self.inside.logs.items } in
    let k : ℕ = c.args.cell / 8 in
    let lt = cell_there g.J.Run.clock g.J.Run.orders g.J.Run.code g.row.I s c.args.cell c.self.invariant c.requires.cell in
    let there = slice_get_read s.logs _ k c.index_mut.result.now refl lt c.index_mut.ensures.value in
    roomed_shard g.J.Run.clock g.J.Run.orders g.J.Run.code g.row.I s c.self.invariant k c.index_mut.result.now c.reserve.new.self there
    (record { kept = c.reserve.ensures.kept; rise = c.reserve.ensures.rise; sorted = c.reserve.ensures.sorted })

pub returns-clause-room : goal.returns-clause-room
returns-clause-room g c =
    let s : ShardNow = record { holder = c.self.inside.holder; reader = c.self.inside.reader; values = c.self.inside.values.items; logs = c.self.inside.logs.items } in
    let k : ℕ = c.args.cell / 8 in
    let lt = cell_there g.J.Run.clock g.J.Run.orders g.J.Run.code g.row.I s c.args.cell c.self.invariant c.requires.cell in
    let there = slice_get_read s.logs _ k c.index_mut.result.now refl lt c.index_mut.ensures.value in
    on_ok c.reserve.result _ _ c.reserve.ensures.room
    (λ room. room_for c.args.self.now (record s { logs = slice_set s.logs k c.reserve.new.self }) c.args.cell c.index_mut.result.now c.reserve.new.self
    (subst (λ (x : ShardNow). slice_get x.logs k ≡ Some c.index_mut.result.now) c.self.view_is there) (ap (λ (x : ShardNow). slice_set x.logs k c.reserve.new.self) c.self.view_is) c.reserve.ensures.kept room)
