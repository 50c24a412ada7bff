use Rattle.std.proofs.Common.{◌≡◌, ◌<◌, ◌∙◌, ℕ, List, [], ◌∷◌, ◌++◌, sym, subst}
use Rattle.atomic_table.specs.Seated.{TableId}
use Rattle.atomic_table.specs.Table.{Allows}
use Rattle.order_query.specs.Rule.{OrderRule}
use Rattle.order_query.specs.Plays.{after_store}
use Rattle.order_query.proofs.Keeping.{writes}
use Rattle.order_query.proofs.orders.Orders.count.Goals as goal

pub store-requires : goal.store-requires
store-requires g c =
    let v = c.args.seat.now.me.0 in
    let id = c.args.seat.now.id in
    let slots = c.self.inside.table.shared.table_id.slots in
    let new = c.args.count in
    let log = v.log ++ g.N.Naming.insert ∷ [] in
    let P : List (ℕ × Unit {0}) → Type 0 = λ taken. Allows OrderRule slots id (v, taken) 1 (λ _. new) (λ _ w. w ≡ (after_store v 1 new log, taken)) in (
      c.requires.home ∙ sym c.self.view_is,
      subst (λ (z : TableId). 1 < z.words) (sym c.self.view_is) c.requires.words,
      subst P (sym c.requires.alone) (writes slots id 1 new v log c.requires.writes c.requires.may),
    )
