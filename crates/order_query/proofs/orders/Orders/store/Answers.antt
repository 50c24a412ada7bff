use Rattle.std.proofs.Common.{◌≡◌, ◌<◌, ◌∙◌, ℕ, List, sym, subst}
use Rattle.atomic_table.specs.Seated.{TableId}
use Rattle.atomic_table.specs.Table.{Allows}
use Rattle.order_query.specs.Rule.{OrderRule}
use Rattle.order_query.specs.Plays.{after_store}
use Rattle.order_query.proofs.Keeping.{writes}
use Rattle.order_query.proofs.orders.Orders.store.Goals as goal

pub store-requires : goal.store-requires
store-requires c =
    let v = c.args.seat.now.me.0 in
    let id = c.args.seat.now.id in
    let slots = c.self.inside.table.shared.table_id.slots in
    let word = c.args.word in
    let new = c.args.new in
    let P : List (ℕ × Unit {0}) → Type 0 = λ taken. Allows OrderRule slots id (v, taken) word (λ _. new) (λ _ w. w ≡ (after_store v word new v.log, taken)) in (
      c.requires.home ∙ sym c.self.view_is,
      subst (λ (z : TableId). word < z.words) (sym c.self.view_is) c.requires.word,
      subst P (sym c.requires.alone) (writes slots id word new v v.log c.requires.writes c.requires.may),
    )
