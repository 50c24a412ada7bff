use Rattle.std.proofs.Common.{ℕ, List, ◌<◌, ◌∙◌, sym, subst, arith}
use mathlib.Core.Option.{none}
use Rattle.atomic_table.specs.Seated.{TableId}
use Rattle.atomic_table.specs.Table.{Allows, step}
use Rattle.order_query.specs.Rule.{OrderRule}
use Rattle.order_query.specs.Plays.{LoadedLabel}
use Rattle.order_query.proofs.Keeping.{loads_label}
use Rattle.order_query.proofs.orders.Orders.recall.Goals as goal

pub load-requires : goal.load-requires
load-requires c =
    let me = c.args.seat.now.me in
    let id = c.args.seat.now.id in
    let slots = c.self.inside.table.shared.table_id.slots in
    let P : List (ℕ × Unit {0}) → Type 0 = λ taken. Allows OrderRule slots id (me.0, taken) 2 (λ n. n) (LoadedLabel (step slots 2 0 0 none) (me.0, taken)) in (
      c.requires.home ∙ sym c.self.view_is,
      subst (λ (z : TableId). 2 < z.words) (sym c.self.view_is) c.requires.words,
      subst P (sym c.requires.alone) (loads_label slots id 2 me.0 c.requires.reads (omega arith) (omega arith)),
    )
