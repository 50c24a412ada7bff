use Rattle.std.proofs.Common.{ℕ, List, sym, subst}
use mathlib.Core.Option.{none}
use Rattle.atomic_table.specs.Table.{Allows, step}
use Rattle.order_query.specs.Rule.{OrderRule}
use Rattle.order_query.specs.Plays.{LoadedLabel}
use Rattle.order_query.proofs.Keeping.{loads_label}
use Rattle.order_query.proofs.orders.Orders.load_label.Goals as goal

pub load-requires-clause-rule : goal.load-requires-clause-rule
load-requires-clause-rule g c =
    let me = c.args.seat.now.me in
    let id = c.args.seat.now.id in
    let word = c.args.word in
    let slots = c.args.self.now.slots in
    let P : List (ℕ × Unit {0}) → Type 0 = λ taken. Allows OrderRule slots id (me.0, taken) word (λ n. n) (LoadedLabel
    (step slots word 0 0 none) (me.0, taken)) in
    subst P (sym c.requires.alone) (loads_label slots id word me.0 c.requires.reads c.requires.low c.requires.high)
