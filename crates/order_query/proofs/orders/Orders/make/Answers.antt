use Rattle.std.proofs.Common.{ℕ, ◌-◌, ◌*◌, List, [], ◌∙◌, sym, subst}
use Rattle.atomic_table.specs.Table.{opening}
use Rattle.order_query.specs.Plays.{first_writer}
use Rattle.order_query.specs.Rule.{OrderRule}
use Rattle.order_query.proofs.Landing.{kept_first}
use Rattle.order_query.proofs.orders.Orders.make.Goals as goal

pub of_words-requires : goal.of_words-requires
of_words-requires c =
    subst (λ (ws : List ℕ). OrderRule (opening ws [] (first_writer (2 * (c.args.capacity - 1))))) (sym (c.as_slice.ensures.value ∙ c.in_ok-words.ensures))
    (kept_first c.args.capacity c.requires)
