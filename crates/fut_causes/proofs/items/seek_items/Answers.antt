use Rattle.std.proofs.Common.{◌≡◌, ◌+◌, ◌∷◌, drop, ap, ◌∙◌, arith}
use Rattle.fut_syntax.specs.Views.{item_tree, items_tree}
use Rattle.fut_rules.specs.Widths.{items_width}
use Rattle.fut_rules.proofs.Drops.{dropped}
use Rattle.fut_causes.specs.Causes.{items_causes}
use Rattle.fut_causes.specs.Seeking.{first}
use Rattle.fut_causes.proofs.Bodies.{items_step}
use Rattle.fut_causes.proofs.items.seek_items.Goals as goal

pub loop-item-preserved : goal.loop-item-preserved
loop-item-preserved c =
    let i = c.loop-item.item-index in
    let g = items_tree c.args.items.now in
    let left : items_tree (drop i c.args.items.now) ≡ item_tree c.item-item.result ∷ items_tree (drop (i + 1) c.args.items.now) =
    ap items_tree (dropped c.args.items.now i c.item-item.result (omega arith) c.item-item.is)
    in
    let met = c.in_ok-seek_item.ensures in
    record {
      end = met.end ∙ c.loop-item.invariant.end;
      wanted = met.wanted ∙ c.loop-item.invariant.wanted;
      at = omega (arith, ap items_width left, met.at);
      found =
          let t = c.args.seek.now.wanted in
          c.loop-item.invariant.found ∙ ap (λ is. first t c.loop-item.seek.found (items_causes g c.loop-item.seek.at is)) left
          ∙ items_step t g c.loop-item.seek c.seek_item.new.seek (item_tree c.item-item.result) (items_tree (drop (i + 1) c.args.items.now))
          c.loop-item.invariant.wanted met;
    }
