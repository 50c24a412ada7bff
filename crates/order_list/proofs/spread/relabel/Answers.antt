use Rattle.std.proofs.Common.{◌≡◌, ◌+◌, ◌≤◌, length, Some, sym, subst}
use Rattle.std.specs.Prelude.{slice_index}
use Rattle.order_list.specs.Chain.{walk, Keeps}
use Rattle.order_list.specs.Ordered.{high_by, next_of}
use Rattle.order_list.specs.Labels.{IsSpread, base_of, gap_of}
use Rattle.order_list.specs.Spans.{set_evenly}
use Rattle.order_list.proofs.Spreading.{route, labels_are, keeps', spread', between'}
use Rattle.order_list.proofs.spread.relabel.Goals as goal

pub spread-requires : goal.spread-requires
spread-requires c =
    let f = c.window-window.ensures.found in
    record {
      route = (
        f.span.items,
        f.span.ahead,
        route c.args.labels.now c.args.nexts.now c.args.prevs.now _ c.args.x c.window-window.result
            c.requires.kept c.requires.x_in f,
      );
    }

-- the new labels
new_is : (c : goal.After-slice_known-2-1)
    → c.spread.new.labels
    ≡ set_evenly c.args.labels.now (base_of c.window-window.ensures.found.size (slice_index c.args.labels.now c.args.x))
    (gap_of c.window-window.ensures.found.size (length c.window-window.ensures.found.span.items)) c.window-window.ensures.found.span.items
new_is c =
    let f = c.window-window.ensures.found in
    let labels = c.args.labels.now in
    let way = route labels c.args.nexts.now c.args.prevs.now _ c.args.x c.window-window.result c.requires.kept c.requires.x_in f in
    labels_are labels c.args.nexts.now c.args.prevs.now _ c.args.x c.window-window.result c.requires.kept c.requires.x_in f c.spread.new.labels
    (c.spread.ensures f.span.items f.span.ahead way)

pub returns-clause-kept : goal.returns-clause-kept
returns-clause-kept c =
    let order = walk c.args.nexts.now (length c.args.nexts.now) (Some 0) in
    subst (λ l. Keeps l c.args.nexts.now c.args.prevs.now order) (sym (new_is c))
    (keeps' c.args.labels.now c.args.nexts.now c.args.prevs.now order c.args.x c.window-window.result c.requires.kept c.requires.x_in
    c.window-window.ensures.found)

pub returns-clause-spread : goal.returns-clause-spread
returns-clause-spread c =
    let order = walk c.args.nexts.now (length c.args.nexts.now) (Some 0) in
    subst (λ l. IsSpread c.args.labels.now order c.args.x c.window-window.result l) (sym (new_is c))
    (spread' c.args.labels.now c.args.nexts.now c.args.prevs.now order c.args.x c.window-window.result c.requires.kept c.requires.x_in
    c.window-window.ensures.found)

pub returns-clause-between : goal.returns-clause-between
returns-clause-between c =
    let order = walk c.args.nexts.now (length c.args.nexts.now) (Some 0) in
    subst (λ l. slice_index l c.args.x + 2 ≤ high_by l (next_of c.args.x order)) (sym (new_is c))
    (between' c.args.labels.now c.args.nexts.now c.args.prevs.now order c.args.x c.window-window.result c.requires.kept c.requires.x_in
    c.window-window.ensures.found)
