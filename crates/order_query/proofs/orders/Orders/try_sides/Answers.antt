use Rattle.std.proofs.Common.{rules, ℕ, List, [], ◌∷◌, ◌++◌, ◌∙◌, sym, subst, ap, arith, append_assoc, IfOk}
use Rattle.std.specs.declared.result.Result.{Result}
use Rattle.atomic_table.specs.Table.{Me}
use Rattle.order_list.specs.declared.judge.Sides.{Sides}
use Rattle.order_list.specs.declared.judge.Moved.{Moved}
use Rattle.order_list.specs.Sides.{AreSides}
use Rattle.order_query.specs.declared.view.View.{View}
use Rattle.order_query.specs.Logs.{english_of, hebrew_of}
use Rattle.order_query.specs.Reading.{Reading, AreSidesFrom}
use Rattle.order_query.proofs.Starts.{starts_self}
use Rattle.order_query.proofs.Asking.{asked_sides}
use Rattle.order_query.proofs.orders.Orders.try_sides.Goals as goal
use Rattle.order_query.proofs.orders.Orders.try_sides.Goals.{then-first-second, else-first-second}

pub returns-then-first-eq1-clause-reader : goal.returns-then-first-eq1-clause-reader
returns-then-first-eq1-clause-reader g c =
    let n = c.load_version-first.result in
    let m = c.load_version.result in
    let one = ap (λ (e : Me (Unit {0}) View). e.0.loaded) c.load_version-first.ensures.view in
    let two = ap (λ (e : Me (Unit {0}) View). e.0.loaded) c.load_version.ensures.view in
    let old = ap (λ (r : Reading). r.loaded) c.reader.view_is in
    let all = two ∙ ap (λ (l : List ℕ). l ++ m ∷ []) (one ∙ ap (λ (l : List ℕ). l ++ n ∷ []) old) ∙ append_assoc c.args.reader.now.loaded (n ∷ []) (m ∷ []) in
    record { loads = (n ∷ m ∷ [], all); log = search rules; home = search rules }

pub returns-clause-reader : goal.returns-clause-reader
returns-clause-reader g c =
    let n = c.load_version-first.result in
    let m = c.load_version-second.result in
    let loaded : Me (Unit {0}) View → List ℕ = λ e. e.0.loaded in
    let one = ap loaded c.load_version-first.ensures.view in
    let labels_e = ap loaded c.load_label-english_y.ensures.view ∙ ap loaded c.load_label-english_x.ensures.view in
    let labels = ap loaded c.load_label-hebrew_y.ensures.view ∙ ap loaded c.load_label-hebrew_x.ensures.view ∙ labels_e in
    let two = ap loaded c.load_version-second.ensures.view in
    let old = ap (λ (r : Reading). r.loaded) c.reader.view_is in
    let first = labels ∙ one ∙ ap (λ (l : List ℕ). l ++ n ∷ []) old in
    let all = two ∙ ap (λ (l : List ℕ). l ++ m ∷ []) first ∙ append_assoc c.args.reader.now.loaded (n ∷ []) (m ∷ []) in
    record { loads = (n ∷ m ∷ [], all); log = search rules; home = search rules }

pub returns-clause-stays : goal.returns-clause-stays
returns-clause-stays g c =
    let is : Result Sides Moved → Type 0 = λ result. IfOk result (λ sides. AreSidesFrom sides c.args.x.0 c.args.y.0 c.args.reader.now.log) in
    elim c.if-first-second.branch [
      | then-first-second w ↦ subst is (sym w.result-is)
          (asked_sides c.reader.inside.seat.me.0 c.args.reader.now.log c.load_version-first.result c.load_version-second.result c.args.x.0 c.args.y.0
          c.load_label-english_x.result c.load_label-english_y.result c.load_label-hebrew_x.result c.load_label-hebrew_y.result _ _ _ _ _
          c.load_version-first.ensures.view c.load_label-english_x.ensures.view c.load_label-english_y.ensures.view c.load_label-hebrew_x.ensures.view
          c.load_label-hebrew_y.ensures.view (omega (arith, c.if-first-eq1.false)) w.if-first-second.true c.load_version-second.ensures.moment
          (ap (λ (r : Reading). r.log) c.reader.view_is) c.reader.invariant.earlier c.requires.x_known c.requires.y_known)
      | else-first-second w ↦ subst is (sym w.result-is) tt
    ]

pub returns-clause-sides : goal.returns-clause-sides
returns-clause-sides g c =
    let log = c.args.reader.now.log in
    let is : Result Sides Moved → Type 0 = λ result. IfOk result (λ sides. AreSides sides c.args.x.0 c.args.y.0 (english_of log) (hebrew_of log)) in
    elim c.if-first-second.branch [
      | then-first-second w ↦ subst is (sym w.result-is)
          ((asked_sides c.reader.inside.seat.me.0 c.args.reader.now.log c.load_version-first.result c.load_version-second.result c.args.x.0 c.args.y.0
          c.load_label-english_x.result c.load_label-english_y.result c.load_label-hebrew_x.result c.load_label-hebrew_y.result _ _ _ _ _
          c.load_version-first.ensures.view c.load_label-english_x.ensures.view c.load_label-english_y.ensures.view c.load_label-hebrew_x.ensures.view
          c.load_label-hebrew_y.ensures.view (omega (arith, c.if-first-eq1.false)) w.if-first-second.true c.load_version-second.ensures.moment
          (ap (λ (r : Reading). r.log) c.reader.view_is) c.reader.invariant.earlier c.requires.x_known c.requires.y_known) log (starts_self log))
      | else-first-second w ↦ subst is (sym w.result-is) tt
    ]
