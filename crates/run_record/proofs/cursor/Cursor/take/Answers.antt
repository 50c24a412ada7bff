use Rattle.std.proofs.Common.{◌++◌, [], refl, sym, ap₂, subst, ◌∙◌, List, ℕ, take-append-drop}
use Rattle.run_record.specs.Machine.{bytes_due}
use Rattle.run_record.specs.declared.cursor.Stop.TheVariants as stop
use Rattle.run_record.specs.Steps.{Steps, Stops}
use Rattle.run_record.proofs.Cursors.{bytes_short, bytes_taken}
use Rattle.run_record.proofs.cursor.Cursor.take.Goals as goal

pub returns-then-count-self : goal.returns-then-count-self
returns-then-count-self c =
    subst (λ (q : List ℕ). Stops (bytes_due c.args.count) q [] stop.Fault) c.self.view_is
    (bytes_short c.args.count c.self.inside.left.now [] c.if-count-self.true refl)

pub returns : goal.returns
returns c =
    let xs = c.self.inside.left.now in
    let n = c.args.count in
    let made = c.split_at.ensures in
    let goes = subst (λ (q : List ℕ). Steps (bytes_due n) xs [] q) (sym made.back) (bytes_taken n xs c.if-count-self.false) in (
      subst (λ (q : List ℕ). Steps (bytes_due n) q [] c.split_at.result.1.now) c.self.view_is goes,
      sym c.self.view_is ∙ sym (take-append-drop n xs) ∙ sym (ap₂ (λ a b. a ++ b) made.front made.back),
      made.front_len,
    )
