use Rattle.std.proofs.Common.{◌≡◌, ℕ, List, ◌++◌, length, take, slice_get, Some, subst, sym, ◌∙◌, ap, arith}
use Rattle.std.proofs.Math.Seq.{take-append_seam}
use Rattle.run_book.specs.Lines.{LineNow}
use Rattle.run_book.specs.Turns.{AreSameLines}
use Rattle.run_book.proofs.Changing.{same_lines}
use Rattle.run_book.proofs.forking.spawned.Goals as goal

whole : (n : ℕ) (xs ys : List LineNow) → n ≡ length xs → take n (xs ++ ys) ≡ xs
whole n xs ys size = ap (λ m. take m (xs ++ ys)) size ∙ take-append_seam xs ys

pub returns-in_err-reserve-clause-lines : goal.returns-in_err-reserve-clause-lines
returns-in_err-reserve-clause-lines g c =
    subst (λ l. AreSameLines c.args.lines.now.items l) (sym c.reserve.ensures.items) (same_lines c.args.lines.now.items)

pub returns-clause-child : goal.returns-clause-child
returns-clause-child g c = λ l at.
    let now = c.room_for_child.new.lines in
    let same = c.room_for_child.auto.lines in
    let size = c.as_mut_slice.ensures.len in
    let all = whole c.reserve.new.self.len now _ (omega (arith, same, size)) in
    c.in_ok-room_for_child.ensures.room l
    (subst (λ n. slice_get now n ≡ Some l) (sym c.number.ensures) (subst (λ xs. slice_get xs c.args.task.now.number ≡ Some l) all at))
