use Rattle.std.proofs.Common.{◌≡◌, ◌≤◌}
use Rattle.std.specs.Prelude.{ℕ, Some, slice_get, slice_set}
use Rattle.run_book.specs.Lines.{LineNow}
use Rattle.run_book.proofs.Changing.{same_lines}
use Rattle.run_book.proofs.Settling.{on_ok, room_lines, room_here, no_line}
use Rattle.run_book.proofs.line.room_for_child.Goals as goal

pub returns-then-place-lines-clause-same : goal.returns-then-place-lines-clause-same
returns-then-place-lines-clause-same g c =
    room_lines c.args.task c.args.lines.now c.index-lines-place.result c.reserve.new.self c.if-place-lines.true c.reserve.ensures.same

pub returns-then-place-lines-clause-room : goal.returns-then-place-lines-clause-room
returns-then-place-lines-clause-room g c =
    on_ok c.reserve.result (1 ≤ c.reserve.new.self.room)
    ((l : LineNow) → slice_get (slice_set c.args.lines.now c.args.task c.reserve.new.self) c.args.task ≡ Some l → 1 ≤ l.room) c.reserve.ensures.room
    (λ room l at. room_here c.args.task c.args.lines.now c.reserve.new.self l c.if-place-lines.true room at)

pub returns-else-place-lines-clause-same : goal.returns-else-place-lines-clause-same
returns-else-place-lines-clause-same g c = same_lines c.args.lines.now

pub returns-else-place-lines-clause-room : goal.returns-else-place-lines-clause-room
returns-else-place-lines-clause-room g c = λ l at. absurd (no_line c.args.task c.args.lines.now l c.if-place-lines.false at)
