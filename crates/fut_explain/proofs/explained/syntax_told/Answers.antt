use Rattle.std.specs.Prelude.{codes}
use Rattle.fut_explain.specs.Lines.{marked_text}
use Rattle.fut_explain.specs.Explained.{place_text, kind_lines}
use Rattle.fut_explain.proofs.Telling.{five_parts}
use Rattle.fut_explain.proofs.explained.syntax_told.Goals as goal

pub returns : goal.returns
returns c =
    five_parts c.new-out.result.items c.push_place.new.out.items c.extend_from_slice.new.self.items c.push.new.out.items
    c.extend_from_slice-2.new.self.items c.push_kinds.new.out.items (place_text c.args.place) (codes ": no program goes on so\n")
    (marked_text c.args.mark) (codes "what can stand here:\n") (kind_lines c.args.found.now) c.new-out.ensures.items c.in_ok-push_place.ensures
    c.in_ok-extend_from_slice.ensures.items c.in_ok-push.ensures c.in_ok-extend_from_slice-2.ensures.items c.in_ok-push_kinds.ensures
