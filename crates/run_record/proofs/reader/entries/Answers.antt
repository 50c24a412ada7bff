use Rattle.std.proofs.Common.{◌≡◌, ◌+◌, ◌-◌, List, [], ◌∷◌, ◌++◌, length, map, sym, ap, subst, ◌∙◌, append_assoc, arith}
use Rattle.std.proofs.lemmas.Grind.{common_steps}
use Rattle.fut_base.specs.Events.{event_of, events_of}
use Rattle.run_record.specs.RunText.{entry_line, entry_lines}
use Rattle.run_record.specs.Records.{AreEvents}
use Rattle.run_record.specs.Machine.{Symbol, entry_due, entries_due}
use Rattle.run_record.specs.Steps.{Steps}
use Rattle.run_record.proofs.Chains.{onward}
use Rattle.run_record.proofs.Rows.{first_goes, entries_next, entry_lines_more, events_more, map_more, length_more}
use Rattle.run_record.proofs.reader.entries.Goals as goal

pub loop-place-preserved : goal.loop-place-preserved
loop-place-preserved c =
    let es = events_of c.loop-place.all in
    let e = event_of c.in_ok-next.next in
    let i = c.loop-place.place in
    let many = c.args.many in
    let ys = c.entry.new.cursor in
    let items : c.push.new.self.items ≡ c.loop-place.all.items ++ c.in_ok-next.next ∷ [] = grind (arith, common_steps) in
    let events : events_of c.push.new.self ≡ es ++ e ∷ [] = ap (λ q. map event_of q) items ∙ map_more c.loop-place.all.items c.in_ok-next.next in
    let next = subst (λ (s : List Symbol). Steps s c.loop-place.cursor (entries_due (i + 1) (many - (i + 1))) ys)
    (sym (entries_next many i c.loop-place-test.true)) (first_goes (entry_due i) (entries_due (i + 1) (many - (i + 1))) c.in_ok-next.ensures.0) in
    record {
      goes = onward c.loop-place.invariant.goes next;
      text =
          c.loop-place.invariant.text ∙ ap (λ q. entry_lines 0 es ++ q) c.in_ok-next.ensures.1 ∙ sym (append_assoc (entry_lines 0 es) (entry_line i e) ys)
          ∙ ap (λ q. q ++ ys) (sym (entry_lines_more 0 i es e (omega (arith, c.loop-place.invariant.count))) ∙ ap (λ q. entry_lines 0 q) (sym events));
      count = ap length events ∙ length_more es e ∙ ap (λ n. n + 1) c.loop-place.invariant.count;
      numbered = subst AreEvents (sym events) (events_more es e c.loop-place.invariant.numbered c.in_ok-next.ensures.2);
    }
