use Rattle.std.proofs.Common.{◌≡◌, refl, ◌++◌, ◌∙◌, sym, length}
use Rattle.fut_base.specs.Events.{events_of}
use Rattle.fut_base.specs.declared.ports.Wrote.TheVariants.{Failed}
use Rattle.fut_base.specs.Events.{event_of}
use Rattle.std.proofs.lemmas.List.{length-map}
use Rattle.run_record.specs.RunText.{head_text, entry_lines, end_text}
use Rattle.run_record.proofs.PieceLemmas.{front_then, front_failed}
use Rattle.run_record.proofs.run_text.write_run.Goals as goal

pub returns-in-All-write_entries : goal.returns-in-All-write_entries
returns-in-All-write_entries g c =
    let es = events_of c.args.history.now in
    let count : c.len.result ≡ length es = c.len.ensures ∙ sym (length-map c.args.history.now.items event_of) in
    let end = end_text c.args.races.now.items c.args.finish in
    front_then _ _ _ _ _ _ (head_text c.args.program.now (length es)) (entry_lines 0 es ++ end) _ _ refl (rw count at c.in-All.ensures)
    (front_then _ _ _ _ _ _ (entry_lines 0 es) end _ _ refl c.in-All-write_entries.ensures c.write_end.ensures)

pub returns-in-Failed-write_entries : goal.returns-in-Failed-write_entries
returns-in-Failed-write_entries g c =
    let es = events_of c.args.history.now in
    let count : c.len.result ≡ length es = c.len.ensures ∙ sym (length-map c.args.history.now.items event_of) in
    let end = end_text c.args.races.now.items c.args.finish in
    front_then _ (g.K.Sink.held c.write_program.new.out) _ _ (g.K.Sink.faults c.write_program.new.out) _ (head_text c.args.program.now (length es))
    (entry_lines 0 es ++ end) _ Failed refl (rw count at c.in-All.ensures)
    (front_failed _ _ _ _ (entry_lines 0 es) end _ refl c.in-Failed-write_entries.ensures)

pub returns-in-Failed : goal.returns-in-Failed
returns-in-Failed g c =
    let es = events_of c.args.history.now in
    let count : c.len.result ≡ length es = c.len.ensures ∙ sym (length-map c.args.history.now.items event_of) in
    let end = end_text c.args.races.now.items c.args.finish in
    front_failed _ _ _ _ (head_text c.args.program.now (length es)) (entry_lines 0 es ++ end) _ refl (rw count at c.in-Failed.ensures)
