use Rattle.std.proofs.Common.{◌∙◌, sym}
use Rattle.std.proofs.lemmas.List.{length-map}
use Rattle.fut_base.specs.Events.{event_of}
use Rattle.race_report.proofs.brief.write_counts.Goals as goal

pub returns : goal.returns
returns g c =
    rw (c.tasks.ensures, c.futures.ensures, c.len.ensures ∙ sym (length-map c.args.history.now.items event_of), c.len-2.ensures) at c.write_pieces.ensures
