use Rattle.std.proofs.Common.{◌++◌, ap, ◌∙◌}
use Rattle.std.proofs.lemmas.Result.{err_from_is_err_and}
use Rattle.run_record.specs.Machine.{program_due, history_due, report_due, last_due}
use Rattle.fut_base.specs.Events.{events_of}
use Rattle.run_record.specs.Steps.{program_text, history_text, report_text}
use Rattle.run_record.proofs.Joined.{whole_is}
use Rattle.run_record.proofs.Chains.{first_stops, second_stops, after}
use Rattle.run_record.proofs.reader.whole.Goals as goal

pub returns-in_err-program : goal.returns-in_err-program
returns-in_err-program c =
    let p = err_from_is_err_and c.from_residual.result c.from_residual.ensures.1 in
    rw (p.1, p.2) (first_stops program_due (history_due ++ (report_due ++ last_due)) c.in_err-program.ensures)

pub returns-in_err-history : goal.returns-in_err-history
returns-in_err-history c =
    let p = err_from_is_err_and c.from_residual-in_err-history.result c.from_residual-in_err-history.ensures.1 in
    rw (p.1, p.2)
    (second_stops program_due (history_due ++ (report_due ++ last_due)) c.in_ok-program.ensures.0
    (first_stops history_due (report_due ++ last_due) c.in_err-history.ensures))

pub returns-in_err-races : goal.returns-in_err-races
returns-in_err-races c =
    let p = err_from_is_err_and c.from_residual-in_err-races.result c.from_residual-in_err-races.ensures.1 in
    rw (p.1, p.2) (second_stops program_due (history_due ++ (report_due ++ last_due)) c.in_ok-program.ensures.0
    (second_stops history_due (report_due ++ last_due) c.in_ok-history.ensures.0 (first_stops report_due last_due c.in_err-races.ensures)))

pub returns-in_err-finish : goal.returns-in_err-finish
returns-in_err-finish c =
    let p = err_from_is_err_and c.from_residual-in_err-finish.result c.from_residual-in_err-finish.ensures.1 in
    rw (p.1, p.2) (second_stops program_due (history_due ++ (report_due ++ last_due)) c.in_ok-program.ensures.0
    (second_stops history_due (report_due ++ last_due) c.in_ok-history.ensures.0
    (second_stops report_due last_due c.in_ok-races.ensures.0 c.in_err-finish.ensures)))

pub returns : goal.returns
returns c =
    let p = c.in_ok-program.program.items in
    let es = events_of c.in_ok-history.history in
    let rs = c.in_ok-races.races.items in
    let f = c.in_ok-finish.finish in
    let ys = c.last.new.cursor in (
      after program_due (history_due ++ (report_due ++ last_due)) c.in_ok-program.ensures.0
          (after history_due (report_due ++ last_due) c.in_ok-history.ensures.0 (after report_due last_due c.in_ok-races.ensures.0 c.in_ok-finish.ensures.0)),
      c.in_ok-program.ensures.1
          ∙ ap (λ q. program_text p ++ q)
          (c.in_ok-history.ensures.1 ∙ ap (λ q. history_text es ++ q) (c.in_ok-races.ensures.1 ∙ ap (λ q. report_text rs ++ q) c.in_ok-finish.ensures.1))
          ∙ whole_is p es rs f ys,
      record {
        short = c.in_ok-program.ensures.2;
        few = c.in_ok-history.ensures.2.0;
        numbered = c.in_ok-history.ensures.2.1;
        few_races = c.in_ok-races.ensures.2.0;
        raced = c.in_ok-races.ensures.2.1;
        finished = c.in_ok-finish.ensures.2;
      },
    )
