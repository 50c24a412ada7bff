use Rattle.std.proofs.Common.{length, arith, refl, sym, ap, ◌∙◌, subst, ◌+◌}
use Rattle.std.proofs.lemmas.Option.{slice_get_read}
use Rattle.fut_base.specs.Racing.{IsReport}
use Rattle.race_finder.proofs.Reporting.{IsReportUpTo, report_found, report_clean, report_done}
use Rattle.race_finder.proofs.cells.report.Goals as goal
use Rattle.race_finder.proofs.cells.report.Goals.{in-Found+in_ok-push, in_default}

pub loop-cell-preserved : goal.loop-cell-preserved
loop-cell-preserved c =
    let logs = c.args.logs.now in
    let i = c.loop-cell.cell in
    let l = c.index-logs-cell.result in
    let at = slice_get_read logs (length logs) i l refl (omega arith) c.index-logs-cell.is in
    let races = c.loop-cell.races.items in
    elim c.match-kept.branch [
      | in-Found+in_ok-push w ↦
          report_found logs i races c.match-kept.races.items l (record {
            cell = i;
            first = w.in-Found.first;
            second = w.in-Found.second;
          }) at (sym c.kept.ensures ∙ w.in-Found.is) refl
          (ap (λ v. v.items) w.races-is ∙ w.in_ok-push.ensures.items) c.loop-cell.invariant
      | in_default w ↦
          subst (λ rs. IsReportUpTo logs (i + 1) rs) (sym (ap (λ v. v.items) w.races-is))
          (report_clean logs i races l w.in_default.field-0 w.in_default.field-1 at (sym c.kept.ensures ∙ w.in_default.is) c.loop-cell.invariant)
    ]

pub returns : goal.returns
returns c = λ h a. subst (λ rs. IsReport h rs) (sym (ap (λ v. v.items) c.from_vec.ensures))
    (report_done h c.args.logs.now c.loop-cell.cell c.loop-cell.races.items (omega arith) c.loop-cell.invariant a)
