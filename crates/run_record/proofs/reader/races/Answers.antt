use Rattle.std.proofs.Common.{◌≡◌, ◌+◌, ◌-◌, List, [], ◌∷◌, ◌++◌, length, sym, ap, subst, ◌∙◌, append_assoc, arith}
use Rattle.std.proofs.lemmas.Grind.{common_steps}
use Rattle.run_record.specs.RunText.{race_line, race_lines}
use Rattle.run_record.specs.Records.{AreRaces}
use Rattle.run_record.specs.Machine.{Symbol, race_due, races_due}
use Rattle.run_record.specs.Steps.{Steps}
use Rattle.run_record.proofs.Chains.{onward}
use Rattle.run_record.proofs.Rows.{first_goes, races_next, race_lines_more, races_more, length_more}
use Rattle.run_record.proofs.reader.races.Goals as goal

pub loop-preserved : goal.loop-preserved
loop-preserved c =
    let rs = c.loop.all.items in
    let r = c.in_ok-next.next in
    let i = c.loop.counter in
    let many = c.args.many in
    let ys = c.race.new.cursor in
    let items : c.push.new.self.items ≡ rs ++ r ∷ [] = grind (arith, common_steps) in
    let next = subst (λ (s : List Symbol). Steps s c.loop.cursor (races_due (many - (i + 1))) ys) (sym (races_next many i c.loop-test.true))
    (first_goes race_due (races_due (many - (i + 1))) c.in_ok-next.ensures.0) in
    record {
      goes = onward c.loop.invariant.goes next;
      text =
          c.loop.invariant.text ∙ ap (λ q. race_lines rs ++ q) c.in_ok-next.ensures.1 ∙ sym (append_assoc (race_lines rs) (race_line r) ys)
          ∙ ap (λ q. q ++ ys) (sym (race_lines_more rs r) ∙ ap race_lines (sym items));
      count = ap length items ∙ length_more rs r ∙ ap (λ n. n + 1) c.loop.invariant.count;
      raced = subst AreRaces (sym items) (races_more rs r c.loop.invariant.raced c.in_ok-next.ensures.2);
    }
