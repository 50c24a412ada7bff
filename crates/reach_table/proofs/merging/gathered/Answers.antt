use Rattle.std.proofs.Common.{List, refl, subst, sym, ap}
use Rattle.std.specs.Prelude.{◌↔◌}
use Rattle.fut_base.specs.Dag.{Among}
use Rattle.strand_tree.specs.declared.strand.Strand.{Strand}
use Rattle.reach_table.specs.Merging.{together}
use Rattle.reach_table.proofs.Putting.{with_last, with_none}
use Rattle.reach_table.proofs.merging.gathered.Goals as goal
use Rattle.reach_table.proofs.merging.gathered.Goals.{in-Some+in_ok-put_in-in-Some, in-None}

pub returns-clause-strands : goal.returns-clause-strands
returns-clause-strands c =
    let P : List Strand → Type 0 = λ l. (w : Strand) → Among w l ↔ Among w (together c.args.one.now c.args.other.now c.args.last) in
    elim c.match-last.branch [
      | in-Some+in_ok-put_in-in-Some w ↦ subst P (sym (ap (λ v. v.items) w.all-is))
          (with_last c.args.one.now c.args.other.now c.in_ok-all.all.items c.in_ok-all.all.items w.put_in.new.all.items c.args.last w.in-Some.last
          w.in-Some.is c.in_ok-all.ensures.strands refl w.in_ok-put_in-in-Some.ensures.strands)
      | in-None w ↦ subst P (sym (ap (λ v. v.items) w.all-is))
          (with_none c.args.one.now c.args.other.now c.in_ok-all.all.items c.args.last w.in-None.is c.in_ok-all.ensures.strands)
    ]
