use Rattle.std.proofs.Common.{◌≡◌, List, [], ◌∷◌, ◌++◌, true, false, length, take, drop, refl, ap, subst, sym, arith, ◌∙◌, true≢false}
use Rattle.fut_base.specs.Dag.{Among}
use Rattle.access_shards.specs.declared.kept.Access.{Access}
use Rattle.access_shards.specs.Kept.{IsInOrder}
use Rattle.access_shards.specs.Finding.{AllOnKnown}
use Rattle.access_shards.specs.Logged.{in_english}
use Rattle.access_shards.specs.Runs.{EndsIn, AreRun}
use Rattle.access_shards.specs.Replacing.{IsReplaced}
use Rattle.access_shards.proofs.Rising.{among_more}
use Rattle.access_shards.proofs.Replaced.{keeps_end, keeps_copied, keeps_listed}
use Rattle.access_shards.proofs.Counts.{ends_rising, ends_sorted, listed_end, listed_put}
use Rattle.access_shards.proofs.reading.keep_read.Goals.{else-rise-via-then-rise+else-ends_in, else-rise-via-else-rise}
use Rattle.access_shards.proofs.reading.keep_read.Goals as goal

pub find_run-requires-clause-kept_known : goal.find_run-requires-clause-kept_known
find_run-requires-clause-kept_known g c =
    subst (λ (l : List Access). AllOnKnown (g.J.Judge.known c.args.judge.now) l) (sym c.as_slice-then-ends_in.ensures.value) c.requires.kept_known

pub returns-then-run-len-clause-keeps : goal.returns-then-run-len-clause-keeps
returns-then-run-len-clause-keeps g c =
    let old = c.args.readers.now.items in
    let K = g.J.Judge.known c.args.judge.now in
    let E = g.J.Judge.english c.args.judge.now in
    let H = g.J.Judge.hebrew c.args.judge.now in
    let run = c.in_ok-run.run' in
    let all : run.end ≡ length old = omega (arith, c.if-run-len.true, c.len.ensures) in
    keeps_end c.args.reach.now c.args.new K E H old c.replace_end.new.readers.items c.requires.at_known c.requires.kept_known c.args.rise false
    c.args.sorted.now.items c.new.result.items run c.if-rise.true
    (subst (λ (l : List Access). EndsIn c.args.new.strand.future l) c.as_slice.ensures.value (c.ends_in.ensures.tells c.if-ends_in.true))
    (subst (λ (l : List Access). AreRun E H c.args.new.strand false old l run) c.as_slice-then-ends_in-2.ensures.value
    (subst (λ (l : List Access). AreRun E H c.args.new.strand false l c.as_slice-then-ends_in-2.result.now run) c.as_slice-then-ends_in.ensures.value
    c.in_ok-run.ensures.run))
    all c.replace_end.ensures.items c.new.ensures.items

pub returns-then-run-len-clause-those : goal.returns-then-run-len-clause-those
returns-then-run-len-clause-those g c =
    among_more c.in_ok-run.run'.start c.args.readers.now.items c.replace_end.new.readers.items c.args.new c.replace_end.ensures.items

pub returns-then-run-len-clause-listed : goal.returns-then-run-len-clause-listed
returns-then-run-len-clause-listed g c = λ l few.
    listed_end c.args.new.strand.future c.args.rise c.args.readers.now.items c.args.sorted.now.items c.replace_end.new.readers.items c.new.result.items
    c.args.new c.if-rise.true refl
    (among_more c.in_ok-run.run'.start c.args.readers.now.items c.replace_end.new.readers.items c.args.new c.replace_end.ensures.items) l

pub returns-then-ends_in-clause-keeps : goal.returns-then-ends_in-clause-keeps
returns-then-ends_in-clause-keeps g c =
    let old = c.args.readers.now.items in
    let K = g.J.Judge.known c.args.judge.now in
    let E = g.J.Judge.english c.args.judge.now in
    let H = g.J.Judge.hebrew c.args.judge.now in
    let run = c.in_ok-run.run' in
    let after = c.replace_run.new.readers.items in
    keeps_copied c.args.reach.now c.args.new K E H old after c.requires.at_known c.requires.kept_known c.args.rise false
    c.args.sorted.now.items c.replace_run.new.sorted.items run c.if-rise.true
    (subst (λ (l : List Access). EndsIn c.args.new.strand.future l) c.as_slice.ensures.value (c.ends_in.ensures.tells c.if-ends_in.true))
    (subst (λ (l : List Access). AreRun E H c.args.new.strand false old l run) c.as_slice-then-ends_in-2.ensures.value
    (subst (λ (l : List Access). AreRun E H c.args.new.strand false l c.as_slice-then-ends_in-2.result.now run) c.as_slice-then-ends_in.ensures.value
    c.in_ok-run.ensures.run))
    (subst (λ (l : List Access). IsInOrder old → IsReplaced l run.start run.end c.args.new old after) c.copy_sorted.ensures.items c.replace_run.ensures.readers)
    (c.replace_run.ensures.sorted ∙ ap (λ (l : List Access). take run.start l ++ c.args.new ∷ drop run.end l) c.copy_sorted.ensures.items)

pub returns-then-ends_in-clause-listed : goal.returns-then-ends_in-clause-listed
returns-then-ends_in-clause-listed g c = λ l few.
    let old = c.args.readers.now.items in
    let run = c.in_ok-run.run' in
    listed_put c.args.new.strand.future c.args.rise old c.args.sorted.now.items c.replace_run.new.readers.items c.replace_run.new.sorted.items old c.args.new
    run.start run.end (ap (λ b. in_english b old c.args.sorted.now.items) (sym c.if-rise.true))
    (c.replace_run.ensures.sorted ∙ ap (λ (l : List Access). take run.start l ++ c.args.new ∷ drop run.end l) c.copy_sorted.ensures.items) refl l

pub find_run-requires-then-is_listed-clause-kept_known : goal.find_run-requires-then-is_listed-clause-kept_known
find_run-requires-then-is_listed-clause-kept_known g c =
    subst (λ (l : List Access). AllOnKnown (g.J.Judge.known c.args.judge.now) l) (sym c.as_slice-then-is_listed.ensures.value) c.requires.kept_known

pub returns-then-is_listed-clause-keeps : goal.returns-then-is_listed-clause-keeps
returns-then-is_listed-clause-keeps g c =
    let old = c.args.readers.now.items in
    let sorted = c.args.sorted.now.items in
    let K = g.J.Judge.known c.args.judge.now in
    let E = g.J.Judge.english c.args.judge.now in
    let H = g.J.Judge.hebrew c.args.judge.now in
    let run = c.in_ok-run-2.run' in
    let t = c.is_listed.ensures.tells c.if-is_listed.true in
    keeps_listed c.args.reach.now c.args.new K E H old c.replace_run-then-is_listed.new.readers.items c.requires.at_known c.requires.kept_known c.args.rise true
    sorted c.replace_run-then-is_listed.new.sorted.items run (omega (arith, t.1, c.args.sorted.now.ok.0)) t.3
    (subst (λ (l : List Access). AreRun E H c.args.new.strand true old l run) c.as_slice-then-is_listed-2.ensures.value
    (subst (λ (l : List Access). AreRun E H c.args.new.strand true l c.as_slice-then-is_listed-2.result.now run) c.as_slice-then-is_listed.ensures.value
    c.in_ok-run-2.ensures.run))
    c.replace_run-then-is_listed.ensures.readers c.replace_run-then-is_listed.ensures.sorted

pub returns-then-is_listed-clause-listed : goal.returns-then-is_listed-clause-listed
returns-then-is_listed-clause-listed g c = λ l few.
    let old = c.args.readers.now.items in
    let sorted = c.args.sorted.now.items in
    let run = c.in_ok-run-2.run' in
    let t = c.is_listed.ensures.tells c.if-is_listed.true in
    listed_put c.args.new.strand.future c.args.rise old sorted c.replace_run-then-is_listed.new.readers.items c.replace_run-then-is_listed.new.sorted.items
    sorted c.args.new run.start run.end (ap (λ b. in_english b old sorted) (sym t.0)) c.replace_run-then-is_listed.ensures.sorted refl l

pub returns-clause-listed : goal.returns-clause-listed
returns-clause-listed g c = λ l few. absurd (elim c.else-rise.branch [
  | else-rise-via-then-rise+else-ends_in w ↦ true≢false (sym (w.ends_in.ensures.always (subst (λ (x : List Access). EndsIn c.args.new.strand.future x)
      (sym w.as_slice.ensures.value) (ends_rising c.args.new.strand.future c.args.rise c.args.readers.now.items c.args.sorted.now.items w.if-rise.true l)))
      ∙ w.if-ends_in.false)
  | else-rise-via-else-rise w ↦ (
      let k = ends_sorted c.args.new.strand.future c.args.rise c.args.readers.now.items c.args.sorted.now.items w.if-rise.false l in
      true≢false (sym (c.is_listed.ensures.always w.if-rise.false (omega (arith, k.1, c.args.sorted.now.ok.0)) few k.0) ∙ c.if-is_listed.false))
])

pub returns-clause-halves : goal.returns-clause-halves
returns-clause-halves g c = λ l few bits lt. absurd (elim c.else-rise.branch [
  | else-rise-via-then-rise+else-ends_in w ↦ true≢false (sym (w.ends_in.ensures.always (subst (λ (x : List Access). EndsIn c.args.new.strand.future x)
      (sym w.as_slice.ensures.value) (ends_rising c.args.new.strand.future c.args.rise c.args.readers.now.items c.args.sorted.now.items w.if-rise.true l)))
      ∙ w.if-ends_in.false)
  | else-rise-via-else-rise w ↦ (
      let k = ends_sorted c.args.new.strand.future c.args.rise c.args.readers.now.items c.args.sorted.now.items w.if-rise.false l in
      true≢false (sym (c.is_listed.ensures.always w.if-rise.false (omega (arith, k.1, c.args.sorted.now.ok.0)) few k.0) ∙ c.if-is_listed.false))
])
