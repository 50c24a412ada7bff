use Rattle.std.proofs.Common.{◌∙◌, true, ap, sym, subst, refl, arith, option_to_list}
use Rattle.std.proofs.lemmas.Result.{err_from_is_err_and}
use Rattle.access_shards.specs.Finding.{FindsLast}
use Rattle.reach_table.proofs.Reaching.{moved_on}
use Rattle.access_shards.proofs.Replaced.{read_at}
use Rattle.access_shards.specs.declared.kept.Kept.TheVariants.{Found}
use Rattle.access_shards.specs.Logged.{Logged, KeepsOneMore, reads_of}
use Rattle.access_shards.specs.Kept.{reading}
use Rattle.access_shards.proofs.Counts.{asks_few, asks_none, asks_nothing}
use Rattle.access_shards.proofs.Logging.{known_writer, known_readers, found_stays, read_finds, read_keeps, strands_stay}
use Rattle.access_shards.proofs.log.CellLog.read.Goals as goal

pub unreached_writer-requires-clause-writer_known : goal.unreached_writer-requires-clause-writer_known
unreached_writer-requires-clause-writer_known g c =
    known_writer (g.J.Judge.known c.args.judge.now) c.args.self.now.kept c.in-Clean.writer c.in-Clean.readers
    (ap (λ v. v.kept) (sym c.self.view_is) ∙ c.in-Clean.is) c.requires.kept_known

pub returns-in-Some-clause-kept : goal.returns-in-Some-clause-kept
returns-in-Some-clause-kept g c =
    read_finds c.args.reach.now c.args.at c.args.place _ _ _ c.args.self.now c.in-Clean.writer c.in-Clean.readers
    (ap (λ v. v.kept) (sym c.self.view_is) ∙ c.in-Clean.is) c.in-Some.first _
    (subst (λ o. FindsLast c.args.reach.now c.args.at (g.J.Judge.known c.args.judge.now) (g.J.Judge.english c.args.judge.now)
    (g.J.Judge.hebrew c.args.judge.now) (option_to_list c.in-Clean.writer) o) c.in-Some.is c.in_ok-first.ensures.finds)
    refl c.new.ensures.items

pub keep_read-requires-clause-kept_known : goal.keep_read-requires-clause-kept_known
keep_read-requires-clause-kept_known g c = λ a h.
    let k = known_readers (g.J.Judge.known c.args.judge.now) c.args.self.now.kept c.in-Clean.writer c.in-Clean.readers
    (ap (λ v. v.kept) (sym c.self.view_is) ∙ c.in-Clean.is) c.requires.kept_known a h in
    omega (arith, k, c.unreached_writer.ensures.judge.known)

pub returns-in_err-self-inside-clause-moved : goal.returns-in_err-self-inside-clause-moved
returns-in_err-self-inside-clause-moved g c =
    let p = err_from_is_err_and c.from_residual-in_err-self-inside.result c.from_residual-in_err-self-inside.ensures.1 in
    rw (p.1, p.2) (moved_on g.J.Judge _ c.unreached_writer.ensures.judge c.in_err-self-inside.ensures.moved)

pub returns-clause-kept : goal.returns-clause-kept
returns-clause-kept g c =
    let e = c.unreached_writer.ensures.judge in
    let K = g.J.Judge.known c.args.judge.now in
    let E = g.J.Judge.english c.args.judge.now in
    let H = g.J.Judge.hebrew c.args.judge.now in
    read_keeps c.args.reach.now c.args.at c.args.place K E H c.args.self.now c.in-Clean.writer c.in-Clean.readers
    (ap (λ v. v.kept) (sym c.self.view_is) ∙ c.in-Clean.is)
    (subst (λ o. FindsLast c.args.reach.now c.args.at K E H (option_to_list c.in-Clean.writer) o) c.in_default-2.is c.in_ok-first.ensures.finds)
    c.keep_read.new.readers _
    (read_at c.args.reach.now (record { place = c.args.place; strand = c.args.at }) K _ E H _ _ c.in-Clean.readers.items c.keep_read.new.readers.items
    c.args.self.now.rise _ c.in_ok-self-inside.field-0 c.args.self.now.sorted _ c.keep_read.new.sorted.items
    e.known e.english e.hebrew (ap (λ v. v.rise) c.self.view_is) (ap (λ v. v.sorted) c.self.view_is) c.in_ok-self-inside.ensures.keeps) refl

pub returns-clause-strands : goal.returns-clause-strands
returns-clause-strands g c =
    strands_stay c.args.at c.args.place c.args.self.now.kept c.in-Clean.writer c.in-Clean.readers c.keep_read.new.readers
    (ap (λ v. v.kept) (sym c.self.view_is) ∙ c.in-Clean.is) c.keep_read.ensures.those

pub returns-in-Some-clause-few : goal.returns-in-Some-clause-few
returns-in-Some-clause-few g c =
    asks_none c.args.reach.now c.args.at c.args.place reading (g.J.Judge.known c.args.judge.now) (g.J.Judge.english c.args.judge.now)
    (g.J.Judge.hebrew c.args.judge.now) c.args.self.now
    (record { kept = Found c.in-Some.first c.args.place; room = 0; rise = true; sorted = c.new.result.items })
    (g.J.Judge.asked c.args.judge.now) (g.J.Judge.asked c.unreached_writer.new.judge) c.unreached_writer.ensures.asks refl refl

pub returns-clause-few : goal.returns-clause-few
returns-clause-few g c =
    let same = ap (λ v. v.kept) (sym c.self.view_is) ∙ c.in-Clean.is in
    asks_few c.args.reach.now c.args.at c.args.place reading (g.J.Judge.known c.args.judge.now) (g.J.Judge.english c.args.judge.now)
    (g.J.Judge.hebrew c.args.judge.now) c.args.self.now _ c.self.inside.rise c.in-Clean.readers.items c.self.inside.sorted.items
    (ap (λ v. v.rise) c.self.view_is) (ap reads_of (sym same)) (ap (λ v. v.sorted) c.self.view_is)
    (g.J.Judge.asked c.args.judge.now) (g.J.Judge.asked c.unreached_writer.new.judge) (g.J.Judge.asked c.keep_read.new.judge)
    c.unreached_writer.ensures.asks (returns-clause-kept g c)
    (λ l few. c.in_ok-self-inside.ensures.listed l (omega (arith, few, c.self.inside.sorted.ok.0, c.in-Clean.readers.ok.0)))
    (λ l few. c.in_ok-self-inside.ensures.halves l (omega (arith, few, c.self.inside.sorted.ok.0, c.in-Clean.readers.ok.0)))

pub returns-in_default-clause-kept : goal.returns-in_default-clause-kept
returns-in_default-clause-kept g c =
    let K = g.J.Judge.known c.args.judge.now in
    let E = g.J.Judge.english c.args.judge.now in
    let H = g.J.Judge.hebrew c.args.judge.now in
    subst (λ (l : Logged). KeepsOneMore c.args.reach.now c.args.at c.args.place reading K E H c.args.self.now l) (sym c.self.view_is)
    (found_stays c.args.reach.now c.args.at c.args.place K E H reading c.args.self.now c.in_default.field-0 c.in_default.field-1
    (ap (λ v. v.kept) (sym c.self.view_is) ∙ c.in_default.is))
