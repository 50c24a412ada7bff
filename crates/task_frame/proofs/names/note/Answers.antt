use Rattle.std.proofs.Common.{◌≡◌, List, ap, sym, ◌∙◌, arith}
use Rattle.std.specs.Prelude.{Some, None}
use Rattle.task_frame.specs.declared.names.Name.{Name}
use Rattle.task_frame.specs.Names.{find_name}
use Rattle.task_frame.proofs.Gathering.{found_below, widened, has_widened, pushed, has_pushed}
use Rattle.task_frame.proofs.names.note.Goals as goal

pub widen-requires : goal.widen-requires
widen-requires c =
    let names = c.args.names.now.items in
    let found : find_name names c.args.word.now ≡ Some c.in-Some.place =
    ap (λ (l : List Name). find_name l c.args.word.now) (sym c.as_slice.ensures.value) ∙ (sym c.place_in.ensures ∙ c.in-Some.is) in
    let below = found_below 0 names c.args.word.now c.in-Some.place found in
    omega (arith, below)

pub returns-in-Some-clause-has : goal.returns-in-Some-clause-has
returns-in-Some-clause-has c =
    let names = c.args.names.now.items in
    let found : find_name names c.args.word.now ≡ Some c.in-Some.place =
    ap (λ (l : List Name). find_name l c.args.word.now) (sym c.as_slice.ensures.value) ∙ (sym c.place_in.ensures ∙ c.in-Some.is) in
    has_widened names c.widen.new.names.items c.args.word.now c.in-Some.place c.args.room found c.widen.ensures

pub returns-in-Some-clause-more : goal.returns-in-Some-clause-more
returns-in-Some-clause-more c = widened c.args.names.now.items c.widen.new.names.items c.in-Some.place c.args.room c.widen.ensures

pub returns-in_ok-push-in-None-clause-has : goal.returns-in_ok-push-in-None-clause-has
returns-in_ok-push-in-None-clause-has c =
    let names = c.args.names.now.items in
    let none : find_name names c.args.word.now ≡ None =
    ap (λ (l : List Name). find_name l c.args.word.now) (sym c.as_slice.ensures.value) ∙ (sym c.place_in.ensures ∙ c.in-None.is) in
    let d : Name = record { word = c.in_ok-word-in-None.word; room = c.args.room } in
    has_pushed names c.push.new.self.items d c.args.word.now c.in_ok-push-in-None.ensures.items c.in_ok-word-in-None.ensures none

pub returns-in_ok-push-in-None-clause-more : goal.returns-in_ok-push-in-None-clause-more
returns-in_ok-push-in-None-clause-more c =
    let d : Name = record { word = c.in_ok-word-in-None.word; room = c.args.room } in
    pushed c.args.names.now.items c.push.new.self.items d c.in_ok-push-in-None.ensures.items
