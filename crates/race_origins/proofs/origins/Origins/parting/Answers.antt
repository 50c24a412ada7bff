use Rattle.std.proofs.Common.{List, Bool, map, ◌∙◌, ap, subst}
use Rattle.fut_base.specs.declared.record.Entry.{Entry}
use Rattle.fut_base.specs.Events.{event_of, events_of}
use Rattle.race_origins.specs.Edges.{ends_of}
use Rattle.race_origins.specs.Parting.{IsLastPlace, has_both}
use Rattle.race_origins.proofs.Partings.{marks_of, parting_of}
use Rattle.race_origins.proofs.origins.Origins.parting.Goals as goal

pub returns : goal.returns
returns c =
    let h = events_of c.args.history.now in
    let one : List Bool = c.in_ok-before_one.before_one.items in
    let other : List Bool = c.in_ok-before_other.before_other.items in
    let found = c.last_of_both-last.result in
    let to_one = marks_of h _ c.args.one one (ap (map ends_of) c.as_slice.ensures.value ∙ c.requires.edges) c.in_ok-before_one.ensures in
    let to_other = marks_of h _ c.args.other other (ap (map ends_of) c.as_slice-2.ensures.value ∙ c.requires.edges) c.in_ok-before_other.ensures in
    let P : List Bool → List Bool → List Entry → Type 0 = λ a b l. IsLastPlace (has_both a b) (map event_of l) found in
    let last : P one other c.args.history.now.items =
    subst (λ l. P one other l) c.as_slice-3.ensures
    (subst (λ b. P one b c.as_slice-3.result.now) c.as_slice-5.ensures.value
    (subst (λ a. P a c.as_slice-5.result.now c.as_slice-3.result.now) c.as_slice-4.ensures.value c.last_of_both-last.ensures)) in
    parting_of h c.args.one c.args.other one other to_one to_other found last
