use Rattle.std.proofs.Common.{◌≡◌, ◌∙◌, ◌++◌, Some, ap, refl, sym, subst, length}
use Rattle.std.proofs.lemmas.Option.{slice_get_read}
use Rattle.std.proofs.lemmas.List.{append-nil}
use Rattle.std.specs.Prelude.{slice_set}
use Rattle.task_machine.proofs.Places.{get_below}
use Rattle.fut_engine.specs.declared.seat.Seat.{Seat}
use Rattle.fut_engine.specs.Seats.{CanTell, Tells, TellsParent, put_in}
use Rattle.fut_engine.proofs.Lists.{some_same}
use Rattle.fut_engine.proofs.seats.end.Goals as goal

pub returns-in-Some : goal.returns-in-Some
returns-in-Some c =
    let (s, at, none, can) = c.requires in
    let seats = c.args.seats.now in
    let t = c.args.task in
    let p = c.in-Some.parent in
    let new = c.tell_parent.new.seats in
    let first = c.tell_parent.result.items in
    let one : c.index-seats-place.result ≡ s =
    some_same _ s (sym (slice_get_read seats (length seats) t c.index-seats-place.result refl (get_below seats t s at) c.index-seats-place.is) ∙ at) in
    let two : c.index-seats-place-2.result ≡ s =
    some_same _ s (sym (slice_get_read seats (length seats) t c.index-seats-place-2.result refl (get_below seats t s at) c.index-seats-place-2.is) ∙ at) in
    let parent : s.parent ≡ Some p = ap (λ (z : Seat). z.parent) (sym one) ∙ (ap (λ (z : Seat). z.parent) c.index-seats-place.is ∙ c.in-Some.is) in
    let seat : c.put-waiters.new.seat ≡ put_in c.args.value s =
    c.put-waiters.ensures.ended ∙ (ap (put_in c.args.value) (sym c.index-seats-place-2.is) ∙ ap (put_in c.args.value) two) in
    let free = (subst (λ o. CanTell seats t s.awaited.waiters o) parent can).2 in
    record {
      before = s;
      present = at;
      first = first;
      tells = subst (λ o. Tells (slice_set seats t (put_in c.args.value s)) o new first) (sym parent)
          (subst (λ z. TellsParent (slice_set seats t z) p new first) seat c.tell_parent.ensures);
      goes = sym (append-nil first) ∙ ap (λ l. first ++ l) (sym free);
    }
