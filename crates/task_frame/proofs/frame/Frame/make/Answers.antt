use Rattle.std.proofs.Common.{◌≡◌, ◌+◌, ◌≤◌, ◌++◌, List, ◌∷◌, [], length, replicate, ap, sym, ◌∙◌, subst, arith, length-append}
use Rattle.std.proofs.lemmas.List.{length-replicate}
use Rattle.task_frame.specs.declared.frame.Shape.TheVariants as shape
use Rattle.task_frame.specs.declared.frame.Extent.{Extent}
use Rattle.task_frame.specs.Frames.{AreLaid, slots_of, rooms_of, zero_value}
use Rattle.task_frame.proofs.Laying.{laid_more, slots_more, rooms_more}
use Rattle.task_frame.proofs.frame.Frame.make.Goals as goal

pub loop-name-preserved : goal.loop-name-preserved
loop-name-preserved c =
    let h = c.loop-name.invariant in
    let room = c.max-room.result in
    let values = c.loop-name.values.items in
    let places = c.loop-name.places.items in
    let n = c.name-item.result in
    let some : 1 ≤ room = omega (arith, c.max-room.ensures) in
    let len : c.len-first.result ≡ length values = omega (arith, c.len-first.ensures) in
    let size : length (values ++ replicate room zero_value) ≡ length values + room =
    length-append values (replicate room zero_value) ∙ ap (λ m. length values + m) (length-replicate room zero_value) in
    let new : c.push.new.self.items ≡ places ++ record { first = length values; room = room; shape = shape.One } ∷ [] =
    c.in_ok-push.ensures.items ∙ ap (λ m. places ++ record { first = m; room = room; shape = shape.One } ∷ []) len in
    let grown : c.push_zeros.new.values.items ≡ values ++ replicate room zero_value = c.in_ok-push_zeros.ensures in
    record {
      laid = subst (λ (ps : List Extent). AreLaid 0 ps (length c.push_zeros.new.values.items)) (sym new)
          (subst (AreLaid 0 (places ++ record { first = length values; room = room; shape = shape.One } ∷ [])) (sym (ap length grown ∙ size))
          (laid_more places 0 (length values) room h.laid some));
      slots = ap (slots_of c.push_zeros.new.values.items) new
          ∙ ap (λ vs. slots_of vs (places ++ record { first = length values; room = room; shape = shape.One } ∷ [])) grown
          ∙ slots_more values places room c.loop-name.name-index h.laid h.slots;
      rooms = ap rooms_of new ∙ rooms_more places
          (length values) room c.loop-name.name-index c.args.names.now n h.rooms c.loop-name-test.true c.name-item.is c.max-room.ensures;
    }
