use Rattle.std.proofs.Common.{◌≡◌, None, Some, Option, List, [], ◌∷◌, inl, refl, sym, ap, ◌∙◌}
use Rattle.std.specs.Option.{option_copied}
use Rattle.run_book.proofs.Rooting.{none≢some}
use Rattle.fut_base.specs.declared.record.Value.{Value}
use Rattle.fut_base.specs.Dag.{Among}
use Rattle.run_book.specs.Jobs.{JobNow}
use Rattle.run_book.specs.Lines.{LineNow}
use Rattle.run_book.proofs.line.Line.into_waiting.Goals.{in-Some, in-None}
use Rattle.run_book.proofs.line.Line.into_waiting.Goals as goal

-- nobody waits for a value that has come
none_wait : (ws : List JobNow) (value : Option Value) (x : Value) → ((j : JobNow) → Among j ws → value ≡ None) → value ≡ Some x → [] ≡ ws
none_wait [] value x waits is = refl
none_wait (j ∷ ws) value x waits is = absurd (none≢some (sym (waits j (inl refl)) ∙ is))

pub returns : goal.returns
returns g c = (
  c.take.ensures.0 ∙ ap (λ (l : LineNow). l.waiter) c.self.view_is,
  elim c.match-look.branch [
    | in-Some w ↦
        ap (λ r. r.items) w.others-is ∙ ap (λ r. r.items) w.make-others.ensures
        ∙ none_wait c.args.self.waiters c.args.self.value _ c.requires
        (sym (ap (λ (l : LineNow). l.value) c.self.view_is) ∙ sym c.look.ensures ∙ ap (λ r. option_copied r) w.in-Some.is)
    | in-None w ↦ ap (λ r. r.items) w.others-is ∙ w.put-others.ensures.waiters ∙ ap (λ (l : LineNow). l.waiters) c.self.view_is
  ],
)
