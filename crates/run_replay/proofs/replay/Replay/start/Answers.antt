use Rattle.std.proofs.Common.{◌≡◌, [], ◌∷◌, ◌++◌, ◌∙◌, ap, refl, subst, replicate}
use Rattle.std.specs.Prelude.{pos}
use Rattle.run_replay.specs.Replays.{Begins}
use Rattle.run_replay.proofs.Starting.{begins_run}
use Rattle.run_replay.proofs.replay.Replay.start.Goals as goal

pub returns : goal.returns
returns c = λ P typed of.
    let code = c.args.code.now in
    let main = c.in_ok-main.main in
    let empty : c.make-none.result.items ≡ [] = ap (λ l. l.items) c.make-none.ensures in
    let b : Begins code code.main [] 0 0 main =
    subst (λ xs. Begins code code.main xs 0 0 main) empty (subst (λ n. Begins code n c.make-none.result.items 0 0 main) c.main.ensures c.in_ok-main.ensures) in
    begins_run P code main _ typed of b c.in_ok-finder.ensures (c.in_ok-push.ensures.items ∙ ap (λ l. l ++ main ∷ []) c.new-lines.ensures.items)
    (c.in_ok-cells.ensures.items_if_clones_equal (λ y h. h) ∙ ap (λ n. replicate n (pos 0)) c.cells.ensures)
    c.in_ok-ready.ensures refl refl refl
