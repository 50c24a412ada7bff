use Rattle.std.proofs.Common.{◌≡◌, ℕ, List, ◌++◌, take, drop, ◌+◌, ◌≤◌, length, length-drop, arith, ap, sym, ◌∙◌, append_assoc}
use Rattle.std.proofs.lemmas.List.{take-append-drop, take_all}
use Rattle.fut_base.proofs.Writing.{appends_both}
use Rattle.fut_base.proofs.ports.write_text.Goals as goal

-- after n more the rest is what stands behind them
split_again : (text part rest : List ℕ) (n k : ℕ) → length rest ≤ n + k → text ≡ part ++ rest → text ≡ (part ++ take n rest) ++ take k (drop n rest)
split_again text part rest n k le is =
    is
    ∙
    (ap (λ l. part ++ l) (sym (take-append-drop n rest))
    ∙
    (sym (append_assoc part (take n rest) (drop n rest)) ∙ ap (λ l. (part ++ take n rest) ++ l)
    (sym (take_all k (drop n rest) (simp length-drop (omega arith))))))

pub loop-rest-preserved : goal.loop-rest-preserved
loop-rest-preserved g c =
    let part = c.loop-rest.invariant.taken.0 in
    let rest = c.loop-rest.rest.now in
    record {
      taken = (
        part ++ take c.in-Took.n rest,
        split_again c.args.text.now part rest c.in-Took.n _ (omega arith) c.loop-rest.invariant.taken.1,
        appends_both _ _ _ part (take c.in-Took.n rest) c.loop-rest.invariant.taken.2 c.in-Took.ensures.2,
      );
      quiet = c.in-Took.ensures.3 ∙ c.loop-rest.invariant.quiet;
    }
