use Rattle.std.proofs.Common.{[], refl, string_bytes, ◌≡◌, ◌∙◌, ℕ, sym, subst, true, false}
use Rattle.std.specs.Bool.{◌==◌}
use Rattle.std.proofs.lemmas.Bool.Decides.{Decides-eqb}
use Rattle.command_words.proofs.Choosing.{none_begins, doubled, one_more, all_read, shorter, none_left, some_left}
use Rattle.command_words.specs.Seen.{IsSeen}
use Rattle.command_words.proofs.options.options.Goals as goal

is_zero : (n : ℕ) → true ≡ (n == 0) → n ≡ 0
is_zero n e = (Decides-eqb n 0).0 (sym e)

not_zero : (n : ℕ) → false ≡ (n == 0) → n ≡ 0 → ⊥
not_zero n e z = let yes : (n == 0) ≡ true = (Decides-eqb n 0).1 z in let both : true ≡ false = sym yes ∙ sym e in cc

pub loop-rest-init : goal.loop-rest-init
loop-rest-init c =
    record { done = []; written = refl; allowed = tt; seen_is = subst (λ n. IsSeen n [] c.nothing-seen.result) c.unnamed.ensures c.nothing-seen.ensures }

pub returns-in_err-choice : goal.returns-in_err-choice
returns-in_err-choice c =
    let some = some_left string_bytes c.loop-rest.rest.now (not_zero _ c.loop-rest-test.ensures) in
    rw c.from_residual.ensures (none_begins c.args.kind _ _ c.loop-rest.seen c.loop-rest.invariant some c.in_err-choice.ensures)

pub returns-in_err-seen : goal.returns-in_err-seen
returns-in_err-seen c =
    let kept = c.loop-rest.invariant in
    let first = c.in_ok-choice.ensures in
    rw c.from_residual-in_err-seen.ensures
    (doubled c.args.kind _ _ _ c.loop-rest.seen c.in_ok-choice.choice kept first.1 first.0 (c.in_err-seen.ensures _ kept.done kept.seen_is))

pub loop-rest-smaller : goal.loop-rest-smaller
loop-rest-smaller c = shorter string_bytes c.in_ok-choice.choice c.loop-rest.rest.now c.in_ok-choice.more.now c.in_ok-choice.ensures.1

pub loop-rest-preserved : goal.loop-rest-preserved
loop-rest-preserved c =
    let kept = c.loop-rest.invariant in
    let first = c.in_ok-choice.ensures in
    one_more c.args.kind _ _ _ c.loop-rest.seen c.in_ok-seen.seen c.in_ok-choice.choice kept first.1 first.0 (c.in_ok-seen.ensures _ kept.done kept.seen_is)

pub returns : goal.returns
returns c =
    let none = none_left string_bytes c.loop-rest.rest.now (is_zero _ c.loop-rest-test.ensures) in
    all_read c.args.kind _ _ c.loop-rest.seen c.loop-rest.invariant none
