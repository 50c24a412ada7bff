use Rattle.std.proofs.Common.{ap, map, string_bytes, arith}
use Rattle.std.specs.Vec.Iter.{into_iter_items}
use Rattle.fut_driver.proofs.Naming.{others_left, one_taken, all_taken}
use Rattle.fut_driver.proofs.line.behind_name.Goals as goal

pub loop-word-init : goal.loop-word-init
loop-word-init c =
    let first = c.next-name.ensures in
    rw c.make-words.ensures
    (ap (map string_bytes)
    (others_left c.next-name.result (into_iter_items c.args.args) (into_iter_items c.next-name.new.self) _ first.items c.args.args.rest.ok.0 first.variant))

pub loop-word-smaller : goal.loop-word-smaller
loop-word-smaller c = omega (arith, c.in-Some.ensures.len)

pub loop-word-preserved : goal.loop-word-preserved
loop-word-preserved c =
    rw c.in_ok-push.ensures.ok
    (one_taken string_bytes c.loop-word.words _ c.as_str.result.now c.in-Some.word (into_iter_items c.loop-word.left)
    (into_iter_items c.next.new.self) c.loop-word.invariant c.in-Some.ensures.items c.as_str.ensures.value)

pub returns : goal.returns
returns c =
    all_taken string_bytes c.loop-word.words _ c.next.result
    (into_iter_items c.loop-word.left) _ c.loop-word.invariant c.in_default.is c.next.ensures.variant c.loop-word.left.rest.ok.0
