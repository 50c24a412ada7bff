use Rattle.std.proofs.lemmas.List.{length-take}
use Rattle.std.proofs.Common.{ℕ, arith, ◌∙◌, refl, ap, length, length-append}
use Rattle.explain_driver.proofs.Consuming.{consumes_none, consumes_both, consumes_keeps}
use Rattle.explain_driver.proofs.input.read_all.Goals as goal

pub loop-bytes-init : goal.loop-bytes-init
loop-bytes-init g c = record {
  whole = c.in-Ok.ensures.len;
  short = omega (arith, c.new-bytes.ensures.len);
  taken = rw c.new-bytes.ensures.items (consumes_none _);
  quiet = refl;
}

pub loop-bytes-preserved : goal.loop-bytes-preserved
loop-bytes-preserved g c =
    let kept = c.loop-bytes.invariant in
    let more = c.in-More.ensures in
    record {
      whole = kept.whole;
      short =
          let size = ap length more.1 ∙ length-append c.loop-bytes.bytes.items more.0 in
          omega (
            arith,
            size,
            more.3,
            c.take_onto.auto.buffer,
            length-take {A = ℕ},
            c.min-room.ensures,
            c.take_onto.new.bytes.ok.0,
            c.loop-bytes.bytes.ok.0,
            c.deref_mut.ensures.len,
            kept.whole,
            kept.short,
            c.len-in-loop-bytes.ensures,
          );
      taken = rw more.1 (consumes_both _ _ _ c.loop-bytes.bytes.items more.0 kept.taken more.4);
      quiet = more.5 ∙ kept.quiet;
    }

pub returns-in-End : goal.returns-in-End
returns-in-End g c =
    let kept = c.loop-bytes.invariant in
    let end = c.in-End.ensures in (
      omega (arith, ap length end.0, c.loop-bytes.bytes.ok.0, c.loop-bytes-test.true, c.len.ensures),
      rw end.0 (consumes_keeps _ _ _ c.loop-bytes.bytes.items kept.taken end.1),
      end.2,
      end.3,
      end.4 ∙ kept.quiet,
    )
