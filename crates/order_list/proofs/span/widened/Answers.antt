use Rattle.std.proofs.Common.{ℕ, length, ap, arith, length-append}
use Rattle.order_list.proofs.Spans.{wider, way_back, way_on, span_length}
use Rattle.order_list.proofs.span.widened.Goals as goal

pub go_along-back-requires : goal.go_along-back-requires
go_along-back-requires c =
    let s = c.requires.span.span in
    record {
      way = (
        s.behind,
        way_back c.args.labels.now c.args.nexts.now c.args.prevs.now _ c.requires.span.from c.requires.span.to c.args.span
            c.requires.kept c.requires.few s,
      );
    }

pub go_along-on-requires : goal.go_along-on-requires
go_along-on-requires c =
    let s = c.requires.span.span in
    record {
      way = (
        s.ahead,
        way_on c.args.labels.now c.args.nexts.now c.args.prevs.now _ c.requires.span.from c.requires.span.to c.args.span
            c.requires.kept c.requires.few s,
      );
    }

pub overflow_add-result : goal.overflow_add-result
overflow_add-result c =
    let s = c.requires.span.span in
    let b = c.go_along-back.ensures s.behind s.leads_back in
    let all = span_length c.args.labels.now c.args.nexts.now c.args.prevs.now _ c.requires.span.from c.requires.span.to c.args.span s in
    omega (arith, s.count, b.count, all, c.requires.kept.count, c.requires.few, ap (length {A = ℕ}) b.parts, length-append b.taken b.rest)

pub overflow_add-result-2 : goal.overflow_add-result-2
overflow_add-result-2 c =
    let s = c.requires.span.span in
    let b = c.go_along-back.ensures s.behind s.leads_back in
    let a = c.go_along-on.ensures s.ahead s.leads_on in
    let all = span_length c.args.labels.now c.args.nexts.now c.args.prevs.now _ c.requires.span.from c.requires.span.to c.args.span s in
    omega (
      arith,
      s.count,
      b.count,
      a.count,
      all,
      c.requires.kept.count,
      c.requires.few,
      ap (length {A = ℕ}) b.parts,
      length-append b.taken b.rest,
      ap (length {A = ℕ}) a.parts,
      length-append a.taken a.rest,
    )

pub returns : goal.returns
returns c =
    let r = c.requires.span in
    let s = r.span in
    wider c.args.labels.now c.args.nexts.now c.args.prevs.now _ c.args.base c.args.end r.from r.to c.args.span r.above r.below s
    c.go_along-back.result c.go_along-on.result
    (c.go_along-back.ensures s.behind s.leads_back) (c.go_along-on.ensures s.ahead s.leads_on)
