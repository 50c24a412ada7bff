use Rattle.std.proofs.Common.{◌≡◌, ◌+◌, length}
use Rattle.bench_parts.proofs.orders.fill.Given as goal

abbrev pub invariant-loop-k : goal.invariant-loop-k
invariant-loop-k g l = record {
  english : length (g.P.Placer.english l.placer) ≡ length (g.P.Placer.english l.initial.placer) + l._k;
  hebrew : length (g.P.Placer.hebrew l.placer) ≡ length (g.P.Placer.hebrew l.initial.placer) + l._k;
  spare : g.P.Placer.spare l.placer + l._k ≡ g.P.Placer.spare l.initial.placer;
  home : g.P.Placer.home l.placer ≡ g.P.Placer.home l.initial.placer;
}
