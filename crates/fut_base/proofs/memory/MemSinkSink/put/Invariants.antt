use Rattle.std.proofs.Common.{◌≡◌, ◌+◌, ◌-◌, ◌<◌, ◌≤◌, ◌++◌, vec_len, vec_capacity, take}
use Rattle.fut_base.proofs.memory.MemSinkSink.put.Given as goal

abbrev pub invariant-loop-i : goal.invariant-loop-i
invariant-loop-i l = record {
  room : vec_len l.self-inside.bytes + (l.count - l.i) + l.self-inside.room ≤ vec_capacity l.self-inside.bytes;
  added : l.self-inside.bytes.items ≡ l.initial.self-inside.bytes.items ++ take l.i l.piece;
  quiet : l.self-inside.faults ≡ l.initial.self-inside.faults;
  positive : 0 < l.self-inside.most;
  room_stays : l.self-inside.room ≡ l.initial.self-inside.room;
  most_stays : l.self-inside.most ≡ l.initial.self-inside.most;
  calls_stay : l.self-inside.calls ≡ l.initial.self-inside.calls;
  fails_stay : l.self-inside.fails ≡ l.initial.self-inside.fails;
}
