use Rattle.std.proofs.Common.{◌^◌, ◌≤◌, arith}
use Rattle.std.proofs.Math.Nat.{pow-le-pow_right}
use Rattle.order_list.proofs.window.is_sparse.Goals as goal

pub pow-requires : goal.pow-requires
pow-requires c = let le : 2 ^ c.args.i ≤ 2 ^ 62 = pow-le-pow_right {n = 2} (omega arith) c.requires in omega (arith, le)

pub pow-requires-2 : goal.pow-requires-2
pow-requires-2 c = let le : 3 ^ c.args.i ≤ 3 ^ 62 = pow-le-pow_right {n = 3} (omega arith) c.requires in omega (arith, le)
