-- The sides of two strands tell whether there is a path.
use Rattle.std.proofs.Common.{◌≡◌, Bool, true, ◌&&◌, reverse, ap, sym, subst, ◌∙◌}
use Rattle.std.specs.Prelude.{◌↔◌}
use Rattle.order_list.specs.declared.judge.Sides.{Sides}
use Rattle.fut_base.specs.Orders.{stands_before, english_of, hebrew_of, precedes}
use Rattle.fut_base.specs.Sound.{InnerReaches}
use Rattle.strand_laws.proofs.Inside.{precedes_means_path}
use Rattle.strand_tree.specs.Paths.{TellsPaths}

pub tells_paths : (sides : Sides) (answer : Bool) → answer ≡ (sides.english && sides.hebrew) → TellsPaths sides answer
tells_paths sides answer is s u v sound two are =
    let first : sides.english ≡ stands_before u v (english_of s) = are.first in
    let second : sides.hebrew ≡ stands_before u v (hebrew_of s) = are.second in
    let all : answer ≡ precedes s u v = is ∙ ap (λ b. b && sides.hebrew) first ∙ ap (λ b. stands_before u v (english_of s) && b) second in
    subst (λ b. (b ≡ true) ↔ InnerReaches (reverse s) u v) (sym all) (precedes_means_path (reverse s) sound u v two.strands two.home two.differ)
