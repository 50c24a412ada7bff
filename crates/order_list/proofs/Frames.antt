-- A judge that is asked again and again.
use Rattle.std.proofs.Common.{◌++◌, [], ap, refl, sym, ◌∙◌, append-nil, append_assoc}
use Rattle.order_list.specs.declared.judge.Judge as judge
use Rattle.order_list.specs.Frames.{IsAsBefore}

module _ {S H : Type 0} (g : judge.Ghosts S H) where
  pub not_asked : (s : S) → IsAsBefore g s s
  not_asked s =
      record { known = refl; english = refl; hebrew = refl; may_move = refl; home = refl; loads = ([], sym (append-nil (g.loaded s))) }

  pub asked_again : {r s t : S} → IsAsBefore g r s → IsAsBefore g s t → IsAsBefore g r t
  asked_again {r = r} a b =
      record {
        known = b.known ∙ a.known;
        english = b.english ∙ a.english;
        hebrew = b.hebrew ∙ a.hebrew;
        may_move = b.may_move ∙ a.may_move;
        home = b.home ∙ a.home;
        loads = (a.loads.0 ++ b.loads.0, b.loads.1 ∙ ap (λ l. l ++ b.loads.0) a.loads.1 ∙ append_assoc (g.loaded r) a.loads.0 b.loads.0);
      }
