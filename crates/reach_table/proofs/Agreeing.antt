-- Lists that have strands in the order of some events.
use Rattle.std.proofs.Common.{◌≡◌, ◌≢◌, ℕ, true, false, ◌&&◌, List, map, reverse, inl, inr, subst, ap, sym, ◌∙◌}
use Rattle.std.specs.Prelude.{◌↔◌}
use Rattle.order_list.specs.Sides.{Lists}
use Rattle.fut_base.specs.declared.event.Event.{Event}
use Rattle.fut_base.specs.Dag.{Among}
use Rattle.fut_base.specs.Orders.{stands_before, precedes_past, english_of}
use Rattle.fut_base.specs.Sound.{IsSound, home_of}
use Rattle.fut_base.specs.Tables.{maximal}
use Rattle.strand_laws.proofs.Places.{same_or_not}
use Rattle.strand_laws.proofs.Doubles.{not_before_self}
use Rattle.strand_tree.specs.declared.strand.Strand.{Strand}
use Rattle.strand_tree.specs.Placing.{IsStrandOf}
use Rattle.reach_table.specs.Telling.{number_of, IsKnownOf, OrdersAgree, AllKnown}
use Rattle.reach_table.specs.Merging.{IsGreatest}
use Rattle.reach_table.proofs.Members.{of_number, numbered}
use Rattle.reach_table.proofs.Greatest.{IsTop, top_of_max, max_of_top, false_if}

pub agree : (s : List Event) (known : ℕ) (english hebrew : List ℕ) → OrdersAgree s known english hebrew → (x y : ℕ) → IsKnownOf s known x
    → IsKnownOf s known y → x ≢ y → (stands_before x y english && stands_before x y hebrew) ≡ precedes_past (reverse s) x y
agree s known english hebrew o x y kx ky ne =
    ap (λ b. b && stands_before x y hebrew) (o.first x y kx ky ne) ∙ ap (λ b. stands_before x y (english_of s) && b) (o.second x y kx ky ne)

-- what is greatest by the lists is what the definition keeps
module _ (s : List Event) (sound : IsSound s) (lists : Lists) (own known : ℕ) (ws : List Strand)
    (orders : OrdersAgree s known lists.english.order lists.hebrew.order) (homes : (w : Strand) → Among w ws → IsStrandOf s w) (all : AllKnown known ws) where
  known_of : (w : Strand) → Among w ws → IsKnownOf s known w.number
  known_of w a = record { less = all w a; there = (homes w a).there }

  home : (w : Strand) → Among w ws → w.future ≡ home_of (reverse s) w.number
  home w a = (homes w a).future_is

  top_of_greatest : (w : Strand) → IsGreatest lists own ws w → IsTop (reverse s) own (map number_of ws) w.number
  top_of_greatest w g =
      record {
        among = numbered w ws g.among;
        foreign = λ e. g.foreign (home w g.among ∙ e);
        top = λ y a h. (
            let k = of_number y ws a in
            let hk : k.0.future ≡ w.future = home k.0 k.1 ∙ ap (home_of (reverse s)) k.2 ∙ h ∙ sym (home w g.among) in
            elim (same_or_not k.0.number w.number) [
              | inl e ↦ false_if _ (λ p. not_before_self (reverse s) sound w.number (subst (λ z. precedes_past (reverse s) w.number z ≡ true) (sym k.2 ∙ e) p))
              | inr ne ↦ subst (λ z. precedes_past (reverse s) w.number z ≡ false) k.2
                  (sym
                  (agree s known lists.english.order lists.hebrew.order orders w.number k.0.number (known_of w g.among) (known_of k.0 k.1)
                  (λ e. ne (sym e))) ∙ g.greatest k.0 k.1 hk ne)
            ]);
      }

  greatest_of_top : (w : Strand) → Among w ws → IsTop (reverse s) own (map number_of ws) w.number → IsGreatest lists own ws w
  greatest_of_top w a t =
      record {
        among = a;
        foreign = λ e. t.foreign (sym (home w a) ∙ e);
        greatest = λ x b h ne. agree s known lists.english.order lists.hebrew.order orders w.number x.number (known_of w a) (known_of x b) (λ e. ne (sym e))
            ∙ t.top x.number (numbered x ws b) (sym (home x b) ∙ h ∙ home w a);
      }

  pub kept_is_max : (table : List Strand) → ((w : Strand) → Among w table ↔ IsGreatest lists own ws w) → (x : ℕ) → Among x (map number_of table)
      ↔ Among x (maximal (reverse s) own (map number_of ws))
  kept_is_max table iff x = (
    λ a. (
        let k = of_number x table a in
        max_of_top (reverse s) own (map number_of ws) x (subst (λ z. IsTop (reverse s) own (map number_of ws) z) k.2 (top_of_greatest k.0 ((iff k.0).0 k.1)))),
    λ a. (
        let t = top_of_max (reverse s) own (map number_of ws) x a in
        let k = of_number x ws t.among in
        let g = greatest_of_top k.0 k.1 (subst (λ z. IsTop (reverse s) own (map number_of ws) z) (sym k.2) t) in
        subst (λ z. Among z (map number_of table)) k.2 (numbered k.0 table ((iff k.0).1 g))),
  )
