-- A history up to one of its places.
use Rattle.std.proofs.Common.{◌≡◌, ℕ, zero, suc, ◌<◌, List, [], ◌∷◌, ◌++◌, reverse, inl, ap, ◌∙◌, subst, arith, append_assoc}
use Rattle.std.specs.Prelude.{Some, slice_get}
use Rattle.std.proofs.lemmas.List.{reverse-append}
use Rattle.std.proofs.lemmas.Option.{same_Some}
use Rattle.fut_base.proofs.Members.{among_left, among_right}
use Rattle.fut_base.specs.declared.event.Event.{Event}
use Rattle.fut_base.specs.Dag.{Among}
use Rattle.race_origins.specs.Laws.{AreStanding, IsInStep}
use Rattle.race_origins.proofs.Standing.{AreFresh, fresh_in_step}

-- the events before a place, the newest first, and the one that stands there
pub record IsCut (h : List Event) (j : ℕ) (d : Event) : Type 0 where
  pub before : List Event
  pub later : List Event
  pub is : reverse h ≡ later ++ d ∷ before
  pub earlier : (i : ℕ) (e : Event) → i < j → slice_get h i ≡ Some e → Among e before

pub cut : (h : List Event) (j : ℕ) (d : Event) → slice_get h j ≡ Some d → IsCut h j d
cut [] j d at = cc
cut (x ∷ h) zero d at = record {
  before = [];
  later = reverse h;
  is = reverse-append (x ∷ []) h ∙ ap (λ y. reverse h ++ y ∷ []) (same_Some x d at);
  earlier = λ i e lt. absurd (omega (arith, lt));
}
cut (x ∷ h) (suc j) d at = let c = cut h j d at in record {
  before = c.before ++ x ∷ [];
  later = c.later;
  is = reverse-append (x ∷ []) h ∙ ap (λ l. l ++ x ∷ []) c.is ∙ append_assoc c.later (d ∷ c.before) (x ∷ []);
  earlier = earlier_more x h j c.before c.earlier;
}
  where
    earlier_more : (x : Event) (h : List Event) (j : ℕ) (before : List Event)
        → ((i : ℕ) (e : Event) → i < j → slice_get h i ≡ Some e → Among e before)
        → (i : ℕ) (e : Event) → i < suc j → slice_get (x ∷ h) i ≡ Some e → Among e (before ++ x ∷ [])
    earlier_more x h j before old zero e lt at = among_right e before (x ∷ []) (inl (same_Some x e at))
    earlier_more x h j before old (suc i) e lt at = among_left e before (x ∷ []) (old i e (omega (arith, lt)) at)

pub rest_standing : (later past : List Event) → AreStanding (later ++ past) → AreStanding past
rest_standing [] past h = h
rest_standing (e ∷ later) past h = rest_standing later past h.0

rest_fresh : (later past : List Event) → AreFresh (later ++ past) → AreFresh past
rest_fresh [] past h = h
rest_fresh (e ∷ later) past h = rest_fresh later past h.0

pub standing_at : (h : List Event) → IsInStep h → (j : ℕ) (d : Event) (at : slice_get h j ≡ Some d) → AreStanding (d ∷ (cut h j d at).before)
standing_at h ok j d at = let c = cut h j d at in rest_standing c.later (d ∷ c.before) (subst AreStanding c.is ok.standing)

pub fresh_at : (h : List Event) → IsInStep h → (j : ℕ) (d : Event) (at : slice_get h j ≡ Some d) → AreFresh (d ∷ (cut h j d at).before)
fresh_at h ok j d at = let c = cut h j d at in rest_fresh c.later (d ∷ c.before) (subst AreFresh c.is (fresh_in_step h ok))
