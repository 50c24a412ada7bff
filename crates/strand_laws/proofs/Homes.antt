-- The futures of strands, and how many strands the orders have.
use Rattle.std.proofs.Common.{◌≡◌, ℕ, ◌+◌, List, [], ◌∷◌, ◌++◌, length, length-append, inl, inr, sym, subst, refl, ◌∙◌, arith, if◌then◌else◌}
use Rattle.fut_base.proofs.Cases.{by_eq}
use Rattle.fut_base.specs.declared.event.Event.{Event}
use Rattle.fut_base.specs.declared.event.Action.{Action}
use Rattle.fut_base.specs.declared.event.Action.TheVariants.{Reads, Writes, Spawns, Creates, Syncs, Gets, Ends}
use Rattle.fut_base.specs.Dag.{Among, block_of}
use Rattle.fut_base.specs.Orders.{put_after, english_past, hebrew_past}
use Rattle.fut_base.specs.Sound.{IsSoundPast, MayFollow, next_strand, home_of}
use Rattle.fut_base.proofs.Rising.{stands_below}
use Rattle.strand_laws.specs.Laws.{CurrentBelongs, HomesStay, OrdersHaveStrands}
use Rattle.strand_laws.proofs.Frames.{frame}
use Rattle.strand_laws.proofs.Links.{linked, ev}
use Rattle.strand_laws.proofs.Sources.{home_old, whole_en, whole_he, first_last_below}
use Rattle.strand_laws.proofs.Steps.{inv}

pub current_belongs : CurrentBelongs
current_belongs past sp t s stands =
    let l = linked past sp in
    let at = l.cur t s stands in
    subst (λ v. home_of past v ≡ (frame past t).fut) at.1 ((inv past sp).each t at.0).cur_home ∙ sym (l.fut t at.0)

pub homes_stay : HomesStay
homes_stay past e sp v lt = home_old past sp.0 e.task e.strand e.action sp.1 v lt

put_more : (a : ℕ) (items xs : List ℕ) → Among a xs → length (put_after a items xs) ≡ length xs + length items
put_more a items [] there = absurd there
put_more a items (z ∷ zs) there =
    by_eq (λ b. length (z ∷ (if b then items ++ zs else put_after a items zs)) ≡ length (z ∷ zs) + length items) z a
    (λ _. (let k = length-append items zs in omega arith))
    (λ ne. (let k = put_more a items zs (elim there [ inl e ↦ absurd (ne e) | inr h ↦ h ]) in omega arith))

-- lists of n strands have m, where an event adds strands
more_strands : (a n m k : ℕ) (items xs : List ℕ) → Among a xs → length xs ≡ n → length items ≡ k → m ≡ n + k → length (put_after a items xs) ≡ m
more_strands a n m k items xs there len few is = let p = put_more a items xs there in omega (arith, p, len, few, is)

module _ (past : List Event) (sp : IsSoundPast past) (t s : ℕ) where
  en_at : (a : Action) → MayFollow past (ev t s a) → Among s (english_past past)
  en_at a m = (whole_en past sp).all s (stands_below past (ev t s a) sp m)

  he_at : (a : Action) → MayFollow past (ev t s a) → Among s (hebrew_past past)
  he_at a m = (whole_he past sp).all s (stands_below past (ev t s a) sp m)

  english_more : (a : Action) → MayFollow past (ev t s a) → length (english_past past) ≡ next_strand past
      → length (english_past (ev t s a ∷ past)) ≡ next_strand (ev t s a ∷ past)
  english_more (Reads _ _) m h = absurd m.acts
  english_more (Writes _ _) m h = absurd m.acts
  english_more (Spawns code c k y args) m h = more_strands s _ _ 2 (k ∷ y ∷ []) _ (en_at (Spawns code c k y args) m) h refl refl
  english_more (Creates code c k y args) m h = more_strands s _ _ 2 (k ∷ y ∷ []) _ (en_at (Creates code c k y args) m) h refl refl
  english_more (Syncs x) m h = more_strands s _ _ 1 (x ∷ []) _ (en_at (Syncs x) m) h refl refl
  english_more (Gets f g x) m h = more_strands s _ _ 1 (x ∷ []) _ (en_at (Gets f g x) m) h refl refl
  english_more (Ends v) m h = omega (arith, h)

  hebrew_more : (a : Action) → MayFollow past (ev t s a) → length (hebrew_past past) ≡ next_strand past
      → length (hebrew_past (ev t s a ∷ past)) ≡ next_strand (ev t s a ∷ past)
  hebrew_more (Reads _ _) m h = absurd m.acts
  hebrew_more (Writes _ _) m h = absurd m.acts
  hebrew_more (Spawns code c k y args) m h = more_strands s _ _ 2 (y ∷ k ∷ []) _ (he_at (Spawns code c k y args) m) h refl refl
  hebrew_more (Creates code c k y args) m h = more_strands s _ _ 2 (y ∷ k ∷ []) _ (he_at (Creates code c k y args) m) h refl refl
  hebrew_more (Syncs x) m h =
      let last = first_last_below past sp (block_of past t) s (stands_below past (ev t s (Syncs x)) sp m) in
      more_strands _ _ _ 1 (x ∷ []) _ ((whole_he past sp).all _ last) h refl refl
  hebrew_more (Gets f g x) m h = more_strands s _ _ 1 (x ∷ []) _ (he_at (Gets f g x) m) h refl refl
  hebrew_more (Ends v) m h = omega (arith, h)

pub orders_have_strands : OrdersHaveStrands
orders_have_strands [] sp = (refl, refl)
orders_have_strands (e ∷ past) sp =
    let k = orders_have_strands past sp.0 in
    (english_more past sp.0 e.task e.strand e.action sp.1 k.0, hebrew_more past sp.0 e.task e.strand e.action sp.1 k.1)
