-- The accesses of a cell in an own list, and in one with one entry more.
use Rattle.std.proofs.Common.{◌≡◌, ◌≢◌, ℕ, ◌+◌, ◌<◌, ◌≤◌, ◌==◌, if◌then◌else◌, List, [], ◌∷◌, ◌++◌, reverse, ◌⊎◌, inl, inr, subst, ap, sym, refl, ◌∙◌, arith, option_to_list, option_map}
use Rattle.std.specs.Prelude.{Option, Some, None, ℤ}
use Rattle.std.proofs.lemmas.List.{reverse-append}
use Rattle.fut_base.specs.declared.event.Event.{Event}
use Rattle.fut_base.specs.declared.event.Action.{Action}
use Rattle.fut_base.specs.declared.event.Action.TheVariants.{Reads, Writes, Spawns, Creates, Syncs, Gets, Ends}
use Rattle.fut_base.specs.Dag.{Among}
use Rattle.fut_base.specs.Sound.{next_strand}
use Rattle.strand_laws.proofs.Links.{if_off, if_on}
use Rattle.access_shards.specs.Touches.{Touch, IsRising}
use Rattle.access_shards.specs.Kept.{Kind, reading, writing, touch}
use Rattle.access_shards.specs.Histories.{kind_of}
use Rattle.access_shards.specs.Laws.{AreOn}
use Rattle.event_clock.specs.Rule.{Rises}
use Rattle.merge_laws.specs.Parts.{value_after}
use Rattle.merge_laws.specs.Laws.{drawn_touches, touches_in}
use Rattle.merge_laws.proofs.Lists.{IsFalling, rising_falls, reverse_among}
use Rattle.run_place.specs.Placed.{events_in}
use Rattle.run_shard.specs.Turns.{kind_by}

-- ---- all accesses of a cell

one_of : (o : Option Kind) (x : ℕ × Event) (more : List (Touch Kind)) (t : Touch Kind)
    → Among t (option_to_list (option_map (λ kind. touch x.0 x.1.strand kind) o) ++ more) → ((t.place ≡ x.0) × (t.strand ≡ x.1.strand)) ⊎ Among t more
one_of None x more t a = inr a
one_of (Some kind) x more t (inl same) = inl (ap (λ (u : Touch Kind). u.place) (sym same), ap (λ (u : Touch Kind). u.strand) (sym same))
one_of (Some kind) x more t (inr a) = inr a

-- each is of an entry
pub touch_of : (c : ℕ) (rest : List (ℕ × Event)) (t : Touch Kind) → Among t (drawn_touches c rest)
    → (x : ℕ × Event) × Among x rest × (t.place ≡ x.0) × (t.strand ≡ x.1.strand)
touch_of c [] t a = absurd a
touch_of c (x ∷ rest) t a = elim (one_of (kind_of c x.1.action) x (drawn_touches c rest) t a) [
  | inl own ↦ (x, inl refl, own.0, own.1)
  | inr old ↦ (let k = touch_of c rest t old in (k.0, inr k.1, k.2, k.3))
]

rise_one : (o : Option Kind) (x : ℕ × Event) (more : List (Touch Kind)) → ((t : Touch Kind) → Among t more → t.place < x.0) → IsRising more
    → IsRising (option_to_list (option_map (λ kind. touch x.0 x.1.strand kind) o) ++ more)
rise_one None x more low r = r
rise_one (Some kind) x more low r = (low, r)

falling_rise : (c : ℕ) (rest : List (ℕ × Event)) → IsFalling rest → IsRising (drawn_touches c rest)
falling_rise c [] f = tt
falling_rise c (x ∷ rest) f =
    rise_one (kind_of c x.1.action) x (drawn_touches c rest)
    (λ t a. (let o = touch_of c rest t a in let less = f.0 o.0 o.1 in omega (arith, o.2, less))) (falling_rise c rest f.1)

-- their places rise
pub touches_rise : (c : ℕ) (own : List (ℕ × Event)) → Rises own → IsRising (touches_in c own)
touches_rise c own r = falling_rise c (reverse own) (rising_falls own r)

-- and are below a ticket that is above those of the list
pub touches_below : (c : ℕ) (own : List (ℕ × Event)) (k : ℕ) → ((x : ℕ × Event) → Among x own → x.0 < k) → (t : Touch Kind) → Among t (touches_in c own)
    → t.place < k
touches_below c own k low t a = let o = touch_of c (reverse own) t a in let less = low o.0 (reverse_among o.0 own o.1) in omega (arith, o.2, less)

-- they are on known strands
pub touches_on : (known own : List (ℕ × Event)) (c : ℕ) → ((x : ℕ × Event) → Among x own → x.1.strand < next_strand (reverse (events_in known)))
    → AreOn (events_in known) (touches_in c own)
touches_on known own c on t a =
    let o = touch_of c (reverse own) t a in let less = on o.0 (reverse_among o.0 own o.1) in omega (arith, o.3, less)

-- ---- one entry more

-- an action accesses this cell
abbrev pub Accesses : ℕ → Action → Type 0
Accesses c (Reads cell _) = cell ≡ c
Accesses c (Writes cell _) = cell ≡ c
Accesses c _ = ⊥

kind_here : (c : ℕ) (a : Action) → Accesses c a → kind_of c a ≡ Some (kind_by a)
kind_here c (Reads cell v) is = if_on cell c (Some reading) None is
kind_here c (Writes cell v) is = if_on cell c (Some writing) None is
kind_here c (Spawns _ _ _ _ _) is = absurd is
kind_here c (Creates _ _ _ _ _) is = absurd is
kind_here c (Syncs _) is = absurd is
kind_here c (Gets _ _ _) is = absurd is
kind_here c (Ends _) is = absurd is

kind_else : (c d : ℕ) (a : Action) → Accesses c a → d ≢ c → kind_of d a ≡ None
kind_else c d (Reads cell v) is ne = if_off cell d (Some reading) None (λ e. ne (sym e ∙ is))
kind_else c d (Writes cell v) is ne = if_off cell d (Some writing) None (λ e. ne (sym e ∙ is))
kind_else c d (Spawns _ _ _ _ _) is ne = absurd is
kind_else c d (Creates _ _ _ _ _) is ne = absurd is
kind_else c d (Syncs _) is ne = absurd is
kind_else c d (Gets _ _ _) is ne = absurd is
kind_else c d (Ends _) is ne = absurd is

-- no other cell has another value
pub value_else : (c d : ℕ) (a : Action) (old : ℤ) → Accesses c a → d ≢ c → value_after d a old ≡ old
value_else c d (Reads cell v) old is ne = refl
value_else c d (Writes cell v) old is ne = if_off cell d v old (λ e. ne (sym e ∙ is))
value_else c d (Spawns _ _ _ _ _) old is ne = refl
value_else c d (Creates _ _ _ _ _) old is ne = refl
value_else c d (Syncs _) old is ne = refl
value_else c d (Gets _ _ _) old is ne = refl
value_else c d (Ends _) old is ne = refl

touches_one : (c : ℕ) (own : List (ℕ × Event)) (k : ℕ) (e : Event) (o : Option Kind) → kind_of c e.action ≡ o
    → touches_in c (own ++ (k, e) ∷ []) ≡ option_to_list (option_map (λ kind. touch k e.strand kind) o) ++ touches_in c own
touches_one c own k e o is =
    ap (drawn_touches c) (reverse-append own ((k, e) ∷ []))
    ∙ ap (λ z. option_to_list (option_map (λ kind. touch k e.strand kind) z) ++ touches_in c own) is

-- the access is added to those of its cell
pub touches_here : (c : ℕ) (own : List (ℕ × Event)) (k : ℕ) (e : Event) → Accesses c e.action
    → touches_in c (own ++ (k, e) ∷ []) ≡ touch k e.strand (kind_by e.action) ∷ touches_in c own
touches_here c own k e is = touches_one c own k e (Some (kind_by e.action)) (kind_here c e.action is)

-- and to no others
pub touches_else : (c d : ℕ) (own : List (ℕ × Event)) (k : ℕ) (e : Event) → Accesses c e.action → d ≢ c
    → touches_in d (own ++ (k, e) ∷ []) ≡ touches_in d own
touches_else c d own k e is ne = touches_one d own k e None (kind_else c d e.action is ne)
