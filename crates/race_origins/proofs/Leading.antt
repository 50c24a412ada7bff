-- From an edge to the event that makes it or that ends the task from whose last strand it leads.
use Rattle.std.proofs.Common.{◌≡◌, ℕ, suc, true, List, [], ◌∷◌, reverse, ◌⊎◌, inl, inr, refl, sym, ap, ◌∙◌, subst}
use Rattle.std.specs.Prelude.{Option, Some, None, ◌==◌, ◌&&◌, if◌then◌else◌, slice_get, option_map}
use Rattle.std.specs.List.{cons_option}
use Rattle.std.proofs.lemmas.Bool.{and_parts}
use Rattle.std.proofs.lemmas.List.{reverse-append}
use Rattle.std.proofs.lemmas.Option.{same_Some}
use Rattle.fut_base.proofs.Cases.{by_bool}
use Rattle.fut_base.proofs.Members.{among_split}
use Rattle.fut_base.specs.declared.event.Event.{Event}
use Rattle.fut_base.specs.declared.event.Action.{Action}
use Rattle.fut_base.specs.declared.event.Action.TheVariants.{Reads, Writes, Spawns, Creates, Syncs, Gets, Ends}
use Rattle.fut_base.specs.Events.{structural}
use Rattle.fut_base.specs.Dag.{Among, Reaches, last_of, ends, block_of, joins, edges_by, edges_past, edges_of}

-- an edge from the strand of this action can lead to b
abbrev pub LeadsTo : Action → ℕ → Type 0
LeadsTo (Reads _ _) b = ⊥
LeadsTo (Writes _ _) b = ⊥
LeadsTo (Syncs strand) b = b ≡ strand
LeadsTo (Gets _ _ strand) b = b ≡ strand
LeadsTo _ b = Unit {0}

pub leads_structural : (a : Action) (b : ℕ) → LeadsTo a b → structural a ≡ true
leads_structural (Reads _ _) b h = absurd h
leads_structural (Writes _ _) b h = absurd h
leads_structural (Spawns _ _ _ _ _) b h = refl
leads_structural (Creates _ _ _ _ _) b h = refl
leads_structural (Syncs _) b h = refl
leads_structural (Gets _ _ _) b h = refl
leads_structural (Ends _) b h = refl

ends_leads : (a : Action) (b : ℕ) → ends a ≡ true → LeadsTo a b
ends_leads (Reads _ _) b h = cc
ends_leads (Writes _ _) b h = cc
ends_leads (Spawns _ _ _ _ _) b h = cc
ends_leads (Creates _ _ _ _ _) b h = cc
ends_leads (Syncs _) b h = cc
ends_leads (Gets _ _ _) b h = cc
ends_leads (Ends _) b h = tt

-- an event of the list from whose strand a an edge can lead to b
abbrev pub IsSource : List Event → ℕ → ℕ → Type 0
IsSource past a b = (d : Event) × Among d past × (d.strand ≡ a) × LeadsTo d.action b

source_more : (e : Event) (past : List Event) (a b : ℕ) → IsSource past a b → IsSource (e ∷ past) a b
source_more e past a b s = (s.0, inr s.1, s.2, s.3)

-- the last strand of a task is that of its end
last_source : (past : List Event) (t a b : ℕ) → last_of past t ≡ Some a → IsSource past a b
last_source [] t a b = λ h. cc
last_source (e ∷ past) t a b =
    by_bool (λ x. (if x then Some e.strand else last_of past t) ≡ Some a → IsSource (e ∷ past) a b) ((t == e.task) && ends e.action)
    (λ yes h. (e, inl refl, same_Some e.strand a h, ends_leads e.action b (and_parts (t == e.task) (ends e.action) yes).1))
    (λ no h. source_more e past a b (last_source past t a b h))

one_join : (past : List Event) (t : ℕ) (o : Option ℕ) (strand : ℕ) (rest : List (ℕ × ℕ)) (a b : ℕ) → last_of past t ≡ o
    → Among (a, b) (cons_option (option_map (λ last. (last, strand)) o) rest) → IsSource past a b ⊎ Among (a, b) rest
one_join past t None strand rest a b is h = inr h
one_join past t (Some l) strand rest a b is (inl same) = inl (last_source past t a b (is ∙ ap (λ (p : ℕ × ℕ). Some p.0) same))
one_join past t (Some l) strand rest a b is (inr h) = inr h

join_source : (past : List Event) (ts : List ℕ) (strand a b : ℕ) → Among (a, b) (joins past ts strand) → IsSource past a b
join_source past [] strand a b h = absurd h
join_source past (t ∷ ts) strand a b h =
    elim (one_join past t (last_of past t) strand (joins past ts strand) a b refl h) [ inl s ↦ s | inr rest ↦ join_source past ts strand a b rest ]

-- an edge from the strand of the event itself, or from the end of a task
own_or_join : (past : List Event) (e : Event) (x : ℕ) (ts : List ℕ) (a b : ℕ) → ((p : ℕ) → p ≡ x → LeadsTo e.action p)
    → Among (a, b) ((e.strand, x) ∷ joins past ts x) → IsSource (e ∷ past) a b
own_or_join past e x ts a b leads (inl same) =
    (e, inl refl, ap (λ (p : ℕ × ℕ). p.0) same, leads b (sym (ap (λ (p : ℕ × ℕ). p.1) same)))
own_or_join past e x ts a b leads (inr h) = source_more e past a b (join_source past ts x a b h)

two_of : (e : Event) (past : List Event) (k c a b : ℕ) → ((p : ℕ) → LeadsTo e.action p) → Among {X = ℕ × ℕ} (a, b) ((e.strand, k) ∷ (e.strand, c) ∷ [])
    → IsSource (e ∷ past) a b
two_of e past k c a b leads (inl same) = (e, inl refl, ap (λ (p : ℕ × ℕ). p.0) same, leads b)
two_of e past k c a b leads (inr (inl same)) = (e, inl refl, ap (λ (p : ℕ × ℕ). p.0) same, leads b)
two_of e past k c a b leads (inr (inr h)) = absurd h

by_source : (past : List Event) (t s : ℕ) (act : Action) (a b : ℕ) → Among (a, b) (edges_by past t s act)
    → IsSource (record { task = t; strand = s; action = act } ∷ past) a b
by_source past t s (Reads _ _) a b h = absurd h
by_source past t s (Writes _ _) a b h = absurd h
by_source past t s (Spawns _ _ k c _) a b h = two_of _ past k c a b (λ p. tt) h
by_source past t s (Creates _ _ k c _) a b h = two_of _ past k c a b (λ p. tt) h
by_source past t s (Syncs x) a b h = own_or_join past _ x (block_of past t) a b (λ p q. q) h
by_source past t s (Gets f _ x) a b h = own_or_join past _ x (f ∷ []) a b (λ p q. q) h
by_source past t s (Ends _) a b h = absurd h

source_of : (past : List Event) (a b : ℕ) → Among (a, b) (edges_past past) → IsSource past a b
source_of [] a b h = absurd h
source_of (e ∷ past) a b h =
    elim (among_split (a, b) (edges_past past) (edges_by past e.task e.strand e.action) h) [
      | inl old ↦ source_more e past a b (source_of past a b old)
      | inr new ↦ by_source past e.task e.strand e.action a b new
    ]

-- ---- places of a history in order

among_reversed : {X : Type 0} (x : X) (xs : List X) → Among x (reverse xs) → Among x xs
among_reversed x [] h = absurd h
among_reversed x (y ∷ xs) h =
    elim (among_split x (reverse xs) (y ∷ []) (subst (λ l. Among x l) (reverse-append (y ∷ []) xs) h)) [
      | inl old ↦ inr (among_reversed x xs old)
      | inr new ↦ elim new [ inl same ↦ inl same | inr none ↦ absurd none ]
    ]

place_of : {X : Type 0} (x : X) (xs : List X) → Among x xs → (j : ℕ) × (slice_get xs j ≡ Some x)
place_of x [] h = absurd h
place_of x (y ∷ xs) (inl same) = (0, ap Some same)
place_of x (y ∷ xs) (inr h) = let r = place_of x xs h in (suc r.0, r.1)

-- an entry of a history from whose strand a an edge can lead to b
pub record IsSourceAt (h : List Event) (a b : ℕ) : Type 0 where
  pub place : ℕ
  pub entry : Event
  pub stands : slice_get h place ≡ Some entry
  pub here : entry.strand ≡ a
  pub leads : LeadsTo entry.action b

source_at : (h : List Event) (a b : ℕ) → Among (a, b) (edges_of h) → IsSourceAt h a b
source_at h a b edge =
    let s = source_of (reverse h) a b edge in
    let p = place_of s.0 h (among_reversed s.0 h s.1) in
    record { place = p.0; entry = s.0; stands = p.1; here = s.2; leads = s.3 }

-- a strand that reaches another one is it, or an entry on it leads there
pub record GoesOn (h : List Event) (a u : ℕ) : Type 0 where
  pub next : ℕ
  pub source : IsSourceAt h a next
  pub onward : Reaches h next u

pub goes_on : (h : List Event) (a u : ℕ) → Reaches h a u → (a ≡ u) ⊎ GoesOn h a u
goes_on h a u ([], is) = inl is
goes_on h a u (e ∷ path, is) =
    inr (record {
      next = e.1;
      source = source_at h a e.1 (subst (λ x. Among (x, e.1) (edges_of h)) is.1 is.0);
      onward = (path, is.2);
    })
