-- A history and one more event.
use Rattle.std.proofs.Common.{◌≡◌, ◌≢◌, ℕ, true, false, cond, List, [], ◌∷◌, ◌++◌, length, reverse, subst, ap, sym, refl, ◌∙◌, option_to_list, option_map, ◌==◌}
use Rattle.std.proofs.lemmas.Option.{none-some}
use Rattle.std.proofs.Common.{if◌then◌else◌}
use Rattle.std.specs.Prelude.{Option, Some, None}
use Rattle.std.proofs.lemmas.List.{reverse-append, length-reverse, append-nil}
use Rattle.std.proofs.lemmas.List.Elements.{filter-append}
use Rattle.fut_base.specs.declared.event.Event.{Event}
use Rattle.fut_base.specs.declared.event.Action.{Action}
use Rattle.fut_base.specs.declared.event.Action.TheVariants.{Reads, Writes, Spawns, Creates, Syncs, Gets, Ends}
use Rattle.fut_base.specs.Events.{structural, structure_of}
use Rattle.fut_base.specs.Dag.{last_of}
use Rattle.fut_base.specs.Sound.{current}
use Rattle.strand_laws.proofs.Links.{if_off}
use Rattle.strand_laws.proofs.Places.{by_eq}
use Rattle.strand_laws.proofs.Structure.{reverse_filter}
use Rattle.access_shards.specs.Kept.{Kind, reading, writing, touch}
use Rattle.access_shards.proofs.Histories.{by_structure, same_current, same_last}
use Rattle.access_shards.specs.Histories.{kind_of, touches_past, touches_of, IsStanding, AreStanding, IsInStep}

-- the current and last strands in a history's structure
pub current_of : (h : List Event) (t : ℕ) → current (reverse (structure_of h)) t ≡ current (reverse h) t
current_of h t = ap (λ l. current l t) (reverse_filter by_structure h) ∙ same_current (reverse h) t

pub last_in : (h : List Event) (t : ℕ) → last_of (reverse (structure_of h)) t ≡ last_of (reverse h) t
last_in h t = ap (λ l. last_of l t) (reverse_filter by_structure h) ∙ same_last (reverse h) t

cell_is : (cell c : ℕ) (kind k : Kind) → (if cell == c then Some kind else None) ≡ Some k → cell ≡ c
cell_is cell c kind k = by_eq (λ b. (if b then Some kind else None) ≡ Some k → cell ≡ c) cell c (λ e _. e) (λ _ z. absurd (none-some k z))

-- an event accesses one cell at most, and structural ones none
pub kind_else : (a : Action) (c d : ℕ) (k : Kind) → kind_of c a ≡ Some k → d ≢ c → kind_of d a ≡ None
kind_else (Reads cell v) c d k is ne = if_off cell d (Some reading) None (λ e. ne (sym e ∙ cell_is cell c reading k is))
kind_else (Writes cell v) c d k is ne = if_off cell d (Some writing) None (λ e. ne (sym e ∙ cell_is cell c writing k is))
kind_else (Spawns d' c' k' y args) c d k is ne = refl
kind_else (Creates d' c' k' y args) c d k is ne = refl
kind_else (Syncs x) c d k is ne = refl
kind_else (Gets f v x) c d k is ne = refl
kind_else (Ends v) c d k is ne = refl

pub kind_plain : (a : Action) (c : ℕ) (k : Kind) → kind_of c a ≡ Some k → structural a ≡ false
kind_plain (Reads cell v) c k is = refl
kind_plain (Writes cell v) c k is = refl
kind_plain (Spawns d' c' k' y args) c k is = absurd (none-some k is)
kind_plain (Creates d' c' k' y args) c k is = absurd (none-some k is)
kind_plain (Syncs x) c k is = absurd (none-some k is)
kind_plain (Gets f v x) c k is = absurd (none-some k is)
kind_plain (Ends v) c k is = absurd (none-some k is)

pub kind_none : (a : Action) (c : ℕ) → structural a ≡ true → kind_of c a ≡ None
kind_none (Reads cell v) c is = cc
kind_none (Writes cell v) c is = cc
kind_none (Spawns d' c' k' y args) c is = refl
kind_none (Creates d' c' k' y args) c is = refl
kind_none (Syncs x) c is = refl
kind_none (Gets f v x) c is = refl
kind_none (Ends v) c is = refl

module _ (h : List Event) (e : Event) where
  abbrev longer : List Event
  longer = h ++ e ∷ []

  pub turned : reverse (h ++ e ∷ []) ≡ e ∷ reverse h
  turned = reverse-append h (e ∷ [])

  pub touched : (c : ℕ) (k : Kind) → kind_of c e.action ≡ Some k → touches_of c (h ++ e ∷ []) ≡ touch (length h) e.strand k ∷ touches_of c h
  touched c k is =
      ap (touches_past c) turned
      ∙ ap (λ o. option_to_list (option_map (λ kind. touch (length (reverse h)) e.strand kind) o) ++ touches_past c (reverse h)) is
      ∙ ap (λ n. touch n e.strand k ∷ touches_of c h) (length-reverse h)

  pub untouched : (c : ℕ) → kind_of c e.action ≡ None → touches_of c (h ++ e ∷ []) ≡ touches_of c h
  untouched c is =
      ap (touches_past c) turned
      ∙ ap (λ o. option_to_list (option_map (λ kind. touch (length (reverse h)) e.strand kind) o) ++ touches_past c (reverse h)) is

  pub structure_same : structural e.action ≡ false → structure_of (h ++ e ∷ []) ≡ structure_of h
  structure_same is = filter-append by_structure h (e ∷ []) ∙ ap (λ b. structure_of h ++ cond b (e ∷ []) []) is ∙ append-nil (structure_of h)

  pub structure_more : structural e.action ≡ true → structure_of (h ++ e ∷ []) ≡ structure_of h ++ e ∷ []
  structure_more is = filter-append by_structure h (e ∷ []) ∙ ap (λ b. structure_of h ++ cond b (e ∷ []) []) is

  pub standing : IsInStep (h ++ e ∷ []) → IsStanding (reverse h) e
  standing steps = (subst AreStanding turned steps.standing).1
