-- The strands of a child and its parent after a spawn or a create.
use Rattle.std.proofs.Common.{◌≡◌, ℕ, ◌+◌, List, [], ◌∷◌, ◌++◌, sym, ap, ◌∙◌, subst}
use Rattle.fut_base.specs.declared.record.Value.{Value}
use Rattle.fut_base.specs.declared.event.Event.{Event}
use Rattle.fut_base.specs.declared.event.Action.{Action}
use Rattle.fut_base.specs.declared.event.Action.TheVariants.{Spawns, Creates}
use Rattle.fut_base.specs.Sound.{IsSound}
use Rattle.strand_tree.specs.declared.strand.Strand.{Strand}
use Rattle.strand_tree.specs.Placing.{AreNext, AreOrders, Extends, Belongs, IsStrandOf}
use Rattle.reach_table.specs.Telling.{HasTable}
use Rattle.reach_table.specs.Tabled.{KidAfterCreate}
use Rattle.reach_table.proofs.Events.{after_spawn, after_create}
use Rattle.run_place.specs.Placed.{events_in}
use Rattle.run_book.proofs.Stranding.{event_at, orders_add, belongs_add, table_new, sound_then}

-- the orders after the entry, and the strands of the child and of the parent with their tables
pub record HasSplit (longer : List (ℕ × Event)) (one two : Strand) (kid_table table : List Strand) (en he : List ℕ) : Type 0 where
  pub orders : AreOrders (events_in longer) en he
  pub kid : IsStrandOf (events_in longer) one × HasTable (events_in longer) one.number kid_table
  pub cont : IsStrandOf (events_in longer) two × HasTable (events_in longer) two.number table

module _ (book : List (ℕ × Event)) (k task which child kid : ℕ) (args : List Value) (at one two : Strand) (table : List Strand) (en he en' he' : List ℕ)
    (numbers : AreNext kid one.number two.number) (orders : AreOrders (events_in book) en he) (here : IsStrandOf (events_in book) at)
    (has : HasTable (events_in book) at.number table) where
  pub spawn_split : Extends (events_in book) task at.number (Spawns which child one.number two.number args) en he en' he'
      → Belongs (events_in book) task at (Spawns which child one.number two.number args) one
      × Belongs (events_in book) task at (Spawns which child one.number two.number args) two
      → IsSound (events_in (book ++ (k, event_at task at.number (Spawns which child kid (kid + 1) args)) ∷ []))
      → HasSplit (book ++ (k, event_at task at.number (Spawns which child kid (kid + 1) args)) ∷ []) one two table table en' he'
  spawn_split extends belong sound =
      let a : Action = Spawns which child kid (kid + 1) args in
      let act : Spawns which child one.number two.number args ≡ a =
      ap (λ n. Spawns which child n two.number args) numbers.kid_is ∙ ap (λ n. Spawns which child kid n args) numbers.cont_is in
      let tables = after_spawn table (events_in book) task at.number which child kid (kid + 1) args (sound_then book k task at.number a sound) has in
      record {
        orders = orders_add book k task at.number a en he en' he' (subst (λ x. Extends (events_in book) task at.number x en he en' he') act extends) orders;
        kid = (
          belongs_add book k task at one a (subst (λ x. Belongs (events_in book) task at x one) act belong.0) sound here,
          subst (λ n. HasTable (events_in (book ++ (k, event_at task at.number a) ∷ [])) n table) (sym numbers.kid_is)
              (table_new book k task at.number a kid table tables.0),
        );
        cont = (
          belongs_add book k task at two a (subst (λ x. Belongs (events_in book) task at x two) act belong.1) sound here,
          subst (λ n. HasTable (events_in (book ++ (k, event_at task at.number a) ∷ [])) n table) (sym numbers.cont_is)
              (table_new book k task at.number a (kid + 1) table tables.1),
        );
      }

  pub create_split : (kid_table : List Strand) → KidAfterCreate table at kid_table
      → Extends (events_in book) task at.number (Creates which child one.number two.number args) en he en' he'
      → Belongs (events_in book) task at (Creates which child one.number two.number args) one
      × Belongs (events_in book) task at (Creates which child one.number two.number args) two
      → IsSound (events_in (book ++ (k, event_at task at.number (Creates which child kid (kid + 1) args)) ∷ []))
      → HasSplit (book ++ (k, event_at task at.number (Creates which child kid (kid + 1) args)) ∷ []) one two kid_table table en' he'
  create_split kid_table kids extends belong sound =
      let a : Action = Creates which child kid (kid + 1) args in
      let act : Creates which child one.number two.number args ≡ a =
      ap (λ n. Creates which child n two.number args) numbers.kid_is ∙ ap (λ n. Creates which child kid n args) numbers.cont_is in
      let then = sound_then book k task at.number a sound in
      let stays = after_create table (events_in book) task at.number which child kid (kid + 1) args then has in
      record {
        orders = orders_add book k task at.number a en he en' he' (subst (λ x. Extends (events_in book) task at.number x en he en' he') act extends) orders;
        kid = (
          belongs_add book k task at one a (subst (λ x. Belongs (events_in book) task at x one) act belong.0) sound here,
          subst (λ n. HasTable (events_in (book ++ (k, event_at task at.number a) ∷ [])) n kid_table) (sym numbers.kid_is)
              (table_new book k task at.number a kid kid_table (kids (events_in book) task which child kid (kid + 1) args then here has)),
        );
        cont = (
          belongs_add book k task at two a (subst (λ x. Belongs (events_in book) task at x two) act belong.1) sound here,
          subst (λ n. HasTable (events_in (book ++ (k, event_at task at.number a) ∷ [])) n table) (sym numbers.cont_is)
              (table_new book k task at.number a (kid + 1) table stays),
        );
      }
