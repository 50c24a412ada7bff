-- What is remembered after a spawn and after a create.
use Rattle.std.proofs.Common.{◌≡◌, ◌≢◌, ℕ, Bool, true, false, List, [], ◌∷◌, ◌++◌, reverse, subst, ap, sym, refl, ◌∙◌, arith, ◌==◌, ◌&&◌, if◌then◌else◌}
use Rattle.std.specs.Prelude.{Option, Some}
use Rattle.fut_base.specs.Listed.{Listed}
use Rattle.fut_base.specs.declared.record.Value.{Value}
use Rattle.fut_base.specs.declared.event.Event.{Event}
use Rattle.fut_base.specs.declared.event.Action.TheVariants.{Spawns, Creates}
use Rattle.fut_base.specs.Dag.{last_of, block_of}
use Rattle.fut_base.specs.Sound.{IsSound, current, next_task}
use Rattle.strand_laws.proofs.Links.{ev, if_off, if_self}
use Rattle.strand_tree.specs.declared.strand.Strand.{Strand}
use Rattle.strand_tree.specs.Placing.{IsStrandOf}
use Rattle.reach_table.specs.Telling.{HasTable}
use Rattle.race_finder.specs.declared.track.Track.{Track}
use Rattle.race_finder.specs.Finding.{last_if, IsTrackOf}
use Rattle.race_finder.proofs.Next.{turned}
use Rattle.race_finder.proofs.Structural.{followed, acting_there, acting_runs, new_block, new_last}

if_none : (b : Bool) (o r : Option ℕ) → (if b && false then o else r) ≡ r
if_none true o r = refl
if_none false o r = refl

module _ (s : List Event) (task code child kid cont : ℕ) (args : List Value) (st : ℕ) (d : Track) (of : IsTrackOf s task d) where
  none_now : (b : Bool) (m n : ℕ) → b ≡ false → last_if b m ≡ last_if b n
  none_now true m n is = cc
  none_now false m n is = refl

  module _ (sound : IsSound (s ++ ev task st (Spawns code child kid cont args) ∷ [])) where
    abbrev e : Event
    e = ev task st (Spawns code child kid cont args)

    child_is : child ≡ next_task (reverse s)
    child_is = (followed s e sound).1.acts.0

    apart : child ≢ task
    apart q = absurd (let lt = acting_there s e sound in omega (arith, lt, q, child_is))

    pub spawner : (at : Strand) (block : Listed ℕ) → at.number ≡ cont → IsStrandOf (s ++ e ∷ []) at → HasTable (s ++ e ∷ []) cont d.reach
        → block.items ≡ d.block.items ++ child ∷ []
        → IsTrackOf (s ++ e ∷ []) task (record { at = at; reach = d.reach; block = block; ended = d.ended })
    spawner at block at_is there table block_is =
        let past = reverse s in
        record {
          stands = ap (λ l. current l task) (turned s e) ∙ if_self task (Some cont) _ ∙ ap Some (sym at_is);
          strand = there;
          table = subst (λ n. HasTable (s ++ e ∷ []) n d.reach) (sym at_is) table;
          block_is = block_is ∙ ap (λ l. l ++ child ∷ []) of.block_is
              ∙ sym (ap (λ l. block_of l task) (turned s e) ∙ if_self task (block_of past task ++ child ∷ []) (block_of past task));
          last_is = ap (λ l. last_of l task) (turned s e) ∙ if_none (task == task) (Some st) (last_of past task) ∙ of.last_is
              ∙ none_now d.ended d.at.number at.number (acting_runs s e sound d of);
        }

    pub spawned : (at : Strand) (table : List Strand) (block : Listed ℕ) → at.number ≡ kid → IsStrandOf (s ++ e ∷ []) at → HasTable (s ++ e ∷ []) kid table
        → block.items ≡ []
        → IsTrackOf (s ++ e ∷ []) child (record { at = at; reach = table; block = block; ended = false })
    spawned at table block at_is there table_is block_is =
        let past = reverse s in
        record {
          stands = ap (λ l. current l child) (turned s e) ∙ if_off child task _ _ apart ∙ if_self child (Some kid) _ ∙ ap Some (sym at_is);
          strand = there;
          table = subst (λ n. HasTable (s ++ e ∷ []) n table) (sym at_is) table_is;
          block_is = block_is ∙ sym (ap (λ l. block_of l child) (turned s e) ∙ if_off child task _ _ apart ∙ ap (block_of past) child_is ∙ new_block s e sound);
          last_is = ap (λ l. last_of l child) (turned s e) ∙ if_none (child == task) (Some st) (last_of past child)
              ∙ ap (last_of past) child_is ∙ new_last s e sound;
        }

  module _ (sound : IsSound (s ++ ev task st (Creates code child kid cont args) ∷ [])) where
    abbrev e' : Event
    e' = ev task st (Creates code child kid cont args)

    child_is' : child ≡ next_task (reverse s)
    child_is' = (followed s e' sound).1.acts.0

    apart' : child ≢ task
    apart' q = absurd (let lt = acting_there s e' sound in omega (arith, lt, q, child_is'))

    pub creator : (at : Strand) → at.number ≡ cont → IsStrandOf (s ++ e' ∷ []) at → HasTable (s ++ e' ∷ []) cont d.reach
        → IsTrackOf (s ++ e' ∷ []) task (record { at = at; reach = d.reach; block = d.block; ended = d.ended })
    creator at at_is there table =
        let past = reverse s in
        record {
          stands = ap (λ l. current l task) (turned s e') ∙ if_self task (Some cont) _ ∙ ap Some (sym at_is);
          strand = there;
          table = subst (λ n. HasTable (s ++ e' ∷ []) n d.reach) (sym at_is) table;
          block_is = of.block_is ∙ sym (ap (λ l. block_of l task) (turned s e') ∙ if_self task (block_of past task) (block_of past task));
          last_is = ap (λ l. last_of l task) (turned s e') ∙ if_none (task == task) (Some st) (last_of past task) ∙ of.last_is
              ∙ none_now d.ended d.at.number at.number (acting_runs s e' sound d of);
        }

    pub created : (at : Strand) (table : List Strand) (block : Listed ℕ) → at.number ≡ kid → IsStrandOf (s ++ e' ∷ []) at → HasTable (s ++ e' ∷ []) kid table
        → block.items ≡ []
        → IsTrackOf (s ++ e' ∷ []) child (record { at = at; reach = table; block = block; ended = false })
    created at table block at_is there table_is block_is =
        let past = reverse s in
        record {
          stands = ap (λ l. current l child) (turned s e') ∙ if_off child task _ _ apart' ∙ if_self child (Some kid) _ ∙ ap Some (sym at_is);
          strand = there;
          table = subst (λ n. HasTable (s ++ e' ∷ []) n table) (sym at_is) table_is;
          block_is = block_is ∙ sym (ap (λ l. block_of l child) (turned s e') ∙ if_off child task _ _ apart'
              ∙ ap (block_of past) child_is' ∙ new_block s e' sound);
          last_is = ap (λ l. last_of l child) (turned s e') ∙ if_none (child == task) (Some st) (last_of past child)
              ∙ ap (last_of past) child_is' ∙ new_last s e' sound;
        }
