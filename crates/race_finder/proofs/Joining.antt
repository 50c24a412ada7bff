-- What is remembered after a get and after a sync.
use Rattle.std.proofs.Common.{◌≡◌, ℕ, Bool, true, false, List, [], ◌∷◌, ◌++◌, reverse, subst, ap, sym, refl, ◌∙◌, ◌==◌, ◌&&◌, if◌then◌else◌}
use Rattle.std.specs.Prelude.{Option, Some}
use Rattle.fut_base.specs.Listed.{Listed}
use Rattle.fut_base.specs.declared.record.Value.{Value}
use Rattle.fut_base.specs.declared.event.Event.{Event}
use Rattle.fut_base.specs.declared.event.Action.TheVariants.{Syncs, Gets}
use Rattle.fut_base.specs.Dag.{last_of, block_of}
use Rattle.fut_base.specs.Sound.{IsSound, current}
use Rattle.strand_laws.proofs.Links.{ev, if_self}
use Rattle.strand_tree.specs.declared.strand.Strand.{Strand}
use Rattle.strand_tree.specs.Placing.{IsStrandOf}
use Rattle.reach_table.specs.Telling.{HasTable}
use Rattle.race_finder.specs.declared.track.Track.{Track}
use Rattle.race_finder.specs.Finding.{last_if, IsTrackOf}
use Rattle.race_finder.proofs.Next.{turned}
use Rattle.race_finder.proofs.Structural.{acting_runs}

if_none : (b : Bool) (o r : Option ℕ) → (if b && false then o else r) ≡ r
if_none true o r = refl
if_none false o r = refl

none_now : (b : Bool) (m n : ℕ) → b ≡ false → last_if b m ≡ last_if b n
none_now true m n is = cc
none_now false m n is = refl

module _ (s : List Event) (task st strand : ℕ) (d : Track) (of : IsTrackOf s task d) (at : Strand) (at_is : at.number ≡ strand) (table : List Strand) where
  module _ (future : ℕ) (value : Value) (sound : IsSound (s ++ ev task st (Gets future value strand) ∷ [])) where
    abbrev e : Event
    e = ev task st (Gets future value strand)

    pub getter : IsStrandOf (s ++ e ∷ []) at → HasTable (s ++ e ∷ []) strand table
        → IsTrackOf (s ++ e ∷ []) task (record { at = at; reach = table; block = d.block; ended = d.ended })
    getter there table_is =
        let past = reverse s in
        record {
          stands = ap (λ l. current l task) (turned s e) ∙ if_self task (Some strand) _ ∙ ap Some (sym at_is);
          strand = there;
          table = subst (λ n. HasTable (s ++ e ∷ []) n table) (sym at_is) table_is;
          block_is = of.block_is ∙ sym (ap (λ l. block_of l task) (turned s e) ∙ if_self task (block_of past task) (block_of past task));
          last_is = ap (λ l. last_of l task) (turned s e) ∙ if_none (task == task) (Some st) (last_of past task) ∙ of.last_is
              ∙ none_now d.ended d.at.number at.number (acting_runs s e sound d of);
        }

  module _ (sound : IsSound (s ++ ev task st (Syncs strand) ∷ [])) where
    abbrev e' : Event
    e' = ev task st (Syncs strand)

    pub syncer : (block : Listed ℕ) → block.items ≡ [] → IsStrandOf (s ++ e' ∷ []) at → HasTable (s ++ e' ∷ []) strand table
        → IsTrackOf (s ++ e' ∷ []) task (record { at = at; reach = table; block = block; ended = d.ended })
    syncer block empty there table_is =
        let past = reverse s in
        record {
          stands = ap (λ l. current l task) (turned s e') ∙ if_self task (Some strand) _ ∙ ap Some (sym at_is);
          strand = there;
          table = subst (λ n. HasTable (s ++ e' ∷ []) n table) (sym at_is) table_is;
          block_is = empty ∙ sym (ap (λ l. block_of l task) (turned s e') ∙ if_self task [] (block_of past task));
          last_is = ap (λ l. last_of l task) (turned s e') ∙ if_none (task == task) (Some st) (last_of past task) ∙ of.last_is
              ∙ none_now d.ended d.at.number at.number (acting_runs s e' sound d of);
        }
