-- What a shard knows of what it keeps, and what stays of it when the shard knows more.
use Rattle.std.proofs.Common.{◌≡◌, ◌≢◌, ℕ, ◌+◌, ◌<◌, ◌≤◌, List, [], ◌∷◌, ◌++◌, reverse, ◌⊎◌, inl, inr, subst, ap, sym, refl, ◌∙◌, arith, option_to_list}
use Rattle.std.specs.Prelude.{Option, Some, None, ℤ}
use Rattle.std.proofs.lemmas.List.{reverse-append}
use Rattle.fut_base.specs.declared.event.Event.{Event}
use Rattle.fut_base.specs.Dag.{Among, edges_of}
use Rattle.fut_base.specs.Sound.{IsSound, next_strand}
use Rattle.fut_base.proofs.Members.{among_split}
use Rattle.reach_table.proofs.Events.{strands_more}
use Rattle.access_shards.specs.declared.kept.Access.{Access}
use Rattle.access_shards.specs.declared.kept.Kept.{Kept}
use Rattle.access_shards.specs.declared.kept.Kept.TheVariants.{Clean, Found}
use Rattle.access_shards.specs.Touches.{Touch, IsLate}
use Rattle.access_shards.specs.Kept.{Kind, IsWriter, AreReaders, IsKept, AreKnown, all_kept}
use Rattle.access_shards.specs.Logged.{Logged, IsLogOf, RiseInEnglish, AreSorted, reads_of}
use Rattle.access_shards.specs.Laws.{AreOn}
use Rattle.access_shards.proofs.Growing.{log_stays, late_stays}
use Rattle.event_clock.specs.Rule.{IsPrefix}
use Rattle.merge_laws.specs.Laws.{touches_in}
use Rattle.run_place.specs.Placed.{events_in}
use Rattle.run_place.proofs.Learning.{events_more}
use Rattle.run_shard.specs.Shards.{IsCell}
use Rattle.run_shard.specs.Turns.{IsSameLog}

-- ---- strands

writer_known : (s : List Event) (past : List (Touch Kind)) (w : Option Access) (a : Access) → IsWriter s past w → Among a (option_to_list w)
    → a.strand.number < next_strand (reverse s)
writer_known s past None a is h = absurd h
writer_known s past (Some b) a is (inl same) = subst (λ (x : Access). x.strand.number < next_strand (reverse s)) same is.2.strand_of.there
writer_known s past (Some b) a is (inr h) = absurd h

readers_known : (s : List Event) (past : List (Touch Kind)) (rs : List Access) (a : Access) → AreReaders s past rs → Among a rs
    → a.strand.number < next_strand (reverse s)
readers_known s past rs a is h = (is.each a h).2.strand_of.there

-- whoever knows all strands knows those of what is kept
pub kept_known : (s : List Event) (past : List (Touch Kind)) (kept : Kept) (n : ℕ) → IsKept s past kept → n ≡ next_strand (reverse s) → AreKnown n kept
kept_known s past (Clean w rs) n is same = λ a h. elim (among_split a (option_to_list w) rs.items h) [
  | inl x ↦ (let lt = writer_known s past w a is.1 x in omega (arith, lt, same))
  | inr x ↦ (let lt = readers_known s past rs.items a is.2 x in omega (arith, lt, same))
]
kept_known s past (Found first second) n is same = tt

-- who knows more strands knows them still
pub known_more : (kept : Kept) (n m : ℕ) → n ≤ m → AreKnown n kept → AreKnown m kept
known_more (Clean w rs) n m more is = λ a h. (let lt = is a h in omega (arith, lt, more))
known_more (Found first second) n m more is = tt

-- a longer list has no fewer strands
pub strands_grow : (xs ys : List (ℕ × Event)) → IsPrefix xs ys → next_strand (reverse (events_in xs)) ≤ next_strand (reverse (events_in ys))
strands_grow xs ys p =
    let more = events_more xs ys p in
    let turn : reverse (events_in ys) ≡ reverse more.0 ++ reverse (events_in xs) = ap reverse more.1 ∙ reverse-append (events_in xs) more.0 in
    subst (λ past. next_strand (reverse (events_in xs)) ≤ next_strand past) (sym turn) (strands_more (reverse more.0) (reverse (events_in xs)))

-- ---- logs

-- a log that only got room is the log of the same accesses
pub same_log : (s : List Event) (past : List (Touch Kind)) (l l' : Logged) → IsSameLog l l' → IsLogOf s past l → IsLogOf s past l'
same_log s past l l' e is =
    record {
      kept = subst (IsKept s past) (sym e.kept) is.kept;
      rising = λ r. subst (λ k. RiseInEnglish s (reads_of k)) (sym e.kept) (is.rising (sym e.rise ∙ r));
      listed = subst (λ x. AreSorted s (reads_of l'.kept) x) (sym e.sorted) (subst (λ k. AreSorted s (reads_of k) l.sorted) (sym e.kept) is.listed);
    }

-- what is so of a cell stays so when more structural entries are known
pub cell_later : (known more own : List (ℕ × Event)) (c : ℕ) (value : ℤ) (log : Logged) → IsPrefix known more → IsSound (events_in more)
    → AreOn (events_in known) (touches_in c own) → IsCell known own c value log → IsCell more own c value log
cell_later known more own c value log begins sound on is =
    let parts = events_more known more begins in
    let both : IsSound (events_in known ++ parts.0) = subst IsSound parts.1 sound in
    record {
      value_is = is.value_is;
      kept = subst (λ s. IsLogOf s (touches_in c own) log) (sym parts.1) (log_stays (events_in known) parts.0 (touches_in c own) log both on is.kept);
      late = subst (λ s. IsLate (edges_of s) (touches_in c own)) (sym parts.1) (late_stays (events_in known) parts.0 (touches_in c own) both on is.late);
    }

-- and of a cell whose log only got room
pub cell_same : (known own : List (ℕ × Event)) (c : ℕ) (value : ℤ) (l l' : Logged) → IsSameLog l l' → IsCell known own c value l → IsCell known own c value l'
cell_same known own c value l l' e is =
    record { value_is = is.value_is; kept = same_log (events_in known) (touches_in c own) l l' e is.kept; late = is.late }
