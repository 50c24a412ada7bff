-- Bytes are a run text or have one fault.
use Rattle.std.proofs.Common.{◌≡◌, ℕ, suc, ◌⊎◌, inl, inr, List, [], ◌∷◌, ◌++◌, length, refl, sym, ap, ◌∙◌, append-nil, le_antisymm}
use Rattle.std.specs.Prelude.{Option, Some, None, Ok, Err}
use Rattle.fut_base.specs.Events.{events_of}
use Rattle.run_record.specs.declared.record.ReadFault.TheVariants as fault
use Rattle.run_record.specs.RunText.{run_text}
use Rattle.run_record.specs.Records.{IsSomeRunText, IsFault}
use Rattle.run_record.specs.Machine.{Symbol, all_due, next, go_on, walk, at_end, run_on, run}
use Rattle.run_record.specs.Laws.{NoneBeginsAnother, EitherOne, OneFault, ReadsAgain}
use Rattle.run_record.proofs.Phrases.{whole_phrase}
use Rattle.run_record.proofs.Viable.{walk_back}
use Rattle.run_record.proofs.Through.{through}
use Rattle.run_record.proofs.Exact.{passes_through, fault}
use Rattle.run_record.proofs.Onces.{one_value}

-- a run that doesn't stop ends with nothing due
ended : (s : List Symbol) → at_end s ≡ None → s ≡ []
ended [] e = refl
ended (a ∷ k) e = absurd (cc)

by_next : (o : Option (List Symbol)) (x : ℕ) (xs : List ℕ) → ((s : List Symbol) → run s xs ≡ None → walk s xs ≡ Some [])
    → run_on o (suc (length xs)) (λ s. run s xs) ≡ None → go_on o (λ s. walk s xs) ≡ Some []
by_next None x xs ih e = absurd (cc)
by_next (Some s) x xs ih e = ih s e

walked : (xs : List ℕ) (s : List Symbol) → run s xs ≡ None → walk s xs ≡ Some []
walked [] s e = ap Some (ended s e)
walked (x ∷ xs) s e = by_next (next s x) x xs (walked xs) e

whole_text : (xs : List ℕ) → run all_due xs ≡ None → IsSomeRunText xs
whole_text xs e =
    let w = whole_phrase (xs ++ []) [] (walk_back xs all_due [] (walked xs all_due e) [] [] refl) in
    (w.0, w.1, w.2, w.3, record { within = w.4; text = sym (append-nil xs) ∙ w.5 ∙ append-nil (run_text w.0 w.1 w.2 w.3) })

pub either_one : EitherOne
either_one xs = by (run all_due xs) refl
  where
    by : (o : Option ℕ) → run all_due xs ≡ o → IsSomeRunText xs ⊎ ((count : ℕ) × IsFault xs count)
    by None e = inl (whole_text xs e)
    by (Some left) e = inr (_, fault xs left e)

pub one_fault : OneFault
one_fault xs count other a b = le_antisymm (b.longest count a.within a.begins) (a.longest other b.within b.begins)

none_left : (more : List ℕ) → run [] more ≡ None → more ≡ []
none_left [] e = refl
none_left (x ∷ more) e = absurd (cc)

pub none_begins_another : NoneBeginsAnother
none_begins_another xs more a b =
    let t = a.4 in
    let goes : run all_due (xs ++ more) ≡ run [] more = ap (λ q. run all_due (q ++ more)) t.text ∙ (through a.0 a.1 a.2 a.3 t.within more).goes [] in
    none_left more (sym goes ∙ passes_through (xs ++ more) b)

pub reads_again : ReadsAgain
reads_again p es rs f (Ok r) w h =
    one_value (run_text p es rs f) r.program.items (events_of r.history) r.races.items r.finish p es rs f h (record { within = w; text = refl })
reads_again p es rs f (Err (fault.NotRun count)) w h = h.none (p, es, rs, f, record { within = w; text = refl })
reads_again p es rs f (Err fault.NoMemory) w h = tt
