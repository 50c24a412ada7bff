-- A holder and a reader that know nothing yet.
use Rattle.std.proofs.Common.{◌≡◌, ℕ, [], subst, sym, refl}
use Rattle.atomic_table.specs.Seated.{TableId}
use Rattle.task_code.specs.Flat.{Compiled}
use Rattle.event_clock.specs.Seated.{Ticking, Seated, fresh}
use Rattle.order_query.specs.Reading.{Reading}
use Rattle.run_place.specs.Placed.{AreAlike, book_of, events_in}
use Rattle.run_book.specs.Jobs.{FitsProgram}
use Rattle.run_shard.specs.Shards.{IsNewHolder, FitsKnown}

pub fresh_holder : (clock : Ticking) (h : Seated) → h ≡ fresh clock.id clock.size 1 → IsNewHolder clock 0 h
fresh_holder clock h is = subst (λ (s : Seated). IsNewHolder clock 0 s) (sym is) (record { clock_is = refl; number = refl; none = (refl, refl) })

pub fresh_knows : (clock : Ticking) (orders : TableId) (code : Compiled) (h : Seated) (r : Reading) → h ≡ fresh clock.id clock.size 1
    → r ≡ record { log = []; loaded = []; home = orders } → FitsKnown orders code h r
fresh_knows clock orders code h r h_is r_is =
    subst (λ (s : Reading). FitsKnown orders code h s) (sym r_is)
    (subst (λ (s : Seated). FitsKnown orders code s (record { log = []; loaded = []; home = orders })) (sym h_is)
    (record {
      home = refl;
      alike = record { sound = tt; strands = refl; orders = record { english_is = refl; hebrew_is = refl } };
      fits = λ P typed of. record { passed = λ e which args a. absurd a; ended = λ e value a. absurd a; got = λ e f v s a. absurd a };
    }))
