-- The book's holder is told what jobs know, one after the other.
use Rattle.std.proofs.Common.{◌≡◌, ℕ, ◌+◌, ◌≤◌, List, [], ◌∷◌, ◌++◌, inl, inr, refl, sym, ap, ◌∙◌, subst, append_assoc}
use Rattle.std.specs.Prelude.{map}
use Rattle.std.proofs.lemmas.List.{append-nil, map-append}
use Rattle.fut_base.specs.declared.event.Event.{Event}
use Rattle.fut_base.specs.Dag.{Among}
use Rattle.fut_base.proofs.Members.{among_split}
use Rattle.event_clock.specs.declared.view.Carried.{Carried}
use Rattle.event_clock.specs.Views.{carries, list_at}
use Rattle.event_clock.specs.Rule.{IsPrefix, IsJoin}
use Rattle.event_clock.specs.Seated.{Seated}
use Rattle.event_clock.proofs.Lists.{prefix_trans, carries_append}
use Rattle.run_place.specs.Placed.{book_of}
use Rattle.run_book.specs.Jobs.{JobNow, known_to}
use Rattle.over_laws.specs.Over.{HasHeard, carried_job}

-- a holder that carries each task once has heard of no job
pub heard_none : (h : Seated) → ((t : ℕ) → carries t h.view.tasks ≤ 1) → HasHeard h h []
heard_none h once =
    record {
      clock = refl;
      own = refl;
      late = refl;
      tasks = sym (append-nil h.view.tasks);
      once = once;
      known = ([], append-nil (book_of h.view));
      knows = λ j a. absurd a;
    }

-- by one more job's pass, which carries the job's task alone
pub heard_one : (old h new : Seated) (jobs : List JobNow) (j : JobNow) → HasHeard old h jobs → j.place.pass.view.tasks ≡ carried_job j ∷ []
    → new.clock ≡ h.clock → new.view.own ≡ h.view.own → new.view.late ≡ h.view.late → IsJoin h.view j.place.pass.view new.view
    → HasHeard old new (jobs ++ j ∷ [])
heard_one old h new jobs j heard alone clock own late join =
    let tasks : new.view.tasks ≡ h.view.tasks ++ carried_job j ∷ [] = ap (λ v. v.tasks) join.view ∙ ap (λ cs. h.view.tasks ++ cs) alone in
    record {
      clock = clock ∙ heard.clock;
      own = own ∙ heard.own;
      late = late ∙ heard.late;
      tasks = tasks ∙ ap (λ cs. cs ++ carried_job j ∷ []) heard.tasks ∙ append_assoc old.view.tasks (map carried_job jobs) (carried_job j ∷ [])
          ∙ ap (λ cs. old.view.tasks ++ cs) (sym (map-append carried_job jobs (j ∷ [])));
      once = λ t. subst (λ n. n ≤ 1)
          (sym (ap (λ cs. carries t cs) tasks
          ∙ carries_append t h.view.tasks (carried_job j ∷ []) ∙ ap (λ cs. carries t h.view.tasks + carries t cs) (sym alone)))
          (join.apart t);
      known = prefix_trans (book_of old.view) (book_of h.view) (book_of new.view) heard.known (join.first 0);
      knows = λ k a. elim (among_split k jobs (j ∷ []) a) [
        | inl before ↦ prefix_trans (known_to k) (book_of h.view) (book_of new.view) (heard.knows k before) (join.first 0)
        | inr last ↦ elim last [
          | inl same ↦ subst (λ (i : JobNow). IsPrefix (known_to i) (book_of new.view)) same (join.second 0)
          | inr none ↦ absurd none
        ]
      ];
    }

-- what it heard in two parts it has heard
pub heard_both : (a b c : Seated) (xs ys : List JobNow) → HasHeard a b xs → HasHeard b c ys → HasHeard a c (xs ++ ys)
heard_both a b c xs ys first second =
    record {
      clock = second.clock ∙ first.clock;
      own = second.own ∙ first.own;
      late = second.late ∙ first.late;
      tasks = second.tasks ∙ ap (λ cs. cs ++ map carried_job ys) first.tasks ∙ append_assoc a.view.tasks (map carried_job xs) (map carried_job ys)
          ∙ ap (λ cs. a.view.tasks ++ cs) (sym (map-append carried_job xs ys));
      once = second.once;
      known = prefix_trans (book_of a.view) (book_of b.view) (book_of c.view) first.known second.known;
      knows = λ k d. elim (among_split k xs ys d) [
        | inl before ↦ prefix_trans (known_to k) (book_of b.view) (book_of c.view) (first.knows k before) second.known
        | inr later ↦ second.knows k later
      ];
    }
