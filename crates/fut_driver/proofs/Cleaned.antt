-- An answer without a race is that of a whole history without a race.
use Rattle.std.proofs.Common.{◌≡◌, ℕ, [], refl, sym, subst, inl, inr, List}
use Rattle.fut_base.specs.declared.event.Event.{Event}
use Rattle.fut_base.specs.declared.record.Race.{Race}
use Rattle.fut_base.specs.declared.record.Finish.{Finish}
use Rattle.fut_base.specs.declared.record.Finish.TheVariants as finish
use Rattle.fut_base.specs.Racing.{IsReport}
use Rattle.fut_syntax.specs.Trees as tree
use Rattle.task_machine.specs.Machine.{FinishHolds, IsWhole}
use Rattle.clean_laws.proofs.Clean.{clean_all, clean_runs_are_same}
use Rattle.command_words.specs.declared.words.Command.TheVariants as command
use Rattle.fut_driver.specs.Clean.{AnswersForAll, CleanAnswersForAll}
use Rattle.fut_driver.proofs.Inputs.{given_whole}

-- a whole history without a race answers for all
for_all : (P : tree.Program) (h : List Event) (races : List Race) (end : Finish) → FinishHolds P h end → end ≡ finish.Whole → IsReport h races → races ≡ []
    → AnswersForAll P h
for_all P h races end holds whole report none =
    let w : IsWhole P h = subst (FinishHolds P h) whole holds in
    let r : IsReport h [] = subst (IsReport h) none report in
    record {
      machine = w.0;
      leads = w.1;
      ended = w.2;
      longest = λ g n l. (clean_all P h g w.0 n w.1 w.2 r l).0;
      cells = λ g n l done. (clean_all P h g w.0 n w.1 w.2 r l).1 done;
      same = λ g n l done. clean_runs_are_same P h g w.0 n w.1 w.2 r l done;
    }

pub clean_answers_for_all : CleanAnswersForAll
clean_answers_for_all a h text (inl x) =
    let run = x.ends.0 in (
      x.tree,
      record {
        command = x.command;
        words = x.words;
        bytes = x.bytes;
        read = x.read;
        text = x.bytes;
        given = given_whole x.command x.bound x.due x.workers x.bytes x.asked;
        typed = x.program;
      },
      for_all x.tree h x.races x.end run.run.holds x.ends.1.0 run.report x.ends.1.1,
    )
clean_answers_for_all a h text (inr x) =
    let record_of = x.good.0 in
    let those = x.good.1.those in (
      x.tree,
      record {
        command = command.Replay;
        words = x.words;
        bytes = x.bytes;
        read = x.read;
        text = record_of.program;
        given = (h, x.races, x.end, record_of.record_is);
        typed = record_of.typed;
      },
      for_all x.tree h x.races x.end those.1 x.says.0 those.0 x.says.1,
    )
