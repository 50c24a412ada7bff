-- What is answered depends on the command alone.
use Rattle.std.proofs.Common.{◌≡◌, ℕ, ◌+◌, ◌≤◌, Bool, true, false, List, [], ◌∷◌, codes, inl, inr, refl, sym, ap, ◌∙◌, subst, arith, decimal}
use Rattle.std.specs.Prelude.{nat_lt, None}
use Rattle.std.proofs.lemmas.Fmt.{decimal_digit}
use Rattle.fut_base.specs.declared.event.Event.{Event}
use Rattle.command_words.specs.declared.options.Choice.{Choice}
use Rattle.command_words.specs.declared.options.Choice.TheVariants as choice
use Rattle.command_words.specs.declared.options.Kind.TheVariants as kind
use Rattle.command_words.specs.declared.words.Command.{Command}
use Rattle.command_words.specs.declared.words.Command.TheVariants as command
use Rattle.command_words.specs.Asking.{spellings, count, is_events, is_brief, is_workers, is_side, MayStand, EachMayStand, AreOptions, AreWordsOf, most_bytes}
use Rattle.command_words.proofs.Wording.{one_command}
use Rattle.fut_driver.specs.declared.status.Status.{Status}
use Rattle.fut_driver.specs.declared.status.Status.TheVariants as status
use Rattle.fut_driver.specs.Due.{syntax_text, type_text, not_legal_text, not_run_text}
use Rattle.fut_driver.specs.Given.{Asked, Asks}
use Rattle.fut_driver.specs.Laws.{with_words, CommandDecides, RunIsSerial}
use Rattle.fut_driver.specs.Verdict.{IsInput, GaveTooMuch, IsOfHistory, IsOfBytes, IsVerdict}

module _ (a : Asked) (may_run : Bool) (words : List (List ℕ)) where
  read_so : (c : Command) (bytes : List ℕ) → IsInput a c bytes → IsInput (with_words a may_run words) c bytes
  read_so c bytes r = record { short = r.short; taken = r.taken; quiet = r.quiet }

  gave_so : (most : ℕ) → GaveTooMuch a most → GaveTooMuch (with_words a may_run words) most
  gave_so most g = record { bytes = g.bytes; long = g.long; taken = g.taken; quiet = g.quiet }

  module _ (c : Command) (asks : Asks a c) (others : AreWordsOf may_run words c) where
    asks_so : (d : Command) → Asks a d → AreWordsOf may_run words d
    asks_so d x = subst (AreWordsOf may_run words) (one_command a.may_run a.words c d asks x) others

    history_so : (s : Status) (h : List Event) (text : List ℕ) → IsOfHistory a s h text → IsOfHistory (with_words a may_run words) s h text
    history_so s h text (inl v) = inl (record {
      command = v.command;
      words = asks_so v.command v.words;
      bound = v.bound;
      due = v.due;
      workers = v.workers;
      asked = v.asked;
      bytes = v.bytes;
      read = read_so v.command v.bytes v.read;
      tree = v.tree;
      program = v.program;
      races = v.races;
      end = v.end;
      cells = v.cells;
      ends = v.ends;
      is_due = v.is_due;
      replayed = v.replayed;
    })
    history_so s h text (inr v) = inr (record {
      words = asks_so command.Replay v.words;
      bytes = v.bytes;
      read = read_so command.Replay v.bytes v.read;
      tree = v.tree;
      races = v.races;
      end = v.end;
      good = v.good;
      says = v.says;
      is_due = v.is_due;
    })

    bytes_so : (d : Command) (h : List Event) (text due : List ℕ) (Holds : List ℕ → Type 0) → IsOfBytes a d h text due Holds
        → IsOfBytes (with_words a may_run words) d h text due Holds
    bytes_so d h text due Holds v = record {
      words = asks_so d v.words;
      no_run = v.no_run;
      is_due = v.is_due;
      bytes = v.bytes;
      read = read_so d v.bytes v.read;
      holds = v.holds;
    }

    verdict_so : (s : Status) (h : List Event) (text : List ℕ) → IsVerdict a s h text → IsVerdict (with_words a may_run words) s h text
    verdict_so status.Clean h text v = history_so status.Clean h text v
    verdict_so status.Raced h text v = history_so status.Raced h text v
    verdict_so (status.Spent end) h text v = history_so (status.Spent end) h text v
    verdict_so status.Accepted h text v = bytes_so command.Check h text text _ v
    verdict_so (status.Syntax line column) h text (d, v) = (d, bytes_so d h text (syntax_text line column) _ v)
    verdict_so (status.IllTyped rule line column) h text (d, v) = (d, bytes_so d h text (type_text rule line column) _ v)
    verdict_so (status.NotLegal entry) h text v = bytes_so command.Replay h text (not_legal_text entry) _ v
    verdict_so (status.NotRun byte) h text v = bytes_so command.Replay h text (not_run_text byte) _ v
    verdict_so status.TooLong h text ((d, x, reads, gave), none, due) = ((d, asks_so d x, reads, gave_so (most_bytes d) gave), none, due)
    verdict_so status.ReadFault h text ((d, x, reads), none, due, less, rose) = ((d, asks_so d x, reads), none, due, less, rose)
    verdict_so status.NoMemory h text v = v
    verdict_so status.Usage h text v = absurd (v.0 c asks)
    verdict_so status.WriteFault h text v = absurd v

pub command_decides : CommandDecides
command_decides a may_run words c s h text asks others v = verdict_so a may_run words c asks others s h text v

-- ---- `serial` with options, and `run` with one worker and them

-- no option is `--workers`
none_names : (cs : List Choice) → EachMayStand kind.Serial cs → count is_workers cs ≡ 0
none_names [] each = refl
none_names (choice.Events n ∷ cs) each = let none = none_names cs each.1 in omega (arith, none)
none_names (choice.Brief ∷ cs) each = let none = none_names cs each.1 in omega (arith, none)
none_names (choice.Workers n ∷ cs) each = absurd (let no : false ≡ true = each.0.0 in cc)
none_names (choice.Side n ∷ cs) each = absurd (let no : false ≡ true = each.0.0 in cc)

may_stand : (c : Choice) → MayStand kind.Serial c → MayStand kind.Run c
may_stand (choice.Events n) may = may
may_stand choice.Brief may = may
may_stand (choice.Workers n) may = absurd (let no : false ≡ true = may.0 in cc)
may_stand (choice.Side n) may = absurd (let no : false ≡ true = may.0 in cc)

each_may_stand : (cs : List Choice) → EachMayStand kind.Serial cs → EachMayStand kind.Run cs
each_may_stand [] each = tt
each_may_stand (c ∷ cs) each = (may_stand c each.0, each_may_stand cs each.1)

-- the word of one worker
one_is : codes "1" ≡ decimal 1
one_is = sym (decimal_digit 1 (omega arith))

none_more : (n : ℕ) → 0 + n ≡ n
none_more n = omega arith

run_options : (words : List (List ℕ)) (bound : ℕ) (brief : Bool) (workers : ℕ) → AreOptions kind.Serial words bound brief workers None
    → AreOptions kind.Run (codes "--workers" ∷ (codes "1" ∷ words)) bound brief 1 None
run_options words bound brief workers o =
    let none = none_names o.choices o.allowed in
    let events : 0 + count is_events o.choices ≤ 1 = omega (arith, o.once.events) in
    let briefs : 0 + count is_brief o.choices ≤ 1 = omega (arith, o.once.brief) in
    let sides : 0 + count is_side o.choices ≤ 1 = omega (arith, o.once.side) in
    record {
      choices = choice.Workers 1 ∷ o.choices;
      written = ap (λ ws. codes "--workers" ∷ (codes "1" ∷ ws)) o.written ∙ ap (λ d. codes "--workers" ∷ (d ∷ spellings o.choices)) one_is;
      allowed = ((refl, (omega arith, omega arith)), each_may_stand o.choices o.allowed);
      once = record { events = omega (arith, events); brief = omega (arith, briefs); workers = omega (arith, none); side = omega (arith, sides) };
      bound = o.bound;
      brief_is = o.brief_is ∙ ap (nat_lt 0) (sym (none_more (count is_brief o.choices)));
      workers_are = refl;
      side_is = o.side_is;
    }

pub run_is_serial : RunIsSerial
run_is_serial a options bound brief s h text is o =
    let c = command.Run bound brief 1 in
    let words = codes "run" ∷ (codes "--workers" ∷ (codes "1" ∷ options)) in
    let serial : Asks a c = inl (options, is, o) in
    let run : AreWordsOf true words c = inr (codes "--workers" ∷ (codes "1" ∷ options), refl, refl, run_options options bound brief 1 o) in
    (command_decides a true words c s h text serial run, command_decides (with_words a true words) a.may_run a.words c s h text run serial)
